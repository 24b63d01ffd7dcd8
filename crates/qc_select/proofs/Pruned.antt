-- A journal with prunes behind it.
use Rattle.std.proofs.Common.{◌≡◌, ℕ, ◌+◌, Bool, true, false, cond, List, [], ◌∷◌, ◌++◌, refl, sym, ap, ◌∙◌, true≢false, arith}
use Rattle.std.specs.Prelude.{Some, None, not}
use Rattle.std.specs.List.{list_all, list_any, filter, find}
use Rattle.std.proofs.lemmas.List.Sums.{sum_by-append, sum_by-cons}
use Rattle.std.proofs.lemmas.Bool.{and_parts}
use Rattle.std.proofs.lemmas.Option.{none-some}
use Rattle.qc_types.specs.declared.names.TableName.{TableName}
use Rattle.qc_sql.specs.Database.{Database, empty_database, apply, touches}
use Rattle.qc_model.specs.declared.events.Event.{Event}
use Rattle.qc_model.specs.declared.events.Event.TheVariants as event
use Rattle.qc_model.specs.Journal.{Journal, operations, database_after, present, touches_table, last_number, last_change}
use Rattle.qc_model.specs.Cache.{Entry, after_event, cache, entries_after, is_prune, is_run, is_start, is_entry}
use Rattle.qc_model.specs.Choice.{start_count}
use Rattle.qc_laws.proofs.history.Events.{database_append}

-- ---- one prune

no_operations : (e : Event) → is_prune e ≡ true → operations e ≡ []
no_operations (event.Prune n need largest) h = refl
no_operations (event.Commit who ops) h = absurd (true≢false (sym h))
no_operations e h = refl

no_start : (e : Event) → is_prune e ≡ true → is_run is_start e ≡ false
no_start (event.Run who how) h = absurd (true≢false (sym h))
no_start e h = refl

touches_none : (t : TableName) (e : Event) → is_prune e ≡ true → touches_table t e ≡ false
touches_none t e h = ap (list_any (touches t)) (no_operations e h)

-- ---- the database

database_stays : (d : Database) (q : Journal) → list_all is_prune q ≡ true → database_after d q ≡ d
database_stays d [] h = refl
database_stays d (e ∷ es) h =
    let parts = and_parts (is_prune e) (list_all is_prune es) h in
    database_stays (apply (operations e) d) es parts.1 ∙ ap (λ ops. apply ops d) (no_operations e parts.0)

pub present_stays : (J q : Journal) → list_all is_prune q ≡ true → present (J ++ q) ≡ present J
present_stays J q h = database_append empty_database J q ∙ database_stays (present J) q h

-- ---- changes of tables

number_stays : (test : Event → Bool) (found n : ℕ) (q : Journal) → ((e : Event) → is_prune e ≡ true → test e ≡ false) → list_all is_prune q ≡ true → last_number test found n q ≡ found
number_stays test found n [] none h = refl
number_stays test found n (e ∷ es) none h =
    let parts = and_parts (is_prune e) (list_all is_prune es) h in
    ap (λ b. last_number test (cond b n found) (n + 1) es) (none e parts.0) ∙ number_stays test found (n + 1) es none parts.1

last_stays : (test : Event → Bool) (found n : ℕ) (J q : Journal) → ((e : Event) → is_prune e ≡ true → test e ≡ false) → list_all is_prune q ≡ true → last_number test found n (J ++ q) ≡ last_number test found n J
last_stays test found n [] q none h = number_stays test found n q none h
last_stays test found n (x ∷ J) q none h = last_stays test (cond (test x) n found) (n + 1) J q none h

pub change_stays : (J q : Journal) (t : TableName) → list_all is_prune q ≡ true → last_change (J ++ q) t ≡ last_change J t
change_stays J q t h = last_stays (touches_table t) 0 1 J q (touches_none t) h

-- ---- starts

starts_none : (q : Journal) → list_all is_prune q ≡ true → start_count q ≡ 0
starts_none [] h = refl
starts_none (e ∷ es) h =
    let parts = and_parts (is_prune e) (list_all is_prune es) h in
    let c = sum_by-cons (λ y. cond (is_run is_start y) 1 0) e es in
    let one : ◌≡◌ {A = ℕ} (cond (is_run is_start e) 1 0) 0 = ap (λ b. cond b 1 0) (no_start e parts.0) in
    let rest = starts_none es parts.1 in
    omega (arith, c, one, rest)

pub starts_stay : (J q : Journal) → list_all is_prune q ≡ true → start_count (J ++ q) ≡ start_count J
starts_stay J q h =
    let c = sum_by-append (λ y. cond (is_run is_start y) 1 0) J q in
    let none = starts_none q h in
    omega (arith, c, none)

-- ---- entries

none_among : {A : Type 0} (p f : A → Bool) (xs : List A) → find p xs ≡ None → find p (filter f xs) ≡ None
none_among p f [] h = refl
none_among {A} p f (x ∷ xs) h = elim (p x) as (λ b. p x ≡ b → cond b (Some x) (find p xs) ≡ None → find p (filter f (x ∷ xs)) ≡ None) [
  | true ↦ λ e g. absurd (none-some x (sym g))
  | false ↦ λ e g. elim (f x) as (λ c. find p (cond c (x ∷ filter f xs) (filter f xs)) ≡ None) [
    | true ↦ ap (λ b. cond b (Some x) (find p (filter f xs))) e ∙ none_among p f xs g
    | false ↦ none_among p f xs g
  ]
] refl h

none_after : (p : Entry → Bool) (e : Event) (c : List Entry) → is_prune e ≡ true → find p c ≡ None → find p (after_event e c) ≡ None
none_after p (event.Prune n need largest) c h none = none_among p (λ entry. not (is_entry n entry)) c none
none_after p e c h none = absurd (true≢false (sym h))

none_later : (p : Entry → Bool) (c : List Entry) (q : Journal) → list_all is_prune q ≡ true → find p c ≡ None → find p (entries_after c q) ≡ None
none_later p c [] h none = none
none_later p c (e ∷ es) h none =
    let parts = and_parts (is_prune e) (list_all is_prune es) h in
    none_later p (after_event e c) es parts.1 (none_after p e c parts.0 none)

entries_append : (c : List Entry) (xs ys : Journal) → entries_after c (xs ++ ys) ≡ entries_after (entries_after c xs) ys
entries_append c [] ys = refl
entries_append c (x ∷ xs) ys = entries_append (after_event x c) xs ys

-- what isn't there isn't there behind the prunes
pub none_stays : (p : Entry → Bool) (J q : Journal) → list_all is_prune q ≡ true → find p (cache J) ≡ None → find p (cache (J ++ q)) ≡ None
none_stays p J q h none = ap (find p) (entries_append [] J q) ∙ none_later p (cache J) q h none
