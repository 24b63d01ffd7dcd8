-- An entry that has left though its fill hasn't ended was overtaken.
use Rattle.std.proofs.Common.{◌≡◌, ◌≢◌, ℕ, zero, suc, ◌+◌, ◌-◌, ◌<◌, ◌≤◌, eqb, eq-eqb, eqb-true, ne_eqb, Bool, true, false, cond, List, [], ◌∷◌, ◌++◌, length, refl, sym, ap, subst, ◌∙◌, arith, true≢false, append_assoc, append-nil}
use Rattle.std.specs.Prelude.{not, ◌||◌, ◌==◌, Option, Some, None, IfSome, IsSomeAnd, find, slice_get}
use Rattle.std.specs.List.{list_any, filter}
use Rattle.std.proofs.lemmas.Option.{none-some, same_Some}
use Rattle.std.proofs.lemmas.List.Folds.{list_any-append}
use Rattle.qc_types.specs.declared.names.TableName.{TableName}
use Rattle.qc_types.specs.declared.options.Options.{Options}
use Rattle.qc_model.specs.declared.events.Who.{Who}
use Rattle.qc_model.specs.declared.events.Event.{Event}
use Rattle.qc_model.specs.declared.events.Event.TheVariants as event
use Rattle.qc_model.specs.declared.events.How.{How}
use Rattle.qc_model.specs.declared.events.How.TheVariants as how
use Rattle.qc_model.specs.Journal.{Journal, event_at, touches_table}
use Rattle.qc_model.specs.Cache.{Entry, cache, entry_of, is_entry, without, moved, completed, after_event, uses_touched}
use Rattle.qc_model.specs.Licence.{IsLicensed, IsLawful, IsLawfulAfter}
use Rattle.qc_laws.specs.history.Runs.{IsStarted, serials}
use Rattle.qc_laws.proofs.history.Events.{cache_push, lawful_prefix, lawful_back}
use Rattle.qc_laws.proofs.history.Serials.{neither, none_new}
use Rattle.qc_laws.proofs.history.Stays.{answers_stay, is_serial}
use Rattle.qc_laws.proofs.history.Starts.{starts_once}
use Rattle.qc_sound.specs.Ended.{ends_fill, is_ended}
use Rattle.qc_core.specs.OvertakenFill.{overtakes, is_start_of, IsStartedAt, WasOvertaken}

-- ---- finding

find_front : {A : Type 0} (p : A → Bool) (xs ys : List A) (y : A) → find p xs ≡ Some y → find p (xs ++ ys) ≡ Some y
find_front p [] ys y h = absurd (none-some y h)
find_front p (x ∷ xs) ys y h = elim (p x) as (λ b. cond b (Some x) (find p xs) ≡ Some y → cond b (Some x) (find p (xs ++ ys)) ≡ Some y) [
  | true ↦ λ f. f
  | false ↦ λ f. find_front p xs ys y f
] h

find_last : {A : Type 0} (p : A → Bool) (xs : List A) (y : A) → list_any p xs ≡ false → p y ≡ true → find p (xs ++ y ∷ []) ≡ Some y
find_last p [] y h is = ap (λ b. cond b (Some y) None) is
find_last p (x ∷ xs) y h is = let t = neither (p x) (list_any p xs) h in ap (λ b. cond b (Some x) (find p (xs ++ y ∷ []))) t.0 ∙ find_last p xs y t.1 is

find_kept : {A : Type 0} (p q : A → Bool) (xs : List A) (y : A) → find p xs ≡ Some y → q y ≡ true → find p (filter q xs) ≡ Some y
find_kept p q [] y h k = absurd (none-some y h)
find_kept p q (x ∷ xs) y h k = elim (p x) as (λ b. p x ≡ b → cond b (Some x) (find p xs) ≡ Some y → find p (cond (q x) (x ∷ filter q xs) (filter q xs)) ≡ Some y) [
  | true ↦ λ e f. let same = same_Some x y f in ap (λ b. find p (cond b (x ∷ filter q xs) (filter q xs))) (ap q same ∙ k) ∙ (ap (λ b. cond b (Some x) (find p (filter q xs))) e ∙ f)
  | false ↦ λ e f. elim (q x) as (λ b. find p (cond b (x ∷ filter q xs) (filter q xs)) ≡ Some y) [
    | true ↦ ap (λ b. cond b (Some x) (find p (filter q xs))) e ∙ find_kept p q xs y f k
    | false ↦ find_kept p q xs y f k
  ]
] refl h

find_passes : {A : Type 0} (p : A → Bool) (xs : List A) (y : A) → find p xs ≡ Some y → p y ≡ true
find_passes p [] y h = absurd (none-some y h)
find_passes p (x ∷ xs) y h = elim (p x) as (λ b. p x ≡ b → cond b (Some x) (find p xs) ≡ Some y → p y ≡ true) [
  | true ↦ λ e f. subst (λ z. p z ≡ true) (same_Some x y f) e
  | false ↦ λ e f. find_passes p xs y f
] refl h

any_map : (n : ℕ) (es : List Entry) → list_any (λ m. m == n) (serials es) ≡ list_any (is_entry n) es
any_map n [] = refl
any_map n (e ∷ es) = ap (λ b. (e.serial == n) || b) (any_map n es)

-- ---- the entry stays until it is overtaken

-- it is there, and isn't complete
pub record IsThere (n : ℕ) (tables : List TableName) (es : List Entry) : Type 0 where
  pub entry : Entry
  pub at : entry_of n es ≡ Some entry
  pub partial : entry.complete ≡ false
  pub named : entry.tables ≡ tables

-- another entry moves to the end
moved_else : (f : Entry → Entry) (n k : ℕ) (tables : List TableName) (es : List Entry) → k ≢ n → IsThere n tables es → IsThere n tables (moved f (entry_of k es) es)
moved_else f n k tables es ne t = by (entry_of k es) refl
  where
    by : (o : Option Entry) → entry_of k es ≡ o → IsThere n tables (moved f o es)
    by None e = t
    by (Some z) e =
        let serial : z.serial ≡ k = is_serial k z (find_passes (is_entry k) es z e) in
        let mine : t.entry.serial ≡ n = is_serial n t.entry (find_passes (is_entry n) es t.entry t.at) in
        let other : is_entry z.serial t.entry ≡ false = ne_eqb t.entry.serial z.serial (λ q. ne (sym serial ∙ (sym q ∙ mine))) in
        record {
          entry = t.entry;
          at = find_front (is_entry n) (without z.serial es) (f z ∷ []) t.entry (find_kept (is_entry n) (λ x. not (is_entry z.serial x)) es t.entry t.at (ap not other));
          partial = t.partial;
          named = t.named;
        }

gone_else : (n k : ℕ) (tables : List TableName) (es : List Entry) → k ≢ n → IsThere n tables es → IsThere n tables (without k es)
gone_else n k tables es ne t =
    let mine : t.entry.serial ≡ n = is_serial n t.entry (find_passes (is_entry n) es t.entry t.at) in
    let other : is_entry k t.entry ≡ false = ne_eqb t.entry.serial k (λ q. ne (sym q ∙ mine)) in
    record { entry = t.entry; at = find_kept (is_entry n) (λ x. not (is_entry k x)) es t.entry t.at (ap not other); partial = t.partial; named = t.named }

-- what is complete is another one
whole_else : (n k : ℕ) (tables : List TableName) (es : List Entry) → IsThere n tables es → IsSomeAnd (entry_of k es) (λ y. y.complete ≡ true) → k ≢ n
whole_else n k tables es t whole e =
    let at = subst (λ i. IsSomeAnd (entry_of i es) (λ y. y.complete ≡ true)) e whole in
    true≢false (sym (subst (λ o. IsSomeAnd o (λ (y : Entry). y.complete ≡ true)) t.at at) ∙ t.partial)

not_ended : (n k : ℕ) → eqb k n ≡ false → k ≢ n
not_ended n k h e = true≢false (sym (eq-eqb k n e) ∙ h)

stays_run : (o : Options) (a : Journal) (n : ℕ) (tables : List TableName) (who : Who) (h : How) → IsLicensed o a (event.Run who h) → IsThere n tables (cache a) → IsThere n tables (after_event (event.Run who h) (cache a))
stays_run o a n tables who (how.Start k key ts) l t = record { entry = t.entry; at = find_front (is_entry n) (cache a) _ t.entry t.at; partial = t.partial; named = t.named }
stays_run o a n tables who (how.Hit k) l t = moved_else (λ x. x) n k tables (cache a) (whole_else n k tables (cache a) t l.1) t
stays_run o a n tables who h l t = t

stays : (o : Options) (a : Journal) (n : ℕ) (tables : List TableName) (e : Event) → IsLicensed o a e → IsThere n tables (cache a) → ends_fill n e ≡ false → overtakes tables e ≡ false → IsThere n tables (after_event e (cache a))
stays o a n tables (event.Run who h) l t f g = stays_run o a n tables who h l t
stays o a n tables (event.Commit who ops) l t f g = record {
  entry = t.entry;
  at = find_kept (is_entry n) (λ x. not (uses_touched (event.Commit who ops) x)) (cache a) t.entry t.at (ap not (ap (λ ts. list_any (λ u. touches_table u (event.Commit who ops)) ts) t.named ∙ g));
  partial = t.partial;
  named = t.named;
}
stays o a n tables (event.Reset who) l t f g = absurd (true≢false g)
stays o a n tables (event.Flush who) l t f g = t
stays o a n tables (event.Done k) l t f g = moved_else completed n k tables (cache a) (not_ended n k f) t
stays o a n tables (event.Gone k why) l t f g = gone_else n k tables (cache a) (not_ended n k f) t
stays o a n tables (event.Prune k need largest) l t f g = gone_else n k tables (cache a) (whole_else n k tables (cache a) t l.whole) t

pub stays_all : (o : Options) (n : ℕ) (tables : List TableName) (a later : Journal) → IsLawfulAfter o a later → IsThere n tables (cache a) → list_any (ends_fill n) later ≡ false → list_any (overtakes tables) later ≡ false → IsThere n tables (cache (a ++ later))
stays_all o n tables a [] l t f g = subst (λ j. IsThere n tables (cache j)) (sym (append-nil a)) t
stays_all o n tables a (e ∷ later) l t f g =
    let fs = neither (ends_fill n e) (list_any (ends_fill n) later) f in
    let gs = neither (overtakes tables e) (list_any (overtakes tables) later) g in
    let one = subst (IsThere n tables) (sym (cache_push a e)) (stays o a n tables e l.0 t fs.0 gs.0) in
    subst (λ j. IsThere n tables (cache j)) (append_assoc a (e ∷ []) later) (stays_all o n tables (a ++ e ∷ []) later l.1 one fs.1 gs.1)

-- just after its start it is there
starts_there : (o : Options) (a : Journal) (n : ℕ) (who : Who) (key : List ℕ) (tables : List TableName) → IsLawful o a → IsLicensed o a (event.Run who (how.Start n key tables)) → IsThere n tables (cache (a ++ event.Run who (how.Start n key tables) ∷ []))
starts_there o a n who key tables h l =
    let e = event.Run who (how.Start n key tables) in
    let fresh = subst (λ i. list_any (λ m. m == i) (serials (cache a)) ≡ false) (sym l.1.next) (none_new o a (cache a) h (answers_stay o a h)) in
    let x : Entry = record { serial = n; key = key; tables = tables; complete = false } in
    subst (IsThere n tables) (sym (cache_push a e)) (record { entry = x; at = find_last (is_entry n) (cache a) x (sym (any_map n (cache a)) ∙ fresh) (eq-eqb n n refl); partial = refl; named = refl })

-- so it was overtaken
pub overtaken_later : (j : Journal) (n : ℕ) (w : WasOvertaken j n) → list_any (overtakes w.start.tables) w.start.later ≡ true
overtaken_later j n w =
    let s = w.start in
    let e = event.Run s.who (how.Start n s.key s.tables) in
    let all = subst (λ z. IsLawful w.options z) s.split w.lawful in
    let front = lawful_prefix w.options [] s.earlier (e ∷ s.later) all in
    let back = lawful_back w.options [] s.earlier (e ∷ s.later) all in
    let there = starts_there w.options s.earlier n s.who s.key s.tables front back.0 in
    let unended : list_any (ends_fill n) s.later ≡ false =
    (neither (ends_fill n e) (list_any (ends_fill n) s.later) (neither (list_any (ends_fill n) s.earlier) (list_any (ends_fill n) (e ∷ s.later)) (sym (list_any-append (ends_fill n) s.earlier (e ∷ s.later)) ∙ (ap (is_ended n) (sym s.split) ∙ w.filling))).1).1 in
    elim (list_any (overtakes s.tables) s.later) as (λ b. list_any (overtakes s.tables) s.later ≡ b → b ≡ true) [
      | true ↦ λ _. refl
      | false ↦ λ g.
          let still = stays_all w.options n s.tables (s.earlier ++ e ∷ []) s.later back.1 there unended g in
          let at = subst (λ z. entry_of n (cache z) ≡ Some still.entry) (append_assoc s.earlier (e ∷ []) s.later ∙ sym s.split) still.at in
          absurd (none-some still.entry (sym w.left ∙ at))
    ] refl

-- ---- places

get_behind : {A : Type 0} (xs : List A) (y : A) (ys : List A) (k : ℕ) → slice_get (xs ++ y ∷ ys) (length xs + 1 + k) ≡ slice_get ys k
get_behind [] y ys k = let e : length {A = ℕ} [] + 1 + k ≡ suc k = omega arith in ap (slice_get (y ∷ ys)) e
get_behind (x ∷ xs) y ys k = let e : length (x ∷ xs) + 1 + k ≡ suc (length xs + 1 + k) = omega arith in ap (slice_get (x ∷ (xs ++ y ∷ ys))) e ∙ get_behind xs y ys k

get_at : {A : Type 0} (xs : List A) (y : A) (ys : List A) → slice_get (xs ++ y ∷ ys) (length xs) ≡ Some y
get_at [] y ys = refl
get_at (x ∷ xs) y ys = get_at xs y ys

any_place : {A : Type 0} (p : A → Bool) (xs : List A) → list_any p xs ≡ true → (k : ℕ) × IsSomeAnd (slice_get xs k) (λ x. p x ≡ true)
any_place p [] h = absurd (true≢false (sym h))
any_place p (x ∷ xs) h = elim (p x) as (λ b. p x ≡ b → (b || list_any p xs) ≡ true → (k : ℕ) × IsSomeAnd (slice_get (x ∷ xs) k) (λ x. p x ≡ true)) [
  | true ↦ λ e _. (zero, e)
  | false ↦ λ e k. let t = any_place p xs k in (suc t.0, t.1)
] refl h

pub some_overtakes : (j : Journal) (n : ℕ) (w : WasOvertaken j n) → (by : ℕ) × (length w.start.earlier + 1 < by) × IsSomeAnd (event_at j by) (λ e. overtakes w.start.tables e ≡ true)
some_overtakes j n w =
    let s = w.start in
    let t = any_place (overtakes s.tables) s.later (overtaken_later j n w) in
    let place : length s.earlier + 1 + t.0 + 1 - 1 ≡ length s.earlier + 1 + t.0 = omega arith in
    let same : event_at j (length s.earlier + 1 + t.0 + 1) ≡ slice_get s.later t.0 =
    ap (slice_get j) place ∙ (ap (λ z. slice_get z (length s.earlier + 1 + t.0)) s.split ∙ get_behind s.earlier (event.Run s.who (how.Start n s.key s.tables)) s.later t.0) in
    (length s.earlier + 1 + t.0 + 1, omega arith, subst (λ o. IsSomeAnd o (λ e. overtakes s.tables e ≡ true)) (sym same) t.1)

-- the start that was found is the one that is meant
pub start_meant : (j : Journal) (n at : ℕ) (w : WasOvertaken j n) → (f : IsStartedAt j n at) → (f.0.tables ≡ w.start.tables) × (length w.start.earlier + 1 ≡ at)
start_meant j n at w f =
    let same = starts_once w.options j n f.0 w.start w.lawful in
    (same.3, ap (λ (l : Journal). length l + 1) (sym same.0) ∙ f.1)

-- an event that stands there splits the journal
pub split_at : {A : Type 0} (xs : List A) (k : ℕ) (x : A) → slice_get xs k ≡ Some x → (a : List A) × (b : List A) × (xs ≡ a ++ x ∷ b) × (length a ≡ k)
split_at [] k x h = absurd (none-some x h)
split_at (y ∷ xs) zero x h = ([], xs, ap (λ z. z ∷ xs) (same_Some y x h), refl)
split_at (y ∷ xs) (suc k) x h = let t = split_at xs k x h in (y ∷ t.0, t.1, ap (λ l. y ∷ l) t.2, omega (arith, t.3))

pub start_there : (j : Journal) (n : ℕ) (s : IsStarted j n) → event_at j (length s.earlier + 1) ≡ Some (event.Run s.who (how.Start n s.key s.tables))
start_there j n s =
    let place : length s.earlier + 1 - 1 ≡ length s.earlier = omega arith in
    ap (slice_get j) place ∙ (ap (λ z. slice_get z (length s.earlier)) s.split ∙ get_at s.earlier (event.Run s.who (how.Start n s.key s.tables)) s.later)

pub started_here : (j : Journal) (n k : ℕ) (e : Event) → 0 < k → event_at j k ≡ Some e → is_start_of n e ≡ true → IsStartedAt j n k
started_here j n k (event.Run who (how.Start m key tables)) low at is =
    let t = split_at j (k - 1) (event.Run who (how.Start m key tables)) at in
    let same = eqb-true m n is in
    (record { who = who; key = key; tables = tables; earlier = t.0; later = t.1; split = t.2 ∙ (λ i. t.0 ++ event.Run who (how.Start (same i) key tables) ∷ t.1) }, omega (arith, t.3, low))
started_here j n k (event.Run who (how.Hit m)) low at is = absurd (true≢false (sym is))
started_here j n k (event.Run who (how.Plain why)) low at is = absurd (true≢false (sym is))
started_here j n k (event.Run who how.Other) low at is = absurd (true≢false (sym is))
started_here j n k (event.Run who (how.Status totals)) low at is = absurd (true≢false (sym is))
started_here j n k (event.Run who (how.Conflict t key by)) low at is = absurd (true≢false (sym is))
started_here j n k (event.Commit who ops) low at is = absurd (true≢false (sym is))
started_here j n k (event.Done m) low at is = absurd (true≢false (sym is))
started_here j n k (event.Gone m why) low at is = absurd (true≢false (sym is))
started_here j n k (event.Prune m need largest) low at is = absurd (true≢false (sym is))
started_here j n k (event.Reset who) low at is = absurd (true≢false (sym is))
started_here j n k (event.Flush who) low at is = absurd (true≢false (sym is))

-- no place is past the last event
pub event_within : (j : Journal) (k : ℕ) (P : Event → Type 0) → 0 < k → IsSomeAnd (event_at j k) P → k ≤ length j
event_within j k P low h = omega (arith, low, inside j (k - 1) h)
  where
    inside : (xs : Journal) (i : ℕ) → IsSomeAnd (slice_get xs i) P → i < length xs
    inside [] i h = absurd h
    inside (x ∷ xs) zero h = omega arith
    inside (x ∷ xs) (suc i) h = omega (arith, inside xs i h)

-- one place more, counted from the end
pub more_behind : (P : ℕ → Type 0) (count back : ℕ) → back < count → ((k : ℕ) → count - back < k → k ≤ count → P k) → P (count - back) → (k : ℕ) → count - (back + 1) < k → k ≤ count → P k
more_behind P count back low h here k less high = elim (eqb k (count - back)) as (λ b. eqb k (count - back) ≡ b → P k) [
  | true ↦ λ e. subst P (sym (eqb-true k (count - back) e)) here
  | false ↦ λ e. let ne : k ≢ count - back = λ z. true≢false (sym (eq-eqb k (count - back) z) ∙ e) in h k (omega (arith, less, ne)) high
] refl

-- one place more, counted from the front
pub more_ahead : (P : ℕ → Type 0) (after number : ℕ) → ((k : ℕ) → after < k → k ≤ number → P k) → P (number + 1) → (k : ℕ) → after < k → k ≤ number + 1 → P k
more_ahead P after number h here k low high = elim (eqb k (number + 1)) as (λ b. eqb k (number + 1) ≡ b → P k) [
  | true ↦ λ e. subst P (sym (eqb-true k (number + 1) e)) here
  | false ↦ λ e. let ne : k ≢ number + 1 = λ z. true≢false (sym (eq-eqb k (number + 1) z) ∙ e) in h k low (omega (arith, high, ne))
] refl

pub no_start : (j : Journal) (n : ℕ) (s : IsStarted j n) → ((k : ℕ) → 0 < k → k ≤ length j → IfSome (event_at j k) (λ e. is_start_of n e ≡ false)) → ⊥
no_start j n s h =
    let place = length s.earlier + 1 in
    let there = start_there j n s in
    let within : place ≤ length j = event_within j place (λ e. Unit {0}) (omega arith) (subst (λ o. IsSomeAnd o (λ e. Unit {0})) (sym there) tt) in
    let off = subst (λ o. IfSome o (λ e. is_start_of n e ≡ false)) there (h place (omega arith) within) in
    true≢false (sym (eq-eqb n n refl) ∙ off)

pub some_clash : (o : Option Event) (p : Event → Bool) → IsSomeAnd o (λ e. p e ≡ true) → IfSome o (λ e. p e ≡ false) → ⊥
some_clash None p h k = h
some_clash (Some e) p h k = true≢false (sym h ∙ k)
