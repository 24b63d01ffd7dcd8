-- Sums over lists whose members have partners, and the starts of a journal.
use Rattle.std.proofs.Common.{◌≡◌, ◌≢◌, ◌⊎◌, inl, inr, ⊎_elim, ℕ, suc, ◌+◌, ◌≤◌, eqb, eq-eqb, eqb-true, ne_eqb, Bool, true, false, cond, List, [], ◌∷◌, ◌++◌, map, length, refl, sym, ap, subst, ◌∙◌, arith, true≢false}
use Rattle.std.specs.Prelude.{not, ◌&&◌, ◌||◌, Option, Some, None, IsSomeAnd, is_some, ◌==◌, if◌then◌else◌, bytes_eq}
use Rattle.std.specs.List.{list_any, filter, find, cons_option, AllByRecursion}
use Rattle.std.proofs.lemmas.Slice.Eq.{bytes_eq-Decides}
use Rattle.qc_types.specs.declared.names.TableName.{TableName}
use Rattle.qc_sql.specs.Database.{same_table}
use Rattle.qc_model.specs.declared.events.Who.{Who}
use Rattle.qc_model.specs.declared.events.Event.{Event}
use Rattle.qc_model.specs.declared.events.Event.TheVariants as event
use Rattle.qc_model.specs.declared.events.How.TheVariants as how
use Rattle.qc_model.specs.Journal.{Journal, is_by, last_of, decider, is_of_session}
use Rattle.qc_model.specs.Licence.{Started, start_of_event, starts_from, last_named, is_last}
use Rattle.qc_sql.specs.Words.{is_among}
use Rattle.qc_laws.specs.history.Runs.{IsStarted, are_distinct}
use Rattle.qc_laws.proofs.history.Stays.{same_is}
use Rattle.qc_laws.proofs.history.Serials.{both_true, opposite, neither}
use Rattle.qc_sound.specs.parts.Memory.{are_once}

abbrev pub total : {A : Type 0} → (A → ℕ) → List A → ℕ
total f [] = 0
total f (x ∷ xs) = f x + total f xs

-- ---- each has a partner of its own

module _ {A B : Type 0} (ka : A → ℕ) (kb : B → ℕ) where
  abbrev without_first : ℕ → List B → List B
  without_first n [] = []
  without_first n (h ∷ hs) = cond (eqb (kb h) n) hs (h ∷ without_first n hs)

  total_without : (g : B → ℕ) (n : ℕ) (hs : List B) (h : B) → find (λ x. kb x == n) hs ≡ Some h → total g hs ≡ g h + total g (without_first n hs)
  total_without g n [] h e = absurd cc
  total_without g n (x ∷ hs) h e = elim (eqb (kb x) n) as (λ b. cond b (Some x) (find (λ x. kb x == n) hs) ≡ Some h → total g (x ∷ hs) ≡ g h + total g (cond b hs (x ∷ without_first n hs))) [
    | true ↦ λ f. let same : x ≡ h = cc in ap (λ y. g y + total g hs) same
    | false ↦ λ f. let more = total_without g n hs h f in omega (arith, more)
  ] e

  find_without : (n m : ℕ) (hs : List B) → m ≢ n → find (λ x. kb x == m) (without_first n hs) ≡ find (λ x. kb x == m) hs
  find_without n m [] ne = refl
  find_without n m (x ∷ hs) ne = elim (eqb (kb x) n) as (λ b. eqb (kb x) n ≡ b → find (λ x. kb x == m) (cond b hs (x ∷ without_first n hs)) ≡ find (λ x. kb x == m) (x ∷ hs)) [
    | true ↦ λ e. sym (ap (λ b. cond b (Some x) (find (λ x. kb x == m) hs)) (ne_eqb (kb x) m (λ z. ne (sym z ∙ eqb-true (kb x) n e))))
    | false ↦ λ e. ap (cond (eqb (kb x) m) (Some x)) (find_without n m hs ne)
  ] refl

  abbrev Partner : (A → ℕ) → (B → ℕ) → List B → A → Type 0
  Partner f g hs c = IsSomeAnd (find (λ x. kb x == ka c) hs) (λ h. f c ≤ g h)

  partners_left : (f : A → ℕ) (g : B → ℕ) (n : ℕ) (hs : List B) (cs : List A) → list_any (λ m. m == n) (map ka cs) ≡ false → AllByRecursion (Partner f g hs) cs → AllByRecursion (Partner f g (without_first n hs)) cs
  partners_left f g n hs [] none h = tt
  partners_left f g n hs (c ∷ cs) none h =
      let parts = neither (eqb (ka c) n) (list_any (λ m. m == n) (map ka cs)) none in
      (subst (λ z. IsSomeAnd z (λ h. f c ≤ g h)) (sym (find_without n (ka c) hs (λ z. true≢false (sym (eq-eqb (ka c) n z) ∙ parts.0)))) h.0, partners_left f g n hs cs parts.1 h.1)

  pub matched : (f : A → ℕ) (g : B → ℕ) (cs : List A) (hs : List B) → are_distinct (map ka cs) ≡ true → AllByRecursion (Partner f g hs) cs → total f cs ≤ total g hs
  matched f g [] hs apart h = omega arith
  matched f g (c ∷ cs) hs apart h =
      let parts = both_true (not (list_any (λ m. m == ka c) (map ka cs))) (are_distinct (map ka cs)) apart in
      let more = matched f g cs (without_first (ka c) hs) parts.1 (partners_left f g (ka c) hs cs (opposite _ parts.0) h.1) in
      elim (find (λ x. kb x == ka c) hs) as (λ o. find (λ x. kb x == ka c) hs ≡ o → IsSomeAnd o (λ h. f c ≤ g h) → total f (c ∷ cs) ≤ total g hs) [
        | None ↦ λ e k. absurd k
        | Some p ↦ λ e k. omega (arith, total_without g (ka c) hs p e, more, k)
      ] refl h.0

-- ---- tables

self_same : (t : TableName) → same_table t t ≡ true
self_same t = both ((bytes_eq-Decides t.db t.db).1 refl) ((bytes_eq-Decides t.name t.name).1 refl)
  where
    both : bytes_eq t.db t.db ≡ true → bytes_eq t.name t.name ≡ true → (bytes_eq t.db t.db && bytes_eq t.name t.name) ≡ true
    both a b = ap (λ x. x && bytes_eq t.name t.name) a ∙ b

pub same_self : (t : TableName) → same_table t t ≡ true
same_self = self_same

abbrev dropped : TableName → List TableName → List TableName
dropped t [] = []
dropped t (u ∷ us) = cond (same_table t u) us (u ∷ dropped t us)

length_dropped : (t : TableName) (us : List TableName) → list_any (same_table t) us ≡ true → length us ≡ suc (length (dropped t us))
length_dropped t [] h = absurd (true≢false (sym h))
length_dropped t (u ∷ us) h = elim (same_table t u) as (λ b. (b || list_any (same_table t) us) ≡ true → length (u ∷ us) ≡ suc (length (cond b us (u ∷ dropped t us)))) [
  | true ↦ λ k. refl
  | false ↦ λ k. ap suc (length_dropped t us k)
] h

any_dropped : (t v : TableName) (us : List TableName) → same_table t v ≡ false → list_any (same_table v) us ≡ true → list_any (same_table v) (dropped t us) ≡ true
any_dropped t v [] ne h = h
any_dropped t v (u ∷ us) ne h = elim (same_table t u) as (λ b. same_table t u ≡ b → list_any (same_table v) (cond b us (u ∷ dropped t us)) ≡ true) [
  | true ↦ λ e. other (same_table v u) (list_any (same_table v) us) (λ z. true≢false (sym (subst (λ x. same_table t x ≡ true) (sym (same_is v u z)) e) ∙ ne)) h
  | false ↦ λ e. elim (same_table v u) as (λ b. (b || list_any (same_table v) us) ≡ true → (b || list_any (same_table v) (dropped t us)) ≡ true) [
    | true ↦ λ k. refl
    | false ↦ λ k. any_dropped t v us ne k
  ] h
] refl
  where
    other : (a b : Bool) → (a ≡ true → ⊥) → (a || b) ≡ true → b ≡ true
    other true b never k = absurd (never refl)
    other false b never k = k

all_dropped : (t : TableName) (ts us : List TableName) → list_any (same_table t) ts ≡ false → AllByRecursion (λ v. list_any (same_table v) us ≡ true) ts → AllByRecursion (λ v. list_any (same_table v) (dropped t us) ≡ true) ts
all_dropped t [] us none h = tt
all_dropped t (v ∷ ts) us none h = let parts = neither (same_table t v) (list_any (same_table t) ts) none in (any_dropped t v us parts.0 h.0, all_dropped t ts us parts.1 h.1)

-- tables of which none stands twice, all among others
pub fewer_tables : (ts us : List TableName) → are_once ts ≡ true → AllByRecursion (λ t. list_any (same_table t) us ≡ true) ts → length ts ≤ length us
fewer_tables [] us once h = omega arith
fewer_tables (t ∷ ts) us once h =
    let parts = both_true (not (list_any (same_table t) ts)) (are_once ts) once in
    let more = fewer_tables ts (dropped t us) parts.1 (all_dropped t ts us (opposite _ parts.0) h.1) in
    omega (arith, more, length_dropped t us h.0)

-- ---- starts

-- the start that is found, and its number
pub record FoundStart (k n : ℕ) (j : Journal) (h : Started) : Type 0 where
  pub start : IsStarted j n
  pub number : h.0 ≡ k + length start.earlier
  pub key : h.1.key ≡ start.key
  pub tables : h.1.tables ≡ start.tables

abbrev pub with_serial : ℕ → Started → Bool
with_serial n h = h.1.serial == n

found_later : (k n : ℕ) (x : Event) (j : Journal) (h : Started) → FoundStart (k + 1) n j h → FoundStart k n (x ∷ j) h
found_later k n x j h f = record {
  start = record { who = f.start.who; key = f.start.key; tables = f.start.tables; earlier = x ∷ f.start.earlier; later = f.start.later; split = ap (λ l. x ∷ l) f.start.split };
  number = let e = f.number in omega (arith, e);
  key = f.key;
  tables = f.tables;
}

found_here : (k n m : ℕ) (who : Who) (key : List ℕ) (tables : List TableName) (j : Journal) (h : Started) → eqb m n ≡ true → (k, record { serial = m; key = key; tables = tables; complete = false }) ≡ h → FoundStart k n (event.Run who (how.Start m key tables) ∷ j) h
found_here k n m who key tables j h e is = record {
  start = record { who = who; key = key; tables = tables; earlier = []; later = j; split = ap (λ i. event.Run who (how.Start i key tables) ∷ j) (eqb-true m n e) };
  number = let z : h.0 ≡ k = ap (λ x. x.0) (sym is) in omega (arith, z);
  key = ap (λ x. x.1.key) (sym is);
  tables = ap (λ x. x.1.tables) (sym is);
}

pub starts_find : (k n : ℕ) (j : Journal) (h : Started) → find (with_serial n) (starts_from k j) ≡ Some h → FoundStart k n j h
starts_find k n [] h e = absurd cc
starts_find k n (event.Run who (how.Start m key tables) ∷ j) h e =
    elim (eqb m n) as (λ b. eqb m n ≡ b → cond b (Some (k, record { serial = m; key = key; tables = tables; complete = false })) (find (with_serial n) (starts_from (k + 1) j)) ≡ Some h → FoundStart k n (event.Run who (how.Start m key tables) ∷ j) h) [
      | true ↦ λ p f. found_here k n m who key tables j h p (some_is _ h f)
      | false ↦ λ p f. found_later k n _ j h (starts_find (k + 1) n j h f)
    ] refl e
  where
    some_is : (a b : Started) → Some a ≡ Some b → a ≡ b
    some_is a b e = cc
starts_find k n (x ∷ j) h e = found_later k n x j h (starts_find (k + 1) n j h e)

pub starts_has : (k n : ℕ) (who : Who) (key : List ℕ) (tables : List TableName) (earlier later : Journal) → is_some (find (with_serial n) (starts_from k (earlier ++ event.Run who (how.Start n key tables) ∷ later))) ≡ true
starts_has k n who key tables [] later = ap (λ b. is_some (cond b (Some (k, record { serial = n; key = key; tables = tables; complete = false })) (find (with_serial n) (starts_from (k + 1) later)))) (eq-eqb n n refl)
starts_has k n who key tables (x ∷ earlier) later =
    let more = starts_has (k + 1) n who key tables earlier later in
    elim (start_of_event k x) as (λ o. is_some (find (with_serial n) (cons_option o (starts_from (k + 1) (earlier ++ event.Run who (how.Start n key tables) ∷ later)))) ≡ true) [
      | None ↦ more
      | Some h ↦ either_some (with_serial n h) h _ more
    ]
  where
    either_some : (b : Bool) (h : Started) (o : Option Started) → is_some o ≡ true → is_some (cond b (Some h) o) ≡ true
    either_some true h o k = refl
    either_some false h o k = k

pub find_filter : (q : ℕ → Bool) (n : ℕ) (hs : List Started) → q n ≡ true → find (with_serial n) (filter (λ h. q h.1.serial) hs) ≡ find (with_serial n) hs
find_filter q n [] e = refl
find_filter q n (h ∷ hs) e =
    let more = find_filter q n hs e in
    elim (with_serial n h) as (λ b. with_serial n h ≡ b → find (with_serial n) (filter (λ h. q h.1.serial) (h ∷ hs)) ≡ cond b (Some h) (find (with_serial n) hs)) [
      | true ↦ λ p. rw (ap q (eqb-true h.1.serial n p) ∙ e) (ap (λ b. cond b (Some h) (find (with_serial n) (filter (λ h. q h.1.serial) hs))) p)
      | false ↦ λ p. elim (q h.1.serial) as (λ b. find (with_serial n) (cond b (h ∷ filter (λ h. q h.1.serial) hs) (filter (λ h. q h.1.serial) hs)) ≡ find (with_serial n) hs) [
        | true ↦ ap (λ b. cond b (Some h) (find (with_serial n) (filter (λ h. q h.1.serial) hs))) p ∙ more
        | false ↦ more
      ]
    ] refl

-- ---- what the last events name

by_same : (s t : ℕ) (e : Event) → is_by s e ≡ true → (o : Option Who) → decider e ≡ o → IsSomeAnd o (λ w. w.session ≡ s)
by_same s t e h None is = absurd (true≢false (sym h ∙ ap (is_of_session s) is))
by_same s t e h (Some w) is = eqb-true w.session s (sym (ap (is_of_session s) is) ∙ h)

last_one : (s : ℕ) (x : Event) (j : Journal) (o : Option Who) → decider x ≡ o → IsSomeAnd o (λ w. w.session ≡ s) → list_any (is_by s) j ≡ false → is_last o j ≡ true
last_one s x j None is h none = absurd h
last_one s x j (Some w) is h none = ap not (ap (λ n. list_any (is_by n) j) h ∙ none)

among_more : (n : ℕ) (o : Option ℕ) (ns : List ℕ) → is_among ns n ≡ true → is_among (cons_option o ns) n ≡ true
among_more n None ns h = h
among_more n (Some m) ns h = by (eqb m n) h
  where
    by : (b : Bool) → is_among ns n ≡ true → (b || is_among ns n) ≡ true
    by true k = refl
    by false k = k

last_found : (f : Event → Option ℕ) (found : Option Event) (s n : ℕ) (j : Journal) (e : Event) → f e ≡ Some n → last_of found s j ≡ Some e
    → ((list_any (is_by s) j ≡ false) × (found ≡ Some e)) ⊎ (is_among (last_named f j) n ≡ true)
last_found f found s n [] e fe h = inl (refl, h)
last_found f found s n (x ∷ j) e fe h = ⊎_elim
    (λ (t : (list_any (is_by s) j ≡ false) × ((if is_by s x then Some x else found) ≡ Some e)).
    elim (is_by s x) as (λ b. is_by s x ≡ b → cond b (Some x) found ≡ Some e → ((b || list_any (is_by s) j) ≡ false) × (found ≡ Some e) ⊎ (is_among (last_named f (x ∷ j)) n ≡ true)) [
      | true ↦ λ p k.
          let same : x ≡ e = some_is x e k in
          let last : is_last (decider x) j ≡ true = last_one s x j (decider x) refl (by_same s s x p (decider x) refl) t.0 in
          inr (ap (λ b. is_among (cond b (cons_option (f x) (last_named f j)) (last_named f j)) n) last ∙ (ap (λ o. is_among (cons_option o (last_named f j)) n) (ap f same ∙ fe) ∙ ap (λ b. b || is_among (last_named f j) n) (eq-eqb n n refl)))
      | false ↦ λ p k. inl (t.0, k)
    ] refl t.1)
    (λ (t : is_among (last_named f j) n ≡ true). inr (elim (is_last (decider x) j) as (λ b. is_among (cond b (cons_option (f x) (last_named f j)) (last_named f j)) n ≡ true) [
      | true ↦ among_more n (f x) (last_named f j) t
      | false ↦ t
    ]))
    (last_found f (if is_by s x then Some x else found) s n j e fe h)
  where
    some_is : (a b : Event) → Some a ≡ Some b → a ≡ b
    some_is a b k = cc

pub named_last : (f : Event → Option ℕ) (s n : ℕ) (j : Journal) (e : Event) → f e ≡ Some n → last_of None s j ≡ Some e → is_among (last_named f j) n ≡ true
named_last f s n j e fe h = ⊎_elim (λ (t : (list_any (is_by s) j ≡ false) × (◌≡◌ {A = Option Event} None (Some e))). absurd (none t.1)) (λ (t : is_among (last_named f j) n ≡ true). t) (last_found f None s n j e fe h)
  where
    none : ◌≡◌ {A = Option Event} None (Some e) → ⊥
    none k = absurd cc
