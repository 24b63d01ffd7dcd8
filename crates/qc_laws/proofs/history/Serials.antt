-- No two entries of the cache have one serial.
use Rattle.std.proofs.Common.{◌≡◌, ◌≢◌, ℕ, ◌+◌, eqb, eq-eqb, ne_eqb, Bool, true, false, cond, List, [], ◌∷◌, ◌++◌, refl, sym, ap, subst, ◌∙◌, arith, append_assoc, append-nil, true≢false}
use Rattle.std.specs.Prelude.{not, ◌&&◌, ◌||◌, Option, Some, None, ◌==◌}
use Rattle.std.specs.List.{list_any, filter, AllByRecursion}
use Rattle.std.proofs.lemmas.List.Sums.{sum_by-append, sum_by-cons}
use Rattle.qc_types.specs.declared.options.Options.{Options}
use Rattle.qc_model.specs.declared.events.Event.{Event}
use Rattle.qc_model.specs.declared.events.Event.TheVariants as event
use Rattle.qc_model.specs.declared.events.How.TheVariants as how
use Rattle.qc_model.specs.Journal.{Journal}
use Rattle.qc_model.specs.Cache.{Entry, cache, entry_of, without, completed, moved, after_event, is_run, is_start}
use Rattle.qc_model.specs.Choice.{start_count}
use Rattle.qc_model.specs.Licence.{IsLicensed, IsLawful, IsLawfulAfter}
use Rattle.qc_laws.specs.history.Runs.{IsKept, are_distinct, serials}
use Rattle.qc_laws.proofs.history.Events.{cache_push, lawful_push}
use Rattle.qc_laws.proofs.history.Starts.{start_number}
use Rattle.qc_laws.proofs.history.Stays.{answers_stay}

pub both_true : (a b : Bool) → (a && b) ≡ true → (a ≡ true) × (b ≡ true)
both_true true b h = (refl, h)
both_true false b h = absurd (true≢false (sym h))

pub opposite : (b : Bool) → not b ≡ true → b ≡ false
opposite false h = refl
opposite true h = absurd (true≢false (sym h))

pub neither : (a b : Bool) → (a || b) ≡ false → (a ≡ false) × (b ≡ false)
neither false b h = (refl, h)
neither true b h = absurd (true≢false h)

none_filter : (p : Entry → Bool) (n : ℕ) (es : List Entry) → list_any (λ m. m == n) (serials es) ≡ false → list_any (λ m. m == n) (serials (filter p es)) ≡ false
none_filter p n [] h = refl
none_filter p n (e ∷ es) h =
    let parts = neither (e.serial == n) (list_any (λ m. m == n) (serials es)) h in
    elim (p e) as (λ b. list_any (λ m. m == n) (serials (cond b (e ∷ filter p es) (filter p es))) ≡ false) [
      | true ↦ ap (λ b. b || list_any (λ m. m == n) (serials (filter p es))) parts.0 ∙ none_filter p n es parts.1
      | false ↦ none_filter p n es parts.1
    ]

distinct_filter : (p : Entry → Bool) (es : List Entry) → are_distinct (serials es) ≡ true → are_distinct (serials (filter p es)) ≡ true
distinct_filter p [] h = refl
distinct_filter p (e ∷ es) h =
    let parts = both_true (not (list_any (λ m. m == e.serial) (serials es))) (are_distinct (serials es)) h in
    let rest = distinct_filter p es parts.1 in
    elim (p e) as (λ b. are_distinct (serials (cond b (e ∷ filter p es) (filter p es))) ≡ true) [
      | true ↦ (λ i. not (none_filter p e.serial es (opposite _ parts.0) i) && are_distinct (serials (filter p es))) ∙ rest
      | false ↦ rest
    ]

none_push : (n m : ℕ) (ns : List ℕ) → list_any (λ k. k == n) ns ≡ false → (m ≢ n) → list_any (λ k. k == n) (ns ++ m ∷ []) ≡ false
none_push n m [] h ne = ap (λ b. b || false) (ne_eqb m n ne)
none_push n m (k ∷ ns) h ne = let parts = neither (k == n) (list_any (λ k. k == n) ns) h in ap (λ b. b || list_any (λ k. k == n) (ns ++ m ∷ [])) parts.0 ∙ none_push n m ns parts.1 ne

pub distinct_push : (n : ℕ) (ns : List ℕ) → are_distinct ns ≡ true → list_any (λ m. m == n) ns ≡ false → are_distinct (ns ++ n ∷ []) ≡ true
distinct_push n [] h k = refl
distinct_push n (m ∷ ns) h k =
    let parts = both_true (not (list_any (λ i. i == m) ns)) (are_distinct ns) h in
    let apart = neither (m == n) (list_any (λ i. i == n) ns) k in
    let other : n ≢ m = λ z. true≢false (sym (eq-eqb m n (sym z)) ∙ apart.0) in
    (λ i. not (none_push m n ns (opposite _ parts.0) other i) && are_distinct (ns ++ n ∷ [])) ∙ distinct_push n ns parts.1 apart.1

serials_append : (xs ys : List Entry) → serials (xs ++ ys) ≡ serials xs ++ serials ys
serials_append [] ys = refl
serials_append (x ∷ xs) ys = ap (λ l. x.serial ∷ l) (serials_append xs ys)

pub none_without : (n : ℕ) (es : List Entry) → list_any (λ m. m == n) (serials (without n es)) ≡ false
none_without n [] = refl
none_without n (e ∷ es) = elim (eqb e.serial n) as (λ b. eqb e.serial n ≡ b → list_any (λ m. m == n) (serials (cond (not b) (e ∷ without n es) (without n es))) ≡ false) [
  | true ↦ λ k. none_without n es
  | false ↦ λ k. ap (λ b. b || list_any (λ m. m == n) (serials (without n es))) k ∙ none_without n es
] refl

moved_distinct : (f : Entry → Entry) (o : Option Entry) (es : List Entry) → ((x : Entry) → (f x).serial ≡ x.serial) → are_distinct (serials es) ≡ true → are_distinct (serials (moved f o es)) ≡ true
moved_distinct f None es same h = h
moved_distinct f (Some x) es same h =
    ap are_distinct (serials_append (without x.serial es) (f x ∷ []) ∙ ap (λ n. serials (without x.serial es) ++ n ∷ []) (same x))
    ∙ distinct_push x.serial (serials (without x.serial es)) (distinct_filter _ es h) (none_without x.serial es)

pub none_new : (o : Options) (j : Journal) (es : List Entry) → IsLawful o j → AllByRecursion (IsKept j) es → list_any (λ m. m == start_count j + 1) (serials es) ≡ false
none_new o j [] h k = refl
none_new o j (e ∷ es) h k =
    let s = k.0.start in
    let n = start_number o j e.serial s h in
    let split : start_count j ≡ start_count (s.earlier ++ event.Run s.who (how.Start e.serial s.key s.tables) ∷ s.later) = ap start_count s.split in
    let sum = sum_by-append (λ (x : Event). cond (is_run is_start x) 1 0) s.earlier (event.Run s.who (how.Start e.serial s.key s.tables) ∷ s.later) in
    let more = sum_by-cons (λ (x : Event). cond (is_run is_start x) 1 0) (event.Run s.who (how.Start e.serial s.key s.tables)) s.later in
    ap (λ b. b || list_any (λ m. m == start_count j + 1) (serials es)) (ne_eqb e.serial (start_count j + 1) (λ z. absurd (omega (arith, n, split, sum, more, z)))) ∙ none_new o j es h k.1

event_distinct : (o : Options) (j : Journal) (e : Event) → IsLawful o j → IsLicensed o j e → are_distinct (serials (cache j)) ≡ true → are_distinct (serials (after_event e (cache j))) ≡ true
event_distinct o j (event.Run who (how.Start n key tables)) h l d =
    let fresh : list_any (λ m. m == n) (serials (cache j)) ≡ false = subst (λ i. list_any (λ m. m == i) (serials (cache j)) ≡ false) (sym l.1.next) (none_new o j (cache j) h (answers_stay o j h)) in
    ap are_distinct (serials_append (cache j) _) ∙ distinct_push n (serials (cache j)) d fresh
event_distinct o j (event.Run who (how.Hit n)) h l d = moved_distinct (λ x. x) (entry_of n (cache j)) (cache j) (λ x. refl) d
event_distinct o j (event.Run who w) h l d = d
event_distinct o j (event.Commit who ops) h l d = distinct_filter _ (cache j) d
event_distinct o j (event.Reset who) h l d = refl
event_distinct o j (event.Flush who) h l d = d
event_distinct o j (event.Done n) h l d = moved_distinct completed (entry_of n (cache j)) (cache j) (λ x. refl) d
event_distinct o j (event.Gone n why) h l d = distinct_filter _ (cache j) d
event_distinct o j (event.Prune n need largest) h l d = distinct_filter _ (cache j) d

after_distinct : (o : Options) (a j : Journal) → IsLawful o a → are_distinct (serials (cache a)) ≡ true → IsLawfulAfter o a j → are_distinct (serials (cache (a ++ j))) ≡ true
after_distinct o a [] h d l = subst (λ z. are_distinct (serials (cache z)) ≡ true) (sym (append-nil a)) d
after_distinct o a (e ∷ j) h d l =
    let one : are_distinct (serials (cache (a ++ e ∷ []))) ≡ true = ap (λ z. are_distinct (serials z)) (cache_push a e) ∙ event_distinct o a e h l.0 d in
    subst (λ z. are_distinct (serials (cache z)) ≡ true) (append_assoc a (e ∷ []) j) (after_distinct o (a ++ e ∷ []) j (lawful_push o a e h l.0) one l.1)

pub serials_apart : (o : Options) (j : Journal) → IsLawful o j → are_distinct (serials (cache j)) ≡ true
serials_apart o j h = after_distinct o [] j tt refl h
