-- One more event.
use Rattle.std.proofs.Common.{◌≡◌, ◌⊎◌, inl, inr, ⊎_elim, ℕ, Bool, true, false, cond, List, [], ◌∷◌, ◌++◌, refl, sym, ap, subst, ◌∙◌, arith, append_assoc, append-nil, true≢false}
use Rattle.std.specs.Prelude.{Option, Some, None, ◌||◌, count_by, if◌then◌else◌}
use Rattle.std.specs.List.{list_any, AllByRecursion, filter, find}
use Rattle.std.proofs.lemmas.List.Sums.{sum_by-cons}
use Rattle.qc_types.specs.declared.options.Options.{Options}
use Rattle.qc_sql.specs.Database.{Database, empty_database, apply}
use Rattle.qc_model.specs.declared.events.Event.{Event}
use Rattle.qc_model.specs.Journal.{Journal, operations, database_after, present, is_by, last_of, last_event}
use Rattle.qc_model.specs.Cache.{Entry, after_event, entries_after, cache}
use Rattle.qc_model.specs.Licence.{IsLicensed, IsLawfulAfter, IsLawful}
use Rattle.qc_laws.specs.history.Runs.{Stands}

pub database_append : (d : Database) (xs ys : Journal) → database_after d (xs ++ ys) ≡ database_after (database_after d xs) ys
database_append d [] ys = refl
database_append d (x ∷ xs) ys = database_append (apply (operations x) d) xs ys

pub present_push : (j : Journal) (e : Event) → present (j ++ e ∷ []) ≡ apply (operations e) (present j)
present_push j e = database_append empty_database j (e ∷ [])

entries_append : (c : List Entry) (xs ys : Journal) → entries_after c (xs ++ ys) ≡ entries_after (entries_after c xs) ys
entries_append c [] ys = refl
entries_append c (x ∷ xs) ys = entries_append (after_event x c) xs ys

pub cache_push : (j : Journal) (e : Event) → cache (j ++ e ∷ []) ≡ after_event e (cache j)
cache_push j e = entries_append [] j (e ∷ [])

-- ---- lawful journals

lawful_append : (o : Options) (a xs ys : Journal) → IsLawfulAfter o a xs → IsLawfulAfter o (a ++ xs) ys → IsLawfulAfter o a (xs ++ ys)
lawful_append o a [] ys h k = subst (λ z. IsLawfulAfter o z ys) (append-nil a) k
lawful_append o a (x ∷ xs) ys h k = (h.0, lawful_append o (a ++ x ∷ []) xs ys h.1 (subst (λ z. IsLawfulAfter o z ys) (sym (append_assoc a (x ∷ []) xs)) k))

pub lawful_push : (o : Options) (j : Journal) (e : Event) → IsLawful o j → IsLicensed o j e → IsLawful o (j ++ e ∷ [])
lawful_push o j e h l = lawful_append o [] j (e ∷ []) h (l, tt)

pub lawful_prefix : (o : Options) (a xs ys : Journal) → IsLawfulAfter o a (xs ++ ys) → IsLawfulAfter o a xs
lawful_prefix o a [] ys h = tt
lawful_prefix o a (x ∷ xs) ys h = (h.0, lawful_prefix o (a ++ x ∷ []) xs ys h.1)

pub lawful_back : (o : Options) (a xs ys : Journal) → IsLawfulAfter o a (xs ++ ys) → IsLawfulAfter o (a ++ xs) ys
lawful_back o a [] ys h = subst (λ z. IsLawfulAfter o z ys) (sym (append-nil a)) h
lawful_back o a (x ∷ xs) ys h = subst (λ z. IsLawfulAfter o z ys) (append_assoc a (x ∷ []) xs) (lawful_back o (a ++ x ∷ []) xs ys h.1)

-- ---- a place in a list

module _ {A : Type 0} where
  -- two elements that pass stand at one place, where as many pass before them
  pub same_place : (p : A → Bool) (xs us ys vs : List A) (x u : A) → xs ++ x ∷ ys ≡ us ++ u ∷ vs → p x ≡ true → p u ≡ true → count_by p xs ≡ count_by p us → (xs ≡ us) × (x ≡ u)
  same_place p [] [] ys vs x u e px pu n = (refl, cc)
  same_place p [] (w ∷ us) ys vs x u e px pu n =
      let same : x ≡ w = cc in
      let c = sum_by-cons (λ y. cond (p y) 1 0) w us in
      let one : ◌≡◌ {A = ℕ} (cond (p w) 1 0) 1 = ap (λ b. cond b 1 0) (ap p (sym same) ∙ px) in
      absurd (omega (arith, c, one))
  same_place p (w ∷ xs) [] ys vs x u e px pu n =
      let same : w ≡ u = cc in
      let c = sum_by-cons (λ y. cond (p y) 1 0) w xs in
      let one : ◌≡◌ {A = ℕ} (cond (p w) 1 0) 1 = ap (λ b. cond b 1 0) (ap p same ∙ pu) in
      absurd (omega (arith, c, one))
  same_place p (w ∷ xs) (v ∷ us) ys vs x u e px pu n =
      let same : w ≡ v = cc in
      let rest : xs ++ x ∷ ys ≡ us ++ u ∷ vs = cc in
      let c = sum_by-cons (λ y. cond (p y) 1 0) w xs in
      let d = sum_by-cons (λ y. cond (p y) 1 0) v us in
      let one : ◌≡◌ {A = ℕ} (cond (p w) 1 0) (cond (p v) 1 0) = ap (λ y. cond (p y) 1 0) same in
      let more : count_by p xs ≡ count_by p us = omega (arith, c, d, one) in
      let r = same_place p xs us ys vs x u rest px pu more in
      (λ i. same i ∷ r.0 i, r.1)

  pub any_append : (p : A → Bool) (xs ys : List A) → list_any p xs ≡ true → list_any p (xs ++ ys) ≡ true
  any_append p [] ys h = absurd (true≢false (sym h))
  any_append p (x ∷ xs) ys h = elim (p x) as (λ b. (b || list_any p xs) ≡ true → (b || list_any p (xs ++ ys)) ≡ true) [
    | true ↦ λ k. refl
    | false ↦ λ k. any_append p xs ys k
  ] h

  pub any_here : (p : A → Bool) (xs : List A) (x : A) (ys : List A) → p x ≡ true → list_any p (xs ++ x ∷ ys) ≡ true
  any_here p [] x ys h = ap (λ b. b || list_any p ys) h
  any_here p (w ∷ xs) x ys h = elim (p w) as (λ b. (b || list_any p (xs ++ x ∷ ys)) ≡ true) [
    | true ↦ refl
    | false ↦ any_here p xs x ys h
  ]

  pub all_append : (P : A → Type 0) (xs ys : List A) → AllByRecursion P xs → AllByRecursion P ys → AllByRecursion P (xs ++ ys)
  all_append P [] ys h k = k
  all_append P (x ∷ xs) ys h k = (h.0, all_append P xs ys h.1 k)

  pub all_on : (P Q : A → Type 0) (xs : List A) → ((x : A) → P x → Q x) → AllByRecursion P xs → AllByRecursion Q xs
  all_on P Q [] f h = tt
  all_on P Q (x ∷ xs) f h = (f x h.0, all_on P Q xs f h.1)

  pub all_filter : (P Q : A → Type 0) (p : A → Bool) (xs : List A) → ((x : A) → p x ≡ true → P x → Q x) → AllByRecursion P xs → AllByRecursion Q (filter p xs)
  all_filter P Q p [] f h = tt
  all_filter P Q p (x ∷ xs) f h = elim (p x) as (λ b. p x ≡ b → AllByRecursion Q (cond b (x ∷ filter p xs) (filter p xs))) [
    | true ↦ λ e. (f x e h.0, all_filter P Q p xs f h.1)
    | false ↦ λ e. all_filter P Q p xs f h.1
  ] refl

  pub found_all : (P : A → Type 0) (p : A → Bool) (xs : List A) (x : A) → AllByRecursion P xs → find p xs ≡ Some x → P x × (p x ≡ true)
  found_all P p [] x h e = absurd cc
  found_all P p (y ∷ xs) x h e = elim (p y) as (λ b. p y ≡ b → cond b (Some y) (find p xs) ≡ Some x → P x × (p x ≡ true)) [
    | true ↦ λ k f. let same : y ≡ x = cc in subst (λ z. P z × (p z ≡ true)) same (h.0, k)
    | false ↦ λ k f. found_all P p xs x h.1 f
  ] refl e

-- ---- the last event of a session

last_in : (found : Option Event) (s : ℕ) (j : Journal) (e : Event) → last_of found s j ≡ Some e → (found ≡ Some e) ⊎ Stands j s e
last_in found s [] e h = inl h
last_in found s (x ∷ j) e h = ⊎_elim (by (is_by s x) refl) (λ t. inr (record { earlier = x ∷ t.earlier; later = t.later; split = ap (λ l. x ∷ l) t.split; own = t.own })) (last_in (if is_by s x then Some x else found) s j e h)
  where
    by : (b : Bool) → is_by s x ≡ b → cond b (Some x) found ≡ Some e → (found ≡ Some e) ⊎ Stands (x ∷ j) s e
    by false k f = inl f
    by true k f = let same : x ≡ e = cc in inr (record { earlier = []; later = j; split = ap (λ z. z ∷ j) same; own = subst (λ z. is_by s z ≡ true) same k })

pub last_stands : (j : Journal) (s : ℕ) (e : Event) → last_event j s ≡ Some e → Stands j s e
last_stands j s e h = ⊎_elim (λ k. absurd (none k)) (λ t. t) (last_in None s j e h)
  where
    none : ◌≡◌ {A = Option Event} None (Some e) → ⊥
    none k = absurd cc
