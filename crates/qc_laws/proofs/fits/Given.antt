-- Steps that may be refused: what they give has a property, where they aren't.
use Rattle.std.proofs.Common.{◌≡◌, Bool, true, false, cond, List, [], ◌∷◌, map, refl, sym, ap, ◌∙◌, subst, Option, Some, None, Result, Ok, Err}
use Rattle.std.specs.Prelude.{find, filter}
use Rattle.std.specs.List.{list_all, list_any, AllByRecursion}
use Rattle.std.proofs.lemmas.Bool.{and_parts, and_from, or_parts}
use Rattle.qc_types.specs.declared.sql_error.SqlError.{SqlError}
use Rattle.qc_sql.specs.Database.{Name}
use Rattle.qc_sql.specs.Rows.{◌>>=◌, each, refuse_if, refuse_some}

-- ---- lists

pub each_from_test : {A : Type 0} (t : A → Bool) (xs : List A) → list_all t xs ≡ true → AllByRecursion (λ x. t x ≡ true) xs
each_from_test t [] h = tt
each_from_test t (x ∷ xs) h = let parts = and_parts (t x) (list_all t xs) h in (parts.0, each_from_test t xs parts.1)

pub test_from_each : {A : Type 0} (t : A → Bool) (xs : List A) → AllByRecursion (λ x. t x ≡ true) xs → list_all t xs ≡ true
test_from_each t [] h = refl
test_from_each t (x ∷ xs) h = and_from (t x) (list_all t xs) h.0 (test_from_each t xs h.1)

pub none_from_any : {A : Type 0} (t : A → Bool) (xs : List A) → list_any t xs ≡ false → AllByRecursion (λ x. t x ≡ false) xs
none_from_any t [] h = tt
none_from_any t (x ∷ xs) h = let parts = or_parts (t x) (list_any t xs) h in (parts.0, none_from_any t xs parts.1)

pub each_weaker : {A : Type 0} (P Q : A → Type 0) → ((x : A) → P x → Q x) → (xs : List A) → AllByRecursion P xs → AllByRecursion Q xs
each_weaker P Q k [] h = tt
each_weaker P Q k (x ∷ xs) h = (k x h.0, each_weaker P Q k xs h.1)

pub each_both : {A : Type 0} (P Q : A → Type 0) (xs : List A) → AllByRecursion P xs → AllByRecursion Q xs → AllByRecursion (λ x. P x × Q x) xs
each_both P Q [] h g = tt
each_both P Q (x ∷ xs) h g = ((h.0, g.0), each_both P Q xs h.1 g.1)

pub each_mapped : {A B : Type 0} (P : A → Type 0) (Q : B → Type 0) (f : A → B) → ((x : A) → P x → Q (f x)) → (xs : List A) → AllByRecursion P xs → AllByRecursion Q (map f xs)
each_mapped P Q f k [] h = tt
each_mapped P Q f k (x ∷ xs) h = (k x h.0, each_mapped P Q f k xs h.1)

pub each_of : {A : Type 0} (P : A → Type 0) → ((x : A) → P x) → (xs : List A) → AllByRecursion P xs
each_of P k [] = tt
each_of P k (x ∷ xs) = (k x, each_of P k xs)

module _ {A : Type 0} (P : A → Type 0) where
  each_chosen : (b : Bool) (x : A) (xs : List A) → P x → AllByRecursion P xs → AllByRecursion P (cond b (x ∷ xs) xs)
  each_chosen true x xs h g = (h, g)
  each_chosen false x xs h g = g

  pub each_filtered : (t : A → Bool) (xs : List A) → AllByRecursion P xs → AllByRecursion P (filter t xs)
  each_filtered t [] h = tt
  each_filtered t (x ∷ xs) h = each_chosen (t x) x (filter t xs) h.0 (each_filtered t xs h.1)

-- the one that is found passes
pub found_passes : {A : Type 0} (t : A → Bool) (xs : List A) (x : A) → find t xs ≡ Some x → t x ≡ true
found_passes t [] x h = absurd cc
found_passes {A = A} t (y ∷ ys) x h =
    elim (t y) as (λ b. t y ≡ b → t x ≡ true) [
      | true ↦ λ p. let same : y ≡ x = one y x (sym (ap (λ b. cond b (Some y) (find t ys)) p) ∙ h) in subst (λ z. t z ≡ true) same p
      | false ↦ λ p. found_passes t ys x (sym (ap (λ b. cond b (Some y) (find t ys)) p) ∙ h)
    ] refl
  where
    one : (y z : A) → Some y ≡ Some z → y ≡ z
    one y z q = cc

-- where none is found, none passes
pub none_found : {A : Type 0} (t : A → Bool) (xs : List A) → find t xs ≡ None → AllByRecursion (λ x. t x ≡ false) xs
none_found t [] h = tt
none_found {A = A} t (y ∷ ys) h =
    elim (t y) as (λ b. t y ≡ b → AllByRecursion (λ x. t x ≡ false) (y ∷ ys)) [
      | true ↦ λ p. absurd (some y (sym (ap (λ b. cond b (Some y) (find t ys)) p) ∙ h))
      | false ↦ λ p. (p, none_found t ys (sym (ap (λ b. cond b (Some y) (find t ys)) p) ∙ h))
    ] refl
  where
    some : (y : A) → ◌≡◌ {A = Option A} (Some y) None → ⊥
    some y q = cc

-- ---- the steps

abbrev pub Gives : {A : Type 0} → (A → Type 0) → Result A SqlError → Type 0
Gives P (Ok x) = P x
Gives P (Err e) = Unit {0}

pub record Given {A : Type 0} (P : A → Type 0) (r : Result A SqlError) : Type 0 where
  pub is : Gives P r

abbrev pub Anything : {A : Type 0} → A → Type 0
Anything x = Unit {0}

pub gives : {A : Type 0} {P : A → Type 0} {x : A} → P x → Given P (Ok x)
gives h = record { is = h }

pub refuses : {A : Type 0} {P : A → Type 0} {e : SqlError} → Given P (Err e)
refuses = record { is = tt }

pub anyway : {A : Type 0} (r : Result A SqlError) → Given Anything r
anyway (Ok x) = gives tt
anyway (Err e) = refuses

after_gives : {A B : Type 0} (P : A → Type 0) (Q : B → Type 0) (r : Result A SqlError) (f : A → Result B SqlError) → Gives P r → ((x : A) → P x → Given Q (f x)) → Given Q (r >>= f)
after_gives P Q (Ok x) f h k = k x h
after_gives P Q (Err e) f h k = refuses

pub after : {A B : Type 0} {P : A → Type 0} {Q : B → Type 0} {r : Result A SqlError} (f : A → Result B SqlError) → Given P r → ((x : A) → P x → Given Q (f x)) → Given Q (r >>= f)
after {P = P} {Q = Q} {r = r} f h k = after_gives P Q r f h.is k

weaker_gives : {A : Type 0} (P Q : A → Type 0) → ((x : A) → P x → Q x) → (r : Result A SqlError) → Gives P r → Gives Q r
weaker_gives P Q k (Ok x) h = k x h
weaker_gives P Q k (Err e) h = h

pub weaker : {A : Type 0} {P Q : A → Type 0} {r : Result A SqlError} → ((x : A) → P x → Q x) → Given P r → Given Q r
weaker {P = P} {Q = Q} {r = r} k h = record { is = weaker_gives P Q k r h.is }

-- what isn't refused didn't pass the test
pub unless : (b : Bool) (e : SqlError) → Given (λ _. b ≡ false) (refuse_if b e)
unless true e = refuses
unless false e = gives refl

pub unless_some : (o : Option Name) (f : Name → SqlError) → Given (λ _. o ≡ None) (refuse_some o f)
unless_some None f = gives refl
unless_some (Some n) f = refuses

pub each_given : {A B : Type 0} (P : A → Type 0) (Q : B → Type 0) (f : A → Result B SqlError) → ((x : A) → P x → Given Q (f x)) → (xs : List A) → AllByRecursion P xs → Given (AllByRecursion Q) (each f xs)
each_given P Q f k [] h = gives tt
each_given P Q f k (x ∷ xs) h =
    after (λ y. each f xs >>= λ ys. Ok (y ∷ ys)) (k x h.0) (λ y g. after (λ ys. Ok (y ∷ ys)) (each_given P Q f k xs h.1) (λ ys e. gives (g, e)))

pub given_has : {A : Type 0} (P : A → Type 0) (r : Result A SqlError) (x : A) → Given P r → r ≡ Ok x → P x
given_has P r x h same = let g = subst (Gives P) same h.is in g
