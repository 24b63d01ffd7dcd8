-- The first of a list that passes a test, where the list is walked or is made of lists.
use Rattle.std.proofs.Common.{◌≡◌, ℕ, ◌+◌, ◌<◌, Bool, true, false, List, ◌∷◌, ◌++◌, length, map, drop, get_or, refl, ap, sym, ◌∙◌, add-one}
use Rattle.std.specs.Prelude.{Option, None, Some, find, option_map}
use Rattle.std.specs.Option.{option_or}
use Rattle.std.proofs.lemmas.List.Folds.{find-append}
use Rattle.std.proofs.Math.Seq.{drop-cons}
use Rattle.qc_sql.specs.Database.{Name}
use Rattle.qc_sql.specs.Rules.{Calls, is_uncached, joined}
use Rattle.qc_rules.specs.Functions.{first_name}

-- the rest of a list at an item
rest_at : {A : Type 0} (xs : List A) (i : ℕ) (x : A) → i < length xs → x ≡ get_or xs i x → drop i xs ≡ x ∷ drop (i + 1) xs
rest_at xs i x h e = drop-cons xs i x h ∙ (λ j. sym e j ∷ drop (sym (add-one i) j) xs)

-- ---- an item of a list that is walked

pub found_at : {A B : Type 0} (p : B → Bool) (f : A → B) (xs : List A) (i : ℕ) (x : A) → i < length xs → x ≡ get_or xs i x → p (f x) ≡ true
    → find p (map f (drop i xs)) ≡ Some (f x)
found_at p f xs i x h e k = ap (λ ys. find p (map f ys)) (rest_at xs i x h e) ∙ rw k refl

pub passed_at : {A B : Type 0} (p : B → Bool) (f : A → B) (xs : List A) (i : ℕ) (x : A) → i < length xs → x ≡ get_or xs i x → p (f x) ≡ false
    → find p (map f (drop (i + 1) xs)) ≡ find p (map f (drop i xs))
passed_at p f xs i x h e k = sym (ap (λ ys. find p (map f ys)) (rest_at xs i x h e) ∙ rw k refl)

-- ---- the first name in two lists of calls is the first of the one, or else of the other

map_or : {A B : Type 0} (f : A → B) (a b : Option A) → option_map f (option_or a b) ≡ option_or (option_map f a) (option_map f b)
map_or f None b = refl
map_or f (Some x) b = refl

pub first_of_two : (xs ys : Calls) → first_name (xs ++ ys) ≡ option_or (first_name xs) (first_name ys)
first_of_two xs ys = ap (option_map (λ call. call.0)) (find-append is_uncached xs ys) ∙ map_or (λ call. call.0) (find is_uncached xs) (find is_uncached ys)

pub in_first : (xs ys : Calls) (name : Name) → Some name ≡ first_name xs → Some name ≡ first_name (xs ++ ys)
in_first xs ys name h = ap (λ o. option_or o (first_name ys)) h ∙ sym (first_of_two xs ys)

pub in_second : (xs ys : Calls) → ◌≡◌ {A = Option Name} None (first_name xs) → first_name ys ≡ first_name (xs ++ ys)
in_second xs ys h = ap (λ o. option_or o (first_name ys)) h ∙ sym (first_of_two xs ys)

-- ---- the calls of a list that is walked

pub name_at : {A : Type 0} (f : A → Calls) (xs : List A) (i : ℕ) (x : A) (name : Name) → i < length xs → x ≡ get_or xs i x → Some name ≡ first_name (f x)
    → Some name ≡ first_name (joined (map f (drop i xs)))
name_at f xs i x name h e k = in_first (f x) (joined (map f (drop (i + 1) xs))) name k ∙ sym (ap (λ ys. first_name (joined (map f ys))) (rest_at xs i x h e))

pub no_name_at : {A : Type 0} (f : A → Calls) (xs : List A) (i : ℕ) (x : A) → i < length xs → x ≡ get_or xs i x → ◌≡◌ {A = Option Name} None (first_name (f x))
    → first_name (joined (map f (drop (i + 1) xs))) ≡ first_name (joined (map f (drop i xs)))
no_name_at f xs i x h e k = in_second (f x) (joined (map f (drop (i + 1) xs))) k ∙ sym (ap (λ ys. first_name (joined (map f ys))) (rest_at xs i x h e))
