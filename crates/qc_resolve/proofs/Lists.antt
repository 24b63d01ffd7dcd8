-- Tests of lists, and lists that are mapped.
use Rattle.std.proofs.Common.{◌≡◌, ℕ, ◌+◌, ◌<◌, Bool, true, false, List, [], ◌∷◌, ◌++◌, length, map, drop, take, get_or, refl, ap, sym, ◌∙◌, append_assoc, add-one}
use Rattle.std.specs.List.{list_any, AllByRecursion}
use Rattle.std.specs.Prelude.{◌||◌, Option, None, Some, option_map, bytes_eq}
use Rattle.std.proofs.lemmas.List.{append-nil}
use Rattle.std.proofs.lemmas.List.Folds.{list_any-append}
use Rattle.std.proofs.Math.Seq.{take-suc}
use Rattle.std.proofs.lemmas.List.{map-append}
use Rattle.qc_sql.specs.Database.{Name}
use Rattle.qc_sql.specs.Rows.{first_repeated}
use Rattle.qc_resolve.proofs.Steps.{rest_at}

-- the items before the next one, and that one
pub next_at : {A : Type 0} (xs : List A) (i : ℕ) (x : A) → i < length xs → x ≡ get_or xs i x → take (i + 1) xs ≡ take i xs ++ x ∷ []
next_at xs i x h e = ap (λ k. take k xs) (add-one i) ∙ take-suc xs i x h ∙ ap (λ y. take i xs ++ y ∷ []) (sym e)

pub any_of_map : {A : Type 0} (f : A → Bool) (xs : List A) → list_any (λ x. x) (map f xs) ≡ list_any f xs
any_of_map f [] = refl
any_of_map f (x ∷ xs) = rw (any_of_map f xs) refl

pub all_and : {A : Type 0} (P : A → Type 0) (xs : List A) (y : A) → AllByRecursion P xs → P y → AllByRecursion P (xs ++ y ∷ [])
all_and P [] y h k = (k, tt)
all_and P (x ∷ xs) y h k = (h.0, all_and P xs y h.1 k)

-- a list that is mapped item by item
pub map_on : {A B : Type 0} (f : A → B) (ys : List B) (xs : List A) (i : ℕ) (x : A) → i < length xs → x ≡ get_or xs i x → (ys ++ f x ∷ []) ++ map f (drop (i + 1) xs) ≡ ys ++ map f (drop i xs)
map_on f ys xs i x h e = append_assoc ys (f x ∷ []) (map f (drop (i + 1) xs)) ∙ ap (λ zs. ys ++ map f zs) (sym (rest_at xs i x h e))

-- a test of a list, item by item
pub any_passed : {A : Type 0} (p : A → Bool) (xs : List A) (i : ℕ) (x : A) → i < length xs → x ≡ get_or xs i x → p x ≡ false → list_any p (drop (i + 1) xs) ≡ list_any p (drop i xs)
any_passed p xs i x h e k = sym (ap (list_any p) (rest_at xs i x h e) ∙ rw k refl)

pub any_met : {A : Type 0} (p : A → Bool) (xs : List A) (i : ℕ) (x : A) → i < length xs → x ≡ get_or xs i x → p x ≡ true → list_any p (drop i xs) ≡ true
any_met p xs i x h e k = ap (list_any p) (rest_at xs i x h e) ∙ rw k refl

pub mapped_met : {A B : Type 0} (p : B → Bool) (f : A → B) (xs : List A) (i : ℕ) (x : A) → i < length xs → x ≡ get_or xs i x → p (f x) ≡ true → list_any p (map f (drop i xs)) ≡ true
mapped_met p f xs i x h e k = ap (λ ys. list_any p (map f ys)) (rest_at xs i x h e) ∙ rw k refl

-- ---- names that are repeated

abbrev pub SameSeen : List Name → List Name → Type 0
SameSeen seen others = (n : Name) → list_any (bytes_eq n) seen ≡ list_any (bytes_eq n) others

or_swapped : (a b : Bool) → (a || b) ≡ (b || (a || false))
or_swapped true true = refl
or_swapped true false = refl
or_swapped false true = refl
or_swapped false false = refl

pub seen_more : (seen earlier : List Name) (name : Name) → SameSeen seen earlier → SameSeen (name ∷ seen) (earlier ++ name ∷ [])
seen_more seen earlier name same n =
    ap (λ b. bytes_eq n name || b) (same n)
    ∙ or_swapped (bytes_eq n name) (list_any (bytes_eq n) earlier)
    ∙ sym (list_any-append (bytes_eq n) earlier (name ∷ []))

pub seen_on : {A : Type 0} (f : A → Name) (seen : List Name) (xs : List A) (i : ℕ) (x : A) → i < length xs → x ≡ get_or xs i x → SameSeen seen (map f (take i xs)) → SameSeen (f x ∷ seen) (map f (take (i + 1) xs))
seen_on f seen xs i x h e same n =
    seen_more seen (map f (take i xs)) (f x) same n
    ∙ ap (list_any (bytes_eq n)) (sym (map-append f (take i xs) (x ∷ [])) ∙ ap (map f) (sym (next_at xs i x h e)))

pub not_repeated : {A : Type 0} (f : A → Name) (seen : List Name) (xs : List A) (i : ℕ) (x : A) → i < length xs → x ≡ get_or xs i x → SameSeen seen (map f (take i xs)) → list_any (bytes_eq (f x)) (map f (take i xs)) ≡ false
    → first_repeated seen (map f (drop i xs)) ≡ first_repeated (f x ∷ seen) (map f (drop (i + 1) xs))
not_repeated f seen xs i x h e same k = ap (λ ys. first_repeated seen (map f ys)) (rest_at xs i x h e) ∙ rw (same (f x) ∙ k) refl

pub repeated : {A : Type 0} (f : A → Name) (seen : List Name) (xs : List A) (i : ℕ) (x : A) → i < length xs → x ≡ get_or xs i x → SameSeen seen (map f (take i xs)) → list_any (bytes_eq (f x)) (map f (take i xs)) ≡ true
    → first_repeated seen (map f (drop i xs)) ≡ Some (f x)
repeated f seen xs i x h e same k = ap (λ ys. first_repeated seen (map f ys)) (rest_at xs i x h e) ∙ rw (same (f x) ∙ k) refl
