-- How often numbers stand in lists, and in lists of lists.
use Rattle.std.proofs.Common.{◌≡◌, ◌≢◌, ℕ, zero, suc, ◌+◌, ◌<◌, ◌≤◌, true, false, cond, not, nat_lt, List, [], ◌∷◌, ◌++◌, map, length, set, get_or, refl, sym, ap, ◌∙◌, subst, inl, inr, ◌==◌, arith}
use Rattle.std.specs.List.{AllByRecursion}
use Rattle.std.proofs.lemmas.List.{length-map, length-set, append-nil, get_or-map, get_or-set_same, get_or-set_other}
use Rattle.std.proofs.lemmas.Bool.{eq-eqb, ne_eqb, cases_eq}
use Rattle.std.proofs.lemmas.Bool.Decides.{nat_tests}
use Rattle.qc_chain.specs.Counts.{total, bit, count}
use Rattle.qc_chain.specs.Linked.{nodes_of, without, put_last, moved_last, standing}

pub total-append : {A : Type 0} (w : A → ℕ) (xs ys : List A) → total w (xs ++ ys) ≡ total w xs + total w ys
total-append w [] ys = omega arith
total-append w (x ∷ xs) ys = omega (arith, total-append w xs ys)

pub total-set : {A : Type 0} (w : A → ℕ) (xs : List A) (i : ℕ) (y d : A) → i < length xs → total w (set xs i y) + w (get_or xs i d) ≡ total w xs + w y
total-set w [] i y d h = absurd (omega (arith, h))
total-set w (x ∷ xs) zero y d h = omega arith
total-set w (x ∷ xs) (suc i) y d h = omega (arith, total-set w xs i y d (omega (arith, h)))

pub total-at : {A : Type 0} (w : A → ℕ) (xs : List A) (i : ℕ) (d : A) → i < length xs → w (get_or xs i d) ≤ total w xs
total-at w [] i d h = absurd (omega (arith, h))
total-at w (x ∷ xs) zero d h = omega arith
total-at w (x ∷ xs) (suc i) d h = omega (arith, total-at w xs i d (omega (arith, h)))

-- ---- numbers below a limit, none of them twice

below_more : (n : ℕ) (xs : List ℕ) → total (λ x. bit (nat_lt x (suc n))) xs ≡ total (λ x. bit (nat_lt x n)) xs + count n xs
below_more n [] = refl
below_more n (x ∷ xs) = let one : bit (nat_lt x (suc n)) ≡ bit (nat_lt x n) + bit (x == n) = grind (arith, nat_tests) in omega (arith, below_more n xs, one)

below_few : (n : ℕ) (xs : List ℕ) → ((x : ℕ) → count x xs ≤ 1) → total (λ x. bit (nat_lt x n)) xs ≤ n
below_few zero xs once = none xs
  where
    none : (ys : List ℕ) → total (λ x. bit (nat_lt x 0)) ys ≤ 0
    none [] = omega arith
    none (y ∷ ys) = let no : bit (nat_lt y 0) ≡ 0 = grind (arith, nat_tests) in omega (arith, none ys, no)
below_few (suc n) xs once = omega (arith, below_more n xs, below_few n xs once, once n)

pub few : (n : ℕ) (xs : List ℕ) → ((x : ℕ) → count x xs ≤ 1) → AllByRecursion (λ x. x < n) xs → length xs ≤ n
few n xs once low = omega (arith, below_few n xs once, all xs low)
  where
    all : (ys : List ℕ) → AllByRecursion (λ x. x < n) ys → total (λ x. bit (nat_lt x n)) ys ≡ length ys
    all [] h = refl
    all (y ∷ ys) h = let yes : bit (nat_lt y n) ≡ 1 = grind (arith, nat_tests, h.0) in omega (arith, all ys h.1, yes)

-- ---- without a node

pub count-without : (x : ℕ) (xs : List ℕ) → count x (without x xs) ≡ 0
count-without x [] = refl
count-without x (y ∷ ys) =
    elim (y == x) as (λ v. (y == x) ≡ v → count x (cond (not v) (y ∷ without x ys) (without x ys)) ≡ 0) [
      | true ↦ λ e. count-without x ys
      | false ↦ λ e. rw e (omega (arith, count-without x ys))
    ] refl

pub count-without_other : (x y : ℕ) (xs : List ℕ) → y ≢ x → count y (without x xs) ≡ count y xs
count-without_other x y [] ne = refl
count-without_other x y (z ∷ zs) ne =
    elim (z == x) as (λ v. (z == x) ≡ v → count y (cond (not v) (z ∷ without x zs) (without x zs)) ≡ bit (z == y) + count y zs) [
      | true ↦ λ e. let other : bit (z == y) ≡ 0 = grind (arith, nat_tests) in omega (arith, other, count-without_other x y zs ne)
      | false ↦ λ e. omega (arith, count-without_other x y zs ne)
    ] refl

pub without-none : (x : ℕ) (xs : List ℕ) → count x xs ≡ 0 → without x xs ≡ xs
without-none x [] h = refl
without-none x (y ∷ ys) h =
    elim (y == x) as (λ v. bit v + count x ys ≡ 0 → cond (not v) (y ∷ without x ys) (without x ys) ≡ y ∷ ys) [
      | true ↦ λ q. absurd (omega (arith, q))
      | false ↦ λ q. ap (λ zs. y ∷ zs) (without-none x ys (omega (arith, q)))
    ] h

pub length-without : (x : ℕ) (xs : List ℕ) → length (without x xs) + count x xs ≡ length xs
length-without x [] = refl
length-without x (y ∷ ys) =
    elim (y == x) as (λ v. length (cond (not v) (y ∷ without x ys) (without x ys)) + (bit v + count x ys) ≡ length (y ∷ ys)) [
      | true ↦ omega (arith, length-without x ys)
      | false ↦ omega (arith, length-without x ys)
    ]

pub all-without : (P : ℕ → Type 0) (x : ℕ) (xs : List ℕ) → AllByRecursion P xs → AllByRecursion P (without x xs)
all-without P x [] h = tt
all-without P x (y ∷ ys) h =
    elim (y == x) as (λ v. AllByRecursion P (cond (not v) (y ∷ without x ys) (without x ys))) [
      | true ↦ all-without P x ys h.1
      | false ↦ (h.0, all-without P x ys h.1)
    ]

-- ---- the nodes of all lists

pub standing-without : (x : ℕ) (lists : List (List ℕ)) → standing x (map (without x) lists) ≡ 0
standing-without x [] = refl
standing-without x (l ∷ ls) = omega (arith, count-without x l, standing-without x ls)

pub standing-without_other : (x y : ℕ) (lists : List (List ℕ)) → y ≢ x → standing y (map (without x) lists) ≡ standing y lists
standing-without_other x y [] ne = refl
standing-without_other x y (l ∷ ls) ne = omega (arith, count-without_other x y l ne, standing-without_other x y ls ne)

pub standing-put : (x y l : ℕ) (lists : List (List ℕ)) → l < length lists → standing y (put_last x l lists) ≡ standing y lists + bit (x == y)
standing-put x y l lists h = omega (arith, total-set (count y) lists l (nodes_of l lists ++ x ∷ []) [] h, total-append (λ z. bit (z == y)) (nodes_of l lists) (x ∷ []))

pub standing-le : (x l : ℕ) (lists : List (List ℕ)) → l < length lists → count x (nodes_of l lists) ≤ standing x lists
standing-le x l lists h = total-at (count x) lists l [] h

-- ---- the nodes of one list

abbrev end_at : ℕ → ℕ → ℕ → List ℕ
end_at x k l = cond (k == l) (x ∷ []) []

pub nodes-put : (x l k : ℕ) (lists : List (List ℕ)) → k < length lists → nodes_of k (put_last x l lists) ≡ nodes_of k lists ++ cond (k == l) (x ∷ []) []
nodes-put x l k lists h =
    elim (cases_eq k l) [
      | inl same ↦ subst (λ j. nodes_of k (put_last x j lists) ≡ nodes_of k lists ++ end_at x k j) same (rw (eq-eqb k k refl) (get_or-set_same lists k (nodes_of k lists ++ x ∷ []) [] h))
      | inr other ↦ rw (ne_eqb k l other) (get_or-set_other lists l k (nodes_of l lists ++ x ∷ []) [] other ∙ sym (append-nil (nodes_of k lists)))
    ]

pub nodes-without : (x k : ℕ) (lists : List (List ℕ)) → k < length lists → nodes_of k (map (without x) lists) ≡ without x (nodes_of k lists)
nodes-without x k lists h = get_or-map (without x) lists k [] [] h

-- what a move makes of each list
pub nodes-moved : (x l k : ℕ) (lists : List (List ℕ)) → k < length lists → nodes_of k (moved_last x l lists) ≡ without x (nodes_of k lists) ++ cond (k == l) (x ∷ []) []
nodes-moved x l k lists h =
    nodes-put x l k (map (without x) lists) (omega (arith, h, length-map lists (without x)))
    ∙ ap (λ zs. zs ++ cond (k == l) (x ∷ []) []) (nodes-without x k lists h)

pub length-moved : (x l : ℕ) (lists : List (List ℕ)) → length (moved_last x l lists) ≡ length lists
length-moved x l lists = length-set (map (without x) lists) l (nodes_of l (map (without x) lists) ++ x ∷ []) ∙ length-map lists (without x)
