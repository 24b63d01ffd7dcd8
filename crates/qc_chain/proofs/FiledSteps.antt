-- Slots whose numbers stand in lists: what a change of one slot makes of that, and what sums say of both.
use Rattle.std.proofs.Common.{◌≡◌, ◌≢◌, ℕ, zero, suc, ◌+◌, ◌*◌, ◌/◌, ◌%◌, ◌^◌, ◌<◌, ◌≤◌, Bool, true, false, cond, nat_lt, ◌&&◌, List, [], ◌∷◌, ◌++◌, length, set, get_or, replicate, zero-add, refl, sym, ap, ◌∙◌, subst, inl, inr, Option, Some, None, ◌==◌, arith}
use Rattle.std.specs.List.{AllByRecursion, slice_get}
use Rattle.std.specs.Option.{option_to_list}
use Rattle.std.proofs.lemmas.List.{length-set, length-append, length-replicate, get_or-replicate, get_or-set_same, get_or-set_other}
use Rattle.std.proofs.lemmas.Option.{none-some, same_Some}
use Rattle.std.proofs.lemmas.Bool.{eq-eqb, ne_eqb, eqb-true, cases_eq, lt-ltb, le-ltb}
use Rattle.std.proofs.lemmas.Bool.Decides.{nat_tests}
use Rattle.std.proofs.lemmas.Nat.{and_le_r}
use Rattle.qc_chain.specs.Counts.{total, bit, count}
use Rattle.qc_chain.specs.Linked.{Linked, nodes_of, without, moved_last}
use Rattle.qc_chain.proofs.Counting.{total-append, count-without, count-without_other, length-without, all-without, nodes-moved, length-moved}
use Rattle.qc_chain.specs.Filed.{in_slot, in_slots, contents, IsFiled, IsFreeing, AreFree, bucket_of}

-- ---- sums

abbrev pub weight : {X : Type 0} → (X → ℕ) → Option X → ℕ
weight w None = 0
weight w (Some x) = w x

pub total-contents : {X : Type 0} (w : X → ℕ) (slots : List (Option X)) → total w (contents slots) ≡ total (weight w) slots
total-contents w [] = refl
total-contents w (None ∷ ss) = omega (arith, total-contents w ss)
total-contents w (Some x ∷ ss) = omega (arith, total-contents w ss)

pub total-in_slots : {X : Type 0} (w : X → ℕ) (slots : List (Option X)) (ns : List ℕ) → total w (in_slots slots ns) ≡ total (λ n. weight w (in_slot n slots)) ns
total-in_slots w slots [] = refl
total-in_slots w slots (n ∷ ns) =
    let rest = total-in_slots w slots ns in
    elim (in_slot n slots) as (λ s. total w (option_to_list s ++ in_slots slots ns) ≡ weight w s + total (λ n. weight w (in_slot n slots)) ns) [
      | None ↦ omega (arith, rest)
      | Some x ↦ omega (arith, rest)
    ]

abbrev sum_below : ℕ → (ℕ → ℕ) → ℕ
sum_below zero f = 0
sum_below (suc n) f = f 0 + sum_below n (λ i. f (suc i))

sum-same : (n : ℕ) (f g : ℕ → ℕ) → ((i : ℕ) → i < n → f i ≡ g i) → sum_below n f ≡ sum_below n g
sum-same zero f g h = refl
sum-same (suc n) f g h = omega (arith, h 0 (omega arith), sum-same n (λ i. f (suc i)) (λ i. g (suc i)) (λ i l. h (suc i) (omega (arith, l))))

sum-none : (n : ℕ) (f : ℕ → ℕ) → ((i : ℕ) → i < n → f i ≡ 0) → sum_below n f ≡ 0
sum-none zero f h = refl
sum-none (suc n) f h = omega (arith, h 0 (omega arith), sum-none n (λ i. f (suc i)) (λ i l. h (suc i) (omega (arith, l))))

sum-add : (n : ℕ) (f g : ℕ → ℕ) → sum_below n (λ i. f i + g i) ≡ sum_below n f + sum_below n g
sum-add zero f g = refl
sum-add (suc n) f g = omega (arith, sum-add n (λ i. f (suc i)) (λ i. g (suc i)))

sum-only : (n x : ℕ) (f : ℕ → ℕ) → x < n → ((i : ℕ) → i < n → i ≢ x → f i ≡ 0) → sum_below n f ≡ f x
sum-only zero x f l h = absurd (omega (arith, l))
sum-only (suc n) zero f l h = omega (arith, sum-none n (λ i. f (suc i)) (λ i k. h (suc i) (omega (arith, k)) (λ e. omega (arith, e))))
sum-only (suc n) (suc x) f l h =
    omega (arith, h 0 (omega arith) (λ e. omega (arith, e)), sum-only n x (λ i. f (suc i)) (omega (arith, l)) (λ i k ne. h (suc i) (omega (arith, k)) (λ e. ne (omega (arith, e)))))

total-below : {X : Type 0} (w : X → ℕ) (xs : List X) (d : X) → total w xs ≡ sum_below (length xs) (λ i. w (get_or xs i d))
total-below w [] d = refl
total-below w (x ∷ xs) d = omega (arith, total-below w xs d)

by-place : (u : ℕ → ℕ) (n : ℕ) (ns : List ℕ) → AllByRecursion (λ m. m < n) ns → total u ns ≡ sum_below n (λ i. total (λ m. cond (m == i) (u i) 0) ns)
by-place u n [] all = sym (sum-none n (λ i. 0) (λ i l. refl))
by-place u n (m ∷ ms) all =
    omega (arith, by-place u n ms all.1, sum-add n (λ i. cond (m == i) (u i) 0) (λ i. total (λ k. cond (k == i) (u i) 0) ms), one)
  where
    one : sum_below n (λ i. cond (m == i) (u i) 0) ≡ u m
    one = sum-only n m (λ i. cond (m == i) (u i) 0) all.0 (λ i l ne. rw (ne_eqb m i (λ e. ne (sym e))) refl) ∙ rw (eq-eqb m m refl) refl

count-none : (i v : ℕ) (ns : List ℕ) → count i ns ≡ 0 → total (λ m. cond (m == i) v 0) ns ≡ 0
count-none i v [] h = refl
count-none i v (m ∷ ms) h =
    elim (m == i) as (λ b. bit b + count i ms ≡ 0 → cond b v 0 + total (λ k. cond (k == i) v 0) ms ≡ 0) [
      | true ↦ λ q. absurd (omega (arith, q))
      | false ↦ λ q. omega (arith, count-none i v ms (omega (arith, q)))
    ] h

count-one : (i v : ℕ) (ns : List ℕ) → count i ns ≡ 1 → total (λ m. cond (m == i) v 0) ns ≡ v
count-one i v [] h = absurd (omega (arith, h))
count-one i v (m ∷ ms) h =
    elim (m == i) as (λ b. bit b + count i ms ≡ 1 → cond b v 0 + total (λ k. cond (k == i) v 0) ms ≡ v) [
      | true ↦ λ q. omega (arith, count-none i v ms (omega (arith, q)))
      | false ↦ λ q. omega (arith, count-one i v ms (omega (arith, q)))
    ] h

count-bit : (i v : ℕ) (b : Bool) (ns : List ℕ) → count i ns ≡ bit b → total (λ m. cond (m == i) v 0) ns ≡ cond b v 0
count-bit i v true ns h = count-one i v ns h
count-bit i v false ns h = count-none i v ns h

-- over a list, and over the slots that belong to it
pub listed : {X : Type 0} (home : Option X → ℕ) (many : ℕ) (u : Option X → ℕ) (slots : List (Option X)) (filed : Linked) (list : ℕ) → IsFiled home many slots filed → list < many → total (λ n. u (in_slot n slots)) (nodes_of list filed.lists) ≡ total (λ s. cond (home s == list) (u s) 0) slots
listed home many u slots filed list h l =
    by-place (λ n. u (in_slot n slots)) (length slots) (nodes_of list filed.lists) (h.below list l)
    ∙ (sum-same (length slots) (λ i. total (λ m. cond (m == i) (u (in_slot i slots)) 0) (nodes_of list filed.lists)) (λ i. cond (home (in_slot i slots) == list) (u (in_slot i slots)) 0)
    (λ i k. count-bit i (u (in_slot i slots)) (home (in_slot i slots) == list) (nodes_of list filed.lists) (h.placed list i l k))
    ∙ sym (total-below (λ s. cond (home s == list) (u s) 0) slots None))

pub total-alike : {X : Type 0} (w v : X → ℕ) (xs : List X) → ((x : X) → w x ≡ v x) → total w xs ≡ total v xs
total-alike w v [] h = refl
total-alike w v (x ∷ xs) h = omega (arith, h x, total-alike w v xs h)

-- where only what belongs to the list counts
pub listed-all : {X : Type 0} (home : Option X → ℕ) (many : ℕ) (u : Option X → ℕ) (slots : List (Option X)) (filed : Linked) (list : ℕ) → IsFiled home many slots filed → list < many → ((s : Option X) → home s ≢ list → u s ≡ 0)
    → total (λ n. u (in_slot n slots)) (nodes_of list filed.lists) ≡ total u slots
listed-all home many u slots filed list h l only =
    listed home many u slots filed list h l
    ∙ total-alike (λ s. cond (home s == list) (u s) 0) u slots
    (λ s. elim (cases_eq (home s) list) [ inl same ↦ rw (eq-eqb (home s) list same) refl | inr other ↦ rw (ne_eqb (home s) list other) (sym (only s other)) ])

pub none-counts : {X : Type 0} (p : Option X → Bool) (slots : List (Option X)) (ns : List ℕ) → AllByRecursion (λ n. p (in_slot n slots) ≡ false) ns → total (λ n. bit (p (in_slot n slots))) ns ≡ 0
none-counts p slots [] all = refl
none-counts p slots (n ∷ ns) all = rw all.0 (omega (arith, none-counts p slots ns all.1))

-- one slot counts in the sum over all
pub slot-counts : {X : Type 0} (u : Option X → ℕ) (slots : List (Option X)) (n : ℕ) → n < length slots → u (in_slot n slots) ≤ total u slots
slot-counts u [] n l = absurd (omega (arith, l))
slot-counts u (s ∷ ss) zero l = omega arith
slot-counts u (s ∷ ss) (suc n) l = omega (arith, slot-counts u ss n (omega (arith, l)))

-- ---- the list of a number

pub bucket-low : (mask n : ℕ) → bucket_of mask n < mask + 2
unfolding bucket_of
bucket-low mask n = omega (arith, and_le_r (n * 11400714819323198485 % 2 ^ 64 / 2 ^ 32) mask)

pub bucket-some : (mask n : ℕ) → bucket_of mask n ≢ 0
unfolding bucket_of
bucket-some mask n e = omega (arith, e)

-- ---- another content

pub in-set : {X : Type 0} (slots : List (Option X)) (x : ℕ) (v : Option X) → x < length slots → in_slot x (set slots x v) ≡ v
in-set slots x v l = get_or-set_same slots x v None l

pub in-set_other : {X : Type 0} (slots : List (Option X)) (x n : ℕ) (v : Option X) → n ≢ x → in_slot n (set slots x v) ≡ in_slot n slots
in-set_other slots x n v ne = get_or-set_other slots x n v None ne

pub slots-append : {X : Type 0} (slots : List (Option X)) (ns ms : List ℕ) → in_slots slots (ns ++ ms) ≡ in_slots slots ns ++ in_slots slots ms
slots-append slots [] ms = refl
slots-append {X = X} slots (n ∷ ns) ms = ap (λ es. option_to_list (in_slot n slots) ++ es) (slots-append slots ns ms) ∙ sym (by (in_slot n slots))
  where
    by : (s : Option X) → (option_to_list s ++ in_slots slots ns) ++ in_slots slots ms ≡ option_to_list s ++ (in_slots slots ns ++ in_slots slots ms)
    by None = refl
    by (Some e) = refl

pub slots-set : {X : Type 0} (slots : List (Option X)) (i : ℕ) (v : Option X) (ns : List ℕ) → count i ns ≡ 0 → in_slots (set slots i v) ns ≡ in_slots slots ns
slots-set slots i v [] h = refl
slots-set slots i v (n ∷ ns) h =
    elim (cases_eq n i) [
      | inl same ↦ (let one : bit (n == i) ≡ 1 = rw (eq-eqb n i same) refl in absurd (omega (arith, h, one)))
      | inr ne ↦ rw (in-set_other slots i n v ne) (ap (λ es. option_to_list (in_slot n slots) ++ es) (slots-set slots i v ns (omega (arith, h))))
    ]

count-end : (n x k l : ℕ) → count n (cond (k == l) (x ∷ []) []) ≡ cond (l == k) (bit (x == n)) 0
count-end n x k l =
    elim (cases_eq k l) [
      | inl same ↦ rw (eq-eqb k l same, eq-eqb l k (sym same)) (omega arith)
      | inr other ↦ rw (ne_eqb k l other, ne_eqb l k (λ e. other (sym e))) refl
    ]

pub all-end : (P : ℕ → Type 0) (xs : List ℕ) (x : ℕ) (b : Bool) → AllByRecursion P xs → P x → AllByRecursion P (xs ++ cond b (x ∷ []) [])
all-end P [] x true all here = (here, tt)
all-end P [] x false all here = tt
all-end P (y ∷ ys) x b all here = (all.0, all-end P ys x b all.1 here)

abbrev pub moved : ℕ → ℕ → Linked → Linked
moved x l filed = record { lists = moved_last x l filed.lists; nodes = filed.nodes }

-- a slot's content changes, and its number goes where that belongs
pub filed-moved : {X : Type 0} (home : Option X → ℕ) (many : ℕ) (slots : List (Option X)) (filed filed' : Linked) (x l : ℕ) (v : Option X) → IsFiled home many slots filed → x < length slots → home v ≡ l → filed' ≡ moved x l filed → IsFiled home many (set slots x v) filed'
filed-moved {X = X} home many slots filed filed' x l v h low is e = subst (λ (f : Linked). IsFiled home many (set slots x v) f) (sym e) (record {
  nodes = h.nodes ∙ sym (length-set slots x v);
  lists = length-moved x l filed.lists ∙ h.lists;
  homes = h.homes;
  placed = λ list n k m. rw (nodes-moved x l list filed.lists (omega (arith, k, h.lists))) (total-append (λ y. bit (y == n)) (without x (nodes_of list filed.lists)) (cond (list == l) (x ∷ []) []) ∙ by list n k (omega (arith, m, length-set slots x v)));
  below = λ list k. rw (nodes-moved x l list filed.lists (omega (arith, k, h.lists)), length-set slots x v) (all-end (λ n. n < length slots) (without x (nodes_of list filed.lists)) x (list == l) (all-without (λ n. n < length slots) x (nodes_of list filed.lists) (h.below list k)) low);
})
  where
    never : (b : Bool) → ◌≡◌ {A = ℕ} (cond b 0 0) 0
    never true = refl
    never false = refl

    by : (list n : ℕ) → list < many → n < length slots → count n (without x (nodes_of list filed.lists)) + count n (cond (list == l) (x ∷ []) []) ≡ bit (home (in_slot n (set slots x v)) == list)
    by list n k m =
        elim (cases_eq n x) [
          | inl same ↦ rw (same, in-set slots x v low, is, count-without x (nodes_of list filed.lists), count-end x x list l, eq-eqb x x refl) (zero-add (bit (l == list)))
          | inr other ↦ rw (in-set_other slots x n v other, count-end n x list l, ne_eqb x n (λ q. other (sym q))) (omega (arith, count-without_other x n (nodes_of list filed.lists) other, h.placed list n k m, never (l == list)))
        ]

-- it changes, and belongs where it did
pub filed-still : {X : Type 0} (home : Option X → ℕ) (many : ℕ) (slots : List (Option X)) (filed : Linked) (x : ℕ) (v : Option X) → IsFiled home many slots filed → x < length slots → home v ≡ home (in_slot x slots) → IsFiled home many (set slots x v) filed
filed-still home many slots filed x v h low is = record {
  nodes = h.nodes ∙ sym (length-set slots x v);
  lists = h.lists;
  homes = h.homes;
  placed = λ list n k m. h.placed list n k (omega (arith, m, length-set slots x v)) ∙ ap (λ j. bit (j == list)) (sym (same n));
  below = λ list k. rw (length-set slots x v) (h.below list k);
}
  where
    same : (n : ℕ) → home (in_slot n (set slots x v)) ≡ home (in_slot n slots)
    same n =
        elim (cases_eq n x) [
          | inl e ↦ rw (e, in-set slots x v low) is
          | inr other ↦ ap home (in-set_other slots x n v other)
        ]

-- ---- free slots

never : (b : Bool) → bit (b && false) ≡ 0
never true = refl
never false = refl

none_in : (l n : ℕ) → nodes_of l (replicate n []) ≡ []
none_in l zero = refl
none_in zero (suc n) = refl
none_in (suc l) (suc n) = none_in l n

pub freeing-none : (many slots : ℕ) (filed : Linked) → filed ≡ record { lists = replicate many []; nodes = slots } → IsFreeing many slots 0 filed
freeing-none many slots filed e = subst (λ (f : Linked). IsFreeing many slots 0 f) (sym e) (record {
  nodes = refl;
  lists = length-replicate many [];
  all = ap length (none_in 0 many);
  placed = λ list n k. rw (none_in list many, le-ltb n 0 (omega arith)) (sym (never (list == 0)));
  below = λ list k. rw (none_in list many) tt;
})

pub freeing-more : (many slots done : ℕ) (filed filed' : Linked) → IsFreeing many slots done filed → 0 < many → done < slots → filed' ≡ moved done 0 filed → IsFreeing many slots (done + 1) filed'
freeing-more many slots done filed filed' h some low e = subst (λ (f : Linked). IsFreeing many slots (done + 1) f) (sym e) (record {
  nodes = h.nodes;
  lists = length-moved done 0 filed.lists ∙ h.lists;
  all = let last : bit ((0 == 0) && nat_lt done done) ≡ 0 = rw (le-ltb done done (omega arith)) (never (0 == 0)) in
      rw (nodes-moved done 0 0 filed.lists (omega (arith, some, h.lists))) (omega (arith, length-append (without done (nodes_of 0 filed.lists)) (done ∷ []), length-without done (nodes_of 0 filed.lists), h.all, h.placed 0 done some, last));
  placed = λ list n k. rw (nodes-moved done 0 list filed.lists (omega (arith, k, h.lists))) (total-append (λ y. bit (y == n)) (without done (nodes_of list filed.lists)) (cond (list == 0) (done ∷ []) []) ∙ by list n k);
  below = λ list k. rw (nodes-moved done 0 list filed.lists (omega (arith, k, h.lists))) (all-end (λ n. n < slots) (without done (nodes_of list filed.lists)) done (list == 0) (all-without (λ n. n < slots) done (nodes_of list filed.lists) (h.below list k)) low);
})
  where
    by : (list n : ℕ) → list < many → count n (without done (nodes_of list filed.lists)) + count n (cond (list == 0) (done ∷ []) []) ≡ bit (list == 0 && nat_lt n (done + 1))
    by list n k =
        elim (cases_eq n done) [
          | inl same ↦ rw (same, count-without done (nodes_of list filed.lists), lt-ltb done (done + 1) (omega arith)) (last (list == 0))
          | inr other ↦ (let less : nat_lt n (done + 1) ≡ nat_lt n done = grind (arith, nat_tests) in rw (count-without_other done n (nodes_of list filed.lists) other, less, h.placed list n k) (missing other (list == 0)))
        ]
      where
        last : (b : Bool) → 0 + count done (cond b (done ∷ []) []) ≡ bit (b && true)
        last true = let one : bit (done == done) ≡ 1 = rw (eq-eqb done done refl) refl in omega (arith, one)
        last false = refl

        missing : n ≢ done → (b : Bool) → bit (b && nat_lt n done) + count n (cond b (done ∷ []) []) ≡ bit (b && nat_lt n done)
        missing other true = let no : bit (done == n) ≡ 0 = grind (arith, nat_tests) in omega (arith, no)
        missing other false = refl

pub free-filed : {X : Type 0} (home : Option X → ℕ) (many slots : ℕ) (filed : Linked) → AreFree many slots filed → home None ≡ 0 → ((s : Option X) → home s < many) → IsFiled home many (replicate slots None) filed
free-filed {X = X} home many slots filed free none low = record {
  nodes = free.nodes ∙ sym (length-replicate {A = Option X} slots None);
  lists = free.lists;
  homes = low;
  placed = λ list n k m. let m' : n < slots = omega (arith, m, length-replicate {A = Option X} slots None) in free.placed list n k ∙ (rw (get_or-replicate {A = Option X} slots n None None m', none, lt-ltb n slots m') (turn list));
  below = λ list k. rw (length-replicate {A = Option X} slots None) (free.below list k);
}
  where
    turn : (list : ℕ) → bit ((list == 0) && true) ≡ bit (0 == list)
    turn list =
        elim (cases_eq list 0) [
          | inl e ↦ rw (eq-eqb list 0 e, eq-eqb 0 list (sym e)) refl
          | inr ne ↦ rw (ne_eqb list 0 ne, ne_eqb 0 list (λ e. ne (sym e))) refl
        ]

pub contents-free : {X : Type 0} (n : ℕ) → contents (replicate {A = Option X} n None) ≡ []
contents-free zero = refl
contents-free (suc n) = contents-free n

-- the content of a list's first slot belongs to the list
pub first-home : {X : Type 0} (home : Option X → ℕ) (many list : ℕ) (slots : List (Option X)) (filed : Linked) (x : ℕ) → IsFiled home many slots filed → list < many → x < length slots → slice_get (nodes_of list filed.lists) 0 ≡ Some x → home (in_slot x slots) ≡ list
first-home home many list slots filed x h few low is = by (home (in_slot x slots) == list) refl (h.placed list x few low) (stands (nodes_of list filed.lists) is)
  where
    stands : (ns : List ℕ) → slice_get ns 0 ≡ Some x → 0 < count x ns
    stands [] e = absurd (none-some x e)
    stands (n ∷ ns) e = let one : bit (n == x) ≡ 1 = rw (eq-eqb n x (same_Some n x e)) refl in omega (arith, one)

    by : (b : Bool) → (home (in_slot x slots) == list) ≡ b → count x (nodes_of list filed.lists) ≡ bit b → 0 < count x (nodes_of list filed.lists) → home (in_slot x slots) ≡ list
    by true e q p = eqb-true (home (in_slot x slots)) list e
    by false e q p = absurd (omega (arith, q, p))

-- how many are free where a slot goes to another list
pub room-moved : {X : Type 0} (home : Option X → ℕ) (many : ℕ) (slots : List (Option X)) (filed filed' : Linked) (x l : ℕ) → IsFiled home many slots filed → x < length slots → filed' ≡ moved x l filed
    → length (nodes_of 0 filed'.lists) + bit (home (in_slot x slots) == 0) ≡ length (nodes_of 0 filed.lists) + bit (0 == l)
room-moved home many slots filed filed' x l h low e =
    let some : 0 < many = omega (arith, h.homes (in_slot x slots)) in
    rw (e, nodes-moved x l 0 filed.lists (omega (arith, some, h.lists)))
    (omega (arith, length-append (without x (nodes_of 0 filed.lists)) (cond (0 == l) (x ∷ []) []), length-without x (nodes_of 0 filed.lists), h.placed 0 x some low, one (0 == l)))
  where
    one : (b : Bool) → length (cond b (x ∷ []) []) ≡ bit b
    one true = refl
    one false = refl

pub first-there : (ns : List ℕ) → 0 < length ns → (x : ℕ) × (slice_get ns 0 ≡ Some x)
first-there [] h = absurd (omega (arith, h))
first-there (n ∷ ns) h = (n, refl)
