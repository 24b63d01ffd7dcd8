-- Blocks in slots and the lists of chains: what they are seen as, and what a change of one slot makes of both.
use Rattle.std.proofs.Common.{◌≡◌, ◌≢◌, ℕ, zero, suc, ◌+◌, ◌-◌, ◌<◌, ◌≤◌, ◌^◌, Bool, true, false, cond, List, [], ◌∷◌, ◌++◌, map, drop, length, set, get_or, replicate, refl, sym, ap, ◌∙◌, inl, inr, Option, Some, None, ◌==◌, ◌&&◌, nat_lt, arith}
use Rattle.std.specs.List.{AllByRecursion, slice_get}
use Rattle.std.specs.Option.{IsSome, MatchOption, option_map, option_to_list}
use Rattle.std.proofs.lemmas.List.{length-map, length-drop, length-set, length-replicate, length-append, append-nil, get_or-replicate, ext_get_or}
use Rattle.std.proofs.lemmas.Option.{none-some, same_Some}
use Rattle.std.proofs.lemmas.Bool.{eq-eqb, ne_eqb, eqb-true, cases_eq, cases_lt}
use Rattle.qc_chain.specs.Counts.{bit, count}
use Rattle.qc_chain.specs.Linked.{Linked, nodes_of, without, IsLast, moved_last, standing}
use Rattle.qc_chain.specs.Filed.{in_slot, in_slots, IsFiled, AreFree, bucket_of}
use Rattle.qc_chain.proofs.Counting.{total-append, total-set, few, count-without, count-without_other, without-none, length-without, all-without, standing-without, standing-without_other, standing-put, nodes-moved, length-moved}
use Rattle.qc_chain.proofs.FiledSteps.{bucket-low, listed-all, none-counts, in-set, in-set_other, all-end, moved as moved_node, filed-moved, filed-still, free-filed, slots-append, slots-set}
use Rattle.qc_tiles.specs.declared.blocks.Block.{Block}
use Rattle.qc_tiles.specs.declared.blocks.Move.{Move}
use Rattle.qc_tiles.specs.Tiles.{moved}
use Rattle.qc_chain.specs.Views.{blocks_of, KeepsOthers, Appends, TakesFirst, Cuts}
use Rattle.qc_chain.specs.Listed.{Listed, lists_in, place_home, IsListed, moved_in, is_at, blocks_at}

-- ---- reading

seen_at : (slots : List (Option Block)) (n : ℕ) (lists : List (List ℕ)) → get_or (map (in_slots slots) lists) n [] ≡ in_slots slots (get_or lists n [])
seen_at slots n [] = refl
seen_at slots zero (l ∷ ls) = refl
seen_at slots (suc n) (l ∷ ls) = seen_at slots n ls

-- the blocks of a chain are those in the slots of its list
pub seen : (n : ℕ) (slots : List (Option Block)) (lists : List (List ℕ)) → blocks_of n (lists_in slots lists) ≡ in_slots slots (nodes_of (n + 1) lists)
seen n slots [] = refl
seen n slots (l ∷ ls) = let e : n + 1 ≡ suc n = omega arith in rw e (seen_at slots n ls)

pub length-seen : (slots : List (Option Block)) (lists : List (List ℕ)) → length (lists_in slots lists) ≡ length lists - 1
length-seen slots lists = length-map (drop 1 lists) (in_slots slots) ∙ length-drop 1 lists

-- there are as many, whatever stands in the slots
pub length-set_lists : (slots slots' : List (Option Block)) (lists : List (List ℕ)) → length (lists_in slots' lists) ≡ length (lists_in slots lists)
length-set_lists slots slots' lists = length-seen slots' lists ∙ sym (length-seen slots lists)

past_end : {X : Type 0} (xs : List X) (n : ℕ) (d : X) → length xs ≤ n → get_or xs n d ≡ d
past_end [] n d h = refl
past_end (x ∷ xs) zero d h = absurd (omega (arith, h))
past_end (x ∷ xs) (suc n) d h = past_end xs n d (omega (arith, h))

pub in-length : (slots : List (Option Block)) (ns : List ℕ) → length (in_slots slots ns) ≤ length ns
in-length slots [] = omega arith
in-length slots (n ∷ ns) =
    elim (in_slot n slots) as (λ s. length (option_to_list s ++ in_slots slots ns) ≤ length (n ∷ ns)) [
      | None ↦ omega (arith, in-length slots ns)
      | Some b ↦ omega (arith, in-length slots ns)
    ]

-- ---- how often a slot stands

one_list : (x l : ℕ) (lists : List (List ℕ)) → count x (nodes_of l lists) ≤ standing x lists
one_list x l [] = omega arith
one_list x zero (k ∷ ks) = omega arith
one_list x (suc l) (k ∷ ks) = omega (arith, one_list x l ks)

two_lists : (x l m : ℕ) (lists : List (List ℕ)) → l ≢ m → count x (nodes_of l lists) + count x (nodes_of m lists) ≤ standing x lists
two_lists x l m [] ne = omega arith
two_lists x zero zero (k ∷ ks) ne = absurd (ne refl)
two_lists x zero (suc m) (k ∷ ks) ne = omega (arith, one_list x m ks)
two_lists x (suc l) zero (k ∷ ks) ne = omega (arith, one_list x l ks)
two_lists x (suc l) (suc m) (k ∷ ks) ne = omega (arith, two_lists x l m ks (λ e. ne (ap suc e)))

pub counts-last : (x : ℕ) (ns : List ℕ) → IsLast x ns → 0 < count x ns
counts-last x ns h =
    let one : bit (x == x) ≡ 1 = rw (eq-eqb x x refl) refl in
    omega (arith, ap (count x) h, total-append (λ y. bit (y == x)) (without x ns) (x ∷ []), one)

pub counts-first : (x : ℕ) (ns ms : List ℕ) → ns ≡ x ∷ ms → 0 < count x ns
counts-first x ns ms h =
    let one : bit (x == x) ≡ 1 = rw (eq-eqb x x refl) refl in
    omega (arith, ap (count x) h, one)

-- what holds of each that stands in a list holds of all of it
pub all-counted : (P : ℕ → Type 0) (ns : List ℕ) → ((n : ℕ) → 0 < count n ns → P n) → AllByRecursion P ns
all-counted P [] h = tt
all-counted P (n ∷ ns) h =
    let one : bit (n == n) ≡ 1 = rw (eq-eqb n n refl) refl in
    (h n (omega (arith, one)), all-counted P ns (λ m some. h m (omega (arith, some))))

ends_off : {X : Type 0} (k l : ℕ) (xs : List X) → k ≢ l → cond (k == l) xs [] ≡ []
ends_off k l xs ne = rw (ne_eqb k l ne) refl

ends_on : {X : Type 0} (k l : ℕ) (xs : List X) → k ≡ l → cond (k == l) xs [] ≡ xs
ends_on k l xs same = rw (eq-eqb k l same) refl

-- ---- a slot changes, and goes to another list

both : (P Q : ℕ → Type 0) (ns : List ℕ) → AllByRecursion P ns → AllByRecursion Q ns → AllByRecursion (λ n. P n × Q n) ns
both P Q [] a b = tt
both P Q (n ∷ ns) a b = ((a.0, b.0), both P Q ns a.1 b.1)

-- the slots of a chain, each with a block
pub full-slots : (slots : List (Option Block)) (by_chain by_place : Linked) (mask room list : ℕ) → IsListed slots by_chain by_place mask room → 0 < list → list < length by_chain.lists → AllByRecursion (λ n. (n < length slots) × IsSome (in_slot n slots)) (nodes_of list by_chain.lists)
full-slots slots by_chain by_place mask room list h some low =
    both (λ n. n < length slots) (λ n. IsSome (in_slot n slots)) (nodes_of list by_chain.lists) (h.below list low) (all-counted (λ n. IsSome (in_slot n slots)) (nodes_of list by_chain.lists) (λ n c. h.held list n some low c))

pub listed-moved : (slots : List (Option Block)) (by_chain by_chain' by_place by_place' : Linked) (mask room room' x l : ℕ) (v : Option Block) → IsListed slots by_chain by_place mask room → x < length slots → l < length by_chain.lists → (0 < l → IsSome v)
    → by_chain' ≡ moved_node x l by_chain → by_place' ≡ moved_node x (place_home mask v) by_place → room' ≡ length (nodes_of 0 by_chain'.lists) → IsListed (set slots x v) by_chain' by_place' mask room'
listed-moved slots by_chain by_chain' by_place by_place' mask room room' x l v h low inside full e e' count' = record {
  nodes = ap (λ (c : Linked). c.nodes) e ∙ (h.nodes ∙ sym (length-set slots x v));
  some = omega (arith, h.some, long);
  once = λ y. rw lists (once y);
  below = λ k in_k. rw (length-set slots x v, nodes k (omega (arith, in_k, long)))
      (all-end (λ n. n < length slots) (without x (nodes_of k by_chain.lists)) x (k == l) (all-without (λ n. n < length slots) x (nodes_of k by_chain.lists) (h.below k (omega (arith, in_k, long)))) low);
  held = λ k n some in_k c. held k n some (omega (arith, in_k, long)) (rw (nodes k (omega (arith, in_k, long))) at c);
  placed = filed-moved (place_home mask) (mask + 2) slots by_place by_place' x (place_home mask v) v h.placed low refl e';
  free = count';
  few = omega (arith, h.few, length-set slots x v);
  many = omega (arith, h.many, long);
}
  where
    lists : by_chain'.lists ≡ moved_last x l by_chain.lists
    lists = ap (λ (c : Linked). c.lists) e

    long : length by_chain'.lists ≡ length by_chain.lists
    long = ap length lists ∙ length-moved x l by_chain.lists

    nodes : (k : ℕ) → k < length by_chain.lists → nodes_of k by_chain'.lists ≡ without x (nodes_of k by_chain.lists) ++ cond (k == l) (x ∷ []) []
    nodes k in_k = ap (nodes_of k) lists ∙ nodes-moved x l k by_chain.lists in_k

    once : (y : ℕ) → standing y (moved_last x l by_chain.lists) ≤ 1
    once y =
        let put = standing-put x y l (map (without x) by_chain.lists) (omega (arith, inside, length-map by_chain.lists (without x))) in
        elim (cases_eq y x) [
          | inl same ↦ rw same (let one : bit (x == x) ≡ 1 = rw (eq-eqb x x refl) refl in omega (arith, standing-put x x l (map (without x) by_chain.lists) (omega (arith, inside, length-map by_chain.lists (without x))), standing-without x by_chain.lists, one))
          | inr other ↦ (let none : bit (x == y) ≡ 0 = rw (ne_eqb x y (λ q. other (sym q))) refl in omega (arith, put, standing-without_other x y by_chain.lists other, none, h.once y))
        ]

    held : (k n : ℕ) → 0 < k → k < length by_chain.lists → 0 < count n (without x (nodes_of k by_chain.lists) ++ cond (k == l) (x ∷ []) []) → IsSome (in_slot n (set slots x v))
    held k n some in_k c =
        let sum = total-append (λ y. bit (y == n)) (without x (nodes_of k by_chain.lists)) (cond (k == l) (x ∷ []) []) in
        elim (cases_eq n x) [
          | inl same ↦ elim (cases_eq k l) [
            | inl here ↦ rw (same, in-set slots x v low) (full (omega (arith, some, here)))
            | inr off ↦ absurd (let none : count n (cond (k == l) (x ∷ []) []) ≡ 0 = rw (ne_eqb k l off) refl in omega (arith, c, sum, none, ap (λ j. count j (without x (nodes_of k by_chain.lists))) same, count-without x (nodes_of k by_chain.lists)))
          ]
          | inr other ↦ (let none : count n (cond (k == l) (x ∷ []) []) ≡ 0 = only (k == l) n other in
              rw (in-set_other slots x n v other) (h.held k n some in_k (omega (arith, c, sum, none, count-without_other x n (nodes_of k by_chain.lists) other))))
        ]
      where
        only : (b : Bool) (n : ℕ) → n ≢ x → count n (cond b (x ∷ []) []) ≡ 0
        only true n ne = let no : bit (x == n) ≡ 0 = rw (ne_eqb x n (λ q. ne (sym q))) refl in omega (arith, no)
        only false n ne = refl

-- the blocks of a list in which the slot doesn't stand
stays : (slots : List (Option Block)) (lists : List (List ℕ)) (x l k : ℕ) (v : Option Block) → x < length slots → count x (nodes_of k lists) ≡ 0 → k < length lists → in_slots (set slots x v) (nodes_of k (moved_last x l lists)) ≡ in_slots slots (nodes_of k lists) ++ cond (k == l) (option_to_list v) []
stays slots lists x l k v low none in_k =
    let ns = nodes_of k lists in
    ap (in_slots (set slots x v)) (nodes-moved x l k lists in_k ∙ ap (λ zs. zs ++ cond (k == l) (x ∷ []) []) (without-none x ns none))
    ∙ (slots-append (set slots x v) ns (cond (k == l) (x ∷ []) []) ∙ (ap (λ bs. bs ++ in_slots (set slots x v) (cond (k == l) (x ∷ []) [])) (slots-set slots x v ns none) ∙ ap (λ bs. in_slots slots ns ++ bs) (end (k == l))))
  where
    end : (b : Bool) → in_slots (set slots x v) (cond b (x ∷ []) []) ≡ cond b (option_to_list v) []
    end true = ap (λ s. option_to_list s ++ []) (in-set slots x v low) ∙ append-nil (option_to_list v)
    end false = refl

-- the chains of other numbers, where a slot goes from one list to another
keeps : (slots : List (Option Block)) (by_chain by_chain' by_place : Linked) (mask room x from l n : ℕ) (v : Option Block) → IsListed slots by_chain by_place mask room → x < length slots → 0 < count x (nodes_of from by_chain.lists) → ((m : ℕ) → (m ≡ n → ⊥) → (from ≢ m + 1) × (m + 1 ≢ l)) → by_chain' ≡ moved_node x l by_chain
    → KeepsOthers n (lists_in slots by_chain.lists) (lists_in (set slots x v) by_chain'.lists)
keeps slots by_chain by_chain' by_place mask room x from l n v h low stands apart e m ne =
    seen m (set slots x v) by_chain'.lists ∙ (elim (cases_lt (m + 1) (length by_chain.lists)) [ inl in_m ↦ inside in_m | inr out ↦ outside out ] ∙ sym (seen m slots by_chain.lists))
  where
    lists : by_chain'.lists ≡ moved_last x l by_chain.lists
    lists = ap (λ (c : Linked). c.lists) e

    inside : m + 1 < length by_chain.lists → in_slots (set slots x v) (nodes_of (m + 1) by_chain'.lists) ≡ in_slots slots (nodes_of (m + 1) by_chain.lists)
    inside in_m =
        let none : count x (nodes_of (m + 1) by_chain.lists) ≡ 0 = omega (arith, two_lists x from (m + 1) by_chain.lists (apart m ne).0, h.once x, stands) in
        ap (λ ls. in_slots (set slots x v) (nodes_of (m + 1) ls)) lists ∙ (stays slots by_chain.lists x l (m + 1) v low none in_m ∙ (ap (λ bs. in_slots slots (nodes_of (m + 1) by_chain.lists) ++ bs) (ends_off (m + 1) l (option_to_list v) (apart m ne).1) ∙ append-nil (in_slots slots (nodes_of (m + 1) by_chain.lists))))

    outside : length by_chain.lists ≤ m + 1 → in_slots (set slots x v) (nodes_of (m + 1) by_chain'.lists) ≡ in_slots slots (nodes_of (m + 1) by_chain.lists)
    outside out =
        ap (in_slots (set slots x v)) (past_end by_chain'.lists (m + 1) [] (omega (arith, out, ap length lists, length-moved x l by_chain.lists))) ∙ sym (ap (in_slots slots) (past_end by_chain.lists (m + 1) [] out))

pub room-fits : (slots : List (Option Block)) (by_chain by_place : Linked) (mask room : ℕ) → IsListed slots by_chain by_place mask room → room < 2 ^ 32
room-fits slots by_chain by_place mask room h =
    omega (arith, few (length slots) (nodes_of 0 by_chain.lists) (λ y. omega (arith, one_list y 0 by_chain.lists, h.once y)) (h.below 0 h.some), h.free, h.few)

length-moved_lists : (slots : List (Option Block)) (by_chain by_chain' : Linked) (x l : ℕ) (v : Option Block) → by_chain' ≡ moved_node x l by_chain → length (lists_in (set slots x v) by_chain'.lists) ≡ length (lists_in slots by_chain.lists)
length-moved_lists slots by_chain by_chain' x l v e =
    omega (arith, length-seen (set slots x v) by_chain'.lists, length-seen slots by_chain.lists, ap (λ (c : Linked). length c.lists) e, length-moved x l by_chain.lists)

-- ---- a block at the end of a chain

pub record IsAppended (n : ℕ) (b : Block) (slots slots' : List (Option Block)) (by_chain by_chain' by_place' : Linked) (mask room : ℕ) : Type 0 where
  pub listed : IsListed slots' by_chain' by_place' mask (room - 1)
  pub appends : Appends n b (lists_in slots by_chain.lists) (lists_in slots' by_chain'.lists)
  pub long : length (lists_in slots' by_chain'.lists) ≡ length (lists_in slots by_chain.lists)
  pub few : length (blocks_of n (lists_in slots' by_chain'.lists)) < 2 ^ 32

pub appended : (slots : List (Option Block)) (by_chain by_chain' by_place by_place' : Linked) (mask room x n : ℕ) (b : Block) → IsListed slots by_chain by_place mask room → x < length slots → n + 1 < length by_chain.lists → IsLast x (nodes_of 0 by_chain.lists)
    → by_chain' ≡ moved_node x (n + 1) by_chain → by_place' ≡ moved_node x (bucket_of mask b.first) by_place → IsAppended n b slots (set slots x (Some b)) by_chain by_chain' by_place' mask room
appended slots by_chain by_chain' by_place by_place' mask room x n b h low inside last e e' = record {
  listed = listed;
  appends = record { own = own; other = keeps slots by_chain by_chain' by_place mask room x 0 (n + 1) n (Some b) h low stands (λ m ne. (λ q. omega (arith, q), λ q. ne (omega (arith, q)))) e };
  long = length-moved_lists slots by_chain by_chain' x (n + 1) (Some b) e;
  few = rw (seen n (set slots x (Some b)) by_chain'.lists)
      (omega (arith, in-length (set slots x (Some b)) (nodes_of (n + 1) by_chain'.lists), few (length (set slots x (Some b))) (nodes_of (n + 1) by_chain'.lists) (λ y. omega (arith, one_list y (n + 1) by_chain'.lists, listed.once y)) (listed.below (n + 1) inside'), listed.few));
}
  where
    lists : by_chain'.lists ≡ moved_last x (n + 1) by_chain.lists
    lists = ap (λ (c : Linked). c.lists) e

    inside' : n + 1 < length by_chain'.lists
    inside' = omega (arith, inside, ap length lists, length-moved x (n + 1) by_chain.lists)

    stands : 0 < count x (nodes_of 0 by_chain.lists)
    stands = counts-last x (nodes_of 0 by_chain.lists) last

    none : count x (nodes_of (n + 1) by_chain.lists) ≡ 0
    none = omega (arith, two_lists x 0 (n + 1) by_chain.lists (λ q. omega (arith, q)), h.once x, stands)

    left : length (nodes_of 0 by_chain'.lists) ≡ length (without x (nodes_of 0 by_chain.lists))
    left = ap length (ap (nodes_of 0) lists ∙ (nodes-moved x (n + 1) 0 by_chain.lists h.some ∙ (ap (λ zs. without x (nodes_of 0 by_chain.lists) ++ zs) (ends_off 0 (n + 1) (x ∷ []) (λ q. omega (arith, q))) ∙ append-nil (without x (nodes_of 0 by_chain.lists)))))

    count' : room - 1 ≡ length (nodes_of 0 by_chain'.lists)
    count' = omega (arith, left, length-without x (nodes_of 0 by_chain.lists), h.free, stands, one_list x 0 by_chain.lists, h.once x)

    listed : IsListed (set slots x (Some b)) by_chain' by_place' mask (room - 1)
    listed = listed-moved slots by_chain by_chain' by_place by_place' mask room (room - 1) x (n + 1) (Some b) h low inside (λ some. refl) e e' count'

    own : blocks_of n (lists_in (set slots x (Some b)) by_chain'.lists) ≡ blocks_of n (lists_in slots by_chain.lists) ++ b ∷ []
    own =
        seen n (set slots x (Some b)) by_chain'.lists
        ∙ (ap (λ ls. in_slots (set slots x (Some b)) (nodes_of (n + 1) ls)) lists
        ∙ (stays slots by_chain.lists x (n + 1) (n + 1) (Some b) low none inside
        ∙ (ap (λ bs. in_slots slots (nodes_of (n + 1) by_chain.lists) ++ bs) (ends_on (n + 1) (n + 1) (b ∷ []) refl) ∙ ap (λ bs. bs ++ b ∷ []) (sym (seen n slots by_chain.lists)))))

-- ---- the first block of a chain, taken out

pub record IsTaken (n : ℕ) (b : Block) (slots slots' : List (Option Block)) (by_chain by_chain' by_place' : Linked) (mask room : ℕ) : Type 0 where
  pub listed : IsListed slots' by_chain' by_place' mask (room + 1)
  pub takes : TakesFirst n b (lists_in slots by_chain.lists) (lists_in slots' by_chain'.lists)
  pub long : length (lists_in slots' by_chain'.lists) ≡ length (lists_in slots by_chain.lists)

pub some-in : (o : Option Block) → IsSome o → (b : Block) × (o ≡ Some b)
some-in None h = absurd (cc h)
some-in (Some b) h = (b, refl)

pub first-behind : (ns : List ℕ) (x : ℕ) → slice_get ns 0 ≡ Some x → (ms : List ℕ) × (ns ≡ x ∷ ms)
first-behind [] x h = absurd (none-some x h)
first-behind (n ∷ ns) x h = (ns, ap (λ y. y ∷ ns) (same_Some n x h))

pub none-first : (ns : List ℕ) → slice_get ns 0 ≡ None → ns ≡ []
none-first [] h = refl
none-first (n ∷ ns) h = absurd (none-some n (sym h))

pub taken : (slots : List (Option Block)) (by_chain by_chain' by_place by_place' : Linked) (mask room x n : ℕ) (b : Block) → IsListed slots by_chain by_place mask room → x < length slots → n + 1 < length by_chain.lists → slice_get (nodes_of (n + 1) by_chain.lists) 0 ≡ Some x → in_slot x slots ≡ Some b
    → by_chain' ≡ moved_node x 0 by_chain → by_place' ≡ moved_node x 0 by_place → IsTaken n b slots (set slots x None) by_chain by_chain' by_place' mask room
taken slots by_chain by_chain' by_place by_place' mask room x n b h low inside first holds e e' =
    let (ms, is) = first-behind (nodes_of (n + 1) by_chain.lists) x first in by ms is
  where
    lists : by_chain'.lists ≡ moved_last x 0 by_chain.lists
    lists = ap (λ (c : Linked). c.lists) e

    by : (ms : List ℕ) → nodes_of (n + 1) by_chain.lists ≡ x ∷ ms → IsTaken n b slots (set slots x None) by_chain by_chain' by_place' mask room
    by ms is =
        let one : bit (x == x) ≡ 1 = rw (eq-eqb x x refl) refl in
        let stands : 0 < count x (nodes_of (n + 1) by_chain.lists) = counts-first x (nodes_of (n + 1) by_chain.lists) ms is in
        let once : count x ms ≡ 0 = omega (arith, ap (count x) is, one, one_list x (n + 1) by_chain.lists, h.once x) in
        let none : count x (nodes_of 0 by_chain.lists) ≡ 0 = omega (arith, two_lists x 0 (n + 1) by_chain.lists (λ q. omega (arith, q)), h.once x, stands) in
        let free : nodes_of 0 by_chain'.lists ≡ without x (nodes_of 0 by_chain.lists) ++ x ∷ [] = ap (nodes_of 0) lists ∙ (nodes-moved x 0 0 by_chain.lists h.some ∙ ap (λ zs. without x (nodes_of 0 by_chain.lists) ++ zs) (ends_on 0 0 (x ∷ []) refl)) in
        let count' : room + 1 ≡ length (nodes_of 0 by_chain'.lists) = omega (arith, ap length free, length-append (without x (nodes_of 0 by_chain.lists)) (x ∷ []), length-without x (nodes_of 0 by_chain.lists), none, h.free) in
        let left : nodes_of (n + 1) by_chain'.lists ≡ ms =
        ap (nodes_of (n + 1)) lists
        ∙ (nodes-moved x 0 (n + 1) by_chain.lists inside
        ∙ (ap (λ zs. without x (nodes_of (n + 1) by_chain.lists) ++ zs) (ends_off (n + 1) 0 (x ∷ []) (λ q. omega (arith, q)))
        ∙ (append-nil (without x (nodes_of (n + 1) by_chain.lists)) ∙ (ap (without x) is ∙ (rw (eq-eqb x x refl) (without-none x ms once)))))) in
        let old : blocks_of n (lists_in slots by_chain.lists) ≡ b ∷ in_slots slots ms = seen n slots by_chain.lists ∙ (ap (in_slots slots) is ∙ ap (λ s. option_to_list s ++ in_slots slots ms) holds) in
        let new : blocks_of n (lists_in (set slots x None) by_chain'.lists) ≡ in_slots slots ms = seen n (set slots x None) by_chain'.lists ∙ (ap (in_slots (set slots x None)) left ∙ slots-set slots x None ms once) in
        record {
          listed = listed-moved slots by_chain by_chain' by_place by_place' mask room (room + 1) x 0 None h low h.some (λ some. absurd (omega (arith, some))) e e' count';
          takes = record {
            own = old ∙ ap (λ bs. b ∷ bs) (sym new);
            other = keeps slots by_chain by_chain' by_place mask room x (n + 1) 0 n None h low stands (λ m ne. (λ q. ne (omega (arith, q)), λ q. omega (arith, q))) e;
          };
          long = length-moved_lists slots by_chain by_chain' x 0 None e;
        }

-- the same, told of what contracts see
pub taken-told : (n : ℕ) (b : Block) (slots slots' : List (Option Block)) (by_chain by_chain' by_place' : Linked) (mask room : ℕ) (o : Option Block) (v : Listed) → IsTaken n b slots slots' by_chain by_chain' by_place' mask room → o ≡ Some b → ◌≡◌ {A = Listed} (record { lists = lists_in slots by_chain.lists; room = room }) v
    → MatchOption o ((blocks_of n v.lists ≡ []) × (◌≡◌ {A = Listed} (record { lists = lists_in slots' by_chain'.lists; room = room + 1 }) v)) (λ b. TakesFirst n b v.lists (lists_in slots' by_chain'.lists) × (room + 1 ≡ v.room + 1))
taken-told n b slots slots' by_chain by_chain' by_place' mask room o v t read view = rw (read, ← view) (t.takes, refl)

-- ---- another last block of a chain

snoc : (xs ys : List Block) (a b : Block) → xs ++ a ∷ [] ≡ ys ++ b ∷ [] → (xs ≡ ys) × (a ≡ b)
snoc [] [] a b h = (refl, cc h)
snoc [] (y ∷ ys) a b h = absurd (omega (arith, ap length h, length-append ys (b ∷ [])))
snoc (x ∷ xs) [] a b h = absurd (omega (arith, ap length h, length-append xs (a ∷ [])))
snoc (x ∷ xs) (y ∷ ys) a b h =
    let first : x ≡ y = cc h in
    let rest = snoc xs ys a b (cc h) in
    (rw (first, rest.0) refl, rest.1)

-- the blocks of a list, with its last one behind the others
pub last-seen : (slots : List (Option Block)) (ns : List ℕ) (x : ℕ) (b : Block) → IsLast x ns → in_slot x slots ≡ Some b → in_slots slots ns ≡ in_slots slots (without x ns) ++ b ∷ []
last-seen slots ns x b last holds = ap (in_slots slots) last ∙ (slots-append slots (without x ns) (x ∷ []) ∙ ap (λ s. in_slots slots (without x ns) ++ (option_to_list s ++ [])) holds)

pub last-told : (n x : ℕ) (b : Block) (slots : List (Option Block)) (lists : List (List ℕ)) (o : Option Block) (v : List (List Block)) → IsLast x (nodes_of (n + 1) lists) → in_slot x slots ≡ Some b → o ≡ Some b → lists_in slots lists ≡ v
    → MatchOption o (blocks_of n v ≡ []) (λ c. (front : List Block) × (blocks_of n v ≡ front ++ c ∷ []))
last-told n x b slots lists o v last holds read view = rw (read, ← view) (in_slots slots (without x (nodes_of (n + 1) lists)), seen n slots lists ∙ last-seen slots (nodes_of (n + 1) lists) x b last holds)

pub record IsCutLast (n words : ℕ) (slots slots' : List (Option Block)) (by_chain by_place : Linked) (mask room : ℕ) : Type 0 where
  pub listed : IsListed slots' by_chain by_place mask room
  pub cuts : (front : List Block) (last : Block) → blocks_of n (lists_in slots by_chain.lists) ≡ front ++ last ∷ [] → Cuts n front last (record { first = last.first; words = words }) (lists_in slots by_chain.lists) (lists_in slots' by_chain.lists)

pub cut_last : (slots : List (Option Block)) (by_chain by_place : Linked) (mask room x n words : ℕ) (b : Block) → IsListed slots by_chain by_place mask room → x < length slots → n + 1 < length by_chain.lists → IsLast x (nodes_of (n + 1) by_chain.lists) → in_slot x slots ≡ Some b
    → IsCutLast n words slots (set slots x (Some (record { first = b.first; words = words }))) by_chain by_place mask room
cut_last slots by_chain by_place mask room x n words b h low inside last holds =
    let left : Block = record { first = b.first; words = words } in
    let ns = nodes_of (n + 1) by_chain.lists in
    record {
      listed = record {
        nodes = h.nodes ∙ sym (length-set slots x (Some left));
        some = h.some;
        once = h.once;
        below = λ k in_k. rw (length-set slots x (Some left)) (h.below k in_k);
        held = λ k m some in_k c. elim (cases_eq m x) [ inl same ↦ rw (same, in-set slots x (Some left) low) refl | inr other ↦ rw (in-set_other slots x m (Some left) other) (h.held k m some in_k c) ];
        placed = filed-still (place_home mask) (mask + 2) slots by_place x (Some left) h.placed low (sym (ap (place_home mask) holds));
        free = h.free;
        few = omega (arith, h.few, length-set slots x (Some left));
        many = h.many;
      };
      cuts = λ front back is.
          let parts = snoc (in_slots slots (without x ns)) front b back (sym (last-seen slots ns x b last holds) ∙ (sym (seen n slots by_chain.lists) ∙ is)) in
          record {
            before = is;
            own = seen n (set slots x (Some left)) by_chain.lists
                ∙ (last-seen (set slots x (Some left)) ns x left last (in-set slots x (Some left) low)
                ∙ (ap (λ bs. bs ++ left ∷ []) (slots-set slots x (Some left) (without x ns) (count-without x ns) ∙ parts.0) ∙ ap (λ (c : Block). front ++ record { first = c.first; words = words } ∷ []) parts.1));
            other = λ m ne. seen m (set slots x (Some left)) by_chain.lists ∙ (slots-set slots x (Some left) (nodes_of (m + 1) by_chain.lists) (none m ne) ∙ sym (seen m slots by_chain.lists));
          };
    }
  where
    none : (m : ℕ) → (m ≡ n → ⊥) → count x (nodes_of (m + 1) by_chain.lists) ≡ 0
    none m ne = omega (arith, two_lists x (n + 1) (m + 1) by_chain.lists (λ q. ne (omega (arith, q))), h.once x, counts-last x (nodes_of (n + 1) by_chain.lists) last)

pub cut-told : (n words : ℕ) (slots slots' : List (Option Block)) (by_chain by_place : Linked) (mask room : ℕ) (v : List (List Block)) → IsCutLast n words slots slots' by_chain by_place mask room → lists_in slots by_chain.lists ≡ v
    → (front : List Block) (last : Block) → blocks_of n v ≡ front ++ last ∷ [] → Cuts n front last (record { first = last.first; words = words }) v (lists_in slots' by_chain.lists)
cut-told n words slots slots' by_chain by_place mask room v t view = rw (← view) t.cuts

-- ---- blocks that move

moved_there : (change : Move) (n : ℕ) (slots : List (Option Block)) → in_slot n (map (moved_in change) slots) ≡ moved_in change (in_slot n slots)
moved_there change n [] = refl
moved_there change zero (s ∷ ss) = refl
moved_there change (suc n) (s ∷ ss) = moved_there change n ss

moved_slots : (change : Move) (slots : List (Option Block)) (ns : List ℕ) → in_slots (map (moved_in change) slots) ns ≡ map (moved change) (in_slots slots ns)
moved_slots change slots [] = refl
moved_slots change slots (n ∷ ns) = rw (moved_there change n slots) (by (in_slot n slots) (in_slots (map (moved_in change) slots) ns) (moved_slots change slots ns))
  where
    by : (s : Option Block) (bs : List Block) → bs ≡ map (moved change) (in_slots slots ns) → option_to_list (moved_in change s) ++ bs ≡ map (moved change) (option_to_list s ++ in_slots slots ns)
    by None bs h = h
    by (Some b) bs h = ap (λ cs. moved change b ∷ cs) h

pub lists-moved : (change : Move) (slots : List (Option Block)) (lists : List (List ℕ)) → lists_in (map (moved_in change) slots) lists ≡ map (map (moved change)) (lists_in slots lists)
lists-moved change slots lists = each (drop 1 lists)
  where
    each : (ls : List (List ℕ)) → map (in_slots (map (moved_in change) slots)) ls ≡ map (map (moved change)) (map (in_slots slots) ls)
    each [] = refl
    each (l ∷ ls) = rw (moved_slots change slots l, each ls) refl

still_some : (change : Move) (s : Option Block) → IsSome s → IsSome (moved_in change s)
still_some change None h = h
still_some change (Some b) h = refl

pub listed-shifted : (change : Move) (slots slots' : List (Option Block)) (by_chain by_place by_place' : Linked) (mask room : ℕ) → IsListed slots by_chain by_place mask room → slots' ≡ map (moved_in change) slots → IsFiled (place_home mask) (mask + 2) slots' by_place' → IsListed slots' by_chain by_place' mask room
listed-shifted change slots slots' by_chain by_place by_place' mask room h is placed =
    let long : length slots' ≡ length slots = ap length is ∙ length-map slots (moved_in change) in
    record {
      nodes = h.nodes ∙ sym long;
      some = h.some;
      once = h.once;
      below = λ k in_k. rw long (h.below k in_k);
      held = λ k n some in_k c. rw (is, moved_there change n slots) (still_some change (in_slot n slots) (h.held k n some in_k c));
      placed = placed;
      free = h.free;
      few = omega (arith, h.few, long);
      many = h.many;
    }

-- no slot of a place's list has a block there
pub none-found : (place : ℕ) (slots : List (Option Block)) (by_place : Linked) (mask : ℕ) → IsFiled (place_home mask) (mask + 2) slots by_place → AllByRecursion (λ i. is_at place (in_slot i slots) ≡ false) (nodes_of (bucket_of mask place) by_place.lists) → blocks_at place slots ≡ 0
none-found place slots by_place mask h none =
    sym (listed-all (place_home mask) (mask + 2) (λ s. bit (is_at place s)) slots by_place (bucket_of mask place) h (bucket-low mask place) only)
    ∙ none-counts (is_at place) slots (nodes_of (bucket_of mask place) by_place.lists) none
  where
    only : (s : Option Block) → place_home mask s ≢ bucket_of mask place → bit (is_at place s) ≡ 0
    only None ne = refl
    only (Some b) ne =
        elim (b.first == place) as (λ v. (b.first == place) ≡ v → bit v ≡ 0) [
          | true ↦ λ p. absurd (ne (ap (bucket_of mask) (eqb-true b.first place p)))
          | false ↦ λ p. refl
        ] refl

-- one slot's block follows
pub record IsMoved (change : Move) (slots slots' : List (Option Block)) (by_place' : Linked) (mask : ℕ) : Type 0 where
  pub same : map (moved_in change) slots' ≡ map (moved_in change) slots
  pub one : blocks_at change.from slots' + 1 ≡ blocks_at change.from slots
  pub placed : IsFiled (place_home mask) (mask + 2) slots' by_place'

same_moved : (change : Move) (slots : List (Option Block)) (x : ℕ) (v : Option Block) → moved_in change v ≡ moved_in change (in_slot x slots) → map (moved_in change) (set slots x v) ≡ map (moved_in change) slots
same_moved change [] x v h = refl
same_moved change (s ∷ ss) zero v h = ap (λ t. t ∷ map (moved_in change) ss) h
same_moved change (s ∷ ss) (suc x) v h = ap (λ ts. moved_in change s ∷ ts) (same_moved change ss x v h)

pub moved_one : (change : Move) (slots : List (Option Block)) (by_place by_place' : Linked) (mask x : ℕ) (s : Option Block) → change.from ≢ change.to → IsFiled (place_home mask) (mask + 2) slots by_place → x < length slots → is_at change.from (in_slot x slots) ≡ true → s ≡ option_map (λ (b : Block). record b { first = change.to }) (in_slot x slots)
    → by_place' ≡ moved_node x (bucket_of mask change.to) by_place → IsMoved change slots (set slots x s) by_place' mask
moved_one change slots by_place by_place' mask x s other h low here is e = by (in_slot x slots) refl here is
  where
    by : (o : Option Block) → in_slot x slots ≡ o → is_at change.from o ≡ true → s ≡ option_map (λ (b : Block). record b { first = change.to }) o → IsMoved change slots (set slots x s) by_place' mask
    by None holds there made = absurd (cc there)
    by (Some b) holds there made =
        let off : (change.to == change.from) ≡ false = ne_eqb change.to change.from (λ q. other (sym q)) in
        let was : bit (is_at change.from (in_slot x slots)) ≡ 1 = rw (holds, there) refl in
        let now : bit (is_at change.from s) ≡ 0 = rw (made, off) refl in
        record {
          same = same_moved change slots x s (rw (made, holds, off, there) refl);
          one = omega (arith, total-set (λ t. bit (is_at change.from t)) slots x s None low, was, now);
          placed = filed-moved (place_home mask) (mask + 2) slots by_place by_place' x (bucket_of mask change.to) s h low (ap (place_home mask) made) e;
        }

-- where no block stands at the place, nothing moves
pub none-moves : (change : Move) (slots : List (Option Block)) → blocks_at change.from slots ≡ 0 → map (moved_in change) slots ≡ slots
none-moves change [] h = refl
none-moves change (None ∷ ss) h = ap (λ ts. None ∷ ts) (none-moves change ss (omega (arith, h)))
none-moves change (Some b ∷ ss) h =
    elim (b.first == change.from) as (λ v. bit v + blocks_at change.from ss ≡ 0 → Some (cond v (record { first = change.to; words = b.words }) b) ∷ map (moved_in change) ss ≡ Some b ∷ ss) [
      | true ↦ λ q. absurd (omega (arith, q))
      | false ↦ λ q. ap (λ ts. Some b ∷ ts) (none-moves change ss (omega (arith, q)))
    ] h

-- ---- no blocks yet

no-blocks : (n : ℕ) (ns : List ℕ) → in_slots (replicate {A = Option Block} n None) ns ≡ []
no-blocks n [] = refl
no-blocks n (m ∷ ms) = let none : in_slot m (replicate {A = Option Block} n None) ≡ None = nothing n m in rw none (no-blocks n ms)
  where
    nothing : (n m : ℕ) → in_slot m (replicate {A = Option Block} n None) ≡ None
    nothing zero m = refl
    nothing (suc n) zero = refl
    nothing (suc n) (suc m) = nothing n m

none_standing : (x : ℕ) (lists : List (List ℕ)) → ((l : ℕ) → l < length lists → count x (nodes_of l lists) ≡ 0) → standing x lists ≡ 0
none_standing x [] h = refl
none_standing x (l ∷ ls) h = omega (arith, h 0 (omega arith), none_standing x ls (λ k in_k. h (suc k) (omega (arith, in_k))))

behind_first : (k x n : ℕ) → 0 < k → bit ((k == 0) && nat_lt x n) ≡ 0
behind_first k x n some = rw (ne_eqb k 0 (λ q. omega (arith, q, some))) refl

once_free : (x n : ℕ) (free : Linked) → AreFree (n + 1) n free → standing x free.lists ≤ 1
once_free x n free h = by free.lists (λ l in_l. h.placed l x (omega (arith, in_l, h.lists))) (omega (arith, h.lists))
  where
    most : (b : Bool) → bit b ≤ 1
    most true = omega arith
    most false = omega arith

    by : (lists : List (List ℕ)) → ((l : ℕ) → l < length lists → count x (nodes_of l lists) ≡ bit ((l == 0) && nat_lt x n)) → 0 < length lists → standing x lists ≤ 1
    by [] each some = omega arith
    by (l ∷ ls) each some = omega (arith, each 0 (omega arith), most ((0 == 0) && nat_lt x n), none_standing x ls (λ k in_k. each (suc k) (omega (arith, in_k)) ∙ behind_first (suc k) x n (omega arith)))

pub none-listed : (n mask : ℕ) (slots : List (Option Block)) (by_chain by_place : Linked) → n < 2 ^ 31 → slots ≡ replicate n None → AreFree (n + 1) n by_chain → AreFree (mask + 2) n by_place → IsListed slots by_chain by_place mask n
none-listed n mask slots by_chain by_place small is chains places =
    let long : length slots ≡ n = ap length is ∙ length-replicate n None in
    record {
      nodes = chains.nodes ∙ sym long;
      some = omega (arith, chains.lists);
      once = λ x. once_free x n by_chain chains;
      below = λ k in_k. rw long (chains.below k (omega (arith, in_k, chains.lists)));
      held = λ k m some in_k c. absurd (omega (arith, c, chains.placed k m (omega (arith, in_k, chains.lists)), behind_first k m n some));
      placed = rw is (free-filed (place_home mask) (mask + 2) n by_place places refl low);
      free = sym chains.all;
      few = omega (arith, small, long);
      many = omega (arith, small, chains.lists);
    }
  where
    low : (s : Option Block) → place_home mask s < mask + 2
    low None = omega arith
    low (Some b) = bucket-low mask b.first

pub none-seen : (n : ℕ) (slots : List (Option Block)) (by_chain : Linked) → slots ≡ replicate n None → length by_chain.lists ≡ n + 1 → lists_in slots by_chain.lists ≡ replicate n []
none-seen n slots by_chain is many =
    ext_get_or [] (lists_in slots by_chain.lists) (replicate n []) (length-seen slots by_chain.lists ∙ (omega (arith, many) ∙ sym (length-replicate n [])))
    (λ k low. seen k slots by_chain.lists ∙ (ap (λ ss. in_slots ss (nodes_of (k + 1) by_chain.lists)) is ∙ (no-blocks n (nodes_of (k + 1) by_chain.lists)
    ∙ sym (get_or-replicate n k [] [] (omega (arith, low, length-seen slots by_chain.lists, many))))))
