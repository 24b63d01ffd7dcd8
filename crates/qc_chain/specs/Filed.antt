-- Slots, and lists of their numbers: each number stands in the list that its slot's content belongs to.
use Rattle.std.specs.Prelude.{◌≡◌, ℕ, ◌+◌, ◌*◌, ◌/◌, ◌%◌, ◌<◌, ◌^◌, bit_and, nat_lt, ◌&&◌, List, [], ◌∷◌, ◌++◌, length, Option, None, option_to_list, ◌==◌, slice_index_or}
use Rattle.std.specs.List.{AllByRecursion}
use Rattle.qc_chain.specs.Counts.{bit, count}
use Rattle.qc_chain.specs.Linked.{Linked, nodes_of}

abbrev pub in_slot : {X : Type 0} → ℕ → List (Option X) → Option X
in_slot n slots = slice_index_or slots n None

-- what stands in the slots with these numbers
abbrev pub in_slots : {X : Type 0} → List (Option X) → List ℕ → List X
in_slots slots [] = []
in_slots slots (n ∷ ns) = option_to_list (in_slot n slots) ++ in_slots slots ns

-- what stands in all of them
abbrev pub contents : {X : Type 0} → List (Option X) → List X
contents [] = []
contents (s ∷ ss) = option_to_list s ++ contents ss

-- each number stands once, in the one of so many lists that its slot's content belongs to
pub record IsFiled {X : Type 0} (home : Option X → ℕ) (many : ℕ) (slots : List (Option X)) (filed : Linked) : Type 0 where
  pub nodes : filed.nodes ≡ length slots
  pub lists : length filed.lists ≡ many
  pub homes : (s : Option X) → home s < many
  pub placed : (list n : ℕ) → list < many → n < length slots → count n (nodes_of list filed.lists) ≡ bit (home (in_slot n slots) == list)
  pub below : (list : ℕ) → list < many → AllByRecursion (λ n. n < length slots) (nodes_of list filed.lists)

-- the numbers of the first of so many slots stand in list 0, and the others nowhere yet
pub record IsFreeing (many slots done : ℕ) (filed : Linked) : Type 0 where
  pub nodes : filed.nodes ≡ slots
  pub lists : length filed.lists ≡ many
  pub all : length (nodes_of 0 filed.lists) ≡ done
  pub placed : (list n : ℕ) → list < many → count n (nodes_of list filed.lists) ≡ bit (list == 0 && nat_lt n done)
  pub below : (list : ℕ) → list < many → AllByRecursion (λ n. n < slots) (nodes_of list filed.lists)

-- all slots are free
abbrev pub AreFree : ℕ → ℕ → Linked → Type 0
AreFree many slots filed = IsFreeing many slots slots filed

-- one of the lists from 1 on, in which what has a number stands
unfoldable pub bucket_of : ℕ → ℕ → ℕ
bucket_of mask n = 1 + bit_and (n * 11400714819323198485 % 2 ^ 64 / 2 ^ 32) mask
