-- Blocks in slots, and lists of these: one of the free slots, one for each chain, and those of the blocks' places.
use Rattle.std.specs.Prelude.{◌≡◌, ℕ, ◌+◌, ◌<◌, ◌≤◌, ◌^◌, Bool, false, List, map, drop, length, Option, Some, None, option_map, ◌==◌}
use Rattle.std.specs.List.{AllByRecursion}
use Rattle.std.specs.Option.{IsSome}
use Rattle.qc_chain.specs.Counts.{total, bit, count}
use Rattle.qc_chain.specs.Linked.{Linked, nodes_of, standing}
use Rattle.qc_chain.specs.Filed.{in_slot, in_slots, IsFiled, bucket_of}
use Rattle.qc_tiles.specs.declared.blocks.Block.{Block}
use Rattle.qc_tiles.specs.declared.blocks.Move.{Move}
use Rattle.qc_tiles.specs.Tiles.{moved}

-- what contracts see: the blocks of each chain, by the chains' numbers, and how many more there is room for
pub record Listed : Type 0 where
  pub lists : List (List Block)
  pub room : ℕ

-- list 0 has the free slots, and the others are those of the chains
abbrev pub lists_in : List (Option Block) → List (List ℕ) → List (List Block)
lists_in slots lists = map (in_slots slots) (drop 1 lists)

-- free slots stand in list 0, and each block in a list of its place
abbrev pub place_home : ℕ → Option Block → ℕ
place_home mask None = 0
place_home mask (Some b) = bucket_of mask b.first

-- No slot stands twice, and those in the list of a chain have a block.
pub record IsListed (slots : List (Option Block)) (by_chain by_place : Linked) (mask room : ℕ) : Type 0 where
  pub nodes : by_chain.nodes ≡ length slots
  pub some : 0 < length by_chain.lists
  pub once : (slot : ℕ) → standing slot by_chain.lists ≤ 1
  pub below : (list : ℕ) → list < length by_chain.lists → AllByRecursion (λ n. n < length slots) (nodes_of list by_chain.lists)
  pub held : (list slot : ℕ) → 0 < list → list < length by_chain.lists → 0 < count slot (nodes_of list by_chain.lists) → IsSome (in_slot slot slots)
  pub placed : IsFiled (place_home mask) (mask + 2) slots by_place
  pub free : room ≡ length (nodes_of 0 by_chain.lists)
  pub few : length slots < 2 ^ 32
  pub many : length by_chain.lists < 2 ^ 32

-- ---- a block that moved

abbrev pub moved_in : Move → Option Block → Option Block
moved_in change slot = option_map (moved change) slot

abbrev pub is_at : ℕ → Option Block → Bool
is_at place None = false
is_at place (Some b) = b.first == place

-- how many blocks stand at a place
abbrev pub blocks_at : ℕ → List (Option Block) → ℕ
blocks_at place slots = total (λ s. bit (is_at place s)) slots
