-- Chains of blocks under their names, and what each call makes of them.
use Rattle.std.specs.Prelude.{◌≡◌, ℕ, ◌+◌, ◌-◌, ◌*◌, ◌/◌, ◌<◌, ◌≤◌, List, [], ◌∷◌, ◌++◌, map, length, Option, Some, None, option_map, option_and_then, slice_get, slice_set, replicate, Contains, ◌==◌, if◌then◌else◌}
use Rattle.std.specs.List.{AllByRecursion}
use Rattle.qc_tiles.specs.declared.blocks.Block.{Block}
use Rattle.qc_tiles.specs.declared.blocks.Move.{Move}
use Rattle.qc_tiles.specs.declared.blocks.Tile.{Tile}
use Rattle.qc_tiles.specs.Tiles.{handed_out, moved, after_give_back, after_trim, trimmed}
use Rattle.qc_chain.specs.declared.names.Extent.{Extent}
use Rattle.qc_chain.specs.Words.{words_of}

-- a chain: its blocks in the order in which they were appended, and its byte length
pub record Chain : Type 0 where
  pub blocks : List Block
  pub bytes : ℕ

-- the chains by their numbers, none under a free name, and how many more blocks there is room for
pub record Chained : Type 0 where
  pub chains : List (Option Chain)
  pub room : ℕ

-- as many free names as there may be blocks
abbrev pub no_chains : ℕ → Chained
no_chains blocks = record { chains = replicate blocks None; room = blocks }

abbrev pub chain_at : ℕ → Chained → Option Chain
chain_at n c = option_and_then (λ x. x) (slice_get c.chains n)

-- a chain that was begun and not released, with its blocks
abbrev pub Begun : ℕ → Chained → Chain → Type 0
Begun n c chain = chain_at n c ≡ Some chain

-- the words and the bytes that a chain may have
pub record IsFit (blocks : List Block) (bytes : ℕ) : Type 0 where
  pub most : words_of blocks ≤ 8388608
  pub within : bytes ≤ 8 * words_of blocks

abbrev pub with_chain : ℕ → Option Chain → Chained → Chained
with_chain n chain c = record c { chains = slice_set c.chains n chain }

-- how much a chain has
abbrev pub extent_of : Chain → Extent
extent_of chain = record { blocks = length chain.blocks; words = words_of chain.blocks; bytes = chain.bytes }

abbrev pub empty_chain : Chain
empty_chain = record { blocks = []; bytes = 0 }

-- the chain of these blocks, with all their bytes
abbrev pub whole_chain : List Block → Chain
whole_chain blocks = record { blocks = blocks; bytes = 8 * words_of blocks }

abbrev pub after_append : ℕ → Block → Chain → Chained → Chained
after_append n block chain c = record { chains = slice_set c.chains n (Some (whole_chain (chain.blocks ++ block ∷ []))); room = c.room - 1 }

abbrev pub moved_chain : Move → Chain → Chain
moved_chain change chain = record chain { blocks = map (moved change) chain.blocks }

abbrev pub after_shift : Move → Chained → Chained
after_shift change c = record c { chains = map (option_map (moved_chain change)) c.chains }

-- ---- with the tiles

-- no block stands in the list twice
abbrev pub AreOnce : List Block → Type 0
AreOnce [] = Unit {0}
AreOnce (b ∷ bs) = (Contains bs b → ⊥) × AreOnce bs

-- these blocks are handed out, and each stands there once
pub record AreHandedOut (tiles : List Tile) (blocks : List Block) : Type 0 where
  pub each : AllByRecursion (Contains (handed_out tiles)) blocks
  pub once : AreOnce blocks

-- the blocks given back, the first one first
abbrev pub after_release : List Block → List Tile → List Tile
after_release [] tiles = tiles
after_release (b ∷ bs) tiles = after_release bs (after_give_back b.first tiles)

-- all blocks but the last
abbrev pub but_last : List Block → List Block
but_last [] = []
but_last (b ∷ []) = []
but_last (b ∷ c ∷ bs) = b ∷ but_last (c ∷ bs)

abbrev pub last_block : List Block → Option Block
last_block [] = None
last_block (b ∷ []) = Some b
last_block (b ∷ c ∷ bs) = last_block (c ∷ bs)

-- the words that so many bytes need
abbrev pub words_for : ℕ → ℕ
words_for bytes = (bytes + 7) / 8

-- so many bytes end in the last block
pub record EndsInLast (blocks : List Block) (bytes : ℕ) : Type 0 where
  pub some : 0 < length blocks
  pub more : 8 * words_of (but_last blocks) < bytes
  pub within : bytes ≤ 8 * words_of blocks

-- the words of the last block that so many bytes use
abbrev pub used_words : List Block → ℕ → ℕ
used_words blocks bytes = words_for bytes - words_of (but_last blocks)

-- the chain cut to so many bytes: its last block is trimmed to the words that they use
abbrev pub cut_blocks : ℕ → List Block → List Block
cut_blocks used [] = []
cut_blocks used (b ∷ []) = trimmed used b ∷ []
cut_blocks used (b ∷ c ∷ bs) = b ∷ cut_blocks used (c ∷ bs)

abbrev pub cut_chain : ℕ → Chain → Chain
cut_chain bytes chain = record { blocks = cut_blocks (used_words chain.blocks bytes) chain.blocks; bytes = bytes }

-- the tiles after the last block was trimmed
abbrev pub after_cut : ℕ → List Block → List Tile → List Tile
after_cut used [] tiles = tiles
after_cut used (b ∷ []) tiles = after_trim b.first used tiles
after_cut used (b ∷ c ∷ bs) tiles = after_cut used (c ∷ bs) tiles

-- ---- ranges

-- blocks in order, a byte length, and how many blocks there is room for
pub record Ranged : Type 0 where
  pub blocks : List Block
  pub bytes : ℕ
  pub room : ℕ
