-- Free blocks by their size, and by their place where they are equally large.
use Rattle.std.specs.Prelude.{◌≡◌, ℕ, ◌+◌, Bool, true, false, ◌&&◌, ◌||◌, List, [], ◌∷◌, ◌++◌, Option, Some, None, nat_lt, ◌==◌, if◌then◌else◌}
use Rattle.std.specs.List.{AllByRecursion}
use Rattle.qc_tiles.specs.declared.blocks.Block.{Block}
use Rattle.qc_tiles.specs.declared.blocks.Tile.{Tile}
use Rattle.qc_tiles.specs.Tiles.{block_of}

-- a block is smaller than one at a place and of so many words
abbrev pub is_smaller : ℕ → ℕ → Block → Bool
is_smaller first words b = nat_lt b.words words || (b.words == words && nat_lt b.first first)

-- Whenever a list is blocks that are smaller and then blocks that aren't, this holds of the two parts.
abbrev pub Parts : ℕ → ℕ → List Block → (List Block → List Block → Type 0) → Type 0
Parts first words bs P = (low high : List Block) → bs ≡ low ++ high → AllByRecursion (λ b. is_smaller first words b ≡ true) low → AllByRecursion (λ b. is_smaller first words b ≡ false) high → P low high

abbrev pub first_of : List Block → Option Block
first_of [] = None
first_of (b ∷ bs) = Some b

abbrev pub last_of : List Block → Option Block
last_of [] = None
last_of (b ∷ []) = Some b
last_of (b ∷ c ∷ bs) = last_of (c ∷ bs)

-- a block put behind those that are smaller
abbrev pub insert_block : Block → List Block → List Block
insert_block b [] = b ∷ []
insert_block b (c ∷ cs) = if is_smaller b.first b.words c then c ∷ insert_block b cs else b ∷ c ∷ cs

-- no block is smaller than one in front of it
abbrev pub IsBySize : List Block → Type 0
IsBySize [] = Unit {0}
IsBySize (b ∷ bs) = AllByRecursion (λ c. is_smaller b.first b.words c ≡ false) bs × IsBySize bs

abbrev pub block_words : List Block → ℕ
block_words [] = 0
block_words (b ∷ bs) = b.words + block_words bs

-- the words of a block that may be there
abbrev pub words_or_none : Option Block → ℕ
words_or_none None = 0
words_or_none (Some b) = b.words

-- a block with the others, where it is free
abbrev pub added : Tile → List Block → List Block
added t bs = if t.free then insert_block (block_of t) bs else bs

-- the free blocks of a list, by size
abbrev pub by_size : List Tile → List Block
by_size [] = []
by_size (t ∷ ts) = added t (by_size ts)

-- what contracts see of the free blocks: these by size, and how many more there is room for
pub record Indexed : Type 0 where
  pub blocks : List Block
  pub room : ℕ
