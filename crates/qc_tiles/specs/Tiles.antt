-- The blocks of the region, in their order, and what taking, cutting, giving back and moving make of them.
use Rattle.std.specs.Prelude.{◌≡◌, ℕ, ◌+◌, ◌-◌, ◌≤◌, max, Bool, true, false, not, ◌&&◌, List, [], ◌∷◌, ◌++◌, map, length, Option, Some, None, option_map, nat_le, ◌==◌, if◌then◌else◌}
use Rattle.std.specs.List.{AllByRecursion, filter}
use Rattle.qc_types.specs.Blocks.{least_block, raised}
use Rattle.qc_types.specs.declared.totals.Totals.{Totals}
use Rattle.qc_tiles.specs.declared.blocks.Tile.{Tile}
use Rattle.qc_tiles.specs.declared.blocks.Block.{Block}
use Rattle.qc_tiles.specs.declared.blocks.Move.{Move}

abbrev pub tile : ℕ → ℕ → Bool → Bool → Tile
tile first words free pinned = record { first = first; words = words; free = free; pinned = pinned }

abbrev pub free_tile : ℕ → ℕ → Tile
free_tile first words = tile first words true false

abbrev pub block_of : Tile → Block
block_of t = record { first = t.first; words = t.words }

-- ---- tilings

-- the blocks stand one behind the other, from a word on and up to an end
abbrev pub CoversFrom : ℕ → ℕ → List Tile → Type 0
CoversFrom first end [] = first ≡ end
CoversFrom first end (t ∷ ts) = (t.first ≡ first) × CoversFrom (first + t.words) end ts

-- behind a free block no free block stands
abbrev pub FreeApart : List Tile → Type 0
FreeApart [] = Unit {0}
FreeApart (t ∷ []) = Unit {0}
FreeApart (t ∷ u ∷ ts) = (t.free ≡ true → u.free ≡ false) × FreeApart (u ∷ ts)

-- a list of blocks that covers the words from 0 up to these, each once
pub record IsTiling (words : ℕ) (tiles : List Tile) : Type 0 where
  pub covers : CoversFrom 0 words tiles
  pub large : AllByRecursion (λ t. least_block ≤ t.words) tiles
  pub apart : FreeApart tiles
  pub unpinned : AllByRecursion (λ t. t.free ≡ true → t.pinned ≡ false) tiles

-- the words of all blocks together
abbrev pub region_words : List Tile → ℕ
region_words [] = 0
region_words (t ∷ ts) = t.words + region_words ts

-- a region of so many words in one free block, or in none where it has no words
abbrev pub fresh : ℕ → List Tile
fresh words = if words == 0 then [] else free_tile 0 words ∷ []

abbrev pub handed_out : List Tile → List Block
handed_out tiles = map block_of (filter (λ t. not t.free) tiles)

-- ---- the list after a change

-- free neighbours as one block
abbrev pub joined_to : Tile → List Tile → List Tile
joined_to t [] = t ∷ []
joined_to t (u ∷ us) = if t.free && u.free then free_tile t.first (t.words + u.words) ∷ us else t ∷ u ∷ us

abbrev pub joined : List Tile → List Tile
joined [] = []
joined (t ∷ ts) = joined_to t (joined ts)

-- the block at a place becomes these blocks
abbrev pub replaced : ℕ → (Tile → List Tile) → List Tile → List Tile
replaced first f [] = []
replaced first f (t ∷ ts) = if t.first == first then f t ++ replaced first f ts else t ∷ replaced first f ts

-- the words that are handed out of a block of so many: a rest below 64 words goes with them
abbrev pub cut_words : ℕ → ℕ → ℕ
cut_words wanted words = if nat_le (wanted + least_block) words then wanted else words

-- the front of a block handed out, and the rest free
abbrev pub cut : ℕ → Bool → Tile → List Tile
cut wanted pinned t =
    if nat_le (wanted + least_block) t.words
    then tile t.first wanted false pinned ∷ free_tile (t.first + wanted) (t.words - wanted) ∷ []
    else tile t.first t.words false pinned ∷ []

-- ---- taking

abbrev pub holds : ℕ → Tile → Bool
holds need t = t.free && nat_le need t.words

abbrev pub smaller : Tile → Option Tile → Tile
smaller t None = t
smaller t (Some u) = if nat_le t.words u.words then t else u

-- the smallest free block that holds a need, and of equal ones the lowest
abbrev pub best : ℕ → List Tile → Option Tile
best need [] = None
best need (t ∷ ts) = if holds need t then Some (smaller t (best need ts)) else best need ts

abbrev pub taken_from : ℕ → Option Tile → Option Block
taken_from need found = option_map (λ t. record { first = t.first; words = cut_words need t.words }) found

abbrev pub cut_from : ℕ → Option Tile → List Tile → List Tile
cut_from need None tiles = tiles
cut_from need (Some t) tiles = replaced t.first (cut need false) tiles

-- the block that a need gets, if any
abbrev pub taken : ℕ → List Tile → Option Block
taken need tiles = taken_from (raised need) (best (raised need) tiles)

abbrev pub after_take : ℕ → List Tile → List Tile
after_take need tiles = cut_from (raised need) (best (raised need) tiles) tiles

-- the words of the largest free block, or 0
abbrev pub largest_free : List Tile → ℕ
largest_free [] = 0
largest_free (t ∷ ts) = if t.free then max t.words (largest_free ts) else largest_free ts

-- ---- cutting, giving back, pinning

-- what is left of a block that is cut to the words that are used
abbrev pub trimmed : ℕ → Block → Block
trimmed used b = record { first = b.first; words = cut_words (raised used) b.words }

abbrev pub after_trim : ℕ → ℕ → List Tile → List Tile
after_trim first used tiles = joined (replaced first (λ t. cut (raised used) t.pinned t) tiles)

abbrev pub after_give_back : ℕ → List Tile → List Tile
after_give_back first tiles = joined (replaced first (λ t. free_tile t.first t.words ∷ []) tiles)

abbrev pub after_pin : Bool → ℕ → List Tile → List Tile
after_pin pinned first tiles = replaced first (λ t. tile t.first t.words false pinned ∷ []) tiles

-- ---- moving down

-- a block may move down where it is handed out and unpinned, and a free block is just below it
abbrev pub may_move : Tile → Tile → Bool
may_move below t = below.free && (not t.free && not t.pinned)

-- the lowest block that may move down, and where it goes
abbrev pub movable : List Tile → Option Move
movable [] = None
movable (t ∷ []) = None
movable (t ∷ u ∷ ts) = if may_move t u then Some (record { from = u.first; to = t.first; words = u.words }) else movable (u ∷ ts)

-- that block and the free one below it have changed places
abbrev pub swapped : List Tile → List Tile
swapped [] = []
swapped (t ∷ []) = t ∷ []
swapped (t ∷ u ∷ ts) = if may_move t u then tile t.first u.words false false ∷ free_tile (t.first + u.words) t.words ∷ ts else t ∷ swapped (u ∷ ts)

abbrev pub after_move_down : List Tile → List Tile
after_move_down tiles = joined (swapped tiles)

-- a block that stood where something moved away stands where that went
abbrev pub moved : Move → Block → Block
moved change b = if b.first == change.from then record { first = change.to; words = b.words } else b

-- ---- totals

abbrev pub free_count : List Tile → ℕ
free_count tiles = length (filter (λ t. t.free) tiles)

abbrev pub free_words : List Tile → ℕ
free_words [] = 0
free_words (t ∷ ts) = if t.free then t.words + free_words ts else free_words ts

abbrev pub totals_of : List Tile → Totals
totals_of tiles = record { blocks = length tiles; free_blocks = free_count tiles; free_words = free_words tiles }
