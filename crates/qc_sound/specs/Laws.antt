-- What the lock asks of a sound server.
use Rattle.std.specs.Prelude.{◌≡◌, ◌≢◌, ℕ, ◌<◌, Bool, not, ◌&&◌, ◌==◌, List, length, map, filter, slice_index}
use Rattle.std.specs.List.{list_any}
use Rattle.qc_tiles.specs.declared.blocks.Tile.{Tile}
use Rattle.qc_tiles.specs.declared.blocks.Block.{Block}
use Rattle.qc_tiles.specs.Tiles.{block_of, handed_out}
use Rattle.qc_turn.specs.declared.task.ListedTask.{ListedTask}
use Rattle.qc_turn.specs.Blocks.{places, Misses, IsDistinct}
use Rattle.qc_turn.specs.Tasks.{places_of, fill_places, listed_for}
use Rattle.qc_turn.specs.Words.{StartsWith}
use Rattle.qc_sound.specs.PlainServer.{PlainServer, listed_tasks}
use Rattle.qc_sound.specs.Moment.{Moment}
use Rattle.qc_sound.specs.Sound.{IsSound, FitsFill}

abbrev pub free_blocks : List Tile → List Block
free_blocks tiles = map block_of (filter (λ t. t.free) tiles)

abbrev pub is_block : Block → Block → Bool
is_block b c = b.first == c.first && b.words == c.words

abbrev pub is_in_task : List ListedTask → Block → Bool
is_in_task tasks b = list_any (λ t. list_any (is_block b) t.blocks) tasks

-- the blocks that are handed out and in no listed task
abbrev pub taken_blocks : List Tile → List ListedTask → List Block
taken_blocks tiles tasks = filter (λ b. not (is_in_task tasks b)) (handed_out tiles)

module _ (moment : Moment) where
  -- The words of a listed task lie within the region.
  abbrev pub Within : Type 0
  Within = (words : List ℕ) (v : PlainServer) (n k : ℕ) → IsSound moment words v → k < length (places_of (listed_for n (listed_tasks v))) → slice_index (places_of (listed_for n (listed_tasks v))) k < length words

  -- The bytes of a fill still fit by the journal of a later server.
  abbrev pub FitsOn : Type 0
  FitsOn = (words over : List ℕ) (v w : PlainServer) (serial : ℕ) (bytes : List ℕ) → IsSound moment words v → IsSound moment over w → StartsWith w.journal v.journal
      → FitsFill v.journal serial bytes → FitsFill w.journal serial bytes

  -- A server stays sound over words that differ only inside fills.
  abbrev pub FillsFree : Type 0
  FillsFree = (words over : List ℕ) (v : PlainServer) → IsSound moment words v → length over ≡ length words
      → ((k : ℕ) → ((n : ℕ) → Misses k (fill_places (listed_for n (listed_tasks v)))) → slice_index over k ≡ slice_index words k) → IsSound moment over v

  -- A word of a fill is in no task of another seat.
  abbrev pub FillsApart : Type 0
  FillsApart = (words : List ℕ) (v : PlainServer) (n m k : ℕ) → IsSound moment words v → n ≢ m → (Misses k (fill_places (listed_for n (listed_tasks v))) → ⊥) → Misses k (places_of (listed_for m (listed_tasks v)))

  -- A word of a listed task is in no free block, and in no other block that is handed out.
  abbrev pub TasksApart : Type 0
  TasksApart = (words : List ℕ) (v : PlainServer) (n k : ℕ) → IsSound moment words v → (Misses k (places_of (listed_for n (listed_tasks v))) → ⊥)
      → Misses k (places (free_blocks v.tiles)) × Misses k (places (taken_blocks v.tiles (listed_tasks v)))

  -- A task has each word once.
  abbrev pub Once : Type 0
  Once = (words : List ℕ) (v : PlainServer) (n : ℕ) → IsSound moment words v → IsDistinct (places_of (listed_for n (listed_tasks v)))
