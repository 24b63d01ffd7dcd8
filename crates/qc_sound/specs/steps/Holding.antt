-- What a start under way takes and gives back, what it has in mind, and the words that it stores.
use Rattle.std.specs.Prelude.{◌≡◌, ℕ, List, length, slice_index, Option}
use Rattle.qc_model.specs.declared.events.Event.{Event}
use Rattle.qc_tiles.specs.declared.blocks.Tile.{Tile}
use Rattle.qc_tiles.specs.declared.blocks.Block.{Block}
use Rattle.qc_turn.specs.Blocks.{places, Misses}
use Rattle.qc_sound.specs.PlainServer.{PlainServer}
use Rattle.qc_sound.specs.Moment.{Moment}
use Rattle.qc_sound.specs.Pending.{NeedsOf}
use Rattle.qc_sound.specs.parts.Memory.{TilesAreSound, blocks_in_use}
use Rattle.qc_sound.specs.Sound.{IsSound}

abbrev pub with_tiles : List Tile → PlainServer → PlainServer
with_tiles tiles s = record s { tiles = tiles }

-- Blocks are taken or given back, and another event comes to mind.
abbrev pub HoldSteps : Type 0
HoldSteps = (moment : Moment) (next : Option Event) (held : List Block) (words : List ℕ) (s : PlainServer) (tiles : List Tile) → IsSound moment words s → NeedsOf s.options next s.journal
    → TilesAreSound (record moment { next = next; held = held }) (with_tiles tiles s) → IsSound (record moment { next = next; held = held }) words (with_tiles tiles s)

-- Words that are in no block in use may change.
abbrev pub StoreSteps : Type 0
StoreSteps = (moment : Moment) (words over : List ℕ) (s : PlainServer) → IsSound moment words s → length over ≡ length words
    → ((k : ℕ) → (Misses k (places (blocks_in_use s)) → ⊥) → slice_index over k ≡ slice_index words k) → IsSound moment over s
