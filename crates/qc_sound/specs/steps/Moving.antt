-- A block that nobody pins moves down, and its words with it.
use Rattle.std.specs.Prelude.{◌≡◌, ◌≢◌, ℕ, ◌+◌, ◌<◌, ◌≤◌, List, [], ◌∷◌, map, length, slice_index, Contains, Some}
use Rattle.qc_tiles.specs.declared.blocks.Tile.{Tile}
use Rattle.qc_tiles.specs.declared.blocks.Block.{Block}
use Rattle.qc_tiles.specs.declared.blocks.Move.{Move}
use Rattle.qc_tiles.specs.Tiles.{moved, movable, after_move_down}
use Rattle.qc_turn.specs.Blocks.{spelled}
use Rattle.qc_sound.specs.PlainServer.{PlainServer, StoredEntry, EntryChain, listed_tasks}
use Rattle.qc_sound.specs.Moment.{Moment}
use Rattle.qc_sound.specs.parts.Memory.{TilesAreSound, blocks_in_use, blocks_of_tasks}
use Rattle.qc_sound.specs.Sound.{IsSound}

abbrev pub moved_entry : Move → StoredEntry → StoredEntry
moved_entry change e = record e { text = moved change e.text }

abbrev pub moved_chain : Move → EntryChain → EntryChain
moved_chain change c = record c { blocks = map (moved change) c.blocks }

-- Whatever the block is for, a text, a table or a chain, it stands where it moved to.
abbrev pub shifted : Move → List Tile → PlainServer → PlainServer
shifted change tiles s = record s {
  entries = map (moved_entry change) s.entries;
  chains = map (moved_chain change) s.chains;
  table_blocks = map (λ b. (b.0, moved change b.1)) s.table_blocks;
  tiles = tiles;
}

-- Each block in use spells over the new words, where it stands now, what it spelled.
abbrev pub SpellsAgain : Move → List ℕ → List ℕ → PlainServer → Type 0
SpellsAgain change words over s = (b : Block) → Contains (blocks_in_use s) b → spelled over (moved change b ∷ []) ≡ spelled words (b ∷ [])

abbrev pub MoveSteps : Type 0
MoveSteps = (moment : Moment) (words over : List ℕ) (s : PlainServer) (change : Move) (tiles : List Tile) → IsSound moment words s → length over ≡ length words → SpellsAgain change words over s
    → TilesAreSound (record moment { held = map (moved change) moment.held }) (shifted change tiles s) → IsSound (record moment { held = map (moved change) moment.held }) over (shifted change tiles s)

-- Where no block of a task moves, what is listed stays.
abbrev pub MoveLists : Type 0
MoveLists = (s : PlainServer) (change : Move) (tiles : List Tile) → ((b : Block) → Contains (blocks_of_tasks s) b → b.first ≢ change.from) → listed_tasks (shifted change tiles s) ≡ listed_tasks s

-- ---- the words

-- The words of the block stand where it moved to, and no word below that place or behind the block changed.
pub record MovesWords (change : Move) (words over : List ℕ) : Type 0 where
  pub carried : (i : ℕ) → i < change.words → slice_index over (change.to + i) ≡ slice_index words (change.from + i)
  pub below : (k : ℕ) → k < change.to → slice_index over k ≡ slice_index words k
  pub behind : (k : ℕ) → change.from + change.words ≤ k → slice_index over k ≡ slice_index words k

-- Where the move is the one that the tiles have next, each block in use then spells what it spelled.
abbrev pub MovesSpell : Type 0
MovesSpell = (moment : Moment) (words over : List ℕ) (s : PlainServer) (change : Move) → TilesAreSound moment s → movable s.tiles ≡ Some change → MovesWords change words over → SpellsAgain change words over s

-- ---- the tiles

-- After that move the tiles are those of the server with the block where it moved to, and no block of a task has moved.
pub record TilesMoved (moment : Moment) (change : Move) (s : PlainServer) : Type 0 where
  pub tiles : TilesAreSound (record moment { held = map (moved change) moment.held }) (shifted change (after_move_down s.tiles) s)
  pub listed : listed_tasks (shifted change (after_move_down s.tiles) s) ≡ listed_tasks s

abbrev pub MovesTiles : Type 0
MovesTiles = (moment : Moment) (s : PlainServer) (change : Move) → TilesAreSound moment s → movable s.tiles ≡ Some change → TilesMoved moment change s
