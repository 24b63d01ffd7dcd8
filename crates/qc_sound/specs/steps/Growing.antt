-- A chain that is filled gets a block.
use Rattle.std.specs.Prelude.{◌≡◌, ℕ, ◌+◌, ◌*◌, ◌<◌, ◌≤◌, List, [], ◌∷◌, ◌++◌, length, map, Some, unwrap_or, if◌then◌else◌}
use Rattle.std.specs.List.{find}
use Rattle.qc_model.specs.Journal.{present}
use Rattle.qc_model.specs.Session.{answer}
use Rattle.qc_model.specs.Licence.{IsFilling, unit_words}
use Rattle.qc_laws.specs.history.Runs.{IsStarted}
use Rattle.qc_tiles.specs.declared.blocks.Tile.{Tile}
use Rattle.qc_tiles.specs.declared.blocks.Block.{Block}
use Rattle.qc_chain.specs.Words.{words_of}
use Rattle.qc_turn.specs.declared.task.Task.TheVariants as task
use Rattle.qc_sound.specs.PlainServer.{PlainServer, StoredEntry, EntryChain, has_serial, is_stored, blocks_at}
use Rattle.qc_sound.specs.Moment.{Moment}
use Rattle.qc_sound.specs.parts.Memory.{TilesAreSound}
use Rattle.qc_sound.specs.Sound.{IsSound}
use Rattle.qc_sound.specs.steps.Leaving.{is_of_seat, filling}
use Rattle.qc_sound.specs.steps.Listing.{ListsAlone}

-- the blocks of one chain, changed
abbrev pub with_blocks : ℕ → (List Block → List Block) → List EntryChain → List EntryChain
with_blocks n f chains = map (λ c. if has_serial n c then record c { blocks = f c.blocks } else c) chains

abbrev pub with_bytes : ℕ → ℕ → List StoredEntry → List StoredEntry
with_bytes n bytes entries = map (λ e. if is_stored n e then record e { bytes = bytes } else e) entries

-- The chain of a serial has one block more. The byte length of its entry counts for nothing until that is complete.
abbrev pub grown : ℕ → Block → ℕ → List Tile → PlainServer → PlainServer
grown n b bytes tiles s = record s {
  entries = with_bytes n bytes s.entries;
  chains = with_blocks n (λ blocks. blocks ++ b ∷ []) s.chains;
  tiles = tiles;
}

-- The entry is in the cache and isn't complete, what it answered at its start is longer than its chain, and the block has the words of a unit.
pub record MayGrow (n : ℕ) (b : Block) (s : PlainServer) : Type 0 where
  pub entry : IsFilling s.journal n
  pub start : IsStarted s.journal n
  pub more : 8 * words_of (blocks_at n s.chains) < length (unwrap_or (answer start.key (present start.earlier)) [])
  pub full : unit_words s.options ≤ b.words
  pub small : b.words ≤ unit_words s.options + 63

abbrev pub GrowSteps : Type 0
GrowSteps = (moment : Moment) (words : List ℕ) (s : PlainServer) (n : ℕ) (b : Block) (bytes : ℕ) (tiles : List Tile) → IsSound moment words s → MayGrow n b s
    → TilesAreSound moment (grown n b bytes tiles s) → IsSound moment words (grown n b bytes tiles s)

abbrev pub GrowLists : Type 0
GrowLists = (moment : Moment) (words : List ℕ) (s : PlainServer) (seat n : ℕ) (b : Block) (bytes : ℕ) (tiles : List Tile) → IsSound moment words s → find (is_of_seat seat) s.tasks ≡ Some (filling seat n)
    → ListsAlone seat (task.Fill n) s (grown n b bytes tiles s)
