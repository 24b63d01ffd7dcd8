-- A fill is done: its entry is complete, and the last block of its chain is cut to what is used.
use Rattle.std.specs.Prelude.{◌≡◌, ℕ, ◌-◌, true, List, [], ◌∷◌, ◌++◌, Some}
use Rattle.std.specs.List.{find}
use Rattle.qc_model.specs.declared.events.Event.TheVariants as event
use Rattle.qc_model.specs.Journal.{present}
use Rattle.qc_model.specs.Cache.{Entry, cache, entry_of}
use Rattle.qc_model.specs.Session.{answer}
use Rattle.qc_model.specs.Licence.{IsLicensed}
use Rattle.qc_tiles.specs.declared.blocks.Tile.{Tile}
use Rattle.qc_tiles.specs.declared.blocks.Block.{Block}
use Rattle.qc_chain.specs.Chains.{EndsInLast, cut_blocks, used_words}
use Rattle.qc_turn.specs.declared.task.Task.TheVariants as task
use Rattle.qc_sound.specs.PlainServer.{PlainServer, StoredEntry, is_stored, blocks_at}
use Rattle.qc_sound.specs.Moment.{Moment}
use Rattle.qc_sound.specs.Pending.{NeedsOf}
use Rattle.qc_sound.specs.parts.Memory.{TilesAreSound}
use Rattle.qc_sound.specs.parts.Contents.{text_of}
use Rattle.qc_sound.specs.Sound.{IsSound}
use Rattle.qc_sound.specs.steps.Leaving.{is_of_seat, without_seat, filling}
use Rattle.qc_sound.specs.steps.Hits.{moved_stored}
use Rattle.qc_sound.specs.steps.Listing.{ListsAlone}
use Rattle.qc_sound.specs.steps.Growing.{with_blocks}

abbrev pub completed_with : ℕ → StoredEntry → StoredEntry
completed_with bytes e = record e { bytes = bytes; complete = true }

-- The entry is complete with so many bytes and goes to the end, its chain is cut to the words that its last block uses, and the seat rests.
abbrev pub finished : ℕ → ℕ → ℕ → ℕ → List Tile → PlainServer → PlainServer
finished n seat bytes used tiles s = record s {
  journal = s.journal ++ event.Done n ∷ [];
  spare = s.spare - 1;
  entries = moved_stored n (completed_with bytes) (find (is_stored n) s.entries) s.entries;
  chains = with_blocks n (cut_blocks used) s.chains;
  tiles = tiles;
  tasks = without_seat seat s.tasks;
}

-- The cut chain spells what the entry's key answers.
abbrev pub SpellsAnswer : List ℕ → ℕ → ℕ → ℕ → PlainServer → Type 0
SpellsAnswer words n bytes used s = (y : Entry) → entry_of n (cache s.journal) ≡ Some y → answer y.key (present s.journal) ≡ Some (text_of words (cut_blocks used (blocks_at n s.chains)) bytes)

abbrev pub DoneSteps : Type 0
DoneSteps = (moment : Moment) (words : List ℕ) (s : PlainServer) (n seat bytes used : ℕ) (tiles : List Tile) → IsSound moment words s → IsLicensed s.options s.journal (event.Done n)
    → NeedsOf s.options moment.next (s.journal ++ event.Done n ∷ []) → find (is_of_seat seat) s.tasks ≡ Some (filling seat n) → SpellsAnswer words n bytes used s
    → TilesAreSound moment (finished n seat bytes used tiles s) → IsSound moment words (finished n seat bytes used tiles s)

abbrev pub DoneLists : Type 0
DoneLists = (moment : Moment) (words : List ℕ) (s : PlainServer) (n seat bytes used : ℕ) (tiles : List Tile) → IsSound moment words s → find (is_of_seat seat) s.tasks ≡ Some (filling seat n)
    → ListsAlone seat task.Rest s (finished n seat bytes used tiles s)

-- A chain that is cut to bytes that end in its last block spells them still.
abbrev pub CutsSpell : Type 0
CutsSpell = (words : List ℕ) (blocks : List Block) (bytes : ℕ) → EndsInLast blocks bytes → text_of words (cut_blocks (used_words blocks bytes) blocks) bytes ≡ text_of words blocks bytes
