-- A start adds an entry, its chain and a fill, and what it held goes into use.
use Rattle.std.specs.Prelude.{◌≡◌, ℕ, ◌+◌, ◌-◌, ◌<◌, ◌≤◌, false, List, [], ◌∷◌, ◌++◌, length, None}
use Rattle.qc_types.specs.declared.names.TableName.{TableName}
use Rattle.qc_types.specs.declared.options.Options.{Options}
use Rattle.qc_model.specs.declared.events.Who.{Who}
use Rattle.qc_model.specs.declared.events.Event.{Event}
use Rattle.qc_model.specs.declared.events.Event.TheVariants as event
use Rattle.qc_model.specs.declared.events.How.TheVariants as how
use Rattle.qc_model.specs.Cache.{cache}
use Rattle.qc_model.specs.Licence.{IsLicensed, unit_words}
use Rattle.qc_tiles.specs.declared.blocks.Tile.{Tile}
use Rattle.qc_tiles.specs.declared.blocks.Block.{Block}
use Rattle.qc_turn.specs.declared.task.Task.TheVariants as task
use Rattle.qc_sound.specs.PlainServer.{PlainServer, StoredEntry, EntryChain}
use Rattle.qc_sound.specs.Moment.{Moment, at_rest}
use Rattle.qc_sound.specs.Pending.{NeedsOf}
use Rattle.qc_sound.specs.parts.Journal.{reserved}
use Rattle.qc_sound.specs.parts.Memory.{TilesAreSound, TablesAreSound, TextFits}
use Rattle.qc_sound.specs.parts.Contents.{text_of}
use Rattle.qc_sound.specs.Sound.{IsSound}
use Rattle.qc_sound.specs.steps.Leaving.{filling}
use Rattle.qc_sound.specs.steps.Hits.{IsFreeSeat}
use Rattle.qc_sound.specs.steps.Listing.{ListsAlone}

abbrev pub chain_of : ℕ → List Block → EntryChain
chain_of n blocks = record { serial = n; blocks = blocks }

abbrev pub starts_entry : Who → List ℕ → StoredEntry → Event
starts_entry who key e = event.Run who (how.Start e.serial key e.tables)

-- The entry goes to the end, with a chain of one block, and the seat fills it.
abbrev pub started : Who → List ℕ → ℕ → StoredEntry → Block → List (TableName × Block) → List Tile → PlainServer → PlainServer
started who key seat e first table_blocks tiles s = record s {
  journal = s.journal ++ starts_entry who key e ∷ [];
  spare = s.spare - 1;
  entries = s.entries ++ e ∷ [];
  chains = s.chains ++ chain_of e.serial (first ∷ []) ∷ [];
  table_blocks = table_blocks;
  tiles = tiles;
  tasks = s.tasks ++ filling seat e.serial ∷ [];
}

-- The entry is a new one of this key, which its text block spells, and the first block of its chain has the words of a unit.
pub record IsNewEntry (moment : Moment) (options : Options) (words key : List ℕ) (e : StoredEntry) (first : Block) : Type 0 where
  pub hashed : e.hash ≡ moment.hash key
  pub text_bytes : e.text_bytes ≡ length key
  pub spelled : text_of words (e.text ∷ []) e.text_bytes ≡ key
  pub text : TextFits e
  pub incomplete : e.complete ≡ false
  pub unused : e.users ≡ 0
  pub full : unit_words options ≤ first.words
  pub small : first.words ≤ unit_words options + 63

-- room for the event, and for the two that the entry may have
abbrev pub StartsRoom : PlainServer → Type 0
StartsRoom s = reserved (cache s.journal) + 2 < s.spare

abbrev pub StartSteps : Type 0
StartSteps = (moment : Moment) (words : List ℕ) (s : PlainServer) (who : Who) (key : List ℕ) (seat : ℕ) (e : StoredEntry) (first : Block) (blocks : List (TableName × Block)) (tiles : List Tile) → IsSound moment words s
    → IsLicensed s.options s.journal (starts_entry who key e) → NeedsOf s.options None (s.journal ++ starts_entry who key e ∷ []) → StartsRoom s → IsFreeSeat who seat s → IsNewEntry moment s.options words key e first
    → TilesAreSound (at_rest moment.hash) (started who key seat e first blocks tiles s) → TablesAreSound (started who key seat e first blocks tiles s) → IsSound (at_rest moment.hash) words (started who key seat e first blocks tiles s)

abbrev pub StartLists : Type 0
StartLists = (moment : Moment) (words : List ℕ) (s : PlainServer) (who : Who) (key : List ℕ) (seat : ℕ) (e : StoredEntry) (first : Block) (blocks : List (TableName × Block)) (tiles : List Tile) → IsSound moment words s
    → IsFreeSeat who seat s → ListsAlone seat (task.Fill e.serial) s (started who key seat e first blocks tiles s)
