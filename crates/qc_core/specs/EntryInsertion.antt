-- The entry of a start is added.
use Rattle.std.specs.Prelude.{◌≡◌, ℕ, ◌+◌, ◌-◌, ◌*◌, ◌^◌, ◌<◌, ◌≤◌, true, List, [], ◌∷◌, ◌++◌, length, slice_get, Some, None, Contains}
use Rattle.qc_types.specs.declared.names.TableName.{TableName}
use Rattle.qc_types.specs.Blocks.{least_block, raised}
use Rattle.qc_model.specs.declared.events.Event.{Event}
use Rattle.qc_model.specs.declared.events.Who.{Who}
use Rattle.qc_model.specs.Choice.{start_count}
use Rattle.qc_model.specs.Licence.{MayStart, LacksRoom, unit_words, words_of_bytes}
use Rattle.qc_tiles.specs.declared.blocks.NoTile.{NoTile}
use Rattle.qc_tiles.specs.Tiles.{IsTiling, region_words, handed_out, after_pin}
use Rattle.qc_chain.specs.Chains.{empty_chain, with_chain, after_append}
use Rattle.qc_dir.specs.declared.entries.Entry.{Entry}
use Rattle.qc_dir.specs.Directory.{IsDirectory, AreFresh, AddsEntry, entry_at}
use Rattle.qc_turn.specs.declared.kept.Kept.{Ghosts}
use Rattle.qc_turn.specs.Releases.{Follows}
use Rattle.qc_turn.specs.Views.{idle_of}
use Rattle.qc_turn.specs.Seats.{Held, holder, words, taken, IsHeld}
use Rattle.qc_sound.specs.parts.Contents.{text_of}
use Rattle.qc_core.specs.declared.reserved_blocks.ReservedBlocks.{ReservedBlocks}
use Rattle.qc_core.specs.declared.start_blocks.Taken.{Taken}
use Rattle.qc_core.specs.declared.server_state.ServerState.{ServerState}
use Rattle.qc_core.specs.declared.entry_start.Ready.{Ready}
use Rattle.qc_core.specs.Whole.{Named, IsWhole}
use Rattle.qc_core.specs.Calls.{IsNext, HasSpare}
use Rattle.qc_core.specs.EntryStart.{HasStartRoom, without_block, new_entry, fill_of}
use Rattle.qc_core.specs.Allocation.{holds, starts, IsStarting}

-- what a start on these tables makes ready
abbrev pub IsReady : List TableName → ServerState → Ready → Type 0
IsReady tables s ready = ready ≡ record { serial = start_count s.journal.events + 1; hand = record { tables = tables; fresh = [] }; missing = without_block s.dir.tables tables }

-- ---- on the server alone

-- there is room for the entry, its chain, its tables and its fill, the serial is new, and the blocks in hand are of those of its tables that have none
pub record MayAdd (serial : ℕ) (hand : ReservedBlocks) (t : Taken) (s : ServerState) (wide : ℕ) : Type 0 where
  pub name : Contains s.chains.chains None
  pub chain_room : 0 < s.chains.room
  pub most : t.first.words ≤ 8388608
  pub tiling : IsTiling (region_words s.tiles) s.tiles
  pub out : Contains (handed_out s.tiles) t.first
  pub ranges : 0 < wide
  pub absent : entry_at serial s.dir.entries ≡ None
  pub few : length hand.tables ≤ 8
  pub room : 0 < s.dir.room
  pub table_room : length hand.fresh ≤ s.dir.table_room
  pub fresh : (e : Entry) → e.tables ≡ hand.tables → AreFresh e s.dir.tables hand.fresh
  pub task_room : 0 < s.tasks.room

-- the entry is there, with its chain and its fill
pub record IsAdded (seat serial : ℕ) (key : List ℕ) (hand : ReservedBlocks) (t : Taken) (old new : ServerState) : Type 0 where
  pub name : ℕ
  pub free : slice_get old.chains.chains name ≡ Some None
  pub dir : AddsEntry (new_entry serial key hand.tables t.text name) hand.fresh old.dir new.dir
  pub valid : IsDirectory new.dir
  pub server : new ≡ record old {
    dir = new.dir;
    chains = after_append name t.first empty_chain (with_chain name (Some empty_chain) old.chains);
    tiles = after_pin true t.first.first old.tiles;
    tasks = record { items = old.tasks.items ++ fill_of seat serial name ∷ []; room = old.tasks.room - 1 };
  }

-- ---- while the start holds its blocks

module _ {K : Ghosts ServerState Event} where
  -- The seat holds all blocks of its start, and the start is licensed.
  pub record HoldsBlocks (who : Who) (serial : ℕ) (key : List ℕ) (tables : List TableName) (hand : ReservedBlocks) (t : Taken) (h : Held ServerState Event K) : Type 0 where
    pub held : IsHeld h
    pub follows : Follows K (holder h).number (idle_of (holder h).found) (taken h) h.value
    pub same : hand.tables ≡ tables
    pub starting : IsStarting (starts who serial key tables) (words h) [] (t.text ∷ t.first ∷ []) hand h.value
    pub next : IsNext h who
    pub room : HasStartRoom h.value
    pub may : MayStart h.value.options h.value.journal.events serial key tables
    pub short : length key < 2 ^ 32
    pub full : unit_words h.value.options ≤ t.first.words
    pub small : t.first.words ≤ unit_words h.value.options + 63
    pub few : words_of_bytes (length key) ≤ t.text.words
    pub fits : t.text.words ≤ raised (words_of_bytes (length key)) + 63
    pub ranges : h.value.options.size ≤ 512 * h.ranges.room

  -- and the key is stored
  pub record HoldsText (who : Who) (serial : ℕ) (key : List ℕ) (tables : List TableName) (hand : ReservedBlocks) (t : Taken) (h : Held ServerState Event K) : Type 0 where
    pub blocks : HoldsBlocks who serial key tables hand t h
    pub text : text_of (words h) (t.text ∷ []) (length key) ≡ key

  -- The start has given its blocks back, as one of its needs got none, and a run without room is licensed.
  pub record HoldsNothing (who : Who) (e : NoTile) (h : Held ServerState Event K) : Type 0 where
    pub held : IsHeld h
    pub follows : Follows K (holder h).number (idle_of (holder h).found) (taken h) h.value
    pub serial : ℕ
    pub key : List ℕ
    pub tables : List TableName
    pub names : List Named
    pub whole : IsWhole (holds (starts who serial key tables) []) names (words h) h.value
    pub next : IsNext h who
    pub room : HasSpare h.value
    pub licensed : LacksRoom h.value.options h.value.journal.events e.need e.largest
    pub least : least_block ≤ e.need
