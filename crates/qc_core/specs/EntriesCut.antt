-- Entries are taken out before the event that says so.
use Rattle.std.specs.Prelude.{◌≡◌, ℕ, Bool, true, List, [], ◌∷◌, map}
use Rattle.std.specs.List.{list_any, filter, AllByRecursion}
use Rattle.qc_types.specs.declared.names.TableName.{TableName}
use Rattle.qc_laws.specs.history.Runs.{are_distinct}
use Rattle.qc_tiles.specs.declared.blocks.Tile.{Tile}
use Rattle.qc_tiles.specs.declared.blocks.Block.{Block}
use Rattle.qc_dir.specs.declared.tables.TableBlock.{TableBlock}
use Rattle.qc_dir.specs.Directory.{IsDirectory}
use Rattle.qc_sound.specs.PlainServer.{PlainServer, StoredEntry, is_stored, is_wanted}
use Rattle.qc_sound.specs.Moment.{Moment}
use Rattle.qc_sound.specs.parts.Memory.{TilesAreSound, TablesAreSound, pinned_blocks}
use Rattle.qc_sound.specs.steps.Leaving.{staying}
use Rattle.qc_core.specs.declared.server_state.ServerState.{ServerState}
use Rattle.qc_core.specs.Whole.{Named, IsNamed, SeatsAreSound, RoomIsSound, plain, table_pair}
use Rattle.qc_core.specs.EntryRemoval.{MayLeave, Leaves}

-- the part of soundness that stays while a call takes entries out: that of the blocks, whatever the journal says
pub record BlocksAreSound (m : Moment) (names : List Named) (s : ServerState) : Type 0 where
  pub named : IsNamed names s
  pub tiles : TilesAreSound m (plain names s)
  pub tables : TablesAreSound (plain names s)
  pub apart : are_distinct (map (λ c. c.serial) (plain names s).chains) ≡ true
  pub wanted : AllByRecursion (λ c. is_wanted (plain names s).entries (plain names s).tasks c.serial ≡ true) (plain names s).chains
  pub once : are_distinct (map (λ w. w.seat) (plain names s).tasks) ≡ true
  pub serials : are_distinct (map (λ e. e.serial) s.dir.entries) ≡ true
  pub directory : IsDirectory s.dir
  pub seats : SeatsAreSound s
  pub room : RoomIsSound names s

-- entries are out, and the chains that neither an entry nor a task is on
abbrev pub cut : (StoredEntry → Bool) → List Tile → List (TableName × Block) → PlainServer → PlainServer
cut gone tiles blocks p = record p { entries = staying gone p.entries; chains = filter (λ c. is_wanted (staying gone p.entries) p.tasks c.serial) p.chains; table_blocks = blocks; tiles = tiles }

-- the blocks of a server that stands, or of one whose call takes entries out, are sound
pub record HasSoundBlocks (s : ServerState) : Type 0 where
  pub moment : Moment
  pub names : List Named
  pub sound : BlocksAreSound moment names s

-- the entry with a serial left, and its blocks were given back
pub record LeavesAlone (n : ℕ) (old new : ServerState) : Type 0 where
  pub may : MayLeave n old
  pub freed : List TableBlock
  pub left : Leaves n may.entry may.held freed old new
  pub valid : IsDirectory new.dir

-- the entries with these serials left one after another, the last of the list first
abbrev pub LeaveInTurn : List ℕ → ServerState → ServerState → Type 0
LeaveInTurn [] old new = new ≡ old
LeaveInTurn (n ∷ ns) old new = (mid : ServerState) × LeaveInTurn ns old mid × LeavesAlone n mid new

-- the entries with these serials
abbrev pub is_removed : List ℕ → StoredEntry → Bool
is_removed serials e = list_any (λ n. is_stored n e) serials

-- The entries with these serials are out, and nothing else changed, but what goes with them.
pub record IsCut (m : Moment) (before : List Named) (serials : List ℕ) (old new : ServerState) : Type 0 where
  pub names : List Named
  pub blocks : BlocksAreSound m names new
  pub plain : plain names new ≡ cut (is_removed serials) new.tiles (map table_pair new.dir.tables) (plain before old)
  pub pinned : pinned_blocks new.tiles ≡ pinned_blocks old.tiles
  pub others : new ≡ record old { dir = new.dir; chains = new.chains; tiles = new.tiles }
