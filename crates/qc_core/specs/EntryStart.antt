-- What a start needs of the region, and in which order.
use Rattle.std.specs.Prelude.{◌≡◌, ℕ, ◌+◌, ◌-◌, ◌*◌, ◌^◌, ◌<◌, ◌≤◌, true, false, List, [], ◌∷◌, ◌++◌, map, length, slice_get, is_none, Some, None, Contains}
use Rattle.std.specs.List.{filter, AllByRecursion}
use Rattle.qc_key.specs.Hash.{hash}
use Rattle.qc_model.specs.declared.events.Who.{Who}
use Rattle.qc_model.specs.declared.events.Event.TheVariants as event
use Rattle.qc_model.specs.declared.events.How.TheVariants as how
use Rattle.qc_model.specs.declared.events.Reason.TheVariants as reason
use Rattle.qc_model.specs.Cache.{cache}
use Rattle.qc_tiles.specs.declared.blocks.Block.{Block}
use Rattle.qc_tiles.specs.declared.blocks.NoTile.{NoTile}
use Rattle.qc_tiles.specs.Tiles.{taken, after_take, after_pin}
use Rattle.qc_chain.specs.Chains.{Ranged, empty_chain, with_chain, after_append, after_release}
use Rattle.qc_dir.specs.declared.entries.Entry.{Entry}
use Rattle.qc_turn.specs.declared.task.ListedTask.{ListedTask}
use Rattle.qc_turn.specs.declared.task.Task.TheVariants as task
use Rattle.qc_turn.specs.Tasks.{own}
use Rattle.qc_sound.specs.parts.Journal.{reserved}
use Rattle.qc_core.specs.declared.server_state.RunningTask.{RunningTask}
use Rattle.qc_core.specs.declared.entry_start.Started.{Started}
use Rattle.qc_core.specs.declared.entry_start.Begun.{Begun as Answer}
use Rattle.qc_core.specs.declared.entry_start.Begun.TheVariants as begun
use Rattle.qc_core.specs.Whole.{with_event}
use Rattle.qc_core.specs.EntryRemoval.{table_blocks}
use Rattle.qc_core.specs.Eviction.{PrunesMany, LacksTile}
use Rattle.qc_types.specs.declared.names.TableName.{TableName}
use Rattle.qc_types.specs.declared.options.Options.{Options}
use Rattle.qc_types.specs.Blocks.{least_block, raised}
use Rattle.qc_model.specs.Choice.{start_count}
use Rattle.qc_model.specs.Licence.{MayStart, words_of_bytes, unit_words}
use Rattle.qc_dir.specs.declared.tables.TableBlock.{TableBlock}
use Rattle.qc_dir.specs.Directory.{AreApart, block_of}
use Rattle.qc_sql.specs.Database.{same_table}
use Rattle.qc_core.specs.declared.server_state.ServerState.{ServerState}

-- the tables that have no block yet
abbrev pub without_block : List TableBlock → List TableName → List TableName
without_block there tables = filter (λ t. is_none (block_of t there)) tables

-- a block for each of these tables, the first block of the result, and the text last, of so many bytes
abbrev pub needs_for : Options → List TableName → ℕ → List ℕ
needs_for options missing bytes = map (λ t. least_block) missing ++ unit_words options ∷ raised (words_of_bytes bytes) ∷ []

-- those of a start: only its tables that have no block need one
abbrev pub needs_of : Options → List TableBlock → List TableName → List ℕ → List ℕ
needs_of options there tables key = needs_for options (without_block there tables) (length key)

-- the start of an entry with this key and these tables would be licensed, and each table has one block
pub record MayBegin (key : List ℕ) (tables : List TableName) (s : ServerState) : Type 0 where
  pub may : MayStart s.options s.journal.events (start_count s.journal.events + 1) key tables
  pub few : length tables ≤ 8
  pub once : AreApart same_table tables
  pub short : words_of_bytes (length key) < 2 ^ 32

-- there is room for the event of a start, and for the two that its entry may have, beside those that other entries may still have
abbrev pub HasStartRoom : ServerState → Type 0
HasStartRoom s = reserved (cache s.journal.events) + 2 < s.journal.spare

-- ---- the blocks

-- Some entries were pruned for the need, and blocks of these tables kept, then the block was taken that it gets.
pub record TakesOne (tables : List TableName) (need : ℕ) (old : ServerState) (block : Block) (new : ServerState) : Type 0 where
  pub count : ℕ
  pub mid : ServerState
  pub prunes : PrunesMany tables need count old mid
  pub taken : taken need mid.tiles ≡ Some block
  pub server : new ≡ record mid { tiles = after_take need mid.tiles }

-- a block for each need, one after another
abbrev pub Takes : List TableName → List ℕ → ServerState → List Block → ServerState → Type 0
Takes tables [] old [] new = new ≡ old
Takes tables (need ∷ needs) old (b ∷ bs) new = (mid : ServerState) × TakesOne tables need old b mid × Takes tables needs mid bs new
Takes tables needs old bs new = ⊥

-- The first needs got their blocks, and the next one got none after some prunes, since none was left. Some blocks were given back then.
pub record IsShortOf (tables : List TableName) (needs : List ℕ) (old new : ServerState) (e : NoTile) : Type 0 where
  pub done : List ℕ
  pub need : ℕ
  pub rest : List ℕ
  pub split : needs ≡ done ++ need ∷ rest
  pub blocks : List Block
  pub mid : ServerState
  pub takes : Takes tables done old blocks mid
  pub count : ℕ
  pub last : ServerState
  pub prunes : PrunesMany tables need count mid last
  pub lacks : LacksTile need last e
  pub given : List Block
  pub server : new ≡ record last { tiles = after_release given last.tiles }

-- ---- the entry

abbrev pub new_entry : ℕ → List ℕ → List TableName → Block → ℕ → Entry
new_entry serial key tables text chain = record { serial = serial; hash = hash key; text = text; text_bytes = length key; tables = tables; chain = record { number = chain }; complete = false; users = 0 }

abbrev pub fill_of : ℕ → ℕ → ℕ → RunningTask
fill_of seat serial chain = record { seat = seat; task = task.Fill serial; chain = record { number = chain } }

-- The entry is the most recently used one, with a chain of one block, which is pinned, and the seat fills it. No other chain changed, and nothing else but
-- the directory's tables and the journal.
pub record AddsFill (seat serial : ℕ) (key : List ℕ) (tables : List TableName) (first text : Block) (old new : ServerState) : Type 0 where
  pub chain : ℕ
  pub free : slice_get old.chains.chains chain ≡ Some None
  pub entries : new.dir.entries ≡ old.dir.entries ++ new_entry serial key tables text chain ∷ []
  pub server : new ≡ record old {
    journal = new.journal;
    dir = new.dir;
    chains = after_append chain first empty_chain (with_chain chain (Some empty_chain) old.chains);
    tiles = after_pin true first.first old.tiles;
    tasks = record { items = old.tasks.items ++ fill_of seat serial chain ∷ []; room = old.tasks.room - 1 };
  }

-- ---- the call

-- The block of each table is the one that it had, or, of these tables that had none, the one of these that was taken for it, in their order.
pub record HaveTheirBlocks (missing : List TableName) (blocks : List Block) (old new : List TableBlock) : Type 0 where
  pub given : List TableBlock
  pub named : map (λ b. b.table) given ≡ missing
  pub taken : blocks ≡ table_blocks given
  pub only : AllByRecursion (Contains (old ++ given)) new

-- The blocks were taken, the entry was added, and the event pushed. The ranges are its chain.
pub record Starts (seat : ℕ) (who : Who) (key : List ℕ) (tables : List TableName) (old new : ServerState) (before after : Ranged) (b : Started) : Type 0 where
  pub serial : b.serial ≡ start_count old.journal.events + 1
  pub place : b.place ≡ length new.journal.events
  pub blocks : List Block
  pub first : Block
  pub text : Block
  pub mid : ServerState
  pub takes : Takes tables (needs_of old.options old.dir.tables tables key) old (blocks ++ first ∷ text ∷ []) mid
  pub adds : AddsFill seat b.serial key tables first text mid new
  pub kept : HaveTheirBlocks (without_block old.dir.tables tables) blocks old.dir.tables new.dir.tables
  pub events : new.journal.events ≡ mid.journal.events ++ event.Run who (how.Start b.serial key tables) ∷ []
  pub ranges : after ≡ record { blocks = first ∷ []; bytes = 8 * first.words; room = before.room }

-- One of the needs got no block, what was taken was given back, and the event pushed that says so.
pub record LacksRoomFor (who : Who) (key : List ℕ) (tables : List TableName) (old new : ServerState) (before after : Ranged) (need largest number : ℕ) : Type 0 where
  pub mid : ServerState
  pub short : IsShortOf tables (needs_of old.options old.dir.tables tables key) old mid (record { need = need; largest = largest })
  pub server : new ≡ with_event (event.Run who (how.Plain (reason.NoRoom need largest))) mid
  pub place : number ≡ length new.journal.events
  pub ranges : after ≡ before

abbrev pub IsBegun : ℕ → Who → List ℕ → List TableName → ServerState → ServerState → Ranged → Ranged → Answer → Type 0
IsBegun seat who key tables old new before after (begun.Started b) = Starts seat who key tables old new before after b
IsBegun seat who key tables old new before after (begun.NoRoom need largest place) = LacksRoomFor who key tables old new before after need largest place

-- what is listed for the seat then
abbrev pub begun_tasks : ℕ → Ranged → Answer → List ListedTask
begun_tasks seat r (begun.Started b) = own seat (task.Fill b.serial) r.blocks
begun_tasks seat r (begun.NoRoom need largest place) = []
