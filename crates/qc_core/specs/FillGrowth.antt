-- The chain of an entry that is filled gets a block more.
use Rattle.std.specs.Prelude.{◌≡◌, ◌≢◌, ℕ, ◌+◌, ◌*◌, ◌<◌, ◌≤◌, List, [], ◌∷◌, ◌++◌, length, Some, None, unwrap_or, true, Contains, Result, IfOk, IfErr}
use Rattle.qc_model.specs.Journal.{present}
use Rattle.qc_model.specs.Session.{answer}
use Rattle.qc_model.specs.Cache.{cache, entry_of}
use Rattle.qc_model.specs.Licence.{IsFilling, unit_words, region_words}
use Rattle.qc_laws.specs.history.Runs.{IsStarted}
use Rattle.qc_key.specs.Hash.{hash}
use Rattle.qc_tiles.specs.declared.blocks.Block.{Block}
use Rattle.qc_tiles.specs.Tiles.{IsTiling, handed_out, taken, after_take, after_pin}
use Rattle.qc_tiles.specs.Tiles.{region_words as tile_words}
use Rattle.qc_chain.specs.Words.{words_of}
use Rattle.qc_chain.specs.Chains.{Chain, Ranged, Begun, after_append}
use Rattle.qc_dir.specs.declared.entries.Entry.{Entry}
use Rattle.qc_dir.specs.Directory.{entry_at}
use Rattle.qc_turn.specs.declared.task.Task.TheVariants as task
use Rattle.qc_turn.specs.Tasks.{listed_for, own}
use Rattle.qc_sound.specs.Moment.{at_rest}
use Rattle.qc_core.specs.declared.fill_growth.Short.{Short}
use Rattle.qc_core.specs.declared.fill_growth.Short.TheVariants as short
use Rattle.qc_core.specs.declared.server_state.ServerState.{ServerState}
use Rattle.qc_core.specs.Whole.{Named, IsWhole, tasks_of}
use Rattle.qc_core.specs.Eviction.{PrunesMany, LacksTile}
use Rattle.qc_core.specs.OvertakenFill.{IsOvertaken}

-- ---- one block

-- the chain is begun, the block is handed out, and there is room for it in the chain and in the ranges
pub record MayAppend (number : ℕ) (block : Block) (s : ServerState) (wide : ℕ) : Type 0 where
  pub held : Chain
  pub begun : Begun number s.chains held
  pub few : words_of held.blocks + block.words ≤ 8388608
  pub room : 0 < s.chains.room
  pub tiling : IsTiling (tile_words s.tiles) s.tiles
  pub out : Contains (handed_out s.tiles) block
  pub ranges : length held.blocks < wide

-- the block is the last one of the chain, and is pinned
abbrev pub appended : ℕ → Block → Chain → ServerState → ServerState
appended number block held s = record s { chains = after_append number block held s.chains; tiles = after_pin true block.first s.tiles }

-- the ranges with that block, and all bytes of the words
abbrev pub longer_by : Block → Ranged → Ranged
longer_by block r = record { blocks = r.blocks ++ block ∷ []; bytes = 8 * words_of (r.blocks ++ block ∷ []); room = r.room }

-- ---- a fill

-- The seat fills the entry, its ranges are the chain, and what the entry answered at its start has more bytes than they hold. They have room for a whole
-- region's blocks.
pub record FillsOn (seat n : ℕ) (s : ServerState) (r : Ranged) : Type 0 where
  pub listed : listed_for seat (tasks_of s) ≡ own seat (task.Fill n) r.blocks
  pub start : IsStarted s.journal.events n
  pub more : 8 * words_of r.blocks < length (unwrap_or (answer start.key (present start.earlier)) [])
  pub room : s.options.size ≤ 512 * r.room

-- The entry is still filled. Some entries were pruned for a unit, nothing was kept of them, then the block was taken that a unit gets, and it is the last
-- one of the entry's chain.
pub record Grows (n : ℕ) (old : ServerState) (block : Block) (new : ServerState) : Type 0 where
  pub filling : IsFilling old.journal.events n
  pub count : ℕ
  pub mid : ServerState
  pub prunes : PrunesMany [] (unit_words old.options) count old mid
  pub taken : taken (unit_words old.options) mid.tiles ≡ Some block
  pub entry : Entry
  pub held : Chain
  pub there : entry_at n mid.dir.entries ≡ Some entry
  pub begun : Begun entry.chain.number mid.chains held
  pub server : new ≡ appended entry.chain.number block held (record mid { tiles = after_take (unit_words old.options) mid.tiles })

-- The entry has left the cache, by this event, and nothing changes; or it is still filled, and after some prunes no free block holds a unit, and no entry
-- is left that is complete and without users.
abbrev pub IsShort : ℕ → ServerState → ServerState → Short → Type 0
IsShort n old new (short.Overtaken by) = (entry_of n (cache old.journal.events) ≡ None) × IsOvertaken old.journal.events n by × (new ≡ old)
IsShort n old new (short.NoRoom need largest) =
    IsFilling old.journal.events n × (count : ℕ) × PrunesMany [] (unit_words old.options) count old new × LacksTile (unit_words old.options) new (record { need = need; largest = largest })

-- what a call for one block more makes of the server and the ranges, and answers
pub record TellsGrowth (n : ℕ) (old : ServerState) (before : Ranged) (new : ServerState) (after : Ranged) (told : Result Block Short) : Type 0 where
  pub ok : IfOk told (λ block. Grows n old block new × (after ≡ longer_by block before))
  pub err : IfErr told (λ e. IsShort n old new e × (after ≡ before))

-- ---- on the server alone

pub record MayGrowOn (n : ℕ) (s : ServerState) (r : Ranged) : Type 0 where
  pub words : List ℕ
  pub names : List Named
  pub whole : IsWhole (at_rest hash) names words s
  pub long : region_words s.options ≤ 8388608
  pub seat : ℕ
  pub fills : FillsOn seat n s r

-- the server is as sound as before, and lists for the others what it did, and for this seat the fill with its ranges
pub record StaysFilling (n : ℕ) (old new : ServerState) (r : Ranged) (words : List ℕ) (seat : ℕ) : Type 0 where
  pub names : List Named
  pub whole : IsWhole (at_rest hash) names words new
  pub others : (k : ℕ) → k ≢ seat → listed_for k (tasks_of new) ≡ listed_for k (tasks_of old)
  pub alone : listed_for seat (tasks_of new) ≡ own seat (task.Fill n) r.blocks
