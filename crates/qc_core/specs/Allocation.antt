-- Blocks are taken, one after another, and the blocks of the own tables of a start are kept for it while entries are pruned. A fill keeps none.
use Rattle.std.specs.Prelude.{◌≡◌, ℕ, ◌+◌, ◌^◌, ◌<◌, ◌≤◌, List, [], ◌∷◌, ◌++◌, map, length, Option, Some, Contains, IsPermutation}
use Rattle.std.specs.List.{AllByRecursion}
use Rattle.qc_types.specs.declared.names.TableName.{TableName}
use Rattle.qc_types.specs.declared.options.Options.{Options}
use Rattle.qc_types.specs.Blocks.{least_block, raised}
use Rattle.qc_key.specs.Hash.{hash}
use Rattle.qc_model.specs.declared.events.Event.{Event}
use Rattle.qc_model.specs.declared.events.Event.TheVariants as event
use Rattle.qc_model.specs.declared.events.How.TheVariants as how
use Rattle.qc_model.specs.declared.events.Who.{Who}
use Rattle.qc_model.specs.Cache.{cache}
use Rattle.qc_model.specs.Licence.{LacksRoom, unit_words, words_of_bytes}
use Rattle.qc_model.specs.Needs.{PruneHasNeed}
use Rattle.qc_tiles.specs.declared.blocks.Block.{Block}
use Rattle.qc_tiles.specs.declared.blocks.NoTile.{NoTile}
use Rattle.qc_tiles.specs.Tiles.{taken, largest_free}
use Rattle.qc_chain.specs.Chains.{Chain}
use Rattle.qc_dir.specs.declared.entries.Entry.{Entry}
use Rattle.qc_dir.specs.declared.tables.TableBlock.{TableBlock}
use Rattle.qc_dir.specs.Directory.{RemovesEntry}
use Rattle.qc_sound.specs.Moment.{Moment}
use Rattle.qc_sound.specs.parts.Journal.{reserved}
use Rattle.qc_core.specs.declared.reserved_blocks.ReservedBlocks.{ReservedBlocks}
use Rattle.qc_core.specs.declared.start_blocks.Taken.{Taken}
use Rattle.qc_core.specs.declared.server_state.ServerState.{ServerState}
use Rattle.qc_core.specs.Whole.{Named, IsWhole}
use Rattle.qc_core.specs.EntryRemoval.{table_blocks, has_task, left_by, AreSorted}
use Rattle.qc_core.specs.Eviction.{Prunes, PrunesMany, LacksTile}
use Rattle.qc_core.specs.BlocksReserved.{own_in, IsInHand}
use Rattle.qc_core.specs.EntryStart.{TakesOne, Takes, IsShortOf, needs_for}

-- ---- the server while a start is under way

-- what a start has begun, that holds these blocks
abbrev pub holds : Option Event → List Block → Moment
holds next held = record { hash = hash; next = next; held = held }

-- The server is sound but for the start, which holds the blocks in hand and these others, and each of its tables has one block, or is missing.
pub record IsStarting (next : Option Event) (words : List ℕ) (missing : List TableName) (others : List Block) (mine : ReservedBlocks) (s : ServerState) : Type 0 where
  pub names : List Named
  pub whole : IsWhole (holds next (table_blocks mine.fresh ++ others)) names words s
  pub hand : IsInHand mine missing s.dir.tables
  pub small : AllByRecursion (λ b. b.block.words ≤ 127) mine.fresh

-- the blocks of tables, in the hand and in the directory, are some of these
abbrev pub HasOnly : List TableBlock → ReservedBlocks → ServerState → Type 0
HasOnly all hand s = AllByRecursion (Contains all) (hand.fresh ++ s.dir.tables)

-- no table got another block
abbrev pub KeepsBlocks : ReservedBlocks → ReservedBlocks → ServerState → ServerState → Type 0
KeepsBlocks before after old new = (all : List TableBlock) → HasOnly all before old → HasOnly all after new

-- The tables with these names got these blocks, in their order, and no other table got another one.
pub record GivesBlocks (names : List TableName) (blocks : List Block) (before after : ReservedBlocks) (old new : ServerState) : Type 0 where
  pub given : List TableBlock
  pub named : map (λ b. b.table) given ≡ names
  pub taken : blocks ≡ table_blocks given
  pub only : (all : List TableBlock) → HasOnly all before old → HasOnly (all ++ given) after new

-- there is as much room for events, beside those that entries may still have
abbrev pub KeepsRoom : ServerState → ServerState → Type 0
KeepsRoom old new = (k : ℕ) → reserved (cache old.journal.events) + k < old.journal.spare → reserved (cache new.journal.events) + k < new.journal.spare

-- ---- one entry

-- the hand has room for the blocks of its tables that are freed when an entry leaves
abbrev pub MayKeep : ℕ → ReservedBlocks → ServerState → Type 0
MayKeep serial hand s = (freed rest : List TableBlock) → IsPermutation s.dir.tables (freed ++ rest) → length hand.fresh + own_in hand.tables freed ≤ 8

-- The entry is out, and its blocks were given back, but for those of the hand's tables, which came into the hand.
pub record LeavesKeeping (serial : ℕ) (e : Entry) (held : Chain) (before after : ReservedBlocks) (old new : ServerState) : Type 0 where
  pub kept : List TableBlock
  pub others : List TableBlock
  pub freed : List TableBlock
  pub removed : RemovesEntry serial freed old.dir new.dir
  pub parts : IsPermutation freed (kept ++ others)
  pub sorts : AreSorted before.tables kept others
  pub hand : after ≡ record { tables = before.tables; fresh = before.fresh ++ kept }
  pub server : new ≡ left_by new.dir (has_task serial old) e held others old

-- ---- one need

-- the need is one that the start may have, whose blocks are few and small
pub record MayTakeOne (need : ℕ) (hand : ReservedBlocks) (s : ServerState) : Type 0 where
  pub next : Option Event
  pub words : List ℕ
  pub missing : List TableName
  pub others : List Block
  pub starting : IsStarting next words missing others hand s
  pub least : least_block ≤ need
  pub needs : PruneHasNeed s.options s.journal.events need next
  pub few : length others ≤ 1
  pub small : AllByRecursion (λ b. b.words ≤ unit_words s.options + 63) others

-- the least recently used entry went that is complete and without users
pub record PrunesKeeping (need : ℕ) (next : Option Event) (words : List ℕ) (missing : List TableName) (others : List Block) (before after : ReservedBlocks) (old new : ServerState) : Type 0 where
  pub prunes : Prunes before.tables need old new
  pub fewer : reserved (cache new.journal.events) < reserved (cache old.journal.events)
  pub starting : IsStarting next words missing others after new
  pub tables : after.tables ≡ before.tables
  pub room : KeepsRoom old new
  pub keeps : KeepsBlocks before after old new

-- some entries went, one after another
pub record PrunesSome (need : ℕ) (next : Option Event) (words : List ℕ) (missing : List TableName) (others : List Block) (before after : ReservedBlocks) (old new : ServerState) : Type 0 where
  pub count : ℕ
  pub prunes : PrunesMany before.tables need count old new
  pub starting : IsStarting next words missing others after new
  pub tables : after.tables ≡ before.tables
  pub room : KeepsRoom old new
  pub keeps : KeepsBlocks before after old new

-- No free block holds the need, and no entry is left that is complete and without users: a run without room is licensed.
pub record HasNone (need : ℕ) (s : ServerState) (e : NoTile) : Type 0 where
  pub lacks : LacksTile need s e
  pub licensed : LacksRoom s.options s.journal.events need (largest_free s.tiles)

-- some entries were pruned, and then the block was taken that the need gets
pub record TakesKeeping (need : ℕ) (next : Option Event) (words : List ℕ) (missing : List TableName) (others : List Block) (before after : ReservedBlocks) (old : ServerState) (block : Block) (new : ServerState) : Type 0 where
  pub takes : TakesOne before.tables need old block new
  pub large : raised need ≤ block.words
  pub small : block.words ≤ raised need + 63
  pub pruned : PrunesSome need next words missing others before after old takes.mid
  pub starting : IsStarting next words missing (block ∷ others) after new
  pub names : starting.names ≡ pruned.starting.names
  pub tables : after.tables ≡ before.tables
  pub room : KeepsRoom old new
  pub keeps : KeepsBlocks before after old new

-- ---- all needs

-- the prunes of a start are for its event
abbrev pub starts : Who → ℕ → List ℕ → List TableName → Option Event
starts who number key tables = Some (event.Run who (how.Start number key tables))

-- a start is under way that holds the blocks in hand, and whose key has so many bytes
pub record MayTake (missing : List TableName) (bytes : ℕ) (hand : ReservedBlocks) (s : ServerState) : Type 0 where
  pub who : Who
  pub number : ℕ
  pub key : List ℕ
  pub words : List ℕ
  pub long : length key ≡ bytes
  pub short : words_of_bytes bytes < 2 ^ 32
  pub starting : IsStarting (starts who number key hand.tables) words missing [] hand s

abbrev pub next_of : (missing : List TableName) (bytes : ℕ) (hand : ReservedBlocks) (s : ServerState) → MayTake missing bytes hand s → Option Event
next_of missing bytes hand s u = starts u.who u.number u.key hand.tables

-- a block was taken for each of the tables that were missing
pub record TakesTables (next : Option Event) (words : List ℕ) (missing : List TableName) (before after : ReservedBlocks) (old new : ServerState) : Type 0 where
  pub blocks : List Block
  pub takes : Takes before.tables (map (λ t. least_block) missing) old blocks new
  pub starting : IsStarting next words [] [] after new
  pub tables : after.tables ≡ before.tables
  pub room : KeepsRoom old new
  pub gives : GivesBlocks missing blocks before after old new

-- the blocks have the words that were asked for, and at most 63 more
pub record HaveSizes (options : Options) (bytes : ℕ) (taken : Taken) : Type 0 where
  pub full : unit_words options ≤ taken.first.words
  pub small : taken.first.words ≤ unit_words options + 63
  pub few : raised (words_of_bytes bytes) ≤ taken.text.words
  pub fits : taken.text.words ≤ raised (words_of_bytes bytes) + 63

-- the first block of the chain was taken, and then that of the key
pub record TakesPair (next : Option Event) (words : List ℕ) (bytes : ℕ) (before after : ReservedBlocks) (old : ServerState) (taken : Taken) (new : ServerState) : Type 0 where
  pub takes : Takes before.tables (unit_words old.options ∷ raised (words_of_bytes bytes) ∷ []) old (taken.first ∷ taken.text ∷ []) new
  pub sizes : HaveSizes old.options bytes taken
  pub starting : IsStarting next words [] (taken.text ∷ taken.first ∷ []) after new
  pub tables : after.tables ≡ before.tables
  pub room : KeepsRoom old new
  pub keeps : KeepsBlocks before after old new

-- all blocks of the start were
pub record TakesAll (next : Option Event) (words : List ℕ) (missing : List TableName) (bytes : ℕ) (before after : ReservedBlocks) (old : ServerState) (taken : Taken) (new : ServerState) : Type 0 where
  pub blocks : List Block
  pub takes : Takes before.tables (needs_for old.options missing bytes) old (blocks ++ taken.first ∷ taken.text ∷ []) new
  pub sizes : HaveSizes old.options bytes taken
  pub starting : IsStarting next words [] (taken.text ∷ taken.first ∷ []) after new
  pub tables : after.tables ≡ before.tables
  pub room : KeepsRoom old new
  pub gives : GivesBlocks missing blocks before after old new

-- One of the needs got no block. Some blocks were given back then, and these are held still.
pub record Stops (tables : List TableName) (next : Option Event) (words : List ℕ) (needs : List ℕ) (held : List Block) (old new : ServerState) (e : NoTile) : Type 0 where
  pub short : IsShortOf tables needs old new e
  pub licensed : LacksRoom new.options new.journal.events e.need e.largest
  pub least : least_block ≤ e.need
  pub names : List Named
  pub whole : IsWhole (holds next held) names words new
  pub room : KeepsRoom old new
