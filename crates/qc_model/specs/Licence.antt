-- Which events a journal may go on with.
use Rattle.std.specs.Prelude.{◌≡◌, ℕ, ◌+◌, ◌*◌, ◌/◌, ◌<◌, ◌≤◌, max, ℤ, Bool, true, false, not, ◌&&◌, ◌||◌, List, [], ◌∷◌, ◌++◌, length, map, sum_by, filter, Option, Some, None, is_some, is_none, unwrap_or, IsTrue, IsSomeAnd, nat_lt, nat_le, bytes_eq, count_by, ◌==◌, if◌then◌else◌, option_map}
use Rattle.std.specs.List.{list_any, list_all, cons_option}
use Rattle.qc_types.specs.declared.names.TableName.{TableName}
use Rattle.qc_types.specs.declared.names.Value.{Value}
use Rattle.qc_types.specs.declared.names.Value.TheVariants as value
use Rattle.qc_types.specs.declared.options.Options.{Options}
use Rattle.qc_sql.specs.declared.tables.RowOp.{RowOp}
use Rattle.qc_sql.specs.declared.tables.RowOp.TheVariants as op
use Rattle.qc_sql.specs.declared.tables.Column.{Column}
use Rattle.qc_sql.specs.declared.tables.Kind.{Kind}
use Rattle.qc_sql.specs.declared.tables.Kind.TheVariants as kind
use Rattle.qc_model.specs.declared.events.Who.{Who}
use Rattle.qc_model.specs.declared.events.Event.{Event}
use Rattle.qc_model.specs.declared.events.Event.TheVariants as event
use Rattle.qc_model.specs.declared.events.How.{How}
use Rattle.qc_model.specs.declared.events.How.TheVariants as how
use Rattle.qc_model.specs.declared.events.Reason.{Reason}
use Rattle.qc_model.specs.declared.events.Reason.TheVariants as reason
use Rattle.qc_model.specs.declared.events.GoneWhy.{GoneWhy}
use Rattle.qc_model.specs.declared.events.GoneWhy.TheVariants as gone
use Rattle.qc_sql.specs.declared.statements.Statement.{Statement}
use Rattle.qc_sql.specs.declared.statements.Statement.TheVariants as statement
use Rattle.qc_sql.specs.Database.{Name, Database, Table, tables_of, table_of, apply, apply_one, most_rows}
use Rattle.std.specs.BTreeMap.{is_at}
use Rattle.std.specs.Ordering.{int_cmp}
use Rattle.std.specs.Map.{lookup}
use Rattle.qc_model.specs.Journal.{Journal, present, before, last_change, touches_table, decider, is_by, event_count, last_event, event_at}
use Rattle.qc_model.specs.Cache.{Entry, cache, entry_of, is_entry}
use Rattle.qc_sql.specs.Rules.{select_tables}
use Rattle.qc_model.specs.Sizes.{is_small_operation}
use Rattle.qc_model.specs.Session.{parts_of, answer, answer_packets}
use Rattle.qc_model.specs.Choice.{has_key, start_count}
use Rattle.qc_sql.specs.Grammar.{meaning, ParseFault}
use Rattle.std.specs.Prelude.{Result, Ok}
use Rattle.qc_sql.specs.Words.{greatest, is_among}
use Rattle.qc_sql.specs.Rows.{is_null}
use Rattle.qc_types.specs.Blocks.{least_block}

-- ---- sizes of the region

abbrev pub words_of_bytes : ℕ → ℕ
words_of_bytes n = (n + 7) / 8

abbrev pub region_words : Options → ℕ
region_words options = options.size / 8

abbrev pub unit_words : Options → ℕ
unit_words options = options.unit / 8

-- ---- operations that fit

abbrev pub kind_fits : Kind → Value → Bool
kind_fits k value.Null = true
kind_fits kind.Int (value.Int n) = true
kind_fits kind.Int (value.Str t) = false
kind_fits (kind.Str n) (value.Int m) = false
kind_fits (kind.Str n) (value.Str t) = nat_le (length t) n

abbrev pub value_fits : Column → Value → Bool
value_fits c v = kind_fits c.kind v && not ((c.not_null || c.primary) && is_null v)

-- a value for each column, of its kind
abbrev pub row_fits : List Column → List Value → Bool
row_fits [] [] = true
row_fits (c ∷ cs) (v ∷ vs) = value_fits c v && row_fits cs vs
row_fits [] (v ∷ vs) = false
row_fits (c ∷ cs) [] = false

abbrev pub has_row : Option Table → ℤ → Bool
has_row None key = false
has_row (Some t) key = is_some (lookup (is_at (int_cmp key)) t.rows)

abbrev pub takes_row : Option Table → List Value → Bool
takes_row None row = false
takes_row (Some t) row = row_fits t.columns row

-- at most 64 columns, no two of one name, and one primary column, of numbers
abbrev pub most_columns : ℕ
most_columns = 64

abbrev pub is_number_key : Column → Bool
is_number_key c = c.primary && is_number c.kind
  where
    is_number : Kind → Bool
    is_number kind.Int = true
    is_number (kind.Str n) = false

abbrev pub differ_in_name : List Column → Bool
differ_in_name [] = true
differ_in_name (c ∷ cs) = not (list_any (λ other. bytes_eq other.name c.name) cs) && differ_in_name cs

abbrev pub columns_fit : List Column → Bool
columns_fit columns =
    nat_le (length columns) most_columns && differ_in_name columns
    && count_by (λ c. c.primary) columns == 1 && list_any is_number_key columns

-- whether an operation names what is there, or what isn't there yet, and its row or its columns fit
abbrev pub op_fits : RowOp → Database → Bool
op_fits (op.Put t row) d = takes_row (table_of t d) row
op_fits (op.Del t key) d = has_row (table_of t d) key
op_fits (op.CreateTable t columns) d = is_some (tables_of t.db d) && is_none (table_of t d) && columns_fit columns
op_fits (op.DropTable t) d = is_some (table_of t d)
op_fits (op.CreateDb name) d = is_none (tables_of name d)
op_fits (op.DropDb name) d = is_some (tables_of name d)

-- each of them on what those before it made
abbrev pub ops_fit : List RowOp → Database → Bool
ops_fit [] d = true
ops_fit (o ∷ os) d = op_fits o d && ops_fit os (apply_one o d)

-- no table has more rows than that
abbrev pub is_within_rows : Database → Bool
is_within_rows d = list_all (λ tables. list_all (λ entry. nat_le (length entry.1.rows) most_rows) tables.1) d

-- ---- entries that were started, and those that are busy

-- an entry as it was started, and the number of its Start
abbrev pub Started : Type 0
Started = ℕ × Entry

abbrev pub start_of_how : ℕ → How → Option Started
start_of_how n (how.Start serial key tables) = Some (n, record { serial = serial; key = key; tables = tables; complete = false })
start_of_how n _ = None

abbrev pub start_of_event : ℕ → Event → Option Started
start_of_event n (event.Run who h) = start_of_how n h
start_of_event n _ = None

abbrev pub starts_from : ℕ → Journal → List Started
starts_from n [] = []
starts_from n (e ∷ es) = cons_option (start_of_event n e) (starts_from (n + 1) es)

-- all entries that were ever started
abbrev pub starts : Journal → List Started
starts journal = starts_from 1 journal

-- the serial that a hit, a start or a rival names
abbrev pub named_by : Event → Option ℕ
named_by (event.Run who (how.Hit serial)) = Some serial
named_by (event.Run who (how.Start serial key tables)) = Some serial
named_by (event.Run who (how.Plain (reason.Rival serial))) = Some serial
named_by _ = None

abbrev pub hit_by : Event → Option ℕ
hit_by (event.Run who (how.Hit serial)) = Some serial
hit_by _ = None

-- whether no later event is by the same session
abbrev pub is_last : Option Who → Journal → Bool
is_last None later = false
is_last (Some who) later = not (list_any (is_by who.session) later)

-- of the last event of each session, what it names
abbrev pub last_named : (Event → Option ℕ) → Journal → List ℕ
last_named f [] = []
last_named f (e ∷ es) = if is_last (decider e) es then cons_option (f e) (last_named f es) else last_named f es

-- an entry that some session's last event hit
abbrev pub is_busy : Journal → ℕ → Bool
is_busy journal serial = is_among (last_named hit_by journal) serial

-- ---- a crowded region

-- the answer of an entry at its start
abbrev pub answer_at_start : Journal → Started → List ℕ
answer_at_start journal s = unwrap_or (answer s.1.key (present (before s.0 journal))) []

-- the entries that may hold blocks
abbrev pub holders : Journal → List Started
holders journal = filter (λ s. is_some (entry_of s.1.serial (cache journal)) || is_among (last_named named_by journal) s.1.serial) (starts journal)

-- the most blocks of an entry: its text, its tables, and those of its result
abbrev pub most_blocks : Options → Journal → Started → ℕ
most_blocks options journal s = 2 + length s.1.tables + length (answer_at_start journal s) / options.unit

-- the most blocks that are handed out; 9 are those of an entry that is being started
abbrev pub block_bound : Options → Journal → ℕ
block_bound options journal = sum_by (most_blocks options journal) (holders journal) + 9

-- the most words of a block
abbrev pub word_bound : Options → Journal → ℕ → ℕ
word_bound options journal need =
    63 + greatest (least_block ∷ unit_words options ∷ need ∷ map (λ s. words_of_bytes (length s.1.key)) (holders journal))

-- the region may have no free block for a need, whatever the order in which its blocks were taken
abbrev pub IsCrowded : Options → Journal → ℕ → Type 0
IsCrowded options journal need = region_words options < (2 * block_bound options journal + 1) * word_bound options journal need

-- no room: no entry is left to prune, and the region is crowded
pub record LacksRoom (options : Options) (journal : Journal) (need largest : ℕ) : Type 0 where
  pub too_small : largest < need
  pub all_busy : IsTrue (list_all (λ entry. not entry.complete || is_busy journal entry.serial) (cache journal))
  pub crowded : IsCrowded options journal need

-- ---- licences

abbrev pub HasEntry : Journal → ℕ → (Entry → Type 0) → Type 0
HasEntry journal serial P = IsSomeAnd (entry_of serial (cache journal)) P

abbrev pub IsFilling : Journal → ℕ → Type 0
IsFilling journal serial = HasEntry journal serial (λ entry. entry.complete ≡ false)

abbrev pub IsComplete : Journal → ℕ → Type 0
IsComplete journal serial = HasEntry journal serial (λ entry. entry.complete ≡ true)

-- the tables of a key's select
abbrev pub tables_of_statement : Name → Result Statement ParseFault → List TableName
tables_of_statement db (Ok (statement.Select s)) = select_tables db s
tables_of_statement db _ = []

abbrev pub tables_of_key : List ℕ → List TableName
tables_of_key key = let parts = parts_of key in tables_of_statement parts.db (meaning parts.text parts.flags.ansi)

pub record MayStart (options : Options) (journal : Journal) (serial : ℕ) (key : List ℕ) (tables : List TableName) : Type 0 where
  pub next : serial ≡ start_count journal + 1
  pub has_answer : is_some (answer key (present journal)) ≡ true
  pub of_select : tables ≡ tables_of_key key
  pub no_other : list_any (has_key key) (cache journal) ≡ false
  pub has_region : 0 < region_words options

-- whether the last event of a session started the entry
abbrev pub starts_serial : ℕ → Option Event → Bool
starts_serial serial None = false
starts_serial serial (Some e) = unwrap_or (option_map (λ s. s.1.serial == serial) (start_of_event 0 e)) false

-- another session's last event started the entry, which isn't complete
pub record IsRivalOf (journal : Journal) (who : Who) (serial : ℕ) : Type 0 where
  pub filling : IsFilling journal serial
  pub other : (session : ℕ) × (session ≡ who.session → ⊥) × (starts_serial serial (last_event journal session) ≡ true)

abbrev pub MayHaveReason : Options → Journal → Who → Reason → Type 0
MayHaveReason options journal who (reason.NotVisible t changed snapshot) = (changed ≡ last_change journal t) × (snapshot < changed)
MayHaveReason options journal who (reason.Rival serial) = IsRivalOf journal who serial
MayHaveReason options journal who (reason.NoRoom need largest) = LacksRoom options journal need largest
MayHaveReason options journal who _ = Unit {0}

-- an event of a journal that commits to a table
abbrev pub IsCommitOn : Journal → ℕ → TableName → Type 0
IsCommitOn journal by t = IsSomeAnd (event_at journal by) (λ e. (0 < by) × (touches_table t e ≡ true))

abbrev pub MayRun : Options → Journal → Who → How → Type 0
MayRun options journal who (how.Hit serial) = IsComplete journal serial
MayRun options journal who (how.Start serial key tables) = MayStart options journal serial key tables
MayRun options journal who (how.Plain why) = MayHaveReason options journal who why
MayRun options journal who how.Other = Unit {0}
MayRun options journal who (how.Status totals) = Unit {0}
MayRun options journal who (how.Conflict t key by) = IsCommitOn journal by t

-- a session goes on by one, and has no fill under way
pub record MayDecide (journal : Journal) (who : Who) : Type 0 where
  pub next : who.number ≡ event_count journal who.session + 1
  pub not_filling : list_any (λ entry. not entry.complete && starts_serial entry.serial (last_event journal who.session)) (cache journal) ≡ false

pub record MayCommit (journal : Journal) (ops : List RowOp) : Type 0 where
  pub some : 0 < length ops
  pub fit : ops_fit ops (present journal) ≡ true
  pub not_full : is_within_rows (apply ops (present journal)) ≡ true

-- the length of the shortest prefix of whole packets that is longer than a limit
abbrev pub prefix_above : ℕ → ℕ → List (List ℕ) → ℕ
prefix_above limit sum [] = sum
prefix_above limit sum (p ∷ ps) = if nat_lt limit sum then sum else prefix_above limit (sum + length p) ps

abbrev pub MayGiveUp : Options → Journal → ℕ → GoneWhy → Type 0
MayGiveUp options journal serial (gone.TooLarge bytes limit) =
    (limit ≡ options.limit) × (limit < bytes)
    × HasEntry journal serial (λ entry. IsSomeAnd (answer_packets entry.key (present journal)) (λ ps. bytes ≡ prefix_above limit 0 ps))
MayGiveUp options journal serial (gone.NoRoom need largest) = (need ≡ unit_words options) × LacksRoom options journal need largest
MayGiveUp options journal serial gone.Ended = Unit {0}

-- the entries before one, from the least recently used
abbrev pub before_entry : ℕ → List Entry → List Entry
before_entry serial [] = []
before_entry serial (e ∷ es) = if is_entry serial e then [] else e ∷ before_entry serial es

pub record MayPrune (options : Options) (journal : Journal) (serial need largest : ℕ) : Type 0 where
  pub whole : IsComplete journal serial
  pub too_small : largest < need
  pub oldest : IsTrue (list_all (λ entry. not entry.complete || is_busy journal entry.serial) (before_entry serial (cache journal)))
  pub crowded : IsCrowded options journal need

-- an event may follow a journal
abbrev pub IsLicensed : Options → Journal → Event → Type 0
IsLicensed options journal (event.Run who h) = MayDecide journal who × MayRun options journal who h
-- no name that is made is longer than a name may be
IsLicensed options journal (event.Commit who ops) = MayDecide journal who × MayCommit journal ops × (list_all is_small_operation ops ≡ true)
IsLicensed options journal (event.Reset who) = MayDecide journal who
IsLicensed options journal (event.Flush who) = MayDecide journal who
IsLicensed options journal (event.Done serial) = HasEntry journal serial (λ entry. (entry.complete ≡ false) × IsSomeAnd (answer entry.key (present journal)) (λ bytes. length bytes ≤ options.limit))
IsLicensed options journal (event.Gone serial why) = IsFilling journal serial × MayGiveUp options journal serial why
IsLicensed options journal (event.Prune serial need largest) = MayPrune options journal serial need largest

-- each event of a journal may follow those before it
abbrev pub IsLawfulAfter : Options → Journal → Journal → Type 0
IsLawfulAfter options earlier [] = Unit {0}
IsLawfulAfter options earlier (e ∷ es) = IsLicensed options earlier e × IsLawfulAfter options (earlier ++ e ∷ []) es

abbrev pub IsLawful : Options → Journal → Type 0
IsLawful options journal = IsLawfulAfter options [] journal
