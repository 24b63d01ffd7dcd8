-- Which reports their texts tell whole: those of numbers as wide as their types, and of rows whose cells are numbers exactly where a text is read as one.
use Rattle.std.specs.Prelude.{◌≡◌, ◌<◌, ◌≤◌, ◌^◌, ℕ, ℤ, true, List, [], ◌∷◌, length, drop, Option, Some, None, IfSome}
use Rattle.std.specs.Fmt.{signed_decimal}
use Rattle.std.specs.List.{AllByRecursion}
use lib.Signed.{mag}
use Rattle.qc_types.specs.declared.names.TableName.{TableName}
use Rattle.qc_types.specs.declared.names.Value.{Value}
use Rattle.qc_types.specs.declared.names.Value.TheVariants as value
use Rattle.qc_types.specs.declared.names.Why.{Why}
use Rattle.qc_types.specs.declared.names.Why.TheVariants as why
use Rattle.qc_types.specs.declared.options.Options.{Options}
use Rattle.qc_types.specs.declared.totals.Totals.{Totals}
use Rattle.qc_sql.specs.declared.tables.Column.{Column}
use Rattle.qc_sql.specs.declared.tables.Kind.{Kind}
use Rattle.qc_sql.specs.declared.tables.Kind.TheVariants as kind
use Rattle.qc_sql.specs.declared.tables.RowOp.{RowOp}
use Rattle.qc_sql.specs.declared.tables.RowOp.TheVariants as op
use Rattle.qc_model.specs.declared.events.Who.{Who}
use Rattle.qc_model.specs.declared.events.How.{How}
use Rattle.qc_model.specs.declared.events.How.TheVariants as how
use Rattle.qc_model.specs.declared.events.Reason.{Reason}
use Rattle.qc_model.specs.declared.events.Reason.TheVariants as reason
use Rattle.qc_model.specs.declared.events.GoneWhy.{GoneWhy}
use Rattle.qc_model.specs.declared.events.GoneWhy.TheVariants as gone
use Rattle.qc_model.specs.declared.events.Event.{Event}
use Rattle.qc_model.specs.declared.events.Event.TheVariants as event
use Rattle.qc_model.specs.declared.events.Counters.{Counters}
use Rattle.qc_model.specs.declared.reports.Ending.{Ending}
use Rattle.qc_model.specs.declared.reports.Ending.TheVariants as ending
use Rattle.qc_model.specs.declared.reports.ReportLine.{ReportLine}
use Rattle.qc_model.specs.declared.reports.SessionReport.{SessionReport}
use Rattle.qc_model.specs.declared.reports.Report.{Report}
use Rattle.qc_model.specs.ReportText.{Text, table_text}
use Rattle.qc_script.specs.Told.{KindsMade, kinds_at, made_with, first_kind}

-- ---- numbers and bytes

abbrev pub IsU8 : ℕ → Type 0
IsU8 n = n < 2 ^ 8

abbrev pub IsU16 : ℕ → Type 0
IsU16 n = n < 2 ^ 16

abbrev pub IsU32 : ℕ → Type 0
IsU32 n = n < 2 ^ 32

abbrev pub IsU64 : ℕ → Type 0
IsU64 n = n < 2 ^ 64

abbrev pub IsI64 : ℤ → Type 0
IsI64 z = mag z < 2 ^ 63

abbrev pub AreBytes : Text → Type 0
AreBytes t = AllByRecursion IsU8 t

pub record IsName (t : TableName) : Type 0 where
  pub db : AreBytes t.db
  pub name : AreBytes t.name

-- ---- operations

-- no number of BIGINT is written so
abbrev pub IsNoNumber : Text → Type 0
IsNoNumber t = (z : ℤ) → IsI64 z → t ≡ signed_decimal z → ⊥

pub record IsText (t : Text) : Type 0 where
  pub bytes : AreBytes t
  pub size : IsU64 (length t)

-- a cell is a number exactly where its column has BIGINT and its text is that of a number
abbrev pub FitsKind : Option Kind → Value → Type 0
FitsKind k value.Null = Unit {0}
FitsKind None (value.Str t) = IsText t
FitsKind (Some (kind.Str n)) (value.Str t) = IsText t
FitsKind (Some kind.Int) (value.Str t) = IsText t × IsNoNumber t
FitsKind (Some kind.Int) (value.Int z) = IsI64 z
FitsKind (Some (kind.Str n)) (value.Int z) = ⊥
FitsKind None (value.Int z) = ⊥

-- the cells from left to right, by the kinds of their columns
abbrev pub FitKinds : List Kind → List Value → Type 0
FitKinds kinds [] = Unit {0}
FitKinds kinds (v ∷ vs) = FitsKind (first_kind kinds) v × FitKinds (drop 1 kinds) vs

abbrev pub IsKind : Kind → Type 0
IsKind kind.Int = Unit {0}
IsKind (kind.Str n) = IsU16 n

-- a primary key is NOT NULL
pub record IsColumn (c : Column) : Type 0 where
  pub short : length c.name ≤ 255
  pub name : AreBytes c.name
  pub kind : IsKind c.kind
  pub key : c.primary ≡ true → c.not_null ≡ true

-- an operation, where these tables were made before it
abbrev pub TellsOp : KindsMade → RowOp → Type 0
TellsOp made (op.Put t row) = IsName t × FitKinds (kinds_at (table_text t) made) row
TellsOp made (op.Del t key) = IsName t × IsI64 key
TellsOp made (op.CreateTable t columns) = IsName t × AllByRecursion IsColumn columns
TellsOp made (op.DropTable t) = IsName t
TellsOp made (op.CreateDb name) = AreBytes name
TellsOp made (op.DropDb name) = AreBytes name

-- the tables that were made with it, each as it was made last
abbrev pub made_by : RowOp → KindsMade → KindsMade
made_by (op.CreateTable t columns) made = made_with (table_text t) columns made
made_by (op.Put t row) made = made
made_by (op.Del t key) made = made
made_by (op.DropTable t) made = made
made_by (op.CreateDb name) made = made
made_by (op.DropDb name) made = made

abbrev pub TellOps : KindsMade → List RowOp → Type 0
TellOps made [] = Unit {0}
TellOps made (o ∷ os) = TellsOp made o × TellOps (made_by o made) os

abbrev pub made_by_all : List RowOp → KindsMade → KindsMade
made_by_all [] made = made
made_by_all (o ∷ os) made = made_by_all os (made_by o made)

-- ---- events

pub record IsWho (w : Who) : Type 0 where
  pub session : IsU8 w.session
  pub number : IsU64 w.number

abbrev pub IsWhy : Why → Type 0
IsWhy why.Locking = Unit {0}
IsWhy why.NoTables = Unit {0}
IsWhy (why.SystemTable t) = IsName t
IsWhy (why.Function name) = AreBytes name

abbrev pub IsReason : Reason → Type 0
IsReason (reason.Error code) = IsU16 code
IsReason reason.Off = Unit {0}
IsReason reason.NotAsked = Unit {0}
IsReason (reason.Rule y) = IsWhy y
IsReason (reason.Written t) = IsName t
IsReason (reason.NotVisible t changed snapshot) = IsName t × IsU64 changed × IsU64 snapshot
IsReason (reason.Rival serial) = IsU64 serial
IsReason (reason.NoRoom need largest) = IsU32 need × IsU32 largest

pub record AreTotals (t : Totals) : Type 0 where
  pub blocks : IsU32 t.blocks
  pub free_blocks : IsU32 t.free_blocks
  pub free_words : IsU32 t.free_words

abbrev pub IsHow : How → Type 0
IsHow (how.Hit serial) = IsU64 serial
IsHow (how.Start serial key tables) = IsU64 serial × AreBytes key × AllByRecursion IsName tables
IsHow (how.Plain y) = IsReason y
IsHow how.Other = Unit {0}
IsHow (how.Status totals) = AreTotals totals
IsHow (how.Conflict t key by) = IsName t × IfSome key IsI64 × IsU64 by

abbrev pub IsGoneWhy : GoneWhy → Type 0
IsGoneWhy (gone.TooLarge size limit) = IsU64 size × IsU32 limit
IsGoneWhy (gone.NoRoom need largest) = IsU32 need × IsU32 largest
IsGoneWhy gone.Ended = Unit {0}

-- an event, where these tables were made before it
abbrev pub TellsEvent : KindsMade → Event → Type 0
TellsEvent made (event.Run who h) = IsWho who × IsHow h
TellsEvent made (event.Commit who ops) = IsWho who × TellOps made ops
TellsEvent made (event.Done serial) = IsU64 serial
TellsEvent made (event.Gone serial y) = IsU64 serial × IsGoneWhy y
TellsEvent made (event.Prune serial need largest) = IsU64 serial × IsU32 need × IsU32 largest
TellsEvent made (event.Reset who) = IsWho who
TellsEvent made (event.Flush who) = IsWho who

abbrev pub made_by_event : Event → KindsMade → KindsMade
made_by_event (event.Commit who ops) made = made_by_all ops made
made_by_event (event.Run who h) made = made
made_by_event (event.Done serial) made = made
made_by_event (event.Gone serial y) made = made
made_by_event (event.Prune serial need largest) made = made
made_by_event (event.Reset who) made = made
made_by_event (event.Flush who) made = made

abbrev pub TellEvents : KindsMade → List Event → Type 0
TellEvents made [] = Unit {0}
TellEvents made (e ∷ es) = TellsEvent made e × TellEvents (made_by_event e made) es

-- ---- sessions

abbrev pub IsEnding : Ending → Type 0
IsEnding ending.Quit = Unit {0}
IsEnding ending.Input = Unit {0}
IsEnding (ending.Cut size) = IsU32 size
IsEnding (ending.TooLong size) = IsU32 size
IsEnding (ending.BadSequence found wanted) = IsU8 found × IsU8 wanted

pub record IsLine (l : ReportLine) : Type 0 where
  pub place : IsU64 l.place
  pub reply : AreBytes l.reply

pub record IsSession (s : SessionReport) : Type 0 where
  pub session : IsU8 s.session
  pub count : IsU64 (length s.lines)
  pub each : AllByRecursion IsLine s.lines
  pub ending : IsEnding s.ending

-- ---- the whole

pub record AreOptions (o : Options) : Type 0 where
  pub size : IsU32 o.size
  pub limit : IsU32 o.limit
  pub unit : IsU32 o.unit
  pub kind : IsU8 o.kind

pub record AreCounters (c : Counters) : Type 0 where
  pub com_select : IsU64 c.com_select
  pub hits : IsU64 c.hits
  pub inserts : IsU64 c.inserts
  pub not_cached : IsU64 c.not_cached
  pub lowmem_prunes : IsU64 c.lowmem_prunes
  pub queries_in_cache : IsU64 c.queries_in_cache

-- Each number is one of its type, each name of a column has at most 255 bytes, and each row that is put is told by its bytes and the columns with which
-- its table was made last.
pub record IsTellable (r : Report) : Type 0 where
  pub options : AreOptions r.options
  pub session_count : IsU64 (length r.sessions)
  pub sessions : AllByRecursion IsSession r.sessions
  pub event_count : IsU64 (length r.journal)
  pub journal : TellEvents [] r.journal
  pub counters : AreCounters r.counters
