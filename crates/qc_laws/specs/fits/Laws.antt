-- Laws on operations that fit, which functions of this crate promise.
use Rattle.std.specs.Prelude.{◌≡◌, ℕ, ◌+◌, ◌<◌, ℤ, Bool, true, false, List, [], ◌∷◌, ◌++◌, length, Option, Some, None, is_some, IfSome, Ok}
use Rattle.std.specs.List.{list_all, list_any}
use Rattle.qc_types.specs.declared.names.TableName.{TableName}
use Rattle.qc_types.specs.declared.options.Options.{Options}
use Rattle.qc_sql.specs.declared.tables.RowOp.{RowOp}
use Rattle.qc_sql.specs.declared.statements.Statement.{Statement}
use Rattle.qc_sql.specs.Database.{Name, Database, apply, empty_database, same_table, touches, columns_of, row_of}
use Rattle.qc_sql.specs.Effects.{Effect, effect}
use Rattle.qc_sql.specs.declared.commands.Command.{Command}
use Rattle.qc_sql.specs.declared.replies.Reply.{Reply}
use Rattle.qc_model.specs.declared.events.Who.{Who}
use Rattle.qc_model.specs.declared.events.Event.{Event}
use Rattle.qc_model.specs.Journal.{Journal, operations, present}
use Rattle.qc_model.specs.Session.{Transaction, State, just_opened, at_snapshot, seen_in, arrived, uses_rows}
use Rattle.qc_model.specs.Conflicts.{changes_form, is_row, all_written, conflict_of}
use Rattle.qc_model.specs.Licence.{ops_fit, is_within_rows, IsLawful, MayCommit}
use Rattle.qc_model.specs.Machine.{full_table, Executes, local}
use Rattle.qc_laws.specs.fits.Sound.{commits_fit, IsNoChangeAt, is_row_op, rows_changed_by, changes_tables}
use Rattle.qc_model.specs.Sound.{IsSoundDatabase}
use Rattle.qc_laws.specs.fits.Open.{IsFitting, AreFitting, grown, IsAtRest, MayCome}

-- ---- operations that fit

-- A sound database is sound after operations that fit.
abbrev pub SoundStays : Type 0
SoundStays = (ops : List RowOp) (d : Database) → IsSoundDatabase d → ops_fit ops d ≡ true → IsSoundDatabase (apply ops d)

-- What a statement does to a sound database fits.
abbrev pub ChangesFit : Type 0
ChangesFit = (s : Statement) (d : Database) (db : Name) (session : ℕ) (x : Effect) → IsSoundDatabase d → effect s d db session ≡ Ok x → ops_fit x.operations d ≡ true

-- No table has more rows than it may have after a statement.
abbrev pub ChangesStayWithin : Type 0
ChangesStayWithin = (s : Statement) (d : Database) (db : Name) (session : ℕ) (x : Effect)
    → IsSoundDatabase d → is_within_rows d ≡ true → effect s d db session ≡ Ok x → is_within_rows (apply x.operations d) ≡ true

-- ---- the kinds of operations

-- INSERT, UPDATE and DELETE put and delete rows,
abbrev pub ChangesAreRows : Type 0
ChangesAreRows = (s : Statement) (d : Database) (db : Name) (session : ℕ) (t : TableName) (x : Effect) → rows_changed_by db s ≡ Some t → effect s d db session ≡ Ok x → list_all is_row_op x.operations ≡ true

-- and touch no other table.
abbrev pub ChangesAreOfTable : Type 0
ChangesAreOfTable = (s : Statement) (d : Database) (db : Name) (session : ℕ) (t u : TableName) (x : Effect)
    → rows_changed_by db s ≡ Some t → same_table u t ≡ false → effect s d db session ≡ Ok x → list_any (touches u) x.operations ≡ false

-- CREATE, DROP and TRUNCATE have an operation at least.
abbrev pub FormsChange : Type 0
FormsChange = (s : Statement) (d : Database) (db : Name) (session : ℕ) (x : Effect) → changes_tables s ≡ true → effect s d db session ≡ Ok x → 0 < length x.operations

-- ---- journals

-- The commits of a lawful journal fit.
abbrev pub LawfulCommitsFit : Type 0
LawfulCommitsFit = (options : Options) (journal : Journal) → IsLawful options journal → commits_fit empty_database journal ≡ true

-- A lawful journal makes no table with more rows than it may have.
abbrev pub LawfulStaysWithin : Type 0
LawfulStaysWithin = (options : Options) (journal : Journal) → IsLawful options journal → is_within_rows (present journal) ≡ true

-- Where the commits fit, the database is sound at the end of the journal, and at each snapshot.
abbrev pub JournalsAreSound : Type 0
JournalsAreSound = (snapshot : Option ℕ) (journal : Journal) → commits_fit empty_database journal ≡ true → IsSoundDatabase (at_snapshot snapshot journal)

-- ---- a transaction at its commit

-- A table whose form and whole database no operation changes keeps its columns,
abbrev pub FormsStay : Type 0
FormsStay = (t : TableName) (ops : List RowOp) (d : Database) → list_any (changes_form t) (all_written ops d) ≡ false → columns_of t (apply ops d) ≡ columns_of t d

-- and each row that no operation writes.
abbrev pub RowsStay : Type 0
RowsStay = (t : TableName) (key : ℤ) (ops : List RowOp) (d : Database)
    → list_any (changes_form t) (all_written ops d) ≡ false → list_any (is_row t key) (all_written ops d) ≡ false → row_of t key (apply ops d) ≡ row_of t key d

-- Row operations that fit at a snapshot fit at the end of the journal, where no commit since then conflicts. The event at the place of the
-- snapshot is the transaction's own, and no commit.
abbrev pub KeptSnapshotsFit : Type 0
KeptSnapshotsFit = (t : Transaction) (place : ℕ) (journal : Journal)
    → commits_fit empty_database journal ≡ true → t.snapshot ≡ Some place → IsNoChangeAt place journal
    → list_all is_row_op t.operations ≡ true → ops_fit t.operations (at_snapshot t.snapshot journal) ≡ true → conflict_of t journal ≡ None
    → ops_fit t.operations (present journal) ≡ true

-- ---- an open transaction

-- What a session sees is sound,
abbrev pub ViewsAreSound : Type 0
ViewsAreSound = (o : Option Transaction) (journal : Journal) → commits_fit empty_database journal ≡ true → AreFitting o journal → IsSoundDatabase (seen_in o journal)

-- and leaves room.
abbrev pub ViewsAreWithin : Type 0
ViewsAreWithin = (o : Option Transaction) (journal : Journal) → is_within_rows (present journal) ≡ true → AreFitting o journal → is_within_rows (seen_in o journal) ≡ true

-- A transaction that has just begun fits.
abbrev pub NewOnesFit : Type 0
NewOnesFit = (journal : Journal) → is_within_rows (present journal) ≡ true → IsFitting just_opened journal

-- It fits as the next statement arrives, which may open it or take its snapshot.
abbrev pub ArrivedOnesFit : Type 0
ArrivedOnesFit = (s : Statement) (state : State) (journal : Journal)
    → is_within_rows (present journal) ≡ true → AreFitting state.transaction journal → AreFitting (arrived (length journal + 1) s state).transaction journal

-- A statement that reads or writes rows has a snapshot, where a transaction is open.
abbrev pub ArrivedHaveSnapshots : Type 0
ArrivedHaveSnapshots = (s : Statement) (state : State) (place : ℕ) (t : Transaction)
    → uses_rows s ≡ true → (arrived place s state).transaction ≡ Some t → is_some t.snapshot ≡ true

-- It fits with what a statement that changes rows adds,
abbrev pub GrownOnesFit : Type 0
GrownOnesFit = (s : Statement) (t : Transaction) (journal : Journal) (db : Name) (session : ℕ) (table : TableName) (x : Effect)
    → commits_fit empty_database journal ≡ true → IsFitting t journal → is_some t.snapshot ≡ true → rows_changed_by db s ≡ Some table
    → effect s (seen_in (Some t) journal) db session ≡ Ok x → IsFitting (grown t x.operations) journal

-- and after the next event, which changes nothing where the snapshot was taken at its place.
abbrev pub FittingStays : Type 0
FittingStays = (t : Transaction) (journal : Journal) (e : Event)
    → is_within_rows (present (journal ++ e ∷ [])) ≡ true → (t.snapshot ≡ Some (length journal + 1) → operations e ≡ []) → IsFitting t journal → IsFitting t (journal ++ e ∷ [])

-- What operations of a kind keep, as a bound on names and values, journals of that kind keep at their end and at each snapshot,
abbrev pub JournalsKeep : Type 0
JournalsKeep = (test : Database → Bool) (kind : RowOp → Bool) (snapshot : Option ℕ) (journal : Journal)
    → test empty_database ≡ true → ((ops : List RowOp) (d : Database) → list_all kind ops ≡ true → test d ≡ true → test (apply ops d) ≡ true)
    → list_all (λ e. list_all kind (operations e)) journal ≡ true → test (at_snapshot snapshot journal) ≡ true

-- and so does what a session sees.
abbrev pub ViewsKeep : Type 0
ViewsKeep = (test : Database → Bool) (kind : RowOp → Bool) (o : Option Transaction) (journal : Journal)
    → test empty_database ≡ true → ((ops : List RowOp) (d : Database) → list_all kind ops ≡ true → test d ≡ true → test (apply ops d) ≡ true)
    → list_all (λ e. list_all kind (operations e)) journal ≡ true → IfSome o (λ t. list_all kind t.operations ≡ true) → test (seen_in o journal) ≡ true

-- ---- what may be committed

-- A transaction that ends without a conflict fits the present.
abbrev pub EndingsFit : Type 0
EndingsFit = (t : Transaction) (journal : Journal) → commits_fit empty_database journal ≡ true → IsFitting t journal → conflict_of t journal ≡ None → ops_fit t.operations (present journal) ≡ true

-- No table is full exactly where none has more rows than it may have.
abbrev pub NoneIsFull : Type 0
NoneIsFull = (d : Database) → full_table d ≡ None → is_within_rows d ≡ true

abbrev pub WithinIsNotFull : Type 0
WithinIsNotFull = (d : Database) → is_within_rows d ≡ true → full_table d ≡ None

-- Operations that fit may be committed with those of a statement that is validated behind them.
abbrev pub StatementsMayCommit : Type 0
StatementsMayCommit = (own : List RowOp) (s : Statement) (journal : Journal) (db : Name) (session : ℕ) (x : Effect)
    → commits_fit empty_database journal ≡ true → ops_fit own (present journal) ≡ true → is_within_rows (apply own (present journal)) ≡ true
    → effect s (apply own (present journal)) db session ≡ Ok x → 0 < length (own ++ x.operations) → MayCommit journal (own ++ x.operations)

-- The commits of a journal fit with one more that fits.
abbrev pub CommitsGrow : Type 0
CommitsGrow = (journal : Journal) (e : Event)
    → commits_fit empty_database journal ≡ true → ops_fit (operations e) (present journal) ≡ true → commits_fit empty_database (journal ++ e ∷ []) ≡ true

-- ---- the machine

-- What a command commits may be committed, where the session is at rest before it,
abbrev pub CommandsMayCommit : Type 0
CommandsMayCommit = (options : Options) (who : Who) (state next : State) (c : Command) (journal : Journal) (e : Event) (r : Reply)
    → commits_fit empty_database journal ≡ true → is_within_rows (present journal) ≡ true → IsAtRest state.transaction journal
    → Executes options who state c journal e r next → MayCome journal e

-- and it is at rest again with its event,
abbrev pub CommandsRest : Type 0
CommandsRest = (options : Options) (who : Who) (state next : State) (c : Command) (journal : Journal) (e : Event) (r : Reply)
    → commits_fit empty_database journal ≡ true → is_within_rows (present journal) ≡ true → IsAtRest state.transaction journal
    → Executes options who state c journal e r next → IsAtRest next.transaction (journal ++ e ∷ [])

-- after a command that has no event,
abbrev pub LocalsRest : Type 0
LocalsRest = (state next : State) (c : Command) (journal : Journal) (r : Reply) → local state c ≡ Some (r, next) → IsAtRest state.transaction journal → IsAtRest next.transaction journal

-- and after an event of another session.
abbrev pub OthersRest : Type 0
OthersRest = (o : Option Transaction) (journal : Journal) (e : Event) → is_within_rows (present (journal ++ e ∷ [])) ≡ true → IsAtRest o journal → IsAtRest o (journal ++ e ∷ [])
