-- What a command's decision under the turn says of its event, its reply and the session's next state, by the journal before the event.
use Rattle.std.specs.Prelude.{◌≡◌, true, None}
use Rattle.qc_types.specs.declared.options.Options.{Options}
use Rattle.qc_sql.specs.declared.statements.Statement.{Statement}
use Rattle.qc_sql.specs.declared.replies.Reply.{Reply}
use Rattle.qc_sql.specs.Database.{Database}
use Rattle.qc_sql.specs.Effects.{effect}
use Rattle.qc_sql.specs.Errors.{table_full, write_conflict}
use Rattle.qc_laws.specs.fits.Sound.{changes_tables}
use Rattle.qc_laws.specs.sizes.Names.{is_short_statement}
use Rattle.qc_laws.specs.sizes.Replies.{FitsError}
use Rattle.qc_model.specs.declared.events.Event.{Event}
use Rattle.qc_model.specs.declared.events.Who.{Who}
use Rattle.qc_model.specs.Journal.{Journal}
use Rattle.qc_model.specs.Machine.{Given, changed_form, changed_rows, ended_with, ok_reply, refused}
use Rattle.qc_model.specs.Session.{State, base, snapshot_of, with_transaction}
use Rattle.qc_trx.specs.SnapshotStates.{SnapshotState, after_end}
use Rattle.qc_statements.specs.Sound.{IsFitState, IsPast, IsSound}
use Rattle.qc_statements.specs.Statements.{changes_rows}
use Rattle.qc_serve.specs.declared.transaction_end.Ended.{Ended}
use Rattle.qc_serve.specs.declared.transaction_end.Ended.TheVariants as ended
use Rattle.qc_serve.specs.declared.rows.RowsEnd.{RowsEnd}
use Rattle.qc_serve.specs.declared.rows.RowsEnd.TheVariants as rows
use Rattle.qc_serve.specs.declared.schema.FormsEnd.{FormsEnd}
use Rattle.qc_serve.specs.declared.schema.FormsEnd.TheVariants as forms

-- the journal is sound, and makes this database
abbrev pub Makes : Journal → Database → Type 0
Makes journal d = (o : Options) × IsSound o journal d

-- the event of what is given, its reply and its next state
pub record IsGiven (g : Given) (e : Event) (r : Reply) (s : State) : Type 0 where
  pub event : e ≡ g.event
  pub reply : g.reply ≡ r
  pub next : g.next ≡ s

-- how the open transaction ended, whatever state its commit leaves
abbrev pub EndsAs : Who → State → Journal → Event → Ended → Type 0
EndsAs who state journal e ended.Conflict = (next : State) → IsGiven (ended_with who state journal next) e (refused write_conflict) (with_transaction state None)
EndsAs who state journal e (ended.Full t) = FitsError (table_full t) × ((next : State) → IsGiven (ended_with who state journal next) e (refused (table_full t)) (with_transaction state None))
EndsAs who state journal e ended.Commits = (next : State) → IsGiven (ended_with who state journal next) e (ok_reply next 0) next

-- what a statement on rows asks, of a session without a transaction
pub record MayChangeRows (s : Statement) (x : SnapshotState) (seen : Journal) : Type 0 where
  pub rows : changes_rows s ≡ true
  pub short : is_short_statement s ≡ true
  pub fit : IsFitState seen x
  pub closed : x.state.transaction ≡ None

-- what a statement on rows did outside of a transaction
abbrev pub RowsAs : Who → State → Statement → Journal → Event → RowsEnd → Type 0
RowsAs who state s journal e (rows.Refused x) = FitsError x × IsGiven (changed_rows who state (effect s (base state journal) state.db state.session)) e (refused x) state
RowsAs who state s journal e (rows.Changes n) = IsGiven (changed_rows who state (effect s (base state journal) state.db state.session)) e (ok_reply state n) state

-- what a statement asks that makes, empties or drops tables or databases
pub record MayChangeSchema (s : Statement) (x : SnapshotState) (seen : Journal) : Type 0 where
  pub forms : changes_tables s ≡ true
  pub short : is_short_statement s ≡ true
  pub fit : IsFitState seen x
  pub past : IsPast seen (snapshot_of x.state)

-- what a statement did that makes, empties or drops tables or databases
abbrev pub FormsAs : Who → State → Statement → Journal → Event → FormsEnd → Type 0
FormsAs who state s journal e forms.Conflict = IsGiven (changed_form who state journal s) e (refused write_conflict) (with_transaction state None)
FormsAs who state s journal e (forms.Full t) = FitsError (table_full t) × IsGiven (changed_form who state journal s) e (refused (table_full t)) (with_transaction state None)
FormsAs who state s journal e (forms.Refused x) = FitsError x × IsGiven (changed_form who state journal s) e (refused x) state
FormsAs who state s journal e (forms.Changes n) = IsGiven (changed_form who state journal s) e (ok_reply (with_transaction state None) n) (with_transaction state None)

-- the state that it leaves
abbrev pub forms_state : FormsEnd → SnapshotState → SnapshotState
forms_state (forms.Refused x) s = s
forms_state _ s = after_end s

-- the reply of a command that has ended a transaction, in the state that it leaves
abbrev pub ended_reply : State → Ended → Reply
ended_reply state ended.Conflict = refused write_conflict
ended_reply state (ended.Full t) = refused (table_full t)
ended_reply state ended.Commits = ok_reply state 0

-- the error, if there is one, fits a packet
abbrev pub HasFittingError : Ended → Type 0
HasFittingError (ended.Full t) = FitsError (table_full t)
HasFittingError _ = Unit {0}

-- the reply of a statement that has made, emptied or dropped something, in the state that it leaves
abbrev pub forms_reply : State → FormsEnd → Reply
forms_reply state forms.Conflict = refused write_conflict
forms_reply state (forms.Full t) = refused (table_full t)
forms_reply state (forms.Refused x) = refused x
forms_reply state (forms.Changes n) = ok_reply state n

-- the error, if there is one, fits a packet
abbrev pub FormsFit : FormsEnd → Type 0
FormsFit (forms.Full t) = FitsError (table_full t)
FormsFit (forms.Refused x) = FitsError x
FormsFit _ = Unit {0}

-- the same of a statement on rows
abbrev pub rows_reply : State → RowsEnd → Reply
rows_reply state (rows.Refused x) = refused x
rows_reply state (rows.Changes n) = ok_reply state n

abbrev pub RowsFit : RowsEnd → Type 0
RowsFit (rows.Refused x) = FitsError x
RowsFit _ = Unit {0}
