-- What a statement that makes, empties or drops tables or databases does.
use Rattle.std.specs.Prelude.{◌<◌, List, ◌++◌, length, Ok}
use Rattle.qc_sql.specs.declared.tables.RowOp.{RowOp}
use Rattle.qc_sql.specs.Database.{Database}
use Rattle.qc_sql.specs.Errors.{table_full}
use Rattle.qc_laws.specs.sizes.Replies.{FitsError}
use Rattle.qc_model.specs.declared.events.Who.{Who}
use Rattle.qc_model.specs.Journal.{Journal}
use Rattle.qc_model.specs.Licence.{IsCommitOn}
use Rattle.qc_model.specs.Machine.{Given, form_given, other, refused}
use Rattle.qc_model.specs.Session.{State, own_operations}
use Rattle.qc_statements.specs.declared.schema_changes.SchemaChange.{SchemaChange}
use Rattle.qc_statements.specs.declared.schema_changes.SchemaChange.TheVariants as form
use Rattle.qc_statements.specs.Ends.{conflict_given, full_given}
use Rattle.qc_statements.specs.Sound.{MayFollow}

-- its event, its reply and the next state
abbrev pub given_by : Who → State → SchemaChange → Given
given_by who state (form.Conflict c) = conflict_given who state c
given_by who state (form.Full t) = full_given who state t
given_by who state (form.Refused e) = other who state (refused e)
given_by who state (form.Commits x) = form_given who state (own_operations state) (Ok x)

-- the conflict is with a commit, an error fits a packet, and operations may be carried out behind the transaction's own
abbrev pub IsGood : Journal → Database → List RowOp → SchemaChange → Type 0
IsGood journal d own (form.Conflict c) = IsCommitOn journal c.by c.table
IsGood journal d own (form.Full t) = FitsError (table_full t)
IsGood journal d own (form.Refused e) = FitsError e
IsGood journal d own (form.Commits x) = (0 < length x.operations) × MayFollow (own ++ x.operations) d
