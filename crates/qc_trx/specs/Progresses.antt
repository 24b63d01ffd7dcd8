-- What the fields of the code say of a session's transaction: they hold no `Transaction` of the machine, but how far it is (`TransactionProgress`),
-- its own operations, and the row that each of them writes.
use Rattle.std.specs.Prelude.{◌≡◌, ℕ, Bool, true, List, [], Option, Some, None, unwrap_or}
use Rattle.qc_sql.specs.declared.tables.RowOp.{RowOp}
use Rattle.qc_sql.specs.Database.{Name, Database, apply}
use Rattle.qc_sql.specs.Order.{IsOrdered}
use Rattle.qc_model.specs.Licence.{ops_fit}
use Rattle.qc_model.specs.Session.{State, Transaction, just_opened}
use Rattle.qc_trx.specs.declared.progress.TransactionProgress.{TransactionProgress}
use Rattle.qc_trx.specs.declared.progress.TransactionProgress.TheVariants as progress
use Rattle.qc_trx.specs.declared.progress.Snapshot.{Snapshot}
use Rattle.qc_trx.specs.declared.writes.OwnRow.{OwnRow}
use Rattle.qc_trx.specs.Writes.{own_rows}

-- the transaction of the machine
abbrev pub transaction_of : TransactionProgress → List RowOp → Option Transaction
transaction_of progress.Closed own = None
transaction_of progress.Opened own = Some just_opened
transaction_of (progress.Seen s) own = Some (record { snapshot = Some s.place; operations = own })

-- the database at its snapshot
abbrev pub origin_of : TransactionProgress → Option Database
origin_of progress.Closed = None
origin_of progress.Opened = None
origin_of (progress.Seen s) = Some s.origin

-- what a transaction's statements see: the database as its operations left it, or the one at the snapshot
abbrev pub current : Snapshot → Database
current s = unwrap_or s.changed s.origin

-- what is kept behind a snapshot: operations that fit the database there, what they made of it, and what each of them writes
pub record IsSeen (s : Snapshot) (own : List RowOp) (rows : List (Option OwnRow)) : Type 0 where
  pub fits : ops_fit own s.origin ≡ true
  pub made : current s ≡ apply own s.origin
  pub ordered : IsOrdered s.origin
  pub noted : rows ≡ own_rows own s.origin

-- before a snapshot there is no operation
abbrev pub IsProgress : TransactionProgress → List RowOp → List (Option OwnRow) → Type 0
IsProgress progress.Closed own rows = (own ≡ []) × (rows ≡ [])
IsProgress progress.Opened own rows = (own ≡ []) × (rows ≡ [])
IsProgress (progress.Seen s) own rows = IsSeen s own rows

-- its next statement sees another database
abbrev pub after_change : Database → TransactionProgress → TransactionProgress
after_change next progress.Closed = progress.Closed
after_change next progress.Opened = progress.Opened
after_change next (progress.Seen s) = progress.Seen (record { place = s.place; origin = s.origin; changed = Some next })
