-- How a transaction ends, by the journal in which its snapshot was taken: with a conflict, or with its own operations.
use Rattle.std.specs.Prelude.{◌≡◌, ℕ, ◌+◌, ◌≤◌, List, length, take, Option, Some, None, Result, Ok, Err, IfSome}
use Rattle.qc_sql.specs.declared.tables.RowOp.{RowOp}
use Rattle.qc_sql.specs.Database.{Database}
use Rattle.qc_model.specs.Journal.{Journal, present, before}
use Rattle.qc_model.specs.Session.{State, own_operations, snapshot_of}
use Rattle.qc_model.specs.Conflicts as conflicts
use Rattle.qc_model.specs.Machine.{conflict_in}
use Rattle.qc_trx.specs.declared.conflict.Conflict.{Conflict}
use Rattle.qc_trx.specs.SnapshotStates.{SnapshotState}

-- a conflict of the code as one of the machine
abbrev pub meant : Conflict → conflicts.Conflict
meant c = record { table = c.table; key = c.key; by = c.by }

abbrev pub unless_in_conflict : Option conflicts.Conflict → List RowOp → Result (List RowOp) conflicts.Conflict
unless_in_conflict None own = Ok own
unless_in_conflict (Some c) own = Err c

-- what ending the transaction at the end of a journal gives
abbrev pub end_of : State → Journal → Result (List RowOp) conflicts.Conflict
end_of state journal = unless_in_conflict (conflict_in state journal) (own_operations state)

-- A database is the one at a place of the journal, where a snapshot was taken: the one before the event of that place, which left it as it was.
-- That event is the statement that took the snapshot; since it ran in the transaction, it committed nothing.
pub record IsOriginIn (journal : Journal) (place : ℕ) (origin : Option Database) : Type 0 where
  pub least : 1 ≤ place
  pub most : place ≤ length journal + 1
  pub is : origin ≡ Some (present (before place journal))
  pub quiet : present (take place journal) ≡ present (before place journal)

-- the snapshot, where there is one, was taken in this journal
abbrev pub StandsIn : Journal → SnapshotState → Type 0
StandsIn journal s = IfSome (snapshot_of s.state) (λ place. IsOriginIn journal place s.origin)
