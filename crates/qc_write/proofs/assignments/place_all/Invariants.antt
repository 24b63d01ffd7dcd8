use Rattle.std.proofs.Common.{◌≡◌, drop, map}
use Rattle.qc_sql.specs.Rows.{each}
use Rattle.qc_resolve.specs.Steps.{run, push_made}
use Rattle.qc_write.specs.Placing.{assignment_placed, placing_of}
use Rattle.qc_write.proofs.assignments.place_all.Given as goal

abbrev pub invariant-loop-assignment : goal.invariant-loop-assignment
invariant-loop-assignment l = each (assignment_placed l.columns) l.assignments ≡ run (push_made (assignment_placed l.columns)) (drop l.assignment-index l.assignments) (map placing_of l.placed.items)
