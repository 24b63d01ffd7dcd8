use Rattle.std.proofs.Common.{◌≡◌, [], drop, map}
use Rattle.qc_resolve.specs.Steps.{run}
use Rattle.qc_write.specs.Placing.{placing_of, put_step}
use Rattle.qc_write.proofs.assigned_rows.put_rows.Given as goal

abbrev pub invariant-loop-row : goal.invariant-loop-row
invariant-loop-row g l =
    run (put_step l.target.name (map placing_of l.sets) l.target.version.now.rows) l.rows [] ≡ run (put_step l.target.name (map placing_of l.sets) l.target.version.now.rows) (drop l.row-index l.rows) l.ops
