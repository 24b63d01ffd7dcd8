use Rattle.std.proofs.Common.{◌≡◌, drop, length, map}
use Rattle.qc_resolve.specs.Steps.{run}
use Rattle.qc_write.specs.Placing.{assigned_one, placing_of}
use Rattle.qc_write.proofs.assigned_rows.assigned.Given as goal

abbrev pub invariant-loop-set : goal.invariant-loop-set
invariant-loop-set l = record {
  so_far : run assigned_one (map placing_of l.sets) l.row ≡ run assigned_one (map placing_of (drop l.set-index l.sets)) l.new.items;
  long : length l.new.items ≡ length l.row;
}
