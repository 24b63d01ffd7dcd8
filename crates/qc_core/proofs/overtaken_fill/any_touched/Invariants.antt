use Rattle.std.proofs.Common.{◌≡◌, drop}
use Rattle.qc_core.specs.OvertakenFill.{any_touched}
use Rattle.qc_core.proofs.overtaken_fill.any_touched.Given as goal

abbrev pub invariant-loop-table : goal.invariant-loop-table
invariant-loop-table l = any_touched (drop l.table-index l.tables) l.ops ≡ any_touched l.tables l.ops
