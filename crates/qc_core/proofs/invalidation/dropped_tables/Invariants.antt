use Rattle.std.proofs.Common.{◌≡◌, ◌++◌, drop}
use Rattle.qc_core.specs.Invalidation.{tables_dropped}
use Rattle.qc_core.proofs.invalidation.dropped_tables.Given as goal

abbrev pub invariant-loop-op : goal.invariant-loop-op
invariant-loop-op l = l.dropped ++ tables_dropped (drop l.op-index l.ops) l.database ≡ tables_dropped l.ops l.database
