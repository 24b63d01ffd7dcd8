use Rattle.std.proofs.Common.{drop}
use Rattle.qc_core.specs.Invalidation.{is_named_by}
use Rattle.qc_core.proofs.Dropping.{any_of, AreLeaving}
use Rattle.qc_core.proofs.server_state.ServerState.drop_named.Given as goal

abbrev pub invariant-loop-op : goal.invariant-loop-op
invariant-loop-op l = AreLeaving (any_of is_named_by (drop l.op-index l.ops)) (any_of is_named_by l.ops) l.fn.self l.self
