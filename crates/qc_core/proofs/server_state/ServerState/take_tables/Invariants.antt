use Rattle.std.proofs.Common.{ℕ, length}
use Rattle.qc_core.specs.Allocation.{MayTake, next_of}
use Rattle.qc_core.proofs.Drawing.{Drawing}
use Rattle.qc_core.proofs.server_state.ServerState.take_tables.Given as goal

abbrev pub invariant-loop-table : goal.invariant-loop-table
invariant-loop-table l = (bytes : ℕ) (u : MayTake l.fn.missing bytes l.fn.hand l.fn.self) → Drawing (next_of l.fn.missing bytes l.fn.hand l.fn.self u) u.words l.fn.missing (length l.yielded) l.fn.hand l.hand l.fn.self l.self
