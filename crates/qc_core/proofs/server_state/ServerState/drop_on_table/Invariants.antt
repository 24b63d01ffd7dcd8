use Rattle.std.proofs.Common.{length}
use Rattle.qc_dir.specs.Directory.{names_table}
use Rattle.qc_core.proofs.Dropping.{AreLeaving}
use Rattle.qc_core.proofs.server_state.ServerState.drop_on_table.Given as goal

abbrev pub invariant-loop-serial : goal.invariant-loop-serial
invariant-loop-serial l = AreLeaving (names_table l.table) (names_table l.table) l.fn.self l.self

abbrev pub decreases-loop-serial : goal.decreases-loop-serial
decreases-loop-serial l = length l.self.dir.entries
