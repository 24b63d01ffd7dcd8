use Rattle.std.proofs.Common.{drop}
use Rattle.qc_dir.specs.Directory.{names_table}
use Rattle.qc_core.proofs.Dropping.{any_of, AreLeaving}
use Rattle.qc_core.proofs.server_state.ServerState.drop_on_tables.Given as goal

abbrev pub invariant-loop-table : goal.invariant-loop-table
invariant-loop-table l = AreLeaving (any_of names_table (drop l.table-index l.tables)) (any_of names_table l.tables) l.fn.self l.self
