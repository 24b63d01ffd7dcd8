use Rattle.std.proofs.Common.{◌≡◌, take}
use Rattle.qc_core.specs.EntryStart.{without_block}
use Rattle.qc_core.proofs.server_state.ServerState.without_block.Given as goal

abbrev pub invariant-loop-table : goal.invariant-loop-table
invariant-loop-table l = l.names ≡ without_block l.fn.self.dir.tables (take l.table-index l.tables)
