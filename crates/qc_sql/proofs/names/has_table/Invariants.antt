use Rattle.std.proofs.Common.{◌≡◌, drop}
use Rattle.std.specs.List.{list_any}
use Rattle.qc_sql.specs.Database.{same_table}
use Rattle.qc_sql.proofs.names.has_table.Given as goal

abbrev pub invariant-loop-other : goal.invariant-loop-other
invariant-loop-other l = list_any (same_table l.table) (drop l.other-index l.tables) ≡ list_any (same_table l.table) l.tables
