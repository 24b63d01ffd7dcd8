use Rattle.std.proofs.Common.{◌≡◌, ◌++◌, map, drop}
use Rattle.qc_sql.specs.Rules.{each_once, full_name, select_tables}
use Rattle.qc_parse.proofs.named.tables.Given as goal

abbrev pub invariant-loop-source : goal.invariant-loop-source
invariant-loop-source l = l.tables ++ each_once l.tables (map (λ source. full_name l.db source.table) (drop l.source-index l.select.from)) ≡ select_tables l.db l.select
