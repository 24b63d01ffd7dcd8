use Rattle.std.proofs.Common.{◌≡◌, map, drop}
use Rattle.std.specs.Prelude.{find}
use Rattle.qc_sql.specs.Rules.{full_name, is_system}
use Rattle.qc_rules.proofs.tables.first_system_table.Given as goal

abbrev pub invariant-loop-source : goal.invariant-loop-source
invariant-loop-source l =
    find is_system (map (λ source. full_name l.db source.table) (drop l.source-index l.sources)) ≡ find is_system (map (λ source. full_name l.db source.table) l.sources)
