use Rattle.std.proofs.Common.{◌≡◌}
use Rattle.std.specs.Prelude.{◌++◌, map}
use Rattle.std.specs.Map.{keys_of}
use Rattle.qc_table.specs.Views.{table_in}
use Rattle.qc_table.proofs.Maps.{named}
use Rattle.qc_table.proofs.name_map.NameMap.as_tables.Given as goal

-- the names that are left come behind those that are copied
abbrev pub invariant-loop-name : goal.invariant-loop-name
invariant-loop-name g l = map (table_in l.fn.db) (keys_of l.self) ≡ l.tables ++ map (table_in l.fn.db) (keys_of (named (λ k. k.items) l.name-iterator))
