use Rattle.std.proofs.Common.{◌≡◌, ◌++◌}
use Rattle.qc_model.specs.Machine.{full_table}
use Rattle.qc_table.proofs.Maps.{named}
use Rattle.qc_table.proofs.draft.Draft.versions.Given as goal

abbrev pub invariant-loop-db : goal.invariant-loop-db
invariant-loop-db l = record {
  made : l.made ++ named (λ k. k.items) l.db-iterator ≡ l.self;
  full : full_table l.self ≡ full_table (named (λ k. k.items) l.db-iterator);
}
