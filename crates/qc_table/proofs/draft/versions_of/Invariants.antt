use Rattle.std.proofs.Common.{◌≡◌, ◌++◌}
use Rattle.qc_model.specs.Machine.{full_in}
use Rattle.qc_table.proofs.Maps.{named}
use Rattle.qc_table.proofs.draft.versions_of.Given as goal

abbrev pub invariant-loop-name : goal.invariant-loop-name
invariant-loop-name l = record {
  made : l.made ++ named (λ k. k.items) l.name-iterator ≡ l.tables;
  full : full_in l.db l.tables ≡ full_in l.db (named (λ k. k.items) l.name-iterator);
}
