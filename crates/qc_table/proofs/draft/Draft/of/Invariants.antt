use Rattle.std.proofs.Common.{◌≡◌, ◌++◌}
use Rattle.qc_table.proofs.Maps.{named}
use Rattle.qc_table.proofs.draft.Draft.of.Given as goal

abbrev pub invariant-loop-db : goal.invariant-loop-db
invariant-loop-db l = l.databases ++ named (λ k. k.items) l.db-iterator ≡ l.stored
