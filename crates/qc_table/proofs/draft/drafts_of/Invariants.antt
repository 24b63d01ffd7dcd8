use Rattle.std.proofs.Common.{◌≡◌, ◌++◌}
use Rattle.qc_table.proofs.Maps.{named}
use Rattle.qc_table.proofs.draft.drafts_of.Given as goal

abbrev pub invariant-loop-name : goal.invariant-loop-name
invariant-loop-name l = l.drafts ++ named (λ k. k.items) l.name-iterator ≡ l.stored
