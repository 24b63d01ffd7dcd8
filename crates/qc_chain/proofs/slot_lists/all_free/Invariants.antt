use Rattle.qc_chain.specs.Filed.{IsFreeing}
use Rattle.qc_chain.proofs.slot_lists.all_free.Given as goal

abbrev pub invariant-loop-slot : goal.invariant-loop-slot
invariant-loop-slot l = IsFreeing l.lists l.slots l.slot l.free
