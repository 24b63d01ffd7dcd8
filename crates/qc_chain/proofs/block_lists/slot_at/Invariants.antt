use Rattle.std.proofs.Common.{◌≡◌, ◌<◌, false, length}
use Rattle.std.specs.List.{AllByRecursion}
use Rattle.qc_chain.specs.Filed.{in_slot}
use Rattle.qc_chain.specs.Listed.{is_at}
use Rattle.qc_chain.proofs.block_lists.slot_at.Given as goal

abbrev pub invariant-loop-slot : goal.invariant-loop-slot
invariant-loop-slot l = record {
  below : AllByRecursion (λ n. n < length l.slots) l.list;
  sought : AllByRecursion (λ n. is_at l.place (in_slot n l.slots) ≡ false) l.list → AllByRecursion (λ n. is_at l.place (in_slot n l.slots) ≡ false) l.initial.list;
}

abbrev pub decreases-loop-slot : goal.decreases-loop-slot
decreases-loop-slot l = length l.list
