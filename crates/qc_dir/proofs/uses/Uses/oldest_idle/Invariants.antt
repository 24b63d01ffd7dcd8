use Rattle.std.proofs.Common.{◌≡◌, ◌<◌, length}
use Rattle.std.specs.List.{AllByRecursion}
use Rattle.qc_dir.specs.Directory.{oldest_idle}
use Rattle.qc_chain.specs.Filed.{in_slots}
use Rattle.qc_dir.proofs.uses.Uses.oldest_idle.Given as goal

abbrev pub invariant-loop-slot : goal.invariant-loop-slot
invariant-loop-slot l = record {
  below : AllByRecursion (λ n. n < length l.self-inside.slots) l.order;
  left : oldest_idle (in_slots l.self-inside.slots l.order) ≡ oldest_idle (in_slots l.self-inside.slots l.initial.order);
}

abbrev pub decreases-loop-slot : goal.decreases-loop-slot
decreases-loop-slot l = length l.order
