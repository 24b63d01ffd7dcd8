use Rattle.std.proofs.Common.{◌≡◌, ◌<◌, length}
use Rattle.std.specs.List.{AllByRecursion}
use Rattle.qc_dir.specs.Uses.{having}
use Rattle.qc_dir.proofs.entry_slots.next_with.Given as goal

abbrev pub invariant-loop-slot : goal.invariant-loop-slot
invariant-loop-slot l = record {
  below : AllByRecursion (λ n. n < length l.slots) l.list;
  left : having l.by l.number l.slots l.list ≡ having l.by l.number l.slots l.initial.list;
}

abbrev pub decreases-loop-slot : goal.decreases-loop-slot
decreases-loop-slot l = length l.list
