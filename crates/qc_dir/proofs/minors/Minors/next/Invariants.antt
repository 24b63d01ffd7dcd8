use Rattle.std.proofs.Common.{◌≡◌, ◌<◌, length}
use Rattle.std.specs.List.{AllByRecursion}
use Rattle.qc_dir.specs.Keys.{minors_under}
use Rattle.qc_dir.proofs.minors.Minors.next.Given as goal

abbrev pub invariant-loop-slot : goal.invariant-loop-slot
invariant-loop-slot l = record {
  slots : l.self-inside.slots ≡ l.initial.self-inside.slots;
  major : l.self-inside.major ≡ l.initial.self-inside.major;
  below : AllByRecursion (λ n. n < length l.self-inside.slots.now) l.self-inside.list;
  left : minors_under l.self-inside.major l.self-inside.slots.now l.self-inside.list ≡ minors_under l.initial.self-inside.major l.initial.self-inside.slots.now l.initial.self-inside.list;
}

abbrev pub decreases-loop-slot : goal.decreases-loop-slot
decreases-loop-slot l = length l.self-inside.list
