use Rattle.std.proofs.Common.{◌≡◌, ◌≤◌, None, replicate, vec_capacity}
use Rattle.qc_chain.proofs.slot_lists.empty_slots.Given as goal

abbrev pub invariant-loop-count : goal.invariant-loop-count
invariant-loop-count g l = record { made : l.empty.items ≡ replicate l._count None; room : l.slots ≤ vec_capacity l.empty }
