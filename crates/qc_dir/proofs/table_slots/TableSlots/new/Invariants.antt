use Rattle.std.proofs.Common.{◌≤◌, vec_capacity}
use Rattle.qc_dir.proofs.SlotCalls.{IsFresh}
use Rattle.qc_dir.proofs.table_slots.TableSlots.new.Given as goal

abbrev pub invariant-loop-number : goal.invariant-loop-number
invariant-loop-number l = record {
  fresh : IsFresh l.number l.slots.items l.free.items;
  slots_fit : l.room ≤ vec_capacity l.slots;
  free_fit : l.room ≤ vec_capacity l.free;
}
