use Rattle.std.proofs.Common.{◌≡◌, map}
use Rattle.qc_dir.specs.Slots.{moved_numbered, blocks_at}
use Rattle.qc_dir.proofs.table_slots.TableSlots.shift.Given as goal

abbrev pub invariant-loop-change : goal.invariant-loop-change
invariant-loop-change l = record {
  held : map (moved_numbered l.change) l.self.held ≡ map (moved_numbered l.change) l.fn.self.held;
  room : l.self.room ≡ l.fn.self.room;
}

abbrev pub decreases-loop-change : goal.decreases-loop-change
decreases-loop-change l = blocks_at l.change.from l.self.held
