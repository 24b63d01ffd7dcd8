use Rattle.std.proofs.Common.{length}
use Rattle.qc_dir.proofs.SlotCalls.{AreLeft}
use Rattle.qc_dir.proofs.table_slots.TableSlots.find.Given as goal

abbrev pub invariant-loop-minor : goal.invariant-loop-minor
invariant-loop-minor l = AreLeft l.table l.numbers l.self.held

abbrev pub decreases-loop-minor : goal.decreases-loop-minor
decreases-loop-minor l = length l.numbers
