use Rattle.std.proofs.Common.{refl}
use Rattle.qc_dir.proofs.entry_slots.next_with.Goals as goal

pub loop-slot-init : goal.loop-slot-init
loop-slot-init c = record { below = c.requires; left = refl }
