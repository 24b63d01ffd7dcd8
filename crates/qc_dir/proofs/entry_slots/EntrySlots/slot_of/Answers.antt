use Rattle.std.proofs.Common.{arith}
use Rattle.qc_dir.proofs.entry_slots.EntrySlots.slot_of.Goals as goal

pub unreachable-requires : goal.unreachable-requires
unreachable-requires c = omega (arith, c.requires, c.find.ensures.none c.in_default.is)
