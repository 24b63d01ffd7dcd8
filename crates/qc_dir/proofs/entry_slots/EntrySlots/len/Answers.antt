use Rattle.std.proofs.Common.{ap, length, arith}
use Rattle.qc_dir.proofs.entry_slots.EntrySlots.len.Goals as goal

pub overflow_cast-result : goal.overflow_cast-result
overflow_cast-result c = omega (arith, c.len.ensures, c.self.inside.slots.ok.0, c.self.invariant.2)

pub returns : goal.returns
returns c = omega (arith, c.len.ensures, c.self.inside.slots.ok.0, ap length c.self.view_is)
