use Rattle.std.proofs.Common.{◌∙◌, ap, arith}
use Rattle.qc_dir.specs.Slots.{Tabled}
use Rattle.qc_dir.proofs.table_slots.TableSlots.room.Goals as goal

pub overflow_cast-result : goal.overflow_cast-result
overflow_cast-result c = omega (arith, c.len.ensures, c.self.invariant.whole, c.self.invariant.few, c.self.inside.free.ok.0)

pub returns : goal.returns
returns c = c.len.ensures ∙ (c.self.inside.free.ok.0 ∙ ap (λ (d : Tabled). d.room) c.self.view_is)
