use Rattle.std.proofs.Common.{◌∙◌, sym}
use Rattle.qc_dir.proofs.SlotCalls.{moved_none}
use Rattle.qc_dir.proofs.table_slots.TableSlots.shift.Goals as goal

pub returns-clause-held : goal.returns-clause-held
returns-clause-held c =
    let none = c.shift_one.ensures.none c.loop-change-test.false in
    sym (moved_none c.args.change c.shift_one.new.self.held none) ∙ (c.shift_one.ensures.held ∙ c.loop-change.invariant.held)
