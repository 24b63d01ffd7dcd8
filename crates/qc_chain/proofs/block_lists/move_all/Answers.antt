use Rattle.std.proofs.Common.{◌∙◌, sym}
use Rattle.qc_chain.proofs.BlockSteps.{none-moves}
use Rattle.qc_chain.proofs.block_lists.move_all.Goals as goal

pub returns-clause-slots : goal.returns-clause-slots
returns-clause-slots c = sym (none-moves c.args.change c.move_one.new.slots (c.move_one.ensures.none c.loop-change-test.false)) ∙ (c.move_one.ensures.slots ∙ c.loop-change.invariant.slots)
