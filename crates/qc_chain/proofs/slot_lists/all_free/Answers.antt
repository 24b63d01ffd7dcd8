use Rattle.std.proofs.Common.{arith}
use Rattle.qc_chain.proofs.FiledSteps.{freeing-none, freeing-more}
use Rattle.qc_chain.proofs.slot_lists.all_free.Goals as goal

pub loop-slot-init : goal.loop-slot-init
loop-slot-init c = freeing-none c.args.lists c.args.slots c.in_ok-free.free (c.in_ok-free.ensures {u = tt})

pub loop-slot-preserved : goal.loop-slot-preserved
loop-slot-preserved c = freeing-more c.args.lists c.args.slots c.loop-slot.slot c.loop-slot.free c.put_last.new.self c.loop-slot.invariant c.requires.some (omega arith) c.put_last.ensures.moved
