use Rattle.std.proofs.Common.{ap, arith}
use Rattle.qc_chain.proofs.BlockSteps.{none-listed, none-seen}
use Rattle.qc_chain.proofs.block_lists.BlockLists.new.Goals as goal

pub invariant_of-result : goal.invariant_of-result
invariant_of-result c = (
  none-listed c.args.room c.mask_for-mask.result c.in_ok-slots.slots.items c.in_ok-by_chain.by_chain c.in_ok-by_place.by_place (omega arith) (c.in_ok-slots.ensures {u = tt}) (c.in_ok-by_chain.ensures {u = tt}) (c.in_ok-by_place.ensures {u = tt}),
  c.mask_for-mask.ensures,
)

pub returns : goal.returns
returns c = ap (λ ls. record { lists = ls; room = c.args.room }) (none-seen c.args.room c.in_ok-slots.slots.items c.in_ok-by_chain.by_chain (c.in_ok-slots.ensures {u = tt}) (c.in_ok-by_chain.ensures {u = tt}).lists)
