use Rattle.std.proofs.Common.{◌∙◌, ap, set, arith}
use Rattle.std.specs.Option.{option_map}
use Rattle.qc_chain.proofs.FiledSteps.{bucket-low}
use Rattle.qc_tiles.specs.declared.blocks.Block.{Block}
use Rattle.qc_chain.proofs.BlockSteps.{IsMoved, moved_one}
use Rattle.qc_chain.proofs.block_lists.move_one.Goals.{After-put_last}
use Rattle.qc_chain.proofs.block_lists.move_one.Goals as goal

pub put_last-requires-clause-node : goal.put_last-requires-clause-node
put_last-requires-clause-node c = omega (arith, (c.in-Some.ensures {u = tt}).0, c.requires.placed.nodes)

pub put_last-requires-clause-list : goal.put_last-requires-clause-list
put_last-requires-clause-list c = omega (arith, c.bucket.ensures, bucket-low c.args.mask c.from.result, c.requires.placed.lists)

done : (c : After-put_last) → IsMoved c.args.change c.args.slots.now (set c.args.slots.now c.in-Some.slot c.placed.result) c.put_last.new.self c.args.mask
done c =
    let found = c.in-Some.ensures {u = tt} in
    moved_one c.args.change c.args.slots.now c.args.by_place.now c.put_last.new.self c.args.mask c.in-Some.slot c.placed.result c.requires.other c.requires.placed found.0 found.1
    (c.placed.ensures ∙ ap (option_map (λ (b : Block). record b { first = c.args.change.to })) c.block_in-block.ensures) (rw (c.bucket.ensures, c.from.ensures) at c.put_last.ensures.moved)

pub returns-in_default-clause-none : goal.returns-in_default-clause-none
returns-in_default-clause-none c = λ _. c.in_default.ensures {u = tt}

pub returns-clause-slots : goal.returns-clause-slots
returns-clause-slots c = (done (goal.at.returns-clause-slots c).After-put_last).same

pub returns-clause-one : goal.returns-clause-one
returns-clause-one c = λ _. (done (goal.at.returns-clause-one c).After-put_last).one

pub returns-clause-placed : goal.returns-clause-placed
returns-clause-placed c = (done (goal.at.returns-clause-placed c).After-put_last).placed
