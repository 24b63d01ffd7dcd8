use Rattle.std.proofs.Common.{◌≡◌, ◌+◌, ◌-◌, [], arith, drop}
use Rattle.std.proofs.lemmas.List.{drop_all}
use Rattle.qc_chain.specs.Chains.{AreHandedOut}
use Rattle.std.proofs.lemmas.Option.{slice_get_within}
use Rattle.qc_memory_tests.proofs.Checks.{BeginsFrom, handed_more, lowest_more}
use Rattle.qc_memory_tests.proofs.chains.are_handed_out.Goals as goal

pub loop-index-init : goal.loop-index-init
loop-index-init g c =
    let none : drop c.blocks-index.result c.args.ranges.now.blocks ≡ [] = drop_all c.blocks-index.result c.args.ranges.now.blocks (omega (arith, c.blocks-index.ensures)) in
    record {
      handed = rw none (record { each = tt; once = tt });
      lowest = λ k b from read. absurd (omega (arith, slice_get_within c.args.ranges.now.blocks k b read, from, c.blocks-index.ensures));
    }

pub loop-index-preserved : goal.loop-index-preserved
loop-index-preserved g c =
    let i = c.loop-index.index - 1 in
    let more : i + 1 ≡ c.loop-index.index = omega (arith, c.loop-index-test.true) in
    let bs = c.args.ranges.now.blocks in
    let rest : AreHandedOut c.args.tiles.now (drop (i + 1) bs) = rw more c.loop-index.invariant.handed in
    let from : BeginsFrom bs (i + 1) c.loop-index.above = rw more c.loop-index.invariant.lowest in
    record {
      handed = handed_more c.args.tiles.now bs i c.loop-index.above c.block-block.result c.block-block.ensures (c.is_handed_out.ensures.0 (cc)) from (omega arith) rest;
      lowest = lowest_more bs i c.loop-index.above c.block-block.result c.block-block.ensures from (omega arith);
    }

pub returns : goal.returns
returns g c = let none : c.loop-index.index ≡ 0 = omega (arith, c.loop-index-test.false) in rw none at c.loop-index.invariant.handed
