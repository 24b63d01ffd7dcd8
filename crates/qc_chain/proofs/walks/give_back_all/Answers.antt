use Rattle.std.proofs.Common.{◌≡◌, ◌∙◌, sym, ap, arith, length}
use Rattle.std.specs.Prelude.{slice_get}
use Rattle.qc_tiles.specs.Tiles.{region_words, after_give_back}
use Rattle.qc_chain.specs.Chains.{after_release}
use Rattle.qc_chain.specs.Views.{blocks_of}
use Rattle.qc_chain.proofs.Releases.{first_handed_out, rest_handed_out, told_by}
use Rattle.qc_chain.proofs.walks.give_back_all.Goals as goal

pub pop_first-requires : goal.pop_first-requires
pop_first-requires c = omega (arith, c.requires.chain, c.loop-block.invariant.lists)

pub give_back-requires : goal.give_back-requires
give_back-requires c =
    let l = c.loop-block in
    first_handed_out l.tiles (blocks_of c.args.chain l.blocks.lists) c.in-Some.block l.invariant.handed_out (ap (λ bs. slice_get bs 0) (c.in-Some.ensures {u = tt}).taken.0.own)

pub loop-block-preserved : goal.loop-block-preserved
loop-block-preserved c =
    let l = c.loop-block in
    let t = (c.in-Some.ensures {u = tt}).taken in
    let words = region_words c.args.tiles.now in
    let rest = blocks_of c.args.chain c.pop_first.new.self.lists in
    let made : c.give_back.new.self ≡ after_give_back c.in-Some.block.first l.tiles = c.give_back.ensures.tiles in
    record {
      others = λ m ne. t.0.other m ne ∙ l.invariant.others m ne;
      lists = c.pop_first.ensures.lists ∙ l.invariant.lists;
      room = omega (arith, t.1, ap length t.0.own, l.invariant.room);
      tiles = rw made (ap (λ bs. after_release bs l.tiles) (sym t.0.own) ∙ l.invariant.tiles);
      tiling = told_by words l.tiles c.give_back.new.self l.invariant.tiling c.give_back.ensures.tiling;
      handed_out = rw made (rest_handed_out words l.tiles c.in-Some.block rest l.invariant.tiling (rw t.0.own at l.invariant.handed_out));
    }
