use Rattle.std.proofs.Common.{arith}
use Rattle.qc_eval.specs.Shown.{Shown}
use Rattle.qc_eval.specs.Buffers.{no_buffer, no_formula}
use Rattle.qc_eval.specs.Chosen.{folded_of, value_in}
use Rattle.qc_eval.proofs.Gathers.{same_by_index}
use Rattle.qc_eval.proofs.Rows.{fill_one}
use Rattle.qc_eval.proofs.row.fill.Goals as goal

pub loop-index-preserved : goal.loop-index-preserved
loop-index-preserved g c =
    let i = c.loop-index.invariant in
    let scene = c.args.scene.now in
    let n = fill_one c.loop-index.index scene.tables.now (folded_of scene) c.args.items.now (value_in scene) c.loop-index.row.items c.index-items-index.result c.index_mut.result.now c.take.new.self c.loop-index-test.true i.hold i.done
    c.index-items-index.is c.index_mut.ensures.value c.take.ensures.capacity c.take.ensures.value in
    record { hold = n.0; done = n.1 }

pub returns-clause-values : goal.returns-clause-values
returns-clause-values g c =
    let i = c.loop-index.invariant in
    same_by_index (λ (b : Shown). b.value) (value_in c.args.scene.now) no_buffer no_formula c.loop-index.row.items c.args.items.now i.hold.long (λ k h. i.done k (omega (arith, h, c.loop-index-test.false)))
