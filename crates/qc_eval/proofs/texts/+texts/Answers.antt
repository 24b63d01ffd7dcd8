use Rattle.qc_resolve.specs.Folding.{fold_formula-Concat}
use Rattle.qc_eval.specs.Chosen.{value_in}
use Rattle.qc_eval.proofs.Joins.{puts_joined, put_more, put_not, texts_more, texts_around}
use Rattle.qc_eval.proofs.texts.+texts.Goals as goal

pub append-returns-in-Concat : goal.append-returns-in-Concat
append-returns-in-Concat g t c =
    rw (c.in-Concat.is, fold_formula-Concat) (puts_joined _ c.args.room c.append_all.result c.args.out.now c.append_all.new.out c.requires.most (rw c.items.ensures at c.append_all.ensures))

pub append_all-returns-then-not-append : goal.append_all-returns-then-not-append
append_all-returns-then-not-append g t c =
    rw (texts_around (value_in c.args.scene.now) c.args.parts.now c.loop-part.part-index c.part-item.result c.loop-part-test.true c.part-item.is)
    (put_not _ _ _ c.args.room c.loop-part.left c.args.out.now c.loop-part.out c.append.new.out c.loop-part.invariant c.if-not-append.ensures)

pub append_all-loop-part-preserved : goal.append_all-loop-part-preserved
append_all-loop-part-preserved g t c =
    rw (texts_more (value_in c.args.scene.now) c.args.parts.now c.loop-part.part-index c.part-item.result c.loop-part-test.true c.part-item.is, c.len.ensures, c.len-before.ensures)
    (put_more _ _ c.args.room c.loop-part.left c.args.out.now c.loop-part.out c.append.new.out c.loop-part.invariant c.if-not-append.ensures)
