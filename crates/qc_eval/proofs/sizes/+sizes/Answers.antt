use Rattle.std.proofs.Common.{sym, ◌∙◌, arith}
use Rattle.qc_resolve.specs.Folding.{fold_formula-Present, fold_formula-Concat}
use Rattle.qc_eval.specs.Chosen.{value_in}
use Rattle.qc_eval.proofs.Joins.{present_size_is, part_more, part_none, part_over}
use Rattle.qc_eval.proofs.sizes.+sizes.Goals as goal

pub size-returns-in-Present : goal.size-returns-in-Present
size-returns-in-Present g t c = rw (c.in-Present.is, fold_formula-Present) (sym (present_size_is _))

pub size-returns-in-Concat : goal.size-returns-in-Concat
size-returns-in-Concat g t c = rw (c.in-Concat.is, fold_formula-Concat) (rw c.items.ensures at c.joined_size.ensures)

pub joined_size-returns-in_err-more : goal.joined_size-returns-in_err-more
joined_size-returns-in_err-more g t c =
    let none = part_none (value_in c.args.scene.now) c.args.parts.now c.loop-part.part-index c.part-item.result c.loop-part-test.true c.part-item.is (sym c.size.ensures ∙ c.in_err-more.was) in
    c.from_residual.ensures ∙ sym none

pub joined_size-returns-then-more-total : goal.joined_size-returns-then-more-total
joined_size-returns-then-more-total g t c =
    sym (part_over (value_in c.args.scene.now) c.args.parts.now c.loop-part.part-index c.part-item.result c.loop-part.total c.in_ok-more.more c.loop-part-test.true c.part-item.is c.loop-part.invariant.1
    (sym c.size.ensures ∙ c.in_ok-more.was) (omega arith))

pub joined_size-loop-part-preserved : goal.joined_size-loop-part-preserved
joined_size-loop-part-preserved g t c = (
  omega arith,
  part_more (value_in c.args.scene.now) c.args.parts.now c.loop-part.part-index c.part-item.result c.loop-part.total c.in_ok-more.more c.loop-part-test.true c.part-item.is c.loop-part.invariant.1
      (sym c.size.ensures ∙ c.in_ok-more.was),
)
