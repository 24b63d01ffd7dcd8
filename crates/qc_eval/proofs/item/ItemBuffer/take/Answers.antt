use Rattle.qc_resolve.specs.Folding.{fold_formula-Concat}
use Rattle.qc_eval.proofs.item.ItemBuffer.take.Goals as goal

pub returns-in-Concat-clause-value : goal.returns-in-Concat-clause-value
returns-in-Concat-clause-value g c = rw (c.in-Concat.is, fold_formula-Concat) (rw c.items.ensures at c.join.ensures.value)
