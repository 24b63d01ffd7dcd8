use Rattle.std.proofs.Common.{map, ap, ◌∙◌}
use Rattle.qc_sql.specs.Rows.{concat_texts}
use Rattle.qc_table.specs.Views.{text_value}
use Rattle.qc_resolve.specs.Folding.{fold_formula-Concat}
use Rattle.qc_eval.specs.Chosen.{value_in}
use Rattle.qc_eval.proofs.Joins.{text_again}
use Rattle.qc_eval.proofs.operand.operand_of.Goals as goal

pub returns-in-Concat : goal.returns-in-Concat
returns-in-Concat g c = rw (c.in-Concat.is, fold_formula-Concat) (ap text_value (rw c.items.ensures at c.join.ensures) ∙ text_again (concat_texts (map (value_in c.args.scene.now) c.in-Concat.parts)))
