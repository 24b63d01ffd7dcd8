use Rattle.std.proofs.Common.{arith, sym, subst}
use Rattle.std.proofs.lemmas.List.Elements.{All-rest}
use Rattle.std.proofs.lemmas.Grind.{common_steps}
use Rattle.qc_model.specs.ReportText.{op_text}
use Rattle.qc_script.specs.ShortNames.{MakesShortColumns}
use Rattle.qc_script.proofs.Joined.{joined_parts}
use Rattle.qc_script.proofs.reports.operations.put_operations.Goals as goal

pub put_operation-requires-in-loop-op : goal.put_operation-requires-in-loop-op
put_operation-requires-in-loop-op c =
    let others_are_short = All-rest MakesShortColumns c.in-Some.first.now c.in-Some.others.now c.args.ops.now c.in-Some.ensures.cases.0 c.requires in
    subst MakesShortColumns (sym c.op-item.is) (others_are_short c.loop-op.op-index c.op-item.result c.loop-op-test.true)

pub returns-after-loop-op : goal.returns-after-loop-op
returns-after-loop-op c =
    let parts = joined_parts op_text 44 c.in-Some.first.now c.in-Some.others.now c.args.ops.now c.in-Some.ensures.cases.0 in
    grind (arith, common_steps)
