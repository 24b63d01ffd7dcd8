use Rattle.std.proofs.Common.{arith}
use Rattle.std.proofs.lemmas.Grind.{common_steps}
use Rattle.qc_model.specs.ReportText.{table_text}
use Rattle.qc_script.proofs.Joined.{joined_parts}
use Rattle.qc_script.proofs.reports.events.put_tables.Goals as goal

pub returns-after-loop-table : goal.returns-after-loop-table
returns-after-loop-table c =
    let parts = joined_parts table_text 44 c.in-Some.first.now c.in-Some.others.now c.args.tables.now c.in-Some.ensures.cases.0 in
    grind (arith, common_steps)
