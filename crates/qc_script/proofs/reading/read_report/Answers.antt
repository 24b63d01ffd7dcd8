use Rattle.std.proofs.Common.{ap, subst, ◌∙◌}
use Rattle.std.specs.Prelude.{List, ℕ}
use Rattle.qc_types.specs.Answers.{Gives}
use Rattle.qc_script.specs.Told.{report_told}
use Rattle.qc_script.proofs.FirstLines.{blames}
use Rattle.qc_script.proofs.Whole.{at, report_again}
use Rattle.qc_script.proofs.reading.read_report.Goals as goal

pub returns-clause-only : goal.returns-clause-only
returns-clause-only c = λ r tellable e.
    subst (λ meant. Gives (λ report. report) (λ n. n) c.report.result meant) (ap (λ (t : List ℕ). report_told (at 1 t)) e ∙ report_again r tellable) c.report.ensures.told

pub returns-clause-line : goal.returns-clause-line
returns-clause-line c = blames c.args.bytes.now c.report.result c.report.ensures.told
