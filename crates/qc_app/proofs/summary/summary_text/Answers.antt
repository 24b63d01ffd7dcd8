use Rattle.std.proofs.Common.{◌∙◌, ◌++◌, ap, count_by}
use Rattle.qc_app.specs.workload.Counts.{is_commit}
use Rattle.qc_app.specs.Summary.{summary_lines}
use Rattle.qc_app.proofs.Counts.{counted}
use Rattle.qc_app.proofs.summary.summary_text.Goals as goal

pub returns : goal.returns
returns c =
    let commits = c.commits_in.ensures ∙ ap (count_by is_commit) c.items.ensures in
    counted c.args.number c.args.report.now c.args.database.now c.commits_in.result c.in_ok-count_named.field-0 c.in_ok-count_named-2.field-0 c.selects_in.result c.put_lines.new.out
    c.requires commits c.in_ok-count_named.ensures c.in_ok-count_named-2.ensures c.selects_in.ensures (c.in_ok-put_lines.ensures ∙ ap (λ front. front ++ summary_lines c.args.number (record { commits = c.commits_in.result; a = c.in_ok-count_named.field-0; b = c.in_ok-count_named-2.field-0; selects = c.selects_in.result })) c.in_ok-text.ensures)
