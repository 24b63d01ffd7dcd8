use Rattle.std.proofs.Common.{◌∙◌, ◌++◌, ◌∷◌, [], ap}
use Rattle.std.specs.Prelude.{codes}
use Rattle.qc_model.specs.ReportText.{lines}
use Rattle.qc_app.specs.Summary.{count_line}
use Rattle.qc_app.proofs.Counts.{all_put}
use Rattle.qc_app.proofs.summary.put_lines.Goals as goal

pub returns : goal.returns
returns c =
    all_put c.put_count-4.result c.args.number c.args.counts c.args.out.now c.put_count.new.out c.put_count-2.new.out c.put_count-3.new.out c.put_table.new.out c.put_table-2.new.out c.put_count-4.new.out
    (c.in_ok-put_count.ensures ∙ ap (λ n. c.args.out.now ++ lines (count_line (codes "workload") n ∷ [])) c.from.ensures)
    c.in_ok-put_count-2.ensures c.in_ok-put_count-3.ensures c.in_ok-put_table.ensures c.in_ok-put_table-2.ensures c.put_count-4.ensures
