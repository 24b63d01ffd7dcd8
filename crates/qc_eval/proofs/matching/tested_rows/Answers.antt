use Rattle.std.proofs.Common.{◌≡◌, ℕ, List, length, ap, ◌∙◌}
use Rattle.std.proofs.lemmas.Result.{IfOk-weaker}
use Rattle.qc_resolve.specs.Meaning.{keeps}
use Rattle.qc_eval.specs.Entries.{kept_indexes}
use Rattle.qc_eval.specs.Walk.{passes_all}
use Rattle.qc_eval.proofs.KeptRows.{kept_alike}
use Rattle.qc_eval.proofs.matching.tested_rows.Goals as goal

pub returns : goal.returns
returns g c =
    let t = c.args.version.now in
    IfOk-weaker c.rows_in.result (λ (is : List ℕ). is ≡ kept_indexes (passes_all c.items-2.result.now) t.rows (length t.rows)) (λ (is : List ℕ). is ≡ kept_indexes (keeps c.args.test) t.rows (length t.rows))
    (λ is e. e ∙ ap (λ fs. kept_indexes (passes_all fs) t.rows (length t.rows)) c.items-2.ensures ∙ kept_alike (passes_all c.in_ok-filters.filters) (keeps c.args.test) t.rows (length t.rows) c.in_ok-filters.ensures.keeps) c.rows_in.ensures
