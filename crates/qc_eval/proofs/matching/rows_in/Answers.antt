use Rattle.std.proofs.Common.{◌∙◌, ap, arith, get_or, length}
use Rattle.qc_eval.specs.Entries.{kept_indexes}
use Rattle.qc_eval.specs.Lanes.{AreKept}
use Rattle.qc_eval.specs.Ranges.{no_table}
use Rattle.qc_eval.specs.Walk.{passes_all}
use Rattle.qc_eval.proofs.matching.rows_in.Goals as goal

pub few_rows-requires : goal.few_rows-requires
few_rows-requires g c =
    let one = ap length c.requires.alone in
    let two = c.requires.levels in
    omega (arith, one, two)

pub returns-in-Some : goal.returns-in-Some
returns-in-Some g c =
    let keep = passes_all c.args.filters.now in
    let kept : AreKept c.args.tables.now keep c.in-Some.rows = rw c.in-Some.is at c.in_ok-few.ensures in
    kept.rows ∙ ap (λ ts. kept_indexes keep (get_or ts 0 no_table).rows (length (get_or ts 0 no_table).rows)) c.requires.alone
