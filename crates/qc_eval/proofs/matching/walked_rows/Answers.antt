use Rattle.std.proofs.Common.{◌∙◌, arith}
use Rattle.qc_eval.specs.Walk.{passes_all}
use Rattle.qc_eval.proofs.KeptRows.{none_before, none_behind, only_range, row_kept, row_left, row_there}
use Rattle.qc_eval.proofs.matching.walked_rows.Goals as goal
use Rattle.qc_eval.proofs.matching.walked_rows.Goals.{then-keeps+in_ok-push, else-keeps}

pub loop-row-init : goal.loop-row-init
loop-row-init g c =
    c.new-kept.ensures
    ∙ none_before (passes_all c.args.filters.now) c.args.version.now.rows c.range_in-range.result c.min-from.result (only_range (passes_all c.args.filters.now) c.args.version.now c.args.tables.now c.range_in-range.result c.requires.alone c.range_in-range.ensures)
    (let v = c.count.ensures.value in omega (arith, c.min-from.ensures, c.min-end.ensures, v)) (omega (arith, c.min-from.ensures))

pub keeps-requires : goal.keeps-requires
keeps-requires g c = row_there c.args.version.now c.args.tables.now c.loop-row.row c.requires.alone (omega (arith, c.count.ensures.value))

pub loop-row-preserved : goal.loop-row-preserved
loop-row-preserved g c =
    elim c.if-keeps.branch [
      | then-keeps+in_ok-push w ↦ row_kept (passes_all c.args.filters.now) c.args.version.now c.args.tables.now c.loop-row.row c.loop-row.kept c.if-keeps.kept c.requires.alone w.if-keeps.ensures c.loop-row.invariant (w.kept-is ∙ w.in_ok-push.ensures.ok)
      | else-keeps w ↦ rw w.kept-is (row_left (passes_all c.args.filters.now) c.args.version.now c.args.tables.now c.loop-row.row c.loop-row.kept c.requires.alone w.if-keeps.ensures c.loop-row.invariant)
    ]

pub returns : goal.returns
returns g c =
    let v = c.count.ensures.value in
    let up = c.loop-row.auto.row-end (omega (arith, c.min-from.ensures)) in
    none_behind (passes_all c.args.filters.now) c.args.version.now.rows c.range_in-range.result c.loop-row.row c.loop-row.kept (only_range (passes_all c.args.filters.now) c.args.version.now c.args.tables.now c.range_in-range.result c.requires.alone c.range_in-range.ensures)
    (omega (arith, up, c.min-end.ensures, v)) (omega (arith, c.min-end.ensures, v, c.loop-row-test.false)) c.loop-row.invariant
