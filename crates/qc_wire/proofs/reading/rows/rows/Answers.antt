use Rattle.std.proofs.Common.{ap, ◌∙◌}
use Rattle.std.specs.Prelude.{Option, Ok}
use Rattle.std.proofs.lemmas.Result.{err_from_is_err_and}
use Rattle.qc_wire.specs.Replies.{Row, stream_view}
use Rattle.qc_wire.proofs.RowLoop.{rows_of, row_taken, rows_end, rows_fail, row_shortens}
use Rattle.qc_wire.proofs.reading.rows.rows.Goals as goal

pub returns-in_err-row : goal.returns-in_err-row
returns-in_err-row c =
    let p = err_from_is_err_and c.from_residual.result c.from_residual.ensures.1 in
    rw (p.1, p.2) (rows_fail c.args.columns c.args.status c.in_err-row.field-0.0 c.loop-rows.rows (stream_view c.loop-rows.stream) (rows_of c.args.columns c.args.status (stream_view c.args.stream)) c.in_err-row.ensures c.loop-rows.invariant)

pub returns-in-None : goal.returns-in-None
returns-in-None c =
    let behind = stream_view c.in_ok-row.behind in
    rows_end c.args.columns c.args.status c.loop-rows.rows (stream_view c.loop-rows.stream) behind (rows_of c.args.columns c.args.status (stream_view c.args.stream))
    (c.in_ok-row.ensures ∙ ap (λ (row : Option Row). Ok (row, behind)) c.in-None.is) c.loop-rows.invariant

pub loop-rows-smaller : goal.loop-rows-smaller
loop-rows-smaller c =
    row_shortens c.args.columns c.args.status (stream_view c.loop-rows.stream) (c.in_ok-row.row, stream_view c.in_ok-row.behind) c.in_ok-row.ensures

pub loop-rows-preserved : goal.loop-rows-preserved
loop-rows-preserved c =
    let behind = stream_view c.in_ok-row.behind in
    rw c.in_ok-push-in-Some.ensures.ok (row_taken c.args.columns c.args.status c.loop-rows.rows (stream_view c.loop-rows.stream) c.in-Some.row behind (rows_of c.args.columns c.args.status (stream_view c.args.stream))
    (c.in_ok-row.ensures ∙ ap (λ (row : Option Row). Ok (row, behind)) c.in-Some.is) c.loop-rows.invariant)
