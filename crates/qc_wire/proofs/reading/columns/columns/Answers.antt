use Rattle.std.proofs.lemmas.Result.{err_from_is_err_and}
use Rattle.qc_wire.specs.Replies.{columns, column_packet, stream_view}
use Rattle.qc_wire.proofs.Loops.{goes_on, ends, is_done}
use Rattle.qc_wire.proofs.reading.columns.columns.Goals as goal

pub returns-in_err-column : goal.returns-in_err-column
returns-in_err-column c =
    let p = err_from_is_err_and c.from_residual.result c.from_residual.ensures.1 in
    rw (p.1, p.2) (ends column_packet c.in_err-column.field-0.0 c.loop.columns c.args.count c.loop.counter (stream_view c.loop.stream) (columns c.args.count (stream_view c.args.stream)) c.loop-test.true c.in_err-column.ensures c.loop.invariant)

pub loop-preserved : goal.loop-preserved
loop-preserved c =
    rw c.in_ok-push.ensures.ok (goes_on column_packet c.loop.columns c.args.count c.loop.counter (stream_view c.loop.stream) c.in_ok-column.column (stream_view c.in_ok-column.behind) (columns c.args.count (stream_view c.args.stream)) c.loop-test.true c.in_ok-column.ensures c.loop.invariant)

pub returns : goal.returns
returns c = is_done column_packet c.loop.columns c.args.count c.loop.counter (stream_view c.loop.stream) (columns c.args.count (stream_view c.args.stream)) c.loop-test.false c.loop.invariant
