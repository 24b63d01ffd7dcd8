use Rattle.std.proofs.lemmas.Result.{err_from_is_err_and}
use Rattle.qc_wire.specs.Reading.{unread}
use Rattle.qc_wire.specs.Replies.{cells, cell}
use Rattle.qc_wire.proofs.Loops.{goes_on, ends, is_done}
use Rattle.qc_wire.proofs.reading.rows.cells.Goals as goal

pub returns-in_err-cell : goal.returns-in_err-cell
returns-in_err-cell c =
    let p = err_from_is_err_and c.from_residual.result c.from_residual.ensures.1 in
    rw (p.1, p.2) (ends cell c.in_err-cell.field-0.0 c.loop.row c.args.count c.loop.counter (unread c.loop.fields) (cells c.args.count (unread c.args.fields)) c.loop-test.true c.in_err-cell.ensures c.loop.invariant)

pub loop-preserved : goal.loop-preserved
loop-preserved c =
    rw c.in_ok-push.ensures.ok (goes_on cell c.loop.row c.args.count c.loop.counter (unread c.loop.fields) c.in_ok-cell.cell (unread c.in_ok-cell.behind) (cells c.args.count (unread c.args.fields)) c.loop-test.true c.in_ok-cell.ensures c.loop.invariant)

pub returns : goal.returns
returns c = is_done cell c.loop.row c.args.count c.loop.counter (unread c.loop.fields) (cells c.args.count (unread c.args.fields)) c.loop-test.false c.loop.invariant
