use Rattle.std.proofs.Common.{rules, ◌<◌, ◌≤◌, length}
use Rattle.std.proofs.lemmas.Result.{err_from_is_err_and}
use Rattle.qc_script.specs.Told.{row_told, now_of}
use Rattle.qc_script.proofs.PayloadLoops.{cells_go_on, cells_fail, cells_done}
use Rattle.qc_script.proofs.reading.payloads.row.Goals as goal

pub returns-in_err-cell : goal.returns-in_err-cell
returns-in_err-cell c =
    let p = err_from_is_err_and c.from_residual.result c.from_residual.ensures.1 in
    let told = c.loop-kinds.invariant in
    let some : 0 < length c.loop-kinds.rest.now = search rules in
    rw (p.1, p.2) (cells_fail c.in_err-cell.field-0.0 c.loop-kinds.row told.0 c.loop-kinds.kinds.now c.loop-kinds.rest.now (row_told c.args.kinds.now c.args.payload.now) some told.1 c.in_err-cell.ensures.value told.2)

pub loop-kinds-preserved : goal.loop-kinds-preserved
loop-kinds-preserved c =
    let told = c.loop-kinds.invariant in
    rw (c.in_ok-push.ensures.ok, c.in_ok-value.ensures, c.front_kind-kind.ensures.others, c.front_kind-kind.ensures.first)
    (cells_go_on c.loop-kinds.row told.0 c.loop-kinds.kinds.now c.loop-kinds.rest.now c.in_ok-cell.behind.now (now_of c.in_ok-cell.cell) (row_told c.args.kinds.now c.args.payload.now) told.1 c.in_ok-cell.ensures.shorter c.in_ok-cell.ensures.value told.2)

pub returns : goal.returns
returns c =
    let told = c.loop-kinds.invariant in
    let none : length c.loop-kinds.rest.now ≤ 0 = search rules in
    cells_done c.loop-kinds.row told.0 c.loop-kinds.kinds.now c.loop-kinds.rest.now (row_told c.args.kinds.now c.args.payload.now) none told.2
