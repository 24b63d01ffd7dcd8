use Rattle.std.proofs.Common.{rules, ◌<◌, ◌≤◌, length}
use Rattle.std.proofs.lemmas.List.Elements.{All-push}
use Rattle.std.proofs.lemmas.Result.{err_from_is_err_and}
use Rattle.qc_script.specs.ShortNames.{HasShortName}
use Rattle.qc_script.specs.Told.{columns_told}
use Rattle.qc_script.proofs.PayloadLoops.{columns_go_on, columns_fail, columns_done}
use Rattle.qc_script.proofs.reading.payloads.columns.Goals as goal

pub returns-in_err-column-clause-told : goal.returns-in_err-column-clause-told
returns-in_err-column-clause-told c =
    let p = err_from_is_err_and c.from_residual.result c.from_residual.ensures.1 in
    let told = c.loop-rest.invariant.told in
    let some : 0 < length c.loop-rest.rest.now = search rules in
    rw (p.1, p.2) (columns_fail c.in_err-column.field-0.0 c.loop-rest.columns told.0 c.loop-rest.rest.now (columns_told c.args.payload.now) some told.1 c.in_err-column.ensures.told told.2)

pub loop-rest-preserved : goal.loop-rest-preserved
loop-rest-preserved c =
    let told = c.loop-rest.invariant.told in record {
      short = rw c.in_ok-push.ensures.ok (All-push HasShortName c.loop-rest.columns c.in_ok-column.column c.loop-rest.invariant.short c.in_ok-column.ensures.short);
      told = rw c.in_ok-push.ensures.ok (columns_go_on c.loop-rest.columns told.0 c.loop-rest.rest.now c.in_ok-column.behind.now c.in_ok-column.column (columns_told c.args.payload.now) told.1 c.in_ok-column.ensures.shorter c.in_ok-column.ensures.told told.2);
    }

pub returns-clause-told : goal.returns-clause-told
returns-clause-told c =
    let told = c.loop-rest.invariant.told in
    let none : length c.loop-rest.rest.now ≤ 0 = search rules in
    columns_done c.loop-rest.columns told.0 c.loop-rest.rest.now (columns_told c.args.payload.now) none told.2
