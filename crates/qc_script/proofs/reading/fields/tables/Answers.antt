use Rattle.std.proofs.Common.{ap, ◌∙◌}
use Rattle.std.proofs.lemmas.Result.{err_from_is_err_and}
use Rattle.qc_script.specs.Told.{each, table_among}
use Rattle.qc_script.proofs.Loops.{texts, each_goes_on, each_fails, each_done, table_fails, table_found, tables_fail, tables_done}
use Rattle.qc_script.proofs.reading.fields.tables.Goals as goal

pub returns-in_err-table : goal.returns-in_err-table
returns-in_err-table c =
    let p = err_from_is_err_and c.from_residual-in_err-table.result c.from_residual-in_err-table.ensures.1 in
    let ms = c.deref-member-items.result.now in
    rw (p.1, p.2) (tables_fail c.in_err-table.field-0.0 c.args.field.now (texts ms) (ap texts c.deref-member-items.ensures.value ∙ c.in_ok-members_of.ensures)
    (each_fails table_among c.in_err-table.field-0.0 c.loop-member.tables ms c.loop-member.member-index _ tt (each table_among tt (texts ms)) c.loop-member-test.true (table_fails c.in_err-table.field-0.0 _ c.in_err-table.ensures) c.loop-member.invariant))

pub loop-member-preserved : goal.loop-member-preserved
loop-member-preserved c =
    let ms = c.deref-member-items.result.now in
    rw c.in_ok-push.ensures.ok (each_goes_on table_among c.loop-member.tables ms c.loop-member.member-index _ tt tt c.in_ok-table.field-0 (each table_among tt (texts ms)) c.loop-member-test.true (table_found _ c.in_ok-table.field-0 c.in_ok-table.ensures) c.loop-member.invariant)

pub returns : goal.returns
returns c =
    let ms = c.deref-member-items.result.now in
    tables_done c.args.field.now (texts ms) c.loop-member.tables (ap texts c.deref-member-items.ensures.value ∙ c.in_ok-members_of.ensures)
    (each_done table_among c.loop-member.tables ms c.loop-member.member-index tt (each table_among tt (texts ms)) c.loop-member-test.false c.loop-member.invariant)
