use Rattle.std.proofs.lemmas.Result.{err_from_is_err_and}
use Rattle.qc_script.specs.Told.{unread}
use Rattle.qc_script.proofs.ReadBack.{report_read}
use Rattle.qc_script.proofs.EventLoop.{counters_fail, end_fails, rest_fails, parts_told}
use Rattle.qc_script.proofs.Tells.{read_is_tellable}
use Rattle.qc_script.proofs.reading.report.Goals as goal

pub returns-clause-found : goal.returns-clause-found
returns-clause-found c = (
  read_is_tellable (unread c.args.lines) _
      (parts_told (unread c.args.lines) _ _ _ _ _ _ _ _ _ _ _ c.in_ok-lines.ensures.told c.in_ok-options.ensures.told c.in_ok-sessions.ensures.told c.in_ok-journal.ensures.told c.in_ok-counters.ensures.told c.in_ok-lines-2.ensures.told c.in_ok-nothing_left.ensures.told),
  report_read _ c.args.lines.left.now _ _ _ _ _ _ c.in_ok-lines.ensures.text c.in_ok-options.ensures.text c.in_ok-sessions.ensures.text c.in_ok-journal.ensures.text c.in_ok-counters.ensures.text c.in_ok-lines-2.ensures.text c.in_ok-nothing_left.ensures.text,
)

pub returns-clause-told : goal.returns-clause-told
returns-clause-told c =
    parts_told (unread c.args.lines) _ _ _ _ _ _ _ _ _ _ _ c.in_ok-lines.ensures.told c.in_ok-options.ensures.told c.in_ok-sessions.ensures.told c.in_ok-journal.ensures.told c.in_ok-counters.ensures.told c.in_ok-lines-2.ensures.told c.in_ok-nothing_left.ensures.told

pub returns-in_err-counters-clause-told : goal.returns-in_err-counters-clause-told
returns-in_err-counters-clause-told c =
    let p = err_from_is_err_and c.from_residual-in_err-counters.result c.from_residual-in_err-counters.ensures.1 in
    rw (p.1, p.2) (counters_fail (unread c.args.lines) _ _ _ _ (unread c.args.lines) (unread c.args.lines) _ _ _ (record { com_select = 0; hits = 0; inserts = 0; not_cached = 0; lowmem_prunes = 0; queries_in_cache = 0 }) c.in_err-counters.field-0.0
    c.in_ok-lines.ensures.told c.in_ok-options.ensures.told c.in_ok-sessions.ensures.told c.in_ok-journal.ensures.told c.in_err-counters.ensures.told)

pub returns-in_err-lines-2-clause-told : goal.returns-in_err-lines-2-clause-told
returns-in_err-lines-2-clause-told c =
    let p = err_from_is_err_and c.from_residual-in_err-lines-2.result c.from_residual-in_err-lines-2.ensures.1 in
    rw (p.1, p.2) (end_fails (unread c.args.lines) _ _ _ _ _ (unread c.args.lines) _ _ _ _ c.in_err-lines-2.field-0.0
    c.in_ok-lines.ensures.told c.in_ok-options.ensures.told c.in_ok-sessions.ensures.told c.in_ok-journal.ensures.told c.in_ok-counters.ensures.told c.in_err-lines-2.ensures.told)

pub returns-in_err-nothing_left-clause-told : goal.returns-in_err-nothing_left-clause-told
returns-in_err-nothing_left-clause-told c =
    let p = err_from_is_err_and c.from_residual-in_err-nothing_left.result c.from_residual-in_err-nothing_left.ensures.1 in
    rw (p.1, p.2) (rest_fails (unread c.args.lines) _ _ _ _ _ _ _ _ _ _ c.in_err-nothing_left.field-0.0
    c.in_ok-lines.ensures.told c.in_ok-options.ensures.told c.in_ok-sessions.ensures.told c.in_ok-journal.ensures.told c.in_ok-counters.ensures.told c.in_ok-lines-2.ensures.told c.in_err-nothing_left.ensures.told)
