use Rattle.std.proofs.Common.{◌∷◌, [], length-append, arith}
use Rattle.std.proofs.lemmas.Result.{err_from_is_err_and}
use Rattle.qc_script.specs.Told.{unread, times, session_at}
use Rattle.qc_script.proofs.ReadBack.{session_more}
use Rattle.qc_script.proofs.Loops.{goes_on, ends, is_done}
use Rattle.qc_script.proofs.reading.sessions.read_so_many.Goals as goal

pub returns-in_err-session-clause-told : goal.returns-in_err-session-clause-told
returns-in_err-session-clause-told c =
    let p = err_from_is_err_and c.from_residual.result c.from_residual.ensures.1 in
    rw (p.1, p.2) (ends session_at c.in_err-session.field-0.0 c.loop.sessions c.args.count c.loop.counter (unread c.loop.lines) (times session_at c.args.count (unread c.args.lines)) c.loop-test.true c.in_err-session.ensures.told c.loop.invariant.told)

pub loop-preserved : goal.loop-preserved
loop-preserved c = record {
  text = rw c.in_ok-push.ensures.ok (session_more _ _ _ c.loop.sessions c.in_ok-session.session c.loop.invariant.text c.in_ok-session.ensures.text);
  count = rw c.in_ok-push.ensures.ok (omega (arith, length-append c.loop.sessions (c.in_ok-session.session ∷ []), c.loop.invariant.count));
  told = rw c.in_ok-push.ensures.ok (goes_on session_at c.loop.sessions c.args.count c.loop.counter (unread c.loop.lines) c.in_ok-session.session (unread c.in_ok-session.behind) (times session_at c.args.count (unread c.args.lines)) c.loop-test.true c.in_ok-session.ensures.told c.loop.invariant.told);
}

pub returns-clause-told : goal.returns-clause-told
returns-clause-told c = is_done session_at c.loop.sessions c.args.count c.loop.counter (unread c.loop.lines) (times session_at c.args.count (unread c.args.lines)) c.loop-test.false c.loop.invariant.told
