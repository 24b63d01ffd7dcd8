use Rattle.std.proofs.Common.{◌∷◌, [], length-append, refl, arith}
use Rattle.std.proofs.lemmas.Result.{err_from_is_err_and}
use Rattle.qc_script.specs.Told.{unread, times, command_at}
use Rattle.qc_script.proofs.ReadBack.{command_more}
use Rattle.qc_script.proofs.Loops.{goes_on, ends, is_done}
use Rattle.qc_script.proofs.reading.sessions.read_commands.Goals as goal

pub returns-in_err-command-clause-told : goal.returns-in_err-command-clause-told
returns-in_err-command-clause-told c =
    let p = err_from_is_err_and c.from_residual.result c.from_residual.ensures.1 in
    rw (p.1, p.2) (ends command_at c.in_err-command.field-0.0 c.loop.commands c.args.count c.loop.counter (unread c.loop.lines) (times command_at c.args.count (unread c.args.lines)) c.loop-test.true c.in_err-command.ensures.told c.loop.invariant.told)

pub loop-preserved : goal.loop-preserved
loop-preserved c = record {
  text = rw c.in_ok-push.ensures.ok (command_more _ _ _ _ c.loop.commands c.in_ok-command.command c.loop.invariant.text c.in_ok-command.ensures.text refl);
  count = rw c.in_ok-push.ensures.ok (omega (arith, length-append c.loop.commands (c.in_ok-command.command ∷ []), c.loop.invariant.count));
  told = rw c.in_ok-push.ensures.ok (goes_on command_at c.loop.commands c.args.count c.loop.counter (unread c.loop.lines) c.in_ok-command.command (unread c.in_ok-command.behind) (times command_at c.args.count (unread c.args.lines)) c.loop-test.true c.in_ok-command.ensures.told c.loop.invariant.told);
}

pub returns-clause-told : goal.returns-clause-told
returns-clause-told c = is_done command_at c.loop.commands c.args.count c.loop.counter (unread c.loop.lines) (times command_at c.args.count (unread c.args.lines)) c.loop-test.false c.loop.invariant.told
