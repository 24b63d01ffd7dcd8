use Rattle.std.proofs.Common.{suc, ◌+◌, ◌-◌, ◌++◌, refl, ap, ◌∙◌, arith}
use Rattle.qc_sql.specs.declared.commands.Command.TheVariants as command
use Rattle.qc_wire.specs.Commands.{command_text}
use Rattle.qc_script.specs.WorkloadScript.{statement}
use Rattle.qc_script.proofs.SessionDraws.{sent_more, sent_all, behind_is}
use Rattle.qc_script.proofs.workload_script.session_input.Goals as goal

pub loop-number-init : goal.loop-number-init
loop-number-init c = record {
  sent = rw (c.in_ok-put_init.ensures, c.in_ok-input.ensures) refl;
  drawn = λ left all. behind_is left _ all;
}

pub loop-number-preserved : goal.loop-number-preserved
loop-number-preserved c =
    let text = c.as_bytes.ensures.value ∙ c.in_ok-statement.ensures ∙ ap (λ r. statement c.args.session c.loop-number.number r) c.draw.ensures.draw in
    let put = c.in_ok-put_query.ensures ∙ ap (λ t. c.loop-number.input ++ command_text (command.Query t)) text in
    record {
      sent = rw c.draw.ensures.drawn (sent_more c.loop-number.input c.put_query.new.input _ (2001 - c.loop-number.number) (2001 - (c.loop-number.number + 1)) c.args.session c.loop-number.number c.loop-number.generator.state (omega arith) c.loop-number.invariant.sent put);
      drawn = λ left more. rw c.draw.ensures.drawn (c.loop-number.invariant.drawn (suc left) (omega (arith, more)));
    }

pub returns-clause-input : goal.returns-clause-input
returns-clause-input c = sent_all c.loop-number.input _ (2001 - c.loop-number.number) _ _ _ (omega arith) c.loop-number.invariant.sent

pub returns-clause-drawn : goal.returns-clause-drawn
returns-clause-drawn c = c.loop-number.invariant.drawn 0 (omega arith)
