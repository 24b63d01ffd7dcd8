use Rattle.std.proofs.Common.{◌-◌, [], ◌∷◌, ◌++◌, ap, ◌∙◌, arith}
use Rattle.qc_script.specs.WorkloadScript.{sent, session_commands, before_session, behind_session}
use Rattle.qc_script.proofs.SessionDraws.{next_session, session_more, script_is}
use Rattle.qc_script.proofs.workload_script.workload.Goals as goal

pub loop-session-init : goal.loop-session-init
unfolding before_session
loop-session-init c = record { state = c.from.ensures; inputs = c.new-sessions.ensures }

pub loop-session-preserved : goal.loop-session-preserved
loop-session-preserved c =
    let session = c.loop-session.session in
    let input = c.in_ok-session_input.ensures.input ∙ ap (λ x. sent (session_commands session x)) c.loop-session.invariant.state in
    record {
      state = c.in_ok-session_input.ensures.drawn ∙ ap behind_session c.loop-session.invariant.state ∙ next_session c.args.number session (omega arith);
      inputs = c.in_ok-push.ensures.ok ∙ ap (λ t. c.loop-session.sessions ++ t ∷ []) input ∙ session_more c.args.number session c.loop-session.sessions (omega arith) c.loop-session.invariant.inputs;
    }

pub returns : goal.returns
returns c = script_is c.args.number (c.loop-session.session - 1) _ c.loop-session.sessions (omega arith) c.in_ok-setup_input.ensures c.loop-session.invariant.inputs
