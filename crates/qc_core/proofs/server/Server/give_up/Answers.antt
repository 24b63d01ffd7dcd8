use Rattle.std.proofs.Common.{subst, ◌∙◌}
use Rattle.qc_model.specs.declared.events.Event.TheVariants as event
use Rattle.qc_core.specs.declared.server_state.ServerState.{ServerState}
use Rattle.qc_core.specs.FillEnd.{MayGiveUpFill, EndsFill, IsGone}
use Rattle.qc_core.proofs.server.Server.give_up.Goals as goal

pub returns-clause-ends : goal.returns-clause-ends
returns-clause-ends c =
    subst (λ (v : ServerState). (u : MayGiveUpFill c.args.seat c.args.serial c.args.why v) → EndsFill (event.Gone c.args.serial c.args.why) c.args.seat u.words v c.give_up.new.self) (c.deref_mut.ensures.value ∙ c.self.view_is) c.give_up.ensures.ends

pub returns-clause-gone : goal.returns-clause-gone
returns-clause-gone c = subst (λ (v : ServerState). IsGone c.args.seat c.args.serial c.args.why v c.give_up.new.self) (c.deref_mut.ensures.value ∙ c.self.view_is) c.give_up.ensures.gone
