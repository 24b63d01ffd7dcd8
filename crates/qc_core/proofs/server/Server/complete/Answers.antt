use Rattle.std.proofs.Common.{subst, ◌∙◌}
use Rattle.qc_model.specs.declared.events.Event.TheVariants as event
use Rattle.qc_core.specs.declared.server_state.ServerState.{ServerState}
use Rattle.qc_core.specs.FillEnd.{MayComplete, EndsFill, IsDone}
use Rattle.qc_core.proofs.server.Server.complete.Goals as goal

pub returns-clause-ends : goal.returns-clause-ends
returns-clause-ends c =
    subst (λ (v : ServerState). (u : MayComplete c.args.seat c.args.serial c.args.bytes v) → EndsFill (event.Done c.args.serial) c.args.seat u.words v c.complete.new.self) (c.deref_mut.ensures.value ∙ c.self.view_is) c.complete.ensures.ends

pub returns-clause-done : goal.returns-clause-done
returns-clause-done c = subst (λ (v : ServerState). IsDone c.args.seat c.args.serial c.args.bytes v c.complete.new.self) (c.deref_mut.ensures.value ∙ c.self.view_is) c.complete.ensures.done
