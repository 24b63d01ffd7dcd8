use Rattle.std.proofs.Common.{subst, ◌∙◌}
use Rattle.qc_core.specs.declared.server_state.ServerState.{ServerState}
use Rattle.qc_core.specs.FillGrowth.{MayGrowOn, StaysFilling, TellsGrowth}
use Rattle.qc_core.proofs.server.Server.grow.Goals as goal

pub returns-clause-told : goal.returns-clause-told
returns-clause-told c =
    let same = c.deref_mut.ensures.value ∙ c.self.view_is in
    subst (λ (s : ServerState). TellsGrowth c.args.serial s c.args.ranges.now c.grow.new.self c.grow.new.ranges c.grow.result) same (record { ok = c.grow.ensures.ok; err = c.grow.ensures.err })

pub returns-clause-stays : goal.returns-clause-stays
returns-clause-stays c =
    let same = c.deref_mut.ensures.value ∙ c.self.view_is in
    subst (λ (s : ServerState). (u : MayGrowOn c.args.serial s c.args.ranges.now) → StaysFilling c.args.serial s c.grow.new.self c.grow.new.ranges u.words u.seat) same c.grow.ensures.stays
