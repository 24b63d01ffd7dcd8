use Rattle.std.proofs.Common.{◌≡◌, subst, ◌∙◌}
use Rattle.qc_chain.specs.Chains.{IsFit}
use Rattle.qc_core.specs.declared.server_state.ServerState.{ServerState}
use Rattle.qc_core.specs.HitStream.{MayUse, used_by}
use Rattle.qc_core.proofs.server.Server.use_entry.Goals as goal

pub returns-clause-server : goal.returns-clause-server
returns-clause-server c =
    subst (λ (v : ServerState). (u : MayUse c.args.serial v c.args.ranges.now.room) → c.use_entry.new.self ≡ used_by c.args.seat c.args.serial u.entry u.held v) (c.deref_mut.ensures.value ∙ c.self.view_is) c.use_entry.ensures.server

pub returns-clause-ranges : goal.returns-clause-ranges
returns-clause-ranges c =
    subst (λ (v : ServerState). (u : MayUse c.args.serial v c.args.ranges.now.room) → c.use_entry.new.ranges ≡ record { blocks = u.held.blocks; bytes = u.held.bytes; room = c.args.ranges.now.room }) (c.deref_mut.ensures.value ∙ c.self.view_is) c.use_entry.ensures.ranges

pub returns-clause-fit : goal.returns-clause-fit
returns-clause-fit c =
    subst (λ (v : ServerState). (u : MayUse c.args.serial v c.args.ranges.now.room) → IsFit u.held.blocks u.held.bytes) (c.deref_mut.ensures.value ∙ c.self.view_is) c.use_entry.ensures.fit
