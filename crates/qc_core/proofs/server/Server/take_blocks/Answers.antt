use Rattle.std.proofs.Common.{[], subst, ◌∙◌}
use Rattle.std.specs.Prelude.{IfOk}
use Rattle.std.specs.Result.{IfErr}
use Rattle.qc_core.specs.declared.server_state.ServerState.{ServerState}
use Rattle.qc_core.specs.EntryStart.{needs_for}
use Rattle.qc_core.specs.Allocation.{MayTake, next_of, TakesAll, Stops}
use Rattle.qc_core.proofs.server.Server.take_blocks.Goals as goal

pub returns-clause-ok : goal.returns-clause-ok
returns-clause-ok c =
    subst (λ (v : ServerState). (u : MayTake c.args.missing c.args.bytes c.args.hand.now v) → IfOk c.take_blocks.result (λ taken. TakesAll (next_of c.args.missing c.args.bytes c.args.hand.now v u) u.words c.args.missing c.args.bytes c.args.hand.now c.take_blocks.new.hand v taken c.take_blocks.new.self))
    (c.deref_mut.ensures.value ∙ c.self.view_is) c.take_blocks.ensures.ok

pub returns-clause-err : goal.returns-clause-err
returns-clause-err c =
    subst (λ (v : ServerState). (u : MayTake c.args.missing c.args.bytes c.args.hand.now v) → IfErr c.take_blocks.result (λ e. Stops c.args.hand.now.tables (next_of c.args.missing c.args.bytes c.args.hand.now v u) u.words (needs_for v.options c.args.missing c.args.bytes) [] v c.take_blocks.new.self e))
    (c.deref_mut.ensures.value ∙ c.self.view_is) c.take_blocks.ensures.err
