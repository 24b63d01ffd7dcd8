use Rattle.std.proofs.Common.{◌<◌, sym, ap, subst, ◌∙◌}
use Rattle.qc_tiles.specs.Tiles.{largest_free}
use Rattle.qc_core.specs.declared.reserved_blocks.ReservedBlocks.{ReservedBlocks}
use Rattle.qc_core.specs.declared.server_state.ServerState.{ServerState}
use Rattle.qc_core.specs.Allocation.{PrunesSome, HasNone}
use Rattle.qc_core.proofs.Searching.{none_yet, may_go_on, goes_on, has_none}
use Rattle.qc_core.proofs.server_state.ServerState.prune.Goals as goal

pub loop-self-init : goal.loop-self-init
loop-self-init c = λ u. none_yet c.args.need c.args.hand.now c.args.self.now u

pub prune_one-requires-clause-may : goal.prune_one-requires-clause-may
prune_one-requires-clause-may c = may_go_on c.args.need c.args.hand.now c.loop-self.hand c.args.self.now c.loop-self.self c.requires (c.loop-self.invariant c.requires)

pub loop-self-preserved : goal.loop-self-preserved
loop-self-preserved c = λ u.
    let p = c.loop-self.invariant u in
    goes_on c.args.need c.args.hand.now c.loop-self.hand c.args.self.now c.loop-self.self u p c.prune_one.new.hand c.prune_one.new.self
    (c.prune_one.ensures.pruned c.if-not-prune_one.false (may_go_on c.args.need c.args.hand.now c.loop-self.hand c.args.self.now c.loop-self.self u p))

pub loop-self-smaller : goal.loop-self-smaller
loop-self-smaller c =
    let u = c.requires in
    (c.prune_one.ensures.pruned c.if-not-prune_one.false (may_go_on c.args.need c.args.hand.now c.loop-self.hand c.args.self.now c.loop-self.self u (c.loop-self.invariant u))).fewer

pub returns-then-not-prune_one-clause-pruned : goal.returns-then-not-prune_one-clause-pruned
returns-then-not-prune_one-clause-pruned c = λ u.
    let none = c.prune_one.ensures.none c.if-not-prune_one.true in
    subst (λ (q : ReservedBlocks × ServerState). PrunesSome c.args.need u.next u.words u.missing u.others c.args.hand.now q.0 c.args.self.now q.1) (λ i. (sym none.1 i, sym none.0 i)) (c.loop-self.invariant u).pruned

pub returns-then-not-prune_one-clause-err : goal.returns-then-not-prune_one-clause-err
returns-then-not-prune_one-clause-err c =
    let u = c.requires in
    let none = c.prune_one.ensures.none c.if-not-prune_one.true in
    let small : largest_free c.loop-self.self.tiles < c.args.need = subst (λ n. n < c.args.need) c.largest.ensures c.loop-self-test.true in
    let size = c.largest-then-not-prune_one.ensures ∙ ap (λ (x : ServerState). largest_free x.tiles) none.0 in
    subst (λ (x : ServerState). HasNone c.args.need x (record { need = c.args.need; largest = c.largest-then-not-prune_one.result })) (sym none.0)
    (has_none c.args.need c.args.hand.now c.loop-self.hand c.args.self.now c.loop-self.self u (c.loop-self.invariant u) (record { need = c.args.need; largest = c.largest-then-not-prune_one.result }) (λ i. record { need = c.args.need; largest = size i }) small none.2)

pub returns-clause-pruned : goal.returns-clause-pruned
returns-clause-pruned c = λ u. (c.loop-self.invariant u).pruned
