use Rattle.std.proofs.Common.{refl}
use Rattle.std.specs.Vec.{vec_capacity}
use Rattle.qc_chain.specs.Stored.{lengths_of}
use Rattle.qc_chain.proofs.Views.{chains_moved, shifts_nowhere}
use Rattle.qc_chain.proofs.Stores.{move_stored}
use Rattle.qc_chain.proofs.chains.Chains.shift.Goals as goal

pub invariant_of-self : goal.invariant_of-self
invariant_of-self c =
    let s = c.self.inside in
    move_stored c.args.change (vec_capacity s.free) s.extents.items s.free.items s.blocks c.shift.new.self c.self.invariant c.shift.ensures.lists

pub returns-then-change : goal.returns-then-change
returns-then-change c =
    let s = c.self.inside in
    rw (← c.self.view_is, c.shift.ensures.lists, c.shift.ensures.room, chains_moved c.args.change (lengths_of s.extents.items) s.blocks.lists) refl

pub returns-else-change : goal.returns-else-change
returns-else-change c = shifts_nowhere c.args.change c.args.self.now c.if-change.false
