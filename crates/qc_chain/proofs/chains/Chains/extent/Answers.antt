use Rattle.std.proofs.Common.{◌∙◌, ap}
use Rattle.std.specs.Vec.{vec_capacity}
use Rattle.qc_chain.specs.Stored.{extent_at, lengths_of}
use Rattle.qc_chain.proofs.Views.{held_fits}
use Rattle.qc_chain.proofs.Stores.{extent_has}
use Rattle.qc_chain.proofs.chains.Chains.extent.Goals as goal

pub returns-clause-extent : goal.returns-clause-extent
returns-clause-extent c =
    let s = c.self.inside in
    extent_has c.args.chain.number (vec_capacity s.free) s.extents.items s.free.items s.blocks c.args.self.now c.extent_at.result c.self.invariant c.self.view_is (c.extent_at.ensures ∙ ap (extent_at c.args.chain.number) c.as_slice.ensures.value)

pub returns-clause-fit : goal.returns-clause-fit
returns-clause-fit c = λ held begun. held_fits c.args.chain.number c.self.inside.blocks.room (lengths_of c.self.inside.extents.items) c.self.inside.blocks.lists c.args.self.now held c.self.invariant.sound c.self.view_is begun
