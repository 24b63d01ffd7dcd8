use Rattle.std.proofs.Common.{arith, refl}
use Rattle.std.specs.Vec.{vec_capacity}
use Rattle.qc_chain.specs.Stored.{lengths_of}
use Rattle.qc_chain.proofs.Views.{begun_fits}
use Rattle.qc_chain.proofs.Stores.{known}
use Rattle.qc_chain.proofs.chains.Chains.spot.Goals as goal

pub place_of-requires-clause-chain : goal.place_of-requires-clause-chain
place_of-requires-clause-chain c =
    let (held, begun, within) = c.requires in
    let s = c.self.inside in
    (known c.args.chain.number (vec_capacity s.free) s.extents.items s.free.items s.blocks c.args.self.now held c.self.invariant c.self.view_is begun).1.listed

pub place_of-requires-clause-within : goal.place_of-requires-clause-within
place_of-requires-clause-within c =
    let (held, begun, within) = c.requires in
    let s = c.self.inside in
    let n = c.args.chain.number in
    let (e, k) = known n (vec_capacity s.free) s.extents.items s.free.items s.blocks c.args.self.now held c.self.invariant c.self.view_is begun in
    omega (arith, (begun_fits n (lengths_of s.extents.items) s.blocks.lists held c.self.invariant.sound k.begun).within, within)

pub returns : goal.returns
returns c = λ held begun fits.
    let s = c.self.inside in
    let n = c.args.chain.number in
    let (e, k) = known n (vec_capacity s.free) s.extents.items s.free.items s.blocks c.args.self.now held c.self.invariant c.self.view_is begun in
    rw (c.place_of.ensures (rw k.begun.same at fits), k.begun.same) refl
