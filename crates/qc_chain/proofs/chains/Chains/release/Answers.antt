use Rattle.std.proofs.Common.{◌≡◌, ◌+◌, ◌∙◌, sym, ap, arith, length, None}
use Rattle.std.specs.Vec.{vec_capacity}
use Rattle.qc_chain.specs.Chains.{after_release}
use Rattle.qc_chain.specs.Stored.{lengths_of}
use Rattle.qc_chain.proofs.Calls.{releases}
use Rattle.qc_chain.proofs.Stores.{known, lengths_set, name_room, release_stored}
use Rattle.qc_chain.proofs.chains.Chains.release.Goals as goal

pub give_back_all-requires-clause-chain : goal.give_back_all-requires-clause-chain
give_back_all-requires-clause-chain c =
    let (held, begun, out) = c.requires in
    let s = c.self.inside in
    (known c.args.chain.number (vec_capacity s.free) s.extents.items s.free.items s.blocks c.args.self.now held c.self.invariant c.self.view_is begun).1.listed

pub give_back_all-requires-clause-handed_out : goal.give_back_all-requires-clause-handed_out
give_back_all-requires-clause-handed_out c =
    let (held, begun, out) = c.requires in
    let s = c.self.inside in
    let (e, k) = known c.args.chain.number (vec_capacity s.free) s.extents.items s.free.items s.blocks c.args.self.now held c.self.invariant c.self.view_is begun in
    rw k.begun.same at out

pub index_mut-requires : goal.index_mut-requires
index_mut-requires c =
    let (held, begun, out) = c.requires in
    let s = c.self.inside in
    let (e, k) = known c.args.chain.number (vec_capacity s.free) s.extents.items s.free.items s.blocks c.args.self.now held c.self.invariant c.self.view_is begun in
    omega (arith, k.within, s.extents.ok.0)

pub push_reserved-requires : goal.push_reserved-requires
push_reserved-requires c =
    let (held, begun, out) = c.requires in
    let s = c.self.inside in
    let n = c.args.chain.number in
    let (e, k) = known n (vec_capacity s.free) s.extents.items s.free.items s.blocks c.args.self.now held c.self.invariant c.self.view_is begun in
    omega (arith, name_room n (vec_capacity s.free) s.extents.items s.free.items s.blocks held e c.self.invariant k, s.free.ok.0)

pub invariant_of-self : goal.invariant_of-self
invariant_of-self c =
    let (held, begun, out) = c.requires in
    let s = c.self.inside in
    let n = c.args.chain.number in
    let (e, k) = known n (vec_capacity s.free) s.extents.items s.free.items s.blocks c.args.self.now held c.self.invariant c.self.view_is begun in
    rw (c.push_reserved.ensures.items, c.push_reserved.ensures.capacity)
    (release_stored n (vec_capacity s.free) s.extents.items s.free.items s.blocks c.give_back_all.new.blocks held e c.self.invariant k c.give_back_all.ensures.removed c.give_back_all.ensures.lists)

pub returns-clause-chains : goal.returns-clause-chains
returns-clause-chains c = λ held begun.
    let s = c.self.inside in
    let n = c.args.chain.number in
    let (e, k) = known n (vec_capacity s.free) s.extents.items s.free.items s.blocks c.args.self.now held c.self.invariant c.self.view_is begun in
    let room : c.give_back_all.new.blocks.room ≡ s.blocks.room + length held.blocks = omega (arith, c.give_back_all.ensures.room, ap length k.begun.same) in
    rw (← c.self.view_is, lengths_set s.extents.items n None, room) (releases n (s.blocks.room + length held.blocks) (lengths_of s.extents.items) s.blocks.lists c.give_back_all.new.blocks.lists c.give_back_all.ensures.removed)

pub returns-clause-tiles : goal.returns-clause-tiles
returns-clause-tiles c = λ held begun.
    let s = c.self.inside in
    let (e, k) = known c.args.chain.number (vec_capacity s.free) s.extents.items s.free.items s.blocks c.args.self.now held c.self.invariant c.self.view_is begun in
    c.give_back_all.ensures.tiles ∙ ap (λ bs. after_release bs c.args.tiles.now) (sym k.begun.same)
