use Rattle.std.proofs.Common.{ap, arith, length, refl}
use Rattle.std.specs.Vec.{vec_capacity}
use Rattle.qc_chain.specs.Chains.{Ranged, Chain, Begun}
use Rattle.qc_chain.specs.Stored.{lengths_of}
use Rattle.qc_chain.proofs.Views.{held_fits, begun_fits}
use Rattle.qc_chain.proofs.Stores.{IsKnown, known_here, not_there}
use Rattle.qc_chain.proofs.chains.Chains.ranges.Goals.{In-Some}
use Rattle.qc_chain.proofs.chains.Chains.ranges.Goals as goal

known_in : (c : In-Some) (held : Chain) → Begun c.args.chain.number c.args.self.now held → IsKnown c.args.chain.number c.self.inside.extents.items c.self.inside.blocks held c.in-Some.extent
known_in c held begun =
    let s = c.self.inside in
    known_here c.args.chain.number (vec_capacity s.free) s.extents.items c.as_slice.result.now s.free.items s.blocks c.args.self.now held c.in-Some.extent c.self.invariant c.self.view_is begun c.in-Some.ensures c.as_slice.ensures.value

pub unreachable-requires : goal.unreachable-requires
unreachable-requires c =
    let (held, begun, room) = c.requires in
    let s = c.self.inside in
    not_there c.args.chain.number (vec_capacity s.free) s.extents.items c.as_slice.result.now s.free.items s.blocks c.args.self.now held c.self.invariant c.self.view_is begun c.in_default.ensures c.as_slice.ensures.value

pub push_blocks-requires-clause-chain : goal.push_blocks-requires-clause-chain
push_blocks-requires-clause-chain c =
    let (held, begun, room) = c.requires in
    (known_in (goal.at.push_blocks-requires-clause-chain c).In-Some held begun).listed

pub push_blocks-requires-clause-room : goal.push_blocks-requires-clause-room
push_blocks-requires-clause-room c =
    let (held, begun, room) = c.requires in
    let k = known_in (goal.at.push_blocks-requires-clause-room c).In-Some held begun in
    omega (arith, ap length k.begun.same, ap (λ (r : Ranged). r.room) c.clear.ensures, room)

pub push_blocks-requires-clause-words : goal.push_blocks-requires-clause-words
push_blocks-requires-clause-words c =
    let (held, begun, room) = c.requires in
    let k = known_in (goal.at.push_blocks-requires-clause-words c).In-Some held begun in
    omega (arith, (begun_fits c.args.chain.number (lengths_of c.self.inside.extents.items) c.self.inside.blocks.lists held c.self.invariant.sound k.begun).most)

pub returns-clause-ranges : goal.returns-clause-ranges
returns-clause-ranges c = λ held begun.
    let k = known_in (goal.at.returns-clause-ranges c).In-Some held begun in
    rw (c.set_bytes.ensures, c.push_blocks.ensures, c.clear.ensures, k.bytes, k.begun.same) refl

pub returns-clause-fit : goal.returns-clause-fit
returns-clause-fit c = λ held begun. held_fits c.args.chain.number c.self.inside.blocks.room (lengths_of c.self.inside.extents.items) c.self.inside.blocks.lists c.args.self.now held c.self.invariant.sound c.self.view_is begun
