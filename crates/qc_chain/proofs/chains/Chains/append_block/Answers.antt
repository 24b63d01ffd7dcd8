use Rattle.std.proofs.Common.{◌≡◌, ◌+◌, ◌-◌, ◌*◌, ◌∙◌, sym, ap, arith, length, Some, refl, ◌∷◌, []}
use Rattle.std.specs.Vec.{vec_capacity}
use Rattle.std.proofs.lemmas.List.{length-append}
use Rattle.qc_chain.specs.declared.names.Extent.{Extent}
use Rattle.qc_chain.specs.Words.{words_of}
use Rattle.qc_chain.specs.Chains.{Begun, Chain, Chained}
use Rattle.qc_chain.specs.Views.{blocks_of}
use Rattle.qc_chain.specs.Stored.{lengths_of}
use Rattle.qc_chain.proofs.Words.{words_push}
use Rattle.qc_chain.proofs.Calls.{appends}
use Rattle.qc_chain.proofs.Stores.{IsKnown, known_here, not_there, lengths_set, append_stored}
use Rattle.qc_chain.proofs.chains.Chains.append_block.Goals.{In-Some}
use Rattle.qc_chain.proofs.chains.Chains.append_block.Goals as goal

known_in : (c : In-Some) (held : Chain) → Begun c.args.chain.number c.args.self.now held → IsKnown c.args.chain.number c.self.inside.extents.items c.self.inside.blocks held c.in-Some.extent
known_in c held begun =
    let s = c.self.inside in
    known_here c.args.chain.number (vec_capacity s.free) s.extents.items c.as_slice.result.now s.free.items s.blocks c.args.self.now held c.in-Some.extent c.self.invariant c.self.view_is begun c.in-Some.ensures c.as_slice.ensures.value

pub unreachable-requires : goal.unreachable-requires
unreachable-requires c =
    let (held, begun, fits) = c.requires.begun in
    let s = c.self.inside in
    not_there c.args.chain.number (vec_capacity s.free) s.extents.items c.as_slice.result.now s.free.items s.blocks c.args.self.now held c.self.invariant c.self.view_is begun c.in_default.ensures c.as_slice.ensures.value

pub append-requires-clause-chain : goal.append-requires-clause-chain
append-requires-clause-chain c =
    let (held, begun, fits) = c.requires.begun in
    (known_in (goal.at.append-requires-clause-chain c).In-Some held begun).listed

pub append-requires-clause-room : goal.append-requires-clause-room
append-requires-clause-room c = omega (arith, ap (λ (v : Chained). v.room) c.self.view_is, c.requires.room)

pub overflow_add-words : goal.overflow_add-words
overflow_add-words c =
    let (held, begun, fits) = c.requires.begun in
    let k = known_in (goal.at.overflow_add-words c).In-Some held begun in
    omega (arith, k.words, ap words_of k.begun.same, fits)

pub overflow_add-extent : goal.overflow_add-extent
overflow_add-extent c =
    let (held, begun, fits) = c.requires.begun in
    let n = c.args.chain.number in
    let k = known_in (goal.at.overflow_add-extent c).In-Some held begun in
    omega (arith, k.count, c.append.ensures.few, ap length c.append.ensures.appended.own, length-append (blocks_of n c.self.inside.blocks.lists) (c.args.block ∷ []))

pub overflow_mul-words : goal.overflow_mul-words
overflow_mul-words c =
    let (held, begun, fits) = c.requires.begun in
    let k = known_in (goal.at.overflow_mul-words c).In-Some held begun in
    omega (arith, k.words, ap words_of k.begun.same, fits)

pub index_mut-requires : goal.index_mut-requires
index_mut-requires c =
    let (held, begun, fits) = c.requires.begun in
    let k = known_in (goal.at.index_mut-requires c).In-Some held begun in
    omega (arith, k.within, c.self.inside.extents.ok.0)

pub invariant_of-self : goal.invariant_of-self
invariant_of-self c =
    let (held, begun, fits) = c.requires.begun in
    let s = c.self.inside in
    let n = c.args.chain.number in
    let k = known_in (goal.at.invariant_of-self c).In-Some held begun in
    append_stored n (vec_capacity s.free) (c.in-Some.extent.words + c.args.block.words) c.args.block s.extents.items s.free.items s.blocks c.append.new.self held c.in-Some.extent c.self.invariant k c.append.ensures.appended c.append.ensures.lists refl
    (omega (arith, k.words, ap words_of k.begun.same, fits))

pub returns : goal.returns
returns c = λ held begun.
    let s = c.self.inside in
    let n = c.args.chain.number in
    let k = known_in (goal.at.returns c).In-Some held begun in
    let words = c.in-Some.extent.words + c.args.block.words in
    let new : Extent = record { blocks = c.in-Some.extent.blocks + 1; words = words; bytes = 8 * words } in
    let room : c.append.new.self.room ≡ s.blocks.room - 1 = omega (arith, c.append.ensures.room) in
    let total : words ≡ words_of (blocks_of n c.append.new.self.lists) = ap (λ w. w + c.args.block.words) k.words ∙ sym (ap words_of c.append.ensures.appended.own ∙ words_push (blocks_of n s.blocks.lists) c.args.block) in
    rw (← c.self.view_is, lengths_set s.extents.items n (Some new), room) (appends n s.blocks.room words c.args.block (lengths_of s.extents.items) s.blocks.lists c.append.new.self.lists held k.begun c.append.ensures.appended total)
