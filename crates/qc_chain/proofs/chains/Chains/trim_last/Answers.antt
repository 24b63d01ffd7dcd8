use Rattle.std.proofs.Common.{◌≡◌, ◌+◌, ◌-◌, ◌∙◌, ap, arith, length, Some}
use Rattle.std.specs.Prelude.{Contains}
use Rattle.std.specs.Vec.{vec_capacity}
use Rattle.qc_tiles.specs.Tiles.{handed_out, trimmed}
use Rattle.qc_chain.specs.declared.names.Extent.{Extent}
use Rattle.qc_chain.specs.Words.{words_of}
use Rattle.qc_chain.specs.Chains.{Chain, Begun, EndsInLast, words_for}
use Rattle.qc_chain.specs.Stored.{lengths_of}
use Rattle.qc_chain.proofs.Views.{begun_once}
use Rattle.qc_chain.proofs.Calls.{last_in, words_are, cuts, cut_tiles}
use Rattle.qc_chain.proofs.Stores.{IsKnown, known_here, not_there, lengths_set, IsLastRead, last_read, cuts_left, cut_stored}
use Rattle.qc_chain.proofs.chains.Chains.trim_last.Goals.{In-Some, In-Some-last}
use Rattle.qc_chain.proofs.chains.Chains.trim_last.Goals as goal

known_in : (c : In-Some) (held : Chain) → Begun c.args.chain.number c.args.self.now held → IsKnown c.args.chain.number c.self.inside.extents.items c.self.inside.blocks held c.in-Some.extent
known_in c held begun =
    let s = c.self.inside in
    known_here c.args.chain.number (vec_capacity s.free) s.extents.items c.as_slice.result.now s.free.items s.blocks c.args.self.now held c.in-Some.extent c.self.invariant c.self.view_is begun c.in-Some.ensures c.as_slice.ensures.value

-- the last block of a chain, which is cut in it
read : (c : In-Some-last) (held : Chain) → IsKnown c.args.chain.number c.self.inside.extents.items c.self.inside.blocks held c.in-Some.extent → EndsInLast held.blocks c.args.bytes → IsLastRead c.args.chain.number c.args.bytes c.self.inside.extents.items c.self.inside.blocks held c.in-Some-last.last
read c held k ends = last_read c.args.chain.number c.args.bytes c.self.inside.extents.items c.self.inside.blocks held c.in-Some.extent c.in-Some-last.last k ends (c.in-Some-last.ensures {u = tt})

pub unreachable-requires : goal.unreachable-requires
unreachable-requires c =
    let (held, begun, out, ends) = c.requires in
    let s = c.self.inside in
    not_there c.args.chain.number (vec_capacity s.free) s.extents.items c.as_slice.result.now s.free.items s.blocks c.args.self.now held c.self.invariant c.self.view_is begun c.in_default.ensures c.as_slice.ensures.value

pub last-requires : goal.last-requires
last-requires c =
    let (held, begun, out, ends) = c.requires in
    let k = known_in (goal.at.last-requires c).In-Some held begun in
    k.listed

pub unreachable-requires-in_default-last : goal.unreachable-requires-in_default-last
unreachable-requires-in_default-last c =
    let (held, begun, out, ends) = c.requires in
    let k = known_in (goal.at.unreachable-requires-in_default-last c).In-Some held begun in
    omega (arith, ap length k.begun.same, ap length (c.in_default-last.ensures {u = tt}), ends.some)

pub overflow_sub-before : goal.overflow_sub-before
overflow_sub-before c =
    let (held, begun, out, ends) = c.requires in
    let k = known_in (goal.at.overflow_sub-before c).In-Some held begun in
    let r = read (goal.at.overflow_sub-before c).In-Some-last held k ends in
    omega (arith, k.words, r.cut.words)

pub overflow_sub-div_ceil : goal.overflow_sub-div_ceil
overflow_sub-div_ceil c =
    let (held, begun, out, ends) = c.requires in
    let k = known_in (goal.at.overflow_sub-div_ceil c).In-Some held begun in
    let r = read (goal.at.overflow_sub-div_ceil c).In-Some-last held k ends in
    omega (arith, k.words, r.cut.words, r.cut.below, c.div_ceil.ensures, words_are c.args.bytes)

pub trim-left-requires-clause-handed_out : goal.trim-left-requires-clause-handed_out
trim-left-requires-clause-handed_out c =
    let (held, begun, out, ends) = c.requires in
    let k = known_in (goal.at.trim-left-requires-clause-handed_out c).In-Some held begun in
    let r = read (goal.at.trim-left-requires-clause-handed_out c).In-Some-last held k ends in
    last_in (Contains (handed_out c.args.tiles.now)) r.front c.in-Some-last.last (rw r.cut.blocks at out.each)

pub trim-left-requires-clause-some : goal.trim-left-requires-clause-some
trim-left-requires-clause-some c =
    let (held, begun, out, ends) = c.requires in
    let k = known_in (goal.at.trim-left-requires-clause-some c).In-Some held begun in
    let r = read (goal.at.trim-left-requires-clause-some c).In-Some-last held k ends in
    omega (arith, k.words, r.cut.words, r.cut.below, c.div_ceil.ensures, words_are c.args.bytes)

pub trim-left-requires-clause-most : goal.trim-left-requires-clause-most
trim-left-requires-clause-most c =
    let (held, begun, out, ends) = c.requires in
    let k = known_in (goal.at.trim-left-requires-clause-most c).In-Some held begun in
    let r = read (goal.at.trim-left-requires-clause-most c).In-Some-last held k ends in
    omega (arith, k.words, r.cut.words, r.cut.below, r.cut.most, c.div_ceil.ensures, words_are c.args.bytes)

pub cut_last-requires-clause-chain : goal.cut_last-requires-clause-chain
cut_last-requires-clause-chain c =
    let (held, begun, out, ends) = c.requires in
    let k = known_in (goal.at.cut_last-requires-clause-chain c).In-Some held begun in
    k.listed

pub cut_last-requires-clause-some : goal.cut_last-requires-clause-some
cut_last-requires-clause-some c =
    let (held, begun, out, ends) = c.requires in
    let k = known_in (goal.at.cut_last-requires-clause-some c).In-Some held begun in
    omega (arith, ap length k.begun.same, ends.some)

pub index_mut-requires : goal.index_mut-requires
index_mut-requires c =
    let (held, begun, out, ends) = c.requires in
    let k = known_in (goal.at.index_mut-requires c).In-Some held begun in
    omega (arith, k.within, c.self.inside.extents.ok.0)

pub invariant_of-self : goal.invariant_of-self
invariant_of-self c =
    let (held, begun, out, ends) = c.requires in
    let k = known_in (goal.at.invariant_of-self c).In-Some held begun in
    let r = read (goal.at.invariant_of-self c).In-Some-last held k ends in
    let s = c.self.inside in
    let n = c.args.chain.number in
    let last = c.in-Some-last.last in
    let before : c.in-Some.extent.words - last.words ≡ words_of r.front = omega (arith, k.words, r.cut.words) in
    let used = c.div_ceil.result - (c.in-Some.extent.words - last.words) in
    let used_is : used ≡ words_for c.args.bytes - words_of r.front = omega (arith, before, c.div_ceil.ensures, words_are c.args.bytes) in
    let left = c.trim-left.result in
    let left_is : left ≡ trimmed used last = c.trim-left.ensures.block in
    let change = cuts_left n used r.front last left s.blocks.lists c.cut_last.new.self.lists left_is (c.cut_last.ensures.cut r.front last r.before) in
    cut_stored n (vec_capacity s.free) c.args.bytes used (c.in-Some.extent.words - last.words + left.words) s.extents.items s.free.items s.blocks c.cut_last.new.self held c.in-Some.extent r.front last left c.self.invariant k change r.cut used_is left_is c.cut_last.ensures.lists
    (ap (λ w. w + left.words) before)

pub returns-clause-chains : goal.returns-clause-chains
returns-clause-chains c = λ held begun.
    let (first, first_begun, out, first_ends) = c.requires in
    let ends : EndsInLast held.blocks c.args.bytes = rw (begun_once c.args.chain.number c.args.self.now held first begun first_begun) first_ends in
    let k = known_in (goal.at.returns-clause-chains c).In-Some held begun in
    let r = read (goal.at.returns-clause-chains c).In-Some-last held k ends in
    let s = c.self.inside in
    let n = c.args.chain.number in
    let last = c.in-Some-last.last in
    let before : c.in-Some.extent.words - last.words ≡ words_of r.front = omega (arith, k.words, r.cut.words) in
    let used = c.div_ceil.result - (c.in-Some.extent.words - last.words) in
    let used_is : used ≡ words_for c.args.bytes - words_of r.front = omega (arith, before, c.div_ceil.ensures, words_are c.args.bytes) in
    let left = c.trim-left.result in
    let left_is : left ≡ trimmed used last = c.trim-left.ensures.block in
    let change = cuts_left n used r.front last left s.blocks.lists c.cut_last.new.self.lists left_is (c.cut_last.ensures.cut r.front last r.before) in
    let new : Extent = record { blocks = c.in-Some.extent.blocks; words = c.in-Some.extent.words - last.words + left.words; bytes = c.args.bytes } in
    rw (← c.self.view_is, lengths_set s.extents.items n (Some new), c.cut_last.ensures.room) (cuts n s.blocks.room c.args.bytes used (lengths_of s.extents.items) r.front last left s.blocks.lists c.cut_last.new.self.lists held r.cut change used_is left_is)

pub returns-clause-tiles : goal.returns-clause-tiles
returns-clause-tiles c = λ held begun.
    let (first, first_begun, out, first_ends) = c.requires in
    let ends : EndsInLast held.blocks c.args.bytes = rw (begun_once c.args.chain.number c.args.self.now held first begun first_begun) first_ends in
    let k = known_in (goal.at.returns-clause-tiles c).In-Some held begun in
    let r = read (goal.at.returns-clause-tiles c).In-Some-last held k ends in
    let s = c.self.inside in
    let last = c.in-Some-last.last in
    let used = c.div_ceil.result - (c.in-Some.extent.words - last.words) in
    let used_is : used ≡ words_for c.args.bytes - words_of r.front = omega (arith, k.words, r.cut.words, c.div_ceil.ensures, words_are c.args.bytes) in
    c.trim-left.ensures.tiles ∙ cut_tiles c.args.chain.number c.args.bytes used (lengths_of s.extents.items) r.front last s.blocks.lists held c.args.tiles.now r.cut used_is
