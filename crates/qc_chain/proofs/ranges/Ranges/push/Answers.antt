use Rattle.std.proofs.Common.{◌≡◌, ◌+◌, ◌∷◌, ◌++◌, [], ◌∙◌, ap, arith, length}
use Rattle.qc_chain.specs.Words.{words_of}
use Rattle.qc_chain.specs.Chains.{Ranged}
use Rattle.qc_chain.proofs.Words.{last_of_ends, length-ends, ends_pushed, words_push}
use Rattle.qc_chain.proofs.ranges.Ranges.push.Goals as goal

pub overflow_add-words : goal.overflow_add-words
overflow_add-words c =
    let words = last_of_ends c.self.inside.blocks.items c.last_end-words.result c.as_slice.result.now (c.as_slice.ensures.value ∙ c.self.invariant.each) c.last_end-words.ensures.none c.last_end-words.ensures.last in
    omega (arith, words, ap (λ (r : Ranged). words_of r.blocks) c.self.view_is, c.requires.words)

pub push_reserved-requires-2 : goal.push_reserved-requires-2
push_reserved-requires-2 c =
    omega (arith, ap length c.self.invariant.each, length-ends 0 c.self.inside.blocks.items, ap (λ (r : Ranged). length r.blocks) c.self.view_is, ap (λ (r : Ranged). r.room) c.self.view_is, c.requires.room, c.self.invariant.end_room)

pub invariant_of-self : goal.invariant_of-self
invariant_of-self c =
    let blocks = c.self.inside.blocks.items in
    let words : c.last_end-words.result ≡ words_of blocks = last_of_ends blocks c.last_end-words.result c.as_slice.result.now (c.as_slice.ensures.value ∙ c.self.invariant.each) c.last_end-words.ensures.none c.last_end-words.ensures.last in
    let whole : words_of (blocks ++ c.args.block ∷ []) ≡ words_of blocks + c.args.block.words = words_push blocks c.args.block in
    record {
      each = c.push_reserved-2.ensures.items ∙ rw (c.push_reserved.ensures.items, c.self.invariant.each, words) (ends_pushed blocks c.args.block);
      words = rw c.push_reserved.ensures.items (omega (arith, whole, ap (λ (r : Ranged). words_of r.blocks) c.self.view_is, c.requires.words));
      few = omega (arith, c.push_reserved.ensures.len, ap (λ (r : Ranged). length r.blocks) c.self.view_is, ap (λ (r : Ranged). r.room) c.self.view_is, c.requires.room);
      small = c.self.invariant.small;
      block_room = omega (arith, c.push_reserved.ensures.capacity, c.self.invariant.block_room);
      end_room = omega (arith, c.push_reserved-2.ensures.capacity, c.self.invariant.end_room);
    }
