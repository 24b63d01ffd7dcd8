use Rattle.std.proofs.Common.{◌≡◌, ◌++◌, ◌∷◌, [], ◌∙◌, sym, ap, arith, length, refl, append_assoc, append-nil}
use Rattle.std.proofs.lemmas.List.{length-append}
use Rattle.qc_chain.specs.Words.{words_of}
use Rattle.qc_chain.specs.Chains.{Ranged}
use Rattle.qc_chain.specs.Views.{blocks_of}
use Rattle.qc_chain.proofs.Words.{words_append}
use Rattle.qc_chain.proofs.walks.push_blocks.Goals as goal

pub push-requires-clause-room : goal.push-requires-clause-room
push-requires-clause-room c =
    let l = c.loop-block in
    omega (arith, ap length l.invariant.blocks, length-append l.out.blocks l.walk, ap length (c.in-Some.ensures {u = tt}), c.requires.room, l.invariant.room)

pub push-requires-clause-words : goal.push-requires-clause-words
push-requires-clause-words c =
    let l = c.loop-block in
    omega (arith, ap words_of l.invariant.blocks, words_append l.out.blocks l.walk, ap words_of (c.in-Some.ensures {u = tt}), c.requires.words)

pub loop-block-preserved : goal.loop-block-preserved
loop-block-preserved c =
    let l = c.loop-block in
    let rest = c.next.new.self in
    record {
      blocks = ap (λ (r : Ranged). r.blocks ++ rest) c.push.ensures ∙ (append_assoc l.out.blocks (c.in-Some.block ∷ []) rest ∙ (ap (λ bs. l.out.blocks ++ bs) (sym (c.in-Some.ensures {u = tt})) ∙ l.invariant.blocks));
      bytes = ap (λ (r : Ranged). r.bytes) c.push.ensures ∙ l.invariant.bytes;
      room = ap (λ (r : Ranged). r.room) c.push.ensures ∙ l.invariant.room;
    }

pub returns : goal.returns
returns c =
    let l = c.loop-block in
    let blocks : l.out.blocks ≡ blocks_of c.args.chain c.args.blocks.now.lists = sym (append-nil l.out.blocks) ∙ (ap (λ bs. l.out.blocks ++ bs) (sym (c.in_default.ensures {u = tt}).0) ∙ l.invariant.blocks) in
    rw (← blocks, ← l.invariant.bytes, ← l.invariant.room) refl
