use Rattle.std.proofs.Common.{◌^◌, ◌≡◌, ◌<◌, ◌≤◌, ◌+◌, ℕ, length, get_or, set, sym, ap, subst, ◌∙◌, arith, List, length-set, get_or-set_same, get_or-set_other}
use mathlib.Core.Logic.{dite}
use native.Mathlib.Decide.{ℕ_discrete}
use Rattle.qc_chain.specs.Words.{words_of}
use Rattle.qc_turn.proofs.Tasks.{length_words}
use Rattle.qc_turn.specs.Blocks.{places}
use Rattle.qc_turn.specs.Tasks.{HasBlocks}
use Rattle.qc_turn.specs.Seats.{view}
use Rattle.qc_tiles.specs.declared.blocks.Block.{Block}
use Rattle.qc_turn.proofs.seat.Seat.load_piece.Goals as goal

pub loop-at-preserved : goal.loop-at-preserved
loop-at-preserved g c =
    let i = c.loop-at.invariant in
    let e = c.load_place.ensures in
    let r = c.next_run-run.ensures in
    let before = view c.args.self.now in
    let at = c.loop-at.at in
    let run = c.next_run-run.result in
    let task = ap (λ v. v.task) i.same ∙ c.requires.streaming.1 in
    let hand : c.loop-at.self.ranges.blocks ≡ before.blocks = subst (λ t. HasBlocks t (view c.loop-at.self).blocks c.loop-at.self.ranges.blocks) task i.seated.ranges ∙ ap (λ v. v.blocks) i.same in
    let own : places c.loop-at.self.ranges.blocks ≡ places before.blocks = ap places hand in
    let within : c.args.index + at + run.words ≤ length (places before.blocks) = subst (λ (l : List ℕ). c.args.index + at + run.words ≤ length l) own r.within in
    let at_run : (k : ℕ) → k < run.words → get_or (places before.blocks) (c.args.index + at + k) 0 ≡ run.first + k = subst (λ (l : List ℕ). (k : ℕ) → k < run.words → get_or l (c.args.index + at + k) 0 ≡ run.first + k) own r.places in
    let inside : at < length c.args.out.now = c.loop-at-test.true in
    let long : length c.loop-at.out ≡ length c.args.out.now = i.long in
    let here : get_or (places (view c.loop-at.self).blocks) (c.args.index + at) 0 ≡ run.first =
    let z : c.args.index + at + 0 ≡ c.args.index + at = omega arith in let y : run.first + 0 ≡ run.first = omega arith in
    ap (λ v. get_or (places v.blocks) (c.args.index + at) 0) i.same ∙ (ap (λ n. get_or (places before.blocks) n 0) (sym z) ∙ (at_run 0 r.some ∙ y)) in
    let below : c.args.index + at < length (places (view c.loop-at.self).blocks) = subst (λ (n : ℕ). c.args.index + at < n) (sym (ap (λ v. length (places v.blocks)) i.same)) (omega (arith, within, r.some)) in
    let word : c.load_place.result ≡ get_or before.content (c.args.index + at) 0 = e.word (c.args.index + at) below here ∙ ap (λ v. get_or v.content (c.args.index + at) 0) i.same in
    record {
      seated = e.seated.0;
      same = e.seated.1 ∙ i.same;
      ranges = e.seated.2 ∙ i.ranges;
      long = length-set c.loop-at.out at c.load_place.result ∙ long;
      inside = λ h. omega (arith, within, h);
      places = λ k h.
          let x : c.args.index + (at + 1) + k ≡ c.args.index + at + (k + 1) = omega arith in
          let y : run.first + (k + 1) ≡ run.first + 1 + k = omega arith in
          ap (λ n. get_or (places before.blocks) n 0) x ∙ (at_run (k + 1) (omega (arith, h)) ∙ y);
      words = λ k h. dite (ℕ_discrete k at)
          (λ s. ap (λ n. get_or (set c.loop-at.out at c.load_place.result) n 0) s ∙ (get_or-set_same c.loop-at.out at c.load_place.result 0 (omega (arith, inside, long)) ∙ (word ∙ ap (λ n. get_or before.content (c.args.index + n) 0) (sym s))))
          (λ ne. get_or-set_other c.loop-at.out at k c.load_place.result 0 ne ∙ i.words k (omega (arith, h, ne)));
    }

pub next_run-run-requires-clause-small : goal.next_run-run-requires-clause-small
next_run-run-requires-clause-small g c =
    let i = c.loop-at.invariant in
    let before = view c.args.self.now in
    let task = ap (λ v. v.task) i.same ∙ c.requires.streaming.1 in
    let hand : c.loop-at.self.ranges.blocks ≡ before.blocks = subst (λ t. HasBlocks t (view c.loop-at.self).blocks c.loop-at.self.ranges.blocks) task i.seated.ranges ∙ ap (λ v. v.blocks) i.same in
    let sized = c.args.self.now.sized in
    let place = ap (λ t. t.words) c.requires.seated.table in
    let width = c.args.turn.now.sized.0 in
    let most = c.args.turn.now.small in
    subst (λ (l : List Block). (k : ℕ) → k < length (places l) → get_or (places l) k 0 < 2 ^ 32) (sym hand) (λ k h. let low = c.args.self.now.within k h in omega (arith, low, sized, place, width, most))

pub prove-unreachable-requires : goal.prove-unreachable-requires
prove-unreachable-requires g c =
    let blocks = (view c.args.self.now).blocks in
    let hand : c.args.self.now.ranges.blocks ≡ blocks = subst (λ t. HasBlocks t blocks c.args.self.now.ranges.blocks) c.requires.streaming.1 c.requires.seated.ranges in
    let same = ap words_of hand in
    let long = length_words blocks in
    let words = c.words-words.ensures in
    let less = c.if-prove.true in
    let inside = c.requires.inside in
    omega (arith, same, long, words, less, inside)
