use Rattle.std.proofs.Common.{◌^◌, ◌≡◌, ◌<◌, ◌≤◌, ◌+◌, ◌*◌, ℕ, length, get_or, min, sym, ap, subst, ◌∙◌, arith, List}
use Rattle.qc_chain.specs.Words.{words_of}
use Rattle.qc_turn.proofs.Pieces.{after_long, after_fills, after_next, after_all}
use Rattle.qc_turn.proofs.Tasks.{length_words}
use Rattle.qc_turn.specs.Blocks.{places}
use Rattle.qc_turn.specs.Bytes.{filled}
use Rattle.qc_turn.specs.Releases.{MayFill}
use Rattle.qc_turn.specs.Tasks.{HasBlocks}
use Rattle.qc_turn.specs.Seats.{view}
use Rattle.qc_turn.specs.Views.{with_content}
use Rattle.qc_tiles.specs.declared.blocks.Block.{Block}
use Rattle.qc_turn.proofs.seat.Seat.store_piece.Goals as goal

pub prove-unreachable-requires : goal.prove-unreachable-requires
prove-unreachable-requires g c =
    let blocks = (view c.args.self.now).blocks in
    let hand : c.args.self.now.ranges.blocks ≡ blocks = subst (λ t. HasBlocks t blocks c.args.self.now.ranges.blocks) c.requires.filling.task c.requires.seated.ranges in
    let same = ap words_of hand in
    let long = length_words blocks in
    let words = c.words-words.ensures in
    let less = c.if-prove.true in
    let inside = c.requires.filling.inside in
    omega (arith, same, long, words, less, inside)

pub next_run-run-requires-clause-inside : goal.next_run-run-requires-clause-inside
next_run-run-requires-clause-inside g c =
    let hand : c.args.self.now.ranges.blocks ≡ (view c.args.self.now).blocks = subst (λ t. HasBlocks t (view c.args.self.now).blocks c.args.self.now.ranges.blocks) c.requires.filling.task c.requires.seated.ranges in
    let own : places c.loop-at.self.ranges.blocks ≡ places (view c.args.self.now).blocks = ap (λ r. places r.blocks) c.loop-at.invariant.ranges ∙ ap places hand in
    let inside = c.requires.filling.inside in
    let at = c.loop-at-test.true in
    subst (λ (l : List ℕ). c.args.index + c.loop-at.at < length l) (sym own) (omega (arith, inside, at))

pub next_run-run-requires-clause-small : goal.next_run-run-requires-clause-small
next_run-run-requires-clause-small g c =
    let before = view c.args.self.now in
    let hand : c.args.self.now.ranges.blocks ≡ before.blocks = subst (λ t. HasBlocks t before.blocks c.args.self.now.ranges.blocks) c.requires.filling.task c.requires.seated.ranges in
    let own : c.loop-at.self.ranges.blocks ≡ before.blocks = ap (λ r. r.blocks) c.loop-at.invariant.ranges ∙ hand in
    let sized = c.args.self.now.sized in
    let place = ap (λ t. t.words) c.requires.seated.table in
    let width = c.args.turn.now.sized.0 in
    let most = c.args.turn.now.small in
    subst (λ (l : List Block). (k : ℕ) → k < length (places l) → get_or (places l) k 0 < 2 ^ 32) (sym own) (λ k h. let low = c.args.self.now.within k h in omega (arith, low, sized, place, width, most))

pub next_run-run-requires-clause-within : goal.next_run-run-requires-clause-within
next_run-run-requires-clause-within g c =
    let hand : c.args.self.now.ranges.blocks ≡ (view c.args.self.now).blocks = subst (λ t. HasBlocks t (view c.args.self.now).blocks c.args.self.now.ranges.blocks) c.requires.filling.task c.requires.seated.ranges in
    let own : places c.loop-at.self.ranges.blocks ≡ places (view c.args.self.now).blocks = ap (λ r. places r.blocks) c.loop-at.invariant.ranges ∙ ap places hand in
    subst (λ (l : List ℕ). 0 < c.loop-at.run.words → c.args.index + c.loop-at.at + c.loop-at.run.words ≤ length l) (sym own) c.loop-at.invariant.inside

pub next_run-run-requires-clause-places : goal.next_run-run-requires-clause-places
next_run-run-requires-clause-places g c =
    let hand : c.args.self.now.ranges.blocks ≡ (view c.args.self.now).blocks = subst (λ t. HasBlocks t (view c.args.self.now).blocks c.args.self.now.ranges.blocks) c.requires.filling.task c.requires.seated.ranges in
    let own : places c.loop-at.self.ranges.blocks ≡ places (view c.args.self.now).blocks = ap (λ r. places r.blocks) c.loop-at.invariant.ranges ∙ ap places hand in
    subst (λ (l : List ℕ). (k : ℕ) → k < c.loop-at.run.words → get_or l (c.args.index + c.loop-at.at + k) 0 ≡ c.loop-at.run.first + k) (sym own) c.loop-at.invariant.places

pub store_place-requires-clause-filling : goal.store_place-requires-clause-filling
store_place-requires-clause-filling g c =
    let m = c.requires.filling in
    let before = view c.args.self.now in
    let at = c.loop-at.at in
    let i = c.args.index in
    let values = c.args.values.now in
    let count : ℕ = min (8 * (i + at) + 8) c.args.bytes in
    let inside : at < length values = c.loop-at-test.true in
    let all = m.inside in
    let low = m.low in
    subst (λ w. MayFill g.V.Kept w (i + at) (get_or values at 0) count) (sym c.loop-at.invariant.same) (record {
      serial = m.serial;
      task = m.task;
      inside = omega (arith, inside, all);
      reached = after_long before.content values i c.args.bytes at m.reached inside m.low m.high;
      low = omega (arith, inside, low);
      high = omega arith;
      fits = subst (λ l. g.V.Kept.fits before.seen m.serial l) (sym (after_fills before.content values i c.args.bytes at m.reached inside m.low m.high)) (m.fits (8 * (i + at) + 8) (omega arith));
    })

pub store_place-requires-clause-place : goal.store_place-requires-clause-place
store_place-requires-clause-place g c =
    let before = view c.args.self.now in
    let r = c.next_run-run.ensures in
    let run = c.next_run-run.result in
    let hand : c.args.self.now.ranges.blocks ≡ before.blocks = subst (λ t. HasBlocks t before.blocks c.args.self.now.ranges.blocks) c.requires.filling.task c.requires.seated.ranges in
    let own : places c.loop-at.self.ranges.blocks ≡ places before.blocks = ap (λ r. places r.blocks) c.loop-at.invariant.ranges ∙ ap places hand in
    let known : places (view c.loop-at.self).blocks ≡ places before.blocks = ap (λ v. places v.blocks) c.loop-at.invariant.same in
    let z : c.args.index + c.loop-at.at + 0 ≡ c.args.index + c.loop-at.at = omega arith in
    let y : run.first + 0 ≡ run.first = omega arith in
    ap (λ l. get_or l (c.args.index + c.loop-at.at) 0) (known ∙ sym own) ∙ (ap (λ n. get_or (places c.loop-at.self.ranges.blocks) n 0) (sym z) ∙ (r.places 0 r.some ∙ y))

pub overflow_add-run : goal.overflow_add-run
overflow_add-run g c =
    let before = view c.args.self.now in
    let r = c.next_run-run.ensures in
    let run = c.next_run-run.result in
    let word : ℕ = c.args.index + c.loop-at.at in
    let hand : c.args.self.now.ranges.blocks ≡ before.blocks = subst (λ t. HasBlocks t before.blocks c.args.self.now.ranges.blocks) c.requires.filling.task c.requires.seated.ranges in
    let own : places c.loop-at.self.ranges.blocks ≡ places before.blocks = ap (λ r. places r.blocks) c.loop-at.invariant.ranges ∙ ap places hand in
    let z : c.args.index + c.loop-at.at + 0 ≡ word = omega arith in
    let here : get_or (places before.blocks) word 0 ≡ run.first + 0 = ap (λ l. get_or l word 0) (sym own) ∙ (ap (λ n. get_or (places c.loop-at.self.ranges.blocks) n 0) (sym z) ∙ r.places 0 r.some) in
    let all = c.requires.filling.inside in
    let at = c.loop-at-test.true in
    let low = c.args.self.now.within word (omega (arith, all, at)) in
    let sized = c.args.self.now.sized in
    let place = ap (λ t. t.words) c.requires.seated.table in
    let width = c.args.turn.now.sized.0 in
    let most = c.args.turn.now.small in
    omega (arith, here, low, sized, place, width, most)

pub loop-at-preserved : goal.loop-at-preserved
loop-at-preserved g c =
    let m = c.requires.filling in
    let v = c.loop-at.invariant in
    let e = c.store_place.ensures in
    let r = c.next_run-run.ensures in
    let before = view c.args.self.now in
    let at = c.loop-at.at in
    let i = c.args.index in
    let values = c.args.values.now in
    let run = c.next_run-run.result in
    let count : ℕ = min (8 * (i + at) + 8) c.args.bytes in
    let inside : at < length values = c.loop-at-test.true in
    let hand : c.args.self.now.ranges.blocks ≡ before.blocks = subst (λ t. HasBlocks t before.blocks c.args.self.now.ranges.blocks) m.task c.requires.seated.ranges in
    let own : places c.loop-at.self.ranges.blocks ≡ places before.blocks = ap (λ r. places r.blocks) v.ranges ∙ ap places hand in
    let within : i + at + run.words ≤ length (places before.blocks) = subst (λ (l : List ℕ). i + at + run.words ≤ length l) own r.within in
    let at_run : (k : ℕ) → k < run.words → get_or (places before.blocks) (i + at + k) 0 ≡ run.first + k = subst (λ (l : List ℕ). (k : ℕ) → k < run.words → get_or l (i + at + k) 0 ≡ run.first + k) own r.places in
    record {
      seated = e.seated;
      same = e.view ∙ (ap (λ w. with_content w (filled w.content (i + at) (get_or values at 0) count)) v.same ∙ ap (with_content before) (after_next before.content values i c.args.bytes at m.reached inside m.low m.high));
      ranges = e.ranges ∙ v.ranges;
      inside = λ h. omega (arith, within, h);
      places = λ k h.
          let x : i + (at + 1) + k ≡ i + at + (k + 1) = omega arith in
          let y : run.first + (k + 1) ≡ run.first + 1 + k = omega arith in
          ap (λ n. get_or (places before.blocks) n 0) x ∙ (at_run (k + 1) (omega (arith, h)) ∙ y);
    }

pub returns-clause-view : goal.returns-clause-view
returns-clause-view g c =
    let m = c.requires.filling in
    let before = view c.args.self.now in
    let some = m.some in
    let low = m.low in
    let done : length c.args.values.now ≤ c.loop-at.at = omega (arith, c.loop-at-test.false) in
    c.loop-at.invariant.same ∙ ap (with_content before) (after_all before.content c.args.values.now c.args.index c.args.bytes c.loop-at.at m.reached (omega (arith, some, low)) m.high (omega (arith, some, done)) done)
