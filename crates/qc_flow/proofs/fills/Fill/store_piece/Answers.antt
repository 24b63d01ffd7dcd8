use Rattle.std.proofs.Common.{◌≡◌, ℕ, ◌+◌, ◌*◌, ◌/◌, ◌%◌, ◌≤◌, ◌++◌, List, length, take, drop, ap, sym, subst, ◌∙◌, arith, length-append}
use Rattle.std.proofs.lemmas.List.{length-take-le, take-append-drop}
use Rattle.qc_chain.specs.Chains.{Ranged}
use Rattle.qc_turn.specs.Seats.{view}
use Rattle.qc_turn.specs.Views.{with_content}
use Rattle.qc_turn.proofs.Tasks.{length_words}
use Rattle.qc_sound.specs.Sound.{FitsFill}
use Rattle.qc_chain.specs.Words.{words_of}
use Rattle.qc_flow.specs.Fills.{size_of, limit_of}
use Rattle.qc_flow.proofs.Pieces.{stored_piece, next_last}
use Rattle.qc_flow.proofs.fills.Fill.store_piece.Goals as goal

pub store_piece-requires-clause-filling : goal.store_piece-requires-clause-filling
store_piece-requires-clause-filling c =
    let s = c.args.self.now in
    let v = view c.args.seat.now in
    let piece = c.args.piece.now in
    let f = c.requires.fills in
    let count = c.div_ceil-count.result in
    let ws = c.pack-last.new.words in
    let all : length ws ≡ 64 = c.pack-last.array_long in
    let words : count ≡ (s.bytes % 8 + length piece + 7) / 8 = omega (arith, c.div_ceil-count.ensures) in
    let some = c.requires.piece in
    let few : count ≤ length ws = omega (arith, words, all, some) in
    let size = length-take-le count ws few in
    let held = length_words v.blocks in
    let is = stored_piece v.content piece ws s.last s.bytes (s.bytes + length piece) count f.bytes f.last (omega arith) some.0 words few c.pack-last.ensures.words in
    record {
      serial = s.serial;
      task = f.task;
      some = omega (arith, size, words, some);
      inside = omega (arith, size, words, held, c.requires.few, some);
      reached = omega (arith, f.bytes);
      low = omega (arith, size, words, some);
      high = omega (arith, size, words);
      fits = λ n h. subst (λ l. FitsFill v.seen s.serial (take n l)) (sym is) (c.requires.fits (take n (v.content ++ piece)) (drop n (v.content ++ piece), sym (take-append-drop n (v.content ++ piece))));
    }

pub returns-clause-view : goal.returns-clause-view
returns-clause-view c =
    let s = c.args.self.now in
    let v = view c.args.seat.now in
    let piece = c.args.piece.now in
    let f = c.requires.fills in
    let count = c.div_ceil-count.result in
    let ws = c.pack-last.new.words in
    let all : length ws ≡ 64 = c.pack-last.array_long in
    let words : count ≡ (s.bytes % 8 + length piece + 7) / 8 = omega (arith, c.div_ceil-count.ensures) in
    let some = c.requires.piece in
    let few : count ≤ length ws = omega (arith, words, all, some) in
    c.store_piece.ensures.view ∙ ap (with_content v) (stored_piece v.content piece ws s.last s.bytes (s.bytes + length piece) count f.bytes f.last (omega arith) some.0 words few c.pack-last.ensures.words)

pub returns-clause-fills : goal.returns-clause-fills
returns-clause-fills c =
    let s = c.args.self.now in
    let v = view c.args.seat.now in
    let piece = c.args.piece.now in
    let f = c.requires.fills in
    let count = c.div_ceil-count.result in
    let ws = c.pack-last.new.words in
    let all : length ws ≡ 64 = c.pack-last.array_long in
    let words : count ≡ (s.bytes % 8 + length piece + 7) / 8 = omega (arith, c.div_ceil-count.ensures) in
    let some = c.requires.piece in
    let few : count ≤ length ws = omega (arith, words, all, some) in
    let is = c.store_piece.ensures.view ∙ ap (with_content v) (stored_piece v.content piece ws s.last s.bytes (s.bytes + length piece) count f.bytes f.last (omega arith) some.0 words few c.pack-last.ensures.words) in
    let now = ap (λ w. w.content) is in
    let long = length-append v.content piece in
    record {
      task = ap (λ w. w.task) is ∙ f.task;
      bytes = sym (ap (λ (l : List ℕ). length l) now ∙ (long ∙ ap (λ n. n + length piece) (sym f.bytes)));
      last = next_last v.content piece s.last c.pack-last.result s.bytes (s.bytes + length piece) f.bytes f.last (omega arith) c.pack-last.ensures.last ∙ ap (drop (8 * ((s.bytes + length piece) / 8))) (sym now);
      stored = subst (λ w. s.bytes + length piece ≤ 8 * words_of w.blocks) (sym is) c.requires.few.1;
      limit = f.limit ∙ ap limit_of (sym is);
      within = c.requires.few.0;
      room = subst (λ w. size_of w ≤ 512 * c.store_piece.new.self.ranges.room) (sym is) (subst (λ (r : Ranged). size_of v ≤ 512 * r.room) (sym c.store_piece.ensures.ranges) f.room);
    }
