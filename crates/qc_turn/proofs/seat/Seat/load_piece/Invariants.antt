use Rattle.std.proofs.Common.{◌≡◌, ◌<◌, ◌≤◌, ◌+◌, ℕ, length, slice_index}
use Rattle.qc_turn.specs.Blocks.{places}
use Rattle.qc_turn.specs.Seats.{view, IsSeatOf}
use Rattle.qc_turn.proofs.seat.Seat.load_piece.Given as goal

abbrev pub invariant-loop-at : goal.invariant-loop-at
invariant-loop-at g l = record {
  seated : IsSeatOf l.turn l.self;
  same : view l.self ≡ view l.initial.self;
  ranges : l.self.ranges ≡ l.initial.self.ranges;
  long : length l.out ≡ length l.initial.out;
  inside : 0 < l.run.words → l.index + l.at + l.run.words ≤ length (places (view l.initial.self).blocks);
  places : (k : ℕ) → k < l.run.words → slice_index (places (view l.initial.self).blocks) (l.index + l.at + k) ≡ l.run.first + k;
  words : (k : ℕ) → k < l.at → slice_index l.out k ≡ slice_index (view l.initial.self).content (l.index + k);
}
