use Rattle.std.proofs.Common.{◌≡◌, ◌<◌, ◌≤◌, ◌+◌, ◌*◌, ℕ, length, min, slice_index}
use Rattle.qc_turn.proofs.Pieces.{after}
use Rattle.qc_turn.specs.Blocks.{places}
use Rattle.qc_turn.specs.Seats.{view, IsSeatOf}
use Rattle.qc_turn.specs.Views.{with_content}
use Rattle.qc_turn.proofs.seat.Seat.store_piece.Given as goal

abbrev pub ghosts-store_place : goal.ghosts-store_place
ghosts-store_place g a = record { index = a.index; count = min (8 * a.index + 8) a.bytes }

abbrev pub invariant-loop-at : goal.invariant-loop-at
invariant-loop-at g l = record {
  seated : IsSeatOf l.turn l.self;
  same : view l.self ≡ with_content (view l.initial.self) (after (view l.initial.self).content l.index l.values l.bytes l.at);
  ranges : l.self.ranges ≡ l.initial.self.ranges;
  inside : 0 < l.run.words → l.index + l.at + l.run.words ≤ length (places (view l.initial.self).blocks);
  places : (k : ℕ) → k < l.run.words → slice_index (places (view l.initial.self).blocks) (l.index + l.at + k) ≡ l.run.first + k;
}
