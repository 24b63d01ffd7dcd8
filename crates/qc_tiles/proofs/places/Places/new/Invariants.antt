use Rattle.std.proofs.Common.{◌≡◌, ℕ, ◌≤◌, [], ◌∷◌, vec_len, vec_capacity}
use Rattle.std.specs.Prelude.{slice_index}
use Rattle.qc_tiles.specs.Tiles.{free_tile}
use Rattle.qc_tiles.specs.Cells.{begun, PlacedFrom}
use Rattle.qc_tiles.proofs.places.Places.new.Given as goal

abbrev pub invariant-loop-n : goal.invariant-loop-n
invariant-loop-n l = record {
  starts : vec_len l.starts ≡ l.n;
  ends : vec_len l.ends ≡ l.n;
  start_room : l.cells ≤ vec_capacity l.starts;
  end_room : l.cells ≤ vec_capacity l.ends;
  begun : begun l.starts.items ≡ free_tile 0 l.words ∷ [];
  placed : PlacedFrom 0 l.starts.items;
  zeros : (k : ℕ) → slice_index l.ends.items k ≡ 0;
}
