-- The walk to the lowest block that may move.
use Rattle.std.proofs.Common.{subst, ◌≡◌, ℕ, ◌+◌, ◌<◌, ◌≤◌, true, false, List, [], ◌∷◌, length, refl, sym, ap, ◌∙◌, arith, Some, None}
use Rattle.std.specs.Prelude.{◌==◌}
use Rattle.std.proofs.lemmas.Bool.Decides.{nat_tests}
use Rattle.qc_tiles.specs.declared.blocks.Tile.{Tile}
use Rattle.qc_tiles.specs.Tiles.{CoversFrom, IsTiling, may_move, movable}
use Rattle.qc_tiles.specs.Kept.{tile_at, IsMovable}
use Rattle.qc_tiles.specs.Cells.{IsAt, block_at}
use Rattle.qc_tiles.specs.Ready.{NoneBelow, IsPassed}
use Rattle.qc_tiles.proofs.Tilings.{AreLarge}
use Rattle.qc_tiles.proofs.Walks.{none_moves}
use Rattle.qc_tiles.proofs.Standing.{place_bounds, large_at}
use Rattle.qc_tiles.proofs.PlaceSteps.{covers_from}
use Rattle.qc_tiles.proofs.PlaceCuts.{next_first}
use Rattle.qc_tiles.proofs.PlaceReads.{block_at_some}
use Rattle.qc_tiles.proofs.SettleSteps.{rises, next_none, next_some}
use Rattle.qc_tiles.proofs.Quiet.{quiet_at, quiet_from}

rises_more : (words : ℕ) (ts : List Tile) (j k : ℕ) → CoversFrom 0 words ts → AreLarge ts → j < k → k < length ts → (tile_at ts j).first < (tile_at ts k).first
rises_more words ts j k h large less within =
    omega (arith, next_first 0 words ts j h (omega arith), rises 0 words ts (j + 1) k h large (omega arith) within, large_at ts j large (omega arith))

-- the walk may begin at a block below which none may move
pub starts : (words from : ℕ) (ts : List Tile) (t : Tile) → IsTiling words ts → NoneBelow from ts → block_at from ts ≡ Some t → (k : ℕ) × IsPassed ts k t
starts words from ts t h quiet some =
    let one = block_at_some from ts t some in
    let place : (tile_at ts one.0).first ≡ from = ap (λ (u : Tile). u.first) one.2 ∙ one.3 in (
      one.0,
      record {
        within = one.1;
        is = one.2;
        none = λ j below. quiet_at from ts j quiet (omega (arith, below, one.1)) (omega (arith, rises_more words ts j one.0 h.covers h.large below one.1, place));
      },
    )

pub quiet_at_0 : (words : ℕ) (ts : List Tile) → IsTiling words ts → NoneBelow 0 ts
quiet_at_0 words ts h = quiet_from 0 ts (covers_from 0 words 0 ts h.covers (omega arith))

same_test : (m n : ℕ) → m ≡ n → (m == n) ≡ true
same_test m n h = grind (arith, nat_tests)

pub nothing_at_0 : (words : ℕ) (ts : List Tile) → CoversFrom 0 words ts → block_at 0 ts ≡ None → movable ts ≡ None
nothing_at_0 words [] h none = refl
nothing_at_0 words (t ∷ ts) h none = absurd (cc (sym (found (same_test t.first 0 h.0)) ∙ none))
  where
    found : (t.first == 0) ≡ true → block_at 0 (t ∷ ts) ≡ Some t
    found e = rw e refl

passed_at : (ts : List Tile) (k : ℕ) (t : Tile) → IsPassed ts k t → IsAt ts k t.first t.words
passed_at ts k t h = record { within = h.within; first = ap (λ (u : Tile). u.first) h.is; words = ap (λ (u : Tile). u.words) h.is }

-- one block further
pub passes : (words : ℕ) (ts : List Tile) (k : ℕ) (t u : Tile) → IsTiling words ts → IsPassed ts k t → block_at (t.first + t.words) ts ≡ Some u → may_move t u ≡ false → IsPassed ts (k + 1) u
passes words ts k t u h p some stays =
    let one = next_some words ts k t.first t.words u h.covers h.large (passed_at ts k t p) some in
    record { within = one.0; is = one.1; none = λ j below. by j below }
  where
    here : may_move (tile_at ts k) (tile_at ts (k + 1)) ≡ false
    here =
        let one = next_some words ts k t.first t.words u h.covers h.large (passed_at ts k t p) some in
        ap (λ (x : Tile). may_move x (tile_at ts (k + 1))) p.is ∙ (ap (may_move t) one.1 ∙ stays)

    by : (j : ℕ) → j < k + 1 → may_move (tile_at ts j) (tile_at ts (j + 1)) ≡ false
    by j below =
        elim (j == k) as (λ v. (j == k) ≡ v → may_move (tile_at ts j) (tile_at ts (j + 1)) ≡ false) [
          | true ↦ λ e. subst (λ (n : ℕ). may_move (tile_at ts n) (tile_at ts (n + 1)) ≡ false) (sym (number e)) here
          | false ↦ λ e. p.none j (other e)
        ] refl
      where
        number : (j == k) ≡ true → j ≡ k
        number e = grind (arith, nat_tests)

        other : (j == k) ≡ false → j < k
        other e = grind (arith, nat_tests)

pub finds : (words : ℕ) (ts : List Tile) (k : ℕ) (t u : Tile) → IsTiling words ts → IsPassed ts k t → block_at (t.first + t.words) ts ≡ Some u → may_move t u ≡ true → IsMovable ts k × (tile_at ts k ≡ t) × (tile_at ts (k + 1) ≡ u)
finds words ts k t u h p some moves =
    let one = next_some words ts k t.first t.words u h.covers h.large (passed_at ts k t p) some in
    (record { within = one.0; moves = ap (λ (x : Tile). may_move x (tile_at ts (k + 1))) p.is ∙ (ap (may_move t) one.1 ∙ moves); lowest = p.none }, p.is, one.1)

pub ends : (words : ℕ) (ts : List Tile) (k : ℕ) (t : Tile) → IsTiling words ts → IsPassed ts k t → block_at (t.first + t.words) ts ≡ None → movable ts ≡ None
ends words ts k t h p none =
    let short = next_none words ts k t.first t.words h.covers h.large (passed_at ts k t p) none in
    none_moves ts (λ j within. p.none j (omega (arith, short, within)))

-- the walk goes up
pub goes_up : (words : ℕ) (ts : List Tile) (k : ℕ) (t u : Tile) → IsTiling words ts → IsPassed ts k t → block_at (t.first + t.words) ts ≡ Some u → (t.first < u.first) × (u.first < words)
goes_up words ts k t u h p some =
    let one = next_some words ts k t.first t.words u h.covers h.large (passed_at ts k t p) some in
    let near = next_first 0 words ts k h.covers one.0 in
    let first = ap (λ (x : Tile). x.first) one.1 in
    let large = large_at ts (k + 1) h.large one.0 in
    (omega (arith, near, first, large_at ts k h.large p.within, ap (λ (x : Tile). x.first) p.is), omega (arith, first, large, (place_bounds 0 words ts (k + 1) h.covers one.0).1))

pub passed_fits : (words : ℕ) (ts : List Tile) (k : ℕ) (t : Tile) → IsTiling words ts → IsPassed ts k t → t.first + t.words ≤ words
passed_fits words ts k t h p = omega (arith, (place_bounds 0 words ts k h.covers p.within).1, ap (λ (x : Tile). x.first) p.is, ap (λ (x : Tile). x.words) p.is)
