-- The bits of a mask that are still to come.
use Rattle.std.specs.Prelude.{◌≡◌, ℕ, ◌+◌, ◌*◌, ◌<◌, ◌≤◌, false, ◌==◌, ◌&&◌, nat_le, List, length}
use Rattle.std.specs.Int.{bit_at}
use Rattle.qc_lane.specs.Lanes.{is_set}
use Rattle.qc_lane.specs.declared.bits.SetBits.{SetBits}

-- the bits from one on and before another aren't set
abbrev pub AreClear : List ℕ → ℕ → ℕ → Type 0
AreClear mask from to = (i : ℕ) → from ≤ i → i < to → is_set mask i ≡ false

-- the word has the bits that are still to come of the mask's word of that index, and between these and where they begin none is set
pub record IsAhead (mask : List ℕ) (s : SetBits) : Type 0 where
  pub within : s.index ≤ length mask
  pub word : (j : ℕ) → j < 64 → (bit_at s.word j == 1) ≡ (is_set mask (64 * s.index + j) && nat_le s.from (64 * s.index + j))
  pub near : s.from ≤ 64 * s.index + 64
  pub passed : AreClear mask s.from (64 * s.index)
