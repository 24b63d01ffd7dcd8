-- A log, whose first word is the number of its entries.
use Rattle.std.specs.Prelude.{◌≡◌, ℕ, List, length, slice_index}

abbrev pub IsCounted : {E : Type 0} → List ℕ → List E → Type 0
IsCounted words entries = (length words ≡ 4) × (slice_index words 0 ≡ length entries)
