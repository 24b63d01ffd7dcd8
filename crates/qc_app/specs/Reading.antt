-- What reading an input gives.
use Rattle.std.specs.Prelude.{◌≡◌, ℕ, ◌<◌, ◌⊎◌, ◌++◌, List, length, Option, Some, None, MatchOption}
use Rattle.qc_types.specs.Streams.{BeginsWith}
use Rattle.qc_model.specs.ScriptLines.{most_script}
use Rattle.qc_app.specs.Top.{ReadsAll}

-- these bytes were read so far
abbrev pub ReadSoFar : Option (List ℕ) → Option (List ℕ) → List ℕ → Type 0
ReadSoFar None now bytes = now ≡ None
ReadSoFar (Some left) now bytes = MatchOption now ⊥ (λ rest. left ≡ bytes ++ rest)

-- all of it was read, or a prefix that is already too long
abbrev pub ReadsEnough : Option (List ℕ) → Option (List ℕ) → List ℕ → Type 0
ReadsEnough None now bytes = now ≡ None
ReadsEnough (Some left) now bytes = ReadsAll (Some left) now bytes ⊎ ((most_script < length bytes) × BeginsWith left bytes)
