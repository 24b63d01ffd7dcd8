-- The session that fills an entry.
use Rattle.std.specs.Prelude.{◌≡◌, ℕ, false, true}
use Rattle.std.specs.List.{AllByRecursion}
use Rattle.qc_types.specs.declared.options.Options.{Options}
use Rattle.qc_model.specs.Journal.{Journal, last_event}
use Rattle.qc_model.specs.Cache.{Entry, cache}
use Rattle.qc_model.specs.Licence.{IsLawful, starts_serial}

-- where an entry isn't complete, its start is the last event of a session
abbrev pub IsFilled : Journal → Entry → Type 0
IsFilled j entry = entry.complete ≡ false → (session : ℕ) × (starts_serial entry.serial (last_event j session) ≡ true)

abbrev pub FillsAreLast : Type 0
FillsAreLast = (options : Options) (j : Journal) → IsLawful options j → AllByRecursion (IsFilled j) (cache j)
