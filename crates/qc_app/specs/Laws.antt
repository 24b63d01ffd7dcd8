-- What holds of all options that words may give.
use Rattle.std.specs.Prelude.{◌≡◌, ◌≤◌, ◌⊎◌, ◌%◌, List, Some}
use Rattle.clap.specs.Words.{Text}
use Rattle.qc_types.specs.declared.options.Options.{Options}
use Rattle.qc_app.specs.declared.arguments.reading.Asked.{Asked}
use Rattle.qc_app.specs.Arguments.{asked_of, options_asked}

-- rounded, and in their ranges
pub record AreRounded (options : Options) : Type 0 where
  pub size : options.size % 1024 ≡ 0
  pub size_most : options.size ≤ 67108864
  pub limit_most : options.limit ≤ 67108864
  pub unit : options.unit % 8 ≡ 0
  pub unit_least : 512 ≤ options.unit
  pub unit_most : options.unit ≤ 1048576
  pub kind_most : options.kind ≤ 2
  -- there is no memory, or 1024 bytes at least
  pub room : (options.size ≡ 0) ⊎ (1024 ≤ options.size)

-- The options of what words ask for are rounded and in their ranges.
abbrev pub AreRoundedOptions : Type 0
AreRoundedOptions = (words : List Text) (asked : Asked) → asked_of words ≡ Some asked → AreRounded (options_asked asked)
