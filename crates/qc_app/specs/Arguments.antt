-- The words of the command line.
use Rattle.std.specs.Prelude.{ℕ, ◌+◌, ◌*◌, ◌/◌, ◌&&◌, Bool, false, List, [], ◌∷◌, Option, Some, None, length, nat_le, bytes_eq, codes, if◌then◌else◌, option_and_then, option_map}
use Rattle.std.specs.List.{list_all}
use Rattle.std.specs.Char.{is_ascii_digit}
use Rattle.std.specs.Str.Parse.{digits_value}
use Rattle.clap.specs.Words.{App, Row, Rule, Text, first_of, matches_of, new_app, new_rule, takes, with_rule}
use Rattle.clap.specs.declared.builder.action.ArgAction.TheVariants.{Set}
use Rattle.qc_types.specs.declared.options.Options.{Options}
use Rattle.qc_app.specs.declared.arguments.reading.Asked.{Asked}
use Rattle.qc_app.specs.declared.arguments.reading.Asked.TheVariants as ask

-- an option that sets one value and isn't required
abbrev pub option_rule : Text → Rule
option_rule name = record (new_rule name) { long = Some name; action = Some Set }

-- the command of which clap takes the words behind `run`
abbrev pub run_command : App
run_command =
    with_rule (with_rule (with_rule (with_rule (new_app (codes "run")) (option_rule (codes "size"))) (option_rule (codes "limit"))) (option_rule (codes "unit")))
    (option_rule (codes "type"))

-- 1 to 10 ASCII digits
abbrev pub is_number : Text → Bool
is_number text = nat_le 1 (length text) && (nat_le (length text) 10 && list_all is_ascii_digit text)

-- the number from low to high that the text writes
abbrev pub number_in : ℕ → ℕ → Text → Option ℕ
number_in low high text =
    if is_number text && (nat_le low (digits_value 10 text) && nat_le (digits_value 10 text) high) then Some (digits_value 10 text) else None

-- the number of an option's value, or the default where the option isn't there
abbrev pub number_or : ℕ → ℕ → ℕ → Option Text → Option ℕ
number_or default low high (Some text) = number_in low high text
number_or default low high None = Some default

abbrev pub option_in : Text → ℕ → ℕ → ℕ → List Row → Option ℕ
option_in name default low high rows = number_or default low high (first_of name rows)

-- the size is rounded down to a multiple of 1024, and the unit up to one of 8
abbrev pub rounded : ℕ → ℕ → ℕ → ℕ → Options
rounded size limit unit kind = record { size = size / 1024 * 1024; limit = limit; unit = (unit + 7) / 8 * 8; kind = kind }

-- the options that clap's matches give, where each value is a number in its range
abbrev pub options_in : List Row → Option Options
options_in rows =
    option_and_then (λ size. option_and_then (λ limit. option_and_then (λ unit. option_map (λ kind. rounded size limit unit kind)
    (option_in (codes "type") 1 0 2 rows))
    (option_in (codes "unit") 4096 512 1048576 rows))
    (option_in (codes "limit") 1048576 0 67108864 rows))
    (option_in (codes "size") 1048576 0 67108864 rows)

-- the options of words that begin with `run`, where clap takes those behind it
unfoldable pub run_options : List Text → Option Options
run_options words = if takes run_command words then options_in (matches_of run_command words) else None

abbrev pub begins_with_run : List Text → Bool
begins_with_run [] = false
begins_with_run (first ∷ rest) = bytes_eq first (codes "run")

-- the number of words that begin with `workload`, where one word more is there, with a number below 2^32
abbrev pub workload_number : List Text → Option ℕ
workload_number (first ∷ number ∷ []) = number_in 0 4294967295 number
workload_number _ = None

-- what the words behind the program's name ask for, or nothing where these aren't in the form
abbrev pub asked_of : List Text → Option Asked
asked_of [] = None
asked_of (first ∷ rest) =
    if bytes_eq first (codes "run") then option_map ask.Run (run_options (first ∷ rest)) else
    if bytes_eq first (codes "workload") then option_map ask.Workload (workload_number (first ∷ rest)) else None

-- the options without any words
abbrev pub default_options : Options
default_options = record { size = 1048576; limit = 1048576; unit = 4096; kind = 1 }

-- the options of what is asked for
abbrev pub options_asked : Asked → Options
options_asked (ask.Run options) = options
options_asked (ask.Workload number) = default_options
