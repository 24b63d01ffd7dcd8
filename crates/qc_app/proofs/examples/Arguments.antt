-- What some words ask for.
use Rattle.std.proofs.Common.{◌≡◌, [], ◌∷◌, Some, None, codes, refl}
use Rattle.clap.proofs.OnLiterals.{clap_on_literals}
use Rattle.qc_app.specs.declared.arguments.reading.Asked.TheVariants as ask
use Rattle.qc_app.specs.Arguments.{asked_of, run_options}

run_alone : asked_of (codes "run" ∷ []) ≡ Some (ask.Run (record { size = 1048576; limit = 1048576; unit = 4096; kind = 1 }))
unfolding run_options clap_on_literals
run_alone = refl

without_memory : asked_of (codes "run" ∷ codes "--size" ∷ codes "0" ∷ []) ≡ Some (ask.Run (record { size = 0; limit = 1048576; unit = 4096; kind = 1 }))
unfolding run_options clap_on_literals
without_memory = refl

all_four :
    asked_of (codes "run" ∷ codes "--type" ∷ codes "2" ∷ codes "--unit=513" ∷ codes "--limit" ∷ codes "62" ∷ codes "--size=2047" ∷ codes "--" ∷ [])
    ≡ Some (ask.Run (record { size = 1024; limit = 62; unit = 520; kind = 2 }))
unfolding run_options clap_on_literals
all_four = refl

leading_zeros : asked_of (codes "run" ∷ codes "--limit" ∷ codes "0000000062" ∷ []) ≡ Some (ask.Run (record { size = 1048576; limit = 62; unit = 4096; kind = 1 }))
unfolding run_options clap_on_literals
leading_zeros = refl

eleven_digits : asked_of (codes "run" ∷ codes "--limit" ∷ codes "00000000062" ∷ []) ≡ None
unfolding run_options clap_on_literals
eleven_digits = refl

above_the_range : asked_of (codes "run" ∷ codes "--size" ∷ codes "67108865" ∷ []) ≡ None
unfolding run_options clap_on_literals
above_the_range = refl

plus_sign : asked_of (codes "run" ∷ codes "--size" ∷ codes "+0" ∷ []) ≡ None
unfolding run_options clap_on_literals
plus_sign = refl

no_value : asked_of (codes "run" ∷ codes "--size" ∷ []) ≡ None
unfolding run_options clap_on_literals
no_value = refl

empty_value : asked_of (codes "run" ∷ codes "--size=" ∷ []) ≡ None
unfolding run_options clap_on_literals
empty_value = refl

twice : asked_of (codes "run" ∷ codes "--size" ∷ codes "0" ∷ codes "--size" ∷ codes "0" ∷ []) ≡ None
unfolding run_options clap_on_literals
twice = refl

word_behind : asked_of (codes "run" ∷ codes "--size" ∷ codes "0" ∷ codes "0" ∷ []) ≡ None
unfolding run_options clap_on_literals
word_behind = refl

abbreviation : asked_of (codes "run" ∷ codes "--siz" ∷ codes "0" ∷ []) ≡ None
unfolding run_options clap_on_literals
abbreviation = refl

help_word : asked_of (codes "run" ∷ codes "--help" ∷ []) ≡ None
unfolding run_options clap_on_literals
help_word = refl

short_help : asked_of (codes "run" ∷ codes "-h" ∷ []) ≡ None
unfolding run_options clap_on_literals
short_help = refl

version_word : asked_of (codes "run" ∷ codes "--version" ∷ []) ≡ None
unfolding run_options clap_on_literals
version_word = refl

no_words : asked_of [] ≡ None
no_words = refl

other_word : asked_of (codes "help" ∷ []) ≡ None
other_word = refl

-- ---- workloads

workload : asked_of (codes "workload" ∷ codes "1" ∷ []) ≡ Some (ask.Workload 1)
workload = refl

greatest_number : asked_of (codes "workload" ∷ codes "4294967295" ∷ []) ≡ Some (ask.Workload 4294967295)
greatest_number = refl

number_too_great : asked_of (codes "workload" ∷ codes "4294967296" ∷ []) ≡ None
number_too_great = refl

ten_digits : asked_of (codes "workload" ∷ codes "0000000007" ∷ []) ≡ Some (ask.Workload 7)
ten_digits = refl

one_digit_more : asked_of (codes "workload" ∷ codes "00000000007" ∷ []) ≡ None
one_digit_more = refl

no_number : asked_of (codes "workload" ∷ []) ≡ None
no_number = refl

empty_number : asked_of (codes "workload" ∷ [] ∷ []) ≡ None
empty_number = refl

signed_number : asked_of (codes "workload" ∷ codes "+1" ∷ []) ≡ None
signed_number = refl

two_numbers : asked_of (codes "workload" ∷ codes "1" ∷ codes "2" ∷ []) ≡ None
two_numbers = refl

option_of_a_run : asked_of (codes "workload" ∷ codes "1" ∷ codes "--size" ∷ codes "0" ∷ []) ≡ None
option_of_a_run = refl
