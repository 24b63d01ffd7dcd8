-- The options of what words ask for are rounded and in their ranges.
use Rattle.std.proofs.Common.{◌≡◌, ◌⊎◌, ℕ, zero, suc, ◌*◌, ◌/◌, ◌≤◌, ◌&&◌, nat_le, Bool, true, false, cond, List, [], ◌∷◌, Option, Some, None, subst, inl, inr, arith, refl, option_and_then, option_map}
use Rattle.std.specs.Prelude.{codes, bytes_eq}
use Rattle.std.specs.Str.Parse.{digits_value}
use Rattle.std.proofs.lemmas.Bool.{and_parts, leb-true}
use Rattle.std.proofs.lemmas.Option.{cond_some, none-some, same_Some}
use Rattle.clap.specs.Words.{Row, Text, first_of, matches_of, takes}
use Rattle.qc_types.specs.declared.options.Options.{Options}
use Rattle.qc_app.specs.declared.arguments.reading.Asked.{Asked}
use Rattle.qc_app.specs.declared.arguments.reading.Asked.TheVariants as ask
use Rattle.qc_app.specs.Arguments.{default_options, is_number, number_or, option_in, options_asked, options_in, rounded, run_command, run_options, workload_number}
use Rattle.qc_app.specs.Laws.{AreRounded, AreRoundedOptions}

-- each number lies in its range
in_range : (default low high : ℕ) (value : Option Text) (n : ℕ) → low ≤ default → default ≤ high → number_or default low high value ≡ Some n → (low ≤ n) × (n ≤ high)
in_range default low high None n above below e =
    let is = same_Some default n e in
    (omega (arith, above, is), omega (arith, below, is))
in_range default low high (Some text) n above below e =
    let found = cond_some (is_number text && (nat_le low (digits_value 10 text) && nat_le (digits_value 10 text) high)) (digits_value 10 text) n e in
    let inside = (and_parts (is_number text) (nat_le low (digits_value 10 text) && nat_le (digits_value 10 text) high) found.0).1 in
    let ends = and_parts (nat_le low (digits_value 10 text)) (nat_le (digits_value 10 text) high) inside in
    let least = leb-true low (digits_value 10 text) ends.0 in
    let most = leb-true (digits_value 10 text) high ends.1 in
    (omega (arith, least, found.1), omega (arith, most, found.1))

room_of : (k : ℕ) → (k * 1024 ≡ 0) ⊎ (1024 ≤ k * 1024)
room_of zero = inl refl
room_of (suc k) = inr (omega arith)

rounds : (size limit unit kind : ℕ) → size ≤ 67108864 → limit ≤ 67108864 → 512 ≤ unit → unit ≤ 1048576 → kind ≤ 2 → AreRounded (rounded size limit unit kind)
rounds size limit unit kind s l least most k = record {
  size = omega arith;
  size_most = omega (arith, s);
  limit_most = l;
  unit = omega arith;
  unit_least = omega (arith, least);
  unit_most = omega (arith, most);
  kind_most = k;
  room = room_of (size / 1024);
}

-- the four numbers, one after another
abbrev together : Option ℕ → Option ℕ → Option ℕ → Option ℕ → Option Options
together size limit unit kind =
    option_and_then (λ size. option_and_then (λ limit. option_and_then (λ unit. option_map (λ kind. rounded size limit unit kind) kind) unit) limit) size

all_found : (size limit unit kind : Option ℕ) (options : Options) → ((n : ℕ) → size ≡ Some n → n ≤ 67108864) → ((n : ℕ) → limit ≡ Some n → n ≤ 67108864)
    → ((n : ℕ) → unit ≡ Some n → (512 ≤ n) × (n ≤ 1048576)) → ((n : ℕ) → kind ≡ Some n → n ≤ 2) → together size limit unit kind ≡ Some options → AreRounded options
all_found (Some size) (Some limit) (Some unit) (Some kind) options s l u k e =
    subst AreRounded (same_Some (rounded size limit unit kind) options e)
    (rounds size limit unit kind (s size refl) (l limit refl) (u unit refl).0 (u unit refl).1 (k kind refl))
all_found (Some size) (Some limit) (Some unit) None options s l u k e = absurd (none-some options e)
all_found (Some size) (Some limit) None kind options s l u k e = absurd (none-some options e)
all_found (Some size) None unit kind options s l u k e = absurd (none-some options e)
all_found None limit unit kind options s l u k e = absurd (none-some options e)

rows_rounded : (rows : List Row) (options : Options) → options_in rows ≡ Some options → AreRounded options
rows_rounded rows options e =
    all_found (option_in (codes "size") 1048576 0 67108864 rows) (option_in (codes "limit") 1048576 0 67108864 rows) (option_in (codes "unit") 4096 512 1048576 rows)
    (option_in (codes "type") 1 0 2 rows) options (λ n e. (in_range 1048576 0 67108864 (first_of (codes "size") rows) n (omega arith) (omega arith) e).1)
    (λ n e. (in_range 1048576 0 67108864 (first_of (codes "limit") rows) n (omega arith) (omega arith) e).1)
    (λ n e. in_range 4096 512 1048576 (first_of (codes "unit") rows) n (omega arith) (omega arith) e)
    (λ n e. (in_range 1 0 2 (first_of (codes "type") rows) n (omega arith) (omega arith) e).1) e

run_rounded : (words : List Text) (options : Options) → run_options words ≡ Some options → AreRounded options
unfolding run_options
run_rounded words options e = taken (takes run_command words) e
  where
    taken : (b : Bool) → cond b (options_in (matches_of run_command words)) None ≡ Some options → AreRounded options
    taken true e = rows_rounded (matches_of run_command words) options e
    taken false e = absurd (none-some options e)

without_words : AreRounded default_options
without_words = record { size = refl; size_most = omega arith; limit_most = omega arith; unit = refl; unit_least = omega arith; unit_most = omega arith; kind_most = omega arith; room = inr (omega arith) }

pub options_are_rounded : AreRoundedOptions
options_are_rounded [] asked e = absurd (none-some asked e)
options_are_rounded (first ∷ rest) asked e = run (bytes_eq first (codes "run")) e
  where
    options : (o : Option Options) → run_options (first ∷ rest) ≡ o → option_map ask.Run o ≡ Some asked → AreRounded (options_asked asked)
    options None is e = absurd (none-some asked e)
    options (Some o) is e = subst (λ a. AreRounded (options_asked a)) (same_Some (ask.Run o) asked e) (run_rounded (first ∷ rest) o is)

    number : (o : Option ℕ) → option_map ask.Workload o ≡ Some asked → AreRounded (options_asked asked)
    number None e = absurd (none-some asked e)
    number (Some n) e = subst (λ a. AreRounded (options_asked a)) (same_Some (ask.Workload n) asked e) without_words

    workload : (b : Bool) → cond b (option_map ask.Workload (workload_number (first ∷ rest))) None ≡ Some asked → AreRounded (options_asked asked)
    workload true e = number (workload_number (first ∷ rest)) e
    workload false e = absurd (none-some asked e)

    run : (b : Bool) → cond b (option_map ask.Run (run_options (first ∷ rest))) (cond (bytes_eq first (codes "workload")) (option_map ask.Workload (workload_number (first ∷ rest))) None) ≡ Some asked
        → AreRounded (options_asked asked)
    run true e = options (run_options (first ∷ rest)) refl e
    run false e = workload (bytes_eq first (codes "workload")) e
