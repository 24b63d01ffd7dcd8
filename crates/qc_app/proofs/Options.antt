-- From the matches to the options.
use Rattle.std.proofs.Common.{◌≡◌, ◌∙◌, ℕ, Bool, true, false, cond, List, [], Option, None, sym, ap, subst, refl}
use Rattle.clap.specs.Words.{App, HasMatchesOf, Text, fault_of, first_value, found_of, is_simple_and_free, kind_of, matches_of, rows_of, takes}
use Rattle.clap.specs.declared.error.Error.{Error}
use Rattle.clap.specs.declared.error.kind.ErrorKind.TheVariants.{OutOfMemory}
use Rattle.clap.specs.declared.parser.matches.ArgMatches.{ArgMatches}
use Rattle.clap.specs.declared.parser.matches.Found.{Found}
use Rattle.clap.proofs.WalkLemmas.{first_value-rows}
use Rattle.qc_types.specs.declared.options.Options.{Options}
use Rattle.qc_app.specs.Arguments.{number_or, option_in, options_in, run_command, run_options}
use Rattle.qc_app.proofs.Taken.{run_takes}

pub option_read : (f : Found) (name : Text) (default low high : ℕ) (value : Option Text) (n : Option ℕ) → value ≡ first_value f name
    → n ≡ number_or default low high value → n ≡ option_in name default low high (rows_of f)
option_read f name default low high value n read is = is ∙ ap (number_or default low high) (read ∙ first_value-rows f name)

-- where a parse gives matches, the options are theirs
pub taken_words : (a : App) (words : List Text) (m : ArgMatches) (options : Option Options) → a ≡ run_command → HasMatchesOf a words m
    → (is_simple_and_free a ≡ true → fault_of a words ≡ []) → options ≡ options_in (rows_of (found_of m)) → options ≡ run_options words
unfolding run_options
taken_words a words m options is matches kinds given =
    let none : fault_of run_command words ≡ [] = subst (λ b. is_simple_and_free b ≡ true → fault_of b words ≡ []) is kinds refl in
    let rows : rows_of (found_of m) ≡ matches_of run_command words = (subst (λ b. HasMatchesOf b words m) is matches refl).0 in
    given ∙ (ap options_in rows ∙ sym (ap (λ b. cond b (options_in (matches_of run_command words)) None) (run_takes words none)))

-- where a parse fails, and not for memory, there are none
pub refused_words : (a : App) (words : List Text) (e : Error) → a ≡ run_command → (takes a words ≡ true → kind_of e ≡ OutOfMemory)
    → (kind_of e ≡ OutOfMemory → ⊥) → None ≡ run_options words
unfolding run_options
refused_words a words e is passes other = go (takes run_command words) refl
  where
    go : (b : Bool) → takes run_command words ≡ b → None ≡ cond (takes run_command words) (options_in (matches_of run_command words)) None
    go false isnt = sym (ap (λ b. cond b (options_in (matches_of run_command words)) None) isnt)
    go true taken = absurd (other (passes (ap (λ b. takes b words) is ∙ taken)))
