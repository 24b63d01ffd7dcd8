-- The key of a text is little longer than the text.
use Rattle.std.proofs.Common.{◌≡◌, ℕ, ◌^◌, ◌<◌, ◌≤◌, Bool, true, false, cond, List, [], ◌∷◌, ◌++◌, length, reverse, arith, length-append, refl}
use Rattle.std.specs.Prelude.{nat_le, ◌&&◌, ◌||◌, ◌==◌}
use Rattle.std.proofs.lemmas.Bool.Decides.{nat_tests}
use Rattle.std.proofs.lemmas.List.{length-reverse}
use Rattle.qc_sql.specs.declared.session.Flags.{Flags}
use Rattle.qc_sql.specs.Keys.{flag_bytes}
use Rattle.qc_sql.specs.Tokens.{is_space, is_trailing, trimmed, without_front}
use Rattle.qc_model.specs.Licence.{words_of_bytes}
use Rattle.qc_model.specs.Session.{State, flags_of, key_of_text}
use Rattle.qc_laws.specs.history.Answers.{CanBeKeyed}

-- ---- a trimmed text

front_below : (test : ℕ → Bool) (text : List ℕ) → length (without_front test text) ≤ length text
front_below test [] = omega arith
front_below test (b ∷ bs) = by (test b) (front_below test bs)
  where
    by : (c : Bool) → length (without_front test bs) ≤ length bs → length (cond c (without_front test bs) (b ∷ bs)) ≤ length (b ∷ bs)
    by true h = omega (arith, h)
    by false h = omega arith

trimmed_below : (text : List ℕ) → length (trimmed text) ≤ length text
unfolding trimmed
trimmed_below text =
    let front = without_front is_space text in
    let back = without_front is_trailing (reverse front) in
    omega (arith, front_below is_space text, front_below is_trailing (reverse front), length-reverse front, length-reverse back)

-- ---- its key

flags_length : (f : Flags) → length (flag_bytes f) ≡ 15
flags_length f = refl

first_of : (a b c d : Bool) → (a && b && c && d) ≡ true → a ≡ true
first_of true b c d h = refl
first_of false b c d h = h

short_name : (s : State) → CanBeKeyed s → length s.db ≤ 64
short_name s keyed =
    let f = flags_of s in
    let some : nat_le (length s.db) 64 ≡ true = first_of (nat_le (length s.db) 64) (f.charset == 33 || f.charset == 45) (f.protocol_form == 0) (f.row_form == 0) keyed.values in
    grind (arith, nat_tests)

pub key_short : (s : State) (text : List ℕ) → CanBeKeyed s → length text < 2 ^ 32 → words_of_bytes (length (key_of_text s text)) < 2 ^ 32
key_short s text keyed short =
    let front = length-append (s.db ++ flag_bytes (flags_of s)) (trimmed text) in
    let name = length-append s.db (flag_bytes (flags_of s)) in
    omega (arith, front, name, flags_length (flags_of s), short_name s keyed, trimmed_below text, short)
