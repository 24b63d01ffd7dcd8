-- A decimal text is short: it has at most 64 digits.
use Rattle.std.proofs.Common.{ℕ, zero, suc, ◌+◌, ◌/◌, ◌%◌, ◌≤◌, Bool, true, false, cond, List, [], ◌∷◌, length, arith}
use Rattle.std.specs.Prelude.{◌==◌, ℤ, pos, negsuc}
use Rattle.std.specs.Fmt.{digits, digits_onto, digit_glyph, decimal, signed_decimal}

digits_few : (k n : ℕ) (rest : List ℕ) → length (digits_onto k 10 false n rest) ≤ k + length rest
digits_few zero n rest = omega arith
digits_few (suc k) n rest = by (n / 10 == 0) (digits_few k (n / 10) (digit_glyph false (n % 10) ∷ rest))
  where
    by : (b : Bool) → length (digits_onto k 10 false (n / 10) (digit_glyph false (n % 10) ∷ rest)) ≤ k + suc (length rest)
        → length (cond b (digit_glyph false (n % 10) ∷ rest) (digits_onto k 10 false (n / 10) (digit_glyph false (n % 10) ∷ rest))) ≤ suc k + length rest
    by true h = omega arith
    by false h = omega arith

pub decimal_few : (n : ℕ) → length (decimal n) ≤ 64
unfolding digits
decimal_few n = omega (arith, digits_few 64 n [])

pub signed_few : (n : ℤ) → length (signed_decimal n) ≤ 65
signed_few (pos n) = omega (arith, decimal_few n)
signed_few (negsuc n) = omega (arith, decimal_few (suc n))
