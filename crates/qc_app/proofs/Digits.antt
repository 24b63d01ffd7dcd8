-- Numbers that digits write.
use Rattle.std.proofs.Common.{◌≡◌, ℕ, ◌^◌, ◌≤◌, ◌<◌, ◌&&◌, Bool, true, false, cond, List, length, nat_le, Some, None, OkIff, sym, ap, subst, refl, rules, arith}
use Rattle.std.specs.List.{list_all}
use Rattle.std.specs.Char.{is_ascii_digit}
use Rattle.std.specs.Str.Parse.{ParsesUnsigned, digits_value}
use Rattle.std.specs.Prelude.{Result, Err}
use Rattle.std.proofs.lemmas.Bool.{and_parts, leb-true}
use Rattle.std.proofs.lemmas.Str.Parse.{IsNumeralModel, numerals_by_value, parse_digits}
use Rattle.qc_app.specs.Arguments.{is_number, number_in}

own : IsNumeralModel (λ ds. list_all is_ascii_digit ds ≡ true) (digits_value 10)
own = numerals_by_value _ (search rules)

-- short digits that aren't read write no number, or one above the range
pub unread_digits : {E : Type 0} (low high : ℕ) (text : List ℕ) (r : Result ℕ E) (e : E) → length text ≤ 10 → list_all is_ascii_digit text ≡ true → high < 2 ^ 32
    → ParsesUnsigned 32 10 text r → r ≡ Err e → None ≡ number_in low high text
unread_digits {E} low high text r e few digits fits h is = go (is_number text && (nat_le low n && nat_le n high)) refl
  where
    n : ℕ
    n = digits_value 10 text

    unread : ¬ ((0 < length text) × (n < 2 ^ 32))
    unread = subst (λ x. OkIff x ((0 < length text) × (n < 2 ^ 32)) n) is (parse_digits own {E = E} 32 text r h digits)

    go : (b : Bool) → (is_number text && (nat_le low n && nat_le n high)) ≡ b → None ≡ number_in low high text
    go false isnt = sym (ap (λ b. cond b (Some n) None) isnt)
    go true whole =
        let parts = and_parts (is_number text) (nat_le low n && nat_le n high) whole in
        let long = leb-true 1 (length text) (and_parts (nat_le 1 (length text)) (nat_le (length text) 10 && list_all is_ascii_digit text) parts.0).0 in
        let most = leb-true n high (and_parts (nat_le low n) (nat_le n high) parts.1).1 in
        absurd (unread (long, omega (arith, most, fits)))
