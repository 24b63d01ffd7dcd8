-- Numbers that digits spell.
use Rattle.std.proofs.Common.{◌≡◌, ℕ, suc, ◌+◌, ◌-◌, ◌*◌, ◌≤◌, ◌<◌, List, [], ◌∷◌, length, drop, get_or, Some, None, Bool, true, false, cond, refl, sym, ap, ◌∙◌, arith, drop-cons}
use Rattle.std.specs.Prelude.{◌^◌}
use Rattle.std.proofs.lemmas.Bool.{ltb-false, le-ltb}
use Rattle.std.proofs.Math.Dec.{ltb}
use Rattle.qc_sql.specs.Tokens.{number_from}
use Rattle.qc_lex.specs.Fronts.{below_2_to_64}

grows : (n : ℕ) (ds : List ℕ) → n ≤ number_from n ds
grows n [] = omega arith
grows n (d ∷ ds) = omega (arith, grows (10 * n + (d - 48)) ds)

pub next_digit : (value i : ℕ) (digits : List ℕ) → i < length digits → number_from value (drop i digits) ≡ number_from (10 * value + (get_or digits i 0 - 48)) (drop (i + 1) digits)
next_digit value i digits lt =
    let e : i + 1 ≡ suc i = omega arith in
    rw e (ap (number_from value) (drop-cons digits i 0 lt))

below_none : (n : ℕ) → None ≡ below_2_to_64 n → 2 ^ 64 ≤ n
below_none n none = by (ltb n (2 ^ 64)) refl
  where
    by : (t : Bool) → ltb n (2 ^ 64) ≡ t → 2 ^ 64 ≤ n
    by true is =
        let e : None ≡ Some n = none ∙ ap (λ t. cond t (Some n) None) is in
        absurd cc
    by false is = ltb-false n (2 ^ 64) is

pub too_large : (value i : ℕ) (digits : List ℕ) → i < length digits → None ≡ below_2_to_64 (10 * value + (get_or digits i 0 - 48))
    → number_from value (drop i digits) ≡ number_from 0 digits → below_2_to_64 (number_from 0 digits) ≡ None
too_large value i digits lt none so_far =
    let n = 10 * value + (get_or digits i 0 - 48) in
    let e : number_from 0 digits ≡ number_from n (drop (i + 1) digits) = sym so_far ∙ next_digit value i digits lt in
    ap (λ t. cond t (Some (number_from 0 digits)) None) (le-ltb (number_from 0 digits) (2 ^ 64) (omega (arith, e, below_none n none, grows n (drop (i + 1) digits))))
