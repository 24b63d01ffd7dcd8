-- Numbers and bytes, read from how they are written.
use Rattle.std.proofs.Common.{◌≡◌, ℕ, zero, suc, ◌+◌, ◌-◌, ◌/◌, ◌%◌, ◌^◌, ◌<◌, Bool, true, false, [], ◌∷◌, length, Result, Ok, Err, refl, sym, ap, subst, ◌∙◌, arith, inl, inr, get_or}
use Rattle.std.specs.Prelude.{◌&&◌, ◌==◌, nat_lt, bytes_eq, codes, decimal, ℤ, pos, negsuc, slice_index}
use Rattle.std.specs.Fmt.{signed_decimal, digit_glyph}
use Rattle.std.specs.Str.{IsUtf8}
use Rattle.std.specs.Str.Parse.{digits_value, ParsesUnsigned, ParsesSigned}
use Rattle.std.specs.Int.{w64}
use Rattle.std.specs.Int.RustNames.{FitsSigned}
use Rattle.std.proofs.lemmas.Bool.{cases_lt, and_parts, lt-ltb, ltb-true, ne_eqb, false_from_ne_true, eqb-true}
use Rattle.std.proofs.lemmas.Fmt.{decimal_is_IsNumeral, parse-decimal, parse-signed_decimal, IsAscii-decimal, IsAscii-signed, decimal_digit, decimal_nonempty, first_decimal}
use Rattle.std.proofs.lemmas.Slice.Eq.{bytes_eq-Decides}
use Rattle.std.proofs.lemmas.Str.{IsUtf8-from_ascii}
use lib.Signed.{mag}
use Rattle.hex.specs.Hex.{decode_of, encode_lower, encode_with, lower_digits}
use Rattle.hex.proofs.HexLemmas.{decode_of-encode_lower}
use Rattle.qc_model.specs.ReportText.{Text, hex, hex_digits}
use Rattle.qc_script.specs.declared.reading.misspelt.Misspelt.{Misspelt}
use Rattle.qc_script.specs.Told.{nothing, number_told, number_below, signed_value, signed_told, bytes_told, decoded}
use Rattle.qc_script.specs.Tellable.{AreBytes}

same_bytes : (t : Text) → bytes_eq t t ≡ true
same_bytes t = (bytes_eq-Decides t t).1 refl

-- ---- numbers

pub number_again : (n : ℕ) → n < 2 ^ 64 → number_told (decimal n) ≡ Ok n
unfolding number_told
number_again n lt =
    let value : digits_value 10 (decimal n) ≡ n = (decimal_is_IsNumeral n lt).1 in
    rw (value, lt-ltb n (2 ^ 64) lt, same_bytes (decimal n)) refl

pub number_is : (t : Text) (n : ℕ) → n < 2 ^ 64 → t ≡ decimal n → number_told t ≡ Ok n
number_is t n lt e = ap number_told e ∙ number_again n lt

pub number_lacks : (t : Text) → ((n : ℕ) → n < 2 ^ 64 → t ≡ decimal n → ⊥) → number_told t ≡ nothing
unfolding number_told
number_lacks t none =
    let n = digits_value 10 t in
    let test : (nat_lt n (2 ^ 64) && bytes_eq (decimal n) t) ≡ false = false_from_ne_true _ (λ e.
    let parts = and_parts (nat_lt n (2 ^ 64)) (bytes_eq (decimal n) t) e in
    none n (ltb-true n (2 ^ 64) parts.0) (sym ((bytes_eq-Decides (decimal n) t).0 parts.1))) in
    rw test refl

-- what is no UTF-8 is no number
pub number_not_utf8 : (t : Text) → (IsUtf8 t → ⊥) → number_told t ≡ nothing
number_not_utf8 t not = number_lacks t (λ n lt e. not (subst IsUtf8 (sym e) (IsUtf8-from_ascii (decimal n) (IsAscii-decimal n lt))))

err_is_no_ok : {A E : Type 0} (e : E) (x : A) → ◌≡◌ {A = Result A E} (Err e) (Ok x) → ⊥
err_is_no_ok e x p = absurd cc

ok_is : {A E : Type 0} (x y : A) → ◌≡◌ {A = Result A E} (Ok x) (Ok y) → x ≡ y
ok_is x y p = cc

-- whatever a call's error is
abbrev no_error : Misspelt
no_error = record {}

pub number_not_parsed : (t : Text) → ParsesUnsigned {E = Misspelt} 64 10 t (Err no_error) → number_told t ≡ nothing
number_not_parsed t parses = number_lacks t (λ n lt is. err_is_no_ok {A = ℕ} no_error n (parse-decimal {E = Misspelt} 64 n t (Err no_error) lt lt is parses))

pub number_spelt_apart : (t : Text) (m : ℕ) → ParsesUnsigned {E = Misspelt} 64 10 t (Ok m) → (decimal m ≡ t → ⊥) → number_told t ≡ nothing
number_spelt_apart t m parses apart = number_lacks t (λ n lt is.
    let same : m ≡ n = ok_is {A = ℕ} {E = Misspelt} m n (parse-decimal {E = Misspelt} 64 n t (Ok m) lt lt is parses) in
    apart (ap decimal same ∙ sym is))

pub parsed_below : (t : Text) (m : ℕ) → ParsesUnsigned {E = Misspelt} 64 10 t (Ok m) → m < 2 ^ 64
parsed_below t m parses = omega (arith, parses.0.1, parses.1)

pub below_again : (limit n : ℕ) → n < 2 ^ 64 → n < limit → number_below limit (decimal n) ≡ Ok n
unfolding number_below
below_again limit n lt below = rw (number_again n lt, lt-ltb n limit below) refl

-- ---- signed numbers

-- digits begin with no minus
no_minus : (n : ℕ) → n < 2 ^ 64 → (slice_index (decimal n) 0 == 45) ≡ false
no_minus n lt =
    elim (cases_lt n 10) [
      | inl small ↦ rw (decimal_digit n small) (ne_eqb (48 + n) 45 (λ e. omega (arith, e)))
      | inr large ↦ let above : 48 < get_or (decimal n) 0 0 = first_decimal n (omega arith) lt in ne_eqb (slice_index (decimal n) 0) 45 (λ e. omega (arith, e, above))
    ]

signed_value_again : (z : ℤ) → mag z < 2 ^ 63 → signed_value (signed_decimal z) ≡ z
signed_value_again (pos n) lt =
    let wide : n < 2 ^ 64 = omega arith in
    rw (no_minus n wide) (ap pos (decimal_is_IsNumeral n wide).1)
signed_value_again (negsuc n) lt =
    let wide : suc n < 2 ^ 64 = omega arith in
    let value : digits_value 10 (decimal (suc n)) ≡ suc n = (decimal_is_IsNumeral (suc n) wide).1 in
    let less : digits_value 10 (decimal (suc n)) - 1 ≡ n = omega (arith, value) in
    ap negsuc less

pub signed_again : (z : ℤ) → mag z < 2 ^ 63 → signed_told (signed_decimal z) ≡ Ok z
unfolding signed_told
signed_again z lt =
    rw (signed_value_again z lt, lt-ltb (mag z) (2 ^ 63) lt, same_bytes (signed_decimal z)) refl

pub signed_is : (t : Text) (z : ℤ) → mag z < 2 ^ 63 → t ≡ signed_decimal z → signed_told t ≡ Ok z
signed_is t z lt e = ap signed_told e ∙ signed_again z lt

pub signed_lacks : (t : Text) → ((z : ℤ) → mag z < 2 ^ 63 → t ≡ signed_decimal z → ⊥) → signed_told t ≡ nothing
unfolding signed_told
signed_lacks t none =
    let z = signed_value t in
    let test : (nat_lt (mag z) (2 ^ 63) && bytes_eq (signed_decimal z) t) ≡ false = false_from_ne_true _ (λ e.
    let parts = and_parts (nat_lt (mag z) (2 ^ 63)) (bytes_eq (signed_decimal z) t) e in
    none z (ltb-true (mag z) (2 ^ 63) parts.0) (sym ((bytes_eq-Decides (signed_decimal z) t).0 parts.1))) in
    rw test refl

pub signed_not_utf8 : (t : Text) → (IsUtf8 t → ⊥) → signed_told t ≡ nothing
signed_not_utf8 t not = signed_lacks t (λ z lt e. not (subst IsUtf8 (sym e) (IsUtf8-from_ascii (signed_decimal z) (IsAscii-signed z lt))))

fits : (z : ℤ) → mag z < 2 ^ 63 → FitsSigned w64 z
fits z lt = record { sfits = lt }

pub fits_below : (z : ℤ) → FitsSigned w64 z → mag z < 2 ^ 63
fits_below z fit = fit.sfits

pub parsed_fits : (t : Text) (z : ℤ) → ParsesSigned {E = Misspelt} w64 10 t (Ok z) → FitsSigned w64 z
parsed_fits t z parses = subst (FitsSigned w64) (sym parses.1) parses.0.1

pub signed_not_parsed : (t : Text) → ParsesSigned {E = Misspelt} w64 10 t (Err no_error) → signed_told t ≡ nothing
signed_not_parsed t parses = signed_lacks t (λ z lt is. err_is_no_ok {A = ℤ} no_error z (parse-signed_decimal {E = Misspelt} w64 z t (Err no_error) (fits z lt) lt is parses))

pub signed_spelt_apart : (t : Text) (y : ℤ) → ParsesSigned {E = Misspelt} w64 10 t (Ok y) → (signed_decimal y ≡ t → ⊥) → signed_told t ≡ nothing
signed_spelt_apart t y parses apart = signed_lacks t (λ z lt is.
    let same : y ≡ z = ok_is {A = ℤ} {E = Misspelt} y z (parse-signed_decimal {E = Misspelt} w64 z t (Ok y) (fits z lt) lt is parses) in
    apart (ap signed_decimal same ∙ sym is))

-- a number is no lone minus
pub signed_no_dash : (z : ℤ) → mag z < 2 ^ 63 → bytes_eq (signed_decimal z) (codes "-") ≡ false
signed_no_dash (pos n) lt = false_from_ne_true _ (λ e.
    let is : decimal n ≡ codes "-" = (bytes_eq-Decides (decimal n) (codes "-")).0 e in
    true_apart (sym (no_minus n (omega arith)) ∙ ap (λ (t : Text). slice_index t 0 == 45) is))
  where
    true_apart : false ≡ true → ⊥
    true_apart p = absurd cc
signed_no_dash (negsuc n) lt = false_from_ne_true _ (λ e.
    let is : 45 ∷ decimal (suc n) ≡ codes "-" = (bytes_eq-Decides (45 ∷ decimal (suc n)) (codes "-")).0 e in
    none (decimal_nonempty (suc n) (omega arith)) (ap length is))
  where
    none : {k : ℕ} → 0 < k → suc k ≡ 1 → ⊥
    none lt e = absurd (omega (arith, lt, e))

-- ---- bytes

abbrev same_glyph : ℕ → Bool
same_glyph d = slice_index lower_digits d == digit_glyph false d

abbrev same_glyphs : ℕ → Bool
same_glyphs zero = true
same_glyphs (suc n) = same_glyph n && same_glyphs n

glyph_at : (n d : ℕ) → same_glyphs n ≡ true → d < n → slice_index lower_digits d ≡ digit_glyph false d
glyph_at zero d h lt = absurd (omega arith)
glyph_at (suc n) d h lt =
    let parts = and_parts (same_glyph n) (same_glyphs n) h in
    elim (cases_lt d n) [
      | inl below ↦ glyph_at n d parts.1 below
      | inr top ↦
          let e : d ≡ n = omega arith in
          rw e (eqb-true (slice_index lower_digits n) (digit_glyph false n) parts.0)
    ]

encoded : (bs : Text) → AreBytes bs → encode_lower bs ≡ hex_digits bs
unfolding encode_with
encoded [] all = refl
encoded (b ∷ bs) all =
    let byte : b < 256 = all.0 in
    let high = glyph_at 16 (b / 16) refl (omega arith) in
    let low = glyph_at 16 (b % 16) refl (omega arith) in
    rw (high, low, encoded bs all.1) refl

bytes_by_place : (bs : Text) → AreBytes bs → (i : ℕ) → slice_index bs i < 256
bytes_by_place [] all i = omega arith
bytes_by_place (b ∷ bs) all zero = all.0
bytes_by_place (b ∷ bs) all (suc i) = bytes_by_place bs all.1 i

decoded_again : (bs : Text) → AreBytes bs → decode_of (hex_digits bs) ≡ Ok bs
decoded_again bs all = ap decode_of (sym (encoded bs all)) ∙ decode_of-encode_lower bs (bytes_by_place bs all)

-- digits are at least two
no_dash : (d e : ℕ) (ds : Text) → bytes_eq (d ∷ e ∷ ds) (codes "-") ≡ false
no_dash d e ds = false_from_ne_true _ (λ h. let parts = and_parts (d == 45) false h in absurd (true_apart parts.1))
  where
    true_apart : false ≡ true → ⊥
    true_apart p = absurd cc

pub bytes_again : (bs : Text) → AreBytes bs → bytes_told (hex bs) ≡ Ok bs
unfolding bytes_told
bytes_again [] all = refl
bytes_again (b ∷ bs) all =
    let digits : Text = hex_digits (b ∷ bs) in
    rw (no_dash (digit_glyph false (b / 16)) (digit_glyph false (b % 16)) (hex_digits bs)) (ap decoded (decoded_again (b ∷ bs) all))
