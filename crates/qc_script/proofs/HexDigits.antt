-- The digits of bytes, written from the front.
use Rattle.std.proofs.Common.{◌≡◌, ℕ, suc, ◌+◌, ◌*◌, ◌<◌, ◌/◌, ◌%◌, ◌∷◌, [], ◌++◌, List, length, take, drop, slice_index, slice_set, refl, arith, false}
use Rattle.std.proofs.lemmas.List.{append_assoc, append-nil, drop_all, drop_more, take_all, take_more_set, length-set}
use Rattle.std.specs.Fmt.{digit_glyph}
use Rattle.qc_model.specs.ReportText.{hex, hex_digits}

pub hex_is : (bytes : List ℕ) → 0 < length bytes → hex bytes ≡ hex_digits bytes
hex_is [] some = absurd (omega arith)
hex_is (b ∷ bs) some = refl

-- the digits of a front of bytes are the front of their digits
pub front_digits : (xs ys : List ℕ) → take (2 * length xs) (hex_digits (xs ++ ys)) ≡ hex_digits xs
front_digits [] ys = refl
front_digits (x ∷ xs) ys =
    let more : 2 * suc (length xs) ≡ suc (suc (2 * length xs)) = omega arith in
    rw (more, front_digits xs ys) refl

-- two writes in a row, seen from the front
two_writes : (xs : List ℕ) (o x y : ℕ) → o + 1 < length xs
    → take (o + 2) (slice_set (slice_set xs o x) (o + 1) y) ≡ take o xs ++ (x ∷ y ∷ [])
two_writes xs o x y fits =
    let len : length (slice_set xs o x) ≡ length xs = length-set xs o x in
    let two : o + 2 ≡ o + 1 + 1 = omega arith in
    let second = take_more_set (slice_set xs o x) (o + 1) y (omega (arith, len)) in
    let first = take_more_set xs o x (omega arith) in
    rw (two, second, first) (append_assoc (take o xs) (x ∷ []) (y ∷ []))

-- the digits of what is left, from one byte on
left_digits : (xs : List ℕ) (i : ℕ) → i < length xs
    → hex_digits (drop i xs) ≡ digit_glyph false (slice_index xs i / 16) ∷ digit_glyph false (slice_index xs i % 16) ∷ hex_digits (drop (i + 1) xs)
left_digits xs i h = rw (drop_more xs i 0 h) refl

-- the digits of one byte more are written
pub one_more : (input output : List ℕ) (i x y : ℕ) → i < length input → 2 * i + 1 < length output
    → x ≡ digit_glyph false (slice_index input i / 16) → y ≡ digit_glyph false (slice_index input i % 16)
    → take (2 * i) output ++ hex_digits (drop i input) ≡ hex_digits input
    → take (2 * (i + 1)) (slice_set (slice_set output (2 * i) x) (2 * i + 1) y) ++ hex_digits (drop (i + 1) input) ≡ hex_digits input
one_more input output i x y h fits ex ey inv =
    let two : 2 * (i + 1) ≡ 2 * i + 2 = omega arith in
    let front = two_writes output (2 * i) x y fits in
    let rest = left_digits input i h in
    rw (two, front, append_assoc, ex, ey) (rw rest at inv)

-- the digits of every byte are written
pub all_written : (input output : List ℕ) (i : ℕ) → length input < suc i → length output ≡ 2 * length input
    → take (2 * i) output ++ hex_digits (drop i input) ≡ hex_digits input
    → output ≡ hex_digits input
all_written input output i h len inv =
    let d = drop_all i input (omega arith) in
    let a = take_all (2 * i) output (omega arith) in
    rw (d, a, append-nil) at inv
