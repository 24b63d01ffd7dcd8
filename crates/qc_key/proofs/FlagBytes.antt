-- The bytes of flags, written and read.
use Rattle.std.proofs.Common.{◌≡◌, ℕ, suc, ◌+◌, ◌^◌, ◌<◌, ◌≤◌, Bool, true, false, List, [], ◌∷◌, ◌++◌, length, get_or, take, drop, refl, sym, ap, ◌∙◌, arith, inl, inr}
use Rattle.std.specs.Int.{w16, w64, to_le_bytes, from_le_bytes}
use Rattle.std.proofs.Math.Seq.{drop-cons}
use Rattle.std.proofs.Math.ListN.{drop_of_length-le}
use Rattle.std.proofs.lemmas.List.{get_or-drop, get_or-take, get_or_past, length-take, length-drop, take-append-drop, drop-drop}
use Rattle.std.proofs.lemmas.Bool.{cases_lt}
use Rattle.std.proofs.lemmas.Nat.{le_bytes_2, le_bytes_8, from_le_bytes-to_le_bytes_2, from_le_bytes-to_le_bytes_8}
use Rattle.byteorder.specs.Endian.{little_number}
use Rattle.qc_sql.specs.declared.session.Flags.{Flags}
use Rattle.qc_sql.specs.Keys.{flag_byte, flag_bytes}

flag_byte_same : (a b : Bool) → flag_byte a ≡ flag_byte b → a ≡ b
flag_byte_same true true e = refl
flag_byte_same true false e = cc
flag_byte_same false true e = cc
flag_byte_same false false e = refl

pub flag_bytes_same : (f g : Flags) → f.charset < 2 ^ 16 → g.charset < 2 ^ 16 → f.row_limit < 2 ^ 64 → g.row_limit < 2 ^ 64 → flag_bytes f ≡ flag_bytes g → f ≡ g
flag_bytes_same f g fc gc fl gl e =
    let at = λ (i : ℕ) (bytes : List ℕ). get_or bytes i 0 in
    let trans : f.in_trans ≡ g.in_trans = flag_byte_same f.in_trans g.in_trans (ap (at 0) e) in
    let auto : f.autocommit ≡ g.autocommit = flag_byte_same f.autocommit g.autocommit (ap (at 1) e) in
    let set_bytes : to_le_bytes w16 f.charset ≡ to_le_bytes w16 g.charset = ap (λ (bytes : List ℕ). take 2 (drop 2 bytes)) e in
    let set : f.charset ≡ g.charset = sym (from_le_bytes-to_le_bytes_2 f.charset fc) ∙ ap (from_le_bytes w16) set_bytes ∙ from_le_bytes-to_le_bytes_2 g.charset gc in
    let ansi : f.ansi ≡ g.ansi = flag_byte_same f.ansi g.ansi (ap (at 4) e) in
    let limit_bytes : to_le_bytes w64 f.row_limit ≡ to_le_bytes w64 g.row_limit = ap (λ (bytes : List ℕ). take 8 (drop 5 bytes)) e in
    let limit : f.row_limit ≡ g.row_limit = sym (from_le_bytes-to_le_bytes_8 f.row_limit fl) ∙ ap (from_le_bytes w64) limit_bytes ∙ from_le_bytes-to_le_bytes_8 g.row_limit gl in
    let form : f.protocol_form ≡ g.protocol_form = ap (at 13) e in
    let rows : f.row_form ≡ g.row_form = ap (at 14) e in
    λ i. record { in_trans = trans i; autocommit = auto i; charset = set i; ansi = ansi i; row_limit = limit i; protocol_form = form i; row_form = rows i }

-- ---- numbers of several bytes, the lowest first

length-piece : (i n : ℕ) (bytes : List ℕ) → i + n ≤ length bytes → length (take n (drop i bytes)) ≡ n
length-piece i n bytes le = omega (arith, length-take n (drop i bytes), length-drop i bytes)

IsBytes-piece : (i n : ℕ) (bytes : List ℕ) → ((k : ℕ) → get_or bytes k 0 < 256) → (k : ℕ) → get_or (take n (drop i bytes)) k 0 < 256
IsBytes-piece i n bytes h k =
    elim (cases_lt k n) [
      | inl lt ↦ rw (get_or-take n (drop i bytes) k 0 lt, get_or-drop) (h (i + k))
      | inr le ↦ rw (get_or_past (take n (drop i bytes)) k 0 (omega (arith, length-take n (drop i bytes)))) (omega arith)
    ]

number_of_two : (piece : List ℕ) → length piece ≡ 2 → ((i : ℕ) → get_or piece i 0 < 256) → to_le_bytes w16 (little_number 2 piece) ≡ piece
number_of_two piece size fits =
    let value : little_number 2 piece ≡ from_le_bytes w16 piece = omega arith in
    le_bytes_2 piece (little_number 2 piece) size fits value

number_of_eight : (piece : List ℕ) → length piece ≡ 8 → ((i : ℕ) → get_or piece i 0 < 256) → to_le_bytes w64 (little_number 8 piece) ≡ piece
number_of_eight piece size fits =
    let value : little_number 8 piece ≡ from_le_bytes w64 piece = omega arith in
    le_bytes_8 piece (little_number 8 piece) size fits value

-- what is left of bytes from a place on begins with the byte there
byte_at_place : (bytes : List ℕ) (i x : ℕ) (rest : List ℕ) → i < length bytes → x ≡ get_or bytes i 0 → rest ≡ drop (suc i) bytes → x ∷ rest ≡ drop i bytes
byte_at_place bytes i x rest lt e r = ap (λ (y : ℕ). y ∷ rest) e ∙ ap (λ (ys : List ℕ). get_or bytes i 0 ∷ ys) r ∙ sym (drop-cons bytes i 0 lt)

-- and with so many bytes from there
piece_at_place : (bytes : List ℕ) (i n : ℕ) (xs rest : List ℕ) → xs ≡ take n (drop i bytes) → rest ≡ drop n (drop i bytes) → xs ++ rest ≡ drop i bytes
piece_at_place bytes i n xs rest e r = ap (λ (ys : List ℕ). ys ++ rest) e ∙ ap (λ (ys : List ℕ). take n (drop i bytes) ++ ys) r ∙ take-append-drop n (drop i bytes)

-- flags that were read of 15 bytes, each field of its own
pub record IsReadOf (flags : Flags) (bytes : List ℕ) : Type 0 where
  pub in_trans : flag_byte flags.in_trans ≡ get_or bytes 0 0
  pub autocommit : flag_byte flags.autocommit ≡ get_or bytes 1 0
  pub charset : flags.charset ≡ little_number 2 (take 2 (drop 2 bytes))
  pub ansi : flag_byte flags.ansi ≡ get_or bytes 4 0
  pub row_limit : flags.row_limit ≡ little_number 8 (take 8 (drop 5 bytes))
  pub protocol_form : flags.protocol_form ≡ get_or bytes 13 0
  pub row_form : flags.row_form ≡ get_or bytes 14 0

pub flag_bytes_again : (flags : Flags) (bytes : List ℕ) → length bytes ≡ 15 → ((i : ℕ) → get_or bytes i 0 < 256) → IsReadOf flags bytes → flag_bytes flags ≡ bytes
flag_bytes_again flags bytes size fits read =
    let end : [] ≡ drop 15 bytes = sym (drop_of_length-le bytes {i = 15} (omega (arith, size))) in
    let rows = byte_at_place bytes 14 flags.row_form [] (omega (arith, size)) read.row_form end in
    let forms = byte_at_place bytes 13 flags.protocol_form (flags.row_form ∷ []) (omega (arith, size)) read.protocol_form rows in
    let limit_is = ap (to_le_bytes w64) read.row_limit ∙ number_of_eight (take 8 (drop 5 bytes)) (length-piece 5 8 bytes (omega (arith, size))) (IsBytes-piece 5 8 bytes fits) in
    let limit = piece_at_place bytes 5 8 (to_le_bytes w64 flags.row_limit) (flags.protocol_form ∷ flags.row_form ∷ []) limit_is (forms ∙ sym (drop-drop 8 5 bytes)) in
    let from_limit : List ℕ = to_le_bytes w64 flags.row_limit ++ flags.protocol_form ∷ flags.row_form ∷ [] in
    let ansi = byte_at_place bytes 4 (flag_byte flags.ansi) from_limit (omega (arith, size)) read.ansi limit in
    let from_ansi : List ℕ = flag_byte flags.ansi ∷ from_limit in
    let set_is = ap (to_le_bytes w16) read.charset ∙ number_of_two (take 2 (drop 2 bytes)) (length-piece 2 2 bytes (omega (arith, size))) (IsBytes-piece 2 2 bytes fits) in
    let set = piece_at_place bytes 2 2 (to_le_bytes w16 flags.charset) from_ansi set_is (ansi ∙ sym (drop-drop 2 2 bytes)) in
    let from_set : List ℕ = to_le_bytes w16 flags.charset ++ from_ansi in
    let auto = byte_at_place bytes 1 (flag_byte flags.autocommit) from_set (omega (arith, size)) read.autocommit set in
    byte_at_place bytes 0 (flag_byte flags.in_trans) (flag_byte flags.autocommit ∷ from_set) (omega (arith, size)) read.in_trans auto
