-- Rows and columns are read again from their bytes.
use Rattle.std.proofs.Common.{◌≡◌, ℕ, zero, suc, ◌+◌, ◌/◌, ◌%◌, ◌^◌, ◌<◌, ◌≤◌, Bool, true, false, List, [], ◌∷◌, ◌++◌, map, length, length-append, drop, Ok, Option, Some, None, refl, sym, ap, subst, ◌∙◌, append_assoc, append-nil, arith, inl, inr}
use Rattle.std.specs.Prelude.{◌==◌, ℤ, pos, negsuc, decimal, if◌then◌else◌}
use Rattle.std.specs.Fmt.{signed_decimal}
use Rattle.std.specs.List.{flat_map, AllByRecursion}
use Rattle.std.specs.Int.{w16, w64, byte_at, to_le_bytes, bytes_low_first}
use Rattle.std.proofs.lemmas.Bool.{cases_lt, lt-ltb, le-ltb, ne_eqb}
use Rattle.std.proofs.lemmas.List.{take_at, drop_at}
use Rattle.std.proofs.lemmas.Fmt.{length_signed_le, decimal_by_steps}
use lib.Signed.{mag}
use Rattle.byteorder.specs.Endian.{little_number, little_bytes}
use Rattle.byteorder.specs.Numbers.{little_number-reads_back, length-bytes_low_first}
use Rattle.qc_types.specs.declared.names.Value.{Value}
use Rattle.qc_types.specs.declared.names.Value.TheVariants as value
use Rattle.qc_sql.specs.declared.tables.Column.{Column}
use Rattle.qc_sql.specs.declared.tables.Kind.{Kind}
use Rattle.qc_sql.specs.declared.tables.Kind.TheVariants as kind
use Rattle.qc_sql.specs.Packets.{encoded_integer, encoded_string, encoded_cell, row_payload, three_bytes}
use Rattle.qc_sql.specs.Rows.{text_of, column_flags}
use Rattle.qc_model.specs.ReportText.{Text, kind_bytes, column_bytes}
use Rattle.qc_script.specs.Told.{Told, ◌>>=◌, taken, little, integer_told, cell_behind, cell_told, value_told, number_or_text, first_kind, cells_told, row_told, kind_told, column_of, column_told, columns_within, columns_told}
use Rattle.qc_script.specs.Tellable.{AreBytes, FitsKind, FitKinds, IsKind, IsColumn}
use Rattle.qc_script.proofs.Numbers.{signed_again, signed_lacks}

-- ---- bytes

pub taken_at : (n : ℕ) (x rest : Text) → length x ≡ n → taken n (x ++ rest) ≡ Ok (x, rest)
taken_at n x rest e =
    rw (le-ltb (length (x ++ rest)) n (omega (arith, length-append x rest)), take_at x rest n e, drop_at x rest n e) refl

pub little_again : (n x : ℕ) (rest : Text) → x < 256 ^ n → little n (little_bytes n x ++ rest) ≡ Ok (x, rest)
unfolding little
little_again n x rest lt =
    let bytes : Text = little_bytes n x in
    let back : little_number n bytes ≡ x = ap (little_number n) (sym (append-nil bytes)) ∙ little_number-reads_back n x [] lt in
    ap (λ (r : Told (Text × Text)). r >>= λ b. Ok (little_number n b.0, b.1)) (taken_at n bytes rest (length-bytes_low_first 0 n x))
    ∙ ap (λ (v : ℕ). Ok (v, rest)) back

pub byte_again : (b : ℕ) (rest : Text) → b < 256 → little 1 (b ∷ rest) ≡ Ok (b, rest)
byte_again b rest lt =
    let low : b % 256 ≡ b = omega arith in
    ap (λ (d : ℕ). little 1 (d ∷ rest)) (sym low) ∙ little_again 1 b rest lt

-- ---- cells

cell_from : (first n : ℕ) (t text rest : Text) → first < 256 → (first == 0xfb) ≡ false → integer_told first t ≡ Ok (n, text ++ rest) → length text ≡ n → cell_told (first ∷ t) ≡ Ok (Some text, rest)
unfolding cell_told cell_behind
cell_from first n t text rest byte apart size is =
    rw (byte_again first t byte, apart, size, taken_at n text rest is) refl

small_integer : (n : ℕ) (t : Text) → n < 251 → integer_told n t ≡ Ok (n, t)
unfolding integer_told
small_integer n t lt = rw (lt-ltb n 251 lt) refl

two_bytes : (n : ℕ) (t : Text) → n < 2 ^ 16 → integer_told 0xfc (to_le_bytes w16 n ++ t) ≡ Ok (n, t)
unfolding integer_told
two_bytes n t lt = little_again 2 n t lt

three_more : (n : ℕ) (t : Text) → n < 2 ^ 24 → integer_told 0xfd (three_bytes n ++ t) ≡ Ok (n, t)
unfolding integer_told
three_more n t lt = little_again 3 n t lt

eight_bytes : (n : ℕ) (t : Text) → n < 2 ^ 64 → integer_told 0xfe (to_le_bytes w64 n ++ t) ≡ Ok (n, t)
unfolding integer_told
eight_bytes n t lt = little_again 8 n t lt

-- a length and its text, whichever form the length has
string_of : (n : ℕ) (text rest : Text) → length text ≡ n → n < 2 ^ 64 → cell_told (encoded_integer n ++ (text ++ rest)) ≡ Ok (Some text, rest)
unfolding encoded_integer
string_of n text rest is lt =
    elim (cases_lt n 251) [
      | inl small ↦ rw (lt-ltb n 251 small) (cell_from n n (text ++ rest) text rest (omega arith) (ne_eqb n 0xfb (λ e. omega (arith, e))) (small_integer n (text ++ rest) small) is)
      | inr ge ↦ rw (le-ltb n 251 ge) (
          elim (cases_lt n (2 ^ 16)) [
            | inl two ↦ rw (lt-ltb n (2 ^ 16) two) (cell_from 0xfc n (to_le_bytes w16 n ++ (text ++ rest)) text rest (omega arith) refl (two_bytes n (text ++ rest) two) is)
            | inr ge2 ↦ rw (le-ltb n (2 ^ 16) ge2) (
                elim (cases_lt n (2 ^ 24)) [
                  | inl three ↦ rw (lt-ltb n (2 ^ 24) three) (cell_from 0xfd n (three_bytes n ++ (text ++ rest)) text rest (omega arith) refl (three_more n (text ++ rest) three) is)
                  | inr ge3 ↦ rw (le-ltb n (2 ^ 24) ge3) (cell_from 0xfe n (to_le_bytes w64 n ++ (text ++ rest)) text rest (omega arith) refl (eight_bytes n (text ++ rest) lt) is)
                ])
          ])
    ]

string_again : (text rest : Text) → length text < 2 ^ 64 → cell_told (encoded_string text ++ rest) ≡ Ok (Some text, rest)
unfolding encoded_string
string_again text rest lt = ap cell_told (append_assoc (encoded_integer (length text)) text rest) ∙ string_of (length text) text rest refl lt

null_again : (rest : Text) → cell_told (0xfb ∷ rest) ≡ Ok (None, rest)
unfolding cell_told cell_behind
null_again rest = rw (byte_again 0xfb rest (omega arith)) refl

signed_short : (z : ℤ) → mag z < 2 ^ 63 → length (signed_decimal z) < 2 ^ 64
signed_short z lt = let short = length_signed_le 20 z (omega (arith, lt)) lt in omega (arith, short)

cell_again : (k : Option Kind) (v : Value) (rest : Text) → FitsKind k v → cell_told (encoded_cell (text_of v) ++ rest) ≡ Ok (text_of v, rest)
cell_again k value.Null rest is = null_again rest
cell_again None (value.Str t) rest is = string_again t rest is.size
cell_again (Some (kind.Str n)) (value.Str t) rest is = string_again t rest is.size
cell_again (Some kind.Int) (value.Str t) rest is = string_again t rest is.0.size
cell_again (Some kind.Int) (value.Int z) rest is = string_again (signed_decimal z) rest (signed_short z is)
cell_again (Some (kind.Str n)) (value.Int z) rest is = absurd is
cell_again None (value.Int z) rest is = absurd is

value_again : (k : Option Kind) (v : Value) → FitsKind k v → value_told k (text_of v) ≡ v
value_again k value.Null is = refl
value_again None (value.Str t) is = refl
value_again (Some (kind.Str n)) (value.Str t) is = refl
value_again (Some kind.Int) (value.Str t) is = ap (number_or_text t) (signed_lacks t (λ z lt e. is.1 z lt e))
value_again (Some kind.Int) (value.Int z) is = ap (number_or_text (signed_decimal z)) (signed_again z is)
value_again (Some (kind.Str n)) (value.Int z) is = absurd is
value_again None (value.Int z) is = absurd is

integer_some : (n : ℕ) → 0 < length (encoded_integer n)
unfolding encoded_integer
integer_some n =
    elim (cases_lt n 251) [
      | inl small ↦ rw (lt-ltb n 251 small) (omega arith)
      | inr ge ↦ rw (le-ltb n 251 ge) (
          elim (cases_lt n (2 ^ 16)) [
            | inl two ↦ rw (lt-ltb n (2 ^ 16) two) (omega arith)
            | inr ge2 ↦ rw (le-ltb n (2 ^ 16) ge2) (
                elim (cases_lt n (2 ^ 24)) [
                  | inl three ↦ rw (lt-ltb n (2 ^ 24) three) (omega arith)
                  | inr ge3 ↦ rw (le-ltb n (2 ^ 24) ge3) (omega arith)
                ])
          ])
    ]

cell_some : (c : Option Text) (rest : Text) → 0 < length (encoded_cell c ++ rest)
unfolding encoded_string
cell_some None rest = omega arith
cell_some (Some text) rest =
    omega (arith, integer_some (length text), length-append (encoded_integer (length text)) text, length-append (encoded_integer (length text) ++ text) rest)

abbrev cells_behind : ℕ → List Kind → Option Text × Text → Told (List Value)
cells_behind n kinds cell = cells_told n (drop 1 kinds) cell.1 >>= λ others. Ok (value_told (first_kind kinds) cell.0 ∷ others)

cells_step : (n : ℕ) (kinds : List Kind) (t : Text) → 0 < length t → cells_told (suc n) kinds t ≡ (cell_told t >>= cells_behind n kinds)
unfolding cells_told
cells_step n kinds [] some = absurd (omega arith)
cells_step n kinds (b ∷ t) some = refl

cells_none : (n : ℕ) (kinds : List Kind) → cells_told n kinds [] ≡ Ok []
unfolding cells_told
cells_none zero kinds = refl
cells_none (suc n) kinds = refl

cells_again : (n : ℕ) (kinds : List Kind) (vs : List Value) → FitKinds kinds vs → length (row_payload (map text_of vs)) ≤ n → cells_told n kinds (row_payload (map text_of vs)) ≡ Ok vs
cells_again n kinds [] fit le = cells_none n kinds
cells_again zero kinds (v ∷ vs) fit le = absurd (omega (arith, cell_some (text_of v) (row_payload (map text_of vs)), le))
cells_again (suc n) kinds (v ∷ vs) fit le =
    let rest : Text = row_payload (map text_of vs) in
    let shorter : length rest ≤ n = omega (arith, le, cell_longer (text_of v) rest) in
    cells_step n kinds (encoded_cell (text_of v) ++ rest) (cell_some (text_of v) rest)
    ∙ ap (λ (r : Told (Option Text × Text)). r >>= cells_behind n kinds) (cell_again (first_kind kinds) v rest fit.0)
    ∙ ap (λ (r : Told (List Value)). r >>= λ others. Ok (value_told (first_kind kinds) (text_of v) ∷ others)) (cells_again n (drop 1 kinds) vs fit.1 shorter)
    ∙ ap (λ (w : Value). Ok (w ∷ vs)) (value_again (first_kind kinds) v fit.0)
  where
    cell_longer : (c : Option Text) (u : Text) → length u < length (encoded_cell c ++ u)
    cell_longer c u = omega (arith, cell_some c [], length-append (encoded_cell c) [], length-append (encoded_cell c) u)

pub row_again : (kinds : List Kind) (vs : List Value) → FitKinds kinds vs → row_told kinds (row_payload (map text_of vs)) ≡ Ok vs
row_again kinds vs fit = cells_again (length (row_payload (map text_of vs))) kinds vs fit (omega arith)

-- ---- columns

abbrev flags_of : Bool → Bool → ℕ
flags_of true n = 3
flags_of false true = 1
flags_of false false = 0

column_of_again : (name : Text) (k : Kind) (p n : Bool) → (p ≡ true → n ≡ true) → column_of name k (flags_of p n) ≡ Ok (record { name = name; kind = k; not_null = n; primary = p })
unfolding column_of
column_of_again name k true true h = refl
column_of_again name k true false h = absurd (apart (h refl))
  where
    apart : false ≡ true → ⊥
    apart e = absurd cc
column_of_again name k false true h = refl
column_of_again name k false false h = refl

flags_are : (c : Column) → column_flags c ≡ flags_of c.primary c.not_null
flags_are c = by c.primary c.not_null
  where
    by : (p n : Bool) → (if p then 3 else if n then 1 else 0) ≡ flags_of p n
    by true n = refl
    by false true = refl
    by false false = refl

flags_small : (p n : Bool) → flags_of p n < 256
flags_small true n = omega arith
flags_small false true = omega arith
flags_small false false = omega arith

kind_number : Kind → ℕ
kind_number kind.Int = 0
kind_number (kind.Str n) = 1

kind_size : Kind → ℕ
kind_size kind.Int = 0
kind_size (kind.Str n) = n

column_from : (t name t1 t2 t3 t4 t5 : Text) (c : Column) (size which long flags : ℕ) → little 1 t ≡ Ok (size, t1) → taken size t1 ≡ Ok (c.name, t2) → little 1 t2 ≡ Ok (which, t3) → little 2 t3 ≡ Ok (long, t4)
    → little 1 t4 ≡ Ok (flags, t5) → kind_told which long ≡ Ok c.kind → column_of c.name c.kind flags ≡ Ok c → column_told t ≡ Ok (c, t5)
unfolding column_told
column_from t name t1 t2 t3 t4 t5 c size which long flags a b d e f g h = rw (a, b, d, e, f, g, h) refl

int_kind : (k : Kind) → k ≡ kind.Int → kind_told 0 0 ≡ Ok k
unfolding kind_told
int_kind k e = ap (λ (x : Kind). Ok x) (sym e)

str_kind : (n : ℕ) (k : Kind) → k ≡ kind.Str n → kind_told 1 n ≡ Ok k
unfolding kind_told
str_kind n k e = ap (λ (x : Kind). Ok x) (sym e)

column_parts : (c : Column) (k : Kind) (flags : ℕ) (rest : Text) → c.kind ≡ k → IsColumn c → flags < 256 → column_of c.name k flags ≡ Ok c
    → column_told ((length c.name ∷ (c.name ++ kind_bytes k ++ flags ∷ [])) ++ rest) ≡ Ok (c, rest)
column_parts c kind.Int flags rest same is small made =
    let behind : Text = 0 ∷ 0 ∷ 0 ∷ flags ∷ rest in
    let made2 : column_of c.name c.kind flags ≡ Ok c = ap (λ (k : Kind). column_of c.name k flags) same ∙ made in
    let grouped : (c.name ++ kind_bytes kind.Int ++ flags ∷ []) ++ rest ≡ c.name ++ behind =
    append_assoc (c.name ++ kind_bytes kind.Int) (flags ∷ []) rest ∙ append_assoc c.name (kind_bytes kind.Int) (flags ∷ rest) in
    ap (λ (t : Text). column_told (length c.name ∷ t)) grouped
    ∙ column_from (length c.name ∷ (c.name ++ behind)) c.name (c.name ++ behind) behind (0 ∷ 0 ∷ flags ∷ rest) (flags ∷ rest) rest c (length c.name) 0 0 flags
    (byte_again (length c.name) (c.name ++ behind) (omega (arith, is.short))) (taken_at (length c.name) c.name behind refl) (byte_again 0 (0 ∷ 0 ∷ flags ∷ rest) (omega arith)) (little_again 2 0 (flags ∷ rest) (omega arith))
    (byte_again flags rest small) (int_kind c.kind same) made2
column_parts c (kind.Str n) flags rest same is small made =
    let size : Text = to_le_bytes w16 n in
    let behind : Text = 1 ∷ (size ++ flags ∷ rest) in
    let made2 : column_of c.name c.kind flags ≡ Ok c = ap (λ (k : Kind). column_of c.name k flags) same ∙ made in
    let grouped : (c.name ++ kind_bytes (kind.Str n) ++ flags ∷ []) ++ rest ≡ c.name ++ behind =
    append_assoc (c.name ++ kind_bytes (kind.Str n)) (flags ∷ []) rest ∙ append_assoc c.name (kind_bytes (kind.Str n)) (flags ∷ rest) in
    ap (λ (t : Text). column_told (length c.name ∷ t)) grouped
    ∙ column_from (length c.name ∷ (c.name ++ behind)) c.name (c.name ++ behind) behind (size ++ flags ∷ rest) (flags ∷ rest) rest c (length c.name) 1 n flags
    (byte_again (length c.name) (c.name ++ behind) (omega (arith, is.short))) (taken_at (length c.name) c.name behind refl) (byte_again 1 (size ++ flags ∷ rest) (omega arith))
    (little_again 2 n (flags ∷ rest) (small_kind c.kind same is.kind)) (byte_again flags rest small) (str_kind n c.kind same) made2
  where
    small_kind : (k : Kind) → k ≡ kind.Str n → IsKind k → n < 2 ^ 16
    small_kind k e h = subst IsKind e h

pub column_again : (c : Column) (rest : Text) → IsColumn c → column_told (column_bytes c ++ rest) ≡ Ok (c, rest)
column_again c rest is =
    let flags = flags_are c in
    let small : column_flags c < 256 = omega (arith, flags, flags_small c.primary c.not_null) in
    let made : column_of c.name c.kind (column_flags c) ≡ Ok c = ap (column_of c.name c.kind) flags ∙ column_of_again c.name c.kind c.primary c.not_null is.key in
    column_parts c c.kind (column_flags c) rest refl is small made

columns_step : (n : ℕ) (t : Text) → 0 < length t → columns_within (suc n) t ≡ (column_told t >>= λ column. columns_within n column.1 >>= λ others. Ok (column.0 ∷ others))
unfolding columns_within
columns_step n [] some = absurd (omega arith)
columns_step n (b ∷ t) some = refl

columns_none : (n : ℕ) → columns_within n [] ≡ Ok []
unfolding columns_within
columns_none zero = refl
columns_none (suc n) = refl

columns_from : (n : ℕ) (cs : List Column) → AllByRecursion IsColumn cs → length (flat_map column_bytes cs) ≤ n → columns_within n (flat_map column_bytes cs) ≡ Ok cs
columns_from n [] all le = columns_none n
columns_from zero (c ∷ cs) all le = absurd (omega (arith, le))
columns_from (suc n) (c ∷ cs) all le =
    let rest : Text = flat_map column_bytes cs in
    let shorter : length rest ≤ n = omega (arith, le, length-append (column_bytes c) rest) in
    columns_step n (column_bytes c ++ rest) (omega arith)
    ∙ ap (λ (r : Told (Column × Text)). r >>= λ column. columns_within n column.1 >>= λ others. Ok (column.0 ∷ others)) (column_again c rest all.0)
    ∙ ap (λ (r : Told (List Column)). r >>= λ others. Ok (c ∷ others)) (columns_from n cs all.1 shorter)

pub columns_again : (cs : List Column) → AllByRecursion IsColumn cs → columns_told (flat_map column_bytes cs) ≡ Ok cs
columns_again cs all = columns_from (length (flat_map column_bytes cs)) cs all (omega arith)

-- ---- what is put together is bytes

bytes_both : (s t : Text) → AreBytes s → AreBytes t → AreBytes (s ++ t)
bytes_both [] t hs ht = ht
bytes_both (b ∷ s) t hs ht = (hs.0, bytes_both s t hs.1 ht)

low_byte : (n : ℕ) → n % 256 < 256
low_byte n = omega arith

low_byte_at : (i n : ℕ) → byte_at i n < 256
low_byte_at zero n = low_byte n
low_byte_at (suc i) n = low_byte (n / 256 ^ suc i)

low_bytes : (k i n : ℕ) → AreBytes (bytes_low_first i k n)
low_bytes zero i n = tt
low_bytes (suc k) i n = (low_byte_at i n, low_bytes k (suc i) n)

integer_bytes : (n : ℕ) → AreBytes (encoded_integer n)
unfolding encoded_integer
integer_bytes n =
    elim (cases_lt n 251) [
      | inl small ↦ rw (lt-ltb n 251 small) (omega arith, tt)
      | inr ge ↦ rw (le-ltb n 251 ge) (
          elim (cases_lt n (2 ^ 16)) [
            | inl two ↦ rw (lt-ltb n (2 ^ 16) two) (omega arith, low_bytes 2 0 n)
            | inr ge2 ↦ rw (le-ltb n (2 ^ 16) ge2) (
                elim (cases_lt n (2 ^ 24)) [
                  | inl three ↦ rw (lt-ltb n (2 ^ 24) three) (omega arith, low_bytes 3 0 n)
                  | inr ge3 ↦ rw (le-ltb n (2 ^ 24) ge3) (omega arith, low_bytes 8 0 n)
                ])
          ])
    ]

decimal_bytes : (n : ℕ) → n < 2 ^ 64 → AreBytes (decimal n)
decimal_bytes n lt = decimal_by_steps (λ n ds. AreBytes ds)
    (λ n small. (omega arith, tt))
    (λ n ds large before. bytes_both ds ((48 + n % 10) ∷ []) before (omega arith, tt))
    n lt

signed_bytes : (z : ℤ) → mag z < 2 ^ 63 → AreBytes (signed_decimal z)
signed_bytes (pos n) lt = decimal_bytes n (omega arith)
signed_bytes (negsuc n) lt = (omega arith, decimal_bytes (suc n) (omega arith))

string_bytes : (t : Text) → AreBytes t → AreBytes (encoded_string t)
unfolding encoded_string
string_bytes t all = bytes_both (encoded_integer (length t)) t (integer_bytes (length t)) all

cell_bytes : (k : Option Kind) (v : Value) → FitsKind k v → AreBytes (encoded_cell (text_of v))
cell_bytes k value.Null is = (omega arith, tt)
cell_bytes None (value.Str t) is = string_bytes t is.bytes
cell_bytes (Some (kind.Str n)) (value.Str t) is = string_bytes t is.bytes
cell_bytes (Some kind.Int) (value.Str t) is = string_bytes t is.0.bytes
cell_bytes (Some kind.Int) (value.Int z) is = string_bytes (signed_decimal z) (signed_bytes z is)
cell_bytes (Some (kind.Str n)) (value.Int z) is = absurd is
cell_bytes None (value.Int z) is = absurd is

pub row_bytes : (kinds : List Kind) (vs : List Value) → FitKinds kinds vs → AreBytes (row_payload (map text_of vs))
row_bytes kinds [] fit = tt
row_bytes kinds (v ∷ vs) fit =
    bytes_both (encoded_cell (text_of v)) (row_payload (map text_of vs)) (cell_bytes (first_kind kinds) v fit.0) (row_bytes (drop 1 kinds) vs fit.1)

kind_are_bytes : (k : Kind) → AreBytes (kind_bytes k)
kind_are_bytes kind.Int = (omega arith, (omega arith, (omega arith, tt)))
kind_are_bytes (kind.Str n) = (omega arith, low_bytes 2 0 n)

column_are_bytes : (c : Column) → IsColumn c → AreBytes (column_bytes c)
column_are_bytes c is =
    let short : length c.name ≤ 255 = is.short in
    let small : column_flags c < 256 = omega (arith, flags_are c, flags_small c.primary c.not_null) in
    (omega (arith, short), bytes_both (c.name ++ kind_bytes c.kind) (column_flags c ∷ []) (bytes_both c.name (kind_bytes c.kind) is.name (kind_are_bytes c.kind)) (small, tt))

pub columns_bytes : (cs : List Column) → AllByRecursion IsColumn cs → AreBytes (flat_map column_bytes cs)
columns_bytes [] all = tt
columns_bytes (c ∷ cs) all = bytes_both (column_bytes c) (flat_map column_bytes cs) (column_are_bytes c all.0) (columns_bytes cs all.1)
