-- The values of a row, and of a column.
use Rattle.std.proofs.Common.{◌≡◌, ℕ, ◌<◌, ◌≤◌, ℤ, pos, Bool, true, false, List, [], ◌∷◌, map, length, length-drop, get_or, take, drop, ◌-◌, ◌+◌, zero, suc, refl, sym, ap, ◌∙◌, arith, Some, Option, None}
use Rattle.std.specs.Prelude.{◌&&◌, IfSome, unwrap_or}
use Rattle.std.specs.List.{AllByRecursion}
use Rattle.std.proofs.lemmas.Bool.Decides.{nat_tests}
use Rattle.std.proofs.Math.ListN.{get_or-map}
use Rattle.std.proofs.lemmas.List.{get_or_default, take_all, drop-map, take-map, get_or-take, get_or-drop, length-take, get_or-map as get_or-map-within}
use Rattle.qc_types.specs.declared.names.Value.{Value}
use Rattle.qc_sql.specs.declared.tables.Column.{Column}
use Rattle.qc_sql.specs.declared.tables.Kind.TheVariants as kind
use Rattle.std.specs.Map.{keys_of}
use Rattle.std.proofs.lemmas.Map.Entries.{length-keys_of}
use Rattle.qc_sql.specs.Database.{MapOf, key_of}
use Rattle.qc_model.specs.Licence.{row_fits, kind_fits}
use Rattle.qc_table.specs.Views.{kind_at, value_at, row_at, text_value, IsWithin}
use Rattle.qc_model.specs.Sound.{IsRow}

pub both : (a b : Bool) → (a && b) ≡ true → (a ≡ true) × (b ≡ true)
both true b h = (refl, h)
both false b h = absurd cc

-- a row has a value for each column
pub row_length : (cs : List Column) (vs : List Value) → row_fits cs vs ≡ true → length vs ≡ length cs
row_length [] [] fits = refl
row_length [] (v ∷ vs) fits = absurd cc
row_length (c ∷ cs) [] fits = absurd cc
row_length (c ∷ cs) (v ∷ vs) fits = ap suc (row_length cs vs (both _ _ fits).1)

-- each value is of its column's kind
pub value_of_kind : (cs : List Column) (vs : List Value) (i : ℕ) → row_fits cs vs ≡ true → IfSome (kind_at cs i) (λ k. kind_fits k (value_at vs i) ≡ true)
value_of_kind [] vs i fits = tt
value_of_kind (c ∷ cs) [] i fits = absurd cc
value_of_kind (c ∷ cs) (v ∷ vs) zero fits = (both _ _ (both _ _ fits).0).0
value_of_kind (c ∷ cs) (v ∷ vs) (suc i) fits = value_of_kind cs vs i (both _ _ fits).1

-- a row of a table fits
pub row_at_fits : (cs : List Column) (es : MapOf ℤ (List Value)) (i : ℕ) → AllByRecursion (IsRow cs) es → i < length es → row_fits cs (row_at es i) ≡ true
row_at_fits cs [] i rows within = absurd (omega arith)
row_at_fits cs (e ∷ es) zero rows within = rows.0.0
row_at_fits cs (e ∷ es) (suc i) rows within = row_at_fits cs es i rows.1 (omega arith)

-- the values of rows that stand under their keys
pub rows_of_keyed : (key : List Value → ℤ) (rs : List (List Value)) → map (λ (e : ℤ × List Value). e.1) (map (λ row. (key row, row)) rs) ≡ rs
rows_of_keyed key [] = refl
rows_of_keyed key (r ∷ rs) = ap (λ rest. r ∷ rest) (rows_of_keyed key rs)

-- a column shows of each row what the row has there
pub column_shows : (es : MapOf ℤ (List Value)) (row column : ℕ) → value_at (map (λ e. value_at e.1 column) es) row ≡ value_at (row_at es row) column
column_shows es row column =
    let entry : ℤ × List Value = (pos 0, []) in
    get_or-map (λ (e : ℤ × List Value). value_at e.1 column) es row entry ∙ sym (ap (λ r. value_at r column) (get_or-map (λ (e : ℤ × List Value). e.1) es row entry))

-- a column that is there has a kind
pub kind_is_there : (cs : List Column) (i : ℕ) → i < length cs → kind_at cs i ≡ Some (unwrap_or (kind_at cs i) kind.Int)
kind_is_there [] i within = absurd (omega arith)
kind_is_there (c ∷ cs) zero within = refl
kind_is_there (c ∷ cs) (suc i) within = kind_is_there cs i (omega arith)

-- the row that is read at an index
pub row_read : (key : List Value → ℤ) (rs : List (List Value)) (i : ℕ) (r : List Value) → i < length rs → r ≡ get_or rs i r → row_at (map (λ row. (key row, row)) rs) i ≡ r
row_read key rs i r within read = rw (rows_of_keyed key rs) (get_or_default rs i [] r within ∙ sym read)

-- as many rows as there are entries
pub keyed_length : (key : List Value → ℤ) (rs : List (List Value)) → length {A = ℤ × List Value} (map (λ row. (key row, row)) rs) ≡ length rs
keyed_length key [] = refl
keyed_length key (r ∷ rs) = ap suc (keyed_length key rs)

-- rows under their keys
abbrev pub keyed : List Column → List (List Value) → MapOf ℤ (List Value)
keyed cs rs = map (λ row. (key_of cs row, row)) rs

-- a row that stands at an index, as an entry
pub entry_read : (cs : List Column) (rs : List (List Value)) (i : ℕ) (row : List Value) → i < length rs → row ≡ get_or rs i row → (i < length (keyed cs rs)) × ((key_of cs row, row) ≡ get_or (keyed cs rs) i (key_of cs row, row))
entry_read cs rs i row within read = (
  rw (keyed_length (key_of cs) rs) within,
  ap (λ (r : List Value). (key_of cs r, r)) read ∙ sym (get_or-map-within (λ (r : List Value). (key_of cs r, r)) rs i row (key_of cs row, row) within),
)

-- the same of the rows from an index on
pub entry_behind : (cs : List Column) (rs : List (List Value)) (from i : ℕ) (row : List Value) → i < length (take (length rs - from) (drop from rs)) → row ≡ get_or (take (length rs - from) (drop from rs)) i row
    → (i < length (drop from (keyed cs rs))) × ((key_of cs row, row) ≡ get_or (drop from (keyed cs rs)) i (key_of cs row, row))
entry_behind cs rs from i row within read =
    let all : take (length rs - from) (drop from rs) ≡ drop from rs = take_all _ _ (omega (arith, length-drop from rs)) in
    let rest = entry_read cs (drop from rs) i row (rw all at within) (rw all at read) in
    rw (drop-map {Y = ℤ × List Value} (λ (r : List Value). (key_of cs r, r)) from rs) rest

-- some rows next to each other, under their keys
pub keyed_part : (cs : List Column) (rs : List (List Value)) (from n : ℕ) → keyed cs (take n (drop from rs)) ≡ take n (drop from (keyed cs rs))
keyed_part cs rs from n =
    sym (take-map {Y = ℤ × List Value} (λ (r : List Value). (key_of cs r, r)) n (drop from rs)) ∙ sym (ap (take n) (drop-map {Y = ℤ × List Value} (λ (r : List Value). (key_of cs r, r)) from rs))

-- a row among those fits
pub part_fits : (cs : List Column) (rs : List (List Value)) (from to i : ℕ) (row : List Value) → AllByRecursion (IsRow cs) (keyed cs rs) → to ≤ length rs
    → i < length (take (to - from) (drop from rs)) → row ≡ get_or (take (to - from) (drop from rs)) i row → row_fits cs row ≡ true
part_fits cs rs from to i row rows all within read =
    let near : i < to - from = omega (arith, length-take (to - from) (drop from rs)) in
    let there : from + i < length rs = omega arith in
    let at : row ≡ get_or rs (from + i) row = read ∙ (get_or-take (to - from) (drop from rs) i row near ∙ get_or-drop from rs i row) in
    rw (row_read (key_of cs) rs (from + i) row there at) at (row_at_fits cs (keyed cs rs) (from + i) rows (rw (keyed_length (key_of cs) rs) there))

text_within : (n : ℕ) (o : Option (List ℕ)) → kind_fits (kind.Str n) (text_value o) ≡ true → IfSome o (λ t. length t ≤ n)
text_within n None fits = tt
text_within n (Some t) fits = grind (arith, nat_tests)

-- a text is as long as its column allows
pub text_fits : (cs : List Column) (es : MapOf ℤ (List Value)) (row column : ℕ) (o : Option (List ℕ)) → AllByRecursion (IsRow cs) es → row < length es → text_value o ≡ value_at (row_at es row) column → IsWithin cs column o
text_fits cs es row column o rows low is n kind_is =
    let fits = value_of_kind cs (row_at es row) column (row_at_fits cs es row rows low) in
    text_within n o (rw (kind_is, ← is) at fits)

-- a key that stands at an index, among those from an index on
pub key_behind : (es : MapOf ℤ (List Value)) (from i : ℕ) → i < length (take (length (keys_of es) - from) (drop from (keys_of es)))
    → (i < length (drop from es)) × (get_or (take (length (keys_of es) - from) (drop from (keys_of es))) i (pos 0) ≡ get_or (keys_of (drop from es)) i (get_or (take (length (keys_of es) - from) (drop from (keys_of es))) i (pos 0)))
key_behind es from i low =
    let all : take (length (keys_of es) - from) (drop from (keys_of es)) ≡ drop from (keys_of es) = take_all _ _ (omega (arith, length-drop from (keys_of es))) in
    let same : drop from (keys_of es) ≡ keys_of (drop from es) = drop-map (λ (e : ℤ × List Value). e.0) from es in
    let near : i < length (keys_of (drop from es)) = rw (all, same) at low in
    (rw length-keys_of at near, rw (all, same) (get_or_default (keys_of (drop from es)) i (pos 0) (get_or (keys_of (drop from es)) i (pos 0)) near))
