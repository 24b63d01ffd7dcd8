-- A table as it is stored: its keys, and its columns.
use Rattle.std.specs.Prelude.{◌≡◌, ℕ, ℤ, Bool, true, false, List, [], ◌∷◌, ◌++◌, ◌<◌, map, length, sum_by, Option, Some, None, Result, Ok, Err, slice_index_or, slice_set}
use Rattle.std.specs.List.{slice_get, range_with_len, insert, remove}
use Rattle.std.specs.List.Sorted.{IsSearchInRange}
use Rattle.std.specs.Prelude.{zip}
use Rattle.qc_types.specs.declared.names.Value.{Value}
use Rattle.qc_types.specs.declared.names.Value.TheVariants as value
use Rattle.qc_sql.specs.declared.tables.Column.{Column}
use Rattle.qc_sql.specs.declared.tables.Kind.{Kind}
use Rattle.qc_sql.specs.Database.{MapOf, Table, is_int, key_of}
use Rattle.qc_table.specs.declared.cells.Cells.{Cells}
use Rattle.qc_table.specs.declared.cells.Cells.TheVariants as cells
use Rattle.qc_table.specs.Columns.{ints_of, text_length, texts_of, HasIntRoom, HasTextRoom, IsInts, IsTexts}
use Rattle.qc_table.specs.Puts.{put_at, values_at, AreWide}
use Rattle.qc_table.specs.Views.{kind_at, value_at}

abbrev pub values_of : Cells → List Value
values_of (cells.Ints c) = ints_of c
values_of (cells.Texts c) = texts_of c

abbrev pub is_ints : Cells → Bool
is_ints (cells.Ints c) = true
is_ints (cells.Texts c) = false

abbrev pub IsCells : Cells → Type 0
IsCells (cells.Ints c) = IsInts c
IsCells (cells.Texts c) = IsTexts c

-- a column of numbers takes numbers and NULL, one of texts takes texts and NULL
abbrev pub takes : Bool → Value → Bool
takes b value.Null = true
takes true (value.Int n) = true
takes true (value.Str t) = false
takes false (value.Int n) = false
takes false (value.Str t) = true

-- the values of the column at an index
abbrev pub cell_values : List Cells → ℕ → List Value
cell_values cs j = slice_index_or (map values_of cs) j []

abbrev pub row_of : ℕ → List Cells → ℕ → List Value
row_of width cs i = map (λ j. value_at (cell_values cs j) i) (range_with_len 0 width)

-- the rows, under their keys
abbrev pub rows_of : ℕ → List ℤ → List Cells → MapOf ℤ (List Value)
rows_of width keys cs = zip keys (map (row_of width cs) (range_with_len 0 (length keys)))

-- the column at an index is of its kind, and has so many values
abbrev pub IsColumn : Option Kind → ℕ → Cells → Type 0
IsColumn None count c = ⊥
IsColumn (Some k) count c = IsCells c × (length (values_of c) ≡ count) × (is_ints c ≡ is_int k)

abbrev pub IsStore : List Column → ℕ → List Cells → Type 0
IsStore columns count cs = (length cs ≡ length columns) × ((j : ℕ) (c : Cells) → slice_get cs j ≡ Some c → IsColumn (kind_at columns j) count c)

-- the values of a column, of each row
abbrev pub column_of : ℕ → MapOf ℤ (List Value) → List Value
column_of j rows = map (λ e. value_at e.1 j) rows

-- a column of its kind with these values
abbrev pub IsFilled : Option Kind → List Value → Cells → Type 0
IsFilled None vs c = ⊥
IsFilled (Some k) vs c = IsCells c × (values_of c ≡ vs) × (is_ints c ≡ is_int k)

-- so many columns, each with its values of the rows
abbrev pub AreFilled : List Column → MapOf ℤ (List Value) → ℕ → List Cells → Type 0
AreFilled columns rows n cs = (length cs ≡ n) × ((j : ℕ) (c : Cells) → slice_get cs j ≡ Some c → IsFilled (kind_at columns j) (column_of j rows) c)

-- room for more values
abbrev pub HasRoom : List Value → Cells → Type 0
HasRoom vs (cells.Ints c) = HasIntRoom (length vs) c
HasRoom vs (cells.Texts c) = HasTextRoom (length vs) (sum_by text_length vs) c

-- a column takes the values of rows at an index
abbrev pub TakesAll : ℕ → List (List Value) → Bool → Type 0
TakesAll j rows b = (i : ℕ) → i < length rows → takes b (value_at (put_at rows i) j) ≡ true

-- columns that take the values of a row
abbrev pub TakeRow : List Value → List Cells → Type 0
TakeRow row cs = (length cs ≡ length row) × ((j : ℕ) (c : Cells) → slice_get cs j ≡ Some c → IsCells c × (takes (is_ints c) (value_at row j) ≡ true))

-- columns that take the values of rows
abbrev pub TakeRows : List (List Value) → List Cells → Type 0
TakeRows rows cs = (j : ℕ) (c : Cells) → slice_get cs j ≡ Some c → IsCells c × AreWide j rows × TakesAll j rows (is_ints c)

-- columns that have room for the values of rows
abbrev pub HaveRoom : List (List Value) → List Cells → Type 0
HaveRoom rows cs = (j : ℕ) (c : Cells) → slice_get cs j ≡ Some c → HasRoom (values_at j rows) c

-- a column of the same kind whose values are made of its own
abbrev pub IsMade : (List Value → List Value) → Option Cells → Cells → Type 0
IsMade make None c = ⊥
IsMade make (Some b) c = IsCells c × (values_of c ≡ make (values_of b)) × (is_ints c ≡ is_ints b)

-- columns of the same kinds whose values are made of theirs, by the index of each
abbrev pub AreMade : (ℕ → List Value → List Value) → List Cells → List Cells → Type 0
AreMade make bs cs = (length cs ≡ length bs) × ((j : ℕ) (c : Cells) → slice_get cs j ≡ Some c → IsMade (make j) (slice_get bs j) c)

-- a number or NULL may come in the place of any other, and a text in that of the same
abbrev pub CanPut : ℕ → Value → Cells → Type 0
CanPut i v (cells.Ints c) = Unit {0}
CanPut i v (cells.Texts c) = value_at (texts_of c) i ≡ v

-- columns that have a value at an index
abbrev pub HaveAt : ℕ → List Cells → Type 0
HaveAt i cs = (j : ℕ) (c : Cells) → slice_get cs j ≡ Some c → i < length (values_of c)

-- columns in which a row may come in the place of the one at an index
abbrev pub CanPutRow : ℕ → List Value → List Cells → Type 0
CanPutRow i row cs = (j : ℕ) (c : Cells) → slice_get cs j ≡ Some c → CanPut i (value_at row j) c

-- columns in which a row that they take may come in the place of the one at an index
pub record IsReplaced (i : ℕ) (row : List Value) (cs : List Cells) : Type 0 where
  pub takes : TakeRow row cs
  pub there : HaveAt i cs
  pub fits : CanPutRow i row cs

-- the place of the row at an index
abbrev pub place_at : List ℕ → ℕ → ℕ
place_at places k = slice_index_or places k 0

-- columns in which each row may come in its place
pub record AreReplaced (places : List ℕ) (rows : List (List Value)) (cs : List Cells) : Type 0 where
  pub count : length places ≡ length rows
  pub ready : (j : ℕ) (c : Cells) → slice_get cs j ≡ Some c → IsCells c
  pub each : (k : ℕ) → k < length rows → IsReplaced (place_at places k) (put_at rows k) cs

-- each row's place has its key
abbrev pub HaveKeys : List Column → List ℤ → List ℕ → List (List Value) → Type 0
HaveKeys columns keys places rows = (k : ℕ) → k < length rows → slice_get keys (place_at places k) ≡ Some (key_of columns (put_at rows k))

-- a value in the place of the one at an index
abbrev pub with_one : ℕ → Value → List Value → List Value
with_one i v vs = slice_set vs i v

-- values in their places, the first of them put first
abbrev pub with_values : List ℕ → List Value → List Value → List Value
with_values [] vs ws = ws
with_values (i ∷ places) [] ws = ws
with_values (i ∷ places) (v ∷ vs) ws = with_values places vs (with_one i v ws)

-- more values
abbrev pub and_more : List Value → List Value → List Value
and_more vs ws = ws ++ vs

-- a value in the place of the one at an index, or in front of it
abbrev pub put_in : Result ℕ ℕ → Value → List Value → List Value
put_in (Ok i) v vs = slice_set vs i v
put_in (Err i) v vs = insert vs i v

-- values without the one at an index
abbrev pub without_one : ℕ → List Value → List Value
without_one i vs = remove vs i

-- columns that have a place for a value: one of theirs, or one in front of these or behind them
abbrev pub HavePlace : Result ℕ ℕ → List Cells → Type 0
HavePlace place cs = (j : ℕ) (c : Cells) → slice_get cs j ≡ Some c → IsSearchInRange place (length (values_of c))

-- keys of which one comes in its place
abbrev pub key_in : Result ℕ ℕ → ℤ → List ℤ → List ℤ
key_in (Ok i) k ks = ks
key_in (Err i) k ks = insert ks i k

-- the table that is stored so
abbrev pub table_stored : List Column → List ℤ → List Cells → Table
table_stored columns keys cs = record { columns = columns; rows = rows_of (length columns) keys cs }
