-- The packets of a SELECT's rows.
use Rattle.std.specs.Prelude.{◌≡◌, ℕ, ◌≤◌, List, [], ◌∷◌, ◌++◌, length, map, IsSome, unwrap_or}
use Rattle.std.specs.List.{concat, AllByRecursion}
use Rattle.qc_types.specs.declared.names.Value.{Value}
use Rattle.qc_sql.specs.declared.replies.ColumnDef.{ColumnDef}
use Rattle.qc_sql.specs.Packets.{numbered, count_payload, column_payload, row_payload, eof_payload, most_payload}
use Rattle.qc_sql.specs.Rows.{text_of}
use Rattle.qc_eval.specs.Plans.{PlanView}

abbrev pub value_payload : List Value → List ℕ
value_payload row = row_payload (map text_of row)

-- the payloads in front of the rows
abbrev pub head_payloads : List ColumnDef → ℕ → List (List ℕ)
head_payloads columns status = count_payload (length columns) ∷ (map column_payload columns ++ eof_payload status ∷ [])

-- the payloads of rows, and of the EOF behind them
abbrev pub tail_payloads : List (List Value) → ℕ → List (List ℕ)
tail_payloads rows status = map value_payload rows ++ eof_payload status ∷ []

-- From a text, and the number of the next packet, the packets of these payloads lead to another text, and to another number.
abbrev pub Appends : List (List ℕ) → ℕ → List ℕ → ℕ → List ℕ → Type 0
Appends payloads n old m new = (behind : List (List ℕ)) → old ++ concat (numbered n (payloads ++ behind)) ≡ new ++ concat (numbered m behind)

-- the columns fit packets
abbrev pub FitColumns : List ColumnDef → Type 0
FitColumns columns = AllByRecursion (λ c. length (column_payload c) ≤ most_payload) columns

-- a row has so many values, and fits a packet
pub record IsRowOf (columns : ℕ) (row : List Value) : Type 0 where
  pub count : length row ≡ columns
  pub fits : length (value_payload row) ≤ most_payload

abbrev pub AreRowsOf : ℕ → List (List Value) → Type 0
AreRowsOf columns rows = AllByRecursion (IsRowOf columns) rows

-- the rows that a loaded plan has still to give
abbrev pub rest_of : PlanView → List (List Value)
rest_of p = unwrap_or p.left []

-- the row on which it stands
abbrev pub row_of : PlanView → List Value
row_of p = unwrap_or p.row []

-- a loaded plan, whose rows fit packets and have as many values as it has columns
pub record IsReady (p : PlanView) : Type 0 where
  pub some : 1 ≤ length p.columns
  pub few : length p.columns ≤ 64
  pub columns : FitColumns p.columns
  pub loaded : IsSome p.left
  pub rows : AreRowsOf (length p.columns) (rest_of p)
