-- Rows of a table by whole columns, and by a bit for each that passes.
use Rattle.std.specs.Prelude.{◌≡◌, ℕ, ℤ, ◌+◌, ◌*◌, ◌<◌, ◌≤◌, ◌&&◌, not, nat_lt, List, [], ◌∷◌, length, map, take, drop, filter, get_or, Option, Some, None, if◌then◌else◌}
use Rattle.std.specs.List.{AllByRecursion}
use Rattle.qc_types.specs.declared.names.Value.{Value}
use Rattle.qc_types.specs.declared.names.Value.TheVariants as value
use Rattle.qc_sql.specs.declared.statements.Op.{Op}
use Rattle.qc_sql.specs.declared.statements.Op.TheVariants as op
use Rattle.qc_sql.specs.Database.{MapOf, Table, key_value}
use Rattle.qc_sql.specs.Rows.{Combination, is_null}
use Rattle.qc_lane.specs.declared.compare.Cmp.{Cmp}
use Rattle.qc_lane.specs.declared.compare.Cmp.TheVariants as cmp
use Rattle.qc_lane.specs.Lanes.{is_set, words_for, EndsAt}
use Rattle.qc_table.specs.Views.{row_at}
use Rattle.qc_resolve.specs.declared.formula.Formula.{Formula}
use Rattle.qc_resolve.specs.declared.formula.Formula.TheVariants as formula
use Rattle.qc_eval.specs.declared.window.Lane.{Lane}
use Rattle.qc_eval.specs.declared.window.Window.{Window}
use Rattle.qc_eval.specs.Entries.{kept_indexes}
use Rattle.qc_eval.specs.Ranges.{no_table}
use Rattle.qc_eval.specs.Walk.{Keeping}

-- rows under their keys
abbrev pub Entries : Type 0
Entries = MapOf ℤ (List Value)

-- the rows of a table in a window
abbrev pub window_rows : Table → Window → Entries
window_rows t w = take w.count (drop (64 * w.word) t.rows)

-- a window has so many rows of a table
abbrev pub IsWindow : Table → Window → Type 0
IsWindow t w = 64 * w.word + w.count ≤ length t.rows

-- each row, as a combination of its own
abbrev pub singles : Entries → List Combination
singles rows = map (λ e. e.1 ∷ []) rows

-- a value of each row
abbrev pub cells_of : (Combination → Value) → Entries → List Value
cells_of f rows = map (λ e. f (e.1 ∷ [])) rows

-- a value is a number or NULL
abbrev pub IsNumeric : Value → Type 0
IsNumeric value.Null = Unit {0}
IsNumeric (value.Int n) = Unit {0}
IsNumeric (value.Str t) = ⊥

-- the numbers of some cells, 0 for each NULL, and bits that tell which are NULL
pub record IsLane (cells : List Value) (l : Lane) : Type 0 where
  pub values : l.values.now ≡ map key_value cells
  pub words : length l.nulls.now ≡ words_for (length cells)
  pub nulls : (i : ℕ) → i < length cells → is_set l.nulls.now i ≡ is_null (get_or cells i value.Null)
  pub numeric : AllByRecursion IsNumeric cells

-- the bits of a mask tell which of some rows are kept
pub record IsMask (rows : Entries) (keep : Keeping) (mask : List ℕ) : Type 0 where
  pub words : length mask ≡ words_for (length rows)
  pub bits : (i : ℕ) → is_set mask i ≡ (nat_lt i (length rows) && keep (row_at rows i ∷ []))

-- words for the bits of so many rows: a mask that ends with the last of them, and room for another one
pub record AreMasks (count : ℕ) (mask spare : List ℕ) : Type 0 where
  pub few : count ≤ 1048576
  pub words : length mask ≡ words_for count
  pub room : length spare ≡ words_for count
  pub ends : EndsAt mask count

-- the rows that are kept of the only table, by their indexes
pub record AreKept (ts : List Table) (keep : Keeping) (is : List ℕ) : Type 0 where
  pub one : length ts ≡ 1
  pub rows : is ≡ kept_indexes keep (get_or ts 0 no_table).rows (length (get_or ts 0 no_table).rows)

-- of the bits of a mask those are left that stand for rows of which something holds
abbrev pub Leaves : Entries → Keeping → List ℕ → List ℕ → Type 0
Leaves rows holds old new = (i : ℕ) → is_set new i ≡ (is_set old i && (nat_lt i (length rows) && holds (row_at rows i ∷ [])))

-- of a list whose first member has the bit at an index, those whose bit is set
abbrev pub picked_from : {X : Type 0} → ℕ → List ℕ → List X → List X
picked_from i mask [] = []
picked_from i mask (x ∷ xs) = if is_set mask i then x ∷ picked_from (i + 1) mask xs else picked_from (i + 1) mask xs

abbrev pub picked : {X : Type 0} → List ℕ → List X → List X
picked mask xs = picked_from 0 mask xs

-- the values whose bit is set, NULL apart
abbrev pub seen : List ℕ → List Value → List Value
seen mask cells = filter (λ v. not (is_null v)) (picked mask cells)

-- a relation of values as one of numbers
abbrev pub relation : Op → Cmp
relation op.Eq = cmp.Eq
relation op.Ne = cmp.Ne
relation op.Lt = cmp.Lt
relation op.Le = cmp.Le
relation op.Gt = cmp.Gt
relation op.Ge = cmp.Ge

-- the number of a formula, where it is a literal one
abbrev pub number_of : Formula → Option ℤ
number_of (formula.Literal (value.Int n)) = Some n
number_of _ = None
