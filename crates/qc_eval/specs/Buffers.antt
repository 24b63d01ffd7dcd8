-- Memory for the values of a row.
use Rattle.std.specs.Prelude.{◌≡◌, ℕ, ◌<◌, ◌≤◌, List, length, get_or}
use Rattle.qc_types.specs.declared.names.Value.{Value}
use Rattle.qc_types.specs.declared.names.Value.TheVariants as value
use Rattle.qc_sql.specs.Database.{Table}
use Rattle.qc_resolve.specs.declared.formula.Formula.{Formula}
use Rattle.qc_resolve.specs.declared.formula.Formula.TheVariants as formula
use Rattle.qc_eval.specs.Rooms.{text_room}
use Rattle.qc_eval.specs.Shown.{Shown}

-- a formula and a buffer that stand nowhere
abbrev pub no_formula : Formula
no_formula = formula.Literal value.Null

abbrev pub no_buffer : Shown
no_buffer = record { value = value.Null; capacity = 0 }

-- there is a buffer for each formula, which holds the longest text that it may have
pub record Hold (ts : List Table) (folded : List Value) (items : List Formula) (buffers : List Shown) : Type 0 where
  pub long : length buffers ≡ length items
  pub room : (k : ℕ) → k < length items → text_room ts folded (get_or items k no_formula) ≤ (get_or buffers k no_buffer).capacity
