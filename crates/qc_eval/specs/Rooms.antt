-- How much room the text of a formula may take.
use Rattle.std.specs.Prelude.{ℕ, List, length, Option, Some, None, get_or, option_and_then}
use Rattle.std.specs.List.{slice_get}
use Rattle.qc_types.specs.declared.names.Value.{Value}
use Rattle.qc_types.specs.declared.names.Value.TheVariants as value
use Rattle.qc_sql.specs.declared.tables.Kind.{Kind}
use Rattle.qc_sql.specs.declared.tables.Kind.TheVariants as kind
use Rattle.qc_sql.specs.Database.{Table}
use Rattle.qc_table.specs.Views.{kind_at}
use Rattle.qc_resolve.specs.declared.formula.Formula.{Formula}
use Rattle.qc_resolve.specs.declared.formula.Formula.TheOpen.{Formula-F}
use Rattle.qc_resolve.specs.declared.formula.Place.{Place}
use Rattle.qc_resolve.specs.Folding.{fold_formula}

-- the bytes of a text, and none of another value
abbrev pub value_room : Value → ℕ
value_room (value.Str t) = length t
value_room value.Null = 0
value_room (value.Int n) = 0

abbrev pub kind_room : Option Kind → ℕ
kind_room None = 0
kind_room (Some kind.Int) = 0
kind_room (Some (kind.Str n)) = n

-- the longest text that the column at a place may hold
abbrev pub place_room : List Table → Place → ℕ
place_room ts p = kind_room (option_and_then (λ t. kind_at t.columns p.column) (slice_get ts p.slot))

abbrev pub room_at : List Table → List Value → Formula-F ℕ → ℕ
room_at ts folded (Formula-F.Column p) = place_room ts p
room_at ts folded (Formula-F.Folded k) = value_room (get_or folded k value.Null)
room_at ts folded (Formula-F.Literal v) = value_room v
room_at ts folded (Formula-F.Present n) = 0
room_at ts folded (Formula-F.Length n) = 0
room_at ts folded (Formula-F.Concat ns) = 65535

-- the longest text that a formula may have
abbrev pub text_room : List Table → List Value → Formula → ℕ
text_room ts folded f = fold_formula (room_at ts folded) f
