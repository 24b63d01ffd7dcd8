-- What is seen of the value of an item, in memory that is taken once.
use Rattle.std.specs.Prelude.{ℕ, List}
use Rattle.qc_types.specs.declared.names.Value.{Value}
use Rattle.qc_types.specs.declared.names.Value.TheVariants as value
use Rattle.qc_eval.specs.declared.item.Form.{Form}
use Rattle.qc_eval.specs.declared.item.Form.TheVariants as form

pub record Shown : Type 0 where
  pub value : Value
  pub capacity : ℕ

-- the value of a form, of which a text stands in a buffer
abbrev pub form_value : Form → List ℕ → Value
form_value form.Null text = value.Null
form_value (form.Int n) text = value.Int n
form_value (form.Wide n) text = value.Int n
form_value form.Str text = value.Str text
