use Rattle.std.proofs.Common.{get_or, sym, ap, ◌∙◌}
use Rattle.qc_types.specs.declared.names.Value.TheVariants as value
use Rattle.qc_eval.proofs.Places.{no_table}
use Rattle.qc_eval.proofs.SortKeys.{at_place}
use Rattle.qc_eval.proofs.sorting.keys.column_of.Goals as goal

pub returns-in_default-clause-value : goal.returns-in_default-clause-value
returns-in_default-clause-value g c rows = ap (λ row. get_or row c.args.place.column value.Null) (sym (no_table c.args.tables.now rows c.args.place.slot (sym c.in_default.ensures)))

pub returns-clause-value : goal.returns-clause-value
returns-clause-value g c rows =
    c.shown.ensures.value _ ∙ ap (λ row. get_or row c.args.place.column value.Null) (sym (at_place c.args.tables.now rows c.args.place.slot _ (sym c.in-Some.ensures)))
