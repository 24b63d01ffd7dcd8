use Rattle.std.proofs.Common.{length, sym, ap, arith}
use Rattle.qc_eval.proofs.Places.{missing, present}
use Rattle.qc_eval.proofs.SortKeys.{behind_columns, by_position}
use Rattle.qc_eval.proofs.sorting.keys.shown.Goals as goal

pub returns-in_default-clause-value : goal.returns-in_default-clause-value
returns-in_default-clause-value g c i =
    let behind = missing c.items-columns.result.now c.args.column (sym c.in_default.ensures) in
    sym (behind_columns c.args.table.now i c.args.column c.columns.ensures.sound (omega (arith, ap length c.items-columns.ensures, ap length c.columns.ensures.value)))

pub column-view-requires : goal.column-view-requires
column-view-requires g c =
    let there = present c.items-columns.result.now c.args.column _ (sym c.in-Some.ensures) in omega (arith, there, ap length c.items-columns.ensures, ap length c.columns.ensures.value)

pub returns-clause-value : goal.returns-clause-value
returns-clause-value g c i = by_position c.args.table.now c.args.column c.column-view.result c.count-count.result c.match-of_table.number c.column-view.ensures.view i
