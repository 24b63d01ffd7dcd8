use Rattle.std.proofs.Common.{sym, ◌∙◌, ap, List}
use Rattle.std.proofs.lemmas.List.{drop_all}
use Rattle.qc_sql.specs.declared.tables.Column.{Column}
use Rattle.qc_resolve.specs.Columns.{spots_from}
use Rattle.qc_resolve.specs.Validated.{with_spots}
use Rattle.qc_resolve.proofs.Shows.{spot_on}
use Rattle.qc_resolve.proofs.items.Shown.add_table.Goals as goal

pub loop-i-preserved : goal.loop-i-preserved
loop-i-preserved c =
    sym (spot_on c.args.flags.now c.args.aggregated c.loop-i.self c.add_column.new.self c.args.bound.now c.args.slot c.loop-i.i c.items-column-items.result.now c.column-item.result c.loop-i-test.true c.column-item.is c.in_ok-add_column.ensures)
    ∙ c.loop-i.invariant

pub returns : goal.returns
returns c =
    sym (ap (λ (cs : List Column). with_spots c.args.flags.now c.args.aggregated c.loop-i.self (spots_from c.args.bound.now c.args.slot c.loop-i.i cs)) (drop_all c.loop-i.i c.items-column-items.result.now c.loop-i-test.false))
    ∙ c.loop-i.invariant
