-- A column has of each row what the row has there.
use Rattle.std.proofs.Common.{◌∙◌, sym, ap}
use Rattle.qc_table.specs.Stored.{values_of}
use Rattle.qc_table.specs.Views.{value_at}
use Rattle.qc_table.proofs.Rows.{column_shows}
use Rattle.qc_table.proofs.table_rows.TableRows.int.Goals as goal

pub returns : goal.returns
returns c =
    c.get.ensures ∙ (ap (λ vs. value_at vs c.args.row) (sym (ap values_of c.in-Ints.is) ∙ c.cells.ensures.values) ∙ column_shows c.args.self.now.rows c.args.row c.args.column)
