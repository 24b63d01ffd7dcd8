-- A column shows what the row has there.
use Rattle.std.proofs.Common.{◌∙◌, sym}
use Rattle.qc_table.proofs.Rows.{column_shows}
use Rattle.qc_table.proofs.views.ColumnView.int.Goals as goal

pub returns : goal.returns
returns c = rw (← c.self.view_is) (c.int.ensures ∙ sym (column_shows c.self.inside.table.now.rows c.args.row c.self.inside.column))
