use Rattle.std.proofs.Common.{length, ap, ◌∙◌}
use Rattle.qc_sql.specs.Database.{Table}
use Rattle.qc_table.specs.Views.{RowValues, row_values}
use Rattle.qc_table.proofs.Rows.{row_length, row_at_fits}
use Rattle.qc_table.proofs.table_version.TableVersion.row.Goals as goal

pub returns-clause-full : goal.returns-clause-full
returns-clause-full g c =
    let t = c.args.self.now in
    ap (λ (v : RowValues). length v.values) (c.new.ensures ∙ ap (λ (s : Table). row_values s c.args.row) c.read.ensures.value) ∙ row_length t.columns _ (row_at_fits t.columns t.rows c.args.row c.read.ensures.stored.sound.rows c.requires)
