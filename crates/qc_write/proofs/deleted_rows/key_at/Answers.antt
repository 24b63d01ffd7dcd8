use Rattle.std.proofs.Common.{◌≡◌, ◌∙◌, ap, List, w64, rules}
use mir.Val.{SFits}
use Rattle.std.proofs.lemmas.Int.{to_z-of_z}
use Rattle.qc_sql.specs.declared.tables.Column.{Column}
use Rattle.qc_table.specs.Views.{RowValues, kind_at, value_at}
use Rattle.qc_write.proofs.KeyColumns.{key_of_row}
use Rattle.qc_write.proofs.deleted_rows.key_at.Goals as goal

pub int-requires : goal.int-requires
int-requires g c = ap (λ (v : RowValues). kind_at v.columns c.args.column) c.row.ensures.view ∙ c.requires.key.kind

pub returns : goal.returns
returns g c =
    let fits : SFits w64 c.unwrap_or.result = search rules in
    to_z-of_z w64 c.unwrap_or.result fits ∙ c.unwrap_or.ensures
    ∙ key_of_row c.args.version.now.columns c.args.version.now.rows c.args.row c.args.column c.int.result c.columns-columns.ensures.sound.rows c.requires.row c.requires.key
    (c.int.ensures ∙ ap (λ (v : RowValues). value_at v.values c.args.column) c.row.ensures.view)
