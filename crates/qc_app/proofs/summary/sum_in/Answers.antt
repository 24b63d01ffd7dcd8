use Rattle.std.proofs.Common.{◌≡◌, ◌∙◌, ap, arith, map, rules, sym, to_z, of_z}
use Rattle.std.specs.Int.{w128}
use Rattle.std.proofs.lemmas.Int.{to_z-of_z}
use Rattle.qc_sql.specs.Database.{key_value}
use Rattle.qc_table.specs.Views.{ColumnValues, kind_at}
use Rattle.qc_app.proofs.Counts.{column_long, column_summed, no_second, sums_nothing, texts_second}
use Rattle.qc_app.proofs.summary.sum_in.Goals as goal

pub returns-then-columns-lt2 : goal.returns-then-columns-lt2
returns-then-columns-lt2 g c =
    let table = c.args.table.now in
    let columns = c.items-columns.result.now in
    let same = c.items-columns.ensures ∙ c.columns.ensures.value in
    sym (sums_nothing table.columns table.rows (λ is. no_second columns (omega (arith, c.if-columns-lt2.true)) (ap (λ cs. kind_at cs 1) same ∙ is)) c.columns.ensures.sound.rows)

pub sum_of-requires : goal.sum_of-requires
sum_of-requires g c =
    column_long c.args.table.now c.values.result.now (c.values.ensures ∙ ap (λ (v : ColumnValues). map key_value v.values) c.column.ensures.view) c.requires

pub returns-in-Int : goal.returns-in-Int
returns-in-Int g c =
    let whole : to_z w128 (of_z w128 c.sum_of.result) ≡ c.sum_of.result = to_z-of_z w128 c.sum_of.result (search rules) in
    whole ∙ column_summed c.args.table.now c.values.result.now c.sum_of.result (c.values.ensures ∙ ap (λ (v : ColumnValues). map key_value v.values) c.column.ensures.view) c.sum_of.ensures

pub returns-in-Str : goal.returns-in-Str
returns-in-Str g c =
    let table = c.args.table.now in
    let columns = c.items-columns.result.now in
    let same = c.items-columns.ensures ∙ c.columns.ensures.value in
    sym (sums_nothing table.columns table.rows (λ is. texts_second columns _ c.in-Str.field-0 (omega (arith, c.if-columns-lt2.false)) c.in-Str.is (ap (λ cs. kind_at cs 1) same ∙ is)) c.columns.ensures.sound.rows)
