use Rattle.std.proofs.Common.{◌≡◌, ◌∙◌, sym, ap, ◌<◌, ◌∷◌, ◌++◌, [], List, ℕ, length, map, take, get_or, subst, w64, rules}
use mir.Val.{SFits}
use Rattle.std.proofs.lemmas.Int.{to_z-of_z}
use Rattle.std.proofs.lemmas.List.{map-append, take_more, take_all}
use Rattle.qc_sql.specs.declared.tables.Column.{Column}
use Rattle.qc_sql.specs.declared.tables.RowOp.{RowOp}
use Rattle.qc_sql.specs.declared.tables.RowOp.TheVariants as op
use Rattle.qc_model.specs.Licence.{columns_fit}
use Rattle.qc_eval.specs.Entries.{entry_at}
use Rattle.qc_write.specs.Removing.{IsKeyColumn, del_of}
use Rattle.qc_write.proofs.Turns.{number_at}
use Rattle.qc_write.proofs.deleted_rows.del_rows.Goals as goal

pub key_column-column-requires : goal.key_column-column-requires
key_column-column-requires g c =
    ap columns_fit (c.items.ensures ∙ c.columns.ensures.value) ∙ c.columns.ensures.sound.columns

pub key_at-key-requires-clause-row : goal.key_at-key-requires-clause-row
key_at-key-requires-clause-row g c = number_at (λ i. i < length c.args.target.now.version.now.rows) c.args.rows.now c.loop-row.row-index c.requires c.loop-row-test.true

pub key_at-key-requires-clause-key : goal.key_at-key-requires-clause-key
key_at-key-requires-clause-key g c =
    subst (λ (cs : List Column). IsKeyColumn cs c.key_column-column.result) (c.items.ensures ∙ c.columns.ensures.value) c.key_column-column.ensures

pub loop-row-preserved : goal.loop-row-preserved
loop-row-preserved g c =
    let f : ℕ → RowOp = λ i. del_of c.args.target.now.name (entry_at c.args.target.now.version.now.rows i) in
    let i = c.loop-row.row-index in
    let rows = c.args.rows.now in
    let fits : SFits w64 c.key_at-key.result = search rules in
    c.in_ok-push.ensures.ok ∙ (λ j. c.loop-row.invariant j ++ op.Del (c.in_ok-duplicate.ensures j) ((to_z-of_z w64 c.key_at-key.result fits ∙ c.key_at-key.ensures) j) ∷ [])
    ∙ sym (ap (map f) (take_more rows i 0 c.loop-row-test.true) ∙ map-append f (take i rows) (get_or rows i 0 ∷ []))

pub returns : goal.returns
returns g c =
    c.loop-row.invariant ∙ ap (map (λ i. del_of c.args.target.now.name (entry_at c.args.target.now.version.now.rows i))) (take_all c.loop-row.row-index c.args.rows.now c.loop-row-test.false)
