use Rattle.std.proofs.Common.{◌≡◌, ◌∙◌, sym, ap, ◌∷◌, ◌++◌, [], List, take, arith}
use Rattle.std.proofs.lemmas.List.{take_more, take_all}
use Rattle.qc_types.specs.declared.names.Value.{Value}
use Rattle.qc_types.specs.declared.names.Value.TheVariants as value
use Rattle.qc_sql.specs.declared.tables.Column.{Column}
use Rattle.qc_table.specs.Views.{kind_at}
use Rattle.qc_write.proofs.KeyColumns.{kind_there}
use Rattle.qc_write.proofs.stored_rows.values_of.Goals as goal

pub value_of-requires : goal.value_of-requires
value_of-requires c =
    ap (λ (cs : List Column). kind_at cs c.loop-index.index) c.requires.same
    ∙ kind_there c.args.columns.now c.loop-index.index c.index-columns-index.result c.loop-index-test.true c.index-columns-index.is

pub loop-index-preserved : goal.loop-index-preserved
loop-index-preserved c =
    c.in_ok-push.ensures.ok ∙ (λ i. c.loop-index.invariant i ++ c.in_ok-value_of.ensures i ∷ [])
    ∙ sym (take_more c.args.view.now.values c.loop-index.index value.Null (let full = c.requires.full in let below = c.loop-index-test.true in omega arith))

pub returns : goal.returns
returns c = c.loop-index.invariant ∙ take_all c.loop-index.index c.args.view.now.values (let full = c.requires.full in let ended = c.loop-index-test.false in omega arith)
