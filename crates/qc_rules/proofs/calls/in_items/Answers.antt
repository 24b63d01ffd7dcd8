use Rattle.std.proofs.Common.{◌∙◌}
use Rattle.qc_sql.specs.Rules.{calls_of}
use Rattle.qc_rules.proofs.Firsts.{name_at, no_name_at}
use Rattle.qc_rules.proofs.calls.in_items.Goals as goal

pub returns-in-Some : goal.returns-in-Some
returns-in-Some c =
    name_at (λ item. calls_of item.value) c.args.items.now c.loop-item.item-index c.item-item.result c.in-Some.name.now c.loop-item-test.true c.item-item.is c.in-Some.ensures ∙ c.loop-item.invariant

pub loop-item-preserved : goal.loop-item-preserved
loop-item-preserved c =
    no_name_at (λ item. calls_of item.value) c.args.items.now c.loop-item.item-index c.item-item.result c.loop-item-test.true c.item-item.is c.in_default.ensures ∙ c.loop-item.invariant
