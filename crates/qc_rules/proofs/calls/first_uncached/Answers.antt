use Rattle.std.proofs.Common.{◌≡◌, ◌∙◌, ap, map, List}
use Rattle.std.specs.Prelude.{Option}
use Rattle.qc_sql.specs.declared.statements.Item.{Item}
use Rattle.qc_sql.specs.Database.{Name}
use Rattle.qc_sql.specs.Rules.{Calls, calls_of, cond_calls, joined}
use Rattle.qc_rules.specs.Functions.{first_name}
use Rattle.qc_rules.proofs.Firsts.{in_first, in_second}
use Rattle.qc_rules.proofs.calls.first_uncached.Goals as goal

abbrev item_calls : List Item → Calls
item_calls items = joined (map (λ item. calls_of item.value) items)

pub returns-in-Some : goal.returns-in-Some
returns-in-Some c =
    let select = c.args.select.now in
    in_first (item_calls select.items) (cond_calls select.cond) c.in-Some.name.now (c.in-Some.ensures ∙ ap (λ items. first_name (item_calls items)) c.items.ensures)

pub returns : goal.returns
returns c =
    let select = c.args.select.now in
    c.in_condition.ensures ∙ in_second (item_calls select.items) (cond_calls select.cond) (c.in_default.ensures ∙ ap (λ items. first_name (item_calls items)) c.items.ensures)
