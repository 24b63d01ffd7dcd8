use Rattle.std.proofs.Common.{refl, sym, ◌∙◌, ap}
use Rattle.std.specs.Prelude.{Some, None}
use Rattle.qc_sql.specs.Rules.{select_calls}
use Rattle.qc_rules.specs.Functions.{first_name}
use Rattle.qc_rules.proofs.Reasons.{reason_is}
use Rattle.qc_rules.proofs.validate.verdict.Goals as goal

pub returns-in-Some : goal.returns-in-Some
returns-in-Some c =
    let select = c.args.select.now in
    reason_is c.args.db.now select c.items-sources.result.now (Some c.in-Some.table) (first_name (select_calls select)) c.items-sources.ensures c.if-select.false c.if-is_empty.ensures
    (sym c.in-Some.is ∙ c.in_ok-table.ensures) refl

pub returns-in_ok-name-in-Some-first_uncached : goal.returns-in_ok-name-in-Some-first_uncached
returns-in_ok-name-in-Some-first_uncached c =
    reason_is c.args.db.now c.args.select.now c.items-sources.result.now None (Some c.in_ok-name-in-Some-first_uncached.name) c.items-sources.ensures c.if-select.false c.if-is_empty.ensures
    (sym c.in_default.is ∙ c.in_ok-table.ensures) (ap Some (c.in_ok-name-in-Some-first_uncached.ensures ∙ c.as_bytes.ensures.value) ∙ c.in-Some-first_uncached.ensures)

pub returns-in-None : goal.returns-in-None
returns-in-None c =
    reason_is c.args.db.now c.args.select.now c.items-sources.result.now None None c.items-sources.ensures c.if-select.false c.if-is_empty.ensures
    (sym c.in_default.is ∙ c.in_ok-table.ensures) c.in-None.ensures
