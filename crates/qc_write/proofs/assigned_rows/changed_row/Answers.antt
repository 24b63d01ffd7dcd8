use Rattle.std.proofs.Common.{◌≡◌, ◌∙◌, sym, map, List, Option}
use Rattle.std.proofs.lemmas.Result.{err_from_is_err_and}
use Rattle.qc_types.specs.declared.names.Value.{Value}
use Rattle.qc_eval.specs.Entries.{entry_at}
use Rattle.qc_write.specs.Placing.{changed_row, placed, placing_of}
use Rattle.qc_resolve.proofs.Exits.{refused_too}
use Rattle.qc_write.proofs.Turns.{change_refused, changed_none, changed_some}
use Rattle.qc_write.proofs.assigned_rows.changed_row.Goals as goal

pub returns-in_err-new : goal.returns-in_err-new
returns-in_err-new g c =
    let p = err_from_is_err_and c.from_residual-in_err-new.result c.from_residual-in_err-new.ensures.1 in
    let sets = map placing_of c.args.sets.now in
    let row = (entry_at c.args.version.now.rows c.args.row).1 in
    rw (p.1, p.2)
    (refused_too (λ (r : List Value). r) (λ (r : Option (List Value)). r) c.in_err-new.field-0.0 (placed sets c.in_ok-old.old) (changed_row sets row)
    (λ e h. change_refused sets c.in_ok-old.old row e c.in_ok-old.ensures.values h)
    c.in_err-new.ensures.gives)

pub returns-then-same_values : goal.returns-then-same_values
returns-then-same_values g c =
    changed_none (map placing_of c.args.sets.now) c.in_ok-old.old (entry_at c.args.version.now.rows c.args.row).1 c.in_ok-new.new c.items.result.now c.items-2.result.now
    c.in_ok-old.ensures.values c.in_ok-new.ensures.gives c.items.ensures c.items-2.ensures c.if-same_values.ensures

pub returns : goal.returns
returns g c =
    changed_some (map placing_of c.args.sets.now) c.in_ok-old.old (entry_at c.args.version.now.rows c.args.row).1 c.in_ok-new.new c.items.result.now c.items-2.result.now
    c.in_ok-old.ensures.values c.in_ok-new.ensures.gives c.items.ensures c.items-2.ensures c.if-same_values.ensures
