use Rattle.std.proofs.Common.{◌≡◌, ◌∙◌, sym, ap, ◌<◌, ◌++◌, [], Ok, List, Option, get_or, length, map}
use Rattle.std.proofs.lemmas.Result.{err_from_is_err_and}
use Rattle.qc_types.specs.declared.names.Value.{Value}
use Rattle.qc_sql.specs.declared.tables.RowOp.{RowOp}
use Rattle.qc_sql.specs.Rows.{◌>>=◌}
use Rattle.qc_resolve.specs.Steps.{run}
use Rattle.qc_eval.specs.Entries.{entry_at}
use Rattle.qc_resolve.proofs.Steps.{run_ended, run_on, run_refused}
use Rattle.qc_write.specs.Placing.{changed_row, placing_of, put_of, put_step}
use Rattle.qc_resolve.proofs.Exits.{refused_too}
use Rattle.qc_write.proofs.Turns.{number_at, number_is}
use Rattle.qc_write.proofs.assigned_rows.put_rows.Goals as goal

pub changed_row-requires-clause-row : goal.changed_row-requires-clause-row
changed_row-requires-clause-row g c = number_at (λ i. i < length c.args.target.now.version.now.rows) c.args.rows.now c.loop-row.row-index c.requires.rows c.loop-row-test.true

pub returns-in_err-new : goal.returns-in_err-new
returns-in_err-new g c =
    let p = err_from_is_err_and c.from_residual.result c.from_residual.ensures.1 in
    let t = c.args.target.now in
    let sets = map placing_of c.args.sets.now in
    let rows = t.version.now.rows in
    let i = c.loop-row.row-index in
    let x = get_or c.args.rows.now i 0 in
    rw (p.1, p.2)
    (refused_too (λ (r : Option (List Value)). r) (λ (ops : List RowOp). ops) c.in_err-new.field-0.0 (changed_row sets (entry_at rows x).1) (run (put_step t.name sets rows) c.args.rows.now [])
    (λ e h. c.loop-row.invariant
    ∙ run_refused (put_step t.name sets rows) c.args.rows.now i x c.loop-row.ops e c.loop-row-test.true (number_is c.args.rows.now i c.loop-row-test.true)
    (ap (λ r. r >>= λ new. Ok (c.loop-row.ops ++ put_of t.name new)) h))
    c.in_err-new.ensures)

pub loop-row-preserved : goal.loop-row-preserved
loop-row-preserved g c =
    let t = c.args.target.now in
    let sets = map placing_of c.args.sets.now in
    let rows = t.version.now.rows in
    let i = c.loop-row.row-index in
    let x = get_or c.args.rows.now i 0 in
    c.loop-row.invariant
    ∙ run_on (put_step t.name sets rows) c.args.rows.now i x c.loop-row.ops c.push_put.new.ops c.loop-row-test.true (number_is c.args.rows.now i c.loop-row-test.true)
    (ap (λ r. r >>= λ new. Ok (c.loop-row.ops ++ put_of t.name new)) c.in_ok-new.ensures ∙ ap Ok (sym c.in_ok-push_put.ensures))

pub returns : goal.returns
returns g c =
    let t = c.args.target.now in
    c.loop-row.invariant ∙ run_ended (put_step t.name (map placing_of c.args.sets.now) t.version.now.rows) c.args.rows.now c.loop-row.row-index c.loop-row.ops c.loop-row-test.false
