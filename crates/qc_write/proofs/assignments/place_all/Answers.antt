use Rattle.std.proofs.Common.{◌≡◌, ◌∙◌, sym, ap, ◌∷◌, ◌++◌, [], Ok, Err, map, List}
use Rattle.std.proofs.lemmas.List.{map-append}
use Rattle.std.proofs.lemmas.Result.{err_from_is_err_and}
use Rattle.qc_sql.specs.Rows.{◌>>=◌, each}
use Rattle.qc_resolve.specs.Steps.{run, push_made}
use Rattle.qc_resolve.proofs.Steps.{each_by_run, run_ended, run_on, run_refused}
use Rattle.qc_write.specs.declared.assignments.Placed.{Placed}
use Rattle.qc_write.specs.Placing.{assignment_placed, placing_of}
use Rattle.qc_resolve.proofs.Exits.{refused_too}
use Rattle.qc_write.proofs.assignments.place_all.Goals as goal

pub loop-assignment-init : goal.loop-assignment-init
loop-assignment-init c =
    let f = assignment_placed c.args.columns.now in
    each_by_run f c.args.assignments.now ∙ ap (λ (ps : List Placed). run (push_made f) c.args.assignments.now (map placing_of ps)) (sym c.new-placed.ensures.items)

pub returns-in_err-place : goal.returns-in_err-place
returns-in_err-place c =
    let p = err_from_is_err_and c.from_residual.result c.from_residual.ensures.1 in
    let f = assignment_placed c.args.columns.now in
    let x = c.assignment-item.result in
    let so_far = map placing_of c.loop-assignment.placed.items in
    rw (p.1, p.2)
    (refused_too placing_of (λ x. x) c.in_err-place.field-0.0 (f x) (each f c.args.assignments.now)
    (λ e h. c.loop-assignment.invariant
    ∙ run_refused (push_made f) c.args.assignments.now c.loop-assignment.assignment-index x so_far e c.loop-assignment-test.true c.assignment-item.is
    (ap (λ r. r >>= λ y. Ok (so_far ++ y ∷ [])) h))
    c.in_err-place.ensures)

pub loop-assignment-preserved : goal.loop-assignment-preserved
loop-assignment-preserved c =
    let f = assignment_placed c.args.columns.now in
    let x = c.assignment-item.result in
    let so_far = map placing_of c.loop-assignment.placed.items in
    c.loop-assignment.invariant
    ∙ run_on (push_made f) c.args.assignments.now c.loop-assignment.assignment-index x so_far (map placing_of c.push.new.self.items) c.loop-assignment-test.true c.assignment-item.is
    (ap (λ r. r >>= λ y. Ok (so_far ++ y ∷ [])) c.in_ok-place.ensures
    ∙ ap Ok (sym (ap (map placing_of) c.in_ok-push.ensures.items ∙ map-append placing_of c.loop-assignment.placed.items (c.in_ok-place.field-0 ∷ []))))
