use Rattle.std.proofs.Common.{◌≡◌, ◌∙◌, sym, ap, Ok, Err, List, ℕ, subst, true, false, Bool}
use Rattle.std.specs.Prelude.{◌&&◌}
use Rattle.std.proofs.lemmas.Result.{err_from_is_err_and}
use Rattle.qc_types.specs.Answers.{Gives}
use Rattle.qc_sql.specs.Rows.{Bound, Scope, each, bind, rows}
use Rattle.qc_resolve.specs.Validated.{validated_over}
use Rattle.qc_resolve.specs.Meaning.{rows_of}
use Rattle.qc_resolve.specs.declared.resolved.Resolved.{Resolved}
use Rattle.qc_resolve.proofs.Agrees.{whole_gives, locked, not_bound, and_left, and_right}
use Rattle.qc_resolve.proofs.Exits.{refused_too}
use Rattle.qc_resolve.proofs.Sizes.{few_given, full_given}
use Rattle.qc_resolve.proofs.select.resolve.Goals as goal
use Rattle.qc_resolve.proofs.select.resolve.Goals.{else-select-via-then-select+else-flags, else-select-via-else-select}

pub returns-then-flags-clause-gives : goal.returns-then-flags-clause-gives
returns-then-flags-clause-gives c =
    locked c.args.select.now c.args.database.now c.args.db.now c.args.flags.now c.args.session c.if-select.true c.if-flags.true ∙ ap Err (sym c.in_ok-not_supported.ensures)

pub returns-in_err-bounds-clause-gives : goal.returns-in_err-bounds-clause-gives
returns-in_err-bounds-clause-gives c =
    let p = err_from_is_err_and c.from_residual-in_err-bounds.result c.from_residual-in_err-bounds.ensures.1 in
    let select = c.args.select.now in
    let flags = c.args.flags.now in
    let free : (select.lock && flags.in_trans) ≡ false =
    elim c.else-select.branch [ else-select-via-then-select+else-flags w ↦ and_right select.lock flags.in_trans w.if-flags.false | else-select-via-else-select w ↦ and_left select.lock flags.in_trans w.if-select.false ] in
    let f = bind c.args.database.now c.args.db.now in
    rw (p.1, p.2)
    (refused_too (λ (bs : List Bound). bs) rows_of c.in_err-bounds.field-0.0 (each f c.items.result.now) (rows select c.args.database.now c.args.db.now flags c.args.session)
    (λ e h. not_bound select c.args.database.now c.args.db.now flags c.args.session e free (ap (each f) (sym c.items.ensures) ∙ h))
    c.in_err-bounds.ensures.gives)

pub returns-clause-gives : goal.returns-clause-gives
returns-clause-gives c =
    let select = c.args.select.now in
    let flags = c.args.flags.now in
    let free : (select.lock && flags.in_trans) ≡ false =
    elim c.else-select.branch [ else-select-via-then-select+else-flags w ↦ and_right select.lock flags.in_trans w.if-flags.false | else-select-via-else-select w ↦ and_left select.lock flags.in_trans w.if-select.false ] in
    whole_gives c.resolve_over.result select c.args.database.now c.args.db.now flags c.args.session c.in_ok-bounds.bounds free
    (ap (each (bind c.args.database.now c.args.db.now)) (sym c.items.ensures) ∙ c.in_ok-bounds.ensures.gives) c.in_ok-bounds.ensures.sound
    (subst (λ (db : List ℕ). Gives (λ (x : Resolved). x) (λ e. e) c.resolve_over.result (validated_over select flags (record { bounds = c.in_ok-bounds.bounds; db = db; session = c.args.session }))) c.in_ok-db.ensures c.resolve_over.ensures)

pub returns-clause-few : goal.returns-clause-few
returns-clause-few c =
    let scope : Scope = record { bounds = c.in_ok-bounds.bounds; db = c.in_ok-db.db; session = c.args.session } in
    few_given c.resolve_over.result c.args.select.now c.args.flags.now scope c.resolve_over.ensures

pub returns-clause-full : goal.returns-clause-full
returns-clause-full c =
    let scope : Scope = record { bounds = c.in_ok-bounds.bounds; db = c.in_ok-db.db; session = c.args.session } in
    full_given c.resolve_over.result c.args.select.now c.args.flags.now scope c.resolve_over.ensures
