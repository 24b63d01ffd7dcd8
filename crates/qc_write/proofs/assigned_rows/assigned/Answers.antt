use Rattle.std.proofs.Common.{◌≡◌, ◌∙◌, sym, ap, map, length, List, ℕ, subst, Ok}
use Rattle.std.proofs.lemmas.Result.{err_from_is_err_and}
use Rattle.qc_types.specs.declared.names.Value.{Value}
use Rattle.qc_resolve.specs.Steps.{run}
use Rattle.qc_write.specs.Placing.{IsPlacingIn, assigned_one, placed, placing_of}
use Rattle.qc_resolve.proofs.Exits.{refused_too}
use Rattle.qc_write.proofs.Turns.{mapped_at, mapped_ended, mapped_on, mapped_refused}
use Rattle.qc_write.proofs.assigned_rows.assigned.Goals as goal

pub loop-set-init : goal.loop-set-init
loop-set-init c =
    let same : c.into_vec-new.result.items ≡ c.args.row.now = c.into_vec-new.ensures ∙ c.in_ok-copy.ensures in
    record { so_far = ap (run assigned_one (map placing_of c.args.sets.now)) (sym same); long = ap length same }

pub assign-requires : goal.assign-requires
assign-requires c =
    subst (λ (n : ℕ). IsPlacingIn n (placing_of c.set-item.result)) (sym c.loop-set.invariant.long)
    (mapped_at (IsPlacingIn (length c.args.row.now)) placing_of c.args.sets.now c.loop-set.set-index c.set-item.result c.requires c.loop-set-test.true c.set-item.is)

pub returns-in_err-assign-clause-gives : goal.returns-in_err-assign-clause-gives
returns-in_err-assign-clause-gives c =
    let p = err_from_is_err_and c.from_residual-in_err-assign.result c.from_residual-in_err-assign.ensures.1 in
    let sets = c.args.sets.now in
    rw (p.1, p.2)
    (refused_too (λ (u : Unit {0}). c.assign.new.row.items) (λ (r : List Value). r) c.in_err-assign.field-0.0 (assigned_one (placing_of c.set-item.result) c.loop-set.new.items) (placed (map placing_of sets) c.args.row.now)
    (λ e h. c.loop-set.invariant.so_far ∙ mapped_refused assigned_one placing_of sets c.loop-set.set-index c.set-item.result c.loop-set.new.items e c.loop-set-test.true c.set-item.is h)
    c.in_err-assign.ensures.gives)

pub loop-set-preserved : goal.loop-set-preserved
loop-set-preserved c = record {
  so_far = c.loop-set.invariant.so_far
      ∙ mapped_on assigned_one placing_of c.args.sets.now c.loop-set.set-index c.set-item.result c.loop-set.new.items c.assign.new.row.items c.loop-set-test.true c.set-item.is c.in_ok-assign.ensures.gives;
  long = c.in_ok-assign.ensures.full ∙ c.loop-set.invariant.long;
}

pub returns-clause-gives : goal.returns-clause-gives
returns-clause-gives c =
    c.loop-set.invariant.so_far ∙ mapped_ended assigned_one placing_of c.args.sets.now c.loop-set.set-index c.loop-set.new.items c.loop-set-test.false ∙ ap (λ (r : List Value). Ok r) (sym c.from_vec.ensures)
