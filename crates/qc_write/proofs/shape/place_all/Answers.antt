use Rattle.std.proofs.Common.{◌≡◌, ◌∙◌, sym, ap, true, false, refl, Bool, ℕ, List, [], ◌∷◌, ◌+◌, ◌++◌, drop, Err, Option}
use Rattle.std.specs.Prelude.{◌&&◌, not, is_some}
use Rattle.qc_sql.specs.declared.tables.Column.{Column}
use Rattle.qc_sql.specs.Errors.{value_needed}
use Rattle.qc_sql.specs.Effects.{may_be_null}
use Rattle.qc_write.specs.Inserts.{place_of, places}
use Rattle.qc_write.specs.Lists.{borrowed}
use Rattle.qc_resolve.proofs.Lists.{map_on}
use Rattle.qc_write.proofs.Inserts.{lacks_it, lacks_no}
use Rattle.qc_write.proofs.shape.place_all.Goals as goal
use Rattle.qc_write.proofs.shape.place_all.Goals.{else-not-may_be_null-via-then-not-may_be_null+else-is_none, else-not-may_be_null-via-else-not-may_be_null}

and_false : (a b : Bool) → b ≡ false → (a && b) ≡ false
and_false true b h = h
and_false false b h = refl

false_and : (a b : Bool) → a ≡ true → (not a && b) ≡ false
false_and a b h = rw h refl

pub returns-then-is_none-clause-gives : goal.returns-then-is_none-clause-gives
returns-then-is_none-clause-gives c =
    let d = c.column-item.result in
    let named = borrowed c.args.named.now in
    let may : may_be_null d ≡ false = sym c.may_be_null.ensures ∙ c.if-not-may_be_null.true in
    let placed : is_some (place_of d.name named) ≡ false = ap is_some (sym c.place_of-place.ensures) ∙ c.is_none.ensures ∙ ap not c.if-is_none.true in
    c.loop-column.invariant.gives
    ∙ lacks_it named c.args.columns.now c.loop-column.column-index d c.loop-column-test.true c.column-item.is (λ j. not (may j) && not (placed j))
    ∙ ap Err (sym (c.in_ok-value_needed.ensures ∙ ap value_needed c.bytes.ensures))

pub loop-column-preserved : goal.loop-column-preserved
loop-column-preserved c =
    let d = c.column-item.result in
    let named = borrowed c.args.named.now in
    let i = c.loop-column.column-index in
    let fine : (not (may_be_null d) && not (is_some (place_of d.name named))) ≡ false = elim c.else-not-may_be_null.branch [
      | else-not-may_be_null-via-then-not-may_be_null+else-is_none w ↦
          and_false (not (may_be_null d)) (not (is_some (place_of d.name named))) (ap not (ap is_some (sym c.place_of-place.ensures) ∙ w.is_none.ensures ∙ ap not w.if-is_none.false))
      | else-not-may_be_null-via-else-not-may_be_null w ↦ false_and (may_be_null d) (not (is_some (place_of d.name named))) (sym c.may_be_null.ensures ∙ w.if-not-may_be_null.false)
    ] in
    record {
      gives = c.loop-column.invariant.gives ∙ lacks_no named c.args.columns.now i d c.loop-column-test.true c.column-item.is fine;
      all = ap (λ (ps : List (Option ℕ)). ps ++ places named (drop (i + 1) c.args.columns.now)) (c.in_ok-push.ensures.items ∙ ap (λ (p : Option ℕ). c.loop-column.places.items ++ p ∷ []) c.place_of-place.ensures)
          ∙ map_on (λ (e : Column). place_of e.name named) c.loop-column.places.items c.args.columns.now i d c.loop-column-test.true c.column-item.is
          ∙ c.loop-column.invariant.all;
    }
