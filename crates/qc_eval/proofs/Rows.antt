-- The values of a row in their memory.
use Rattle.std.proofs.Common.{◌≡◌, ℕ, ◌+◌, ◌<◌, ◌≤◌, ◌==◌, Bool, true, false, List, length, get_or, sym, ap, ◌∙◌, subst, arith, refl}
use Rattle.std.specs.Prelude.{slice_set}
use Rattle.std.proofs.lemmas.Bool.{eqb-true, eq-eqb}
use Rattle.std.proofs.lemmas.List.{get_or-set_same, get_or-set_other, get_or_default}
use borrow.Author.Count.{below_more}
use Rattle.std.proofs.Math.ListN.{length-set}
use Rattle.qc_types.specs.declared.names.Value.{Value}
use Rattle.qc_sql.specs.Database.{Table}
use Rattle.qc_resolve.specs.declared.formula.Formula.{Formula}
use Rattle.qc_eval.specs.Buffers.{Hold, no_buffer, no_formula}
use Rattle.qc_eval.specs.Rooms.{text_room}
use Rattle.qc_eval.specs.Shown.{Shown}

-- one item more is taken
pub fill_one : (index : ℕ) (ts : List Table) (folded : List Value) (items : List Formula) (value : Formula → Value) (row : List Shown) (item : Formula) (before after : Shown) → index < length items → Hold ts folded items row
    → ((k : ℕ) → k < index → (get_or row k no_buffer).value ≡ value (get_or items k no_formula)) → item ≡ get_or items index item → before ≡ get_or row index before
    → before.capacity ≤ after.capacity → after.value ≡ value item
    → Hold ts folded items (slice_set row index after) × ((k : ℕ) → k < index + 1 → (get_or (slice_set row index after) k no_buffer).value ≡ value (get_or items k no_formula))
fill_one index ts folded items value row item before after within h done is was capacity same = (
  record { long = length-set row index after ∙ h.long; room = λ k r. room k r },
  below_more (λ k. (get_or (slice_set row index after) k no_buffer).value ≡ value (get_or items k no_formula)) index
      (λ k r. ap (λ (b : Shown). b.value) (other k (omega arith)) ∙ done k r)
      (ap (λ (b : Shown). b.value) here ∙ same ∙ ap value (is ∙ get_or_default items index item no_formula within)),
)
  where
    here : get_or (slice_set row index after) index no_buffer ≡ after
    here = get_or-set_same row index after no_buffer (omega (arith, h.long))

    other : (k : ℕ) → (k ≡ index → ⊥) → get_or (slice_set row index after) k no_buffer ≡ get_or row k no_buffer
    other k ne = get_or-set_other row index k after no_buffer ne

    there : before ≡ get_or row index no_buffer
    there = was ∙ get_or_default row index before no_buffer (omega (arith, h.long))

    room : (k : ℕ) → k < length items → text_room ts folded (get_or items k no_formula) ≤ (get_or (slice_set row index after) k no_buffer).capacity
    room k r = by (k == index) refl
      where
        by : (b : Bool) → (k == index) ≡ b → text_room ts folded (get_or items k no_formula) ≤ (get_or (slice_set row index after) k no_buffer).capacity
        by true e =
            let at : k ≡ index = eqb-true k index e in
            let fits : text_room ts folded (get_or items index no_formula) ≤ (get_or row index no_buffer).capacity = h.room index within in
            let grown : (get_or row index no_buffer).capacity ≤ after.capacity = subst (λ (b : Shown). b.capacity ≤ after.capacity) there capacity in
            let held : text_room ts folded (get_or items index no_formula) ≤ after.capacity = omega (arith, fits, grown) in
            subst (λ n. text_room ts folded (get_or items n no_formula) ≤ (get_or (slice_set row index after) n no_buffer).capacity) (sym at) (subst (λ (b : Shown). text_room ts folded (get_or items index no_formula) ≤ b.capacity) (sym here) held)
        by false e = subst (λ (b : Shown). text_room ts folded (get_or items k no_formula) ≤ b.capacity) (sym (other k (λ at. let no : false ≡ true = sym e ∙ eq-eqb k index at in cc))) (h.room k r)
