-- The first seat meets those that it has split off.
use Rattle.std.proofs.Common.{◌≡◌, ℕ, ◌+◌, ◌-◌, Option, Some, None, List, [], ◌∷◌, ◌++◌, length, ap, refl, ◌∙◌, arith}
use Rattle.std.specs.Prelude.{slice_set}
use Rattle.qc_model.specs.declared.events.Event.{Event}
use Rattle.qc_turn.specs.declared.view.MetSeat.{MetSeat}
use Rattle.qc_fault_tests.specs.Seats.{HasMet, MeetsMore}

set_among : {A : Type 0} (xs ys : List A) (a b : A) → slice_set ((xs ++ a ∷ []) ++ ys) (length xs) b ≡ xs ++ b ∷ ys
set_among [] ys a b = refl
set_among (x ∷ xs) ys a b = ap (λ l. x ∷ l) (set_among xs ys a b)

-- one was, and behind it others were split off and met
pub met_among : (r0 r1 r2 r3 : List (Option (MetSeat Event))) (n : ℕ) → r1 ≡ r0 ++ None ∷ [] → MeetsMore r1 r2 → n ≡ length r0 + 2 → HasMet n r2 r3 → MeetsMore r0 r3
met_among r0 r1 r2 r3 n split more is met =
    let at : n - 2 ≡ length r0 = omega (arith, is) in
    let grown : r2 ≡ (r0 ++ None ∷ []) ++ more.0 = more.1 ∙ ap (λ l. l ++ more.0) split in
    let set : r3 ≡ slice_set ((r0 ++ None ∷ []) ++ more.0) (length r0) (Some met.0) = met.1 ∙ (λ i. slice_set (grown i) (at i) (Some met.0)) in
    (Some met.0 ∷ more.0, set ∙ set_among r0 more.0 None (Some met.0), more.2)
