-- The first seat meets the seat that it made last but for those made meanwhile.
use Rattle.std.proofs.Common.{◌≡◌, ℕ, ◌+◌, ◌-◌, Option, Some, None, List, [], ◌∷◌, ◌++◌, length, set, refl, sym, ap, ◌∙◌, arith, append-nil}
use Rattle.qc_turn.specs.declared.view.MetSeat.{MetSeat}
use Rattle.qc_memory_tests.specs.Seats.{MeetsAll}

set_at : {A : Type 0} (xs ys : List A) (a b : A) → set ((xs ++ a ∷ []) ++ ys) (length xs) b ≡ xs ++ b ∷ ys
set_at [] ys a b = refl
set_at (x ∷ xs) ys a b = ap (λ l. x ∷ l) (set_at xs ys a b)

module _ {E : Type 0} where
  pub meets_none : (old : List (Option (MetSeat E))) → MeetsAll old old
  meets_none old = record { more = []; longer = sym (append-nil old); met = tt }

  pub meets_one : (old mid new : List (Option (MetSeat E))) (n : ℕ) (kept : MetSeat E) → n ≡ length old + 2 → MeetsAll (old ++ None ∷ []) mid → new ≡ set mid (n - 2) (Some kept) → MeetsAll old new
  meets_one old mid new n kept is m e =
      let at : n - 2 ≡ length old = omega arith in
      record { more = Some kept ∷ m.more; longer = e ∙ ((λ i. set (m.longer i) (at i) (Some kept)) ∙ set_at old m.more None (Some kept)); met = m.met }
