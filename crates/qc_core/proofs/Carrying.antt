-- Words are carried down.
use Rattle.std.proofs.Common.{◌≡◌, ◌≢◌, ℕ, ◌+◌, ◌-◌, ◌<◌, ◌≤◌, true, false, List, length, get_or, set, refl, sym, ap, subst, ◌∙◌, arith, eqb, eqb-true, eq-eqb, true≢false}
use Rattle.std.proofs.lemmas.List.{get_or-set_same, get_or-set_other, length-set}
use Rattle.qc_tiles.specs.declared.blocks.Move.{Move}
use Rattle.qc_turn.specs.declared.kept.Kept.{Ghosts}
use Rattle.qc_turn.specs.Tasks.{OutsideOtherFills}
use Rattle.qc_turn.specs.Releases.{IsFreeOfOthers}
use Rattle.qc_turn.specs.Views.{idle_of}
use Rattle.qc_turn.specs.Seats.{Held, holder, words, taken, IsHeld, SameHolder}
use Rattle.qc_turn.proofs.Holders.{taken_is, number_is, same_on}
use Rattle.qc_core.specs.Compaction.{MayCarry, HasCarried}
use Rattle.qc_core.proofs.Spelling.{is_same, outside_on}

module _ {V E : Type 0} {K : Ghosts V E} where
  pub carry_start : (h : Held V E K) (change : Move) → IsHeld h → HasCarried h h change 0
  carry_start h change held =
      let s = is_same h held in
      record { held = held; same = s.same; value = refl; ranges = refl; long = refl; carried = λ i low. absurd (omega (arith, low)); left = λ i low. refl; below = λ j low. refl }

  -- the words of the move may be read and written still
  pub carry_reads : (h k : Held V E K) (change : Move) (x : ℕ) → SameHolder h k → MayCarry h change → change.to ≤ x → x < change.from + change.words → OutsideOtherFills (holder k).number (K.tasks (taken k)) x
  carry_reads h k change x same may low high = outside_on h k x same (may.free x low high).0

  pub carry_writes : (h k : Held V E K) (change : Move) (x : ℕ) → SameHolder h k → MayCarry h change → change.to ≤ x → x < change.from + change.words → IsFreeOfOthers K (holder k).number (idle_of (holder k).found) x (taken k)
  carry_writes h k change x same may low high =
      subst (λ (p : ℕ × List ℕ × V). IsFreeOfOthers K p.0 p.1 x p.2) (λ i. (sym (number_is h k same) i, sym (ap (λ v. idle_of v.found) same.holder) i, sym (taken_is h k same) i)) (may.free x low high).1

  -- one word more
  pub carry_on : (h k m g : Held V E K) (change : Move) (i word : ℕ) → MayCarry h change → i < change.words → HasCarried h k change i → IsHeld g → SameHolder k m → words m ≡ words k → m.value ≡ k.value → m.ranges ≡ k.ranges
      → SameHolder m g → g.value ≡ m.value → g.ranges ≡ m.ranges → word ≡ get_or (words k) (change.from + i) 0 → words g ≡ set (words m) (change.to + i) word → HasCarried h g change (i + 1)
  carry_on h k m g change i word may inside c held sm wm vm rm sg vg rg read stored =
      let now : words g ≡ set (words k) (change.to + i) word = stored ∙ ap (λ l. set l (change.to + i) word) wm in
      let long : length (set (words k) (change.to + i) word) ≡ length (words k) = length-set (words k) (change.to + i) word in
      record {
        held = held;
        same = same_on h k g c.same (same_on k m g sm sg);
        value = vg ∙ (vm ∙ c.value);
        ranges = rg ∙ (rm ∙ c.ranges);
        long = ap (λ (l : List ℕ). length l) now ∙ (long ∙ c.long);
        carried = λ j low. carried_by j low;
        left = λ j low.
            let ne : change.from + j ≢ change.to + i = λ z. omega (arith, z, may.down, low) in
            ap (λ l. get_or l (change.from + j) 0) now ∙ (get_or-set_other (words k) (change.to + i) (change.from + j) word 0 ne ∙ c.left j (omega (arith, low)));
        below = λ j low.
            let ne : j ≢ change.to + i = λ z. omega (arith, z, low) in
            ap (λ l. get_or l j 0) now ∙ (get_or-set_other (words k) (change.to + i) j word 0 ne ∙ c.below j low);
      }
    where
      carried_by : (j : ℕ) → j < i + 1 → get_or (words g) (change.to + j) 0 ≡ get_or (words h) (change.from + j) 0
      carried_by j low = elim (eqb j i) as (λ b. eqb j i ≡ b → get_or (words g) (change.to + j) 0 ≡ get_or (words h) (change.from + j) 0) [
        | true ↦ λ e.
            let same : j ≡ i = eqb-true j i e in
            let within : change.to + i < length (words k) = omega (arith, c.long, may.within, may.down, inside) in
            ap (λ n. get_or (words g) (change.to + n) 0) same
            ∙ (ap (λ l. get_or l (change.to + i) 0) (stored ∙ ap (λ l. set l (change.to + i) word) wm)
            ∙ (get_or-set_same (words k) (change.to + i) word 0 within ∙ (read ∙ (c.left i (omega arith) ∙ ap (λ n. get_or (words h) (change.from + n) 0) (sym same)))))
        | false ↦ λ e.
            let apart : j ≢ i = λ z. true≢false (sym (eq-eqb j i z) ∙ e) in
            let ne : change.to + j ≢ change.to + i = λ z. apart (omega (arith, z)) in
            ap (λ l. get_or l (change.to + j) 0) (stored ∙ ap (λ l. set l (change.to + i) word) wm)
            ∙ (get_or-set_other (words k) (change.to + i) (change.to + j) word 0 ne ∙ c.carried j (omega (arith, low, apart)))
      ] refl
