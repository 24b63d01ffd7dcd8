-- What stays of a holding when its value changes.
use Rattle.std.proofs.Common.{◌≡◌, ℕ, List, sym, ap, subst}
use Rattle.qc_turn.specs.declared.kept.Kept.{Ghosts}
use Rattle.qc_chain.specs.Chains.{Ranged}
use Rattle.qc_turn.specs.Releases.{Follows}
use Rattle.qc_turn.specs.Views.{idle_of}
use Rattle.qc_turn.specs.Seats.{Held, holder, words, taken, IsHeld, SameHolder, MayRelease, with_value, with_ranges}
use Rattle.qc_turn.proofs.Holders.{same_value, held_value, follows_on, taken_is, number_is}
use Rattle.qc_core.specs.KeySpelling.{IsSame}
use Rattle.qc_core.proofs.Spelling.{is_same}

module _ {V E : Type 0} {K : Ghosts V E} where
  -- a value that is sound and follows the one before may stand in its place
  pub value_stands : (h : Held V E K) (x : V) → MayRelease h → K.sound (words h) x → Follows K (holder h).number (idle_of (holder h).found) h.value x → MayRelease (with_value h x) × SameHolder h (with_value h x)
  value_stands h x stands sound follows =
      let same = same_value h x stands.held in (
        record {
          held = held_value h x stands.held;
          sound = sound;
          follows = subst (λ b. Follows K (holder h).number (idle_of (holder h).found) b x) (sym (taken_is h (with_value h x) same)) (follows_on K (holder h).number (idle_of (holder h).found) (taken h) h.value x stands.follows follows);
        },
        same,
      )

  -- and other blocks in hand
  pub both_stand : (h : Held V E K) (r : Ranged) (x : V) → MayRelease h → K.sound (words h) x → Follows K (holder h).number (idle_of (holder h).found) h.value x → MayRelease (with_value (with_ranges h r) x) × SameHolder h (with_value (with_ranges h r) x)
  both_stand h r x stands sound follows =
      let g : MayRelease (with_ranges h r) = record {
        held = record { table = stands.held.table; out = stands.held.out; holding = stands.held.holding; width = stands.held.width };
        sound = stands.sound;
        follows = stands.follows;
      } in
      let p = value_stands (with_ranges h r) x g sound follows in
      (p.0, record { seat = p.1.seat; turn = p.1.turn; holder = p.1.holder })

  -- a holding in which nothing changed stands as well
  pub stands_same : (h k : Held V E K) → IsSame h k → MayRelease h → MayRelease k
  stands_same h k same st = record {
    held = same.held;
    sound = subst (λ (p : List ℕ × V). K.sound p.0 p.1) (λ i. (sym same.words i, sym same.value i)) st.sound;
    follows = subst (λ (p : ℕ × List ℕ × V × V). Follows K p.0 p.1 p.2 p.3) (λ i. (sym (number_is h k same.same) i, sym (ap (λ v. idle_of v.found) same.same.holder) i, sym (taken_is h k same.same) i, sym same.value i)) st.follows;
  }

  -- so does one whose value was lent and came back
  pub lent : (P : Held V E K → Type 0) (h : Held V E K) (x : V) → x ≡ h.value → P h → P (with_value h x)
  lent P h x same p = subst (λ y. P (with_value h y)) (sym same) p

  pub lent_same : (h : Held V E K) (x : V) → IsHeld h → x ≡ h.value → IsSame h (with_value h x)
  lent_same h x held same = lent (λ k. IsSame h k) h x same (is_same h held)
