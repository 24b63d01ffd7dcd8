-- For who calls on a holding: what stays from one call to the next.
use Rattle.std.proofs.Common.{◌≡◌, ◌≢◌, ℕ, ◌+◌, false, Some, List, [], ◌∷◌, ◌++◌, inl, inr, ⊎_elim, refl, sym, ap, ◌∙◌, subst, append-nil, ne_eqb}
use Rattle.std.proofs.lemmas.List.Elements.{filter-append}
use Rattle.qc_turn.specs.Releases.{Follows}
use Rattle.qc_turn.specs.Tasks.{KeepsListed, FoundIdle, IsEnded}
use Rattle.qc_turn.specs.Views.{base_of, with_holding, names, of_seat}
use Rattle.qc_turn.specs.declared.task.ListedTask.{ListedTask}
use Rattle.qc_turn.specs.declared.kept.Kept.{Ghosts}
use Rattle.qc_turn.specs.declared.view.Holding.TheVariants.{Holds}
use Rattle.qc_turn.specs.Seats.{Held, holder, words, taken, IsHeld, SameHolder, with_value}
use Rattle.qc_turn.proofs.Tasks.{starts_refl, starts_trans}

module _ {V E : Type 0} {K : Ghosts V E} where
  pub taken_is : (h k : Held V E K) → SameHolder h k → taken k ≡ taken h
  taken_is h k s = ap (λ v. base_of k.value v.holding) s.holder

  pub number_is : (h k : Held V E K) → SameHolder h k → (holder k).number ≡ (holder h).number
  number_is h k s = ap (λ v. v.number) s.holder

  pub same_on : (h k m : Held V E K) → SameHolder h k → SameHolder k m → SameHolder h m
  same_on h k m s t = record {
    seat = t.seat ∙ s.seat;
    turn = t.turn ∙ s.turn;
    holder = t.holder ∙ (ap (λ v. with_holding v (Holds (taken k) (words m))) s.holder ∙ ap (λ b. with_holding (holder h) (Holds b (words m))) (taken_is h k s));
  }

  pub same_value : (h : Held V E K) (x : V) → IsHeld h → SameHolder h (with_value h x)
  same_value h x held = record { seat = refl; turn = refl; holder = ap (λ g. with_holding (holder h) g) held.holding }

  pub held_value : (h : Held V E K) (x : V) → IsHeld h → IsHeld (with_value h x)
  held_value h x held = record { table = held.table; out = held.out; holding = held.holding ∙ ap (λ b. Holds b (words h)) (sym (ap (λ g. base_of x g) held.holding)); width = held.width }

keeps_on : (idle : List ℕ) (k : ℕ) (a b c : List ListedTask) → KeepsListed idle k a b → KeepsListed idle k b c → KeepsListed idle k a c
keeps_on idle k a b c p q = ⊎_elim
    (λ (e : c ≡ b). subst (KeepsListed idle k a) (sym e) p)
    (λ (r : FoundIdle idle k × IsEnded k b × (c ≡ [])). ⊎_elim
    (λ (e : b ≡ a). inr (r.0, subst (IsEnded k) e r.1, r.2))
    (λ (i : FoundIdle idle k × IsEnded k a × (b ≡ [])). inr (r.0, i.1, r.2))
    p)
    q

module _ {V E : Type 0} (K : Ghosts V E) where
  pub follows_refl : (n : ℕ) (q : List ℕ) (x : V) → Follows K n q x x
  follows_refl n q x = record { journal = starts_refl (K.journal x); others = λ k ne. refl; fixed = refl; connected = λ k ne. refl; tasks = λ k ne. inl refl }

  pub follows_on : (n : ℕ) (q : List ℕ) (b x y : V) → Follows K n q b x → Follows K n q x y → Follows K n q b y
  follows_on n idle b x y p q = record {
    journal = starts_trans (K.journal y) (K.journal x) (K.journal b) q.journal p.journal;
    others = λ k ne. q.others k ne ∙ p.others k ne;
    fixed = q.fixed ∙ p.fixed;
    connected = λ k ne. q.connected k ne ∙ p.connected k ne;
    tasks = λ k ne. keeps_on idle k _ _ _ (p.tasks k ne) (q.tasks k ne);
  }

  -- an event that names the session s
  of_seat_one : (k : ℕ) (e : E) (s : ℕ) → K.session e ≡ Some s → k ≢ s + 1 → of_seat K k (e ∷ []) ≡ []
  of_seat_one k e s is ne = let t : names (K.session e) k ≡ false = ap (λ o. names o k) is ∙ ne_eqb (s + 1) k (λ z. ne (sym z)) in rw t refl

  -- one more event of a session, which is no other's
  pub of_seat_else : (k : ℕ) (es : List E) (e : E) (s : ℕ) → K.session e ≡ Some s → k ≢ s + 1 → of_seat K k (es ++ e ∷ []) ≡ of_seat K k es
  of_seat_else k es e s is ne = filter-append (λ x. names (K.session x) k) es (e ∷ []) ∙ (ap (λ l. of_seat K k es ++ l) (of_seat_one k e s is ne) ∙ append-nil (of_seat K k es))
