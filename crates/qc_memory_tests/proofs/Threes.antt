-- The first seat has seen what the second one added, and nothing else.
use Rattle.std.proofs.Common.{◌≡◌, ◌≢◌, ℕ, zero, suc, ◌+◌, ◌-◌, ◌<◌, ◌≤◌, ◌==◌, not, true, false, Some, List, [], ◌∷◌, ◌++◌, length, set, ⊎_elim, refl, sym, ap, ◌∙◌, arith, length-append, append-nil, ltb, lt-ltb, ne_eqb}
use Rattle.std.proofs.lemmas.Bool.{eq-eqb}
use Rattle.std.proofs.lemmas.Bool.Decides.{eqb_tells}
use Rattle.std.proofs.lemmas.List.Filters.{length-filter_both}
use Rattle.std.proofs.lemmas.List.{nil_from_length}
use Rattle.std.proofs.Math.Nat.{suc-ne-zero}
use lib.ListN.{get_elem?}
use Rattle.qc_turn.specs.declared.kept.Kept.{Ghosts}
use Rattle.qc_turn.specs.declared.view.View.{View}
use Rattle.qc_turn.specs.Releases.{ClosesWith}
use Rattle.qc_turn.specs.Views.{of_seat, names, first_seat, next_seat, after_split, after_meet}
use Rattle.qc_turn.specs.Words.{longer}
use Rattle.qc_memory_tests.specs.Seats.{HasMet}

-- a seat that is neither the first nor the second one
later_seat : (s : ℕ) → s + 1 ≢ 2 → s + 1 ≢ 1 → 2 < s + 1
later_seat zero a b = absurd (b refl)
later_seat (suc zero) a b = absurd (a refl)
later_seat (suc (suc s)) a b = Prim.omega arith

module _ {E : Type 0} where
  -- a list with an event in front isn't empty
  some : (e : E) (es fs : List E) → fs ≡ e ∷ es → fs ≢ []
  some e es fs is none = suc-ne-zero (length es) (sym (ap (λ l. length l) is) ∙ ap (λ l. length l) none)

  -- a list whose front has as many events as it is that front
  whole : (xs ys rest : List E) → xs ≡ ys ++ rest → length xs ≤ length ys → ys ≡ xs
  whole xs ys rest is long =
      let count : length xs ≡ length ys + length rest = ap (λ l. length l) is ∙ length-append ys rest in
      let none : rest ≡ [] = nil_from_length rest (Prim.omega arith) in
      sym (append-nil ys) ∙ (ap (λ l. ys ++ l) (sym none) ∙ sym is)

  -- what a first seat that has seen nothing has seen behind a meeting
  after_nothing : (es : List E) → longer [] es ≡ es
  after_nothing [] = refl
  after_nothing (e ∷ es) = let more : ltb 0 (length (e ∷ es)) ≡ true = lt-ltb 0 (length (e ∷ es)) (Prim.omega arith) in rw more refl

-- each event names a session
module _ {V E : Type 0} (K : Ghosts V E) (session : E → ℕ) (told : (e : E) → K.session e ≡ Some (session e)) where
  -- an event of the seat n
  keeps : (n : ℕ) (e : E) (es : List E) → (session e + 1) == n ≡ true → of_seat K n (e ∷ es) ≡ e ∷ of_seat K n es
  keeps n e es is = let t : names (K.session e) n ≡ true = ap (λ o. names o n) (told e) ∙ is in rw t refl

  -- an event of another seat
  skips : (n : ℕ) (e : E) (es : List E) → session e + 1 ≢ n → of_seat K n (e ∷ es) ≡ of_seat K n es
  skips n e es ne = let t : names (K.session e) n ≡ false = ap (λ o. names o n) (told e) ∙ ne_eqb (session e + 1) n ne in rw t refl

  -- events that are no other seat's are the second one's
  second_alone : (es : List E) → of_seat K 1 es ≡ [] → ((n : ℕ) → 2 < n → of_seat K n es ≡ []) → of_seat K 2 es ≡ es
  second_alone [] one more = refl
  second_alone (e ∷ es) one more =
      ⊎_elim
      (λ second. keeps 2 e es second.0 ∙ ap (λ l. e ∷ l)
      (second_alone es (sym (skips 1 e es (λ z. let s = second.1 in absurd (Prim.omega arith))) ∙ one)
      (λ n large. let s = second.1 in sym (skips n e es (λ z. absurd (Prim.omega arith))) ∙ more n large)))
      (λ other. ⊎_elim
      (λ first. absurd (some e (of_seat K 1 es) (of_seat K 1 (e ∷ es)) (keeps 1 e es first.0) one))
      (λ later. let a = other.1 in let b = later.1 in let large : 2 < session e + 1 = later_seat (session e) a b in
      absurd (some e (of_seat K (session e + 1) es) (of_seat K (session e + 1) (e ∷ es)) (keeps (session e + 1) e es (eq-eqb (session e + 1) (session e + 1) refl)) (more (session e + 1) large)))
      (eqb_tells (session e + 1) 1))
      (eqb_tells (session e + 1) 2)

  -- the events of one seat are no more than all
  fewer : (n : ℕ) (es : List E) → length (of_seat K n es) ≤ length es
  fewer n es = let both = length-filter_both (λ (e : E). names (K.session e) n) (λ e. not (names (K.session e) n)) (λ e. refl) es in Prim.omega arith

  pub closed : (events : List E) (v : View V E) (d : V) → HasMet K events v → ClosesWith K v d → (v.seen ≡ events) × (K.journal d ≡ events)
  closed events v d has ends =
      let all = K.journal d in
      let second : of_seat K 2 all ≡ events = sym (ends.met 0 (record { events = events; seen = v.seen }) (ap (λ l. get_elem? l 0) has.registry)).0 in
      let alone : of_seat K 2 all ≡ all = second_alone all (sym ends.own ∙ has.own) (λ n large. ends.others n (let r = ap (λ l. length l) has.registry in Prim.omega arith)) in
      let log : all ≡ events = sym alone ∙ second in
      let long : length all ≤ length v.seen = (let a = fewer 2 v.seen in let b = ap (λ l. length l) has.met in let c = ap (λ l. length l) log in Prim.omega arith) in
      let seen : v.seen ≡ all = whole all v.seen ends.seen.0 ends.seen.1 long in
      (seen ∙ log, log)

-- a second seat adds 1, 2 and 3, each as the event of its session
module _ {V E : Type 0} (K : Ghosts V E) (event : ℕ → ℕ → E) where
  pub met_three : (f0 f1 f2 s0 s1 s2 s3 : View V E) → f0 ≡ first_seat 4 [] → s0 ≡ next_seat f0 → f1 ≡ after_split f0
      → s1.number ≡ s0.number → s1.events ≡ s0.events ++ event (s0.number - 1) 1 ∷ []
      → s2.number ≡ s1.number → s2.events ≡ s1.events ++ event (s1.number - 1) 2 ∷ []
      → s3.number ≡ s2.number → s3.events ≡ s2.events ++ event (s2.number - 1) 3 ∷ []
      → s3.events ≡ of_seat K s3.number s3.seen
      → f2 ≡ after_meet f1 s3 → HasMet K (event 1 1 ∷ event 1 2 ∷ event 1 3 ∷ []) f2
  met_three f0 f1 f2 s0 s1 s2 s3 f0_is s0_is f1_is n1 e1 n2 e2 n3 e3 own f2_is =
      let m0 : s0.number ≡ 2 = ap (λ (v : View V E). v.number) (s0_is ∙ ap next_seat f0_is) in
      let m1 : s1.number ≡ 2 = n1 ∙ m0 in
      let m2 : s2.number ≡ 2 = n2 ∙ m1 in
      let m3 : s3.number ≡ 2 = n3 ∙ m2 in
      let a0 : s0.events ≡ [] = ap (λ (v : View V E). v.events) (s0_is ∙ ap next_seat f0_is) in
      let a1 : s1.events ≡ event 1 1 ∷ [] = e1 ∙ (λ i. a0 i ++ event (m0 i - 1) 1 ∷ []) in
      let a2 : s2.events ≡ event 1 1 ∷ event 1 2 ∷ [] = e2 ∙ (λ i. a1 i ++ event (m1 i - 1) 2 ∷ []) in
      let a3 : s3.events ≡ event 1 1 ∷ event 1 2 ∷ event 1 3 ∷ [] = e3 ∙ (λ i. a2 i ++ event (m2 i - 1) 3 ∷ []) in
      let f1_now : f1 ≡ after_split (first_seat 4 []) = f1_is ∙ ap after_split f0_is in
      let seen : f2.seen ≡ s3.seen = ap (λ (v : View V E). v.seen) f2_is ∙ (ap (λ (v : View V E). longer v.seen s3.seen) f1_now ∙ after_nothing s3.seen) in
      let back = sym seen in
      let two = sym m3 in
      record {
        registry = ap (λ (v : View V E). v.registry) f2_is ∙ (λ i. set (f1_now i).registry (m3 i - 2) (Some (record { events = a3 i; seen = back i })));
        met = (λ i. of_seat K (two i) (seen i)) ∙ (sym own ∙ a3);
        own = ap (λ (v : View V E). v.events) f2_is ∙ ap (λ v. v.events) (ap (λ v. after_meet v s3) f1_now);
      }
