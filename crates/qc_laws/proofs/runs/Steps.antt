-- What an execution adds to the journal: one event of the session, among events of nobody or of others.
use Rattle.std.proofs.Common.{◌≡◌, ℕ, ◌+◌, ◌-◌, true, cond, [], ◌∷◌, ◌++◌, length, take, refl, sym, ap, ◌∙◌, subst, arith, append_assoc, length-append, take_all, Bool, false, Option, Some, None, option_map, filter, T, eqb→eq, eq-eqb, ne_eqb, true≢false}
use Rattle.std.specs.Prelude.{◌==◌}
use Rattle.qc_model.specs.declared.events.Who.{Who}
use lib.Seq.{take-append-le}
use Rattle.qc_model.specs.declared.events.Event.{Event}
use Rattle.qc_model.specs.Journal.{Journal, before, is_by, events_of, decider, is_of_session}
use Rattle.qc_model.specs.Agrees.{numbered_events, session_of}
use Rattle.qc_laws.specs.runs.Runs.{own}
use Rattle.qc_laws.proofs.runs.Lists.{numbered_append, quiet_numbered}

-- I: what was seen before; J: the journal as it was taken, with none of the session since; q: prunes; e: its event; r: what came later
pub one_more : (s : ℕ) (I J q r : Journal) (e : Event) → own s J ≡ own s I → events_of s q ≡ [] → is_by s e ≡ true → events_of s r ≡ []
    → own s (J ++ (q ++ e ∷ r)) ≡ own s I ++ (1 + length J + length q, e) ∷ []
one_more s I J q r e same quiet mine later =
    let n : ℕ = 1 + length J in
    let k : ℕ = n + length q in
    let last : numbered_events s k (e ∷ r) ≡ (k, e) ∷ [] =
    ap (λ b. cond b ((k, e) ∷ numbered_events s (k + 1) r) (numbered_events s (k + 1) r)) mine ∙ ap (λ l. (k, e) ∷ l) (quiet_numbered s (k + 1) r later) in
    let back : numbered_events s n (q ++ e ∷ r) ≡ (k, e) ∷ [] =
    numbered_append s n q (e ∷ r) ∙ (ap (λ l. l ++ numbered_events s k (e ∷ r)) (quiet_numbered s n q quiet) ∙ last) in
    numbered_append s 1 J (q ++ e ∷ r) ∙ (λ i. same i ++ back i)

-- the events before it
pub before_it : (J q r : Journal) (e : Event) → before (1 + length J + length q) (J ++ (q ++ e ∷ r)) ≡ J ++ q
before_it J q r e =
    let is : J ++ (q ++ e ∷ r) ≡ (J ++ q) ++ e ∷ r = sym (append_assoc J q (e ∷ r)) in
    let long : length (J ++ q) ≡ length J + length q = length-append J q in
    let at : 1 + length J + length q - 1 ≡ length (J ++ q) = omega (arith, long) in
    ap (before (1 + length J + length q)) is ∙ (ap (λ k. take k ((J ++ q) ++ e ∷ r)) at ∙ (take-append-le (length (J ++ q)) (J ++ q) (e ∷ r) (omega arith) ∙ take_all (length (J ++ q)) (J ++ q) (omega arith)))

-- ---- the lock's words on sessions

-- as the lock has it: the seat of a session has its number and one
abbrev names : Option ℕ → ℕ → Bool
names None n = false
names (Some s) n = (s + 1) == n

names_is : (s : ℕ) (w : Option Who) → names (option_map (λ who. who.session) w) (s + 1) ≡ is_of_session s w
names_is s None = refl
names_is s (Some who) =
    elim (who.session == s) as (λ b. (who.session == s) ≡ b → (who.session + 1 == s + 1) ≡ b) [
      | true ↦ λ e. eq-eqb (who.session + 1) (s + 1) (ap (λ n. n + 1) (eqb→eq who.session s (subst T (sym e) tt)))
      | false ↦ λ e. ne_eqb (who.session + 1) (s + 1) (λ z. let same : who.session ≡ s = omega (arith, z) in true≢false (sym (eq-eqb who.session s same) ∙ e))
    ] refl

-- the events of a seat are those of its session
pub of_seat_is : (s : ℕ) (J : Journal) → filter (λ e. names (session_of e) (s + 1)) J ≡ events_of s J
of_seat_is s [] = refl
of_seat_is s (e ∷ es) = λ i. cond (names_is s (decider e) i) (e ∷ of_seat_is s es i) (of_seat_is s es i)
