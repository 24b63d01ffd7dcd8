-- The whole, from the runs of the sessions.
use Rattle.std.proofs.Common.{◌≡◌, ◌≢◌, ℕ, ◌+◌, ◌≤◌, Bool, true, false, cond, List, [], ◌∷◌, ◌++◌, length, map, refl, sym, ap, ◌∙◌, subst, arith, true≢false, length-append}
use Rattle.std.specs.Prelude.{drop}
use Rattle.std.specs.List.{list_all}
use Rattle.std.proofs.lemmas.List.Elements.{filter-append}
use Rattle.std.proofs.lemmas.List.Sums.{length-filter}
use lib.ListN.{length-map}
use Rattle.qc_types.specs.declared.options.Options.{Options}
use Rattle.qc_model.specs.declared.events.Event.{Event}
use Rattle.qc_model.specs.declared.reports.SessionReport.{SessionReport}
use Rattle.qc_model.specs.Journal.{Journal, is_by, events_of, event_count}
use Rattle.qc_model.specs.Session.{starting}
use Rattle.qc_model.specs.Agrees.{Machine, AreLines, numbered_events, fill_ends, inputs_of, commands_of}
use Rattle.qc_laws.specs.runs.Runs.{StartsWith, Position, stand, own, AreServed, IsServed, numbers, HasEnded, HaveEnded}
use Rattle.qc_sql.specs.Words.{is_among}
use Rattle.qc_laws.specs.runs.Laws.{RunsAgree, PlaceIsNew}
use Rattle.qc_laws.proofs.runs.Lists.{numbered_append, own_events}
use Rattle.qc_laws.proofs.runs.Composes.{events_below}
use Rattle.qc_laws.proofs.runs.Ends.{ends, agrees, among_head}

nil_left : {X : Type 0} (xs ys : List X) → xs ++ ys ≡ [] → xs ≡ []
nil_left [] ys e = refl
nil_left (x ∷ xs) ys e = let z : length ((x ∷ xs) ++ ys) ≡ 0 = ap length e in let w = length-append (x ∷ xs) ys in absurd (omega arith)

none_before : (n : ℕ) (J first : Journal) → StartsWith J first → events_of n J ≡ [] → events_of n first ≡ []
none_before n J first b e = nil_left (events_of n first) (events_of n b.0) (sym (filter-append (is_by n) first b.0) ∙ (sym (ap (events_of n) b.1) ∙ e))

own_none : (s : ℕ) (J : Journal) → own s J ≡ [] → events_of s J ≡ []
own_none s J e = sym (own_events s 1 J) ∙ ap (map (λ x. x.1)) e

-- the number of a session's next event
pub own_count : (s : ℕ) (J : Journal) → length (own s J) ≡ event_count J s
own_count s J = sym (length-map (own s J) (λ (x : ℕ × Event). x.1)) ∙ (ap length (own_events s 1 J) ∙ length-filter (is_by s) J)

ended_served : (m : Machine) (options : Options) (first J : Journal) (input : List ℕ) (s : SessionReport) → HasEnded m options first J input s → IsServed m options J input s
ended_served m options first J input s h =
    let more : Journal = h.seen.0 in
    let is : J ≡ h.to.seen ++ more = h.seen.1 in
    let begin : Position = stand h.from (starting s.session options.kind) 0 in
    let two = ends m options s.session begin h.to (commands_of input).0 s.lines more refl h.none (sym (ap (events_of s.session) is) ∙ h.all) h.runs in
    record {
      session = record {
        lines = subst (λ (j : Journal). AreLines m options j (commands_of input).0 s.lines (starting s.session options.kind) 0 0 (numbered_events s.session 1 j)) (sym is) two.0;
        ending = h.ending;
      };
      fills_end = subst (λ (j : Journal). list_all (fill_ends j) (events_of s.session j) ≡ true) (sym is) two.1;
    }

all_served : (m : Machine) (options : Options) (first J : Journal) (is : List (ℕ × List ℕ)) (ss : List SessionReport) → HaveEnded m options first J is ss → AreServed m options J is ss
all_served m options first J [] [] h = tt
all_served m options first J (i ∷ is) (s ∷ ss) h = (h.0, ended_served m options first J i.1 s h.1, all_served m options first J is ss h.2)
all_served m options first J [] (s ∷ ss) h = absurd h
all_served m options first J (i ∷ is) [] h = absurd h

-- of a session other than 0, nothing is in what session 0 had seen
among_none : (m : Machine) (options : Options) (first J : Journal) (is : List (ℕ × List ℕ)) (ss : List SessionReport) → HaveEnded m options first J is ss → (n : ℕ) → is_among (numbers ss) n ≡ true → n ≢ 0 → events_of n first ≡ []
among_none m options first J [] [] h n among ne = absurd (true≢false (sym among))
among_none m options first J (i ∷ is) (s ∷ ss) h n among ne =
    among_head s.session n (is_among (numbers ss) n) (λ k. k ≢ 0 → events_of k first ≡ []) among
    (λ other. none_before s.session h.1.from first (h.1.begins other) (own_none s.session h.1.from h.1.none))
    (λ rest. among_none m options first J is ss h.2 n rest)
    ne
among_none m options first J [] (s ∷ ss) h n among ne = absurd h
among_none m options first J (i ∷ is) [] h n among ne = absurd h

pub runs_agree : (m : Machine) → RunsAgree m
runs_agree m script options first J ss h c =
    let before : (n : ℕ) → n ≢ 0 → events_of n first ≡ [] = λ n ne.
    elim (is_among (numbers ss) n) as (λ b. is_among (numbers ss) n ≡ b → events_of n first ≡ []) [
      | true ↦ λ e. among_none m options first J (inputs_of script) ss h n e ne
      | false ↦ λ e. none_before n J first c.begins (c.no_other n e)
    ] refl in
    agrees m script options J ss (all_served m options first J (inputs_of script) ss h) record {
      lawful = c.lawful;
      needs = c.needs;
      no_other = c.no_other;
      first = first;
      begins = c.begins;
      setup = c.setup;
      before = before;
    }

-- ---- the place is new

-- the numbers are at least k
Above : ℕ → List (ℕ × Event) → Type 0
Above k [] = Unit {0}
Above k (x ∷ xs) = (k ≤ x.0) × Above k xs

pick_above : (k : ℕ) (b : Bool) (x : ℕ × Event) (xs : List (ℕ × Event)) → k ≤ x.0 → Above k xs → Above k (cond b (x ∷ xs) xs)
unfolding Above
pick_above k true x xs h hs = (h, hs)
pick_above k false x xs h hs = hs

numbered_above : (s n k : ℕ) (J : Journal) → k ≤ n → Above k (numbered_events s n J)
unfolding Above
numbered_above s n k [] h = tt
numbered_above s n k (e ∷ es) h = pick_above k (is_by s e) (n, e) _ h (numbered_above s (n + 1) k es (omega (arith, h)))

cancel : {X : Type 0} (xs ys zs : List X) → xs ++ ys ≡ xs ++ zs → ys ≡ zs
cancel [] ys zs e = e
cancel (x ∷ xs) ys zs e = cancel xs ys zs (ap (drop 1) e)

pub place_new : (m : Machine) → PlaceIsNew m
unfolding Above
place_new m options session a b c l longer h =
    let more : Journal = longer.0 in
    let e : own session a.seen ++ numbered_events session (1 + length a.seen) more ≡ own session a.seen ++ (l.place, h.0) ∷ [] = sym (numbered_append session 1 a.seen more) ∙ (sym (ap (own session) longer.1) ∙ h.2) in
    let one : numbered_events session (1 + length a.seen) more ≡ (l.place, h.0) ∷ [] = cancel (own session a.seen) _ _ e in
    let up : Above (1 + length a.seen) ((l.place, h.0) ∷ []) = subst (Above (1 + length a.seen)) one (numbered_above session (1 + length a.seen) (1 + length a.seen) more (omega arith)) in
    let w = up.0 in
    (omega (arith, w), (events_below session 0 b.seen (own session a.seen) ((l.place, h.0) ∷ []) h.2).0)
