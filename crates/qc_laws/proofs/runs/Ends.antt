-- What the one journal says of the sessions.
use Rattle.std.proofs.Common.{◌≡◌, ◌≢◌, ℕ, Bool, true, false, not, cond, eqb, List, [], ◌∷◌, ◌++◌, length, Option, Some, None, unwrap_or, option_map, is_some, refl, sym, ap, ◌∙◌, subst, arith, append-nil, true≢false, eq-eqb, eqb→eq, T}
use Rattle.std.specs.Prelude.{◌&&◌, ◌||◌, ◌==◌}
use Rattle.std.specs.List.{list_all}
use Rattle.std.proofs.lemmas.List.Folds.{list_all-map}
use Rattle.qc_sql.specs.declared.commands.Command.{Command}
use Rattle.qc_types.specs.declared.options.Options.{Options}
use Rattle.qc_model.specs.declared.events.Event.{Event}
use Rattle.qc_model.specs.declared.events.Event.TheVariants as event
use Rattle.qc_model.specs.declared.events.Who.{Who}
use Rattle.qc_model.specs.declared.reports.ReportLine.{ReportLine}
use Rattle.qc_model.specs.declared.reports.SessionReport.{SessionReport}
use Rattle.qc_model.specs.Journal.{Journal, decider, is_by, is_of_session, events_of}
use Rattle.qc_model.specs.Agrees.{Machine, AreLines, none_left, fill_ends, is_of, none_after, setup_first, inputs_of, AreSessions}
use Rattle.qc_laws.specs.runs.Runs.{own, AreServed, numbers}
use Rattle.qc_sql.specs.Words.{is_among}
use Rattle.qc_laws.specs.runs.Laws.{RunsEnd, OneAgrees}
use Rattle.qc_laws.proofs.runs.Lists.{pick_none, quiet_own, same_events, own_events}
use Rattle.qc_laws.proofs.runs.Going.{onward, fills_on, and_both, and_pair}
use Rattle.qc_laws.proofs.runs.Composes.{events_below}

pub ends : (m : Machine) → RunsEnd m
ends m options session from to cs ls more start none same r =
    let J : Journal = to.seen ++ more in
    let now : own session J ≡ own session to.seen = quiet_own session to.seen more (same_events session to.seen more same) in
    let grown : own session to.seen ≡ r.events = r.grows ∙ ap (λ l. l ++ r.events) none in
    let mine : own session J ≡ r.events = now ∙ grown in
    let lines = onward m options to.seen more none_left to.state to.place (length (own session to.seen)) [] [] [] refl
    cs ls from.state from.place (length (own session from.seen)) r.events (omega (arith, start)) (events_below session 0 to.seen (own session from.seen) r.events r.grows) r.lines in
    let a : AreLines m options J (cs ++ []) (ls ++ []) from.state 0 0 (r.events ++ []) =
    subst (λ (k : ℕ). AreLines m options J (cs ++ []) (ls ++ []) from.state k 0 (r.events ++ [])) start
    (subst (λ (es : List (ℕ × Event)). AreLines m options J (cs ++ []) (ls ++ []) from.state from.place (length es) (r.events ++ [])) none lines) in
    let b : AreLines m options J cs ls from.state 0 0 r.events =
    subst (λ (x : List Command). AreLines m options J x ls from.state 0 0 r.events) (append-nil cs)
    (subst (λ (x : List ReportLine). AreLines m options J (cs ++ []) x from.state 0 0 r.events) (append-nil ls)
    (subst (λ (x : List (ℕ × Event)). AreLines m options J (cs ++ []) (ls ++ []) from.state 0 0 x) (append-nil r.events) a)) in
    let f : list_all (λ x. fill_ends J x.1) r.events ≡ true = fills_on to.seen more r.events r.fills_end in
    let g : list_all (λ x. fill_ends J x.1) (own session J) ≡ true = subst (λ (x : List (ℕ × Event)). list_all (λ x. fill_ends J x.1) x ≡ true) (sym mine) f in (
      subst (λ (x : List (ℕ × Event)). AreLines m options J cs ls from.state 0 0 x) (sym mine) b,
      subst (λ (x : List Event). list_all (fill_ends J) x ≡ true) (own_events session 1 J) (list_all-map (fill_ends J) (λ x. x.1) (own session J) ∙ g),
    )

-- ---- each event is of a session

some_none : {X : Type 0} (x : X) → ◌≡◌ {A = Option X} (Some x) None → ⊥
some_none x h = true≢false (ap is_some h)

pick_all : (f : Event → Bool) (b : Bool) (e : Event) (us : List Event) → list_all f (cond b (e ∷ us) us) ≡ true → (list_all f us ≡ true) × (b ≡ true → f e ≡ true)
pick_all f true e us h = let p = and_both (f e) (list_all f us) h in (p.1, λ _. p.0)
pick_all f false e us h = (h, λ z. absurd (true≢false (sym z)))

self : (n : ℕ) → (n == n) ≡ true
self n = eq-eqb n n refl

head_all : (ns : List ℕ) (w : Option Who) (b : Bool) → unwrap_or (option_map (λ n. is_among ns n) (option_map (λ who. who.session) w)) true ≡ true
    → ((n : ℕ) → is_among ns n ≡ true → is_of_session n w ≡ true → b ≡ true) → (w ≡ None → b ≡ true) → b ≡ true
head_all ns None b h f g = g refl
head_all ns (Some who) b h f g = f who.session h (self who.session)

-- what is true of the events of each session, and of those that decide nothing, is true of all
all_of : (f : Event → Bool) (ns : List ℕ) (es : Journal) → list_all (is_of ns) es ≡ true
    → ((n : ℕ) → is_among ns n ≡ true → list_all f (events_of n es) ≡ true) → ((e : Event) → decider e ≡ None → f e ≡ true) → list_all f es ≡ true
all_of f ns [] h k g = refl
all_of f ns (e ∷ es) h k g =
    let p = and_both (is_of ns e) (list_all (is_of ns) es) h in
    and_pair (f e) (list_all f es)
    (head_all ns (decider e) (f e) p.0 (λ n among by. (pick_all f (is_by n e) e (events_of n es) (k n among)).1 by) (g e))
    (all_of f ns es p.1 (λ n among. (pick_all f (is_by n e) e (events_of n es) (k n among)).0) g)

undecided_ends : (J : Journal) (e : Event) → decider e ≡ None → fill_ends J e ≡ true
undecided_ends J (event.Run who h) d = absurd (some_none who d)
undecided_ends J (event.Commit who ops) d = refl
undecided_ends J (event.Done serial) d = refl
undecided_ends J (event.Gone serial why) d = refl
undecided_ends J (event.Prune serial need largest) d = refl
undecided_ends J (event.Reset who) d = refl
undecided_ends J (event.Flush who) d = refl

head_of_one : (ns : List ℕ) (w : Option Who) → ((n : ℕ) → is_among ns n ≡ false → is_of_session n w ≡ false) → unwrap_or (option_map (λ n. is_among ns n) (option_map (λ who. who.session) w)) true ≡ true
head_of_one ns None h = refl
head_of_one ns (Some who) h = by (is_among ns who.session) refl
  where
    by : (b : Bool) → is_among ns who.session ≡ b → is_among ns who.session ≡ true
    by true e = e
    by false e = absurd (true≢false (sym (self who.session) ∙ h who.session e))

no_others : (ns : List ℕ) (es : Journal) → ((n : ℕ) → is_among ns n ≡ false → events_of n es ≡ []) → list_all (is_of ns) es ≡ true
no_others ns [] h = refl
no_others ns (e ∷ es) h = and_pair (is_of ns e) (list_all (is_of ns) es)
    (head_of_one ns (decider e) (λ n none. (pick_none (is_by n e) e (events_of n es) (h n none)).0))
    (no_others ns es (λ n none. (pick_none (is_by n e) e (events_of n es) (h n none)).1))

-- ---- the setup comes first

later_head : (b : Bool) (w : Option Who) (here behind : Bool) → is_of_session 0 w ≡ false → here ≡ true → behind ≡ true → none_after b (option_map (λ who. who.session) w) here behind ≡ true
later_head b None here behind n h k = h
later_head b (Some who) here behind n h k = ap (λ c. cond c (not b && here) behind) n ∙ k

later : (b : Bool) (es : Journal) → events_of 0 es ≡ [] → setup_first b es ≡ true
later b [] h = refl
later b (e ∷ es) h = let p = pick_none (is_by 0 e) e (events_of 0 es) h in later_head b (decider e) _ _ p.0 (later b es p.1) (later true es p.1)

first_head : (w : Option Who) (here behind : Bool) → ((n : ℕ) → n ≢ 0 → is_of_session n w ≡ false) → here ≡ true → none_after false (option_map (λ who. who.session) w) here behind ≡ true
first_head None here behind n h = h
first_head (Some who) here behind n h = by (who.session == 0) refl
  where
    by : (c : Bool) → (who.session == 0) ≡ c → cond (who.session == 0) (not false && here) behind ≡ true
    by true e = ap (λ c. cond c (not false && here) behind) e ∙ h
    by false e = absurd (true≢false (sym (self who.session) ∙ n who.session (λ z. true≢false (sym (eq-eqb who.session 0 z) ∙ e))))

first_then : (es later_es : Journal) → ((n : ℕ) → n ≢ 0 → events_of n es ≡ []) → events_of 0 later_es ≡ [] → setup_first false (es ++ later_es) ≡ true
first_then [] fs h k = later false fs k
first_then (e ∷ es) fs h k = first_head (decider e) _ _ (λ n ne. (pick_none (is_by n e) e (events_of n es) (h n ne)).0) (first_then es fs (λ n ne. (pick_none (is_by n e) e (events_of n es) (h n ne)).1) k)

-- ---- the sessions

sessions_of : (m : Machine) (options : Options) (J : Journal) (is : List (ℕ × List ℕ)) (ss : List SessionReport) → AreServed m options J is ss → AreSessions m options J is ss
sessions_of m options J [] [] h = tt
sessions_of m options J (i ∷ is) (s ∷ ss) h = (h.0, h.1.session, sessions_of m options J is ss h.2)
sessions_of m options J [] (s ∷ ss) h = absurd h
sessions_of m options J (i ∷ is) [] h = absurd h

pub among_head : (a n : ℕ) (b : Bool) (P : ℕ → Type 0) → (eqb a n || b) ≡ true → P a → (b ≡ true → P n) → P n
among_head a n b P h x f = by (eqb a n) refl h
  where
    by : (c : Bool) → eqb a n ≡ c → (c || b) ≡ true → P n
    by true e g = subst P (eqb→eq a n (subst T (sym e) tt)) x
    by false e g = f g

fills_of : (m : Machine) (options : Options) (J : Journal) (is : List (ℕ × List ℕ)) (ss : List SessionReport) → AreServed m options J is ss
    → (n : ℕ) → is_among (numbers ss) n ≡ true → list_all (fill_ends J) (events_of n J) ≡ true
fills_of m options J [] [] h n among = absurd (true≢false (sym among))
fills_of m options J (i ∷ is) (s ∷ ss) h n among = among_head s.session n (is_among (numbers ss) n) (λ k. list_all (fill_ends J) (events_of k J) ≡ true) among h.1.fills_end (fills_of m options J is ss h.2 n)
fills_of m options J [] (s ∷ ss) h n among = absurd h
fills_of m options J (i ∷ is) [] h n among = absurd h

pub agrees : (m : Machine) → OneAgrees m
agrees m script options J ss served one =
    let none_else : list_all (is_of (numbers ss)) J ≡ true = no_others (numbers ss) J one.no_other in
    let later_none : events_of 0 one.begins.0 ≡ [] = same_events 0 one.first one.begins.0 (sym (ap (events_of 0) one.begins.1) ∙ one.setup) in
    record {
      same_options = refl;
      sessions = sessions_of m options J (inputs_of script) ss served;
      lawful = one.lawful;
      no_other = none_else;
      setup_before = ap (setup_first false) one.begins.1 ∙ first_then one.first one.begins.0 one.before later_none;
      same_counters = refl;
      fills_end = all_of (fill_ends J) (numbers ss) J none_else (fills_of m options J (inputs_of script) ss served) (undecided_ends J);
      needs = one.needs;
    }
