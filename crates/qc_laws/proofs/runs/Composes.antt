-- Runs compose.
use Rattle.std.proofs.Common.{◌≡◌, ℕ, ◌+◌, ◌≤◌, true, List, [], ◌∷◌, ◌++◌, length, take, MatchOption, Option, Some, None, refl, sym, ap, ◌∙◌, subst, arith, append-nil, append_assoc, length-append}
use Rattle.std.specs.List.{list_all}
use Rattle.qc_sql.specs.declared.commands.Command.{Command}
use Rattle.qc_types.specs.declared.options.Options.{Options}
use Rattle.qc_sql.specs.declared.replies.Reply.{Reply}
use Rattle.qc_model.specs.declared.events.Event.{Event}
use Rattle.qc_model.specs.declared.reports.ReportLine.{ReportLine}
use Rattle.qc_model.specs.Journal.{Journal}
use Rattle.qc_model.specs.Session.{State}
use Rattle.qc_model.specs.Agrees.{Machine, TakesNext, LinesThen, line, fill_ends}
use Rattle.qc_model.specs.declared.reports.Word.TheVariants as word
use Rattle.qc_laws.specs.runs.Runs.{StartsWith, Position, StandsAt, own, Runs, Answers, HasItsEvent, HasNoEvent}
use Rattle.qc_laws.specs.runs.Laws.{RunsCompose, AnswersRuns, QuietRuns}
use Rattle.qc_laws.proofs.runs.Lists.{Below, numbered_below, below_right, quiet_own}
use Rattle.qc_laws.proofs.runs.Going.{take_on, onward, fills_on, both_end, and_pair}

-- the events of a run are in the journal that it ends with
pub events_below : (s k : ℕ) (J : Journal) (xs es : List (ℕ × Event)) → own s J ≡ xs ++ es → Below (length J) es
events_below s k J xs es e = below_right (length J) xs es (subst (Below (length J)) e (numbered_below s 1 (length J) J (omega arith)))

pub compose : (m : Machine) → RunsCompose m
compose m options session a b c cs ds ls ks small p q =
    let more = q.begins.0 in
    let longer : c.seen ≡ b.seen ++ more = q.begins.1 in
    let next : LinesThen m options (b.seen ++ more) (StandsAt c.state c.place (length (own session c.seen))) ds ks b.state b.place (length (own session b.seen)) q.events =
    subst (λ (j : Journal). LinesThen m options j (StandsAt c.state c.place (length (own session c.seen))) ds ks b.state b.place (length (own session b.seen)) q.events) longer q.lines in
    let all = onward m options b.seen more (StandsAt c.state c.place (length (own session c.seen))) b.state b.place (length (own session b.seen)) ds ks q.events next
    cs ls a.state a.place (length (own session a.seen)) p.events (omega (arith, small, (ap length p.begins.1 ∙ length-append a.seen p.begins.0)))
    (events_below session 0 b.seen (own session a.seen) p.events p.grows) p.lines in
    let ended : list_all (λ x. fill_ends (b.seen ++ more) x.1) p.events ≡ true = fills_on b.seen more p.events p.fills_end in
    record {
      begins = (p.begins.0 ++ more, longer ∙ (ap (λ j. j ++ more) p.begins.1 ∙ append_assoc a.seen p.begins.0 more));
      reaches = λ h. q.reaches (p.reaches h);
      events = p.events ++ q.events;
      grows = q.grows ∙ (ap (λ l. l ++ q.events) p.grows ∙ append_assoc (own session a.seen) p.events q.events);
      lines = subst (λ (j : Journal). LinesThen m options j (StandsAt c.state c.place (length (own session c.seen))) (cs ++ ds) (ls ++ ks) a.state a.place (length (own session a.seen)) (p.events ++ q.events)) (sym longer) all;
      fills_end = both_end c.seen p.events q.events (subst (λ (j : Journal). list_all (λ x. fill_ends j x.1) p.events ≡ true) (sym longer) ended) q.fills_end;
    }

pub quiet : (m : Machine) → QuietRuns m
quiet m options session a more none =
    let same : own session (a.seen ++ more) ≡ own session a.seen = quiet_own session a.seen more none in
    record {
      begins = (more, refl);
      reaches = λ h. let e = length-append a.seen more in omega (arith, e, h);
      events = [];
      grows = same ∙ sym (append-nil (own session a.seen));
      lines = (refl, refl, ap length (sym same), refl);
      fills_end = refl;
    }

answers_by : (m : Machine) (options : Options) (session : ℕ) (a b : Position) (c : Command) (l : ReportLine) (o : Option (Reply × State))
    → m.without_event a.state (take a.place b.seen) c ≡ o → a.place ≤ length a.seen → StartsWith b.seen a.seen → b.place ≡ l.place
    → MatchOption o (HasItsEvent m options session a c l b) (HasNoEvent session a l b) → Runs m options session a (c ∷ []) (l ∷ []) b
answers_by m options session a b c l None at small longer place h =
    let e : Event = h.0 in
    let grows : own session b.seen ≡ own session a.seen ++ (l.place, e) ∷ [] = h.2 in
    let count : length (own session b.seen) ≡ length (own session a.seen) + 1 = ap length grows ∙ length-append (own session a.seen) ((l.place, e) ∷ []) in
    let stand_then : StandsAt b.state b.place (length (own session b.seen)) b.state l.place (length (own session a.seen) + 1) [] = (refl, sym place, sym count, refl) in
    let takes : TakesNext m options b.seen a.state (length (own session a.seen)) c l ((l.place, e) ∷ []) (StandsAt b.state b.place (length (own session b.seen))) = (h.1, b.state, h.3, h.4, h.5, stand_then) in
    record {
      begins = longer;
      reaches = λ _. subst (λ (p : ℕ). p ≤ length b.seen) (sym place) (events_below session 0 b.seen (own session a.seen) ((l.place, e) ∷ []) grows).0;
      events = (l.place, e) ∷ [];
      grows = grows;
      lines = subst (λ (x : Option (Reply × State)). MatchOption x (TakesNext m options b.seen a.state (length (own session a.seen)) c l ((l.place, e) ∷ []) (StandsAt b.state b.place (length (own session b.seen))))
          (λ given. (l ≡ line a.place word.Local given.0) × StandsAt b.state b.place (length (own session b.seen)) given.1 a.place (length (own session a.seen)) ((l.place, e) ∷ []))) (sym at) takes;
      fills_end = and_pair (fill_ends b.seen e) true h.6 refl;
    }
answers_by m options session a b c l (Some given) at small longer place h =
    let keeps : l.place ≡ a.place = ap (λ (x : ReportLine). x.place) h.0 in
    let stand_then : StandsAt b.state b.place (length (own session b.seen)) given.1 a.place (length (own session a.seen)) [] = (h.1, sym keeps ∙ sym place, sym (ap length h.2), refl) in
    record {
      begins = longer;
      reaches = λ _. let e = ap length longer.1 ∙ length-append a.seen longer.0 in omega (arith, e, small, place, keeps);
      events = [];
      grows = h.2 ∙ sym (append-nil (own session a.seen));
      lines = subst (λ (x : Option (Reply × State)). MatchOption x (TakesNext m options b.seen a.state (length (own session a.seen)) c l [] (StandsAt b.state b.place (length (own session b.seen))))
          (λ g. (l ≡ line a.place word.Local g.0) × StandsAt b.state b.place (length (own session b.seen)) g.1 a.place (length (own session a.seen)) [])) (sym at) (h.0, stand_then);
      fills_end = refl;
    }

pub answered : (m : Machine) → AnswersRuns m
answered m options session a b c l small h =
    let longer : b.seen ≡ a.seen ++ h.begins.0 = h.begins.1 in
    let same : take a.place b.seen ≡ take a.place a.seen = ap (take a.place) longer ∙ take_on m options a.seen h.begins.0 a.place small in
    answers_by m options session a b c l (m.without_event a.state (take a.place a.seen) c) (ap (λ (j : Journal). m.without_event a.state j c) same) small h.begins h.place h.does

-- one more command is answered, as in a loop
pub further : (m : Machine) (options options' : Options) (session session' : ℕ) (a b c : Position) (cs ds : List Command) (command : Command) (ls ks : List ReportLine) (l : ReportLine)
    → a.place ≤ length a.seen → Runs m options session a cs ls b → options' ≡ options → session' ≡ session → Answers m options' session' b command l c → ds ≡ cs ++ command ∷ [] → ks ≡ ls ++ l ∷ []
    → Runs m options session a ds ks c
further m options options' session session' a b c cs ds command ls ks l small r o s h d k =
    let h' : Answers m options session b command l c = subst (λ (x : Options). Answers m x session b command l c) o (subst (λ (n : ℕ). Answers m options' n b command l c) s h) in
    let all = compose m options session a b c cs (command ∷ []) ls (l ∷ []) small r (answered m options session b c command l (r.reaches small) h') in
    subst (λ (x : List Command). Runs m options session a x ks c) (sym d) (subst (λ (x : List ReportLine). Runs m options session a (cs ++ command ∷ []) x c) (sym k) all)

-- a run of no command
pub nothing : (m : Machine) (options : Options) (session : ℕ) (a : Position) (ls : List ReportLine) → ls ≡ [] → Runs m options session a [] ls a
nothing m options session a ls none = subst (λ (x : List ReportLine). Runs m options session a [] x a) (sym none) record {
  begins = ([], sym (append-nil a.seen));
  reaches = λ h. h;
  events = [];
  grows = sym (append-nil (own session a.seen));
  lines = (refl, refl, refl, refl);
  fills_end = refl;
}
