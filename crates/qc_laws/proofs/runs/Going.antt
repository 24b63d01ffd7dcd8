-- A run goes on.
use Rattle.std.proofs.Common.{◌≡◌, ℕ, ◌+◌, ◌-◌, ◌≤◌, true, List, [], ◌∷◌, ◌++◌, length, take, MatchOption, refl, sym, ◌∙◌, subst, arith}
use Rattle.std.specs.Prelude.{Bool, false, ◌&&◌}
use Rattle.std.specs.List.{list_all}
use Rattle.std.proofs.lemmas.List.Folds.{list_all-append}
use lib.Seq.{take-append-le}
use Rattle.qc_model.specs.declared.events.Event.TheVariants as event
use Rattle.qc_model.specs.declared.events.How.TheVariants as how
use Rattle.qc_sql.specs.declared.commands.Command.{Command}
use Rattle.qc_types.specs.declared.options.Options.{Options}
use Rattle.qc_model.specs.declared.events.Event.{Event}
use Rattle.qc_model.specs.declared.reports.ReportLine.{ReportLine}
use Rattle.qc_model.specs.Journal.{Journal, before}
use Rattle.qc_model.specs.Session.{State}
use Rattle.qc_model.specs.Needs.{HasOwnNeeds}
use Rattle.qc_model.specs.Agrees.{Machine, Rest, TakesNext, LinesThen, key_of_command, who_of, line, fill_ends}
use Rattle.qc_model.specs.declared.reports.Word.TheVariants as word
use Rattle.qc_laws.specs.runs.Runs.{StandsAt}
use Rattle.qc_laws.proofs.runs.Lists.{match_map, Below, ended_on}

module _ (m : Machine) (options : Options) (J more : Journal) where
  pub take_on : (n : ℕ) → n ≤ length J → take n (J ++ more) ≡ take n J
  take_on n h = take-append-le n J more h

  -- the next event is the same one in the longer journal
  takes_on : (s : State) (n : ℕ) (c : Command) (l : ReportLine) (es xs : List (ℕ × Event)) (rest rest' : Rest) → Below (length J) es
      → ((t : State) (p k : ℕ) (fs : List (ℕ × Event)) → p ≤ length J → Below (length J) fs → rest t p k fs → rest' t p k (fs ++ xs))
      → TakesNext m options J s n c l es rest → TakesNext m options (J ++ more) s n c l (es ++ xs) rest'
  takes_on s n c l [] xs rest rest' w f h = absurd h
  takes_on s n c l (x ∷ es) xs rest rest' w f h =
      let b : before x.0 (J ++ more) ≡ before x.0 J = take_on (x.0 - 1) (omega (arith, w.0)) in (
        h.0,
        h.1,
        subst (λ (j : Journal). m.executes options (who_of s.session (n + 1)) s c j x.1 h.0 h.1) (sym b) h.2,
        h.3,
        subst (λ (j : Journal). HasOwnNeeds options j (key_of_command s c) x.1) (sym b) h.4,
        f h.1 x.0 (n + 1) es w.0 w.1 h.5,
      )

  -- the lines of a run, and then those of another
  pub onward : (done : Rest) (state : State) (place count : ℕ) (ds : List Command) (ks : List ReportLine) (xs : List (ℕ × Event))
      → LinesThen m options (J ++ more) done ds ks state place count xs
      → (cs : List Command) (ls : List ReportLine) (s : State) (p n : ℕ) (es : List (ℕ × Event)) → p ≤ length J → Below (length J) es
      → LinesThen m options J (StandsAt state place count) cs ls s p n es
      → LinesThen m options (J ++ more) done (cs ++ ds) (ls ++ ks) s p n (es ++ xs)
  onward done state place count ds ks xs next [] [] s p n es small w h =
      subst (λ (t : State). LinesThen m options (J ++ more) done ds ks t p n (es ++ xs)) (sym h.0)
      (subst (λ (q : ℕ). LinesThen m options (J ++ more) done ds ks state q n (es ++ xs)) (sym h.1)
      (subst (λ (q : ℕ). LinesThen m options (J ++ more) done ds ks state place q (es ++ xs)) (sym h.2)
      (subst (λ (fs : List (ℕ × Event)). LinesThen m options (J ++ more) done ds ks state place count (fs ++ xs)) (sym h.3) next)))
  onward done state place count ds ks xs next [] (l ∷ ls) s p n es small w h = absurd h
  onward done state place count ds ks xs next (c ∷ cs) [] s p n es small w h = absurd h
  onward done state place count ds ks xs next (c ∷ cs) (l ∷ ls) s p n es small w h =
      let rest : Rest = LinesThen m options J (StandsAt state place count) cs ls in
      let rest' : Rest = LinesThen m options (J ++ more) done (cs ++ ds) (ls ++ ks) in
      subst (λ (j : Journal). MatchOption (m.without_event s j c) (TakesNext m options (J ++ more) s n c l (es ++ xs) rest') (λ given. (l ≡ line p word.Local given.0) × rest' given.1 p n (es ++ xs))) (sym (take_on p small))
      (match_map (m.without_event s (take p J) c)
      (takes_on s n c l es xs rest rest' w (λ t q k fs a b. onward done state place count ds ks xs next cs ls t q k fs a b))
      (λ given g. (g.0, onward done state place count ds ks xs next cs ls given.1 p n es small w g.1))
      h)

-- the fills that a run began are ended in the longer journal
fill_on : (J more : Journal) (e : Event) → fill_ends J e ≡ true → fill_ends (J ++ more) e ≡ true
fill_on J more (event.Run who (how.Start serial key tables)) h = ended_on serial [] J more h
fill_on J more (event.Run who (how.Hit serial)) h = refl
fill_on J more (event.Run who (how.Plain why)) h = refl
fill_on J more (event.Run who how.Other) h = refl
fill_on J more (event.Run who (how.Status totals)) h = refl
fill_on J more (event.Run who (how.Conflict table key at)) h = refl
fill_on J more (event.Commit who ops) h = refl
fill_on J more (event.Done serial) h = refl
fill_on J more (event.Gone serial why) h = refl
fill_on J more (event.Prune serial need largest) h = refl
fill_on J more (event.Reset who) h = refl
fill_on J more (event.Flush who) h = refl

pub and_both : (a b : Bool) → (a && b) ≡ true → (a ≡ true) × (b ≡ true)
and_both true b h = (refl, h)
and_both false b h = absurd cc

pub and_pair : (a b : Bool) → a ≡ true → b ≡ true → (a && b) ≡ true
and_pair true b e f = f
and_pair false b e f = absurd cc

pub fills_on : (J more : Journal) (es : List (ℕ × Event)) → list_all (λ x. fill_ends J x.1) es ≡ true → list_all (λ x. fill_ends (J ++ more) x.1) es ≡ true
fills_on J more [] h = refl
fills_on J more (x ∷ es) h = let p = and_both (fill_ends J x.1) _ h in and_pair (fill_ends (J ++ more) x.1) _ (fill_on J more x.1 p.0) (fills_on J more es p.1)

pub both_end : (J : Journal) (es fs : List (ℕ × Event)) → list_all (λ x. fill_ends J x.1) es ≡ true → list_all (λ x. fill_ends J x.1) fs ≡ true → list_all (λ x. fill_ends J x.1) (es ++ fs) ≡ true
both_end J es fs a b = list_all-append (λ x. fill_ends J x.1) es fs ∙ and_pair (list_all (λ x. fill_ends J x.1) es) _ a b
