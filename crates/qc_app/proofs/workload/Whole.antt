-- The law of the workload.
use Rattle.std.proofs.Common.{◌≡◌, ℕ, zero, suc, ◌+◌, ◌-◌, ◌*◌, ◌≤◌, Bool, true, false, List, [], ◌∷◌, ◌++◌, map, length, refl, sym, ap, ◌∙◌, subst, subst₂, ap₂, arith, cond, inl, inr, ◌⊎◌, append-nil}
use Rattle.std.specs.Prelude.{codes, pos}
use Rattle.std.specs.List.{list_all, flat_map}
use Rattle.qc_app.proofs.workload.Maps.{Map, Below, Rises}
use Rattle.qc_types.specs.declared.options.Options.{Options}
use Rattle.qc_sql.specs.declared.commands.Command.{Command}
use Rattle.qc_sql.specs.declared.commands.Command.TheVariants as command
use Rattle.qc_sql.specs.Database.{Database, table_of}
use Rattle.qc_model.specs.declared.reports.Report.{Report}
use Rattle.qc_model.specs.declared.reports.SessionReport.{SessionReport}
use Rattle.qc_model.specs.declared.reports.Ending.TheVariants as ending
use Rattle.qc_model.specs.Journal.{Journal, event_count}
use Rattle.qc_model.specs.Session.{State, starting}
use Rattle.qc_model.specs.Machine.{local_text}
use Rattle.qc_model.specs.declared.events.Counters.{Counters}
use Rattle.qc_model.specs.Agrees.{AreSessions, IsSessionOf, LinesThen, Commands, commands_of, inputs_of, numbered_events, none_left, setup_first, whole_machine, is_of}
use Rattle.qc_model.specs.Workload.{Tally, no_tally, after_draws, draw, draws_of_session, tally_of, tallies, total, value_sum}
use Rattle.qc_script.specs.WorkloadScript.{statement as text_of_draw, statements, sent, setup_commands, session_commands, session_of, before_session, workload_script}
use Rattle.qc_app.specs.workload.Counts.{HasCounts}
use Rattle.qc_app.specs.workload.Law.{WorkloadCounts, PrefixesStand, StandsAfter, IsInRange, AreInRanges, tallies_after}
use Rattle.qc_app.specs.workload.Tables.{in_w, database, table_of_rows}
use Rattle.qc_app.specs.workload.Texts.{creation}
use Rattle.qc_app.proofs.workload.Fixed as fixed
use Rattle.qc_app.proofs.workload.Follows.{Follows, follows_none, follows_end}
use Rattle.qc_app.proofs.workload.Steps.{working, means_no_local, just_w, just_a, uses_empty, makes_w, makes_a, makes_b}
use Rattle.qc_app.proofs.workload.Draws.{draw_has}
use Rattle.qc_app.proofs.workload.World.{Progress, maps_a, maps_b, commands_left, state_of, Own, Under, From, AllFollow, AllFrom}
use Rattle.qc_app.proofs.workload.Walk.{Reached, Reach, stage, walk, five, selects_in}
use Rattle.qc_app.proofs.workload.Totals.{tallies_in, all_commits, all_selects, rows_in_a, rows_in_b, sum_in_a, sum_in_b, row_count, row_sum}
use Rattle.qc_app.proofs.workload.Sent.{setup_sent, session_sent}

-- ---- the end

module _ (options : Options) (journal : Journal) (goal : ℕ → Tally) where
  one_ended : (s : ℕ) (b : Bool) (left next x : ℕ) (t : Tally) →
      let p : Progress = record { begun = b; left = left; next = next; x = x; tally = t } in
      s ≤ 4 → Under (goal s) s p → Follows options journal (commands_left s p) (state_of options.kind s p) [] → t ≡ goal s
  unfolding statements
  one_ended s false left next x t four u f = absurd (follows_none options journal (command.InitDb (codes "w")) (statements left s next x) (starting s options.kind) refl f)
  one_ended s true zero next x t four u f = u.rest
  one_ended s true (suc left) next x t four u f =
      let bound : suc left + next ≤ 2001 = u.bound in
      absurd (follows_none options journal (command.Query (text_of_draw s next (draw x))) _ (working s options.kind) (draw_has s options.kind next (omega (arith, bound)) four (draw x)) f)

  -- what the sessions were to come to, from a number on
  abbrev goals : ℕ → ℕ → List Tally
  goals s zero = []
  goals s (suc n) = goal s ∷ goals (s + 1) n

  all_ended : (ps : List Progress) (s n : ℕ) → s + length ps ≤ 5 → AllFollow options journal goal s ps n [] → tallies_in ps ≡ goals s (length ps)
  all_ended [] s n few f = refl
  all_ended (p ∷ ps) s n few f = λ i. one_ended s p.begun p.left p.next p.x p.tally (omega (arith, few)) f.0 f.1 i ∷ all_ended ps (s + 1) n (omega (arith, few)) f.2 i

-- ---- from the beginning

module _ (options : Options) (journal : Journal) (goal : ℕ → Tally) (draws : ℕ) (fits : draws ≤ 2000) (before : ℕ → ℕ) (begins : (s : ℕ) → after_draws draws s 1 (before s) no_tally ≡ goal s) where
  abbrev beginning : ℕ → Progress
  beginning s = record { begun = false; left = draws; next = 1; x = before s; tally = no_tally }

  under : (s : ℕ) → Under (goal s) s (beginning s)
  under s =
      let none : Own (s * 1000000) (s * 1000000 + 1) 1 [] = record { rises = tt; below = tt; few = omega arith } in
      record { rest = begins s; own_a = none; own_b = none; bound = omega (arith, fits) }

  from_none : (s : ℕ) → From (before s) s 0 (beginning s)
  from_none s = record { done = 0; following = refl; drawn_so_far = refl; at = refl; counted = refl; fresh = λ h. refl }

  abbrev four : List Progress
  four = beginning 1 ∷ beginning 2 ∷ beginning 3 ∷ beginning 4 ∷ []

  -- the commands of a session
  abbrev commands : ℕ → List Command
  commands s = command.InitDb (codes "w") ∷ statements draws s 1 (before s)

  abbrev Begins : ℕ → List Command → Type 0
  Begins s cs = Follows options journal cs (starting s options.kind) (numbered_events s 1 journal)

  module _ (prefix behind : Journal) (split : journal ≡ prefix ++ behind) (whole : (behind ≡ []) ⊎ (event_count prefix 0 ≡ 4)) where
    abbrev ToReach : Database → ℕ → ℕ → List Command → State → Type 0
    ToReach d k j cs st = Reach options journal prefix behind goal before split whole four d k j cs st

    follows_split : (s : ℕ) (cs : List Command) → Begins s cs → Follows options journal cs (starting s options.kind) (numbered_events s 1 (prefix ++ behind))
    follows_split s cs f = subst (λ (l : Journal). Follows options journal cs (starting s options.kind) (numbered_events s 1 l)) split f

    reach : Begins 0 setup_commands → Begins 1 (commands 1) → Begins 2 (commands 2) → Begins 3 (commands 3) → Begins 4 (commands 4)
        → setup_first false journal ≡ true → list_all (is_of five) journal ≡ true → Reached options journal prefix behind goal before split whole
    reach setup one two three fourth first of =
        let kind : ℕ = options.kind in
        let q0 : Command = command.Query (codes "CREATE DATABASE w") in
        let q1 : Command = command.InitDb (codes "w") in
        let q2 : Command = command.Query (codes "CREATE TABLE a (id BIGINT PRIMARY KEY, v BIGINT NOT NULL)") in
        let q3 : Command = command.Query (codes "CREATE TABLE b (id BIGINT PRIMARY KEY, v BIGINT NOT NULL)") in
        let reach4 : ToReach (database [] []) 3 4 [] (working 0 kind) =
        λ q p n is at f from count s h fst all. walk options journal prefix behind goal before split whole q p n four is at refl f from (follows_end options journal (working 0 kind) (numbered_events 0 n (q ++ behind)) s) all h in
        let reach3 : ToReach just_a 2 3 (q3 ∷ []) (working 0 kind) =
        stage options journal prefix behind goal before split whole four q3 [] (working 0 kind) (working 0 kind) just_a (database [] []) 2 1 3 (omega arith)
        (means_no_local 0 kind (codes "CREATE TABLE b (id BIGINT PRIMARY KEY, v BIGINT NOT NULL)") (creation (codes "b")) fixed.b refl)
        (λ who p e r next now ex. makes_b options who kind p e r next (codes "CREATE TABLE b (id BIGINT PRIMARY KEY, v BIGINT NOT NULL)") fixed.b now ex) reach4 in
        let reach2 : ToReach just_w 1 2 (q2 ∷ q3 ∷ []) (working 0 kind) =
        stage options journal prefix behind goal before split whole four q2 (q3 ∷ []) (working 0 kind) (working 0 kind) just_w just_a 1 1 2 (omega arith)
        (means_no_local 0 kind (codes "CREATE TABLE a (id BIGINT PRIMARY KEY, v BIGINT NOT NULL)") (creation (codes "a")) fixed.a refl)
        (λ who p e r next now ex. makes_a options who kind p e r next (codes "CREATE TABLE a (id BIGINT PRIMARY KEY, v BIGINT NOT NULL)") fixed.a now ex) reach3 in
        let reach1 : ToReach just_w 1 1 (q1 ∷ q2 ∷ q3 ∷ []) (starting 0 kind) =
        stage options journal prefix behind goal before split whole four q1 (q2 ∷ q3 ∷ []) (starting 0 kind) (working 0 kind) just_w just_w 1 0 1 (omega arith) refl
        (λ who p e r next now ex. uses_empty options who kind p e r next 0 now ex) reach2 in
        let reach0 : ToReach [] 0 0 setup_commands (starting 0 kind) =
        stage options journal prefix behind goal before split whole four q0 (q1 ∷ q2 ∷ q3 ∷ []) (starting 0 kind) (starting 0 kind) [] just_w 0 1 0 (omega arith)
        (ap (local_text (starting 0 kind)) fixed.database)
        (λ who p e r next now ex. makes_w options who kind p e r next (codes "CREATE DATABASE w") fixed.database now ex) reach1 in
        reach0 prefix [] 1 refl refl
        (under 1, follows_split 1 (commands 1) one, (under 2, follows_split 2 (commands 2) two, (under 3, follows_split 3 (commands 3) three, (under 4, follows_split 4 (commands 4) fourth, tt))))
        (from_none 1, (from_none 2, (from_none 3, (from_none 4, tt)))) refl (follows_split 0 setup_commands setup) (record { tables = refl; counted = refl; asked = refl })
        (subst (λ (l : Journal). setup_first false l ≡ true) split first) (subst (λ (l : Journal). list_all (is_of five) l ≡ true) split of)

-- ---- the sessions of the script

follows_of : (options : Options) (journal : Journal) (i : ℕ) (input : List ℕ) (cs : List Command) (s : SessionReport) → s.session ≡ i → commands_of input ≡ (cs, ending.Input)
    → IsSessionOf whole_machine options journal input s → Follows options journal cs (starting i options.kind) (numbered_events i 1 journal)
follows_of options journal i input cs s is sent h = record {
  lines = s.lines;
  place = 0;
  count = 0;
  holds = subst₂ (λ j c. LinesThen whole_machine options journal none_left c s.lines (starting j options.kind) 0 0 (numbered_events j 1 journal)) is (ap (λ (x : Commands). x.0) sent) h.lines;
}

-- the five sessions, by their inputs
pub record Served (options : Options) (journal : Journal) (c0 c1 c2 c3 c4 : List Command) (sessions : List SessionReport) : Type 0 where
  pub setup : Follows options journal c0 (starting 0 options.kind) (numbered_events 0 1 journal)
  pub one : Follows options journal c1 (starting 1 options.kind) (numbered_events 1 1 journal)
  pub two : Follows options journal c2 (starting 2 options.kind) (numbered_events 2 1 journal)
  pub three : Follows options journal c3 (starting 3 options.kind) (numbered_events 3 1 journal)
  pub fourth : Follows options journal c4 (starting 4 options.kind) (numbered_events 4 1 journal)
  pub numbers : map (λ (s : SessionReport). s.session) sessions ≡ five

module _ (options : Options) (journal : Journal) (i0 i1 i2 i3 i4 : List ℕ) (c0 c1 c2 c3 c4 : List Command)
    (e0 : commands_of i0 ≡ (c0, ending.Input)) (e1 : commands_of i1 ≡ (c1, ending.Input)) (e2 : commands_of i2 ≡ (c2, ending.Input)) (e3 : commands_of i3 ≡ (c3, ending.Input)) (e4 : commands_of i4 ≡ (c4, ending.Input)) where
  abbrev inputs : List (ℕ × List ℕ)
  inputs = (0, i0) ∷ (1, i1) ∷ (2, i2) ∷ (3, i3) ∷ (4, i4) ∷ []

  served : (rs : List SessionReport) → AreSessions whole_machine options journal inputs rs → Served options journal c0 c1 c2 c3 c4 rs
  served [] h = absurd h
  served (r0 ∷ []) h = absurd h.2
  served (r0 ∷ r1 ∷ []) h = absurd h.2.2
  served (r0 ∷ r1 ∷ r2 ∷ []) h = absurd h.2.2.2
  served (r0 ∷ r1 ∷ r2 ∷ r3 ∷ []) h = absurd h.2.2.2.2
  served (r0 ∷ r1 ∷ r2 ∷ r3 ∷ r4 ∷ []) h = record {
    setup = follows_of options journal 0 i0 c0 r0 h.0 e0 h.1;
    one = follows_of options journal 1 i1 c1 r1 h.2.0 e1 h.2.1;
    two = follows_of options journal 2 i2 c2 r2 h.2.2.0 e2 h.2.2.1;
    three = follows_of options journal 3 i3 c3 r3 h.2.2.2.0 e3 h.2.2.2.1;
    fourth = follows_of options journal 4 i4 c4 r4 h.2.2.2.2.0 e4 h.2.2.2.2.1;
    numbers = λ i. h.0 i ∷ h.2.0 i ∷ h.2.2.0 i ∷ h.2.2.2.0 i ∷ h.2.2.2.2.0 i ∷ [];
  }
  served (r0 ∷ r1 ∷ r2 ∷ r3 ∷ r4 ∷ r5 ∷ rs) h = absurd h.2.2.2.2.2

-- ---- the numbers

abbrev Final : Options → Journal → (ℕ → Tally) → (ℕ → ℕ) → Type 0
Final options journal goal before = Reached options journal journal [] goal before (sym (append-nil journal)) (inl refl)

ended : (options : Options) (journal : Journal) (goal : ℕ → Tally) (before : ℕ → ℕ) (end : Final options journal goal before) → tallies_in end.sessions ≡ goal 1 ∷ goal 2 ∷ goal 3 ∷ goal 4 ∷ []
ended options journal goal before end = let size = end.size in all_ended options journal goal end.sessions 1 end.number (omega (arith, size)) end.follow ∙ ap (goals options journal goal 1) size

counts : (options : Options) (goal : ℕ → Tally) (before : ℕ → ℕ) (number : ℕ) (report : Report) (end : Final options report.journal goal before) → tallies_in end.sessions ≡ tallies number
    → report.counters.hits + report.counters.com_select ≡ selects_in report.journal → HasCounts number report
counts options goal before number report end is asked =
    let ps : List Progress = end.sessions in
    record {
      commits = end.held.counted ∙ ap (λ n. 3 + n) (all_commits ps ∙ ap (total (λ t. t.commits)) is);
      a = record {
        table = table_of_rows (maps_a ps);
        there = ap (table_of (in_w (codes "a"))) end.held.tables;
        count = row_count (maps_a ps) ∙ (rows_in_a ps ∙ ap (total (λ t. length t.in_a)) is);
        sum = row_sum (maps_a ps) ∙ ap pos (sum_in_a ps ∙ ap (total (λ t. value_sum t.in_a)) is);
      };
      b = record {
        table = table_of_rows (maps_b ps);
        there = ap (table_of (in_w (codes "b"))) end.held.tables;
        count = row_count (maps_b ps) ∙ (rows_in_b ps ∙ ap (total (λ t. length t.in_b)) is);
        sum = row_sum (maps_b ps) ∙ ap pos (sum_in_b ps ∙ ap (total (λ t. value_sum t.in_b)) is);
      };
      selects = asked ∙ (end.held.asked ∙ (all_selects ps ∙ ap (total (λ t. t.selects)) is));
    }

-- ---- each moment

module _ (options : Options) (journal prefix behind : Journal) (goal : ℕ → Tally) (before : ℕ → ℕ) (split : journal ≡ prefix ++ behind) (whole : (behind ≡ []) ⊎ (event_count prefix 0 ≡ 4)) where
  -- the sessions' draws so far, from a number on
  abbrev so_far : ℕ → ℕ → List Tally
  so_far s zero = []
  so_far s (suc n) = after_draws (event_count prefix s - 1) s 1 (before s) no_tally ∷ so_far (s + 1) n

  one_so_far : (s : ℕ) (p : Progress) (events : ℕ) → From (before s) s events p → p.tally ≡ after_draws (events - 1) s 1 (before s) no_tally
  one_so_far s p events f = sym f.drawn_so_far ∙ ap (λ n. after_draws n s 1 (before s) no_tally) (by p.begun f.counted f.fresh)
    where
      by : (b : Bool) → events ≡ cond b (1 + f.done) 0 → (b ≡ false → f.done ≡ 0) → f.done ≡ events - 1
      by true e fresh = omega (arith, e)
      by false e fresh = let z = fresh refl in omega (arith, e, z)

  all_so_far : (ps : List Progress) (s : ℕ) → AllFrom before s ps prefix → tallies_in ps ≡ so_far s (length ps)
  all_so_far [] s f = refl
  all_so_far (p ∷ ps) s f = λ i. one_so_far s p (event_count prefix s) f.0 i ∷ all_so_far ps (s + 1) f.1 i

in_range : (session low next : ℕ) (m : Map) → session * 1000000 ≤ low → next ≤ 2001 → Rises low m → Below (session * 1000000 + next) m → IsInRange session m
in_range session low next [] h g r b = tt
in_range session low next (e ∷ m) h g r b =
    let x = r.0 in
    let y = b.0 in
    ((omega (arith, h, x), omega (arith, g, y)), in_range session e.0 next m (omega (arith, h, x)) g r.1 b.1)

all_in_ranges : (options : Options) (journal : Journal) (goal : ℕ → Tally) (ps : List Progress) (s n : ℕ) (q : Journal) → AllFollow options journal goal s ps n q → AreInRanges s (tallies_in ps)
all_in_ranges options journal goal [] s n q f = tt
all_in_ranges options journal goal (p ∷ ps) s n q f =
    let u = f.0.bound in (
      in_range s (s * 1000000) p.next p.tally.in_a (omega arith) (omega (arith, u)) f.0.own_a.rises f.0.own_a.below,
      in_range s (s * 1000000) p.next p.tally.in_b (omega arith) (omega (arith, u)) f.0.own_b.rises f.0.own_b.below,
      all_in_ranges options journal goal ps (s + 1) n q f.2,
    )

flat_a : (ps : List Progress) → maps_a ps ≡ flat_map (λ (t : Tally). t.in_a) (tallies_in ps)
flat_a [] = refl
flat_a (p ∷ ps) = ap (λ (l : Map). p.tally.in_a ++ l) (flat_a ps)

flat_b : (ps : List Progress) → maps_b ps ≡ flat_map (λ (t : Tally). t.in_b) (tallies_in ps)
flat_b [] = refl
flat_b (p ∷ ps) = ap (λ (l : Map). p.tally.in_b ++ l) (flat_b ps)

stands : (options : Options) (journal prefix behind : Journal) (goal : ℕ → Tally) (before : ℕ → ℕ) (split : journal ≡ prefix ++ behind) (whole : (behind ≡ []) ⊎ (event_count prefix 0 ≡ 4)) (number : ℕ)
    (r : Reached options journal prefix behind goal before split whole) → tallies_in r.sessions ≡ tallies_after number prefix → StandsAfter number prefix
stands options journal prefix behind goal before split whole number r is =
    let ps : List Progress = r.sessions in
    record {
      tables = r.held.tables ∙ ap₂ database (flat_a ps ∙ ap (flat_map (λ (t : Tally). t.in_a)) is) (flat_b ps ∙ ap (flat_map (λ (t : Tally). t.in_b)) is);
      ranges = subst (AreInRanges 1) is (all_in_ranges options journal goal ps 1 r.number behind r.follow);
      commits = r.held.counted ∙ ap (λ n. 3 + n) (all_commits ps ∙ ap (total (λ t. t.commits)) is);
      selects = r.held.asked ∙ (all_selects ps ∙ ap (total (λ t. t.selects)) is);
    }

-- ---- from the script

-- the sessions of a script in which each draws so often
abbrev ServedOften : Options → ℕ → (ℕ → ℕ) → Report → Type 0
ServedOften options draws before report =
    Served options report.journal setup_commands (command.InitDb (codes "w") ∷ statements draws 1 1 (before 1)) (command.InitDb (codes "w") ∷ statements draws 2 1 (before 2))
    (command.InitDb (codes "w") ∷ statements draws 3 1 (before 3)) (command.InitDb (codes "w") ∷ statements draws 4 1 (before 4)) report.sessions

module _ (options : Options) (report : Report) (goal : ℕ → Tally) (draws : ℕ) (fits : draws ≤ 2000) (before : ℕ → ℕ) (begins : (s : ℕ) → after_draws draws s 1 (before s) no_tally ≡ goal s)
    (S : ServedOften options draws before report) (first : setup_first false report.journal ≡ true)
    (of : list_all (is_of (map (λ (s : SessionReport). s.session) report.sessions)) report.journal ≡ true) where
  reached : (prefix behind : Journal) (split : report.journal ≡ prefix ++ behind) (whole : (behind ≡ []) ⊎ (event_count prefix 0 ≡ 4)) → Reached options report.journal prefix behind goal before split whole
  reached prefix behind split whole =
      reach options report.journal goal draws fits before begins prefix behind split whole S.setup S.one S.two S.three S.fourth first
      (subst (λ (l : List ℕ). list_all (is_of l) report.journal ≡ true) S.numbers of)

  counted : (number : ℕ) → goal 1 ∷ goal 2 ∷ goal 3 ∷ goal 4 ∷ [] ≡ tallies number → report.counters.hits + report.counters.com_select ≡ selects_in report.journal → HasCounts number report
  counted number are asked =
      let end : Final options report.journal goal before = reached report.journal [] (sym (append-nil report.journal)) (inl refl) in
      counts options goal before number report end (ended options report.journal goal before end ∙ are) asked

  stood : (number : ℕ) (prefix behind : Journal) (split : report.journal ≡ prefix ++ behind) (four : event_count prefix 0 ≡ 4)
      → so_far options report.journal prefix behind goal before split (inr four) 1 4 ≡ tallies_after number prefix → StandsAfter number prefix
  stood number prefix behind split four are =
      let r : Reached options report.journal prefix behind goal before split (inr four) = reached prefix behind split (inr four) in
      stands options report.journal prefix behind goal before split (inr four) number r
      (all_so_far options report.journal prefix behind goal before split (inr four) r.sessions 1 r.from ∙ (ap (so_far options report.journal prefix behind goal before split (inr four) 1) r.size ∙ are))

served_by : (number : ℕ) (options : Options) (report : Report) → AreSessions whole_machine options report.journal (inputs_of (workload_script number)) report.sessions → ServedOften options draws_of_session (before_session number) report
unfolding workload_script
served_by number options report h =
    let before : ℕ → ℕ = before_session number in
    served options report.journal (sent setup_commands) (session_of number 1) (session_of number 2) (session_of number 3) (session_of number 4)
    setup_commands (session_commands 1 (before 1)) (session_commands 2 (before 2)) (session_commands 3 (before 3)) (session_commands 4 (before 4))
    setup_sent (session_sent 1 (before 1)) (session_sent 2 (before 2)) (session_sent 3 (before 3)) (session_sent 4 (before 4)) report.sessions h

pub workload_counts : WorkloadCounts
unfolding before_session
workload_counts number options report h =
    counted options report (tally_of number) draws_of_session (omega arith) (before_session number) (λ s. refl) (served_by number options report h.sessions) h.setup_before h.no_other number refl
    (ap (λ (c : Counters). c.hits + c.com_select) h.same_counters)

pub prefixes_stand : PrefixesStand
unfolding before_session
prefixes_stand number options report h journal later split four =
    stood options report (tally_of number) draws_of_session (omega arith) (before_session number) (λ s. refl) (served_by number options report h.sessions) h.setup_before h.no_other number journal later split four refl
