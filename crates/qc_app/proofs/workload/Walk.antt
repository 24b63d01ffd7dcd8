-- From event to event of the journal: the setup, and made the sessions.
use Rattle.std.proofs.Common.{◌≡◌, ◌⊎◌, ℕ, suc, ◌+◌, ◌-◌, ◌≤◌, ◌<◌, Bool, true, false, cond, List, [], ◌∷◌, ◌++◌, length, take, Option, Some, None, refl, sym, ap, ◌∙◌, subst, arith, append_assoc, append-nil, length-append, eqb-true, eq-eqb, ne_eqb, ⊎_elim, count_by, true≢false, unwrap_or, option_map}
use Rattle.std.specs.Prelude.{◌==◌, ◌&&◌}
use Rattle.std.specs.List.{list_any, list_all}
use Rattle.std.proofs.lemmas.Bool.{and_parts, or_cases, cases_eq}
use Rattle.std.proofs.lemmas.List.{take_at}
use Rattle.std.proofs.lemmas.List.Sums.{sum_by-append}
use Rattle.qc_types.specs.declared.options.Options.{Options}
use Rattle.qc_sql.specs.declared.commands.Command.{Command}
use Rattle.qc_sql.specs.declared.replies.Reply.{Reply}
use Rattle.qc_sql.specs.Database.{Database, apply}
use Rattle.qc_model.specs.declared.events.Who.{Who}
use Rattle.qc_model.specs.declared.events.Event.{Event}
use Rattle.qc_model.specs.declared.events.Event.TheVariants as event
use Rattle.qc_model.specs.Journal.{Journal, present, database_after, operations, before, decider, is_by, is_of_session, event_count}
use Rattle.qc_model.specs.Cache.{is_run, is_hit}
use Rattle.qc_model.specs.Session.{State}
use Rattle.qc_model.specs.Machine.{Executes, local}
use Rattle.qc_model.specs.Agrees.{numbered_events, none_after, setup_first, is_of}
use Rattle.qc_model.specs.Workload.{Tally}
use Rattle.qc_app.specs.workload.Counts.{is_commit}
use Rattle.qc_app.specs.workload.Tables.{database}
use Rattle.qc_app.proofs.workload.Follows.{Follows, Next, follows_next, follows_none}
use Rattle.qc_app.proofs.workload.Steps.{commit_weight, select_weight, is_asking, Made}
use Rattle.qc_app.proofs.workload.World.{Progress, maps_a, maps_b, commits_of, selects_of, AllFollow, AllFrom, not_its, its, skip, from_other, count_event, Moved, advance}

-- ---- one event more

present_last : (d : Database) (p : Journal) (e : Event) → database_after d (p ++ e ∷ []) ≡ apply (operations e) (database_after d p)
present_last d [] e = refl
present_last d (x ∷ p) e = present_last (apply (operations x) d) p e

count_last : (test : Event → Bool) (p : Journal) (e : Event) → count_by test (p ++ e ∷ []) ≡ count_by test p + cond (test e) 1 0
count_last test p e = sum_by-append (λ x. cond (test x) 1 0) p (e ∷ []) ∙ omega arith

-- hits, and selects that ran
abbrev pub selects_in : Journal → ℕ
selects_in p = count_by (is_run is_hit) p + count_by (is_run is_asking) p

selects_last : (p : Journal) (e : Event) → selects_in (p ++ e ∷ []) ≡ selects_in p + select_weight e
selects_last p e = let a = count_last (is_run is_hit) p e in let b = count_last (is_run is_asking) p e in omega (arith, a, b)

-- what a prefix of the journal comes to
pub record Held (p : Journal) (d : Database) (commits selects : ℕ) : Type 0 where
  pub tables : present p ≡ d
  pub counted : count_by is_commit p ≡ commits
  pub asked : selects_in p ≡ selects

held_last : (p : Journal) (d after : Database) (c c' s s' : ℕ) (e : Event) → Held p d c s → apply (operations e) d ≡ after → c + commit_weight e ≡ c' → s + select_weight e ≡ s' → Held (p ++ e ∷ []) after c' s'
held_last p d after c c' s s' e h t k l =
    let a = h.counted in
    let b = h.asked in
    let m = count_last is_commit p e in
    let n = selects_last p e in
    record {
      tables = present_last [] p e ∙ (ap (apply (operations e)) h.tables ∙ t);
      counted = omega (arith, a, m, k);
      asked = omega (arith, b, n, l);
    }

-- an event that no session decides
pub record Quiet (e : Event) : Type 0 where
  pub nothing : operations e ≡ []
  pub no_commit : commit_weight e ≡ 0
  pub no_select : select_weight e ≡ 0

quiet : (e : Event) → decider e ≡ None → Quiet e
quiet (event.Run who how) q = absurd cc
quiet (event.Commit who ops) q = absurd cc
quiet (event.Reset who) q = absurd cc
quiet (event.Flush who) q = absurd cc
quiet (event.Done serial) q = record { nothing = refl; no_commit = refl; no_select = refl }
quiet (event.Gone serial why) q = record { nothing = refl; no_commit = refl; no_select = refl }
quiet (event.Prune serial need largest) q = record { nothing = refl; no_commit = refl; no_select = refl }

held_quiet : (p : Journal) (d : Database) (c s : ℕ) (e : Event) → decider e ≡ None → Held p d c s → Held (p ++ e ∷ []) d c s
held_quiet p d c s e is h =
    let x = quiet e is in
    let k = x.no_commit in
    let l = x.no_select in
    held_last p d d c c s s e h (ap (λ ops. apply ops d) x.nothing) (omega (arith, k)) (omega (arith, l))

-- ---- whose an event is

abbrev pub five : List ℕ
five = 0 ∷ 1 ∷ 2 ∷ 3 ∷ 4 ∷ []

in_five : (w : ℕ) → list_any (λ m. m == w) five ≡ true → w ≤ 4
in_five w h =
    ⊎_elim (λ a. let e = eqb-true 0 w a in omega (arith, e)) (λ h1.
    ⊎_elim (λ a. let e = eqb-true 1 w a in omega (arith, e)) (λ h2.
    ⊎_elim (λ a. let e = eqb-true 2 w a in omega (arith, e)) (λ h3.
    ⊎_elim (λ a. let e = eqb-true 3 w a in omega (arith, e)) (λ h4.
    ⊎_elim (λ a. let e = eqb-true 4 w a in omega (arith, e)) (λ h5. absurd (true≢false (sym h5)))
    (or_cases (4 == w) _ h4)) (or_cases (3 == w) _ h3)) (or_cases (2 == w) _ h2)) (or_cases (1 == w) _ h1)) (or_cases (0 == w) _ h)

in_bounds : (e : Event) (who : Who) → decider e ≡ Some who → is_of five e ≡ true → who.session ≤ 4
in_bounds e who is h =
    in_five who.session (sym (ap (λ (o : Option Who). unwrap_or (option_map (λ n. list_any (λ m. m == n) five) (option_map (λ (w : Who). w.session) o)) true) is) ∙ h)

-- after an event of another session, none of session 0 comes
none_of_setup : (q : Journal) (n : ℕ) → setup_first true q ≡ true → numbered_events 0 n q ≡ []
none_of_setup [] n h = refl
none_of_setup (e ∷ q) n h = by (decider e) refl (λ g. none_of_setup q (n + 1) g)
  where
    by : (o : Option Who) → decider e ≡ o → (setup_first true q ≡ true → numbered_events 0 (n + 1) q ≡ []) → numbered_events 0 n (e ∷ q) ≡ []
    by None is later =
        let g : setup_first true q ≡ true = sym (ap (λ (x : Option Who). none_after true (option_map (λ (w : Who). w.session) x) (setup_first true q) (setup_first true q)) is) ∙ h in
        ap (λ t. cond t ((n, e) ∷ numbered_events 0 (n + 1) q) (numbered_events 0 (n + 1) q)) (ap (is_of_session 0) is) ∙ later g
    by (Some who) is later =
        let g : cond (who.session == 0) false (setup_first true q) ≡ true = sym (ap (λ (x : Option Who). none_after true (option_map (λ (w : Who). w.session) x) (setup_first true q) (setup_first true q)) is) ∙ h in
        ap (λ t. cond t ((n, e) ∷ numbered_events 0 (n + 1) q) (numbered_events 0 (n + 1) q)) (ap (is_of_session 0) is) ∙ here (who.session == 0) g later
      where
        here : (b : Bool) → cond b false (setup_first true q) ≡ true → (setup_first true q ≡ true → numbered_events 0 (n + 1) q ≡ []) → cond b ((n, e) ∷ numbered_events 0 (n + 1) q) (numbered_events 0 (n + 1) q) ≡ []
        here true g later = absurd (true≢false (sym g))
        here false g later = later g

-- ---- the walk

-- To the end of a prefix of the journal, which is the whole or has the four events of the setup.
module _ (options : Options) (journal prefix behind : Journal) (goal : ℕ → Tally) (start : ℕ → ℕ) (split : journal ≡ prefix ++ behind) (whole : (behind ≡ []) ⊎ (event_count prefix 0 ≡ 4)) where
  pub record Reached : Type 0 where
    pub sessions : List Progress
    pub number : ℕ
    pub follow : AllFollow options journal goal 1 sessions number behind
    pub from : AllFrom start 1 sessions prefix
    pub size : length sessions ≡ 4
    pub held : Held prefix (database (maps_a sessions) (maps_b sessions)) (3 + commits_of sessions) (selects_of sessions)

  at_prefix : (p q : Journal) (n : ℕ) → prefix ≡ p ++ q → n ≡ 1 + length p → before n journal ≡ p
  at_prefix p q n is at =
      ap (λ (j : Journal). take (n - 1) j) (split ∙ (ap (λ (j : Journal). j ++ behind) is ∙ append_assoc p q behind)) ∙ take_at p (q ++ behind) (n - 1) (omega (arith, at))

  further : (p q : Journal) (e : Event) → prefix ≡ p ++ e ∷ q → prefix ≡ (p ++ e ∷ []) ++ q
  further p q e is = is ∙ sym (append_assoc p (e ∷ []) q)

  next_number : (p : Journal) (e : Event) (n : ℕ) → n ≡ 1 + length p → n + 1 ≡ 1 + length (p ++ e ∷ [])
  next_number p e n at = let l = length-append p (e ∷ []) in omega (arith, at, l)

  -- of the sessions
  pub walk : (q p : Journal) (n : ℕ) (ps : List Progress) → prefix ≡ p ++ q → n ≡ 1 + length p → length ps ≡ 4 → AllFollow options journal goal 1 ps n (q ++ behind) → AllFrom start 1 ps p
      → numbered_events 0 n (q ++ behind) ≡ [] → list_all (is_of five) (q ++ behind) ≡ true → Held p (database (maps_a ps) (maps_b ps)) (3 + commits_of ps) (selects_of ps) → Reached
  walk [] p n ps is at size f from none of h =
      let same : p ≡ prefix = sym (is ∙ append-nil p) in
      record {
        sessions = ps;
        number = n;
        follow = f;
        from = subst (λ (j : Journal). AllFrom start 1 ps j) same from;
        size = size;
        held = subst (λ (j : Journal). Held j (database (maps_a ps) (maps_b ps)) (3 + commits_of ps) (selects_of ps)) same h;
      }
  walk (e ∷ q) p n ps is at size f from none of h = by (decider e) refl
      (λ qs held follow from' size' none'. walk q (p ++ e ∷ []) (n + 1) qs (further p q e is) (next_number p e n at) size' follow from' none' (and_parts (is_of five e) (list_all (is_of five) (q ++ behind)) of).1 held)
    where
      Onward : Type 0
      Onward = (qs : List Progress) → Held (p ++ e ∷ []) (database (maps_a qs) (maps_b qs)) (3 + commits_of qs) (selects_of qs) → AllFollow options journal goal 1 qs (n + 1) (q ++ behind)
          → AllFrom start 1 qs (p ++ e ∷ []) → length qs ≡ 4 → numbered_events 0 (n + 1) (q ++ behind) ≡ [] → Reached

      by : (o : Option Who) → decider e ≡ o → Onward → Reached
      by None nobody onward =
          let apart : (j : ℕ) → is_by j e ≡ false = λ j. ap (is_of_session j) nobody in
          onward ps (held_quiet p (database (maps_a ps) (maps_b ps)) (3 + commits_of ps) (selects_of ps) e nobody h)
          (skip options journal goal e (q ++ behind) n 1 ps (λ j g. apart j) f) (from_other start e p 1 ps (λ j g. apart j) from) size (sym (not_its options journal goal 0 n e (q ++ behind) (apart 0)) ∙ none)
      by (Some who) is_who onward =
          let high : who.session ≤ 4 = in_bounds e who is_who (and_parts (is_of five e) (list_all (is_of five) (q ++ behind)) of).0 in
          ⊎_elim
          (λ zeroth.
          let z : (n, e) ∷ numbered_events 0 (n + 1) (q ++ behind) ≡ [] = sym (its options journal goal 0 n e (q ++ behind) (ap (is_of_session 0) is_who ∙ eq-eqb who.session 0 zeroth)) ∙ none in
          absurd (let k : suc (length (numbered_events 0 (n + 1) (q ++ behind))) ≡ 0 = ap length z in omega arith))
          (λ other.
          let m : Moved options journal goal 1 ps n e (q ++ behind) [] [] =
          advance options journal goal who e (q ++ behind) n is_who ps 1 [] [] f (omega (arith, other)) (omega (arith, high, size)) (omega (arith, size)) tt tt (omega (arith, size)) (omega (arith, size))
          (ap present (at_prefix p (e ∷ q) n is at) ∙ h.tables) in
          let c = m.commits in
          let s = m.selects in
          onward m.after (held_last p (database (maps_a ps) (maps_b ps)) (database (maps_a m.after) (maps_b m.after)) (3 + commits_of ps) (3 + commits_of m.after) (selects_of ps) (selects_of m.after) e h m.tables (omega (arith, c)) (omega (arith, s)))
          m.follow (m.from start p from) (m.size ∙ size) (sym (not_its options journal goal 0 n e (q ++ behind) (ap (is_of_session 0) is_who ∙ ne_eqb who.session 0 other)) ∙ none))
          (cases_eq who.session 0)

  -- of the setup
  module _ (ps : List Progress) where
    -- from a prefix on, where session 0 has had so many events and is to execute these commands
    abbrev pub Reach : Database → ℕ → ℕ → List Command → State → Type 0
    Reach d k j cs st = (q p : Journal) (n : ℕ) → prefix ≡ p ++ q → n ≡ 1 + length p → AllFollow options journal goal 1 ps n (q ++ behind) → AllFrom start 1 ps p → event_count p 0 ≡ j
        → Follows options journal cs st (numbered_events 0 n (q ++ behind)) → Held p d k 0 → setup_first false (q ++ behind) ≡ true → list_all (is_of five) (q ++ behind) ≡ true → Reached

    pub stage : (c : Command) (cs : List Command) (st made : State) (d after : Database) (k w j : ℕ) → j < 4 → local st c ≡ None
        → ((who : Who) (p : Journal) (e : Event) (r : Reply) (next : State) → present p ≡ d → Executes options who st c p e r next → Made d after w e next made)
        → Reach after (k + w) (j + 1) cs made → Reach d k j (c ∷ cs) st
    stage c cs st made d after k w j few has does later [] p n is at f from count s h first of =
        ⊎_elim
        (λ none. absurd (follows_none options journal c cs st has (subst (λ (l : Journal). Follows options journal (c ∷ cs) st (numbered_events 0 n l)) none s)))
        (λ four. absurd (let same : event_count prefix 0 ≡ event_count p 0 = ap (λ (l : Journal). event_count l 0) (is ∙ append-nil p) in omega (arith, four, count, few, same)))
        whole
    stage c cs st made d after k w j few has does later (e ∷ q) p n is at f from count s h first of =
        by (decider e) refl (λ follow from' count' s' held first'. stage c cs st made d after k w j few has does later q (p ++ e ∷ []) (n + 1) (further p q e is) (next_number p e n at) follow from' count' s' held first' rest)
      where
        rest : list_all (is_of five) (q ++ behind) ≡ true
        rest = (and_parts (is_of five e) (list_all (is_of five) (q ++ behind)) of).1

        Onward : Type 0
        Onward = AllFollow options journal goal 1 ps (n + 1) (q ++ behind) → AllFrom start 1 ps (p ++ e ∷ []) → event_count (p ++ e ∷ []) 0 ≡ j
            → Follows options journal (c ∷ cs) st (numbered_events 0 (n + 1) (q ++ behind)) → Held (p ++ e ∷ []) d k 0 → setup_first false (q ++ behind) ≡ true → Reached

        first_of : (o : Option Who) → decider e ≡ o → none_after false (option_map (λ (x : Who). x.session) o) (setup_first false (q ++ behind)) (setup_first true (q ++ behind)) ≡ true
        first_of o is_o = sym (ap (λ (x : Option Who). none_after false (option_map (λ (y : Who). y.session) x) (setup_first false (q ++ behind)) (setup_first true (q ++ behind))) is_o) ∙ first

        by : (o : Option Who) → decider e ≡ o → Onward → Reached
        by None nobody onward =
            let apart : (i : ℕ) → is_by i e ≡ false = λ i. ap (is_of_session i) nobody in
            onward (skip options journal goal e (q ++ behind) n 1 ps (λ i g. apart i) f) (from_other start e p 1 ps (λ i g. apart i) from)
            (let l = count_event p 0 e false (apart 0) in omega (arith, l, count))
            (subst (λ (l : List (ℕ × Event)). Follows options journal (c ∷ cs) st l) (not_its options journal goal 0 n e (q ++ behind) (apart 0)) s)
            (held_quiet p d k 0 e nobody h) (first_of None nobody)
        by (Some who) is_who onward =
            ⊎_elim
            (λ zeroth.
            let b : (who.session == 0) ≡ true = eq-eqb who.session 0 zeroth in
            let N : Next options journal c cs st n e (numbered_events 0 (n + 1) (q ++ behind)) =
            follows_next options journal c cs st n e (numbered_events 0 (n + 1) (q ++ behind)) has
            (subst (λ (l : List (ℕ × Event)). Follows options journal (c ∷ cs) st l) (its options journal goal 0 n e (q ++ behind) (ap (is_of_session 0) is_who ∙ b)) s) in
            let M : Made d after w e N.next made = does N.who (before n journal) e N.reply N.next (ap present (at_prefix p (e ∷ q) n is at) ∙ h.tables) N.executes in
            let m = M.commits in
            let l = M.selects in
            let more = count_event p 0 e true (ap (is_of_session 0) is_who ∙ b) in
            let others : (i : ℕ) → 1 ≤ i → is_by i e ≡ false = λ i g. ap (is_of_session i) is_who ∙ ne_eqb who.session i (λ x. absurd (omega (arith, zeroth, g, x))) in
            later q (p ++ e ∷ []) (n + 1) (further p q e is) (next_number p e n at)
            (skip options journal goal e (q ++ behind) n 1 ps others f) (from_other start e p 1 ps others from) (omega (arith, more, count))
            (subst (λ (x : State). Follows options journal cs x (numbered_events 0 (n + 1) (q ++ behind))) M.same N.follows)
            (held_last p d after k (k + w) 0 0 e h M.tables (omega (arith, m)) (omega (arith, l)))
            (here (who.session == 0) b (first_of (Some who) is_who)) rest)
            (λ other.
            let b : (who.session == 0) ≡ false = ne_eqb who.session 0 other in
            absurd (follows_none options journal c cs st has
            (subst (λ (l : List (ℕ × Event)). Follows options journal (c ∷ cs) st l)
            (not_its options journal goal 0 n e (q ++ behind) (ap (is_of_session 0) is_who ∙ b) ∙ none_of_setup (q ++ behind) (n + 1) (there (who.session == 0) b (first_of (Some who) is_who))) s)))
            (cases_eq who.session 0)
          where
            here : (t : Bool) → t ≡ true → cond t (true && setup_first false (q ++ behind)) (setup_first true (q ++ behind)) ≡ true → setup_first false (q ++ behind) ≡ true
            here true x y = y
            here false x y = absurd (true≢false (sym x))

            there : (t : Bool) → t ≡ false → cond t (true && setup_first false (q ++ behind)) (setup_first true (q ++ behind)) ≡ true → setup_first true (q ++ behind) ≡ true
            there true x y = absurd (true≢false x)
            there false x y = y
