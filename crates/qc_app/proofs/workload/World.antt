-- The sessions of the workload under way, and one event of one of them.
use Rattle.std.proofs.Common.{◌≡◌, ℕ, zero, suc, ◌+◌, ◌*◌, ◌%◌, ◌≤◌, ◌<◌, Bool, true, false, cond, List, [], ◌∷◌, ◌++◌, length, Some, refl, sym, ap, ◌∙◌, subst, arith, append_assoc, length-append, eq-eqb, ne_eqb, ap₂, ⊎_elim, true≢false}
use Rattle.std.specs.Prelude.{◌==◌, codes}
use Rattle.std.specs.Ordering.{nat_cmp}
use Rattle.std.specs.BTreeMap.{insert_entry}
use lib.ListN.{length-map}
use Rattle.std.proofs.lemmas.Bool.{cases_eq}
use Rattle.std.proofs.lemmas.List.Sums.{sum_by-append}
use Rattle.qc_types.specs.declared.options.Options.{Options}
use Rattle.qc_sql.specs.declared.commands.Command.{Command}
use Rattle.qc_sql.specs.declared.commands.Command.TheVariants as command
use Rattle.qc_sql.specs.Database.{apply, most_rows}
use Rattle.qc_model.specs.declared.events.Who.{Who}
use Rattle.qc_model.specs.declared.events.Event.{Event}
use Rattle.qc_model.specs.Journal.{Journal, present, operations, before, decider, is_by, is_of_session, event_count}
use Rattle.qc_model.specs.Session.{State, starting}
use Rattle.qc_model.specs.Agrees.{numbered_events}
use Rattle.qc_model.specs.Workload.{Tally, no_tally, drawn, draw, drawn_often, after_draw, after_draws, all_set}
use Rattle.qc_script.specs.WorkloadScript.{statement, statements}
use Rattle.qc_app.specs.workload.Tables.{database}
use Rattle.qc_app.proofs.workload.Maps.{Map, Below, Above, Rises, below_more, above_less, below_append, above_append, rises_above, rises_last, insert_last, set_all, set_below, set_rises}
use Rattle.qc_app.proofs.workload.Follows.{Follows, Next, follows_next, follows_end}
use Rattle.qc_app.proofs.workload.Steps.{working, commit_weight, select_weight, Made, uses_w}
use Rattle.qc_app.proofs.workload.Draws.{among, Draws, Stands, draw_has, draw_does}

-- ---- how far a session is

pub record Progress : Type 0 where
  pub begun : Bool
  pub left : ℕ  -- how many draws are left
  pub next : ℕ  -- the number of the next one
  pub x : ℕ  -- where the generator stands
  pub tally : Tally

abbrev pub maps_a : List Progress → Map
maps_a [] = []
maps_a (p ∷ ps) = p.tally.in_a ++ maps_a ps

abbrev pub maps_b : List Progress → Map
maps_b [] = []
maps_b (p ∷ ps) = p.tally.in_b ++ maps_b ps

abbrev pub commits_of : List Progress → ℕ
commits_of [] = 0
commits_of (p ∷ ps) = p.tally.commits + commits_of ps

abbrev pub selects_of : List Progress → ℕ
selects_of [] = 0
selects_of (p ∷ ps) = p.tally.selects + selects_of ps

abbrev pub commands_left : ℕ → Progress → List Command
commands_left s p = cond p.begun (statements p.left s p.next p.x) (command.InitDb (codes "w") ∷ statements p.left s p.next p.x)

abbrev pub state_of : ℕ → ℕ → Progress → State
state_of kind s p = cond p.begun (working s kind) (starting s kind)

-- ---- keys of a session

-- a map of a session has keys from its first key up to its next, each once, and not more than were drawn
pub record Own (first key drawn : ℕ) (own : Map) : Type 0 where
  pub rises : Rises first own
  pub below : Below key own
  pub few : length own < drawn

own_later : (first key next : ℕ) (m : Map) → Own first key next m → Own first (key + 1) (next + 1) m
own_later first key next m o = let f = o.few in record { rises = o.rises; below = below_more key (key + 1) m (omega arith) o.below; few = omega (arith, f) }

own_put : (first key next v : ℕ) (m : Map) → first < key → Own first key next m → Own first (key + 1) (next + 1) (insert_entry nat_cmp m key v)
own_put first key next v m lt o =
    let f = o.few in
    let n = length-append m ((key, v) ∷ []) in
    subst (Own first (key + 1) (next + 1)) (sym (insert_last key v m o.below)) record {
      rises = rises_last first key v m lt o.rises o.below;
      below = below_append (key + 1) m ((key, v) ∷ []) (below_more key (key + 1) m (omega arith) o.below) (omega arith, tt);
      few = omega (arith, f, n);
    }

own_set : (first key next v : ℕ) (m : Map) → Own first key next m → Own first (key + 1) (next + 1) (set_all v m)
own_set first key next v m o =
    let f = o.few in
    let n = length-map m (λ (e : ℕ × ℕ). let y : ℕ × ℕ = (e.0, v) in y) in
    record {
      rises = set_rises v first m o.rises;
      below = set_below v (key + 1) m (below_more key (key + 1) m (omega arith) o.below);
      few = omega (arith, f, n);
    }

-- both maps of a session
abbrev Both : ℕ → ℕ → ℕ → Tally → Type 0
Both first key next t = Own first key next t.in_a × Own first key next t.in_b

both_if : (b : Bool) (first key next : ℕ) (t u : Tally) → Both first key next t → Both first key next u → Both first key next (cond b t u)
both_if true first key next t u h g = h
both_if false first key next t u h g = g

both_drawn : (first key next r : ℕ) (t : Tally) → first < key → Both first key next t → Both first (key + 1) (next + 1) (after_draw key r t)
both_drawn first key next r t lt h =
    let m : ℕ = r % 1000 in
    let in_a : Tally = record { in_a = insert_entry nat_cmp t.in_a key m; in_b = t.in_b; commits = t.commits + 1; selects = t.selects } in
    let in_b : Tally = record { in_a = t.in_a; in_b = insert_entry nat_cmp t.in_b key m; commits = t.commits + 1; selects = t.selects } in
    let shown : Tally = record { in_a = t.in_a; in_b = t.in_b; commits = t.commits; selects = t.selects + 1 } in
    let a = own_later first key next t.in_a h.0 in
    let b = own_later first key next t.in_b h.1 in
    both_if (r % 8 == 0) first (key + 1) (next + 1) in_a _ (own_put first key next m t.in_a lt h.0, b)
    (both_if (r % 8 == 1) first (key + 1) (next + 1) in_b _ (a, own_put first key next m t.in_b lt h.1)
    (both_if (r % 8 == 2) first (key + 1) (next + 1) (all_set m t) shown (own_set first key next m t.in_a h.0, b) (a, b)))

-- ---- where a session came from

-- the draws that it has behind it, from where the generator stood; and of its events one is `init`
pub record From (start s events : ℕ) (p : Progress) : Type 0 where
  pub done : ℕ
  pub following : p.next ≡ 1 + done
  pub drawn_so_far : after_draws done s 1 start no_tally ≡ p.tally
  pub at : drawn_often done start ≡ p.x
  pub counted : events ≡ cond p.begun (1 + done) 0
  pub fresh : p.begun ≡ false → done ≡ 0

-- one draw more, behind the others
draws_last : (n s k x : ℕ) (t : Tally) → after_draws (suc n) s k x t ≡ after_draw (s * 1000000 + (k + n)) (draw (drawn_often n x)) (after_draws n s k x t)
draws_last zero s k x t = let e : k ≡ k + 0 = omega arith in ap (λ j. after_draw (s * 1000000 + j) (draw x) t) e
draws_last (suc n) s k x t =
    let e : k + 1 + n ≡ k + suc n = omega arith in
    draws_last n s (k + 1) (drawn x) (after_draw (s * 1000000 + k) (draw x) t)
    ∙ ap (λ j. after_draw (s * 1000000 + j) (draw (drawn_often n (drawn x))) (after_draws n s (k + 1) (drawn x) (after_draw (s * 1000000 + k) (draw x) t))) e

drawn_last : (n x : ℕ) → drawn_often (suc n) x ≡ drawn (drawn_often n x)
drawn_last zero x = refl
drawn_last (suc n) x = drawn_last n (drawn x)

from_draw : (start s events left next x : ℕ) (t : Tally) → From start s events (record { begun = true; left = suc left; next = next; x = x; tally = t })
    → From start s (events + 1) (record { begun = true; left = left; next = next + 1; x = drawn x; tally = after_draw (s * 1000000 + next) (draw x) t })
from_draw start s events left next x t f =
    let n : ℕ = f.done in
    let following : next ≡ 1 + n = f.following in
    let counted : events ≡ 1 + n = f.counted in
    record {
      done = suc n;
      following = omega (arith, following);
      drawn_so_far =
          draws_last n s 1 start no_tally
          ∙ (ap (λ (u : Tally). after_draw (s * 1000000 + (1 + n)) (draw (drawn_often n start)) u) f.drawn_so_far
          ∙ (ap (λ y. after_draw (s * 1000000 + (1 + n)) (draw y) t) f.at
          ∙ ap (λ j. after_draw (s * 1000000 + j) (draw x) t) (sym following)));
      at = drawn_last n start ∙ ap drawn f.at;
      counted = omega (arith, counted);
      fresh = λ h. absurd (true≢false h);
    }

from_init : (start s events left next x : ℕ) (t : Tally) → From start s events (record { begun = false; left = left; next = next; x = x; tally = t })
    → From start s (events + 1) (record { begun = true; left = left; next = next; x = x; tally = t })
from_init start s events left next x t f =
    let none : f.done ≡ 0 = f.fresh refl in
    let counted : events ≡ 0 = f.counted in
    record {
      done = f.done;
      following = f.following;
      drawn_so_far = f.drawn_so_far;
      at = f.at;
      counted = omega (arith, counted, none);
      fresh = λ h. absurd (true≢false h);
    }

-- all sessions, from the one with a number, at the end of a prefix
abbrev pub AllFrom : (ℕ → ℕ) → ℕ → List Progress → Journal → Type 0
AllFrom start s [] p = Unit {0}
AllFrom start s (x ∷ xs) p = From (start s) s (event_count p s) x × AllFrom start (s + 1) xs p

pub count_event : (p : Journal) (s : ℕ) (e : Event) (b : Bool) → is_by s e ≡ b → event_count (p ++ e ∷ []) s ≡ event_count p s + cond b 1 0
count_event p s e b is =
    let one : event_count (p ++ e ∷ []) s ≡ event_count p s + cond (is_by s e) 1 0 = sum_by-append (λ x. cond (is_by s x) 1 0) p (e ∷ []) ∙ omega arith in
    one ∙ ap (λ t. event_count p s + cond t 1 0) is

pub from_other : (start : ℕ → ℕ) (e : Event) (p : Journal) (s : ℕ) (xs : List Progress) → ((j : ℕ) → s ≤ j → is_by j e ≡ false) → AllFrom start s xs p → AllFrom start s xs (p ++ e ∷ [])
from_other start e p s [] h f = tt
from_other start e p s (x ∷ xs) h f =
    let same : event_count p s ≡ event_count (p ++ e ∷ []) s = omega (arith, count_event p s e false (h s (omega arith))) in
    (subst (λ n. From (start s) s n x) same f.0, from_other start e p (s + 1) xs (λ j g. h j (omega (arith, g))) f.1)

-- ---- what holds of a session under way

pub record Under (goal : Tally) (s : ℕ) (p : Progress) : Type 0 where
  pub rest : after_draws p.left s p.next p.x p.tally ≡ goal
  pub own_a : Own (s * 1000000) (s * 1000000 + p.next) p.next p.tally.in_a
  pub own_b : Own (s * 1000000) (s * 1000000 + p.next) p.next p.tally.in_b
  pub bound : p.left + p.next ≤ 2001

module _ (options : Options) (journal : Journal) (goal : ℕ → Tally) where
  -- all sessions, from the one with a number, with the events that are left from a number on
  abbrev pub AllFollow : ℕ → List Progress → ℕ → Journal → Type 0
  AllFollow s [] n q = Unit {0}
  AllFollow s (p ∷ ps) n q = Under (goal s) s p × Follows options journal (commands_left s p) (state_of options.kind s p) (numbered_events s n q) × AllFollow (s + 1) ps n q

  few_all : (s : ℕ) (ps : List Progress) (n : ℕ) (q : Journal) → AllFollow s ps n q → (length (maps_a ps) ≤ 2000 * length ps) × (length (maps_b ps) ≤ 2000 * length ps)
  few_all s [] n q f = (omega arith, omega arith)
  few_all s (p ∷ ps) n q f =
      let later = few_all (s + 1) ps n q f.2 in
      let a = length-append p.tally.in_a (maps_a ps) in
      let b = length-append p.tally.in_b (maps_b ps) in
      let c = f.0.own_a.few in
      let d = f.0.own_b.few in
      let e = f.0.bound in
      let g = later.0 in
      let h = later.1 in
      (omega (arith, a, c, e, g), omega (arith, b, d, e, h))

  above_all : (s : ℕ) (ps : List Progress) (n : ℕ) (q : Journal) → AllFollow s ps n q → Above (s * 1000000) (maps_a ps) × Above (s * 1000000) (maps_b ps)
  above_all s [] n q f = (tt, tt)
  above_all s (p ∷ ps) n q f =
      let later = above_all (s + 1) ps n q f.2 in (
        above_append (s * 1000000) p.tally.in_a (maps_a ps) (rises_above (s * 1000000) (s * 1000000) p.tally.in_a (omega arith) f.0.own_a.rises) (above_less (s * 1000000) ((s + 1) * 1000000) (maps_a ps) (omega arith) later.0),
        above_append (s * 1000000) p.tally.in_b (maps_b ps) (rises_above (s * 1000000) (s * 1000000) p.tally.in_b (omega arith) f.0.own_b.rises) (above_less (s * 1000000) ((s + 1) * 1000000) (maps_b ps) (omega arith) later.1),
      )

  -- ---- an event that isn't a session's

  pub not_its : (s n : ℕ) (e : Event) (q : Journal) → is_by s e ≡ false → numbered_events s n (e ∷ q) ≡ numbered_events s (n + 1) q
  not_its s n e q h = ap (λ t. cond t ((n, e) ∷ numbered_events s (n + 1) q) (numbered_events s (n + 1) q)) h

  pub its : (s n : ℕ) (e : Event) (q : Journal) → is_by s e ≡ true → numbered_events s n (e ∷ q) ≡ (n, e) ∷ numbered_events s (n + 1) q
  its s n e q h = ap (λ t. cond t ((n, e) ∷ numbered_events s (n + 1) q) (numbered_events s (n + 1) q)) h

  pub skip : (e : Event) (q : Journal) (n s : ℕ) (ps : List Progress) → ((j : ℕ) → s ≤ j → is_by j e ≡ false) → AllFollow s ps n (e ∷ q) → AllFollow s ps (n + 1) q
  skip e q n s [] h f = tt
  skip e q n s (p ∷ ps) h f = (
    f.0,
    subst (λ (l : List (ℕ × Event)). Follows options journal (commands_left s p) (state_of options.kind s p) l) (not_its s n e q (h s (omega arith))) f.1,
    skip e q n (s + 1) ps (λ j g. h j (omega (arith, g))) f.2,
  )

  -- ---- an event of a session

  pub record One (s : ℕ) (p : Progress) (e : Event) (events : List (ℕ × Event)) (low_a high_a low_b high_b : Map) : Type 0 where
    pub after : Progress
    pub under : Under (goal s) s after
    pub follows : Follows options journal (commands_left s after) (state_of options.kind s after) events
    pub tables : apply (operations e) (database (among low_a high_a p.tally.in_a) (among low_b high_b p.tally.in_b)) ≡ database (among low_a high_a after.tally.in_a) (among low_b high_b after.tally.in_b)
    pub commits : p.tally.commits + commit_weight e ≡ after.tally.commits
    pub selects : p.tally.selects + select_weight e ≡ after.tally.selects
    pub from : (start events : ℕ) → From start s events p → From start s (events + 1) after

  module _ (s n : ℕ) (e : Event) (events : List (ℕ × Event)) (low_a high_a low_b high_b : Map) (four : s ≤ 4)
      (below_a : Below (s * 1000000) low_a) (below_b : Below (s * 1000000) low_b) (above_a : Above ((s + 1) * 1000000) high_a) (above_b : Above ((s + 1) * 1000000) high_b) where
    stands : (key next : ℕ) (low high own : Map) → Own (s * 1000000) key next own → Below (s * 1000000) low → Above ((s + 1) * 1000000) high → key ≤ s * 1000000 + 2000 → length (among low high own) < most_rows
        → Stands (s * 1000000) key low high own
    stands key next low high own o b a h few = record {
      below = b;
      rises = o.rises;
      own_below = o.below;
      above = above_less key ((s + 1) * 1000000) high (omega (arith, h)) a;
      few = few;
    }

    step : (b : Bool) (left next x : ℕ) (t : Tally) →
        let p : Progress = record { begun = b; left = left; next = next; x = x; tally = t } in
        Under (goal s) s p → Follows options journal (commands_left s p) (state_of options.kind s p) ((n, e) ∷ events)
        → length (among low_a high_a t.in_a) < most_rows → length (among low_b high_b t.in_b) < most_rows
        → present (before n journal) ≡ database (among low_a high_a t.in_a) (among low_b high_b t.in_b)
        → One s p e events low_a high_a low_b high_b
    unfolding statements
    step false left next x t u f few_a few_b now =
        let N : Next options journal (command.InitDb (codes "w")) (statements left s next x) (starting s options.kind) n e events =
        follows_next options journal (command.InitDb (codes "w")) (statements left s next x) (starting s options.kind) n e events refl f in
        let M : Made (database (among low_a high_a t.in_a) (among low_b high_b t.in_b)) (database (among low_a high_a t.in_a) (among low_b high_b t.in_b)) 0 e N.next (working s options.kind) =
        uses_w options N.who options.kind (before n journal) e N.reply N.next s (among low_a high_a t.in_a) (among low_b high_b t.in_b) now N.executes in
        record {
          after = record { begun = true; left = left; next = next; x = x; tally = t };
          under = record { rest = u.rest; own_a = u.own_a; own_b = u.own_b; bound = u.bound };
          follows = subst (λ (st : State). Follows options journal (statements left s next x) st events) M.same N.follows;
          tables = M.tables;
          commits = ap (λ k. t.commits + k) M.commits ∙ omega arith;
          selects = ap (λ k. t.selects + k) M.selects ∙ omega arith;
          from = λ start count g. from_init start s count left next x t g;
        }
    step true zero next x t u f few_a few_b now = absurd (let z : suc (length events) ≡ 0 = ap length (follows_end options journal (working s options.kind) ((n, e) ∷ events) f) in omega arith)
    step true (suc left) next x t u f few_a few_b now =
        let key : ℕ = s * 1000000 + next in
        let bound : suc left + next ≤ 2001 = u.bound in
        let fewer : length t.in_a < next = u.own_a.few in
        let some : 1 ≤ next = omega (arith, fewer) in
        let few : next ≤ 2000 = omega (arith, bound) in
        let within : key ≤ s * 1000000 + 2000 = omega (arith, few) in
        let c : Command = command.Query (statement s next (draw x)) in
        let N : Next options journal c (statements left s (next + 1) (drawn x)) (working s options.kind) n e events =
        follows_next options journal c (statements left s (next + 1) (drawn x)) (working s options.kind) n e events (draw_has s options.kind next few four (draw x)) f in
        let D : Draws e N.next (working s options.kind) low_a high_a low_b high_b t (after_draw key (draw x) t) =
        draw_does options N.who s options.kind next (before n journal) e N.reply N.next low_a high_a low_b high_b t now
        (stands key next low_a high_a t.in_a u.own_a below_a above_a within few_a) (stands key next low_b high_b t.in_b u.own_b below_b above_b within few_b) some few four (draw x) N.executes in
        let B : Both (s * 1000000) (key + 1) (next + 1) (after_draw key (draw x) t) = both_drawn (s * 1000000) key next (draw x) t (omega (arith, some)) (u.own_a, u.own_b) in
        let up : key + 1 ≡ s * 1000000 + (next + 1) = omega arith in
        record {
          after = record { begun = true; left = left; next = next + 1; x = drawn x; tally = after_draw key (draw x) t };
          under = record {
            rest = u.rest;
            own_a = subst (λ k. Own (s * 1000000) k (next + 1) (after_draw key (draw x) t).in_a) up B.0;
            own_b = subst (λ k. Own (s * 1000000) k (next + 1) (after_draw key (draw x) t).in_b) up B.1;
            bound = omega (arith, bound);
          };
          follows = subst (λ (st : State). Follows options journal (statements left s (next + 1) (drawn x)) st events) D.same N.follows;
          tables = D.tables;
          commits = D.commits;
          selects = D.selects;
          from = λ start count g. from_draw start s count left next x t g;
        }

  -- ---- an event of one of the sessions

  pub record Moved (s : ℕ) (ps : List Progress) (n : ℕ) (e : Event) (q : Journal) (low_a low_b : Map) : Type 0 where
    pub after : List Progress
    pub follow : AllFollow s after (n + 1) q
    pub size : length after ≡ length ps
    pub tables : apply (operations e) (database (low_a ++ maps_a ps) (low_b ++ maps_b ps)) ≡ database (low_a ++ maps_a after) (low_b ++ maps_b after)
    pub commits : commits_of ps + commit_weight e ≡ commits_of after
    pub selects : selects_of ps + select_weight e ≡ selects_of after
    pub from : (start : ℕ → ℕ) (p : Journal) → AllFrom start s ps p → AllFrom start s after (p ++ e ∷ [])

  its_own : (who : Who) (e : Event) (s : ℕ) (b : Bool) → decider e ≡ Some who → (who.session == s) ≡ b → is_by s e ≡ b
  its_own who e s b is q = ap (is_of_session s) is ∙ q

  moved_here : (who : Who) (e : Event) (q : Journal) (n : ℕ) (p : Progress) (ps : List Progress) (s : ℕ) (low_a low_b : Map) → decider e ≡ Some who → AllFollow s (p ∷ ps) n (e ∷ q)
      → who.session ≡ s → s + length (p ∷ ps) ≤ 5 → Below (s * 1000000) low_a → Below (s * 1000000) low_b
      → length low_a + 2000 * length (p ∷ ps) ≤ 8000 → length low_b + 2000 * length (p ∷ ps) ≤ 8000
      → present (before n journal) ≡ database (low_a ++ maps_a (p ∷ ps)) (low_b ++ maps_b (p ∷ ps)) → Moved s (p ∷ ps) n e q low_a low_b
  moved_here who e q n p ps s low_a low_b is f at size below_a below_b few_a few_b now =
      let U : Under (goal s) s p = f.0 in
      let above = above_all (s + 1) ps n (e ∷ q) f.2 in
      let few = few_all (s + 1) ps n (e ∷ q) f.2 in
      let events : List (ℕ × Event) = numbered_events s (n + 1) q in
      let F : Follows options journal (commands_left s p) (state_of options.kind s p) ((n, e) ∷ events) =
      subst (λ (l : List (ℕ × Event)). Follows options journal (commands_left s p) (state_of options.kind s p) l)
      (its s n e q (ap (is_of_session s) is ∙ eq-eqb who.session s at)) f.1 in
      let a1 = length-append low_a (p.tally.in_a ++ maps_a ps) in
      let a2 = length-append p.tally.in_a (maps_a ps) in
      let a3 = U.own_a.few in
      let b1 = length-append low_b (p.tally.in_b ++ maps_b ps) in
      let b2 = length-append p.tally.in_b (maps_b ps) in
      let b3 = U.own_b.few in
      let bound = U.bound in
      let f0 = few.0 in
      let f1 = few.1 in
      let O : One s p e events low_a (maps_a ps) low_b (maps_b ps) =
      step s n e events low_a (maps_a ps) low_b (maps_b ps) (omega (arith, size)) below_a below_b above.0 above.1 p.begun p.left p.next p.x p.tally U F
      (omega (arith, a1, a2, a3, bound, f0, few_a)) (omega (arith, b1, b2, b3, bound, f1, few_b)) now in
      let one = O.commits in
      let two = O.selects in
      record {
        after = O.after ∷ ps;
        follow = (O.under, O.follows, skip e q n (s + 1) ps (λ j g. ap (is_of_session j) is ∙ ne_eqb who.session j (λ x. absurd (omega (arith, at, g, x)))) f.2);
        size = refl;
        tables = O.tables;
        commits = omega (arith, one);
        selects = omega (arith, two);
        from = λ start j g. (
          subst (λ k. From (start s) s k O.after) (sym (count_event j s e true (ap (is_of_session s) is ∙ eq-eqb who.session s at))) (O.from (start s) (event_count j s) g.0),
          from_other start e j (s + 1) ps (λ k l. ap (is_of_session k) is ∙ ne_eqb who.session k (λ x. absurd (omega (arith, at, l, x)))) g.1,
        );
      }

  moved_on : (e : Event) (q : Journal) (n : ℕ) (p : Progress) (ps : List Progress) (s : ℕ) (low_a low_b : Map) → AllFollow s (p ∷ ps) n (e ∷ q) → is_by s e ≡ false
      → Moved (s + 1) ps n e q (low_a ++ p.tally.in_a) (low_b ++ p.tally.in_b) → Moved s (p ∷ ps) n e q low_a low_b
  moved_on e q n p ps s low_a low_b f apart M =
      let back_a : low_a ++ (p.tally.in_a ++ maps_a ps) ≡ (low_a ++ p.tally.in_a) ++ maps_a ps = sym (append_assoc low_a p.tally.in_a (maps_a ps)) in
      let back_b : low_b ++ (p.tally.in_b ++ maps_b ps) ≡ (low_b ++ p.tally.in_b) ++ maps_b ps = sym (append_assoc low_b p.tally.in_b (maps_b ps)) in
      let on_a : (low_a ++ p.tally.in_a) ++ maps_a M.after ≡ low_a ++ (p.tally.in_a ++ maps_a M.after) = append_assoc low_a p.tally.in_a (maps_a M.after) in
      let on_b : (low_b ++ p.tally.in_b) ++ maps_b M.after ≡ low_b ++ (p.tally.in_b ++ maps_b M.after) = append_assoc low_b p.tally.in_b (maps_b M.after) in
      let one = M.commits in
      let two = M.selects in
      record {
        after = p ∷ M.after;
        follow = (f.0, subst (λ (l : List (ℕ × Event)). Follows options journal (commands_left s p) (state_of options.kind s p) l) (not_its s n e q apart) f.1, M.follow);
        size = ap suc M.size;
        tables = ap (apply (operations e)) (ap₂ database back_a back_b) ∙ (M.tables ∙ ap₂ database on_a on_b);
        commits = omega (arith, one);
        selects = omega (arith, two);
        from = λ start j g. (
          let same : event_count j s ≡ event_count (j ++ e ∷ []) s = omega (arith, count_event j s e false apart) in
              subst (λ k. From (start s) s k p) same g.0,
          M.from start j g.1,
        );
      }

  pub advance : (who : Who) (e : Event) (q : Journal) (n : ℕ) → decider e ≡ Some who → (ps : List Progress) (s : ℕ) (low_a low_b : Map) → AllFollow s ps n (e ∷ q)
      → s ≤ who.session → who.session < s + length ps → s + length ps ≤ 5 → Below (s * 1000000) low_a → Below (s * 1000000) low_b
      → length low_a + 2000 * length ps ≤ 8000 → length low_b + 2000 * length ps ≤ 8000
      → present (before n journal) ≡ database (low_a ++ maps_a ps) (low_b ++ maps_b ps) → Moved s ps n e q low_a low_b
  advance who e q n is [] s low_a low_b f from to size below_a below_b few_a few_b now = absurd (omega (arith, from, to))
  advance who e q n is (p ∷ ps) s low_a low_b f from to size below_a below_b few_a few_b now =
      let own_a : Map = p.tally.in_a in
      let own_b : Map = p.tally.in_b in
      let bound = f.0.bound in
      let a1 = length-append low_a own_a in
      let a2 = f.0.own_a.few in
      let b1 = length-append low_b own_b in
      let b2 = f.0.own_b.few in
      ⊎_elim
      (λ here. moved_here who e q n p ps s low_a low_b is f here size below_a below_b few_a few_b now)
      (λ other. moved_on e q n p ps s low_a low_b f (ap (is_of_session s) is ∙ ne_eqb who.session s other)
      (advance who e q n is ps (s + 1) (low_a ++ own_a) (low_b ++ own_b) f.2 (omega (arith, from, other)) (omega (arith, to)) (omega (arith, size))
      (below_append ((s + 1) * 1000000) low_a own_a (below_more (s * 1000000) ((s + 1) * 1000000) low_a (omega arith) below_a) (below_more (s * 1000000 + p.next) ((s + 1) * 1000000) own_a (omega (arith, bound)) f.0.own_a.below))
      (below_append ((s + 1) * 1000000) low_b own_b (below_more (s * 1000000) ((s + 1) * 1000000) low_b (omega arith) below_b) (below_more (s * 1000000 + p.next) ((s + 1) * 1000000) own_b (omega (arith, bound)) f.0.own_b.below))
      (omega (arith, a1, a2, bound, few_a)) (omega (arith, b1, b2, bound, few_b))
      (now ∙ ap₂ database (sym (append_assoc low_a own_a (maps_a ps))) (sym (append_assoc low_b own_b (maps_b ps))))))
      (cases_eq who.session s)
