-- A session's commands, each with its event.
use Rattle.std.proofs.Common.{◌≡◌, ℕ, ◌+◌, List, [], ◌∷◌, Option, None, MatchOption, subst}
use Rattle.qc_types.specs.declared.options.Options.{Options}
use Rattle.qc_sql.specs.declared.commands.Command.{Command}
use Rattle.qc_sql.specs.declared.replies.Reply.{Reply}
use Rattle.qc_model.specs.declared.events.Event.{Event}
use Rattle.qc_model.specs.declared.events.Who.{Who}
use Rattle.qc_model.specs.declared.reports.ReportLine.{ReportLine}
use Rattle.qc_model.specs.Journal.{Journal, before}
use Rattle.qc_model.specs.Session.{State}
use Rattle.qc_model.specs.Machine.{Executes, local}
use Rattle.qc_model.specs.Agrees.{whole_machine, LinesThen, TakesNext, none_left, line}
use Rattle.qc_model.specs.declared.reports.Word.TheVariants as word

-- a session is to execute these commands, from a state, with these events
pub record Follows (options : Options) (journal : Journal) (cs : List Command) (state : State) (events : List (ℕ × Event)) : Type 0 where
  pub lines : List ReportLine
  pub place : ℕ
  pub count : ℕ
  pub holds : LinesThen whole_machine options journal none_left cs lines state place count events

-- what the next command does, and what follows
pub record Next (options : Options) (journal : Journal) (c : Command) (cs : List Command) (state : State) (n : ℕ) (e : Event) (events : List (ℕ × Event)) : Type 0 where
  pub who : Who
  pub reply : Reply
  pub next : State
  pub executes : Executes options who state c (before n journal) e reply next
  pub follows : Follows options journal cs next events

at_none : {A : Type 0} (N : Type 0) (S : A → Type 0) (o : Option A) → o ≡ None → MatchOption o N S → N
at_none N S o e h = subst (λ x. MatchOption x N S) e h

pub follows_next : (options : Options) (journal : Journal) (c : Command) (cs : List Command) (state : State) (n : ℕ) (e : Event) (events : List (ℕ × Event))
    → local state c ≡ None → Follows options journal (c ∷ cs) state ((n, e) ∷ events) → Next options journal c cs state n e events
follows_next options journal c cs state n e events free f = by f.lines f.holds
  where
    by : (ls : List ReportLine) → LinesThen whole_machine options journal none_left (c ∷ cs) ls state f.place f.count ((n, e) ∷ events) → Next options journal c cs state n e events
    by [] h = absurd h
    by (l ∷ ls) h =
        let taken : TakesNext whole_machine options journal state f.count c l ((n, e) ∷ events) (LinesThen whole_machine options journal none_left cs ls) =
        at_none (TakesNext whole_machine options journal state f.count c l ((n, e) ∷ events) (LinesThen whole_machine options journal none_left cs ls))
        (λ given. (l ≡ line f.place word.Local given.0) × LinesThen whole_machine options journal none_left cs ls given.1 f.place f.count ((n, e) ∷ events)) (local state c) free h in
        record {
          who = _;
          reply = taken.0;
          next = taken.1;
          executes = taken.2;
          follows = record { lines = ls; place = n; count = f.count + 1; holds = taken.5 };
        }

-- a command with an event has one
pub follows_none : (options : Options) (journal : Journal) (c : Command) (cs : List Command) (state : State) → local state c ≡ None → Follows options journal (c ∷ cs) state [] → ⊥
follows_none options journal c cs state free f = by f.lines f.holds
  where
    by : (ls : List ReportLine) → LinesThen whole_machine options journal none_left (c ∷ cs) ls state f.place f.count [] → ⊥
    by [] h = h
    by (l ∷ ls) h =
        at_none (TakesNext whole_machine options journal state f.count c l [] (LinesThen whole_machine options journal none_left cs ls))
        (λ given. (l ≡ line f.place word.Local given.0) × LinesThen whole_machine options journal none_left cs ls given.1 f.place f.count []) (local state c) free h

-- no command is left, and no event
pub follows_end : (options : Options) (journal : Journal) (state : State) (events : List (ℕ × Event)) → Follows options journal [] state events → events ≡ []
follows_end options journal state events f = by f.lines f.holds
  where
    by : (ls : List ReportLine) → LinesThen whole_machine options journal none_left [] ls state f.place f.count events → events ≡ []
    by [] h = h
    by (l ∷ ls) h = absurd h
