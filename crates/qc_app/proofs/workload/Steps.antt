-- What each command of the workload does at its place in the journal.
use Rattle.std.proofs.Common.{◌≡◌, ℕ, ◌+◌, Bool, true, false, not, cond, List, [], ◌∷◌, length, refl, ap, ◌∙◌, subst, Result, Ok, Option, Some, None, MatchOption, inl, inr, ◌⊎◌}
use Rattle.std.specs.Prelude.{◌==◌, ◌&&◌, ◌||◌, codes, nat_lt}
use Rattle.qc_types.specs.declared.options.Options.{Options}
use Rattle.qc_sql.specs.declared.commands.Command.TheVariants as command
use Rattle.qc_sql.specs.declared.replies.Reply.{Reply}
use Rattle.qc_sql.specs.declared.statements.Select.{Select}
use Rattle.qc_sql.specs.declared.statements.Statement.{Statement}
use Rattle.qc_sql.specs.declared.statements.Statement.TheVariants as statement
use Rattle.qc_sql.specs.declared.tables.RowOp.{RowOp}
use Rattle.qc_sql.specs.declared.tables.RowOp.TheVariants as op
use Rattle.qc_sql.specs.Database.{Name, Database, apply}
use Rattle.qc_sql.specs.Effects.{Effect, Validated, effect}
use Rattle.qc_sql.specs.Rules.{asks, select_tables}
use Rattle.qc_sql.specs.Grammar.{meaning, trimmed, head_of, ParseFault}
use Rattle.qc_model.specs.declared.events.Who.{Who}
use Rattle.qc_model.specs.declared.events.Event.{Event}
use Rattle.qc_model.specs.declared.events.Event.TheVariants as event
use Rattle.qc_model.specs.declared.events.How.{How}
use Rattle.qc_model.specs.declared.events.How.TheVariants as how
use Rattle.qc_model.specs.declared.events.Reason.{Reason}
use Rattle.qc_model.specs.Journal.{Journal, present, operations}
use Rattle.qc_model.specs.Cache.{Entry, is_hit, is_start, is_plain, is_run}
use Rattle.qc_model.specs.Session.{State, starting, key_of_text, arrived}
use Rattle.qc_model.specs.Choice.{Allows, answering, plain_reason, start_count, IsNoRoom, is_asked}
use Rattle.qc_model.specs.Machine.{Executes, ExecutesText, Gives, Selects, committed, changed_rows, local, local_text, used, changed_form}
use Rattle.qc_app.specs.workload.Texts.{Means, insertion, setting, creation}
use Rattle.qc_app.specs.workload.Tables.{in_w, columns, table_of_rows, database}
use Rattle.qc_app.specs.workload.Counts.{is_commit}
use Rattle.qc_app.proofs.workload.Maps.{Map}

-- ---- states

-- a session whose current database is w
abbrev pub working : ℕ → ℕ → State
working session kind = record { session = session; db = codes "w"; autocommit = true; charset = 33; ansi = false; row_limit = 18446744073709551615; kind = kind; transaction = None }

-- ---- weights

abbrev pub commit_weight : Event → ℕ
commit_weight e = cond (is_commit e) 1 0

abbrev pub is_asking : How → Bool
is_asking h = is_start h || is_plain h

abbrev pub select_weight : Event → ℕ
select_weight e = cond (is_run is_hit e) 1 0 + cond (is_run is_asking e) 1 0

-- ---- a query by its meaning

pub means_no_local : (session kind : ℕ) (text : List ℕ) (s : Statement) → Means text s → local_text (working session kind) (Ok s) ≡ None → local (working session kind) (command.Query text) ≡ None
means_no_local session kind text s h free = ap (local_text (working session kind)) h ∙ free

pub executes_meaning : (options : Options) (who : Who) (state : State) (text : List ℕ) (s : Statement) (journal : Journal) (e : Event) (r : Reply) (next : State) → state.ansi ≡ false
    → Means text s → Executes options who state (command.Query text) journal e r next → ExecutesText options who state text journal (Ok s) e r next
executes_meaning options who state text s journal e r next plain h x =
    subst (λ (m : Result Statement ParseFault). ExecutesText options who state text journal m e r next) (ap (meaning (trimmed text)) plain ∙ h) x

-- ---- INSERT and UPDATE

-- what a change of rows leaves
pub record Changed (e : Event) (next : State) (state : State) (ops : List RowOp) : Type 0 where
  pub who : Who
  pub event : e ≡ committed who ops
  pub same : next ≡ state

given_change : (who : Who) (session kind : ℕ) (v : Validated) (x : Effect) (e : Event) (r : Reply) (next : State) → v ≡ Ok x
    → Gives (changed_rows who (working session kind) v) e r next → Changed e next (working session kind) x.operations
given_change who session kind v x e r next is g = record {
  who = who;
  event = g.0 ∙ ap (λ (w : Validated). (changed_rows who (working session kind) w).event) is;
  same = g.2 ∙ ap (λ (w : Validated). (changed_rows who (working session kind) w).next) is;
}

module _ (options : Options) (who : Who) (session kind : ℕ) (text : List ℕ) (journal : Journal) (d : Database) (e : Event) (r : Reply) (next : State) where
  pub inserts : (table : Name) (key m : ℕ) (x : Effect) → Means text (insertion table key m) → present journal ≡ d → effect (insertion table key m) d (codes "w") session ≡ Ok x
      → Executes options who (working session kind) (command.Query text) journal e r next → Changed e next (working session kind) x.operations
  inserts table key m x h now does ex =
      let g : ExecutesText options who (working session kind) text journal (Ok (insertion table key m)) e r next =
      executes_meaning options who (working session kind) text (insertion table key m) journal e r next refl h ex in
      given_change who session kind (effect (insertion table key m) (present journal) (codes "w") session) x e r next
      (ap (λ (b : Database). effect (insertion table key m) b (codes "w") session) now ∙ does) g

  pub sets : (first last m : ℕ) (x : Effect) → Means text (setting first last m) → present journal ≡ d → effect (setting first last m) d (codes "w") session ≡ Ok x
      → Executes options who (working session kind) (command.Query text) journal e r next → Changed e next (working session kind) x.operations
  sets first last m x h now does ex =
      let g : ExecutesText options who (working session kind) text journal (Ok (setting first last m)) e r next =
      executes_meaning options who (working session kind) text (setting first last m) journal e r next refl h ex in
      given_change who session kind (effect (setting first last m) (present journal) (codes "w") session) x e r next
      (ap (λ (b : Database). effect (setting first last m) b (codes "w") session) now ∙ does) g

-- ---- SELECT

abbrev counted : How → ℕ
counted h = cond (is_hit h) 1 0 + cond (is_asking h) 1 0

-- what a select may have counts as one
pub allowed_counts : (options : Options) (state : State) (text : List ℕ) (select : Select) (journal : Journal) (h : How) → Allows options state text select journal h → counted h ≡ 1
allowed_counts options state text select journal h a =
    by (cond (not (options.size == 0) && is_asked (asks (head_of (trimmed text)) state.kind)) (answering state journal (key_of_text state text)) None) (plain_reason options state text select journal) a
  where
    by : (o : Option Entry) (p : Option Reason)
        → MatchOption o (MatchOption p ((h ≡ how.Start (start_count journal + 1) (key_of_text state text) (select_tables state.db select)) ⊎ IsNoRoom h) (λ x. h ≡ how.Plain x)) (λ entry. h ≡ how.Hit entry.serial)
        → counted h ≡ 1
    by (Some entry) p q = ap counted q
    by None (Some x) q = ap counted q
    by None None (inl q) = ap counted q
    by None None (inr q) = ap counted q.2

pub record Selected (e : Event) (next : State) (state : State) : Type 0 where
  pub who : Who
  pub how : How
  pub event : e ≡ event.Run who how
  pub one : counted how ≡ 1
  pub same : next ≡ state

arrived_same : (place session kind : ℕ) (s : Select) → arrived place (statement.Select s) (working session kind) ≡ working session kind
arrived_same place session kind s = by (nat_lt 0 (length s.from))
  where
    by : (b : Bool) → cond b (working session kind) (working session kind) ≡ working session kind
    by true = refl
    by false = refl

pub selects : (options : Options) (who : Who) (session kind : ℕ) (text : List ℕ) (journal : Journal) (e : Event) (r : Reply) (next : State) (s : Select) → Means text (statement.Select s)
    → Executes options who (working session kind) (command.Query text) journal e r next → Selected e next (working session kind)
selects options who session kind text journal e r next s h ex =
    let at : State = arrived (length journal + 1) (statement.Select s) (working session kind) in
    let g : Selects options who at text s journal e r next = executes_meaning options who (working session kind) text (statement.Select s) journal e r next refl h ex in
    record {
      who = who;
      how = g.chosen.0;
      event = g.chosen.1;
      one = allowed_counts options at text s journal g.chosen.0 g.chosen.2;
      same = g.same ∙ arrived_same (length journal + 1) session kind s;
    }

-- ---- the current database, and CREATE

pub record Made (d after : Database) (weight : ℕ) (e : Event) (next state : State) : Type 0 where
  pub tables : apply (operations e) d ≡ after
  pub commits : commit_weight e ≡ weight
  pub selects : select_weight e ≡ 0
  pub same : next ≡ state

-- by the event
made : (d after : Database) (commits : ℕ) (e f : Event) (next other state : State) → e ≡ f → next ≡ other → apply (operations f) d ≡ after → commit_weight f ≡ commits → select_weight f ≡ 0 → other ≡ state
    → Made d after commits e next state
made d after commits e f next other state is same t c s o = record {
  tables = ap (λ (x : Event). apply (operations x) d) is ∙ t;
  commits = ap commit_weight is ∙ c;
  selects = ap select_weight is ∙ s;
  same = same ∙ o;
}

abbrev pub just_w : Database
just_w = (codes "w", []) ∷ []

abbrev pub just_a : Database
just_a = (codes "w", (codes "a", table_of_rows []) ∷ []) ∷ []

module _ (options : Options) (who : Who) (kind : ℕ) (journal : Journal) (e : Event) (r : Reply) (next : State) where
  pub uses_w : (session : ℕ) (a b : Map) → present journal ≡ database a b → Executes options who (starting session kind) (command.InitDb (codes "w")) journal e r next
      → Made (database a b) (database a b) 0 e next (working session kind)
  uses_w session a b now ex =
      let is : (used who (starting session kind) journal (codes "w")).event ≡ event.Run who how.Other = rw now refl in
      let same : (used who (starting session kind) journal (codes "w")).next ≡ working session kind = rw now refl in
      made (database a b) (database a b) 0 e (event.Run who how.Other) next (working session kind) (working session kind) (ex.0 ∙ is) (ex.2 ∙ same) refl refl refl refl

  pub uses_empty : (session : ℕ) → present journal ≡ just_w → Executes options who (starting session kind) (command.InitDb (codes "w")) journal e r next
      → Made just_w just_w 0 e next (working session kind)
  uses_empty session now ex =
      let is : (used who (starting session kind) journal (codes "w")).event ≡ event.Run who how.Other = rw now refl in
      let same : (used who (starting session kind) journal (codes "w")).next ≡ working session kind = rw now refl in
      made just_w just_w 0 e (event.Run who how.Other) next (working session kind) (working session kind) (ex.0 ∙ is) (ex.2 ∙ same) refl refl refl refl

  pub makes_w : (text : List ℕ) → Means text (statement.CreateDb (codes "w")) → present journal ≡ [] → Executes options who (starting 0 kind) (command.Query text) journal e r next
      → Made [] just_w 1 e next (starting 0 kind)
  unfolding effect
  makes_w text h now ex =
      let g : Gives (changed_form who (starting 0 kind) journal (statement.CreateDb (codes "w"))) e r next =
      executes_meaning options who (starting 0 kind) text (statement.CreateDb (codes "w")) journal e r next refl h ex in
      let f : Event = event.Commit who (op.CreateDb (codes "w") ∷ []) in
      let is : (changed_form who (starting 0 kind) journal (statement.CreateDb (codes "w"))).event ≡ f = rw now refl in
      let same : (changed_form who (starting 0 kind) journal (statement.CreateDb (codes "w"))).next ≡ starting 0 kind = rw now refl in
      made [] just_w 1 e f next (starting 0 kind) (starting 0 kind) (g.0 ∙ is) (g.2 ∙ same) refl refl refl refl

  pub makes_a : (text : List ℕ) → Means text (creation (codes "a")) → present journal ≡ just_w → Executes options who (working 0 kind) (command.Query text) journal e r next
      → Made just_w just_a 1 e next (working 0 kind)
  unfolding effect
  makes_a text h now ex =
      let g : Gives (changed_form who (working 0 kind) journal (creation (codes "a"))) e r next =
      executes_meaning options who (working 0 kind) text (creation (codes "a")) journal e r next refl h ex in
      let f : Event = event.Commit who (op.CreateTable (in_w (codes "a")) columns ∷ []) in
      let is : (changed_form who (working 0 kind) journal (creation (codes "a"))).event ≡ f = rw now refl in
      let same : (changed_form who (working 0 kind) journal (creation (codes "a"))).next ≡ working 0 kind = rw now refl in
      made just_w just_a 1 e f next (working 0 kind) (working 0 kind) (g.0 ∙ is) (g.2 ∙ same) refl refl refl refl

  pub makes_b : (text : List ℕ) → Means text (creation (codes "b")) → present journal ≡ just_a → Executes options who (working 0 kind) (command.Query text) journal e r next
      → Made just_a (database [] []) 1 e next (working 0 kind)
  unfolding effect
  makes_b text h now ex =
      let g : Gives (changed_form who (working 0 kind) journal (creation (codes "b"))) e r next =
      executes_meaning options who (working 0 kind) text (creation (codes "b")) journal e r next refl h ex in
      let f : Event = event.Commit who (op.CreateTable (in_w (codes "b")) columns ∷ []) in
      let is : (changed_form who (working 0 kind) journal (creation (codes "b"))).event ≡ f = rw now refl in
      let same : (changed_form who (working 0 kind) journal (creation (codes "b"))).next ≡ working 0 kind = rw now refl in
      made just_a (database [] []) 1 e f next (working 0 kind) (working 0 kind) (g.0 ∙ is) (g.2 ∙ same) refl refl refl refl
