-- Whose the event is that a command gives, and whose the next state.
use Rattle.std.proofs.Common.{◌≡◌, ℕ, Bool, true, false, cond, List, [], ◌∷◌, refl, subst, Option, None, Some, Result, Ok, Err, eq-eqb}
use Rattle.std.specs.Prelude.{◌&&◌, not}
use Rattle.qc_types.specs.declared.names.TableName.{TableName}
use Rattle.qc_types.specs.declared.sql_error.SqlError.{SqlError}
use Rattle.qc_sql.specs.declared.replies.Reply.{Reply}
use Rattle.qc_sql.specs.declared.statements.Statement.{Statement}
use Rattle.qc_sql.specs.declared.tables.RowOp.{RowOp}
use Rattle.qc_sql.specs.Database.{Name, Tables, apply, tables_of}
use Rattle.qc_sql.specs.Effects.{Effect, effect}
use Rattle.qc_model.specs.declared.events.Event.{Event}
use Rattle.qc_model.specs.declared.events.Event.TheVariants as event
use Rattle.qc_model.specs.declared.events.How.TheVariants as how
use Rattle.qc_model.specs.declared.events.Who.{Who}
use Rattle.qc_model.specs.declared.reports.Word.TheVariants as word
use Rattle.qc_model.specs.Agrees.{word_of}
use Rattle.qc_model.specs.Conflicts.{Conflict}
use Rattle.qc_model.specs.Journal.{Journal, decider, is_by, present}
use Rattle.qc_model.specs.Machine.{Given, changed_form, changed_rows, committed, conflict_in, ended_with, ending, form_given, full_table, ok_reply, other, set_autocommit, used}
use Rattle.qc_model.specs.Session.{State, Transaction, base, own_operations, with_transaction}
use Rattle.qc_statements.proofs.Choices.{used_none, used_there}
use Rattle.qc_statements.proofs.Endings.{commit_ends, conflict_ends, full_ends}

-- the event of a command that is no SELECT, of this session and with this number
pub record IsOf (who : Who) (e : Event) : Type 0 where
  pub other : word_of e ≡ word.Other
  pub by : decider e ≡ Some who

-- and a state of this session
pub record IsOwn (who : Who) (number : ℕ) (g : Given) : Type 0 where
  pub event : IsOf who g.event
  pub session : g.next.session ≡ number

pub mine : (who : Who) (e : Event) → IsOf who e → is_by who.session e ≡ true
mine who e h = rw h.by (eq-eqb who.session who.session refl)

committed_of : (who : Who) (ops : List RowOp) → IsOf who (committed who ops)
committed_of who [] = record { other = refl; by = refl }
committed_of who (o ∷ ops) = record { other = refl; by = refl }

ending_own : (who : Who) (J : Journal) (state : State) (go : List RowOp → Given) → ((own : List RowOp) → IsOwn who state.session (go own)) → IsOwn who state.session (ending who state J go)
ending_own who J state go f = by (conflict_in state J) refl
  where
    room : conflict_in state J ≡ None → (t : Option TableName) → full_table (apply (own_operations state) (present J)) ≡ t → IsOwn who state.session (ending who state J go)
    room h (Some t) g = subst (IsOwn who state.session) (full_ends who J state t go h g) (record { event = record { other = refl; by = refl }; session = refl })
    room h None g = subst (IsOwn who state.session) (commit_ends who J state go h g) (f (own_operations state))

    by : (c : Option Conflict) → conflict_in state J ≡ c → IsOwn who state.session (ending who state J go)
    by (Some c) h = subst (IsOwn who state.session) (conflict_ends who J state c go h) (record { event = record { other = refl; by = refl }; session = refl })
    by None h = room h (full_table (apply (own_operations state) (present J))) refl

form_own : (who : Who) (state : State) (own : List RowOp) (r : Result Effect SqlError) → IsOwn who state.session (form_given who state own r)
form_own who state own (Err e) = record { event = record { other = refl; by = refl }; session = refl }
form_own who state own (Ok x) = record { event = record { other = refl; by = refl }; session = refl }

pub forms_own : (who : Who) (J : Journal) (state : State) (s : Statement) → IsOwn who state.session (changed_form who state J s)
forms_own who J state s =
    ending_own who J state (λ own. form_given who state own (effect s (apply own (present J)) state.db state.session))
    (λ own. form_own who state own (effect s (apply own (present J)) state.db state.session))

pub ended_own : (who : Who) (J : Journal) (state next : State) → next.session ≡ state.session → IsOwn who state.session (ended_with who state J next)
ended_own who J state next same = ending_own who J state (λ own. record { event = committed who own; reply = ok_reply next 0; next = next }) (λ own. record { event = committed_of who own; session = same })

pub rows_own : (who : Who) (state : State) (r : Result Effect SqlError) → IsOwn who state.session (changed_rows who state r)
rows_own who state (Err e) = record { event = record { other = refl; by = refl }; session = refl }
rows_own who state (Ok x) = by state.transaction refl
  where
    by : (t : Option Transaction) → state.transaction ≡ t → IsOwn who state.session (changed_rows who state (Ok x))
    by None is = rw is (record { event = committed_of who x.operations; session = refl })
    by (Some t) is = rw is (record { event = record { other = refl; by = refl }; session = refl })

pub used_own : (who : Who) (J : Journal) (state : State) (name : Name) → IsOwn who state.session (used who state J name)
used_own who J state name = by (tables_of name (base state J)) refl
  where
    by : (o : Option Tables) → tables_of name (base state J) ≡ o → IsOwn who state.session (used who state J name)
    by None h = subst (IsOwn who state.session) (used_none who J state name h) (record { event = record { other = refl; by = refl }; session = refl })
    by (Some ts) h = subst (IsOwn who state.session) (used_there who J state name ts h) (record { event = record { other = refl; by = refl }; session = refl })

-- USE says nothing of what it did
pub used_run : (who : Who) (J : Journal) (state : State) (name : Name) → (used who state J name).event ≡ event.Run who how.Other
used_run who J state name = by (tables_of name (base state J)) refl
  where
    by : (o : Option Tables) → tables_of name (base state J) ≡ o → (used who state J name).event ≡ event.Run who how.Other
    by None h = subst (λ (g : Given). g.event ≡ event.Run who how.Other) (used_none who J state name h) refl
    by (Some ts) h = subst (λ (g : Given). g.event ≡ event.Run who how.Other) (used_there who J state name ts h) refl

-- nor does a statement on rows in a transaction
pub changed_run : (who : Who) (state : State) (x : Transaction) (r : Result Effect SqlError) → state.transaction ≡ Some x → (changed_rows who state r).event ≡ event.Run who how.Other
changed_run who state x (Err e) is = refl
changed_run who state x (Ok y) is = rw is refl

pub other_own : (who : Who) (state : State) (r : Reply) → IsOwn who state.session (other who state r)
other_own who state r = record { event = record { other = refl; by = refl }; session = refl }

set_own : (who : Who) (J : Journal) (state next : State) (b : Bool) → next.session ≡ state.session → IsOwn who state.session (cond b (ended_with who state J (with_transaction next None)) (other who next (ok_reply next 0)))
set_own who J state next true same = ended_own who J state (with_transaction next None) same
set_own who J state next false same = record { event = record { other = refl; by = refl }; session = same }

pub autocommit_own : (who : Who) (J : Journal) (state : State) (r : Result State SqlError) → ((next : State) → r ≡ Ok next → next.session ≡ state.session) → IsOwn who state.session (set_autocommit who state J r)
autocommit_own who J state (Err e) f = record { event = record { other = refl; by = refl }; session = refl }
autocommit_own who J state (Ok next) f = set_own who J state next (not state.autocommit && next.autocommit) (f next refl)
