-- Commands that are no select have the word of others.
use Rattle.std.proofs.Common.{◌≡◌, ℕ, Bool, true, false, cond, List, [], ◌∷◌, refl, subst, Option, Some, None, Result, Ok, Err}
use Rattle.std.specs.Prelude.{◌&&◌, not}
use Rattle.qc_types.specs.declared.names.TableName.{TableName}
use Rattle.qc_types.specs.declared.sql_error.SqlError.{SqlError}
use Rattle.qc_sql.specs.declared.replies.Reply.{Reply}
use Rattle.qc_sql.specs.declared.statements.Statement.{Statement}
use Rattle.qc_sql.specs.declared.tables.RowOp.{RowOp}
use Rattle.qc_sql.specs.Database.{Name, Tables, apply, tables_of}
use Rattle.qc_sql.specs.Effects.{Effect, effect}
use Rattle.qc_model.specs.declared.events.Event.{Event}
use Rattle.qc_model.specs.declared.events.Event.TheVariants as event
use Rattle.qc_model.specs.declared.events.How.TheVariants as how
use Rattle.qc_model.specs.declared.events.Who.{Who}
use Rattle.qc_model.specs.declared.reports.Word.TheVariants as word
use Rattle.qc_model.specs.Agrees.{fill_ends, word_of}
use Rattle.qc_model.specs.Conflicts.{Conflict}
use Rattle.qc_model.specs.Journal.{Journal, present}
use Rattle.qc_model.specs.Machine.{Given, changed_form, changed_rows, committed, conflict_in, ended_with, ending, form_given, full_table, ok_reply, other, set_autocommit, used}
use Rattle.qc_model.specs.Session.{State, Transaction, base, own_operations, with_transaction}
use Rattle.qc_statements.proofs.Choices.{used_none, used_there}
use Rattle.qc_statements.proofs.Endings.{commit_ends, conflict_ends, full_ends}

abbrev pub IsOther : Event → Type 0
IsOther e = word_of e ≡ word.Other

-- such an event begins no entry
pub others_end : (e : Event) → IsOther e → (journal : Journal) → fill_ends journal e ≡ true
others_end (event.Run who (how.Start serial key tables)) h journal = absurd cc
others_end (event.Run who (how.Hit serial)) h journal = refl
others_end (event.Run who (how.Plain why)) h journal = refl
others_end (event.Run who how.Other) h journal = refl
others_end (event.Run who (how.Conflict table key by)) h journal = refl
others_end (event.Run who (how.Status totals)) h journal = refl
others_end (event.Commit who ops) h journal = refl
others_end (event.Done serial) h journal = refl
others_end (event.Gone serial why) h journal = refl
others_end (event.Prune serial need largest) h journal = refl
others_end (event.Reset who) h journal = refl
others_end (event.Flush who) h journal = refl

-- ---- what the machine gives for commands that are no select

committed_is_other : (who : Who) (ops : List RowOp) → IsOther (committed who ops)
committed_is_other who [] = refl
committed_is_other who (o ∷ ops) = refl

ending_is_other : (who : Who) (J : Journal) (state : State) (go : List RowOp → Given) → ((own : List RowOp) → IsOther (go own).event) → IsOther (ending who state J go).event
ending_is_other who J state go f = by (conflict_in state J) refl
  where
    room : conflict_in state J ≡ None → (t : Option TableName) → full_table (apply (own_operations state) (present J)) ≡ t → IsOther (ending who state J go).event
    room h (Some t) g = subst (λ (x : Given). IsOther x.event) (full_ends who J state t go h g) refl
    room h None g = subst (λ (x : Given). IsOther x.event) (commit_ends who J state go h g) (f (own_operations state))

    by : (c : Option Conflict) → conflict_in state J ≡ c → IsOther (ending who state J go).event
    by (Some c) h = subst (λ (x : Given). IsOther x.event) (conflict_ends who J state c go h) refl
    by None h = room h (full_table (apply (own_operations state) (present J))) refl

form_is_other : (who : Who) (state : State) (own : List RowOp) (r : Result Effect SqlError) → IsOther (form_given who state own r).event
form_is_other who state own (Err e) = refl
form_is_other who state own (Ok x) = refl

pub forms_is_other : (who : Who) (J : Journal) (state : State) (s : Statement) → IsOther (changed_form who state J s).event
forms_is_other who J state s =
    ending_is_other who J state (λ own. form_given who state own (effect s (apply own (present J)) state.db state.session))
    (λ own. form_is_other who state own (effect s (apply own (present J)) state.db state.session))

pub ended_is_other : (who : Who) (J : Journal) (state next : State) → IsOther (ended_with who state J next).event
ended_is_other who J state next = ending_is_other who J state (λ own. record { event = committed who own; reply = ok_reply next 0; next = next }) (λ own. committed_is_other who own)

pub rows_is_other : (who : Who) (state : State) (r : Result Effect SqlError) → IsOther (changed_rows who state r).event
rows_is_other who state (Err e) = refl
rows_is_other who state (Ok x) = by state.transaction refl
  where
    by : (t : Option Transaction) → state.transaction ≡ t → IsOther (changed_rows who state (Ok x)).event
    by None is = rw is (committed_is_other who x.operations)
    by (Some t) is = rw is refl

pub used_is_other : (who : Who) (J : Journal) (state : State) (name : Name) → IsOther (used who state J name).event
used_is_other who J state name = by (tables_of name (base state J)) refl
  where
    by : (o : Option Tables) → tables_of name (base state J) ≡ o → IsOther (used who state J name).event
    by None h = subst (λ (x : Given). IsOther x.event) (used_none who J state name h) refl
    by (Some ts) h = subst (λ (x : Given). IsOther x.event) (used_there who J state name ts h) refl

pub set_is_other : (who : Who) (J : Journal) (state : State) (r : Result State SqlError) → IsOther (set_autocommit who state J r).event
set_is_other who J state (Err e) = refl
set_is_other who J state (Ok next) = elim (not state.autocommit && next.autocommit) as (λ b. IsOther (cond b (ended_with who state J (with_transaction next None)) (other who next (ok_reply next 0))).event) [
  | true ↦ ended_is_other who J state (with_transaction next None)
  | false ↦ refl
]

pub other_is_other : (who : Who) (state : State) (r : Reply) → IsOther (other who state r).event
other_is_other who state r = refl
