-- What a command gives: its commit may be committed, and the session's transaction fits after its event.
use Rattle.std.proofs.Common.{◌≡◌, ℕ, ◌+◌, ◌≤◌, Bool, true, false, not, cond, List, [], ◌∷◌, ◌++◌, length, refl, sym, ap, ◌∙◌, subst, Option, Some, None, Result, Ok, Err, arith, true≢false}
use Rattle.std.specs.Prelude.{◌&&◌, is_some, codes, IfSome}
use Rattle.std.proofs.lemmas.List.{length-append}
use Rattle.qc_types.specs.declared.options.Options.{Options}
use Rattle.qc_types.specs.declared.names.TableName.{TableName}
use Rattle.qc_types.specs.declared.sql_error.SqlError.{SqlError}
use Rattle.qc_sql.specs.declared.tables.RowOp.{RowOp}
use Rattle.qc_sql.specs.declared.replies.Reply.{Reply}
use Rattle.qc_sql.specs.declared.commands.Command.{Command}
use Rattle.qc_sql.specs.declared.commands.Command.TheVariants as command
use Rattle.qc_sql.specs.declared.statements.Statement.{Statement}
use Rattle.qc_sql.specs.declared.statements.Statement.TheVariants as statement
use Rattle.qc_sql.specs.declared.statements.Setting.{Setting}
use Rattle.qc_sql.specs.declared.statements.Setting.TheVariants as setting
use Rattle.qc_sql.specs.Database.{Name, Database, Tables, tables_of, apply}
use Rattle.qc_sql.specs.Rules.{full_name, same_word}
use Rattle.qc_sql.specs.Errors.{unknown_database, write_conflict, table_full}
use Rattle.qc_sql.specs.Effects.{Effect, effect}
use Rattle.qc_sql.specs.Grammar.{meaning, trimmed, ParseFault}
use Rattle.qc_model.specs.declared.events.Who.{Who}
use Rattle.qc_model.specs.declared.events.Event.{Event}
use Rattle.qc_model.specs.declared.events.Event.TheVariants as event
use Rattle.qc_model.specs.declared.events.How.TheVariants as how
use Rattle.qc_model.specs.Journal.{Journal, operations, present}
use Rattle.qc_model.specs.Session.{State, Transaction, just_opened, seen_in, base, own_operations, with_transaction, arrived, uses_rows}
use Rattle.qc_model.specs.Settings.{with, switch, select_limit, quotes, cache_kind, character_set, is_autocommit, set_to}
use Rattle.qc_model.specs.Conflicts.{Conflict, conflict_of}
use Rattle.qc_model.specs.Licence.{ops_fit, is_within_rows}
use Rattle.qc_model.specs.Machine.{Given, ok_reply, refused, full_table, conflict_in, ending, committed, changed_rows, changed_form, ended_with, form_given, other, used, set_autocommit, Gives, begun, ExecutesStatement, ExecutesText, Executes, fault_error, set_locally, local_text, local}
use Rattle.qc_laws.specs.fits.Sound.{commits_fit, rows_changed_by, changes_tables}
use Rattle.qc_laws.specs.fits.Open.{IsFitting, AreFitting, IsPlacedAt, IsSettled, IsAtRest, MayCome}
use Rattle.qc_laws.specs.fits.Laws.{CommandsMayCommit, CommandsRest, LocalsRest, OthersRest}
use Rattle.qc_laws.proofs.fits.Changes.{changes_fit, changes_stay_within}
use Rattle.qc_laws.proofs.fits.RowChanges.{forms_change}
use Rattle.qc_laws.proofs.fits.Journals.{journals_are_sound, more_after}
use Rattle.qc_laws.proofs.fits.Open.{new_ones_fit, arrived_ones_fit, arrived_have_snapshots, grown_ones_fit, fitting_stays, endings_fit, statements_may_commit}
use Rattle.qc_laws.proofs.fits.Full.{none_is_full}

-- the commits so far fit, and leave room
record IsReady (J : Journal) : Type 0 where
  fits : commits_fit [] J ≡ true
  within : is_within_rows (present J) ≡ true

within_more : (J : Journal) (e : Event) → is_within_rows (apply (operations e) (present J)) ≡ true → is_within_rows (present (J ++ e ∷ [])) ≡ true
within_more J e h = subst (λ (d : Database). is_within_rows d ≡ true) (sym (more_after [] J e)) h

longer : (J : Journal) (e : Event) (place : ℕ) → place ≤ length J → place ≤ length (J ++ e ∷ [])
longer J e place h = omega (arith, h, length-append J (e ∷ []))

-- ---- at rest

none_rests : (K : Journal) → IsAtRest None K
none_rests K = record { fitting = tt; settled = tt }

new_rests : (K : Journal) → is_within_rows (present K) ≡ true → IsAtRest (Some just_opened) K
new_rests K h = record { fitting = new_ones_fit K h; settled = tt }

-- the place of a snapshot is behind, once its event has come
settles : (o : Option Transaction) (J : Journal) (e : Event) → AreFitting o J → IsSettled o (J ++ e ∷ [])
settles None J e f = tt
settles (Some t) J e f = by t.snapshot refl
  where
    by : (s : Option ℕ) → t.snapshot ≡ s → IfSome s (λ place. place ≤ length (J ++ e ∷ []))
    by None is = tt
    by (Some place) is = let p : IsPlacedAt (Some place) t.operations J = subst (λ s. IsPlacedAt s t.operations J) is f.placed in omega (arith, p.1, length-append J (e ∷ []))

-- an event that changes nothing
quiet : (o : Option Transaction) (J : Journal) (e : Event) → IsReady J → operations e ≡ [] → AreFitting o J → IsAtRest o (J ++ e ∷ [])
quiet None J e ready none f = none_rests (J ++ e ∷ [])
quiet (Some t) J e ready none f =
    let room = within_more J e (subst (λ ops. is_within_rows (apply ops (present J)) ≡ true) (sym none) ready.within) in
    record { fitting = fitting_stays t J e room (λ h. none) f; settled = settles (Some t) J e f }

-- ---- what a command gives

record IsFine (J : Journal) (g : Given) : Type 0 where
  may : MayCome J g.event
  rest : IsAtRest g.next.transaction (J ++ g.event ∷ [])

-- what is left to run, and changes nothing
runs : (J : Journal) (who : Who) (r : Reply) (next : State) → IsReady J → AreFitting next.transaction J → IsFine J (record { event = event.Run who how.Other; reply = r; next = next })
runs J who r next ready f = record { may = tt; rest = quiet next.transaction J (event.Run who how.Other) ready refl f }

commits : (J : Journal) (who : Who) (own : List RowOp) (r : Reply) (next : State) → IsReady J → ops_fit own (present J) ≡ true → is_within_rows (apply own (present J)) ≡ true
    → ((K : Journal) → is_within_rows (present K) ≡ true → IsAtRest next.transaction K) → IsFine J (record { event = committed who own; reply = r; next = next })
commits J who [] r next ready h room rests = record { may = tt; rest = rests (J ++ event.Run who how.Other ∷ []) (within_more J (event.Run who how.Other) ready.within) }
commits J who (o ∷ os) r next ready h room rests = record {
  may = record { some = omega arith; fit = h; not_full = room };
  rest = rests (J ++ event.Commit who (o ∷ os) ∷ []) (within_more J (event.Commit who (o ∷ os)) room);
}

-- ---- the end of a transaction

abbrev conflict_by : Journal → Option Transaction → Option Conflict
conflict_by J None = None
conflict_by J (Some t) = conflict_of t J

abbrev own_by : Option Transaction → List RowOp
own_by None = []
own_by (Some t) = t.operations

own_fits : (J : Journal) (o : Option Transaction) → IsReady J → AreFitting o J → conflict_by J o ≡ None → ops_fit (own_by o) (present J) ≡ true
own_fits J None ready f h = refl
own_fits J (Some t) ready f h = endings_fit t J ready.fits f h

abbrev filled_by : Who → State → (List RowOp → Given) → Option TableName → Given
filled_by who state go (Some t) = record { event = event.Run who how.Other; reply = refused (table_full t); next = with_transaction state None }
filled_by who state go None = go (own_operations state)

abbrev validated_by : Who → State → Journal → (List RowOp → Given) → Option Conflict → Given
validated_by who state J go (Some c) = record { event = event.Run who (how.Conflict c.table c.key c.by); reply = refused write_conflict; next = with_transaction state None }
validated_by who state J go None = filled_by who state go (full_table (apply (own_operations state) (present J)))

ends : (J : Journal) (who : Who) (state : State) (go : List RowOp → Given) → IsReady J → AreFitting state.transaction J
    → ((own : List RowOp) → ops_fit own (present J) ≡ true → is_within_rows (apply own (present J)) ≡ true → IsFine J (go own)) → IsFine J (ending who state J go)
ends J who state go ready f k = validated (conflict_in state J) refl
  where
    filled : ops_fit (own_operations state) (present J) ≡ true → (o : Option TableName) → full_table (apply (own_operations state) (present J)) ≡ o → IsFine J (filled_by who state go o)
    filled h (Some t) is = runs J who (refused (table_full t)) (with_transaction state None) ready tt
    filled h None is = k (own_operations state) h (none_is_full (apply (own_operations state) (present J)) is)

    validated : (o : Option Conflict) → conflict_in state J ≡ o → IsFine J (validated_by who state J go o)
    validated (Some c) is = record { may = tt; rest = none_rests (J ++ event.Run who (how.Conflict c.table c.key c.by) ∷ []) }
    validated None is = filled (own_fits J state.transaction ready f is) (full_table (apply (own_operations state) (present J))) refl

-- ---- statements

abbrev rows_by : Who → State → Effect → Option Transaction → Given
rows_by who state x None = record { event = committed who x.operations; reply = ok_reply state x.affected; next = state }
rows_by who state x (Some t) = record { event = event.Run who how.Other; reply = ok_reply state x.affected; next = with_transaction state (Some (record { snapshot = t.snapshot; operations = t.operations ++ x.operations })) }

changes_rows : (J : Journal) (who : Who) (state : State) (s : Statement) (table : TableName) → IsReady J → AreFitting state.transaction J → ((t : Transaction) → state.transaction ≡ Some t → is_some t.snapshot ≡ true)
    → rows_changed_by state.db s ≡ Some table → (res : Result Effect SqlError) → effect s (base state J) state.db state.session ≡ res → IsFine J (changed_rows who state res)
changes_rows J who state s table ready f taken changed (Err e) same = runs J who (refused e) state ready f
changes_rows J who state s table ready f taken changed (Ok x) same = by state.transaction refl
  where
    by : (o : Option Transaction) → state.transaction ≡ o → IsFine J (rows_by who state x o)
    by None is =
        let now : effect s (present J) state.db state.session ≡ Ok x = subst (λ o. effect s (seen_in o J) state.db state.session ≡ Ok x) is same in
        let sound = journals_are_sound None J ready.fits in
        commits J who x.operations (ok_reply state x.affected) state ready (changes_fit s (present J) state.db state.session x sound now) (changes_stay_within s (present J) state.db state.session x sound ready.within now)
        (λ K h. subst (λ o. IsAtRest o K) (sym is) (none_rests K))
    by (Some t) is =
        let now : effect s (seen_in (Some t) J) state.db state.session ≡ Ok x = subst (λ o. effect s (seen_in o J) state.db state.session ≡ Ok x) is same in
        let fitting : IsFitting t J = subst (λ o. AreFitting o J) is f in
        runs J who (ok_reply state x.affected) (with_transaction state (Some (record { snapshot = t.snapshot; operations = t.operations ++ x.operations }))) ready
        (grown_ones_fit s t J state.db state.session table x ready.fits fitting (taken t is) changed now)

changes_form : (J : Journal) (who : Who) (state : State) (s : Statement) → IsReady J → AreFitting state.transaction J → changes_tables s ≡ true → IsFine J (changed_form who state J s)
changes_form J who state s ready f changes =
    ends J who state (λ own. form_given who state own (effect s (apply own (present J)) state.db state.session)) ready f
    (λ own h room. by own h room (effect s (apply own (present J)) state.db state.session) refl)
  where
    by : (own : List RowOp) → ops_fit own (present J) ≡ true → is_within_rows (apply own (present J)) ≡ true → (res : Result Effect SqlError) → effect s (apply own (present J)) state.db state.session ≡ res → IsFine J (form_given who state own res)
    by own h room (Err e) same = runs J who (refused e) state ready f
    by own h room (Ok x) same =
        let some = forms_change s (apply own (present J)) state.db state.session x changes same in
        record {
          may = statements_may_commit own s J state.db state.session x ready.fits h room same (omega (arith, some, length-append own x.operations));
          rest = none_rests (J ++ event.Commit who (own ++ x.operations) ∷ []);
        }

-- a command that ends the open transaction, and leaves none or one that has just begun
ends_with : (J : Journal) (who : Who) (state next : State) → IsReady J → AreFitting state.transaction J → ((K : Journal) → is_within_rows (present K) ≡ true → IsAtRest next.transaction K) → IsFine J (ended_with who state J next)
ends_with J who state next ready f rests = ends J who state (λ own. record { event = committed who own; reply = ok_reply next 0; next = next }) ready f (λ own h room. commits J who own (ok_reply next 0) next ready h room rests)

abbrev used_by : Who → State → Name → Option Tables → Given
used_by who state name None = other who state (refused (unknown_database name))
used_by who state name (Some tables) = let next = record state { db = name } in other who next (ok_reply next 0)

uses : (J : Journal) (who : Who) (state : State) (name : Name) → IsReady J → AreFitting state.transaction J → IsFine J (used who state J name)
uses J who state name ready f = by (tables_of name (base state J))
  where
    by : (o : Option Tables) → IsFine J (used_by who state name o)
    by None = runs J who (refused (unknown_database name)) state ready f
    by (Some tables) = let next = record state { db = name } in runs J who (ok_reply next 0) next ready f

-- ---- SET

with_keeps : {A : Type 0} (s next : State) (name : Name) (f : A → State) (o : Option A) → ((a : A) → (f a).transaction ≡ s.transaction) → with name f o ≡ Ok next → next.transaction ≡ s.transaction
with_keeps s next name f None k h = absurd cc
with_keeps s next name f (Some a) k h = let same : f a ≡ next = cc in ap (λ (x : State). x.transaction) (sym same) ∙ k a

either_way : (b : Bool) (x y : Result State SqlError) (next : State) (P : Type 0) → (x ≡ Ok next → P) → (y ≡ Ok next → P) → cond b x y ≡ Ok next → P
either_way true x y next P f g h = f h
either_way false x y next P f g h = g h

set_keeps : (s next : State) (x : Setting) → set_to s x ≡ Ok next → next.transaction ≡ s.transaction
set_keeps s next (setting.Names w) h = with_keeps s next (codes "NAMES") (λ n. record s { charset = n }) (character_set w) (λ n. refl) h
set_keeps s next (setting.Variable name v) h =
    let Keeps : Type 0 = next.transaction ≡ s.transaction in
    either_way (same_word name (codes "autocommit")) _ _ next Keeps (with_keeps s next name (λ b. record s { autocommit = b }) (switch v) (λ b. refl))
    (either_way (same_word name (codes "sql_select_limit")) _ _ next Keeps (with_keeps s next name (λ n. record s { row_limit = n }) (select_limit v) (λ n. refl))
    (either_way (same_word name (codes "sql_mode")) _ _ next Keeps (with_keeps s next name (λ b. record s { ansi = b }) (quotes v) (λ b. refl))
    (either_way (same_word name (codes "query_cache_type")) _ _ next Keeps (with_keeps s next name (λ n. record s { kind = n }) (cache_kind v) (λ n. refl)) (λ e. absurd cc)))) h

sets : (J : Journal) (who : Who) (state : State) (x : Setting) → IsReady J → AreFitting state.transaction J → (res : Result State SqlError) → set_to state x ≡ res → IsFine J (set_autocommit who state J res)
sets J who state x ready f (Err e) same = runs J who (refused e) state ready f
sets J who state x ready f (Ok next) same =
    elim (not state.autocommit && next.autocommit) as (λ b. IsFine J (cond b (ended_with who state J (with_transaction next None)) (other who next (ok_reply next 0)))) [
      | true ↦ ends_with J who state (with_transaction next None) ready f (λ K h. none_rests K)
      | false ↦ runs J who (ok_reply next 0) next ready (subst (λ o. AreFitting o J) (sym (set_keeps state next x same)) f)
    ]

-- ---- what is executed

record IsDone (J : Journal) (e : Event) (next : State) : Type 0 where
  may : MayCome J e
  rest : IsAtRest next.transaction (J ++ e ∷ [])

done_by : (J : Journal) (g : Given) (e : Event) (r : Reply) (next : State) → Gives g e r next → IsFine J g → IsDone J e next
done_by J g e r next h fine =
    let first : IsDone J g.event g.next = record { may = fine.may; rest = fine.rest } in
    subst (λ x. IsDone J x next) (sym h.0) (subst (λ x. IsDone J g.event x) (sym h.2) first)

-- an event that changes nothing, in the same state
stays : (J : Journal) (d e : Event) (state next : State) → IsReady J → AreFitting state.transaction J → e ≡ d → next ≡ state → operations d ≡ [] → MayCome J d → IsDone J e next
stays J d e state next ready f is same none may =
    let first : IsDone J d state = record { may = may; rest = quiet state.transaction J d ready none f } in
    subst (λ x. IsDone J x next) (sym is) (subst (λ x. IsDone J d x) (sym same) first)

statement_done : (options : Options) (who : Who) (state next : State) (text : List ℕ) (J : Journal) (s : Statement) (e : Event) (r : Reply) → IsReady J → AreFitting state.transaction J
    → (uses_rows s ≡ true → (t : Transaction) → state.transaction ≡ Some t → is_some t.snapshot ≡ true) → ExecutesStatement options who state text J s e r next → IsDone J e next
statement_done options who state next text J (statement.Select s) e r ready f taken h = let c = h.chosen in stays J (event.Run who c.0) e state next ready f c.1 h.same refl tt
statement_done options who state next text J (statement.Insert i) e r ready f taken h =
    done_by J _ e r next h (changes_rows J who state (statement.Insert i) (full_name state.db i.table) ready f (taken refl) refl (effect (statement.Insert i) (base state J) state.db state.session) refl)
statement_done options who state next text J (statement.Update u) e r ready f taken h =
    done_by J _ e r next h (changes_rows J who state (statement.Update u) (full_name state.db u.table) ready f (taken refl) refl (effect (statement.Update u) (base state J) state.db state.session) refl)
statement_done options who state next text J (statement.Delete x) e r ready f taken h =
    done_by J _ e r next h (changes_rows J who state (statement.Delete x) (full_name state.db x.table) ready f (taken refl) refl (effect (statement.Delete x) (base state J) state.db state.session) refl)
statement_done options who state next text J (statement.UseDb name) e r ready f taken h = done_by J _ e r next h (uses J who state name ready f)
statement_done options who state next text J statement.Begin e r ready f taken h = done_by J _ e r next h (ends_with J who state (begun state) ready f new_rests)
statement_done options who state next text J statement.Commit e r ready f taken h = done_by J _ e r next h (ends_with J who state (with_transaction state None) ready f (λ K g. none_rests K))
statement_done options who state next text J statement.Rollback e r ready f taken h =
    let s = with_transaction state None in
    done_by J _ e r next h (runs J who (ok_reply s 0) s ready tt)
statement_done options who state next text J (statement.Set x) e r ready f taken h = done_by J _ e r next h.1 (sets J who state x ready f (set_to state x) refl)
statement_done options who state next text J statement.ShowStatus e r ready f taken h = stays J (event.Run who (how.Status h.0)) e state next ready f h.1 h.3 refl tt
statement_done options who state next text J statement.FlushCache e r ready f taken h = stays J (event.Flush who) e state next ready f h.0 h.2 refl tt
statement_done options who state next text J statement.FlushTables e r ready f taken h = stays J (event.Reset who) e state next ready f h.0 h.2 refl tt
statement_done options who state next text J statement.ResetCache e r ready f taken h = stays J (event.Reset who) e state next ready f h.0 h.2 refl tt
statement_done options who state next text J (statement.Truncate t) e r ready f taken h = done_by J _ e r next h (changes_form J who state (statement.Truncate t) ready f refl)
statement_done options who state next text J (statement.CreateTable t parts) e r ready f taken h = done_by J _ e r next h (changes_form J who state (statement.CreateTable t parts) ready f refl)
statement_done options who state next text J (statement.DropTable t) e r ready f taken h = done_by J _ e r next h (changes_form J who state (statement.DropTable t) ready f refl)
statement_done options who state next text J (statement.CreateDb name) e r ready f taken h = done_by J _ e r next h (changes_form J who state (statement.CreateDb name) ready f refl)
statement_done options who state next text J (statement.DropDb name) e r ready f taken h = done_by J _ e r next h (changes_form J who state (statement.DropDb name) ready f refl)

text_done : (options : Options) (who : Who) (state next : State) (text : List ℕ) (J : Journal) (m : Result Statement ParseFault) (e : Event) (r : Reply) → IsReady J → AreFitting state.transaction J → ExecutesText options who state text J m e r next → IsDone J e next
text_done options who state next text J (Ok s) e r ready f h =
    statement_done options who (arrived (length J + 1) s state) next text J s e r ready (arrived_ones_fit s state J ready.within f) (λ uses t same. arrived_have_snapshots s state (length J + 1) t uses same) h
text_done options who state next text J (Err fault) e r ready f h = absurd h

command_done : (options : Options) (who : Who) (state next : State) (c : Command) (J : Journal) (e : Event) (r : Reply) → IsReady J → AreFitting state.transaction J → Executes options who state c J e r next → IsDone J e next
command_done options who state next (command.Query text) J e r ready f h = text_done options who state next text J (meaning (trimmed text) state.ansi) e r ready f h
command_done options who state next (command.InitDb name) J e r ready f h = done_by J _ e r next h (uses J who state name ready f)
command_done options who state next command.Quit J e r ready f h = absurd h
command_done options who state next command.Ping J e r ready f h = absurd h
command_done options who state next (command.Unknown byte) J e r ready f h = absurd h
command_done options who state next command.Empty J e r ready f h = absurd h

pub commands_may_commit : CommandsMayCommit
commands_may_commit options who state next c J e r fits within rest h = (command_done options who state next c J e r (record { fits = fits; within = within }) rest.fitting h).may

pub commands_rest : CommandsRest
commands_rest options who state next c J e r fits within rest h = (command_done options who state next c J e r (record { fits = fits; within = within }) rest.fitting h).rest

-- ---- commands without an event

next_is : (r q : Reply) (s t : State) → ◌≡◌ {A = Option (Reply × State)} (Some (r, s)) (Some (q, t)) → s ≡ t
next_is r q s t h = let same : ◌≡◌ {A = Reply × State} (r, s) (q, t) = cc in ap (λ (p : Reply × State). p.1) same

kept : (r q : Reply) (s t : State) → ◌≡◌ {A = Option (Reply × State)} (Some (r, s)) (Some (q, t)) → t.transaction ≡ s.transaction
kept r q s t h = ap (λ (x : State). x.transaction) (sym (next_is r q s t h))

no_local : (p : Reply × State) {P : Type 0} → ◌≡◌ {A = Option (Reply × State)} None (Some p) → P
no_local p h = absurd (true≢false (sym (ap is_some h)))

set_kept : (state next : State) (x : Setting) (r : Reply) (res : Result State SqlError) → set_to state x ≡ res → set_locally state res ≡ Some (r, next) → next.transaction ≡ state.transaction
set_kept state next x r (Err e) same h = kept (refused e) r state next h
set_kept state next x r (Ok s) same h = kept (ok_reply s 0) r s next h ∙ set_keeps state s x same

text_kept : (state next : State) (r : Reply) (m : Result Statement ParseFault) → local_text state m ≡ Some (r, next) → next.transaction ≡ state.transaction
text_kept state next r (Err fault) h = kept (refused (fault_error fault)) r state next h
text_kept state next r (Ok (statement.Set x)) h = by (is_autocommit x) h
  where
    by : (b : Bool) → cond b None (set_locally state (set_to state x)) ≡ Some (r, next) → next.transaction ≡ state.transaction
    by true g = no_local (r, next) g
    by false g = set_kept state next x r (set_to state x) refl g
text_kept state next r (Ok (statement.Select s)) h = no_local (r, next) h
text_kept state next r (Ok (statement.Insert i)) h = no_local (r, next) h
text_kept state next r (Ok (statement.Update u)) h = no_local (r, next) h
text_kept state next r (Ok (statement.Delete x)) h = no_local (r, next) h
text_kept state next r (Ok (statement.Truncate t)) h = no_local (r, next) h
text_kept state next r (Ok (statement.CreateTable t parts)) h = no_local (r, next) h
text_kept state next r (Ok (statement.DropTable t)) h = no_local (r, next) h
text_kept state next r (Ok (statement.CreateDb name)) h = no_local (r, next) h
text_kept state next r (Ok (statement.DropDb name)) h = no_local (r, next) h
text_kept state next r (Ok (statement.UseDb name)) h = no_local (r, next) h
text_kept state next r (Ok statement.Begin) h = no_local (r, next) h
text_kept state next r (Ok statement.Commit) h = no_local (r, next) h
text_kept state next r (Ok statement.Rollback) h = no_local (r, next) h
text_kept state next r (Ok statement.ShowStatus) h = no_local (r, next) h
text_kept state next r (Ok statement.FlushCache) h = no_local (r, next) h
text_kept state next r (Ok statement.FlushTables) h = no_local (r, next) h
text_kept state next r (Ok statement.ResetCache) h = no_local (r, next) h

local_kept : (state next : State) (c : Command) (r : Reply) → local state c ≡ Some (r, next) → next.transaction ≡ state.transaction
local_kept state next command.Ping r h = kept (ok_reply state 0) r state next h
local_kept state next (command.Unknown byte) r h = kept _ r state next h
local_kept state next command.Empty r h = kept _ r state next h
local_kept state next (command.Query text) r h = text_kept state next r (meaning (trimmed text) state.ansi) h
local_kept state next (command.InitDb name) r h = no_local (r, next) h
local_kept state next command.Quit r h = no_local (r, next) h

pub locals_rest : LocalsRest
locals_rest state next c J r h rest = subst (λ o. IsAtRest o J) (sym (local_kept state next c r h)) rest

-- ---- events of others

pub others_rest : OthersRest
others_rest None J e h rest = none_rests (J ++ e ∷ [])
others_rest (Some t) J e h rest = record {
  fitting = fitting_stays t J e h (λ is. absurd (passed t.snapshot is rest.settled)) rest.fitting;
  settled = further t.snapshot rest.settled;
}
  where
    passed : (s : Option ℕ) → s ≡ Some (length J + 1) → IfSome s (λ place. place ≤ length J) → ⊥
    passed None is low = true≢false (sym (ap is_some is))
    passed (Some place) is low = let same : place ≡ length J + 1 = cc in omega (arith, same, low)

    further : (s : Option ℕ) → IfSome s (λ place. place ≤ length J) → IfSome s (λ place. place ≤ length (J ++ e ∷ []))
    further None low = tt
    further (Some place) low = longer J e place low
