-- Each statement was answered.
use Rattle.std.proofs.Common.{◌≡◌, ℕ, ◌+◌, true, false, List, length, refl, sym, ◌∙◌, None, Ok, Err, Result, true≢false}
use Rattle.std.specs.Prelude.{MatchResult}
use Rattle.qc_types.specs.declared.sql_error.SqlError.{SqlError}
use Rattle.qc_types.specs.declared.totals.Totals.{Totals}
use Rattle.qc_sql.specs.declared.commands.Command.TheVariants as command
use Rattle.qc_sql.specs.declared.statements.Delete.{Delete}
use Rattle.qc_sql.specs.declared.statements.Insert.{Insert}
use Rattle.qc_sql.specs.declared.statements.Select.{Select}
use Rattle.qc_sql.specs.declared.statements.Setting.{Setting}
use Rattle.qc_sql.specs.declared.statements.Statement.{Statement}
use Rattle.qc_sql.specs.declared.statements.Statement.TheVariants as statement
use Rattle.qc_sql.specs.declared.statements.Update.{Update}
use Rattle.qc_sql.specs.Database.{Name}
use Rattle.qc_sql.specs.Effects.{effect}
use Rattle.qc_model.specs.declared.events.Event.{Event}
use Rattle.qc_model.specs.declared.events.Event.TheVariants as event
use Rattle.qc_model.specs.declared.events.Who.{Who}
use Rattle.qc_model.specs.Journal.{Journal}
use Rattle.qc_model.specs.Machine.{begun, changed_form, ended_with, ok_reply, other, refused, set_autocommit, used}
use Rattle.qc_model.specs.Session.{State, arrived, base, with_transaction}
use Rattle.qc_model.specs.Settings.{is_autocommit, set_to}
use Rattle.qc_laws.specs.fits.Sound.{changes_tables}
use Rattle.qc_statements.specs.Statements.{changes_rows}
use Rattle.qc_statements.proofs.Switches.{set_session}
use Rattle.qc_turn.specs.declared.turn.Turn.{Turn}
use Rattle.qc_core.specs.declared.server_state.ServerState.{ServerState}
use Rattle.qc_serve.specs.declared.session.Session.{Session}
use Rattle.qc_serve.specs.Going.{DoesStatement, GivesOut, IsEventOf, IsGivenBy, SetsOther, Stops, StopsStatement, StopsWithout, TellsOut, event_given, next_who, number_of, rows_given, status_given}
use Rattle.qc_serve.proofs.Answering.{statement_event, statement_given, statement_stops, statement_told}
use Rattle.qc_serve.proofs.Givens.{autocommit_own, ended_own, forms_own, rows_own, used_own}
use Rattle.qc_serve.proofs.Resting.{stops_as, stops_without}

-- ---- INSERT, UPDATE and DELETE

rows_session : (who : Who) (s : Statement) (state : State) (J : Journal) → (arrived (length J + 1) s state).session ≡ state.session → (rows_given who state s J).next.session ≡ state.session
rows_session who s state J same =
    let at : State = arrived (length J + 1) s state in
    let g = rows_own who at (effect s (base at J) at.db at.session) in
    g.session ∙ same

pub rows_does : (t : Turn ServerState Event) (s : Statement) (old new : Session) (bytes : List ℕ) → changes_rows s ≡ true → GivesOut t old new bytes (rows_given (next_who old) old.state.state s) → DoesStatement t s old new bytes
rows_does t (statement.Insert i) old new bytes is out =
    let s = statement.Insert i in
    statement_given t s old new bytes (rows_given (next_who old) old.state.state s) refl (λ text J. (refl, refl, refl)) (λ J. rows_session (next_who old) s old.state.state J refl) out
rows_does t (statement.Update u) old new bytes is out =
    let s = statement.Update u in
    statement_given t s old new bytes (rows_given (next_who old) old.state.state s) refl (λ text J. (refl, refl, refl)) (λ J. rows_session (next_who old) s old.state.state J refl) out
rows_does t (statement.Delete d) old new bytes is out =
    let s = statement.Delete d in
    statement_given t s old new bytes (rows_given (next_who old) old.state.state s) refl (λ text J. (refl, refl, refl)) (λ J. rows_session (next_who old) s old.state.state J refl) out
rows_does t s old new bytes is out = absurd (true≢false (sym is))

-- ---- CREATE, DROP and TRUNCATE

forms_session : (old : Session) (s : Statement) (J : Journal) → (changed_form (next_who old) old.state.state J s).next.session ≡ number_of old
forms_session old s J = let g = forms_own (next_who old) J old.state.state s in g.session

pub forms_does : (t : Turn ServerState Event) (s : Statement) (old new : Session) (bytes : List ℕ) → changes_tables s ≡ true → GivesOut t old new bytes (λ journal. changed_form (next_who old) old.state.state journal s) → DoesStatement t s old new bytes
forms_does t (statement.Truncate n) old new bytes is out = let s = statement.Truncate n in statement_given t s old new bytes (λ journal. changed_form (next_who old) old.state.state journal s) refl (λ text J. (refl, refl, refl)) (forms_session old s) out
forms_does t (statement.CreateTable n parts) old new bytes is out =
    let s = statement.CreateTable n parts in
    statement_given t s old new bytes (λ journal. changed_form (next_who old) old.state.state journal s) refl (λ text J. (refl, refl, refl)) (forms_session old s) out
forms_does t (statement.DropTable n) old new bytes is out = let s = statement.DropTable n in statement_given t s old new bytes (λ journal. changed_form (next_who old) old.state.state journal s) refl (λ text J. (refl, refl, refl)) (forms_session old s) out
forms_does t (statement.CreateDb n) old new bytes is out = let s = statement.CreateDb n in statement_given t s old new bytes (λ journal. changed_form (next_who old) old.state.state journal s) refl (λ text J. (refl, refl, refl)) (forms_session old s) out
forms_does t (statement.DropDb n) old new bytes is out = let s = statement.DropDb n in statement_given t s old new bytes (λ journal. changed_form (next_who old) old.state.state journal s) refl (λ text J. (refl, refl, refl)) (forms_session old s) out
forms_does t s old new bytes is out = absurd (true≢false (sym is))

-- ---- the current database, and transactions

pub use_does : (t : Turn ServerState Event) (name : Name) (old new : Session) (bytes : List ℕ) → GivesOut t old new bytes (λ journal. used (next_who old) old.state.state journal name) → DoesStatement t (statement.UseDb name) old new bytes
use_does t name old new bytes out =
    statement_given t (statement.UseDb name) old new bytes (λ journal. used (next_who old) old.state.state journal name) refl (λ text J. (refl, refl, refl)) (λ J. let g = used_own (next_who old) J old.state.state name in g.session) out

pub begin_does : (t : Turn ServerState Event) (old new : Session) (bytes : List ℕ) → GivesOut t old new bytes (λ journal. ended_with (next_who old) old.state.state journal (begun old.state.state)) → DoesStatement t statement.Begin old new bytes
begin_does t old new bytes out =
    statement_given t statement.Begin old new bytes (λ journal. ended_with (next_who old) old.state.state journal (begun old.state.state)) refl (λ text J. (refl, refl, refl))
    (λ J. let g = ended_own (next_who old) J old.state.state (begun old.state.state) refl in g.session) out

pub commit_does : (t : Turn ServerState Event) (old new : Session) (bytes : List ℕ) → GivesOut t old new bytes (λ journal. ended_with (next_who old) old.state.state journal (with_transaction old.state.state None)) → DoesStatement t statement.Commit old new bytes
commit_does t old new bytes out =
    statement_given t statement.Commit old new bytes (λ journal. ended_with (next_who old) old.state.state journal (with_transaction old.state.state None)) refl (λ text J. (refl, refl, refl))
    (λ J. let g = ended_own (next_who old) J old.state.state (with_transaction old.state.state None) refl in g.session) out

pub rollback_does : (t : Turn ServerState Event) (old new : Session) (bytes : List ℕ) → GivesOut t old new bytes (λ journal. other (next_who old) (with_transaction old.state.state None) (ok_reply (with_transaction old.state.state None) 0))
    → DoesStatement t statement.Rollback old new bytes
rollback_does t old new bytes out =
    statement_given t statement.Rollback old new bytes (λ journal. other (next_who old) (with_transaction old.state.state None) (ok_reply (with_transaction old.state.state None) 0)) refl (λ text J. (refl, refl, refl)) (λ J. refl) out

-- ---- SET

pub autocommit_does : (t : Turn ServerState Event) (x : Setting) (old new : Session) (bytes : List ℕ) → is_autocommit x ≡ true
    → GivesOut t old new bytes (λ journal. set_autocommit (next_who old) old.state.state journal (set_to old.state.state x)) → DoesStatement t (statement.Set x) old new bytes
autocommit_does t x old new bytes is out =
    statement_given t (statement.Set x) old new bytes (λ journal. set_autocommit (next_who old) old.state.state journal (set_to old.state.state x)) (rw is refl) (λ text J. (is, (refl, refl, refl)))
    (λ J. let g = autocommit_own (next_who old) J old.state.state (set_to old.state.state x) (λ next e. set_session old.state.state next x e) in g.session) out

set_told : (t : Turn ServerState Event) (x : Setting) (old new : Session) (bytes : List ℕ) (r : Result State SqlError) → is_autocommit x ≡ false → set_to old.state.state x ≡ r
    → MatchResult r (λ next. TellsOut t old new bytes (ok_reply next 0) next) (λ e. TellsOut t old new bytes (refused e) old.state.state) → DoesStatement t (statement.Set x) old new bytes
set_told t x old new bytes (Ok next) is e out = statement_told t (statement.Set x) old new bytes (ok_reply next 0) next (rw (is, e) refl) (set_session old.state.state next x e) out
set_told t x old new bytes (Err error) is e out = statement_told t (statement.Set x) old new bytes (refused error) old.state.state (rw (is, e) refl) refl out

pub set_does : (t : Turn ServerState Event) (x : Setting) (old new : Session) (bytes : List ℕ) → is_autocommit x ≡ false → SetsOther t x old new bytes → DoesStatement t (statement.Set x) old new bytes
set_does t x old new bytes is out = set_told t x old new bytes (set_to old.state.state x) is refl out

-- ---- the cache

pub status_does : (t : Turn ServerState Event) (old new : Session) (bytes : List ℕ) → ((x : Totals) × GivesOut t old new bytes (status_given (next_who old) old.state.state x)) → DoesStatement t statement.ShowStatus old new bytes
status_does t old new bytes out = statement_given t statement.ShowStatus old new bytes (status_given (next_who old) old.state.state out.0) refl (λ text J. (out.0, refl, refl, refl)) (λ J. refl) out.1

pub flush_does : (t : Turn ServerState Event) (old new : Session) (bytes : List ℕ) → GivesOut t old new bytes (λ journal. event_given (event.Flush (next_who old)) old.state.state) → DoesStatement t statement.FlushCache old new bytes
flush_does t old new bytes out = statement_given t statement.FlushCache old new bytes (λ journal. event_given (event.Flush (next_who old)) old.state.state) refl (λ text J. (refl, refl, refl)) (λ J. refl) out

pub tables_does : (t : Turn ServerState Event) (old new : Session) (bytes : List ℕ) → GivesOut t old new bytes (λ journal. event_given (event.Reset (next_who old)) old.state.state) → DoesStatement t statement.FlushTables old new bytes
tables_does t old new bytes out = statement_given t statement.FlushTables old new bytes (λ journal. event_given (event.Reset (next_who old)) old.state.state) refl (λ text J. (refl, refl, refl)) (λ J. refl) out

pub reset_does : (t : Turn ServerState Event) (old new : Session) (bytes : List ℕ) → GivesOut t old new bytes (λ journal. event_given (event.Reset (next_who old)) old.state.state) → DoesStatement t statement.ResetCache old new bytes
reset_does t old new bytes out = statement_given t statement.ResetCache old new bytes (λ journal. event_given (event.Reset (next_who old)) old.state.state) refl (λ text J. (refl, refl, refl)) (λ J. refl) out

-- ---- memory lacked

pub rows_stops : (t : Turn ServerState Event) (s : Statement) (old new : Session) → changes_rows s ≡ true → Stops t old new (IsGivenBy (rows_given (next_who old) old.state.state s)) → StopsStatement t s old new
rows_stops t (statement.Insert i) old new is stops = let s = statement.Insert i in statement_stops t s old new (rows_given (next_who old) old.state.state s) refl (λ text J. (refl, refl, refl)) stops
rows_stops t (statement.Update u) old new is stops = let s = statement.Update u in statement_stops t s old new (rows_given (next_who old) old.state.state s) refl (λ text J. (refl, refl, refl)) stops
rows_stops t (statement.Delete d) old new is stops = let s = statement.Delete d in statement_stops t s old new (rows_given (next_who old) old.state.state s) refl (λ text J. (refl, refl, refl)) stops
rows_stops t s old new is stops = absurd (true≢false (sym is))

pub forms_stops : (t : Turn ServerState Event) (s : Statement) (old new : Session) → changes_tables s ≡ true → Stops t old new (IsGivenBy (λ journal. changed_form (next_who old) old.state.state journal s)) → StopsStatement t s old new
forms_stops t (statement.Truncate n) old new is stops = let s = statement.Truncate n in statement_stops t s old new (λ journal. changed_form (next_who old) old.state.state journal s) refl (λ text J. (refl, refl, refl)) stops
forms_stops t (statement.CreateTable n parts) old new is stops =
    let s = statement.CreateTable n parts in
    statement_stops t s old new (λ journal. changed_form (next_who old) old.state.state journal s) refl (λ text J. (refl, refl, refl)) stops
forms_stops t (statement.DropTable n) old new is stops = let s = statement.DropTable n in statement_stops t s old new (λ journal. changed_form (next_who old) old.state.state journal s) refl (λ text J. (refl, refl, refl)) stops
forms_stops t (statement.CreateDb n) old new is stops = let s = statement.CreateDb n in statement_stops t s old new (λ journal. changed_form (next_who old) old.state.state journal s) refl (λ text J. (refl, refl, refl)) stops
forms_stops t (statement.DropDb n) old new is stops = let s = statement.DropDb n in statement_stops t s old new (λ journal. changed_form (next_who old) old.state.state journal s) refl (λ text J. (refl, refl, refl)) stops
forms_stops t s old new is stops = absurd (true≢false (sym is))

pub use_db_stops : (t : Turn ServerState Event) (name : Name) (old new : Session) → Stops t old new (IsGivenBy (λ journal. used (next_who old) old.state.state journal name)) → StopsStatement t (statement.UseDb name) old new
use_db_stops t name old new stops = statement_stops t (statement.UseDb name) old new (λ journal. used (next_who old) old.state.state journal name) refl (λ text J. (refl, refl, refl)) stops

pub begin_stops : (t : Turn ServerState Event) (old new : Session) → Stops t old new (IsGivenBy (λ journal. ended_with (next_who old) old.state.state journal (begun old.state.state))) → StopsStatement t statement.Begin old new
begin_stops t old new stops = statement_stops t statement.Begin old new (λ journal. ended_with (next_who old) old.state.state journal (begun old.state.state)) refl (λ text J. (refl, refl, refl)) stops

pub commit_stops : (t : Turn ServerState Event) (old new : Session) → Stops t old new (IsGivenBy (λ journal. ended_with (next_who old) old.state.state journal (with_transaction old.state.state None))) → StopsStatement t statement.Commit old new
commit_stops t old new stops = statement_stops t statement.Commit old new (λ journal. ended_with (next_who old) old.state.state journal (with_transaction old.state.state None)) refl (λ text J. (refl, refl, refl)) stops

pub autocommit_stops : (t : Turn ServerState Event) (x : Setting) (old new : Session) → is_autocommit x ≡ true → Stops t old new (IsGivenBy (λ journal. set_autocommit (next_who old) old.state.state journal (set_to old.state.state x))) → StopsStatement t (statement.Set x) old new
autocommit_stops t x old new is stops =
    statement_stops t (statement.Set x) old new (λ journal. set_autocommit (next_who old) old.state.state journal (set_to old.state.state x)) (rw is refl) (λ text J. (is, (refl, refl, refl))) stops

pub status_stops : (t : Turn ServerState Event) (old new : Session) → Stops t old new (λ journal e. (x : Totals) × IsGivenBy (status_given (next_who old) old.state.state x) journal e) → StopsStatement t statement.ShowStatus old new
status_stops t old new stops = λ text means.
    stops_as t old new (λ journal e. (x : Totals) × IsGivenBy (status_given (next_who old) old.state.state x) journal e) (IsEventOf (command.Query text) old)
    (λ J e so. statement_event text statement.ShowStatus old (status_given (next_who old) old.state.state so.0) J e means refl (so.0, refl, refl, refl) so.1) stops

-- before the statement's event, or it has none
pub without_stops : (t : Turn ServerState Event) (s : Statement) (old new : Session) → StopsWithout t old new → StopsStatement t s old new
without_stops t s old new stops = λ text is. stops_without t old new (IsEventOf (command.Query text) old) stops

-- ---- the statements that are left

pub record IsLeft (s : Statement) : Type 0 where
  pub select : (x : Select) → s ≡ statement.Select x → ⊥
  pub insert : (x : Insert) → s ≡ statement.Insert x → ⊥
  pub update : (x : Update) → s ≡ statement.Update x → ⊥
  pub delete : (x : Delete) → s ≡ statement.Delete x → ⊥
  pub use_db : (x : Name) → s ≡ statement.UseDb x → ⊥
  pub begin : s ≡ statement.Begin → ⊥
  pub commit : s ≡ statement.Commit → ⊥
  pub rollback : s ≡ statement.Rollback → ⊥
  pub set : (x : Setting) → s ≡ statement.Set x → ⊥
  pub show : s ≡ statement.ShowStatus → ⊥
  pub flush_cache : s ≡ statement.FlushCache → ⊥
  pub flush_tables : s ≡ statement.FlushTables → ⊥
  pub reset : s ≡ statement.ResetCache → ⊥

pub left_changes_tables : (s : Statement) → IsLeft s → changes_tables s ≡ true
left_changes_tables (statement.Select x) l = absurd (l.select x refl)
left_changes_tables (statement.Insert x) l = absurd (l.insert x refl)
left_changes_tables (statement.Update x) l = absurd (l.update x refl)
left_changes_tables (statement.Delete x) l = absurd (l.delete x refl)
left_changes_tables (statement.UseDb x) l = absurd (l.use_db x refl)
left_changes_tables statement.Begin l = absurd (l.begin refl)
left_changes_tables statement.Commit l = absurd (l.commit refl)
left_changes_tables statement.Rollback l = absurd (l.rollback refl)
left_changes_tables (statement.Set x) l = absurd (l.set x refl)
left_changes_tables statement.ShowStatus l = absurd (l.show refl)
left_changes_tables statement.FlushCache l = absurd (l.flush_cache refl)
left_changes_tables statement.FlushTables l = absurd (l.flush_tables refl)
left_changes_tables statement.ResetCache l = absurd (l.reset refl)
left_changes_tables (statement.Truncate t) l = refl
left_changes_tables (statement.CreateTable t parts) l = refl
left_changes_tables (statement.DropTable t) l = refl
left_changes_tables (statement.CreateDb name) l = refl
left_changes_tables (statement.DropDb name) l = refl
