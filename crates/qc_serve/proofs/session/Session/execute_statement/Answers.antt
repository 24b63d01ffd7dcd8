use Rattle.std.proofs.Common.{◌≡◌, List, ℕ, None, true, rules}
use Rattle.qc_statements.specs.Statements.{changes_rows}
use Rattle.qc_sql.specs.declared.statements.Statement.TheVariants as statement
use Rattle.qc_types.specs.declared.totals.Totals.{Totals}
use Rattle.qc_model.specs.declared.events.Event.TheVariants as event
use Rattle.qc_model.specs.Machine.{begun, changed_form, ended_with, ok_reply, other, used}
use Rattle.qc_model.specs.Session.{with_transaction}
use Rattle.qc_statements.proofs.Calls.{if_ok}
use Rattle.qc_serve.specs.Going.{DoesStatement, GivesOut, event_given, next_who, rows_given, status_given}
use Rattle.qc_serve.proofs.Executing.{begin_does, begin_stops, commit_does, commit_stops, flush_does, forms_does, forms_stops, left_changes_tables, reset_does, rollback_does, rows_does, rows_stops, status_does, status_stops, tables_does, use_db_stops, use_does, without_stops}
use Rattle.qc_serve.proofs.Resting.{on_err}
use Rattle.qc_serve.proofs.session.Session.execute_statement.Goals as goal

pub returns-in-UseDb-clause-does : goal.returns-in-UseDb-clause-does
returns-in-UseDb-clause-does g c =
    let t = c.args.turn.now in
    let old = c.args.self.now in
    let n = c.use_db in
    rw c.in-UseDb.is (if_ok (λ (bytes : List ℕ). GivesOut t old n.new.self bytes (λ journal. used (next_who old) old.state.state journal c.in-UseDb.name)) (DoesStatement t (statement.UseDb c.in-UseDb.name) old n.new.self) (use_does t c.in-UseDb.name old n.new.self) n.result n.ensures.gives)

pub returns-in-Begin-clause-does : goal.returns-in-Begin-clause-does
returns-in-Begin-clause-does g c =
    let t = c.args.turn.now in
    let old = c.args.self.now in
    let n = c.begin in
    rw c.in-Begin.is (if_ok (λ (bytes : List ℕ). GivesOut t old n.new.self bytes (λ journal. ended_with (next_who old) old.state.state journal (begun old.state.state))) (DoesStatement t (statement.Begin) old n.new.self) (begin_does t old n.new.self) n.result n.ensures.gives)

pub returns-in-Commit-clause-does : goal.returns-in-Commit-clause-does
returns-in-Commit-clause-does g c =
    let t = c.args.turn.now in
    let old = c.args.self.now in
    let n = c.commit in
    rw c.in-Commit.is (if_ok (λ (bytes : List ℕ). GivesOut t old n.new.self bytes (λ journal. ended_with (next_who old) old.state.state journal (with_transaction old.state.state None))) (DoesStatement t (statement.Commit) old n.new.self) (commit_does t old n.new.self) n.result n.ensures.gives)

pub returns-in-Rollback-clause-does : goal.returns-in-Rollback-clause-does
returns-in-Rollback-clause-does g c =
    let t = c.args.turn.now in
    let old = c.args.self.now in
    let n = c.rollback in
    rw c.in-Rollback.is (if_ok (λ (bytes : List ℕ). GivesOut t old n.new.self bytes (λ journal. other (next_who old) (with_transaction old.state.state None) (ok_reply (with_transaction old.state.state None) 0))) (DoesStatement t (statement.Rollback) old n.new.self) (rollback_does t old n.new.self) n.result n.ensures.gives)

pub returns-in-FlushCache-clause-does : goal.returns-in-FlushCache-clause-does
returns-in-FlushCache-clause-does g c =
    let t = c.args.turn.now in
    let old = c.args.self.now in
    let n = c.log_ok in
    rw c.in-FlushCache.is (if_ok (λ (bytes : List ℕ). GivesOut t old n.new.self bytes (λ journal. event_given (event.Flush (next_who old)) old.state.state)) (DoesStatement t (statement.FlushCache) old n.new.self) (flush_does t old n.new.self) n.result n.ensures.gives)

pub returns-in-FlushTables-clause-does : goal.returns-in-FlushTables-clause-does
returns-in-FlushTables-clause-does g c =
    let t = c.args.turn.now in
    let old = c.args.self.now in
    let n = c.log_ok-in-FlushTables in
    rw c.in-FlushTables.is (if_ok (λ (bytes : List ℕ). GivesOut t old n.new.self bytes (λ journal. event_given (event.Reset (next_who old)) old.state.state)) (DoesStatement t (statement.FlushTables) old n.new.self) (tables_does t old n.new.self) n.result n.ensures.gives)

pub returns-in-ResetCache-clause-does : goal.returns-in-ResetCache-clause-does
returns-in-ResetCache-clause-does g c =
    let t = c.args.turn.now in
    let old = c.args.self.now in
    let n = c.log_ok-in-ResetCache in
    rw c.in-ResetCache.is (if_ok (λ (bytes : List ℕ). GivesOut t old n.new.self bytes (λ journal. event_given (event.Reset (next_who old)) old.state.state)) (DoesStatement t (statement.ResetCache) old n.new.self) (reset_does t old n.new.self) n.result n.ensures.gives)

pub returns-in-ShowStatus-clause-does : goal.returns-in-ShowStatus-clause-does
returns-in-ShowStatus-clause-does g c =
    let t = c.args.turn.now in
    let old = c.args.self.now in
    let n = c.show_status in
    rw c.in-ShowStatus.is (if_ok (λ (bytes : List ℕ). (x : Totals) × GivesOut t old n.new.self bytes (status_given (next_who old) old.state.state x)) (DoesStatement t statement.ShowStatus old n.new.self) (status_does t old n.new.self) n.result n.ensures.gives)

pub returns-in_default-clause-does : goal.returns-in_default-clause-does
returns-in_default-clause-does g c =
    let t = c.args.turn.now in
    let old = c.args.self.now in
    let s = c.args.statement.now in
    let m = c.change_forms in
    let n = c.in_default in
    let forms = left_changes_tables s (record {
      select = n.not-Select;
      insert = n.not-Insert;
      update = n.not-Update;
      delete = n.not-Delete;
      use_db = n.not-UseDb;
      begin = n.not-Begin;
      commit = n.not-Commit;
      rollback = n.not-Rollback;
      set = n.not-Set;
      show = n.not-ShowStatus;
      flush_cache = n.not-FlushCache;
      flush_tables = n.not-FlushTables;
      reset = n.not-ResetCache;
    }) in
    if_ok (λ (bytes : List ℕ). GivesOut t old m.new.self bytes (λ journal. changed_form (next_who old) old.state.state journal s)) (DoesStatement t s old m.new.self) (λ bytes. forms_does t s old m.new.self bytes forms) m.result m.ensures.gives

pub returns-in-Insert-clause-does : goal.returns-in-Insert-clause-does
returns-in-Insert-clause-does g c =
    let t = c.args.turn.now in
    let old = c.args.self.now in
    let s = c.args.statement.now in
    let n = c.change_rows in
    let kind : changes_rows s ≡ true = search rules in
    if_ok (λ (bytes : List ℕ). GivesOut t old n.new.self bytes (rows_given (next_who old) old.state.state s)) (DoesStatement t s old n.new.self) (λ bytes. rows_does t s old n.new.self bytes kind) n.result n.ensures.gives

pub returns-in-UseDb-clause-stops : goal.returns-in-UseDb-clause-stops
returns-in-UseDb-clause-stops g c =
    let t = c.args.turn.now in
    let old = c.args.self.now in
    let n = c.use_db in
    rw c.in-UseDb.is (on_err n.result (use_db_stops t c.in-UseDb.name old n.new.self) n.ensures.stops)

pub returns-in-Begin-clause-stops : goal.returns-in-Begin-clause-stops
returns-in-Begin-clause-stops g c =
    let t = c.args.turn.now in
    let old = c.args.self.now in
    let n = c.begin in
    rw c.in-Begin.is (on_err n.result (begin_stops t old n.new.self) n.ensures.stops)

pub returns-in-Commit-clause-stops : goal.returns-in-Commit-clause-stops
returns-in-Commit-clause-stops g c =
    let t = c.args.turn.now in
    let old = c.args.self.now in
    let n = c.commit in
    rw c.in-Commit.is (on_err n.result (commit_stops t old n.new.self) n.ensures.stops)

pub returns-in-Rollback-clause-stops : goal.returns-in-Rollback-clause-stops
returns-in-Rollback-clause-stops g c =
    let t = c.args.turn.now in
    let old = c.args.self.now in
    let n = c.rollback in
    rw c.in-Rollback.is (on_err n.result (without_stops t statement.Rollback old n.new.self) n.ensures.stops)

pub returns-in-ShowStatus-clause-stops : goal.returns-in-ShowStatus-clause-stops
returns-in-ShowStatus-clause-stops g c =
    let t = c.args.turn.now in
    let old = c.args.self.now in
    let n = c.show_status in
    rw c.in-ShowStatus.is (on_err n.result (status_stops t old n.new.self) n.ensures.stops)

pub returns-in-FlushCache-clause-stops : goal.returns-in-FlushCache-clause-stops
returns-in-FlushCache-clause-stops g c =
    let t = c.args.turn.now in
    let old = c.args.self.now in
    let n = c.log_ok in
    rw c.in-FlushCache.is (on_err n.result (without_stops t statement.FlushCache old n.new.self) n.ensures.stops)

pub returns-in-FlushTables-clause-stops : goal.returns-in-FlushTables-clause-stops
returns-in-FlushTables-clause-stops g c =
    let t = c.args.turn.now in
    let old = c.args.self.now in
    let n = c.log_ok-in-FlushTables in
    rw c.in-FlushTables.is (on_err n.result (without_stops t statement.FlushTables old n.new.self) n.ensures.stops)

pub returns-in-ResetCache-clause-stops : goal.returns-in-ResetCache-clause-stops
returns-in-ResetCache-clause-stops g c =
    let t = c.args.turn.now in
    let old = c.args.self.now in
    let n = c.log_ok-in-ResetCache in
    rw c.in-ResetCache.is (on_err n.result (without_stops t statement.ResetCache old n.new.self) n.ensures.stops)

pub returns-in_default-clause-stops : goal.returns-in_default-clause-stops
returns-in_default-clause-stops g c =
    let old = c.args.self.now in
    let s = c.args.statement.now in
    let m = c.change_forms in
    let n = c.in_default in
    let forms = left_changes_tables s (record {
      select = n.not-Select;
      insert = n.not-Insert;
      update = n.not-Update;
      delete = n.not-Delete;
      use_db = n.not-UseDb;
      begin = n.not-Begin;
      commit = n.not-Commit;
      rollback = n.not-Rollback;
      set = n.not-Set;
      show = n.not-ShowStatus;
      flush_cache = n.not-FlushCache;
      flush_tables = n.not-FlushTables;
      reset = n.not-ResetCache;
    }) in
    on_err m.result (forms_stops c.args.turn.now s old m.new.self forms) m.ensures.stops

pub returns-in-Insert-clause-stops : goal.returns-in-Insert-clause-stops
returns-in-Insert-clause-stops g c =
    let s = c.args.statement.now in
    let n = c.change_rows in
    let kind : changes_rows s ≡ true = search rules in
    on_err n.result (rows_stops c.args.turn.now s c.args.self.now n.new.self kind) n.ensures.stops
