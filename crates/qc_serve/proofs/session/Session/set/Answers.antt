use Rattle.std.proofs.Common.{List, ℕ, sym, ◌∙◌}
use Rattle.qc_sql.specs.declared.statements.Statement.TheVariants as statement
use Rattle.qc_model.specs.Machine.{set_autocommit}
use Rattle.qc_model.specs.Settings.{set_to}
use Rattle.qc_statements.proofs.Calls.{if_ok}
use Rattle.qc_serve.specs.Going.{DoesStatement, GivesOut, SetsOther, next_who}
use Rattle.qc_serve.proofs.Executing.{autocommit_does, autocommit_stops, set_does, without_stops}
use Rattle.qc_serve.proofs.Resting.{on_err}
use Rattle.qc_serve.proofs.session.Session.set.Goals as goal

pub returns-then-is_autocommit-clause-does : goal.returns-then-is_autocommit-clause-does
returns-then-is_autocommit-clause-does g c =
    let t = c.args.turn.now in
    let old = c.args.self.now in
    let x = c.args.setting.now in
    let n = c.set_autocommit in
    if_ok (λ (bytes : List ℕ). GivesOut t old n.new.self bytes (λ journal. set_autocommit (next_who old) old.state.state journal (set_to old.state.state x))) (DoesStatement t (statement.Set x) old n.new.self)
    (λ bytes. autocommit_does t x old n.new.self bytes (sym c.is_autocommit.ensures ∙ c.if-is_autocommit.true)) n.result n.ensures.gives

pub returns-else-is_autocommit-clause-does : goal.returns-else-is_autocommit-clause-does
returns-else-is_autocommit-clause-does g c =
    let t = c.args.turn.now in
    let old = c.args.self.now in
    let x = c.args.setting.now in
    let n = c.set_other in
    if_ok (SetsOther t x old n.new.self) (DoesStatement t (statement.Set x) old n.new.self) (λ bytes. set_does t x old n.new.self bytes (sym c.is_autocommit.ensures ∙ c.if-is_autocommit.false)) n.result n.ensures.sets

pub returns-then-is_autocommit-clause-stops : goal.returns-then-is_autocommit-clause-stops
returns-then-is_autocommit-clause-stops g c =
    let n = c.set_autocommit in
    on_err n.result (autocommit_stops c.args.turn.now c.args.setting.now c.args.self.now n.new.self (sym c.is_autocommit.ensures ∙ c.if-is_autocommit.true)) n.ensures.stops

pub returns-else-is_autocommit-clause-stops : goal.returns-else-is_autocommit-clause-stops
returns-else-is_autocommit-clause-stops g c =
    let n = c.set_other in
    on_err n.result (without_stops c.args.turn.now (statement.Set c.args.setting.now) c.args.self.now n.new.self) n.ensures.stops
