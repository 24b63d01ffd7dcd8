use Rattle.std.proofs.Common.{◌≡◌, sym, ap, ◌∙◌}
use Rattle.qc_model.specs.declared.events.Who.{Who}
use Rattle.qc_model.specs.Machine.{changed_form}
use Rattle.qc_statements.specs.Forms.{given_by}
use Rattle.qc_statements.specs.declared.schema_changes.SchemaChange.{SchemaChange}
use Rattle.qc_statements.proofs.Calls.{if_ok}
use Rattle.qc_serve.proofs.Endings.{ready_makes}
use Rattle.qc_serve.proofs.Seating.{ready_same}
use Rattle.qc_serve.proofs.schema.forms_now.Goals as goal

pub schema_change-requires-clause-sound : goal.schema_change-requires-clause-sound
schema_change-requires-clause-sound g c = rw (c.journal.ensures, c.database.ensures, c.value-server.ensures.value) (ready_makes c.args.who c.args.held.now c.requires.ready)

pub returns-clause-ready : goal.returns-clause-ready
returns-clause-ready g c = ready_same c.args.who c.args.held.now c.value-server.result.now c.requires.ready c.value-server.ensures.value

pub returns-clause-gives : goal.returns-clause-gives
returns-clause-gives g c =
    let J = c.args.held.now.value.journal.events in
    let state = c.args.state.now.state in
    rw (sym (c.journal.ensures ∙ ap (λ p. p.journal) c.value-server.ensures.value))
    (if_ok (λ (f : SchemaChange). (who : Who) → given_by who state f ≡ changed_form who state c.journal.result.now.events c.args.statement.now) (λ f. given_by c.args.who state f ≡ changed_form c.args.who state c.journal.result.now.events c.args.statement.now) (λ f k. k c.args.who) c.schema_change.result c.schema_change.ensures.gives)
