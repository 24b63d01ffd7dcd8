use Rattle.std.proofs.Common.{◌≡◌, ◌++◌, ℕ, Ok, sym, subst}
use Rattle.qc_model.specs.declared.events.Event.TheVariants as event
use Rattle.qc_model.specs.declared.events.How.TheVariants as how
use Rattle.qc_model.specs.Licence.{IsCommitOn}
use Rattle.qc_model.specs.Machine.{changed_form, form_given}
use Rattle.qc_model.specs.Session.{own_operations}
use Rattle.qc_core.specs.declared.server_state.ServerState.{ServerState}
use Rattle.qc_statements.specs.Sound.{MayFollow}
use Rattle.qc_serve.specs.Ends.{FormsAs}
use Rattle.qc_serve.specs.declared.schema.FormsEnd.{FormsEnd}
use Rattle.qc_serve.specs.declared.schema.FormsEnd.TheVariants as forms
use Rattle.qc_serve.proofs.Changing.{forms_conflict, forms_full, forms_refused}
use Rattle.qc_serve.proofs.Deciding.{answer_none_on, answer_one_on, made_one}
use Rattle.qc_serve.proofs.Endings.{none_pushed}
use Rattle.qc_serve.proofs.schema.commit_forms.Goals as goal

pub push_conflict-requires-clause-commit : goal.push_conflict-requires-clause-commit
push_conflict-requires-clause-commit g c =
    subst (λ (p : ServerState). IsCommitOn p.journal.events c.in-Ok-Conflict.conflict.by c.in-Ok-Conflict.conflict.table) (sym c.forms_now.ensures.ready.2) (rw c.in-Ok-Conflict.field-0-is at c.in-Ok-Conflict.ensures.good)

pub returns-in-Ok-Conflict-clause-pushes : goal.returns-in-Ok-Conflict-clause-pushes
returns-in-Ok-Conflict-clause-pushes g c =
    let h = c.args.held.now in
    let state = c.args.state.now.state in
    let met = c.in-Ok-Conflict.conflict in
    let k = c.forms_now.ensures.ready in
    let gives = rw c.in-Ok-Conflict.field-0-is at c.in-Ok-Conflict.ensures.gives in
    made_one c.args.who (event.Run c.args.who (how.Conflict met.table met.key met.by)) h c.forms_now.new.held c.push_conflict.new.held (λ journal e. FormsAs c.args.who state c.args.statement.now journal e forms.Conflict)
    (forms_conflict c.args.who state c.args.statement.now h.value.journal.events met gives) k.1 k.2 c.push_conflict.ensures.pushes

pub returns-in-Ok-Full-clause-pushes : goal.returns-in-Ok-Full-clause-pushes
returns-in-Ok-Full-clause-pushes g c =
    let h = c.args.held.now in
    let state = c.args.state.now.state in
    let k = c.forms_now.ensures.ready in
    let gives = rw c.in-Ok-Full.field-0-is at c.in-Ok-Full.ensures.gives in
    let good = rw c.in-Ok-Full.field-0-is at c.in-Ok-Full.ensures.good in
    made_one c.args.who (event.Run c.args.who how.Other) h c.forms_now.new.held c.push_run.new.held (λ journal e. FormsAs c.args.who state c.args.statement.now journal e (forms.Full c.in-Ok-Full.table))
    (forms_full c.args.who state c.args.statement.now h.value.journal.events c.in-Ok-Full.table good gives) k.1 k.2 c.push_run.ensures.pushes

pub returns-in-Ok-Refused-clause-pushes : goal.returns-in-Ok-Refused-clause-pushes
returns-in-Ok-Refused-clause-pushes g c =
    let h = c.args.held.now in
    let state = c.args.state.now.state in
    let k = c.forms_now.ensures.ready in
    let gives = rw c.in-Ok-Refused.field-0-is at c.in-Ok-Refused.ensures.gives in
    let good = rw c.in-Ok-Refused.field-0-is at c.in-Ok-Refused.ensures.good in
    made_one c.args.who (event.Run c.args.who how.Other) h c.forms_now.new.held c.push_run-in-Ok-Refused.new.held (λ journal e. FormsAs c.args.who state c.args.statement.now journal e (forms.Refused c.in-Ok-Refused.error))
    (forms_refused c.args.who state c.args.statement.now h.value.journal.events c.in-Ok-Refused.error good gives) k.1 k.2 c.push_run-in-Ok-Refused.ensures.pushes

pub commit_behind-requires-clause-gives : goal.commit_behind-requires-clause-gives
commit_behind-requires-clause-gives g c =
    let state = c.args.state.now.state in
    subst (λ (p : ServerState). form_given c.args.who state (own_operations state) (Ok c.in-Ok-Commits.effect) ≡ changed_form c.args.who state p.journal.events c.args.statement.now) (sym c.forms_now.ensures.ready.2)
    (rw c.in-Ok-Commits.field-0-is at c.in-Ok-Commits.ensures.gives)

pub commit_behind-requires-clause-some : goal.commit_behind-requires-clause-some
commit_behind-requires-clause-some g c = let good = rw c.in-Ok-Commits.field-0-is at c.in-Ok-Commits.ensures.good in good.0

pub commit_behind-requires-clause-good : goal.commit_behind-requires-clause-good
commit_behind-requires-clause-good g c =
    let good = rw c.in-Ok-Commits.field-0-is at c.in-Ok-Commits.ensures.good in
    subst (λ (p : ServerState). MayFollow (own_operations c.args.state.now.state ++ c.in-Ok-Commits.effect.operations) p.database) (sym c.forms_now.ensures.ready.2) good.1

pub returns-in-Ok-Commits-clause-pushes : goal.returns-in-Ok-Commits-clause-pushes
returns-in-Ok-Commits-clause-pushes g c =
    let k = c.forms_now.ensures.ready in
    let n = c.commit_behind in
    answer_one_on c.args.who c.args.held.now c.forms_now.new.held n.new.held (λ (r : ℕ × FormsEnd) journal e. FormsAs c.args.who c.args.state.now.state c.args.statement.now journal e r.1) n.result k.1 k.2 n.ensures.pushes

pub returns-in-Ok-Commits-clause-none : goal.returns-in-Ok-Commits-clause-none
returns-in-Ok-Commits-clause-none g c =
    let k = c.forms_now.ensures.ready in
    let n = c.commit_behind in
    answer_none_on c.args.held.now c.forms_now.new.held n.new.held n.result k.1 k.2 n.ensures.none

pub returns-in-Err-clause-none : goal.returns-in-Err-clause-none
returns-in-Err-clause-none g c = let k = c.forms_now.ensures.ready in none_pushed c.args.who c.args.held.now c.forms_now.new.held k.1 k.0 k.2
