use Rattle.std.proofs.Common.{◌≡◌, ◌<◌, ◌++◌, List, length, Ok, sym, ap, ◌∙◌, subst}
use Rattle.qc_sql.specs.declared.tables.RowOp.{RowOp}
use Rattle.qc_sql.specs.Database.{apply}
use Rattle.qc_sql.specs.Effects.{Effect}
use Rattle.qc_model.specs.Machine.{changed_form, form_given}
use Rattle.qc_model.specs.Session.{own_operations}
use Rattle.qc_statements.specs.Sound.{MayFollow}
use Rattle.qc_statements.proofs.Fitting.{never_refused}
use Rattle.qc_serve.proofs.Changing.{forms_pushed, more_some}
use Rattle.qc_serve.proofs.schema.commit_behind.Goals.{in-Ok, in-Err-Memory}
use Rattle.qc_serve.proofs.schema.commit_behind.Goals as goal

pub push_commit-requires-clause-some : goal.push_commit-requires-clause-some
push_commit-requires-clause-some c =
    let ops : c.append.new.self ≡ own_operations c.args.state.now.state ++ c.args.effect.operations = c.in_ok-append.ensures.ok ∙ (λ i. c.end-ops.ensures.own i ++ (c.effect.view_is i).operations) in
    subst (λ (os : List RowOp). 0 < length os) (sym ops) (more_some (own_operations c.args.state.now.state) c.args.effect.operations c.requires.some)

pub push_commit-requires-clause-fit : goal.push_commit-requires-clause-fit
push_commit-requires-clause-fit c =
    let ops : c.append.new.self ≡ own_operations c.args.state.now.state ++ c.args.effect.operations = c.in_ok-append.ensures.ok ∙ (λ i. c.end-ops.ensures.own i ++ (c.effect.view_is i).operations) in
    (subst (λ (os : List RowOp). MayFollow os c.args.held.now.value.database) (sym ops) c.requires.good).fit

pub push_commit-requires-clause-small : goal.push_commit-requires-clause-small
push_commit-requires-clause-small c =
    let ops : c.append.new.self ≡ own_operations c.args.state.now.state ++ c.args.effect.operations = c.in_ok-append.ensures.ok ∙ (λ i. c.end-ops.ensures.own i ++ (c.effect.view_is i).operations) in
    (subst (λ (os : List RowOp). MayFollow os c.args.held.now.value.database) (sym ops) c.requires.good).small

pub returns-clause-pushes : goal.returns-clause-pushes
returns-clause-pushes c =
    let state = c.args.state.now.state in
    let its : Effect = record { operations = c.effect.inside.ops; affected = c.effect.inside.affected } in
    let ops : c.append.new.self ≡ own_operations state ++ c.effect.inside.ops = c.in_ok-append.ensures.ok ∙ ap (λ (os : List RowOp). os ++ c.effect.inside.ops) c.end-ops.ensures.own in
    let gives = subst (λ (e : Effect). form_given c.args.who state (own_operations state) (Ok e) ≡ changed_form c.args.who state c.args.held.now.value.journal.events c.args.statement.now) (sym c.effect.view_is) c.requires.gives in
    elim c.match-push_commit.branch [
      | in-Ok w ↦ rw w.result-is (forms_pushed c.args.who c.args.held.now c.push_commit.new.held state c.args.statement.now its c.append.new.self ops gives w.in-Ok.ensures.pushes)
      | in-Err-Memory w ↦ rw w.result-is tt
    ]

pub unreachable-requires : goal.unreachable-requires
unreachable-requires c =
    let ops : c.append.new.self ≡ own_operations c.args.state.now.state ++ c.args.effect.operations = c.in_ok-append.ensures.ok ∙ (λ i. c.end-ops.ensures.own i ++ (c.effect.view_is i).operations) in
    let its = subst (λ (os : List RowOp). MayFollow os c.args.held.now.value.database) (sym ops) c.requires.good in
    never_refused (apply c.append.new.self c.args.held.now.value.database) _ its.within (rw c.in-Err-Other.field-0-is at c.in-Err-Other.ensures.made)
