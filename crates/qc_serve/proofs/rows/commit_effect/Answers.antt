use Rattle.std.proofs.Common.{sym, ap, ◌∙◌, subst, List, length}
use Rattle.std.specs.Prelude.{◌==◌}
use Rattle.qc_sql.specs.declared.tables.RowOp.{RowOp}
use Rattle.qc_sql.specs.Database.{apply}
use Rattle.qc_sql.specs.Effects.{Effect}
use Rattle.qc_statements.specs.Sound.{MayFollow}
use Rattle.qc_statements.proofs.Fitting.{never_refused}
use Rattle.qc_serve.proofs.Changing.{rows_may}
use Rattle.qc_serve.proofs.Endings.{some_are}
use Rattle.qc_serve.proofs.rows.commit_effect.Goals as goal

pub push_commit-requires-clause-some : goal.push_commit-requires-clause-some
push_commit-requires-clause-some c = some_are c.effect.inside.ops (ap (λ (os : List RowOp). length os == 0) (sym c.items.ensures) ∙ sym c.is_empty.ensures ∙ c.if-is_empty.false)

pub push_commit-requires-clause-fit : goal.push_commit-requires-clause-fit
push_commit-requires-clause-fit c =
    let may = rows_may c.args.who c.args.held.now c.args.statement.now c.args.state.now c.args.effect c.requires.ready c.requires.fit c.requires.rows c.requires.short c.requires.closed c.requires.effect in
    (subst (λ (e : Effect). MayFollow e.operations c.args.held.now.value.database) (sym c.effect.view_is) may).fit

pub push_commit-requires-clause-small : goal.push_commit-requires-clause-small
push_commit-requires-clause-small c =
    let may = rows_may c.args.who c.args.held.now c.args.statement.now c.args.state.now c.args.effect c.requires.ready c.requires.fit c.requires.rows c.requires.short c.requires.closed c.requires.effect in
    (subst (λ (e : Effect). MayFollow e.operations c.args.held.now.value.database) (sym c.effect.view_is) may).small

pub unreachable-requires : goal.unreachable-requires
unreachable-requires c =
    let d = c.args.held.now.value.database in
    let may = rows_may c.args.who c.args.held.now c.args.statement.now c.args.state.now c.args.effect c.requires.ready c.requires.fit c.requires.rows c.requires.short c.requires.closed c.requires.effect in
    let its = subst (λ (e : Effect). MayFollow e.operations d) (sym c.effect.view_is) may in
    never_refused (apply c.effect.inside.ops d) _ its.within (rw c.in-Err-Other.field-0-is at c.in-Err-Other.ensures.made)
