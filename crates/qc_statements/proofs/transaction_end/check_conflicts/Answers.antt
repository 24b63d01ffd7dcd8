use Rattle.std.proofs.Common.{List, subst}
use Rattle.qc_sql.specs.declared.tables.RowOp.{RowOp}
use Rattle.qc_model.specs.Journal.{present}
use Rattle.qc_statements.specs.Ends.{MayTry}
use Rattle.qc_statements.proofs.Endings.{ends_with, own_tries, when_ends, when_meets}
use Rattle.qc_statements.proofs.States.{stands_in}
use Rattle.qc_statements.proofs.transaction_end.check_conflicts.Goals as goal

pub finish-requires : goal.finish-requires
finish-requires c = stands_in c.args.journal.now.events c.args.state.now c.requires.fit

pub returns-clause-good : goal.returns-clause-good
returns-clause-good c =
    let J = c.args.journal.now.events in
    let x = c.args.state.now in
    when_ends (λ ops. ops.now) (λ os. MayTry os (present J)) J x.state c.finish.result
    (λ ops is. let ends = ends_with J x.state ops is in subst (λ (os : List RowOp). MayTry os (present J)) ends.1 (own_tries J x c.requires.sound.1 c.requires.fit ends.0)) c.finish.ensures.gives

pub returns-clause-commit : goal.returns-clause-commit
returns-clause-commit c = when_meets (λ ops. ops.now) c.args.journal.now.events c.args.state.now.state c.finish.result c.finish.ensures.gives
