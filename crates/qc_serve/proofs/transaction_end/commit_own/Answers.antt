use Rattle.std.proofs.Common.{ap, ◌∙◌, sym, length, List}
use Rattle.std.specs.Prelude.{◌==◌}
use Rattle.qc_sql.specs.declared.tables.RowOp.{RowOp}
use Rattle.qc_serve.proofs.Endings.{none_pushed, own_committed, own_full, own_may, own_none, some_are}
use Rattle.qc_serve.proofs.transaction_end.commit_own.Goals as goal

pub push_commit-requires-clause-some : goal.push_commit-requires-clause-some
push_commit-requires-clause-some c = some_are c.end-ops.result (ap (λ (os : List RowOp). length os == 0) (sym c.items.ensures) ∙ sym c.is_empty.ensures ∙ c.if-is_empty.false)

pub push_commit-requires-clause-fit : goal.push_commit-requires-clause-fit
push_commit-requires-clause-fit c = (own_may c.args.who c.args.held.now c.args.state.now c.end-ops.result c.requires.ready c.requires.fit c.requires.alone c.end-ops.ensures.own).fit

pub push_commit-requires-clause-small : goal.push_commit-requires-clause-small
push_commit-requires-clause-small c = (own_may c.args.who c.args.held.now c.args.state.now c.end-ops.result c.requires.ready c.requires.fit c.requires.alone c.end-ops.ensures.own).small

pub returns-then-is_empty-clause-pushes : goal.returns-then-is_empty-clause-pushes
returns-then-is_empty-clause-pushes c = own_none c.args.who c.args.held.now c.push_run.new.held c.args.state.now c.end-ops.result c.requires.ready c.requires.alone c.end-ops.ensures.own (ap (λ (os : List RowOp). length os == 0) (sym c.items.ensures) ∙ sym c.is_empty.ensures ∙ c.if-is_empty.true) c.push_run.ensures.pushes

pub returns-in-Ok-clause-pushes : goal.returns-in-Ok-clause-pushes
returns-in-Ok-clause-pushes c = own_committed c.args.who c.args.held.now c.push_commit.new.held c.args.state.now c.end-ops.result c.requires.ready c.requires.alone c.end-ops.ensures.own (ap (λ (os : List RowOp). length os == 0) (sym c.items.ensures) ∙ sym c.is_empty.ensures ∙ c.if-is_empty.false) c.in-Ok.ensures.made c.in-Ok.ensures.pushes

pub returns-in-Err-Other-clause-pushes : goal.returns-in-Err-Other-clause-pushes
returns-in-Err-Other-clause-pushes c =
    let k = c.in-Err-Other.ensures.kept in
    let made = rw c.in-Err-Other.field-0-is at c.in-Err-Other.ensures.made in
    own_full c.args.who c.args.held.now c.push_commit.new.held c.push_run-in-Err-Other.new.held c.args.state.now c.end-ops.result c.in-Err-Other.full.table c.requires.ready c.requires.fit c.requires.alone c.end-ops.ensures.own made k.0 k.2 c.push_run-in-Err-Other.ensures.pushes

pub returns-in-Err-Memory-clause-none : goal.returns-in-Err-Memory-clause-none
returns-in-Err-Memory-clause-none c =
    let k = c.in-Err-Memory.ensures.kept in
    none_pushed c.args.who c.args.held.now c.push_commit.new.held k.0 k.1 k.2
