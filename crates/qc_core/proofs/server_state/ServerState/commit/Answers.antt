use Rattle.std.proofs.Common.{◌≡◌, List, sym, ap, subst, ◌∙◌, arith, Ok}
use Rattle.std.specs.List.{list_any}
use Rattle.qc_sql.specs.declared.tables.RowOp.{RowOp}
use Rattle.qc_sql.specs.Database.{apply}
use Rattle.qc_table.specs.Fitting.{fitting}
use Rattle.qc_core.specs.declared.server_state.ServerState.{ServerState}
use Rattle.qc_core.specs.Invalidation.{IsCommitted, is_named_by, tables_dropped, TakesOut, with_database}
use Rattle.qc_core.proofs.Committing.{blocks_database, out_spare, out_database, carried_out, commits}
use Rattle.qc_core.proofs.server_state.ServerState.commit.Goals as goal

pub drop_on_tables-requires : goal.drop_on_tables-requires
drop_on_tables-requires c = blocks_database c.change.new.self c.args.self.now c.requires.blocks

pub push-requires : goal.push-requires
push-requires c =
    let s = with_database c.change.new.self c.args.self.now in
    let one = out_spare _ s c.drop_on_tables.new.self c.drop_on_tables.ensures.out in
    let two = out_spare _ c.drop_on_tables.new.self c.drop_named.new.self c.drop_named.ensures.out in
    omega (arith, c.requires.room, one, two)

pub returns-clause-committed : goal.returns-clause-committed
returns-clause-committed c =
    let s = c.args.self.now in
    let x = c.change.new.self in
    let ops = c.in_ok-ops.ops in
    let mid = c.drop_on_tables.new.self in
    let t = c.drop_named.new.self in
    let same : ops ≡ c.args.ops = c.in_ok-ops.ensures in
    let is = c.items-2.ensures ∙ (c.in_ok-dropped.ensures ∙ ap (λ (os : List RowOp). tables_dropped os s.database) (c.items.ensures ∙ sym same)) in
    let made = subst (λ (os : List RowOp). fitting (apply os s.database) ≡ Ok x) c.list.ensures c.in_ok-change.ensures.made in
    let out = subst (λ (os : List RowOp). TakesOut (λ e. list_any (λ o. is_named_by o e) os) mid t) c.items-3.ensures c.drop_named.ensures.out in
    subst (λ (os : List RowOp). IsCommitted c.args.who os s c.push.new.self) same
    (commits c.args.who ops x c.items-2.result.now s mid t c.push.new.self c.requires.tables is (carried_out ops s.database x made).1 c.drop_on_tables.ensures.out out c.push.ensures.pushed)

pub returns-clause-made : goal.returns-clause-made
returns-clause-made c =
    let s = with_database c.change.new.self c.args.self.now in
    let one = out_database _ s c.drop_on_tables.new.self c.drop_on_tables.ensures.out in
    let two = out_database _ c.drop_on_tables.new.self c.drop_named.new.self c.drop_named.ensures.out in
    let same = c.list.ensures ∙ c.in_ok-ops.ensures in
    ap (λ (os : List RowOp). fitting (apply os c.args.self.now.database)) (sym same)
    ∙ (c.in_ok-change.ensures.made ∙ ap Ok (sym (ap (λ (y : ServerState). y.database) c.push.ensures.pushed ∙ (two ∙ one))))
