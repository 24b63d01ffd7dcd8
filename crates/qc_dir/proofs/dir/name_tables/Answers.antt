use Rattle.std.proofs.Common.{◌+◌, ◌<◌, ◌∙◌, ap, sym, drop, arith}
use Rattle.qc_types.specs.declared.names.TableName.{TableName}
use Rattle.qc_dir.specs.Indexed.{holding, named_times}
use Rattle.qc_dir.proofs.DirSteps.{number_some}
use Rattle.qc_dir.proofs.Insertions.{drop_step, drop_all, each_at, named_times-cons, named_times-none}
use Rattle.qc_dir.proofs.dir.name_tables.Goals as goal

pub find-requires : goal.find-requires
find-requires c = c.requires.once c.table-item.result

pub unreachable-requires : goal.unreachable-requires
unreachable-requires c =
    let some = each_at (λ (t : TableName). 0 < holding t c.args.tables.now.held) c.args.names.now c.loop-table.table-index c.table-item.result c.loop-table-test.true c.table-item.is c.requires.held in
    let number = number_some c.table-item.result c.args.tables.now.held some in
    c.in_default.not-Some number.0 (c.find.ensures.number ∙ number.1)

pub loop-table-preserved : goal.loop-table-preserved
loop-table-preserved c =
    let held = c.args.tables.now.held in
    let names = c.args.names.now in
    let l = c.loop-table in
    let next = drop_step names l.table-index c.table-item.result c.loop-table-test.true c.table-item.is in
    record {
      keys = λ k. omega (
        arith,
        rw c.from.ensures at (c.insert.ensures.keys k),
        l.invariant.keys k,
        ap (λ xs. named_times k held c.args.serial xs) next,
        named_times-cons k c.in-Some.number c.args.serial held c.table-item.result (drop (l.table-index + 1) names) (c.requires.once c.table-item.result) (sym (c.in-Some.ensures {u = tt}).number),
      );
      room = omega (arith, c.insert.ensures.room, l.invariant.room);
    }

pub returns : goal.returns
returns c =
    let held = c.args.tables.now.held in
    let names = c.args.names.now in
    let l = c.loop-table in
    record {
      keys = λ k. omega (arith, l.invariant.keys k, ap (λ xs. named_times k held c.args.serial xs) (drop_all names l.table-index c.loop-table-test.false), named_times-none k c.args.serial held);
      room = omega (arith, l.invariant.room, l.auto.table-index-end, c.loop-table-test.false);
    }
