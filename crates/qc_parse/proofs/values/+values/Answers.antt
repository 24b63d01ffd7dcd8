use Rattle.std.proofs.Common.{sym}
use Rattle.qc_sql.specs.Grammar.{value_at}
use Rattle.qc_parse.specs.Cursors.{unread}
use Rattle.qc_parse.proofs.Loops.{comma, goes_on, leaves_fewer}
use Rattle.qc_parse.specs.Rules.{shortens_value}
use Rattle.qc_parse.proofs.values.+values.Goals as goal

pub values-commas-smaller : goal.values-commas-smaller
values-commas-smaller t c =
    leaves_fewer comma (value_at c.args.depth c.args.aggregates) (shortens_value c.args.depth c.args.aggregates)
    c.commas.values c.value-in-commas.result c.in_ok-so_far.so_far c.in_ok-so_far.next (unread c.commas.cursor) (unread c.pass.new.self) (unread c.value-in-commas.new.cursor)
    (sym c.commas-test.ensures) c.pass.ensures c.value-in-commas.ensures c.in_ok-so_far.ensures

pub values-commas-preserved : goal.values-commas-preserved
values-commas-preserved t c =
    goes_on comma (value_at c.args.depth c.args.aggregates) (shortens_value c.args.depth c.args.aggregates)
    c.commas.values c.value-in-commas.result c.in_ok-so_far.so_far c.in_ok-so_far.next _ (unread c.commas.cursor) (unread c.pass.new.self) (unread c.value-in-commas.new.cursor) _
    (sym c.commas-test.ensures) c.pass.ensures c.value-in-commas.ensures c.in_ok-so_far.ensures c.in_ok-values-2.ensures c.commas.invariant
