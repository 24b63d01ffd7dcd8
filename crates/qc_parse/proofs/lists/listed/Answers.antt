use Rattle.std.proofs.Common.{sym}
use Rattle.qc_parse.specs.Cursors.{unread}
use Rattle.qc_parse.proofs.Loops.{comma, goes_on, leaves_fewer}
use Rattle.qc_parse.proofs.lists.listed.Goals as goal

pub commas-smaller : goal.commas-smaller
commas-smaller g c =
    leaves_fewer comma g.T.Member.rule g.T.Member.shortens
    c.commas.members c.read-in-commas.result c.in_ok-so_far.so_far c.in_ok-so_far.next (unread c.commas.cursor) (unread c.pass.new.self) (unread c.read-in-commas.new.cursor)
    (sym c.commas-test.ensures) c.pass.ensures c.read-in-commas.ensures c.in_ok-so_far.ensures

pub commas-preserved : goal.commas-preserved
commas-preserved g c =
    goes_on comma g.T.Member.rule g.T.Member.shortens
    c.commas.members c.read-in-commas.result c.in_ok-so_far.so_far c.in_ok-so_far.next _ (unread c.commas.cursor) (unread c.pass.new.self) (unread c.read-in-commas.new.cursor) _
    (sym c.commas-test.ensures) c.pass.ensures c.read-in-commas.ensures c.in_ok-so_far.ensures c.in_ok-members-2.ensures c.commas.invariant
