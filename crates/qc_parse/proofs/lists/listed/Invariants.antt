use Rattle.std.proofs.Common.{◌≡◌, length}
use Rattle.qc_sql.specs.Reading.{listed}
use Rattle.qc_parse.specs.Cursors.{unread}
use Rattle.qc_parse.proofs.Loops.{comma, and_further}
use Rattle.qc_parse.proofs.lists.listed.Given as goal

abbrev pub invariant-commas : goal.invariant-commas
invariant-commas g l = and_further comma g.T.Member.rule g.T.Member.shortens l.members (unread l.cursor) ≡ listed g.T.Member.rule (unread l.fn.cursor)

abbrev pub decreases-commas : goal.decreases-commas
decreases-commas g l = length (unread l.cursor).tokens
