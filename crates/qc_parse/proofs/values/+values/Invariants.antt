use Rattle.std.proofs.Common.{◌≡◌, ◌+◌, ◌*◌, length}
use Rattle.qc_sql.specs.Reading.{listed}
use Rattle.qc_sql.specs.Grammar.{value_at}
use Rattle.qc_parse.specs.Cursors.{unread}
use Rattle.qc_parse.proofs.Loops.{comma, and_further}
use Rattle.qc_parse.specs.Rules.{shortens_value}
use Rattle.qc_parse.proofs.values.+values.Given as goal

abbrev pub decreases-value : goal.decreases-value
decreases-value l = 5 * l.depth + 1

abbrev pub decreases-call : goal.decreases-call
decreases-call l = 5 * l.depth

abbrev pub decreases-call_behind : goal.decreases-call_behind
decreases-call_behind l = 5 * l.depth + 4

abbrev pub decreases-arguments : goal.decreases-arguments
decreases-arguments l = 5 * l.depth + 3

abbrev pub decreases-concat : goal.decreases-concat
decreases-concat l = 5 * l.depth + 3

abbrev pub decreases-count : goal.decreases-count
decreases-count l = 5 * l.depth + 3

abbrev pub decreases-length : goal.decreases-length
decreases-length l = 5 * l.depth + 3

abbrev pub decreases-values : goal.decreases-values
decreases-values l = 5 * l.depth + 2

abbrev pub invariant-values-commas : goal.invariant-values-commas
invariant-values-commas l =
    let rule = value_at l.depth l.aggregates in
    and_further comma rule (shortens_value l.depth l.aggregates) l.values (unread l.cursor) ≡ listed rule (unread l.fn.cursor)

abbrev pub decreases-values-commas : goal.decreases-values-commas
decreases-values-commas l = length (unread l.cursor).tokens
