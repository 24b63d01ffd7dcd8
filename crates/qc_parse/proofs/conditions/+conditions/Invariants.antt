use Rattle.std.proofs.Common.{◌≡◌, ◌+◌, ◌*◌, length}
use Rattle.std.specs.Prelude.{codes}
use Rattle.qc_sql.specs.Reading.{separated, is_word, at_word, word}
use Rattle.qc_sql.specs.Grammar.{member_at}
use Rattle.qc_sql.specs.Grammar as rule
use Rattle.qc_parse.specs.Cursors.{unread}
use Rattle.qc_parse.specs.Rules.{shortens_member, shortens_all_of}
use Rattle.qc_parse.proofs.Loops.{and_further}
use Rattle.qc_parse.proofs.conditions.+conditions.Given as goal

abbrev pub decreases-member : goal.decreases-member
decreases-member l = 6 * l.depth + 2

abbrev pub decreases-without_not : goal.decreases-without_not
decreases-without_not l = 6 * l.depth + 1

abbrev pub decreases-brackets_or_test : goal.decreases-brackets_or_test
decreases-brackets_or_test l = 6 * l.depth

abbrev pub decreases-in_brackets : goal.decreases-in_brackets
decreases-in_brackets l = 6 * l.depth + 5

abbrev pub decreases-any_of : goal.decreases-any_of
decreases-any_of l = 6 * l.depth + 4

abbrev pub decreases-all_of : goal.decreases-all_of
decreases-all_of l = 6 * l.depth + 3

abbrev pub invariant-all_of-ands : goal.invariant-all_of-ands
invariant-all_of-ands l =
    let test = is_word (codes "AND") in
    let member = member_at l.depth in
    and_further test member (shortens_member l.depth) l.members (unread l.cursor)
    ≡ separated (at_word (codes "AND")) (word (codes "AND")) member (unread l.fn.cursor)

abbrev pub decreases-all_of-ands : goal.decreases-all_of-ands
decreases-all_of-ands l = length (unread l.cursor).tokens

abbrev pub invariant-any_of-ors : goal.invariant-any_of-ors
invariant-any_of-ors l =
    let test = is_word (codes "OR") in
    let member = rule.all_of (member_at l.depth) in
    and_further test member (shortens_all_of l.depth) l.members (unread l.cursor)
    ≡ separated (at_word (codes "OR")) (word (codes "OR")) member (unread l.fn.cursor)

abbrev pub decreases-any_of-ors : goal.decreases-any_of-ors
decreases-any_of-ors l = length (unread l.cursor).tokens
