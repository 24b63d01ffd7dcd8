use Rattle.std.proofs.Common.{sym}
use Rattle.std.specs.Prelude.{codes}
use Rattle.qc_sql.specs.Reading.{is_word}
use Rattle.qc_sql.specs.Grammar.{member_at}
use Rattle.qc_sql.specs.Grammar as rule
use Rattle.qc_parse.specs.Cursors.{unread}
use Rattle.qc_parse.specs.Rules.{shortens_member, shortens_all_of}
use Rattle.qc_parse.proofs.Depth.{bracket_opens}
use Rattle.qc_parse.proofs.Loops.{goes_on, leaves_fewer}
use Rattle.qc_parse.proofs.conditions.+conditions.Goals as goal

pub all_of-ands-smaller : goal.all_of-ands-smaller
all_of-ands-smaller t c =
    leaves_fewer (is_word (codes "AND")) (member_at c.args.depth) (shortens_member c.args.depth)
    c.ands.members c.member-in-ands.result c.in_ok-so_far.so_far c.in_ok-so_far.next (unread c.ands.cursor) (unread c.pass.new.self) (unread c.member-in-ands.new.cursor)
    (sym c.ands-test.ensures) c.pass.ensures c.member-in-ands.ensures c.in_ok-so_far.ensures

pub all_of-ands-preserved : goal.all_of-ands-preserved
all_of-ands-preserved t c =
    goes_on (is_word (codes "AND")) (member_at c.args.depth) (shortens_member c.args.depth)
    c.ands.members c.member-in-ands.result c.in_ok-so_far.so_far c.in_ok-so_far.next _ (unread c.ands.cursor) (unread c.pass.new.self) (unread c.member-in-ands.new.cursor) _
    (sym c.ands-test.ensures) c.pass.ensures c.member-in-ands.ensures c.in_ok-so_far.ensures c.in_ok-members-2.ensures c.ands.invariant

pub any_of-ors-smaller : goal.any_of-ors-smaller
any_of-ors-smaller t c =
    leaves_fewer (is_word (codes "OR")) (rule.all_of (member_at c.args.depth)) (shortens_all_of c.args.depth)
    c.ors.members c.all_of-in-ors.result c.in_ok-so_far.so_far c.in_ok-so_far.next (unread c.ors.cursor) (unread c.pass.new.self) (unread c.all_of-in-ors.new.cursor)
    (sym c.ors-test.ensures) c.pass.ensures c.all_of-in-ors.ensures c.in_ok-so_far.ensures

pub any_of-ors-preserved : goal.any_of-ors-preserved
any_of-ors-preserved t c =
    goes_on (is_word (codes "OR")) (rule.all_of (member_at c.args.depth)) (shortens_all_of c.args.depth)
    c.ors.members c.all_of-in-ors.result c.in_ok-so_far.so_far c.in_ok-so_far.next _ (unread c.ors.cursor) (unread c.pass.new.self) (unread c.all_of-in-ors.new.cursor) _
    (sym c.ors-test.ensures) c.pass.ensures c.all_of-in-ors.ensures c.in_ok-so_far.ensures c.in_ok-members-2.ensures c.ors.invariant

pub brackets_or_test-returns : goal.brackets_or_test-returns
brackets_or_test-returns t c = rw (bracket_opens c.args.depth (unread c.args.cursor.now) (sym c.if-not-at_sign.ensures) c.if-depth-eq0.false) c.in_brackets.ensures
