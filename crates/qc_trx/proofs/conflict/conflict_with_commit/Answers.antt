-- The first row that is met is the one of the conflict.
use Rattle.std.proofs.Common.{◌≡◌, ◌∙◌, sym, ap}
use Rattle.std.specs.Prelude.{None, Some, option_copied, option_map}
use Rattle.qc_trx.specs.Writes.{by_commit, is_met, row_there, told, written_on}
use Rattle.qc_trx.proofs.Meets.{first_is}
use Rattle.qc_trx.proofs.conflict.conflict_with_commit.Goals as goal

pub returns-in-None : goal.returns-in-None
returns-in-None c =
    let theirs = written_on c.args.ops.now c.args.origin.now in
    let none : row_there (is_met theirs) c.args.writes.now ≡ None = sym c.in_ok-first_met_row.ensures ∙ ap option_copied c.in-None.is in
    sym (ap (by_commit c.args.number) (first_is c.args.writes.now theirs ∙ ap (option_map (told theirs)) none))

pub returns-in_ok-conflict_at-in-Some : goal.returns-in_ok-conflict_at-in-Some
returns-in_ok-conflict_at-in-Some c =
    let theirs = written_on c.args.ops.now c.args.origin.now in
    let some : row_there (is_met theirs) c.args.writes.now ≡ Some c.in-Some.row.now = sym c.in_ok-first_met_row.ensures ∙ ap option_copied c.in-Some.is in
    c.in_ok-conflict_at-in-Some.ensures c.args.origin.now ∙ sym (ap (by_commit c.args.number) (first_is c.args.writes.now theirs ∙ ap (option_map (told theirs)) some))
