-- Another event than a commit writes nothing.
use Rattle.std.proofs.Common.{◌≡◌, sym, ap, rules, []}
use Rattle.qc_model.specs.Journal.{operations}
use Rattle.qc_trx.specs.Writes.{by_commit}
use Rattle.qc_trx.proofs.Meets.{none_met}
use Rattle.qc_trx.proofs.conflict.conflict_with.Goals as goal

pub returns-in_default : goal.returns-in_default
returns-in_default c =
    let quiet : operations c.args.event.now ≡ [] = search rules in
    rw quiet (sym (ap (by_commit c.args.number) (none_met c.args.writes.now)))
