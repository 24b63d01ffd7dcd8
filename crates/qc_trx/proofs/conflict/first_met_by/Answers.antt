-- What makes a database meets no row.
use Rattle.std.proofs.Common.{sym, refl, []}
use Rattle.qc_trx.specs.Writes.{is_met}
use Rattle.qc_trx.proofs.Meets.{first_own_none}
use Rattle.qc_trx.proofs.conflict.first_met_by.Goals as goal

pub returns-in-CreateDb : goal.returns-in-CreateDb
returns-in-CreateDb c = rw c.in-CreateDb.is (sym (first_own_none (is_met []) c.args.writes.now (λ r. refl)))
