use Rattle.std.proofs.Common.{◌∙◌, sym}
use Rattle.qc_dir.proofs.KeyCounts.{any-yes, any-no}
use Rattle.qc_dir.proofs.dir.has_number.Goals as goal

pub returns-clause-yes : goal.returns-clause-yes
returns-clause-yes c = λ e. any-yes c.args.number c.args.named.now.keys c.any_under.result (rw c.from.ensures at c.any_under.ensures) (sym c.is_some.ensures ∙ e)

pub returns-clause-no : goal.returns-clause-no
returns-clause-no c = λ e. any-no c.args.number c.args.named.now.keys c.any_under.result (rw c.from.ensures at c.any_under.ensures) (sym c.is_some.ensures ∙ e)
