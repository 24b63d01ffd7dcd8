-- The site is the one that is asked for.
use Rattle.std.proofs.Common.{◌∙◌, ap}
use Rattle.qc_trx.specs.Sites.{Scope, is_in}
use Rattle.qc_trx.specs.Writes.{first_own}
use Rattle.qc_trx.proofs.writes.Writes.first_of_table.Goals as goal

pub returns : goal.returns
returns c = c.first_at.ensures ∙ ap (λ (p : Scope). first_own (is_in p) c.args.self.now) c.in_ok-site.ensures
