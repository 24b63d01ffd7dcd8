-- The site is the one that is asked for.
use Rattle.std.proofs.Common.{ℤ, ◌∙◌, ap, w64, rules}
use mir.Val.{SFits}
use Rattle.std.proofs.lemmas.Int.{to_z-of_z}
use Rattle.qc_trx.specs.Sites.{Scope, is_in}
use Rattle.qc_trx.specs.Writes.{first_own, is_row_of}
use Rattle.qc_trx.proofs.writes.Writes.first_of_row.Goals as goal

pub returns : goal.returns
returns c =
    let fits : SFits w64 c.args.key = search rules in
    c.first_at.ensures
    ∙ (ap (λ (p : Scope). first_own (is_in p) c.args.self.now) c.in_ok-site.ensures
    ∙ ap (λ (k : ℤ). first_own (is_row_of c.args.table.now k) c.args.self.now) (to_z-of_z w64 c.args.key fits))
