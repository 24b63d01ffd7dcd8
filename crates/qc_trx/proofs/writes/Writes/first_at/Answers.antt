-- What is entered is the first, and else the first is among those that are not.
use Rattle.std.proofs.Common.{◌≡◌, ◌∙◌, sym, ap, Some, None}
use Rattle.qc_sql.specs.Words.{◌or_else◌}
use Rattle.qc_trx.specs.Sites.{at_site, first_from}
use Rattle.qc_trx.proofs.Index.{found_at}
use Rattle.qc_trx.proofs.writes.Writes.first_at.Goals as goal

pub returns-in-Some : goal.returns-in-Some
returns-in-Some c =
    let site = c.args.site.now in
    let w = c.self.inside in
    let at : at_site site w.firsts.entries ≡ Some c.in-Some.number = sym (found_at site w.firsts.entries) ∙ (sym (c.copied.ensures ∙ c.get.ensures.value) ∙ c.in-Some.is) in
    rw (← c.self.view_is) (sym (ap (λ o. o or_else first_from site w.entered w.rows.items) at) ∙ c.self.invariant.finds site)

pub returns-in-None : goal.returns-in-None
returns-in-None c =
    let site = c.args.site.now in
    let w = c.self.inside in
    let at : at_site site w.firsts.entries ≡ None = sym (found_at site w.firsts.entries) ∙ (sym (c.copied.ensures ∙ c.get.ensures.value) ∙ c.in-None.is) in
    let behind = rw c.as_slice.ensures.value at c.first_from.ensures in
    behind ∙ rw (← c.self.view_is) (sym (ap (λ o. o or_else first_from site w.entered w.rows.items) at) ∙ c.self.invariant.finds site)
