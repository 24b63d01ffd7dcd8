-- With its three sites the row is entered.
use Rattle.std.proofs.Common.{ℤ, ◌∙◌, ap, w64, rules}
use mir.Val.{SFits}
use Rattle.std.proofs.lemmas.Int.{to_z-of_z}
use Rattle.std.proofs.lemmas.Result.{on_ok_weaker}
use Rattle.qc_trx.specs.Sites.{OfRow}
use Rattle.qc_trx.proofs.Index.{passes_row}
use Rattle.qc_trx.proofs.sites.enter_row.Goals as goal

pub returns-clause-ok : goal.returns-clause-ok
returns-clause-ok c =
    let database = c.in_ok-database.database in
    let table = c.in_ok-table.table in
    let one = c.in_ok-one.one in
    let row = c.args.row.now in
    let fits : SFits w64 row.key = search rules in
    on_ok_weaker c.enter_site-3.result (λ third.
    passes_row c.enter_site-3.new.firsts.entries c.args.number c.args.rows.now row database table one c.requires.at c.enter_site-3.ensures.index
    (rw c.bytes.ensures at c.in_ok-database.ensures)
    c.in_ok-table.ensures
    (c.in_ok-one.ensures ∙ ap (λ (k : ℤ). OfRow row.table k) (to_z-of_z w64 row.key fits))
    (c.enter_site-3.ensures.keeps database (c.in_ok-enter_site-2.ensures.keeps database c.in_ok-enter_site.ensures.has))
    (c.enter_site-3.ensures.keeps table c.in_ok-enter_site-2.ensures.has)
    third) c.enter_site-3.ensures.has
