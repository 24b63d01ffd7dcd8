-- The site has the number, and no other site changes.
use Rattle.std.proofs.Common.{◌∙◌, sym, ap}
use Rattle.std.specs.Prelude.{is_some}
use Rattle.qc_trx.proofs.Index.{enters_has, enters_index, enters_keeps, found_at, updated}
use Rattle.qc_trx.proofs.sites.enter_site.Goals as goal

pub returns-clause-index : goal.returns-clause-index
returns-clause-index c =
    let old = c.args.firsts.now.entries in
    let new = c.insert.new.self.entries in
    let site = c.args.site in
    let says = updated old new c.args.number site (λ q. c.in_ok-insert.ensures.updates.0 q) in
    let fresh = ap is_some (sym (found_at site old)) ∙ (sym c.contains_key.ensures ∙ c.if-contains_key.false) in
    enters_index old new c.args.number c.args.rows.now site says c.args.row.now c.requires.at c.requires.of fresh c.requires.index

pub returns-clause-has : goal.returns-clause-has
returns-clause-has c =
    let old = c.args.firsts.now.entries in
    let new = c.insert.new.self.entries in
    let says = updated old new c.args.number c.args.site (λ q. c.in_ok-insert.ensures.updates.0 q) in
    enters_has old new c.args.number c.args.rows.now c.args.site says

pub returns-clause-keeps : goal.returns-clause-keeps
returns-clause-keeps c =
    let old = c.args.firsts.now.entries in
    let new = c.insert.new.self.entries in
    let says = updated old new c.args.number c.args.site (λ q. c.in_ok-insert.ensures.updates.0 q) in
    enters_keeps old new c.args.number c.args.rows.now c.args.site says

pub returns-then-contains_key-clause-has : goal.returns-then-contains_key-clause-has
returns-then-contains_key-clause-has c =
    ap is_some (sym (found_at c.args.site c.args.firsts.now.entries)) ∙ (sym c.contains_key.ensures ∙ c.if-contains_key.true)
