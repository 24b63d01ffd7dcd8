-- The table has the number, be it the first or not.
use Rattle.std.proofs.Common.{refl, ap, sym, ◌∙◌}
use Rattle.std.specs.Prelude.{is_some}
use Rattle.std.specs.BTreeMap.{insert_entry}
use Rattle.std.proofs.lemmas.Result.{on_ok_weaker}
use Rattle.qc_sql.specs.Database.{at_name, name_cmp}
use Rattle.qc_journal.specs.declared.changes.InDatabase.{InDatabase}
use Rattle.qc_journal.proofs.Maps.{at_name-insert, at_name-set}
use Rattle.qc_journal.proofs.Finding.{number_in-entered}
use Rattle.qc_journal.proofs.changes.InDatabase.enter.Goals as goal

pub returns-in-Some-clause-ok : goal.returns-in-Some-clause-ok
returns-in-Some-clause-ok c =
    let old = c.args.self.now in
    let new : InDatabase = record { dropped = old.dropped; tables = c.get_mut.follows.lender c.args.number } in
    λ q.
    number_in-entered q c.args.name.now c.args.number old new refl
    (ap (at_name q) (c.get_mut.follows.holds c.args.number).0 ∙ at_name-set q c.args.name.now c.args.number old.tables (sym (ap is_some c.in-Some.ensures.value)))

pub returns-in-None-clause-ok : goal.returns-in-None-clause-ok
returns-in-None-clause-ok c =
    let old = c.args.self.now in
    let new : InDatabase = record { dropped = old.dropped; tables = c.insert.new.self } in
    on_ok_weaker c.insert.result (λ made q.
    number_in-entered q c.args.name.now c.args.number old new refl
    (ap (at_name q) (made ∙ ap (λ m. insert_entry name_cmp m c.args.name.now c.args.number) c.get_mut.follows.holds-at-none) ∙ at_name-insert q c.args.name.now c.args.number old.tables)) c.insert.ensures.ok
