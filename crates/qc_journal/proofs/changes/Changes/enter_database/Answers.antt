-- All tables of the database have the number.
use Rattle.std.proofs.Common.{refl, ap, ◌∙◌}
use Rattle.std.proofs.lemmas.Result.{on_ok_weaker}
use Rattle.qc_sql.specs.Database.{at_name}
use Rattle.qc_journal.specs.declared.changes.Changes.{Changes}
use Rattle.qc_journal.proofs.Maps.{at_name-insert}
use Rattle.qc_journal.proofs.Finding.{found-dropped}
use Rattle.qc_journal.proofs.changes.Changes.enter_database.Goals as goal

pub returns-clause-ok : goal.returns-clause-ok
returns-clause-ok c =
    let old = c.args.self.now in
    let new : Changes = record { databases = c.insert.new.self; entered = old.entered } in
    let tables = c.dropped_at.result in
    on_ok_weaker c.insert.result (λ made t.
    found-dropped old new c.args.name.now tables (λ q. ap (at_name q) made ∙ at_name-insert q c.args.name.now tables old.databases) t c.args.number
    (λ q. rw (c.dropped_at.ensures.tables, c.dropped_at.ensures.dropped) refl)) c.insert.ensures.ok
