-- The one table of the database has the number, and the others have none.
use Rattle.std.proofs.Common.{◌≡◌, refl, ap, cond, ◌∙◌}
use Rattle.std.specs.Prelude.{bytes_eq}
use Rattle.std.specs.Option.{option_map_or}
use Rattle.std.proofs.lemmas.Result.{on_ok_weaker}
use Rattle.qc_sql.specs.Database.{Name, at_name}
use Rattle.qc_journal.specs.declared.changes.Changes.{Changes}
use Rattle.qc_journal.specs.Indexed.{number_in}
use Rattle.qc_journal.proofs.Maps.{at_name-insert}
use Rattle.qc_journal.proofs.Finding.{found-entered}
use Rattle.qc_journal.proofs.changes.Changes.enter_first.Goals as goal

pub returns-clause-ok : goal.returns-clause-ok
returns-clause-ok c =
    let old = c.args.self.now in
    let new : Changes = record { databases = c.insert.new.self; entered = old.entered } in
    let db = c.args.table.now.db in
    let name = c.args.table.now.name in
    let none : (q : Name) → number_in q c.dropped_at-tables.result ≡ option_map_or (number_in q) (at_name db old.databases) 0 =
    λ q. rw (c.dropped_at-tables.ensures.tables, c.dropped_at-tables.ensures.dropped, c.requires) refl in
    on_ok_weaker c.insert.result (λ made t.
    found-entered old new db c.enter.new.self (λ q. ap (at_name q) (rw c.bytes-2.ensures at made) ∙ at_name-insert q db c.enter.new.self old.databases) t name c.args.number
    (λ q. rw c.bytes.ensures at (c.in_ok-enter.ensures.ok q) ∙ ap (cond (bytes_eq q name) c.args.number) (none q))) c.insert.ensures.ok
