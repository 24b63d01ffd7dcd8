-- What enters a table among those of its database enters it in the whole.
use Rattle.std.proofs.Common.{ap, cond, sym, ◌∙◌}
use Rattle.std.specs.Prelude.{bytes_eq, is_some}
use Rattle.std.specs.BTreeMap.{is_at}
use Rattle.std.specs.Map.{set_value}
use Rattle.std.specs.Option.{option_map_or}
use Rattle.std.proofs.lemmas.Map.Steps.{set_value_same}
use Rattle.std.proofs.lemmas.Result.{on_ok_weaker, on_err_weaker}
use Rattle.qc_sql.specs.Database.{at_name, name_cmp}
use Rattle.qc_journal.specs.declared.changes.Changes.{Changes}
use Rattle.qc_journal.specs.Indexed.{number_in}
use Rattle.qc_journal.proofs.Maps.{at_name-set}
use Rattle.qc_journal.proofs.Finding.{found-entered}
use Rattle.qc_journal.proofs.changes.Changes.enter_table.Goals as goal

pub returns-in-Some-clause-ok : goal.returns-in-Some-clause-ok
returns-in-Some-clause-ok c =
    let old = c.args.self.now in
    let tables = c.enter.new.self in
    let new : Changes = record { databases = c.get_mut.follows.lender tables; entered = old.entered } in
    let db = c.args.table.now.db in
    let name = c.args.table.now.name in
    let ends = rw c.bytes.ensures at (c.get_mut.follows.holds tables).0 in
    let there = rw c.bytes.ensures at c.in-Some.ensures.value in
    on_ok_weaker c.enter.result (λ entered t.
    found-entered old new db tables (λ q. ap (at_name q) ends ∙ at_name-set q db tables old.databases (sym (ap is_some there))) t name c.args.number
    (λ q. rw c.bytes-in-Some.ensures at (entered q) ∙ ap (λ o. cond (bytes_eq q name) c.args.number (option_map_or (number_in q) o 0)) there)) c.enter.ensures.ok

pub returns-in-Some-clause-err : goal.returns-in-Some-clause-err
returns-in-Some-clause-err c =
    let old = c.args.self.now in
    let db = c.args.table.now.db in
    let ends = rw c.bytes.ensures at (c.get_mut.follows.holds c.enter.new.self).0 in
    let there = rw c.bytes.ensures at c.in-Some.ensures.value in
    on_err_weaker c.enter.result (λ same.
    ap (λ m. let r : Changes = record { databases = m; entered = old.entered } in r)
    (ends ∙ (ap (set_value (is_at (name_cmp db)) old.databases) same ∙ set_value_same (is_at (name_cmp db)) old.databases c.in-Some.tables.now (sym there)))) c.enter.ensures.err
