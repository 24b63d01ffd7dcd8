-- What is inserted among the held keys is inserted among their names.
use Rattle.qc_table.proofs.Maps.{insert_entry-named}
use Rattle.qc_table.proofs.name_map.NameMap.insert.Goals as goal

pub returns-clause-ok : goal.returns-clause-ok
returns-clause-ok g c =
    rw (c.in_ok-insert.ensures.entries, ← c.self.view_is, ← c.in_ok-name.ensures.items)
    (insert_entry-named (λ k. k.items) c.self.inside.held.entries c.in_ok-name.name c.args.value)
