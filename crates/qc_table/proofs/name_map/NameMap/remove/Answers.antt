-- What is removed among the held keys is removed among their names.
use Rattle.qc_table.proofs.Maps.{remove_entry-named}
use Rattle.qc_table.proofs.name_map.NameMap.remove.Goals as goal

pub returns : goal.returns
returns g c = rw (c.remove.ensures.entries, ← c.self.view_is) (remove_entry-named (λ k. k.items) c.args.name.now c.self.inside.held.entries)
