-- What is held at a key is what its name has.
use Rattle.qc_table.proofs.Maps.{lookup-named}
use Rattle.qc_table.proofs.name_map.NameMap.get.Goals as goal

pub returns : goal.returns
returns g c = rw (c.get.ensures.value, ← c.self.view_is) (lookup-named (λ k. k.items) c.args.name.now c.self.inside.held.entries)
