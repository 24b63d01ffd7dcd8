-- Held keys in order have names in order.
use Rattle.qc_table.proofs.Maps.{named_in_order}
use Rattle.qc_table.proofs.name_map.NameMap.is_in_order.Goals as goal

pub returns : goal.returns
returns g c = rw (← c.self.view_is) (named_in_order (λ k. k.items) c.self.inside.held.entries c.len.ensures.ordered)
