-- What is written through the held map's borrow changes the map at the name.
use Rattle.std.proofs.Common.{refl, ◌∙◌}
use Rattle.qc_table.proofs.Maps.{lookup-named, named, named_in_order, set_value-change, set_value-named}
use Rattle.qc_table.proofs.name_map.NameMap.get_mut.Goals as goal

pub returns : goal.returns
returns g c =
    let es = c.self.inside.held.entries in
    let name = c.args.name.now in
    let ordered = named_in_order (λ k. k.items) es c.get_mut.ensures.ordered in (
      (
        refl,
        λ w.
            let set = set_value-named (λ k. k.items) name es w in
            rw ((c.get_mut.follows.holds w).0, ← c.self.view_is) (set, λ make made. set ∙ set_value-change name (named (λ k. k.items) es) w ordered make made),
        rw (c.get_mut.follows.holds-at-none) c.self.view_is,
      ),
      record {
        writes_back = tt;
        value = rw (c.get_mut.ensures.value, ← c.self.view_is) (lookup-named (λ k. k.items) name es);
      },
    )
