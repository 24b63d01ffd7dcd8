use Rattle.std.proofs.Common.{◌≡◌, ◌<◌, ◌++◌, ◌∷◌, [], ap, length, set, arith, Some}
use Rattle.std.specs.List.{filter_map}
use Rattle.qc_dir.specs.Blocks.{places_of}
use Rattle.qc_dir.proofs.Places.{pushed, stay_in_place, members_at, length_more}
use Rattle.qc_dir.proofs.tables.TableBlocks.push.Goals as goal

pub invariant_of-self : goal.invariant_of-self
invariant_of-self c =
    let ps = c.self.inside.places in
    let ms = filter_map (λ x. x) ps in
    let few : c.self.inside.count < 8 = omega (arith, c.self.invariant.1, ap length c.self.view_is, c.requires) in
    let made : set ps c.self.inside.count (Some c.args.item) ≡ places_of (ms ++ c.args.item ∷ []) = pushed ps c.self.inside.count c.args.item c.self.invariant.0 c.self.invariant.1 few in
    stay_in_place (ms ++ c.args.item ∷ []) (set ps c.self.inside.count (Some c.args.item)) _ made (omega (arith, c.self.invariant.1, length_more ms c.args.item)) (omega arith)

pub returns : goal.returns
returns c =
    let ps = c.self.inside.places in
    let ms = filter_map (λ x. x) ps in
    let few : c.self.inside.count < 8 = omega (arith, c.self.invariant.1, ap length c.self.view_is, c.requires) in
    let made : set ps c.self.inside.count (Some c.args.item) ≡ places_of (ms ++ c.args.item ∷ []) = pushed ps c.self.inside.count c.args.item c.self.invariant.0 c.self.invariant.1 few in
    rw (← c.self.view_is) (members_at (ms ++ c.args.item ∷ []) (set ps c.self.inside.count (Some c.args.item)) made)
