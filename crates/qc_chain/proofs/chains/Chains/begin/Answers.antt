use Rattle.std.proofs.Common.{◌≡◌, ◌++◌, ◌∷◌, [], ◌∙◌, arith, refl, Some, None, subst}
use Rattle.std.specs.Prelude.{slice_get}
use Rattle.std.specs.Vec.{vec_capacity}
use Rattle.std.proofs.lemmas.Option.{slice_get_within}
use Rattle.qc_chain.specs.Stored.{lengths_of, IsStored}
use Rattle.qc_chain.proofs.Views.{free_name, chains_get}
use Rattle.qc_chain.proofs.Calls.{begins}
use Rattle.qc_chain.proofs.FreeNames.{some-free, none-left, name-there, count-last}
use Rattle.qc_chain.proofs.Stores.{free_extent, empty_extent, no_length, lengths_set, begin_stored}
use Rattle.qc_chain.proofs.chains.Chains.begin.Goals.{In-Some}
use Rattle.qc_chain.proofs.chains.Chains.begin.Goals as goal

stored : (c : In-Some) → IsStored c.self.inside.extents.items (c.pop.new.self.items ++ c.in-Some.number ∷ []) (vec_capacity c.self.inside.free) c.self.inside.blocks
stored c =
    let s = c.self.inside in
    subst (λ free. IsStored s.extents.items free (vec_capacity s.free) s.blocks) (c.in-Some.ensures {u = tt}).items c.self.invariant

there : (c : In-Some) → slice_get c.self.inside.extents.items c.in-Some.number ≡ Some None
there c = name-there c.self.inside.extents.items (c.pop.new.self.items ++ c.in-Some.number ∷ []) c.in-Some.number (stored c).names (count-last c.in-Some.number c.pop.new.self.items)

pub unreachable-requires : goal.unreachable-requires
unreachable-requires c =
    let s = c.self.inside in
    some-free s.extents.items s.free.items c.self.invariant.names (free_extent s.extents.items (free_name (lengths_of s.extents.items) s.blocks.lists (rw (← c.self.view_is) at c.requires))) (none-left s.free.items (omega (arith, (c.in_default.ensures {u = tt}).cases.0, s.free.ok.0)))

pub index_mut-requires : goal.index_mut-requires
index_mut-requires c = omega (arith, slice_get_within c.self.inside.extents.items c.in-Some.number None (there (goal.at.index_mut-requires c).In-Some), c.self.inside.extents.ok.0)

pub invariant_of-self : goal.invariant_of-self
invariant_of-self c =
    let s = c.self.inside in
    rw c.pop.ensures.capacity (begin_stored c.in-Some.number (vec_capacity s.free) s.extents.items c.pop.new.self.items s.blocks (stored (goal.at.invariant_of-self c).In-Some))

pub returns-clause-free : goal.returns-clause-free
returns-clause-free c =
    let s = c.self.inside in
    let es = s.extents.items in
    let j = c.in-Some.number in
    rw (← c.self.view_is) (chains_get 0 j j (lengths_of es) s.blocks.lists (omega arith) ∙ rw (no_length j es (there (goal.at.returns-clause-free c).In-Some)) refl)

pub returns-clause-begun : goal.returns-clause-begun
returns-clause-begun c =
    let s = c.self.inside in
    let es = s.extents.items in
    let j = c.in-Some.number in
    rw (← c.self.view_is, lengths_set es j (Some empty_extent)) (begins j s.blocks.room (lengths_of es) s.blocks.lists c.self.invariant.sound (no_length j es (there (goal.at.returns-clause-begun c).In-Some)))
