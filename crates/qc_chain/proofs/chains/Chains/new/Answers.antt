use Rattle.std.proofs.Common.{◌≡◌, ◌∙◌, ap, arith, ◌++◌, ◌∷◌, [], Option, None, length, replicate}
use Rattle.std.proofs.lemmas.List.{replicate_more, length-replicate, length-append}
use Rattle.qc_chain.specs.declared.names.Extent.{Extent}
use Rattle.std.specs.Vec.{vec_capacity}
use Rattle.qc_chain.proofs.FreeNames.{names-all}
use Rattle.qc_chain.proofs.Stores.{no_chains_stored, no_chains_seen}
use Rattle.qc_chain.proofs.chains.Chains.new.Goals as goal

pub loop-number-preserved : goal.loop-number-preserved
loop-number-preserved c =
    let n = c.loop-number.number in
    let l = c.loop-number in
    let one = c.push_reserved.ensures in
    let two = c.push_reserved-in-loop-number.ensures in
    record {
      items = one.items ∙ (ap (λ es. es ++ None ∷ []) l.invariant.items ∙ replicate_more n None);
      room = omega (arith, one.capacity, l.invariant.room);
      names = rw (one.items, two.items) (names-all n l.extents.items l.free.items l.invariant.names (ap length l.invariant.items ∙ length-replicate {A = Option Extent} n None));
      made = omega (arith, ap length two.items, length-append l.free.items (n ∷ []), l.invariant.made);
      free_room = omega (arith, two.capacity, l.invariant.free_room);
    }

pub invariant_of-result : goal.invariant_of-result
invariant_of-result c =
    let l = c.loop-number in
    let all : l.number ≡ c.args.blocks = omega arith in
    no_chains_stored c.args.blocks (vec_capacity l.free) l.extents.items l.free.items c.in_ok-blocks.blocks (l.invariant.items ∙ ap (λ n. replicate n None) all) l.invariant.names (c.in_ok-blocks.ensures {u = tt}) l.invariant.free_room

pub returns : goal.returns
returns c =
    let l = c.loop-number in
    let all : l.number ≡ c.args.blocks = omega arith in
    no_chains_seen c.args.blocks l.extents.items c.in_ok-blocks.blocks (l.invariant.items ∙ ap (λ n. replicate n None) all) (c.in_ok-blocks.ensures {u = tt})
