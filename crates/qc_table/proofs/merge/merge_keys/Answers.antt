-- One more change, and what stands behind the last.
use Rattle.std.proofs.Common.{◌++◌, ◌∙◌, ◌-◌, ap, sym, drop, length, ℤ, List, arith, rules, w64, FitsSigned}
use Rattle.std.specs.Map.{keys_of}
use Rattle.std.specs.Map.Iter.{deref_pair}
use Rattle.std.proofs.lemmas.Int.{to_z-of_z}
use Rattle.std.proofs.lemmas.Map.Entries.{length-keys_of}
use Rattle.std.proofs.lemmas.Map.Iter.{rest_more, rest_all}
use Rattle.qc_types.specs.declared.names.Value.{Value}
use Rattle.qc_table.specs.Changes.{merged}
use Rattle.qc_table.proofs.Merges.{step, end}
use Rattle.qc_table.proofs.merge.merge_keys.Goals as goal

pub loop-key-preserved : goal.loop-key-preserved
loop-key-preserved c =
    let rows = c.args.base.now.rows in
    let key = c.in-Some.key.now in
    let fits : FitsSigned w64 key = search rules in
    let more = rest_more deref_pair _ _ c.next.result (c.in-Some.key, c.in-Some.change) c.in-Some.is c.next.ensures.steps in
    let made = ap (λ changes. c.loop-key.keys.items ++ keys_of (merged (drop c.loop-key.next rows) changes)) (sym more) ∙ c.loop-key.invariant.made in
    let put = rw (to_z-of_z w64 key fits) at c.in_ok-next.ensures.keys in
    let behind = rw (to_z-of_z w64 key fits) at c.in_ok-next.ensures.next in
    record {
      made = step (λ (e : ℤ × List Value). e.0) _ c.loop-key.keys.items c.merge_key.new.keys.items (drop c.loop-key.next rows) (drop c.in_ok-next.next rows) key c.in-Some.change.now c.next.new.self put behind.1 made;
      within = behind.0;
    }

pub returns : goal.returns
returns c =
    let rows = c.args.base.now.rows in
    let none = rest_all deref_pair _ _ c.next.result c.in-None.is c.next.ensures.steps in
    let made = ap (λ changes. c.loop-key.keys.items ++ keys_of (merged (drop c.loop-key.next rows) changes)) (sym none) ∙ c.loop-key.invariant.made in
    let put = rw c.keys.ensures at c.in_ok-extend_from_slice.ensures.items in
    end (λ (e : ℤ × List Value). e.0) _ c.loop-key.keys.items c.extend_from_slice.new.self.items rows c.loop-key.next (length (keys_of rows) - c.loop-key.next) (omega (arith, length-keys_of rows)) put made
