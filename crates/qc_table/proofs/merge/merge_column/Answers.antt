-- What stands behind the last change.
use Rattle.std.proofs.Common.{◌++◌, ◌∙◌, ◌-◌, ◌≤◌, ◌+◌, ap, sym, drop, length, ℤ, List, arith}
use Rattle.std.specs.Map.Iter.{deref_pair}
use Rattle.std.proofs.lemmas.Map.Entries.{length-keys_of}
use Rattle.std.proofs.lemmas.Map.Iter.{rest_all}
use Rattle.qc_types.specs.declared.names.Value.{Value}
use Rattle.qc_table.specs.Changes.{merged}
use Rattle.qc_table.specs.Stored.{column_of, values_of}
use Rattle.qc_table.specs.Views.{value_at}
use Rattle.qc_table.proofs.Merges.{end}
use Rattle.qc_table.proofs.merge.merge_column.Goals as goal

pub returns : goal.returns
returns c =
    let rows = c.args.base.now.rows in
    let none = rest_all deref_pair _ _ c.next.result c.in-None.is c.next.ensures.steps in
    let made = ap (λ changes. values_of c.loop-key.cells ++ column_of c.args.column (merged (drop c.loop-key.next rows) changes)) (sym none) ∙ c.loop-key.invariant.made in
    let many = length-keys_of rows in
    let enough : length rows ≤ c.loop-key.next + (length c.keys.result.now - c.loop-key.next) = omega (arith, many, ap length c.keys.ensures) in (
      c.in_ok-append_to.ensures.ready,
      end (λ (e : ℤ × List Value). value_at e.1 c.args.column) _ (values_of c.loop-key.cells) (values_of c.append_to.new.cells) rows c.loop-key.next _ enough c.in_ok-append_to.ensures.values made,
      c.in_ok-append_to.ensures.kind ∙ c.loop-key.invariant.kind,
    )
