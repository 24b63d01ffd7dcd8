use Rattle.std.proofs.Common.{rules, of_calls, ap, ◌∙◌}
use Rattle.std.specs.Ordering.{is_lt}
use Rattle.std.proofs.lemmas.Fn.{always_returns_same}
use Rattle.qc_sql.specs.Rows.{value_cmp, sorted}
use Rattle.qc_resolve.proofs.Sorts.{orders, stable_sort_is}
use Rattle.qc_resolve.proofs.ValueOrder.{value_cmp_total}
use Rattle.qc_resolve.proofs.value_set.ValueSet.from_values.Goals as goal

pub invariant_of-result : goal.invariant_of-result
invariant_of-result c =
    rw c.from_vec.ensures (c.in_ok-sort_by.ensures.sorted (λ a b. is_lt (value_cmp a b)) (orders value_cmp value_cmp_total) (always_returns_same _ _ _ (λ a r g k. search (rules, of_calls))))

pub returns : goal.returns
returns c =
    c.from_vec.ensures
    ∙ stable_sort_is value_cmp value_cmp_total c.into_vec-members.result.items c.sort_by.new.self.items
    (c.in_ok-sort_by.ensures.sorted (λ a b. is_lt (value_cmp a b)) (orders value_cmp value_cmp_total) (always_returns_same _ _ _ (λ a r g k. search (rules, of_calls))))
    (c.in_ok-sort_by.ensures.stable (λ a b. is_lt (value_cmp a b)) (orders value_cmp value_cmp_total) (always_returns_same _ _ _ (λ a r g k. search (rules, of_calls))))
    ∙ ap (sorted value_cmp) (c.into_vec-members.ensures ∙ c.in_ok-copy.ensures)
