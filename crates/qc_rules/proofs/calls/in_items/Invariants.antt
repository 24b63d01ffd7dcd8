use Rattle.std.proofs.Common.{◌≡◌, map, drop}
use Rattle.qc_sql.specs.Rules.{calls_of, joined}
use Rattle.qc_rules.specs.Functions.{first_name}
use Rattle.qc_rules.proofs.calls.in_items.Given as goal

abbrev pub invariant-loop-item : goal.invariant-loop-item
invariant-loop-item l = first_name (joined (map (λ item. calls_of item.value) (drop l.item-index l.items))) ≡ first_name (joined (map (λ item. calls_of item.value) l.items))
