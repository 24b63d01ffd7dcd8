use Rattle.std.proofs.Common.{◌≡◌, drop}
use Rattle.qc_sql.specs.Rows.{each}
use Rattle.qc_resolve.specs.Validated.{key_validated}
use Rattle.qc_resolve.specs.Steps.{run, push_made}
use Rattle.qc_resolve.proofs.order.order_keys.Given as goal

abbrev pub invariant-loop-order : goal.invariant-loop-order
invariant-loop-order l = each (key_validated l.scope) l.orders ≡ run (push_made (key_validated l.scope)) (drop l.order-index l.orders) l.keys
