use Rattle.std.proofs.Common.{◌≡◌, drop}
use Rattle.std.specs.Prelude.{◌==◌}
use Rattle.std.specs.List.{list_any}
use Rattle.qc_core.proofs.connection.position.Given as goal

abbrev pub invariant-loop-item : goal.invariant-loop-item
invariant-loop-item l = (l.index ≡ l.item-index) × (list_any (λ m. m == l.number) (drop l.item-index l.numbers) ≡ list_any (λ m. m == l.number) l.numbers)
