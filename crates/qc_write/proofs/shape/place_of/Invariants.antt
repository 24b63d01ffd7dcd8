use Rattle.std.proofs.Common.{◌≡◌, ◌+◌, drop}
use Rattle.std.specs.Prelude.{option_map}
use Rattle.qc_write.specs.Inserts.{place_of}
use Rattle.qc_write.specs.Lists.{borrowed}
use Rattle.qc_write.proofs.shape.place_of.Given as goal

abbrev pub invariant-loop-i : goal.invariant-loop-i
invariant-loop-i l = place_of l.name (borrowed l.named) ≡ option_map (λ k. l.i + k) (place_of l.name (borrowed (drop l.i l.named)))
