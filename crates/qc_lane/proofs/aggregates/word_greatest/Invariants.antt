use Rattle.std.proofs.Common.{◌≡◌, ◌/◌, ◌^◌, ◌∷◌, [], drop}
use Rattle.qc_lane.specs.Lanes.{greatest, masked, masked_from, or_greater}
use Rattle.qc_lane.proofs.aggregates.word_greatest.Given as goal

abbrev pub invariant-loop-value : goal.invariant-loop-value
invariant-loop-value l = record {
  bits : l.bits ≡ l.word / 2 ^ l.value-index;
  greatest : or_greater l.greatest (greatest (masked_from l.value-index (l.word ∷ []) (drop l.value-index l.values))) ≡ or_greater l.number (greatest (masked (l.word ∷ []) l.values));
}
