use Rattle.std.proofs.Common.{◌≡◌, ◌/◌, ◌^◌, ◌∷◌, [], drop}
use Rattle.qc_lane.specs.Lanes.{least, masked, masked_from, or_smaller}
use Rattle.qc_lane.proofs.aggregates.word_least.Given as goal

abbrev pub invariant-loop-value : goal.invariant-loop-value
invariant-loop-value l = record {
  bits : l.bits ≡ l.word / 2 ^ l.value-index;
  least : or_smaller l.least (least (masked_from l.value-index (l.word ∷ []) (drop l.value-index l.values))) ≡ or_smaller l.number (least (masked (l.word ∷ []) l.values));
}
