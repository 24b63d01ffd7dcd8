-- The bits of the one, where those of the other are turned.
use Rattle.std.proofs.Common.{◌-◌, w64}
use Rattle.std.proofs.lemmas.Nat.Bits.{bit_at_not}
use Rattle.qc_lane.proofs.BitSteps.{bit_in_one}
use Rattle.qc_eval.proofs.masks.without.Goals as goal

pub returns : goal.returns
returns c i low = bit_in_one c.args.word (18446744073709551615 - c.args.other) c.args.other i (bit_at_not w64 c.args.other i c.ranges.other.fits low)
