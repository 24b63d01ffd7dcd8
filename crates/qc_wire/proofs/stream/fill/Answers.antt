use Rattle.std.proofs.Common.{◌-◌, length, arith}
use Rattle.qc_wire.proofs.Streams.{so_far_more, same_length}
use Rattle.qc_wire.proofs.stream.fill.Goals as goal

pub loop-place-preserved : goal.loop-place-preserved
loop-place-preserved g c = (
  omega (arith, c.read.ensures.later, c.loop-place.invariant.0),
  omega (arith, same_length c.loop-place.place c.loop-place.out c.read.new.out c.loop-place.invariant.1 (omega arith), c.in-Got.ensures.within),
  so_far_more c.loop-place.place c.in-Got.count (length c.loop-place.out - c.loop-place.place) c.loop-place.out c.read.new.out _ _ _ c.loop-place.invariant.1 (omega (arith, c.in-Got.ensures.within)) c.loop-place.invariant.2 c.in-Got.ensures.bytes,
)
