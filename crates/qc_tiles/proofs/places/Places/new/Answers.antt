use Rattle.std.proofs.Common.{◌∙◌, arith}
use Rattle.qc_tiles.proofs.PlaceReads.{begun_push, placed_push, zeros}
use Rattle.qc_tiles.proofs.places.Places.new.Goals as goal

pub loop-n-preserved : goal.loop-n-preserved
loop-n-preserved c = record {
  starts = omega (arith, c.push_reserved-in-loop-n.ensures.len, c.loop-n.invariant.starts);
  ends = omega (arith, c.push_reserved-in-loop-n-2.ensures.len, c.loop-n.invariant.ends);
  start_room = omega (arith, c.push_reserved-in-loop-n.ensures.capacity, c.loop-n.invariant.start_room);
  end_room = omega (arith, c.push_reserved-in-loop-n-2.ensures.capacity, c.loop-n.invariant.end_room);
  begun = rw c.push_reserved-in-loop-n.ensures.items (begun_push c.loop-n.starts.items ∙ c.loop-n.invariant.begun);
  placed = rw c.push_reserved-in-loop-n.ensures.items (placed_push 0 c.loop-n.starts.items c.loop-n.invariant.placed);
  zeros = λ k. rw c.push_reserved-in-loop-n-2.ensures.items (zeros c.loop-n.ends.items c.loop-n.invariant.zeros k);
}
