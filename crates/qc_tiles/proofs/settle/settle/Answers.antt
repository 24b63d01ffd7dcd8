use Rattle.std.proofs.Common.{arith, take, drop, ◌++◌, ◌+◌}
use Rattle.qc_tiles.proofs.Sorting.{by_size-sorted}
use Rattle.qc_tiles.proofs.SettleSides.{hole_room, settled}
use Rattle.qc_tiles.proofs.settle.settle.Goals as goal

pub join_lower-block-requires : goal.join_lower-block-requires
join_lower-block-requires c = (c.requires.0, c.requires.1, (c.join_upper-block.ensures c.requires.0 c.requires.1 c.requires.2).hole)

pub insert-requires-clause-room : goal.insert-requires-clause-room
insert-requires-clause-room c =
    let up = c.join_upper-block.ensures c.requires.0 c.requires.1 c.requires.2 in
    let down = c.join_lower-block.ensures c.requires.0 c.requires.1 up.hole in
    (hole_room c.requires.0 c.join_lower-block.new.places c.join_lower-block.new.free c.join_lower-block.result down.at down.hole).0

pub insert-requires-clause-sorted : goal.insert-requires-clause-sorted
insert-requires-clause-sorted c =
    let up = c.join_upper-block.ensures c.requires.0 c.requires.1 c.requires.2 in
    let down = c.join_lower-block.ensures c.requires.0 c.requires.1 up.hole in
    rw down.hole.sizes (by_size-sorted (take down.at c.join_lower-block.new.places ++ drop (down.at + 1) c.join_lower-block.new.places))

pub insert-requires-clause-fits : goal.insert-requires-clause-fits
insert-requires-clause-fits c =
    let up = c.join_upper-block.ensures c.requires.0 c.requires.1 c.requires.2 in
    let down = c.join_lower-block.ensures c.requires.0 c.requires.1 up.hole in
    omega (arith, (hole_room c.requires.0 c.join_lower-block.new.places c.join_lower-block.new.free c.join_lower-block.result down.at down.hole).1, down.hole.region)

pub returns : goal.returns
returns c = λ words k h.
    settled words k c.args.places.now c.join_upper-block.new.places c.join_lower-block.new.places c.args.free.now c.join_upper-block.new.free c.join_lower-block.new.free c.insert.new.self c.join_upper-block.result c.args.block h
    c.join_upper-block.ensures c.join_lower-block.result c.join_lower-block.ensures c.insert.ensures
