use Rattle.qc_core.proofs.Leaving.{returning_on, place_got}
use Rattle.qc_core.proofs.eviction.give_back_tables.Goals as goal

pub loop-place-preserved : goal.loop-place-preserved
loop-place-preserved c =
    let got = place_got c.args.places.now c.loop-place.place-index c.place-item.result c.loop-place-test.true c.place-item.is in
    returning_on c.args.places.now c.loop-place.place-index c.place-item.result c.args.tiles.now c.loop-place.tiles c.give_back_table.new.tiles got c.give_back_table.ensures c.loop-place.invariant
