-- One more row has its place.
use Rattle.std.proofs.Common.{◌<◌, arith, length}
use Rattle.qc_table.proofs.Placing.{all_put, next_put}
use Rattle.qc_table.proofs.row_edits.put_each.Goals as goal

pub loop-index-preserved : goal.loop-index-preserved
loop-index-preserved c =
    let rows = c.args.puts.now.rows in
    let inv = c.loop-index.invariant in
    let low : c.loop-index.index < length rows = omega arith in
    record {
      store = c.put_one.ensures.store;
      sound = c.put_one.ensures.sound;
      rows = next_put rows c.loop-index.index _ _ _ low c.put_one.ensures.rows inv.rows;
      room = omega (arith, inv.room, c.put_one.ensures.len, c.put_one.ensures.capacity);
      rooms = c.put_one.ensures.rooms;
      few = omega (arith, inv.few, c.put_one.ensures.few);
    }

pub returns-clause-rows : goal.returns-clause-rows
returns-clause-rows c = all_put c.args.puts.now.rows c.loop-index.index _ _ (omega arith) c.loop-index.invariant.rows
