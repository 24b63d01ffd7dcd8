-- One more key.
use Rattle.std.proofs.Common.{◌<◌, ◌∙◌, ap, arith, length, map, pos, rules, sym, w64, FitsSigned}
use Rattle.std.proofs.lemmas.Int.{to_z-of_z}
use Rattle.qc_sql.specs.Database.{key_of}
use Rattle.qc_table.proofs.Putting.{key_read, keys_length, put_more}
use Rattle.qc_table.proofs.table_rows.push_keys.Goals as goal

pub loop-index-preserved : goal.loop-index-preserved
loop-index-preserved c =
    let columns = c.args.columns.now in
    let rows = c.args.puts.now.rows in
    let ks = map (key_of columns) rows in
    let i = c.loop-index.index in
    let key = c.key_of_row.result in
    let whole : FitsSigned w64 key = search rules in
    let within : i < length rows = omega arith in
    let low : i < length ks = omega (arith, keys_length columns rows) in
    let read = c.key_of_row.ensures ∙ (ap (key_of columns) c.row.ensures ∙ sym (key_read columns rows i within)) in
    let items = rw (to_z-of_z w64 key whole) at c.push_key.ensures.items in
    record {
      items = items ∙ put_more c.args.keys.now.items c.loop-index.keys.items ks i key (pos 0) low read c.loop-index.invariant.items;
      room = omega (arith, c.push_key.ensures.len, c.push_key.ensures.capacity, c.loop-index.invariant.room);
    }
