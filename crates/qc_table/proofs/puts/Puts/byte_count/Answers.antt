-- One more text.
use Rattle.std.proofs.Common.{◌<◌, length, arith, ap}
use Rattle.qc_types.specs.declared.names.Value.TheVariants as value
use Rattle.qc_table.specs.Columns.{text_length}
use Rattle.qc_table.specs.Puts.{values_at}
use Rattle.qc_table.proofs.Putting.{sum_more, value_read, values_length}
use Rattle.qc_table.proofs.puts.Puts.byte_count.Goals as goal

pub loop-index-preserved : goal.loop-index-preserved
loop-index-preserved c =
    let rows = c.args.self.now.rows in
    let vs = values_at c.args.column rows in
    let i = c.loop-index.index in
    let low : i < length vs = omega (arith, values_length c.args.column rows) in
    let one = ap text_length (value_read rows c.args.column i) in
    let more = sum_more text_length vs i value.Null low in
    let read = ap text_length c.value.ensures in
    let counted = c.in-Some.ensures in
    omega (arith, one, more, read, counted, c.byte_count.ensures, c.loop-index.invariant)
