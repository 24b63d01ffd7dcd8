-- One more row has its place.
use Rattle.std.proofs.Common.{◌<◌, ◌∙◌, List, arith, length, subst}
use Rattle.qc_types.specs.declared.names.Value.{Value}
use Rattle.qc_table.specs.Stored.{place_at, with_one, AreMade}
use Rattle.qc_table.specs.Views.{value_at}
use Rattle.qc_table.proofs.Replacing.{all_put, one_put}
use Rattle.qc_table.proofs.row_places.put_rows.Goals as goal

pub loop-index-preserved : goal.loop-index-preserved
loop-index-preserved c =
    let i = c.loop-index.index in
    let places = c.args.places.now in
    let rows = c.args.puts.now.rows in
    let cells = c.loop-index.cells.items in
    let low : i < length rows = omega arith in
    let read = c.items.ensures ∙ c.row.ensures in
    let made = subst (λ (row : List Value). AreMade (λ j. with_one (place_at places i) (value_at row j)) cells c.put_row.new.cells.items) read c.put_row.ensures in
    one_put i places rows c.args.cells.now.items cells c.put_row.new.cells.items c.requires.count low c.loop-index.invariant made

pub returns : goal.returns
returns c = all_put c.loop-index.index c.args.places.now c.args.puts.now.rows c.args.cells.now.items c.loop-index.cells.items c.requires.count (omega arith) c.loop-index.invariant
