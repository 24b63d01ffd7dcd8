-- One more column has its values.
use Rattle.std.proofs.Common.{◌<◌, arith, length}
use Rattle.qc_table.specs.Puts.{values_at}
use Rattle.qc_table.specs.Stored.{and_more}
use Rattle.qc_table.proofs.Appending.{all_made, found, none_made, one_made}
use Rattle.qc_table.proofs.row_ends.push_rows.Goals as goal

pub loop-index-init : goal.loop-index-init
loop-index-init c = none_made (λ j. and_more (values_at j c.args.puts.now.rows)) c.args.cells.now.items

pub push_all-requires : goal.push_all-requires
push_all-requires c =
    let i = c.loop-index.index in
    let cell = c.index_mut.result.now in
    let low : i < length c.loop-index.cells.items = omega arith in
    let at = c.loop-index.invariant.rest i cell (omega arith) (found c.loop-index.cells.items i cell low c.index_mut.ensures.value) in
    let taken = c.requires.takes i cell at in
    record { ready = taken.0; wide = taken.1; takes = taken.2; room = c.requires.room i cell at }

pub loop-index-preserved : goal.loop-index-preserved
loop-index-preserved c =
    let i = c.loop-index.index in
    let cells = c.loop-index.cells.items in
    let low : i < length cells = omega arith in
    let at = found cells i c.index_mut.result.now low c.index_mut.ensures.value in
    one_made (λ j. and_more (values_at j c.args.puts.now.rows)) c.args.cells.now.items cells i c.index_mut.result.now c.push_all.new.self c.loop-index.invariant low at c.push_all.ensures

pub returns : goal.returns
returns c = all_made (λ j. and_more (values_at j c.args.puts.now.rows)) c.args.cells.now.items c.loop-index.cells.items c.loop-index.index c.loop-index.invariant (omega arith)
