-- One more column is without its value.
use Rattle.std.proofs.Common.{◌<◌, arith, length}
use Rattle.qc_table.specs.Stored.{without_one}
use Rattle.qc_table.proofs.Appending.{all_made, found, none_made, one_made}
use Rattle.qc_table.proofs.row_edits.remove_row.Goals as goal

pub loop-column-init : goal.loop-column-init
loop-column-init c = none_made (λ j. without_one c.args.at) c.args.cells.now.items

pub remove-requires-clause-ready : goal.remove-requires-clause-ready
remove-requires-clause-ready c =
    let i = c.loop-column.column in
    let cells = c.loop-column.cells.items in
    let old = c.index_mut.result.now in
    let low : i < length cells = omega arith in
    let at = found cells i old low c.index_mut.ensures.value in
    let was = c.loop-column.invariant.rest i old (omega arith) at in
    c.requires.ready i old was

pub remove-requires-clause-row : goal.remove-requires-clause-row
remove-requires-clause-row c =
    let i = c.loop-column.column in
    let cells = c.loop-column.cells.items in
    let old = c.index_mut.result.now in
    let low : i < length cells = omega arith in
    let at = found cells i old low c.index_mut.ensures.value in
    let was = c.loop-column.invariant.rest i old (omega arith) at in
    c.requires.there i old was

pub loop-column-preserved : goal.loop-column-preserved
loop-column-preserved c =
    let i = c.loop-column.column in
    let cells = c.loop-column.cells.items in
    let old = c.index_mut.result.now in
    let low : i < length cells = omega arith in
    let at = found cells i old low c.index_mut.ensures.value in
    one_made (λ j. without_one c.args.at) c.args.cells.now.items cells i old c.remove.new.self c.loop-column.invariant low at c.remove.ensures

pub returns : goal.returns
returns c = all_made (λ j. without_one c.args.at) c.args.cells.now.items c.loop-column.cells.items c.loop-column.column c.loop-column.invariant (omega arith)
