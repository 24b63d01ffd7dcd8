-- One more column has its value.
use Rattle.std.proofs.Common.{◌<◌, arith, length, sym, subst, ◌∙◌}
use Rattle.std.specs.Prelude.{Some}
use Rattle.std.proofs.lemmas.List.{get_or_default}
use Rattle.qc_types.specs.declared.names.Value.TheVariants as value
use Rattle.qc_table.specs.Stored.{with_one, CanPut, IsMade}
use Rattle.qc_table.specs.Views.{value_at}
use Rattle.qc_table.proofs.Appending.{all_made, found, none_made, one_made}
use Rattle.qc_table.proofs.row_places.put_row.Goals as goal

pub loop-index-init : goal.loop-index-init
loop-index-init c = none_made (λ j. with_one c.args.at (value_at c.args.row.now j)) c.args.cells.now.items

pub put-requires-clause-ready : goal.put-requires-clause-ready
put-requires-clause-ready c =
    let i = c.loop-index.index in
    let low : i < length c.loop-index.cells.items = omega arith in
    let at = found c.loop-index.cells.items i c.index_mut.result.now low c.index_mut.ensures.value in
    (c.requires.takes.1 i c.index_mut.result.now (c.loop-index.invariant.rest i c.index_mut.result.now (omega arith) at)).0

pub put-requires-clause-takes : goal.put-requires-clause-takes
put-requires-clause-takes c =
    let i = c.loop-index.index in
    let low : i < length c.loop-index.cells.items = omega arith in
    let at = found c.loop-index.cells.items i c.index_mut.result.now low c.index_mut.ensures.value in
    let item = c.index-row-index.result in
    let read = c.index-row-index.is ∙ sym (get_or_default c.args.row.now i value.Null item c.loop-index-test.true) in
    rw read (c.requires.takes.1 i c.index_mut.result.now (c.loop-index.invariant.rest i c.index_mut.result.now (omega arith) at)).1

pub put-requires-clause-row : goal.put-requires-clause-row
put-requires-clause-row c =
    let i = c.loop-index.index in
    let low : i < length c.loop-index.cells.items = omega arith in
    let at = found c.loop-index.cells.items i c.index_mut.result.now low c.index_mut.ensures.value in
    c.requires.there i c.index_mut.result.now (c.loop-index.invariant.rest i c.index_mut.result.now (omega arith) at)

pub put-requires-clause-fits : goal.put-requires-clause-fits
put-requires-clause-fits c =
    let i = c.loop-index.index in
    let low : i < length c.loop-index.cells.items = omega arith in
    let at = found c.loop-index.cells.items i c.index_mut.result.now low c.index_mut.ensures.value in
    let item = c.index-row-index.result in
    let read = c.index-row-index.is ∙ sym (get_or_default c.args.row.now i value.Null item c.loop-index-test.true) in
    subst (λ v. CanPut c.args.at v c.index_mut.result.now) (sym read) (c.requires.fits i c.index_mut.result.now (c.loop-index.invariant.rest i c.index_mut.result.now (omega arith) at))

pub loop-index-preserved : goal.loop-index-preserved
loop-index-preserved c =
    let i = c.loop-index.index in
    let cells = c.loop-index.cells.items in
    let low : i < length cells = omega arith in
    let at = found cells i c.index_mut.result.now low c.index_mut.ensures.value in
    let item = c.index-row-index.result in
    let read = c.index-row-index.is ∙ sym (get_or_default c.args.row.now i value.Null item c.loop-index-test.true) in
    let one = subst (λ v. IsMade (with_one c.args.at v) (Some c.index_mut.result.now) c.put.new.self) read c.put.ensures in
    one_made (λ j. with_one c.args.at (value_at c.args.row.now j)) c.args.cells.now.items cells i c.index_mut.result.now c.put.new.self c.loop-index.invariant low at one

pub returns : goal.returns
returns c = all_made (λ j. with_one c.args.at (value_at c.args.row.now j)) c.args.cells.now.items c.loop-index.cells.items c.loop-index.index c.loop-index.invariant (omega arith)
