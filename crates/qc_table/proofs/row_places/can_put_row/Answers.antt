-- One more column takes its value.
use Rattle.std.proofs.Common.{◌<◌, ◌∙◌, arith, length, sym, subst}
use Rattle.std.proofs.lemmas.List.{get_or_default}
use Rattle.qc_types.specs.declared.names.Value.TheVariants as value
use Rattle.qc_table.specs.Stored.{CanPut}
use Rattle.qc_table.proofs.Appending.{found}
use Rattle.qc_table.proofs.Replacing.{all_to, more_to, none_to}
use Rattle.qc_table.proofs.row_places.can_put_row.Goals as goal

pub loop-index-init : goal.loop-index-init
loop-index-init c = none_to c.args.at c.args.row.now c.args.cells.now

pub can_put-requires-clause-ready : goal.can_put-requires-clause-ready
can_put-requires-clause-ready c =
    let i = c.loop-index.index in
    let cell = c.index-cells-index.result in
    let low : i < length c.args.cells.now = omega arith in
    (c.requires.takes.1 i cell (found c.args.cells.now i cell low c.index-cells-index.is)).0

pub can_put-requires-clause-takes : goal.can_put-requires-clause-takes
can_put-requires-clause-takes c =
    let i = c.loop-index.index in
    let cell = c.index-cells-index.result in
    let low : i < length c.args.cells.now = omega arith in
    let item = c.index-row-index.result in
    let read = c.index-row-index.is ∙ sym (get_or_default c.args.row.now i value.Null item c.loop-index-test.true) in
    rw read (c.requires.takes.1 i cell (found c.args.cells.now i cell low c.index-cells-index.is)).1

pub can_put-requires-clause-row : goal.can_put-requires-clause-row
can_put-requires-clause-row c =
    let i = c.loop-index.index in
    let cell = c.index-cells-index.result in
    let low : i < length c.args.cells.now = omega arith in
    c.requires.there i cell (found c.args.cells.now i cell low c.index-cells-index.is)

pub loop-index-preserved : goal.loop-index-preserved
loop-index-preserved c =
    let i = c.loop-index.index in
    let cell = c.index-cells-index.result in
    let low : i < length c.args.cells.now = omega arith in
    let item = c.index-row-index.result in
    let read = c.index-row-index.is ∙ sym (get_or_default c.args.row.now i value.Null item c.loop-index-test.true) in
    more_to i c.args.at c.args.row.now c.args.cells.now cell c.loop-index.invariant (found c.args.cells.now i cell low c.index-cells-index.is)
    (subst (λ v. CanPut c.args.at v cell) read (c.can_put.ensures c.if-not-can_put.false))

pub returns : goal.returns
returns c = λ _. all_to c.loop-index.index c.args.at c.args.row.now c.args.cells.now c.loop-index.invariant (omega arith)
