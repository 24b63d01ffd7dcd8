-- One more row has its place.
use Rattle.std.proofs.Common.{◌<◌, ◌∙◌, List, arith, length, rules, subst, w64, FitsSigned}
use Rattle.std.proofs.lemmas.Int.{to_z-of_z}
use Rattle.std.proofs.lemmas.Option.{slice_get_within}
use Rattle.qc_types.specs.declared.names.Value.{Value}
use Rattle.qc_table.specs.Stored.{CanPutRow}
use Rattle.qc_table.proofs.Appending.{fits_at, row_taken}
use Rattle.qc_table.proofs.Replacing.{all_found, have_at, is_replaced, one_found}
use Rattle.qc_table.proofs.row_places.places_of.Goals as goal

pub can_put_row-requires-clause-takes : goal.can_put_row-requires-clause-takes
can_put_row-requires-clause-takes c =
    let columns = c.args.columns.now in
    let rows = c.args.puts.now.rows in
    let i = c.loop-index.index in
    let low : i < length rows = omega arith in
    rw (c.items.ensures, c.row-row.ensures) (row_taken columns (length c.args.keys.now) c.args.cells.now _ c.requires.store (fits_at columns rows i c.requires.fits low))

pub can_put_row-requires-clause-there : goal.can_put_row-requires-clause-there
can_put_row-requires-clause-there c = have_at c.args.columns.now (length c.args.keys.now) c.in-Some.at c.args.cells.now c.requires.store (slice_get_within c.args.keys.now c.in-Some.at _ c.in-Some.ensures)

pub loop-index-preserved : goal.loop-index-preserved
loop-index-preserved c =
    let columns = c.args.columns.now in
    let keys = c.args.keys.now in
    let cells = c.args.cells.now in
    let rows = c.args.puts.now.rows in
    let i = c.loop-index.index in
    let at = c.in-Some.at in
    let low : i < length rows = omega arith in
    let key = c.key_of_row.result in
    let whole : FitsSigned w64 key = search rules in
    let here = rw (to_z-of_z w64 key whole, c.key_of_row.ensures, c.row-row.ensures) at c.in-Some.ensures in
    let can = subst (λ (row : List Value). CanPutRow at row cells) (c.items.ensures ∙ c.row-row.ensures) (c.can_put_row.ensures c.if-not-can_put_row.false) in
    let one = is_replaced columns keys cells _ _ at c.requires.store (fits_at columns rows i c.requires.fits low) here can in
    rw c.in_ok-push.ensures.items (one_found i columns keys cells c.loop-index.places.items rows at c.loop-index.invariant here one)

pub returns : goal.returns
returns c = all_found c.loop-index.index c.args.columns.now c.args.keys.now c.args.cells.now c.loop-index.places.items c.args.puts.now.rows c.loop-index.invariant (omega arith) c.requires.store
