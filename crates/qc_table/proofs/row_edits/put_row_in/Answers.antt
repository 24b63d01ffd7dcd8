-- One more column has its value, for which there is room.
use Rattle.std.proofs.Common.{◌≡◌, ◌<◌, ◌+◌, ◌∙◌, arith, drop, length, subst, sym, true}
use Rattle.std.proofs.lemmas.List.{get_or_default}
use Rattle.qc_types.specs.declared.names.Value.TheVariants as value
use Rattle.qc_table.specs.Puts.{put_at, values_at}
use Rattle.qc_table.specs.Stored.{put_in, is_ints, takes, values_of}
use Rattle.qc_table.specs.Views.{value_at}
use Rattle.qc_table.proofs.Appending.{all_made, all_room, found, more_room, none_made, one_made}
use Rattle.qc_table.proofs.Placing.{room_here}
use Rattle.qc_table.proofs.Putting.{done, fails}
use Rattle.qc_table.proofs.row_edits.put_row_in.Goals as goal

pub loop-column-init : goal.loop-column-init
loop-column-init c = record { made = none_made (λ j. put_in c.args.place (value_at (put_at c.args.puts.now.rows c.args.index) j)) c.args.cells.now.items; room = λ j cell low is. absurd (omega (arith, low)) }

pub put_in-requires-clause-ready : goal.put_in-requires-clause-ready
put_in-requires-clause-ready c =
    let i = c.loop-column.column in
    let cells = c.loop-column.cells.items in
    let old = c.index_mut.result.now in
    let low : i < length cells = omega arith in
    let at = found cells i old low c.index_mut.ensures.value in
    let was = c.loop-column.invariant.made.rest i old (omega arith) at in
    (c.requires.takes.1 i old was).0

pub put_in-requires-clause-takes : goal.put_in-requires-clause-takes
put_in-requires-clause-takes c =
    let i = c.loop-column.column in
    let cells = c.loop-column.cells.items in
    let old = c.index_mut.result.now in
    let low : i < length cells = omega arith in
    let at = found cells i old low c.index_mut.ensures.value in
    let was = c.loop-column.invariant.made.rest i old (omega arith) at in
    let rows = c.args.puts.now.rows in
    let row = put_at rows c.args.index in
    let values = c.items-values.ensures ∙ c.row.ensures in
    let item = c.index-values-column.result in
    let within : i < length row = omega (arith, low, c.loop-column.invariant.made.size, c.requires.takes.0) in
    let read : item ≡ value_at row i = rw values at c.index-values-column.is ∙ sym (get_or_default row i value.Null item within) in
    subst (λ v. takes (is_ints old) v ≡ true) (sym read) (c.requires.takes.1 i old was).1

pub put_in-requires-clause-place : goal.put_in-requires-clause-place
put_in-requires-clause-place c =
    let i = c.loop-column.column in
    let cells = c.loop-column.cells.items in
    let old = c.index_mut.result.now in
    let low : i < length cells = omega arith in
    let at = found cells i old low c.index_mut.ensures.value in
    let was = c.loop-column.invariant.made.rest i old (omega arith) at in
    c.requires.place i old was

pub unreachable-requires : goal.unreachable-requires
unreachable-requires c =
    let i = c.loop-column.column in
    let cells = c.loop-column.cells.items in
    let old = c.index_mut.result.now in
    let low : i < length cells = omega arith in
    let at = found cells i old low c.index_mut.ensures.value in
    let was = c.loop-column.invariant.made.rest i old (omega arith) at in
    let rows = c.args.puts.now.rows in
    let row = put_at rows c.args.index in
    let values = c.items-values.ensures ∙ c.row.ensures in
    let item = c.index-values-column.result in
    let within : i < length row = omega (arith, low, c.loop-column.invariant.made.size, c.requires.takes.0) in
    let read : item ≡ value_at row i = rw values at c.index-values-column.is ∙ sym (get_or_default row i value.Null item within) in
    let room = room_here rows c.args.index i item old c.requires.index read (c.requires.room i old was) in
    fails c.put_in.result (c.put_in.ensures.room (values_at i (drop (c.args.index + 1) rows)) room).0 (sym c.is_err.ensures.value ∙ c.if-is_err.true)

pub loop-column-preserved : goal.loop-column-preserved
loop-column-preserved c =
    let i = c.loop-column.column in
    let cells = c.loop-column.cells.items in
    let old = c.index_mut.result.now in
    let low : i < length cells = omega arith in
    let at = found cells i old low c.index_mut.ensures.value in
    let was = c.loop-column.invariant.made.rest i old (omega arith) at in
    let rows = c.args.puts.now.rows in
    let row = put_at rows c.args.index in
    let values = c.items-values.ensures ∙ c.row.ensures in
    let item = c.index-values-column.result in
    let within : i < length row = omega (arith, low, c.loop-column.invariant.made.size, c.requires.takes.0) in
    let read : item ≡ value_at row i = rw values at c.index-values-column.is ∙ sym (get_or_default row i value.Null item within) in
    let x = c.put_in.new.self in
    let room = room_here rows c.args.index i item old c.requires.index read (c.requires.room i old was) in
    let left = c.put_in.ensures.room (values_at i (drop (c.args.index + 1) rows)) room in
    let ready = done c.put_in.result _ left.0 c.put_in.ensures.ready in
    let kind = done c.put_in.result _ left.0 c.put_in.ensures.kind in
    let made = subst (λ v. values_of x ≡ put_in c.args.place v (values_of old)) read (done c.put_in.result _ left.0 c.put_in.ensures.values) in
    record {
      made = one_made (λ j. put_in c.args.place (value_at row j)) c.args.cells.now.items cells i old x c.loop-column.invariant.made low at (ready, made, kind);
      room = more_room (drop (c.args.index + 1) rows) cells i x low c.loop-column.invariant.room left.1;
    }

pub returns-clause-made : goal.returns-clause-made
returns-clause-made c = all_made (λ j. put_in c.args.place (value_at (put_at c.args.puts.now.rows c.args.index) j)) c.args.cells.now.items c.loop-column.cells.items c.loop-column.column c.loop-column.invariant.made (omega arith)

pub returns-clause-room : goal.returns-clause-room
returns-clause-room c = all_room (drop (c.args.index + 1) c.args.puts.now.rows) c.loop-column.cells.items c.loop-column.column c.loop-column.invariant.room (omega arith)
