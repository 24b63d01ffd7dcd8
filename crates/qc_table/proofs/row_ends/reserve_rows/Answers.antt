-- One more column has room, and all have their values.
use Rattle.std.proofs.Common.{◌<◌, arith, length}
use Rattle.qc_table.proofs.Appending.{all_room, found, more_room, none_made, one_made, same_values}
use Rattle.qc_table.proofs.row_ends.reserve_rows.Goals as goal

pub loop-index-init : goal.loop-index-init
loop-index-init c = record { made = none_made (λ j vs. vs) c.args.cells.now.items; room = λ j cell low is. absurd (omega (arith, low)) }

pub reserve-requires : goal.reserve-requires
reserve-requires c =
    let i = c.loop-index.index in
    let made = c.loop-index.invariant.made in
    let low : i < length c.loop-index.cells.items = omega arith in
    let at = found c.loop-index.cells.items i c.index_mut.result.now low c.index_mut.ensures.value in
    let taken = c.requires i c.index_mut.result.now (made.rest i c.index_mut.result.now (omega arith) at) in
    record { ready = taken.0; wide = taken.1 }

pub loop-index-preserved : goal.loop-index-preserved
loop-index-preserved c =
    let i = c.loop-index.index in
    let inv = c.loop-index.invariant in
    let cells = c.loop-index.cells.items in
    let old = c.index_mut.result.now in
    let x = c.reserve.new.self in
    let low : i < length cells = omega arith in
    let at = found cells i old low c.index_mut.ensures.value in
    record {
      made = one_made (λ j vs. vs) c.args.cells.now.items cells i old x inv.made low at (c.reserve.ensures.ready, c.reserve.ensures.values, c.reserve.ensures.kind);
      room = more_room c.args.puts.now.rows cells i x low inv.room c.in_ok-reserve.ensures.room;
    }

pub returns-in_err-reserve-clause-same : goal.returns-in_err-reserve-clause-same
returns-in_err-reserve-clause-same c =
    let i = c.loop-index.index in
    let cells = c.loop-index.cells.items in
    let old = c.index_mut.result.now in
    let x = c.reserve.new.self in
    let low : i < length cells = omega arith in
    let at = found cells i old low c.index_mut.ensures.value in
    let made = one_made (λ j vs. vs) c.args.cells.now.items cells i old x c.loop-index.invariant.made low at (c.reserve.ensures.ready, c.reserve.ensures.values, c.reserve.ensures.kind) in
    same_values c.args.puts.now.rows c.args.cells.now.items _ _ c.requires made

pub returns-clause-same : goal.returns-clause-same
returns-clause-same c = same_values c.args.puts.now.rows c.args.cells.now.items c.loop-index.cells.items c.loop-index.index c.requires c.loop-index.invariant.made

pub returns-clause-room : goal.returns-clause-room
returns-clause-room c = all_room c.args.puts.now.rows c.loop-index.cells.items c.loop-index.index c.loop-index.invariant.room (omega arith)
