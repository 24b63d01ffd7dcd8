use Rattle.std.proofs.Common.{arith}
use Rattle.qc_flow.specs.Streams.{left}
use Rattle.qc_turn.specs.declared.task.Task.TheVariants as task
use Rattle.qc_turn.specs.Seats.{view}
use Rattle.qc_serve.specs.SentAt.{SendsFrontAt}
use Rattle.qc_serve.proofs.Sending.{on_err}
use Rattle.qc_serve.proofs.Streaming.{streaming_first, streaming_front, streaming_next, streaming_part}
use Rattle.qc_serve.proofs.hits_sent.send_stream.Goals as goal

pub loop-count-init : goal.loop-count-init
loop-count-init g c =
    let n = c.next-count in
    let e = n.ensures in
    record {
      streams = streaming_first c.args.turn.now c.args.seat.now n.new.seat c.args.stream.now n.new.self n.result n.new.out (g.K.ReplySink.held c.args.sink.now) c.requires.streams (record { seated = e.seated; count_is = e.count; piece = e.piece; sent = e.sent });
      later = omega arith;
    }

pub returns-in_err-put_piece-clause-front : goal.returns-in_err-put_piece-clause-front
returns-in_err-put_piece-clause-front g c =
    let l = c.loop-count in
    let before = g.K.ReplySink.held c.args.sink.now in
    let held = g.K.ReplySink.held l.sink in
    let out = g.K.ReplySink.held c.put_piece.new.sink in
    on_err c.from_residual.result (SendsFrontAt (task.Stream c.args.stream.now.serial) before out (left c.args.stream.now (view c.args.seat.now)))
    (streaming_front c.args.turn.now c.args.seat.now l.seat c.args.stream.now l.stream l.count l.piece before held out c.requires.streams l.invariant.streams c.in_err-put_piece.ensures.part)

pub loop-count-preserved-then-count-ne0 : goal.loop-count-preserved-then-count-ne0
loop-count-preserved-then-count-ne0 g c =
    let l = c.loop-count in
    let n = c.next-count-in-loop-count in
    let e = n.ensures in
    let before = g.K.ReplySink.held c.args.sink.now in
    let held = g.K.ReplySink.held l.sink in
    let out = g.K.ReplySink.held c.put_piece.new.sink in
    record {
      streams = streaming_next c.args.turn.now c.args.seat.now l.seat n.new.seat c.args.stream.now l.stream n.new.self l.count n.result l.piece n.new.out before held out (omega (arith, c.if-count-ne0.true)) c.requires.streams l.invariant.streams c.in_ok-put_piece.ensures.puts (record { seated = e.seated; count_is = e.count; piece = e.piece; sent = e.sent });
      later = omega (arith, l.invariant.later, c.in_ok-put_piece.ensures.later);
    }

pub loop-count-preserved : goal.loop-count-preserved
loop-count-preserved g c =
    let l = c.loop-count in
    let n = c.next-count-in-loop-count in
    let e = n.ensures in
    let before = g.K.ReplySink.held c.args.sink.now in
    let held = g.K.ReplySink.held l.sink in
    let out = g.K.ReplySink.held c.put_piece.new.sink in
    record {
      streams = streaming_next c.args.turn.now c.args.seat.now l.seat n.new.seat c.args.stream.now l.stream n.new.self l.count n.result l.piece n.new.out before held out (omega (arith, c.loop-count-test.true)) c.requires.streams l.invariant.streams c.in_ok-put_piece.ensures.puts (record { seated = e.seated; count_is = e.count; piece = e.piece; sent = e.sent });
      later = omega (arith, l.invariant.later, c.in_ok-put_piece.ensures.later);
    }

pub returns-in_err-put_piece-clause-cut : goal.returns-in_err-put_piece-clause-cut
returns-in_err-put_piece-clause-cut g c =
    let l = c.loop-count in
    let before = g.K.ReplySink.held c.args.sink.now in
    let held = g.K.ReplySink.held l.sink in
    let out = g.K.ReplySink.held c.put_piece.new.sink in
    streaming_part c.args.turn.now c.args.seat.now l.seat c.args.stream.now l.stream l.count l.piece before held out (omega (arith, c.loop-count-test.true)) l.invariant.streams c.in_err-put_piece.ensures.part
