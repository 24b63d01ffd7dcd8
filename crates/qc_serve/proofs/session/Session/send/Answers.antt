use Rattle.std.proofs.Common.{◌∙◌, ap, arith, length, length-drop}
use Rattle.qc_turn.specs.Seats.{view}
use Rattle.qc_serve.specs.Sent.{SendsFrontOf, packet_size}
use Rattle.qc_serve.proofs.Cutting.{cut_more, cut_part, next_packet, packet_few}
use Rattle.qc_serve.proofs.Sending.{on_err, went_front, went_more, went_split}
use Rattle.qc_serve.proofs.session.Session.send.Goals as goal

pub returns-in_err-put_piece-clause-front : goal.returns-in_err-put_piece-clause-front
returns-in_err-put_piece-clause-front g c =
    let before = g.K.ReplySink.held c.args.sink.now in
    let held = g.K.ReplySink.held c.loop-rest.sink in
    let out = g.K.ReplySink.held c.put_piece.new.sink in
    let all = c.args.reply.now in
    let packet = c.split_at.result.0.now in
    let behind = c.split_at.result.1.now in
    on_err c.from_residual.result (SendsFrontOf before out all) (went_front before held out all packet behind (view c.args.self.now.seat).task (went_split before held all c.loop-rest.rest.now packet behind c.packet_length.result c.split_at.ensures.front c.split_at.ensures.back c.loop-rest.invariant.sent) c.in_err-put_piece.ensures.part)

pub returns-in_err-put_piece-clause-cut : goal.returns-in_err-put_piece-clause-cut
returns-in_err-put_piece-clause-cut g c =
    let l = c.loop-rest in
    let before = g.K.ReplySink.held c.args.sink.now in
    let held = g.K.ReplySink.held l.sink in
    let out = g.K.ReplySink.held c.put_piece.new.sink in
    let packet = c.split_at.result.0.now in
    let next = next_packet l.rest.now packet c.packet_length.result c.packet_length.ensures.1 c.split_at.ensures.front in
    cut_part packet_size (length l.rest.now) before held out packet (view c.args.self.now.seat).task (omega (arith, c.packet_length.ensures.0, c.packet_length.ensures.1)) (λ prefix begins. packet_few packet prefix next.few begins) l.invariant.cut c.in_err-put_piece.ensures.part

pub loop-rest-preserved-then-not-is_empty : goal.loop-rest-preserved-then-not-is_empty
loop-rest-preserved-then-not-is_empty g c =
    let l = c.loop-rest in
    let all = c.args.reply.now in
    let before = g.K.ReplySink.held c.args.sink.now in
    let held = g.K.ReplySink.held l.sink in
    let out = g.K.ReplySink.held c.put_piece.new.sink in
    let packet = c.split_at.result.0.now in
    let behind = c.split_at.result.1.now in
    let n = c.packet_length.result in
    let task = (view c.args.self.now.seat).task in
    let next = next_packet l.rest.now packet n c.packet_length.ensures.1 c.split_at.ensures.front in
    let long = ap length c.split_at.ensures.back ∙ length-drop n l.rest.now in
    record {
      sent = went_more before held out all packet behind task (went_split before held all l.rest.now packet behind n c.split_at.ensures.front c.split_at.ensures.back l.invariant.sent) c.in_ok-put_piece.ensures.puts;
      cut = cut_more packet_size (length l.rest.now) (length behind) before held out packet task (omega (arith, c.packet_length.ensures.0, c.packet_length.ensures.1)) (omega (arith, c.packet_length.ensures.0, next.long)) next.few (λ on. next.exact (omega (arith, on, long))) l.invariant.cut c.in_ok-put_piece.ensures.puts;
      later = omega (arith, l.invariant.later, c.in_ok-put_piece.ensures.later);
    }

pub loop-rest-preserved : goal.loop-rest-preserved
loop-rest-preserved g c =
    let l = c.loop-rest in
    let all = c.args.reply.now in
    let before = g.K.ReplySink.held c.args.sink.now in
    let held = g.K.ReplySink.held l.sink in
    let out = g.K.ReplySink.held c.put_piece.new.sink in
    let packet = c.split_at.result.0.now in
    let behind = c.split_at.result.1.now in
    let n = c.packet_length.result in
    let task = (view c.args.self.now.seat).task in
    let next = next_packet l.rest.now packet n c.packet_length.ensures.1 c.split_at.ensures.front in
    let long = ap length c.split_at.ensures.back ∙ length-drop n l.rest.now in
    record {
      sent = went_more before held out all packet behind task (went_split before held all l.rest.now packet behind n c.split_at.ensures.front c.split_at.ensures.back l.invariant.sent) c.in_ok-put_piece.ensures.puts;
      cut = cut_more packet_size (length l.rest.now) (length behind) before held out packet task (omega (arith, c.packet_length.ensures.0, c.packet_length.ensures.1)) (omega (arith, c.packet_length.ensures.0, next.long)) next.few (λ on. next.exact (omega (arith, on, long))) l.invariant.cut c.in_ok-put_piece.ensures.puts;
      later = omega (arith, l.invariant.later, c.in_ok-put_piece.ensures.later);
    }
