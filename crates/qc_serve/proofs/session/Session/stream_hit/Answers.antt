use Rattle.std.proofs.Common.{subst, sym}
use Rattle.qc_flow.specs.Streams.{IsStreamOf}
use Rattle.qc_turn.specs.Seats.{view}
use Rattle.qc_serve.proofs.Streaming.{same_stream}
use Rattle.qc_serve.proofs.session.Session.stream_hit.Goals as goal

pub send_stream-sent-requires-clause-streams : goal.send_stream-sent-requires-clause-streams
send_stream-sent-requires-clause-streams g c = c.requires.streams c.of-stream.result c.of-stream.ensures.0 c.of-stream.ensures.1

pub end-requires-clause-streams : goal.end-requires-clause-streams
end-requires-clause-streams g c =
    let s = c.send_stream-sent in
    let e = s.ensures in
    let first = c.requires.streams c.of-stream.result c.of-stream.ensures.0 c.of-stream.ensures.1 in
    subst (IsStreamOf s.new.stream) (sym e.seated.1) (same_stream c.of-stream.result s.new.stream (view c.args.self.now.seat) e.same.0 e.same.1 first)
