use Rattle.std.proofs.Common.{[], ◌∷◌, ◌++◌, ap, ◌∙◌}
use Rattle.qc_model.specs.declared.reports.Word.TheVariants as word
use Rattle.qc_serve.specs.declared.session.Session.{Session}
use Rattle.qc_serve.specs.Logs.{logged}
use Rattle.qc_serve.proofs.Answered.{HasPut, has_put, hit_breaks, hit_replies, may_stream, streamed}
use Rattle.qc_serve.proofs.session.Session.answer_hit.Goals as goal

pub stream_hit-requires-clause-streams : goal.stream_hit-requires-clause-streams
stream_hit-requires-clause-streams g c = λ x serial size.
    let held = c.args.self.now in
    let found = c.args.found in
    let mid = c.put_line.new.self in
    may_stream c.args.turn.now c.requires.0 c.requires.1 held mid found c.requires.3 (has_put held c.arrive_at.new.self mid found c.arrive_at.ensures c.put_line.ensures.same) x serial size

pub returns-clause-replied : goal.returns-clause-replied
returns-clause-replied g c = λ text old may f.
    let held = c.args.self.now in
    let found = c.args.found in
    let mid = c.put_line.new.self in
    let sent = c.stream_hit in
    let put : HasPut held mid found = has_put held c.arrive_at.new.self mid found c.arrive_at.ensures c.put_line.ensures.same in
    hit_replies c.args.turn.now text old held mid sent.new.self found sent.result (g.K.ReplySink.held c.args.sink.now) (g.K.ReplySink.held sent.new.sink) may.rest f
    (streamed c.args.turn.now text old held mid sent.new.self found may.rest f put (c.put_line.ensures.lines ∙ ap (λ (s : Session). s.log.lines ++ logged found.hit.place word.Hit ∷ []) c.arrive_at.ensures) sent.ensures.seat sent.ensures.same) (ap (λ (s : Session). s.seat) put) sent.ensures.sends sent.ensures.cut sent.ensures.some

pub returns-clause-ends : goal.returns-clause-ends
returns-clause-ends g c = λ text old may f.
    let held = c.args.self.now in
    let found = c.args.found in
    let mid = c.put_line.new.self in
    let sent = c.stream_hit in
    let put : HasPut held mid found = has_put held c.arrive_at.new.self mid found c.arrive_at.ensures c.put_line.ensures.same in
    hit_breaks c.args.turn.now text old held mid sent.new.self found sent.result (g.K.ReplySink.held c.args.sink.now) (g.K.ReplySink.held sent.new.sink) may.rest f
    (streamed c.args.turn.now text old held mid sent.new.self found may.rest f put (c.put_line.ensures.lines ∙ ap (λ (s : Session). s.log.lines ++ logged found.hit.place word.Hit ∷ []) c.arrive_at.ensures) sent.ensures.seat sent.ensures.same) (ap (λ (s : Session). s.seat) put) sent.ensures.front sent.ensures.cut
