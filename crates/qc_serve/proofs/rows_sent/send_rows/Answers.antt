use Rattle.std.proofs.Common.{◌≡◌, ℕ, List, ◌∷◌, ap, arith, subst, sym, ◌∙◌}
use Rattle.std.specs.List.{concat}
use Rattle.qc_turn.specs.Seats.{view}
use Rattle.qc_serve.specs.Sent.{SendsFrontOf}
use Rattle.qc_serve.proofs.Cutting.{PacketsOn, packets_more, packets_part}
use Rattle.qc_serve.proofs.Sending.{Went, gave, on_err, went_front, went_more}
use Rattle.qc_serve.proofs.rows_sent.send_rows.Goals as goal

pub loop-packet-preserved : goal.loop-packet-preserved
loop-packet-preserved g c =
    let l = c.loop-packet in
    let all = c.args.packets.now in
    let left = c.next.new.self in
    let packet = c.bytes.result.now in
    let at = (view c.args.seat.now).task in
    let before = g.K.ReplySink.held c.args.sink.now in
    let held = g.K.ReplySink.held l.sink in
    let out = g.K.ReplySink.held c.put_piece.new.sink in
    let puts = c.in_ok-put_piece.ensures.puts in
    let is : l.packets ≡ packet ∷ left = gave c.in_ok-next.field-0 l.packets left c.next.new.out c.if-branch.true c.in_ok-next.ensures.gives ∙ ap (λ (p : List ℕ). p ∷ left) (sym c.bytes.ensures) in
    let went : Went (concat all) (concat (packet ∷ left)) before held = subst (λ (ps : List (List ℕ)). Went (concat all) (concat ps) before held) is l.invariant.sent in
    record {
      sent = went_more before held out (concat all) packet (concat left) at went puts;
      cut = packets_more all left packet before held out at (subst (λ (ps : List (List ℕ)). PacketsOn all ps before held) is l.invariant.cut) puts;
      later = omega (arith, l.invariant.later, c.in_ok-put_piece.ensures.later);
    }

pub returns-in_err-put_piece-clause-front : goal.returns-in_err-put_piece-clause-front
returns-in_err-put_piece-clause-front g c =
    let l = c.loop-packet in
    let all = c.args.packets.now in
    let left = c.next.new.self in
    let packet = c.bytes.result.now in
    let before = g.K.ReplySink.held c.args.sink.now in
    let held = g.K.ReplySink.held l.sink in
    let out = g.K.ReplySink.held c.put_piece.new.sink in
    let is : l.packets ≡ packet ∷ left = gave c.in_ok-next.field-0 l.packets left c.next.new.out c.if-branch.true c.in_ok-next.ensures.gives ∙ ap (λ (p : List ℕ). p ∷ left) (sym c.bytes.ensures) in
    let went : Went (concat all) (concat (packet ∷ left)) before held = subst (λ (ps : List (List ℕ)). Went (concat all) (concat ps) before held) is l.invariant.sent in
    on_err c.from_residual-in_err-put_piece.result (SendsFrontOf before out (concat all)) (went_front before held out (concat all) packet (concat left) (view c.args.seat.now).task went c.in_err-put_piece.ensures.part)

pub returns-in_err-put_piece-clause-cut : goal.returns-in_err-put_piece-clause-cut
returns-in_err-put_piece-clause-cut g c =
    let l = c.loop-packet in
    let all = c.args.packets.now in
    let left = c.next.new.self in
    let packet = c.bytes.result.now in
    let before = g.K.ReplySink.held c.args.sink.now in
    let held = g.K.ReplySink.held l.sink in
    let out = g.K.ReplySink.held c.put_piece.new.sink in
    let is : l.packets ≡ packet ∷ left = gave c.in_ok-next.field-0 l.packets left c.next.new.out c.if-branch.true c.in_ok-next.ensures.gives ∙ ap (λ (p : List ℕ). p ∷ left) (sym c.bytes.ensures) in
    packets_part all left packet before held out (view c.args.seat.now).task (subst (λ (ps : List (List ℕ)). PacketsOn all ps before held) is l.invariant.cut) c.in_err-put_piece.ensures.part
