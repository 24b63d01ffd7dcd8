use Rattle.std.proofs.Common.{◌≡◌, ℕ, List, ◌∷◌, ap, subst, sym, ◌∙◌, arith}
use Rattle.std.specs.List.{concat}
use Rattle.qc_turn.specs.Seats.{view}
use Rattle.qc_serve.specs.Sent.{SendsFrontOf}
use Rattle.qc_serve.proofs.Fillings.{Filling, filling_front, filling_none, filling_on, stored_next, stored_none, stored_part, stored_so}
use Rattle.qc_serve.proofs.Cutting.{PacketsOn, packets_more, packets_none, packets_part}
use Rattle.qc_serve.proofs.Sending.{gave, on_err}
use Rattle.qc_serve.proofs.rows_sent.fill_rows.Goals as goal

pub loop-packet-init : goal.loop-packet-init
loop-packet-init g c =
    let held = g.K.ReplySink.held c.args.sink.now in
    record {
      fills = filling_none c.args.turn.now c.args.seat.now c.args.packets.now c.args.fill.now held c.requires.seated;
      cut = packets_none c.args.packets.now held;
      stored = stored_none c.args.fill.now (view c.args.seat.now) held;
      later = omega arith;
    }

pub loop-packet-preserved : goal.loop-packet-preserved
loop-packet-preserved g c =
    let l = c.loop-packet in
    let t = c.args.turn.now in
    let first = c.args.seat.now in
    let all = c.args.packets.now in
    let left = c.next.new.self in
    let packet = c.bytes-next.result.now in
    let was = c.args.fill.now in
    let before = g.K.ReplySink.held c.args.sink.now in
    let held = g.K.ReplySink.held l.sink in
    let out = g.K.ReplySink.held c.put_piece.new.sink in
    let e = c.store.ensures in
    let is : l.packets ≡ packet ∷ left = gave c.in_ok-next.field-0 l.packets left c.next.new.out c.if-branch.true c.in_ok-next.ensures.gives ∙ ap (λ (p : List ℕ). p ∷ left) (sym c.bytes-next.ensures) in
    let h : Filling t first l.seat all (packet ∷ left) was l.fill before held = subst (λ (ps : List (List ℕ)). Filling t first l.seat all ps was l.fill before held) is l.invariant.fills in
    record {
      fills = filling_on t first l.seat c.store.new.seat all left packet was l.fill c.store.new.fill before held out h (record { seated = e.seated; goes_on = e.goes_on; fills = e.fills; none = e.none }) c.in_ok-put_piece.ensures.puts;
      cut = packets_more all left packet before held out (view c.store.new.seat).task (subst (λ (ps : List (List ℕ)). PacketsOn all ps before held) is l.invariant.cut) c.in_ok-put_piece.ensures.puts;
      stored = stored_next l.fill c.store.new.fill (view first) (view l.seat) (view c.store.new.seat) packet (view c.store.new.seat).task before held out e.none e.stored l.invariant.stored c.in_ok-put_piece.ensures.puts;
      later = omega (arith, l.invariant.later, c.in_ok-put_piece.ensures.later);
    }

pub returns-in_err-put_piece-clause-front : goal.returns-in_err-put_piece-clause-front
returns-in_err-put_piece-clause-front g c =
    let l = c.loop-packet in
    let t = c.args.turn.now in
    let first = c.args.seat.now in
    let all = c.args.packets.now in
    let left = c.next.new.self in
    let packet = c.bytes-next.result.now in
    let was = c.args.fill.now in
    let before = g.K.ReplySink.held c.args.sink.now in
    let held = g.K.ReplySink.held l.sink in
    let out = g.K.ReplySink.held c.put_piece.new.sink in
    let e = c.store.ensures in
    let is : l.packets ≡ packet ∷ left = gave c.in_ok-next.field-0 l.packets left c.next.new.out c.if-branch.true c.in_ok-next.ensures.gives ∙ ap (λ (p : List ℕ). p ∷ left) (sym c.bytes-next.ensures) in
    let h : Filling t first l.seat all (packet ∷ left) was l.fill before held = subst (λ (ps : List (List ℕ)). Filling t first l.seat all ps was l.fill before held) is l.invariant.fills in
    on_err c.from_residual-in_err-put_piece.result (SendsFrontOf before out (concat all)) (filling_front t first l.seat c.store.new.seat all left packet was l.fill c.store.new.fill before held out h (record { seated = e.seated; goes_on = e.goes_on; fills = e.fills; none = e.none }) c.in_err-put_piece.ensures.part)

pub returns-in_err-put_piece-clause-cut : goal.returns-in_err-put_piece-clause-cut
returns-in_err-put_piece-clause-cut g c =
    let l = c.loop-packet in
    let all = c.args.packets.now in
    let left = c.next.new.self in
    let packet = c.bytes-next.result.now in
    let before = g.K.ReplySink.held c.args.sink.now in
    let held = g.K.ReplySink.held l.sink in
    let out = g.K.ReplySink.held c.put_piece.new.sink in
    let is : l.packets ≡ packet ∷ left = gave c.in_ok-next.field-0 l.packets left c.next.new.out c.if-branch.true c.in_ok-next.ensures.gives ∙ ap (λ (p : List ℕ). p ∷ left) (sym c.bytes-next.ensures) in
    packets_part all left packet before held out (view c.store.new.seat).task (subst (λ (ps : List (List ℕ)). PacketsOn all ps before held) is l.invariant.cut) c.in_err-put_piece.ensures.part

pub returns-in_err-put_piece-clause-stored : goal.returns-in_err-put_piece-clause-stored
returns-in_err-put_piece-clause-stored g c =
    let l = c.loop-packet in
    let packet = c.bytes-next.result.now in
    let before = g.K.ReplySink.held c.args.sink.now in
    let held = g.K.ReplySink.held l.sink in
    let out = g.K.ReplySink.held c.put_piece.new.sink in
    let e = c.store.ensures in
    stored_part l.fill c.store.new.fill (view c.args.seat.now) (view l.seat) (view c.store.new.seat) packet (view c.store.new.seat).task before held out e.none e.stored l.invariant.stored c.in_err-put_piece.ensures.part

pub returns-in_err-next-clause-stored : goal.returns-in_err-next-clause-stored
returns-in_err-next-clause-stored g c =
    let l = c.loop-packet in
    stored_so l.fill (view c.args.seat.now) (view l.seat) (g.K.ReplySink.held c.args.sink.now) (g.K.ReplySink.held l.sink) l.invariant.stored

pub returns-clause-stored : goal.returns-clause-stored
returns-clause-stored g c =
    let l = c.loop-packet in
    stored_so l.fill (view c.args.seat.now) (view l.seat) (g.K.ReplySink.held c.args.sink.now) (g.K.ReplySink.held l.sink) l.invariant.stored
