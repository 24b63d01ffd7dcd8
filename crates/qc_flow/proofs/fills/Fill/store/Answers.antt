use Rattle.std.proofs.Common.{◌≡◌, ◌++◌, drop, ap, sym, subst, ◌∙◌, append_assoc}
use Rattle.std.proofs.lemmas.List.{take-append-drop}
use Rattle.qc_turn.specs.Seats.{view}
use Rattle.qc_sound.specs.Sound.{FitsFill}
use Rattle.qc_flow.proofs.fills.Fill.store.Goals as goal

pub store_piece-requires-clause-fits : goal.store_piece-requires-clause-fits
store_piece-requires-clause-fits c = λ front begins.
    let v = view c.args.seat.now in
    let i = c.loop-rest.invariant in
    let done = i.split.0 in
    let now = ap (λ w. w.content) i.split.2 in
    let piece = c.split_at.result.0.now in
    let n = c.min.result in
    let behind = drop n c.loop-rest.rest.now in
    let rest : c.loop-rest.rest.now ≡ piece ++ behind = sym (take-append-drop n c.loop-rest.rest.now) ∙ ap (λ l. l ++ behind) (sym c.split_at.ensures.front) in
    let all : v.content ++ c.args.bytes.now ≡ ((view c.loop-rest.seat).content ++ piece) ++ behind =
    ap (λ l. v.content ++ l) (i.split.1 ∙ ap (λ l. done ++ l) rest) ∙ (sym (append_assoc v.content done (piece ++ behind)) ∙ (sym (append_assoc (v.content ++ done) piece behind) ∙ ap (λ l. (l ++ piece) ++ behind) (sym now))) in
    let fits = c.requires.fits front (begins.0 ++ behind, all ∙ (ap (λ l. l ++ behind) begins.1 ∙ append_assoc front begins.0 behind)) in
    subst (λ w. FitsFill w.seen c.loop-rest.self.serial front) (sym i.split.2) (subst (λ k. FitsFill v.seen k front) (sym i.same.0) fits)
