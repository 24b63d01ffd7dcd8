use Rattle.std.proofs.Common.{◌*◌, ◌<◌, ◌≤◌, refl, inl, ◌∙◌, arith}
use Rattle.std.proofs.lemmas.Bool.Decides.{nat_tests}
use Rattle.qc_chain.specs.Words.{words_of}
use Rattle.qc_turn.specs.Seats.{view}
use Rattle.qc_flow.proofs.Takings.{fill_words}
use Rattle.qc_flow.proofs.growths.make_room.Goals as goal

pub returns-then-total-from-clause-step : goal.returns-then-total-from-clause-step
returns-then-total-from-clause-step g c =
    let v = view c.args.seat.now in
    let words = c.words.ensures c.args.turn.now c.requires.seated.0 ∙ fill_words v c.args.serial c.requires.seated.1 in
    let same = c.from.ensures in
    let test = c.if-total-from.true in
    let held : c.args.total ≤ 8 * words_of v.blocks = grind (arith, nat_tests, test, same, words) in
    (c.requires.seated.1, refl, inl refl, held)

pub widen-requires-clause-fewer : goal.widen-requires-clause-fewer
widen-requires-clause-fewer g c =
    let v = view c.args.seat.now in
    let words = c.words.ensures c.args.turn.now c.requires.seated.0 ∙ fill_words v c.args.serial c.requires.seated.1 in
    let same = c.from.ensures in
    let test = c.if-total-from.false in
    let fewer : 8 * words_of v.blocks < c.args.total = grind (arith, nat_tests, test, same, words) in
    fewer

pub returns-clause-calm : goal.returns-clause-calm
returns-clause-calm g c = λ held.
    let v = view c.args.seat.now in
    let words = c.words.ensures c.args.turn.now c.requires.seated.0 ∙ fill_words v c.args.serial c.requires.seated.1 in
    let same = c.from.ensures in
    let test = c.if-total-from.false in
    let fewer : 8 * words_of v.blocks < c.args.total = grind (arith, nat_tests, test, same, words) in
    absurd (omega (arith, held, fewer))
