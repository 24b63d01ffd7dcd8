use Rattle.std.proofs.Common.{◌≡◌, ◌<◌, ◌-◌, ◌∙◌, ℕ, ap, sym, subst, arith}
use Rattle.atomic_table.specs.Table.{Allows, step}
use mathlib.Core.Option.{none}
use Rattle.qc_turn.specs.Rules.{TurnRule}
use Rattle.qc_turn.specs.Steps.{stores_word}
use Rattle.qc_turn.specs.Views.{with_holding, written}
use Rattle.qc_turn.specs.Words.{line_words, region_word}
use Rattle.qc_turn.proofs.RuleKept.{writes_held}
use Rattle.qc_turn.proofs.turn.Turn.write.Goals as goal

pub store-requires : goal.store-requires
store-requires g c =
    let me = c.args.seat.now.pass.me in
    let t = c.args.self.now in
    let size = t.table.shared.key.size in
    let slots = t.table.shared.table_id.slots in
    let id = c.args.seat.now.pass.id in
    let x = c.args.value in
    let live : 0 < me.0.number = omega (arith, c.args.seat.now.numbered.0, c.args.seat.now.numbered.1) in
    let inside : c.args.word < size = omega (arith, c.requires.inside, t.sized.2) in
    let at : region_word c.args.word ≡ c.region_index.result = sym c.region_index.ensures in
    let fits : c.region_index.result < t.table.shared.table_id.words = omega (arith, at, t.sized.0, c.requires.inside) in
    (c.requires.turn, fits, subst (λ (w : ℕ). Allows (TurnRule g.V.Kept size) slots id me w (λ _. x) (λ _. stores_word g.V.Kept (step slots w x 0 none) me x)) at (writes_held g.V.Kept size slots id me c.args.word x live c.requires.free inside))

pub returns-clause-view : goal.returns-clause-view
returns-clause-view g c =
    let v = c.args.seat.now.pass.me.0 in
    let back : c.region_index.result - line_words ≡ c.args.word = omega (arith, c.region_index.ensures) in
    ap (λ m. m.0) c.store.ensures.2 ∙ ap (λ (k : ℕ). with_holding v (written v.holding k c.args.value)) back
