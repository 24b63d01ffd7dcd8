use Rattle.std.proofs.Common.{◌≡◌, ◌<◌, ℕ, refl, sym, subst, arith}
use Rattle.atomic_table.specs.Table.{Allows, step}
use mathlib.Core.Option.{none}
use Rattle.qc_turn.specs.Rules.{TurnRule}
use Rattle.qc_turn.specs.Steps.{loads_word}
use Rattle.qc_turn.specs.Words.{region_word}
use Rattle.qc_turn.proofs.RuleKept.{reads, read_as}
use Rattle.qc_turn.proofs.turn.Turn.read.Goals as goal

pub load-requires : goal.load-requires
load-requires g c =
    let me = c.args.seat.now.pass.me in
    let t = c.args.self.now in
    let size = t.table.shared.key.size in
    let slots = t.table.shared.table_id.slots in
    let id = c.args.seat.now.pass.id in
    let live : 0 < me.0.number = omega (arith, c.args.seat.now.numbered.0, c.args.seat.now.numbered.1) in
    let inside : c.args.word < size = omega (arith, c.requires.inside, t.sized.2) in
    let at : region_word c.args.word ≡ c.region_index.result = sym c.region_index.ensures in
    let fits : c.region_index.result < t.table.shared.table_id.words = omega (arith, at, t.sized.0, c.requires.inside) in
    (c.requires.turn, fits, subst (λ (w : ℕ). Allows (TurnRule g.V.Kept size) slots id me w (λ n. n) (loads_word g.V.Kept (step slots w 0 0 none) me)) at (reads g.V.Kept size slots id me c.args.word live inside))

pub returns-clause-word : goal.returns-clause-word
returns-clause-word g c = read_as g.V.Kept 0 c.args.seat.now.pass.me.0.holding _ c.args.word c.region_index.result c.load.result c.args.seat.now.pass.me.0 c.region_index.ensures refl refl c.load.ensures.2.1
