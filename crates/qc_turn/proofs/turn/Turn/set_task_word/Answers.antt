use Rattle.std.proofs.Common.{◌≡◌, ◌<◌, ℕ, subst, arith}
use Rattle.atomic_table.specs.Table.{Allows, step}
use mathlib.Core.Option.{none}
use Rattle.qc_turn.specs.Rules.{TurnRule}
use Rattle.qc_turn.specs.Steps.{sets_task_word}
use Rattle.qc_turn.specs.Words.{task_word}
use Rattle.qc_turn.proofs.RuleKept.{sets_held}
use Rattle.qc_turn.proofs.turn.Turn.set_task_word.Goals as goal

pub store-requires : goal.store-requires
store-requires g c =
    let me = c.args.seat.now.pass.me in
    let t = c.args.self.now in
    let size = t.table.shared.key.size in
    let slots = t.table.shared.table_id.slots in
    let id = c.args.seat.now.pass.id in
    let live : 0 < me.0.number = omega (arith, c.args.seat.now.numbered.0, c.args.seat.now.numbered.1) in
    let at : task_word size me.0.number ≡ c.task_index-word.result = omega (arith, c.task_index-word.ensures, t.sized.2, c.args.seat.now.numbered.0) in
    let fits : c.task_index-word.result < t.table.shared.table_id.words = omega (arith, c.task_index-word.ensures, t.sized.0, c.args.seat.now.numbered.0, c.requires.few) in
    (c.requires.turn.0, fits, subst (λ (w : ℕ). Allows (TurnRule g.V.Kept size) slots id me w (λ _. 1) (λ _. sets_task_word g.V.Kept (step slots w 1 0 none) me 1)) at (sets_held g.V.Kept size slots id me live c.requires.few c.requires.turn.1))
