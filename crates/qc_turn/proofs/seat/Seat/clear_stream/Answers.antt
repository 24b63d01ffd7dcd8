use Rattle.std.proofs.Common.{◌≡◌, ◌<◌, ℕ, ap, subst, arith}
use Rattle.atomic_table.specs.Table.{Allows, step}
use mathlib.Core.Option.{none}
use Rattle.qc_turn.specs.Rules.{TurnRule}
use Rattle.qc_turn.specs.Steps.{clears_task_word}
use Rattle.qc_turn.specs.Tasks.{is_stream}
use Rattle.qc_turn.specs.Words.{task_word}
use Rattle.qc_turn.proofs.RuleKept.{clears_step}
use Rattle.qc_turn.proofs.seat.Seat.clear_stream.Goals as goal

pub store-requires : goal.store-requires
store-requires g c =
    let me = c.args.self.now.pass.me in
    let t = c.args.turn.now in
    let size = t.table.shared.key.size in
    let slots = t.table.shared.table_id.slots in
    let id = c.args.self.now.pass.id in
    let live : 0 < me.0.number = omega (arith, c.args.self.now.numbered.0, c.args.self.now.numbered.1) in
    let at : task_word size me.0.number ≡ c.task_index-word.result = omega (arith, c.task_index-word.ensures, t.sized.2, c.args.self.now.numbered.0) in
    let low = c.args.self.now.few.1 (c.args.self.now.few.0 (ap is_stream c.requires.streaming.1)) in
    let fits : c.task_index-word.result < t.table.shared.table_id.words = omega (arith, c.task_index-word.ensures, t.sized.0, low) in
    (c.requires.seated.table, fits, subst (λ (w : ℕ). Allows (TurnRule g.V.Kept size) slots id me w (λ _. 0) (λ _. clears_task_word g.V.Kept (step slots w 0 0 none) me 0)) at (clears_step g.V.Kept size slots id me c.requires.streaming.0 live c.requires.seated.free c.requires.streaming.1))
