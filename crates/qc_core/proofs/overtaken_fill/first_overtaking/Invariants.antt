use Rattle.std.proofs.Common.{◌≡◌, ℕ, ◌<◌, ◌≤◌, false}
use Rattle.std.specs.Prelude.{IfSome}
use Rattle.qc_model.specs.Journal.{event_at}
use Rattle.qc_core.specs.OvertakenFill.{overtakes}
use Rattle.qc_core.proofs.overtaken_fill.first_overtaking.Given as goal

abbrev pub invariant-loop-number : goal.invariant-loop-number
invariant-loop-number l = (l.after ≤ l.number) × ((k : ℕ) → l.after < k → k ≤ l.number → IfSome (event_at l.journal.events k) (λ e. overtakes l.tables e ≡ false))
