use Rattle.std.proofs.Common.{◌≡◌, ℕ, ◌-◌, ◌<◌, ◌≤◌, false}
use Rattle.std.specs.Prelude.{IfSome}
use Rattle.qc_model.specs.Journal.{event_at}
use Rattle.qc_core.specs.OvertakenFill.{is_start_of}
use Rattle.qc_core.proofs.overtaken_fill.start_of.Given as goal

abbrev pub invariant-loop-back : goal.invariant-loop-back
invariant-loop-back l = (k : ℕ) → l.count - l.back < k → k ≤ l.count → IfSome (event_at l.journal.events k) (λ e. is_start_of l.serial e ≡ false)
