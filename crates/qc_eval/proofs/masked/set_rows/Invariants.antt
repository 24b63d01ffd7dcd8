use Rattle.std.proofs.Common.{◌≡◌, ◌+◌, ◌-◌, ◌*◌, ◌≤◌, []}
use Rattle.qc_sql.specs.Database.{Table}
use Rattle.qc_lane.specs.SetBits.{IsAhead}
use Rattle.qc_eval.specs.Entries.{kept_indexes}
use Rattle.qc_eval.specs.Lanes.{IsMask, IsWindow, window_rows}
use Rattle.qc_eval.specs.Walk.{Keeping}
use Rattle.qc_eval.proofs.masked.set_rows.Given as goal

-- the rows whose bits are behind
abbrev pub invariant-loop-i : goal.invariant-loop-i
invariant-loop-i l = record {
  ahead : IsAhead l.mask l.bits;
  within : l.bits.from ≤ l.window.count;
  rows : (keep : Keeping) (t : Table) → IsWindow t l.window → IsMask (window_rows t l.window) keep l.mask → kept_indexes keep t.rows (64 * l.window.word) ≡ [] → l.rows ≡ kept_indexes keep t.rows (64 * l.window.word + l.bits.from);
}

abbrev pub decreases-loop-i : goal.decreases-loop-i
decreases-loop-i l = l.window.count - l.bits.from
