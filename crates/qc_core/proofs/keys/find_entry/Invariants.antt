use Rattle.std.proofs.Common.{◌-◌, ◌^◌}
use Rattle.qc_core.specs.KeySpelling.{IsSame}
use Rattle.qc_core.proofs.Seeking.{IsSought}
use Rattle.qc_core.proofs.keys.find_entry.Given as goal

abbrev pub invariant-loop-serial : goal.invariant-loop-serial
invariant-loop-serial l = IsSame l.fn.held l.held × IsSought l.fn.held.value l.key l.from

abbrev pub decreases-loop-serial : goal.decreases-loop-serial
decreases-loop-serial l = 2 ^ 64 - l.from
