use Rattle.std.proofs.Common.{◌≡◌, take, count_by}
use Rattle.qc_app.specs.workload.Counts.{is_commit}
use Rattle.qc_app.proofs.summary.commits_in.Given as goal

abbrev pub invariant-loop-event : goal.invariant-loop-event
invariant-loop-event l = l.commits ≡ count_by is_commit (take l.event-index l.events)
