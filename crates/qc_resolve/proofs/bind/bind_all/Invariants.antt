use Rattle.std.proofs.Common.{◌≡◌, drop}
use Rattle.std.specs.List.{AllByRecursion}
use Rattle.qc_sql.specs.Rows.{each, bind}
use Rattle.qc_resolve.specs.Fit.{IsSoundBound}
use Rattle.qc_resolve.specs.Steps.{run, push_made}
use Rattle.qc_resolve.proofs.bind.bind_all.Given as goal

abbrev pub invariant-loop-source : goal.invariant-loop-source
invariant-loop-source l = record {
  gives : each (bind l.database l.db) l.sources ≡ run (push_made (bind l.database l.db)) (drop l.source-index l.sources) l.bounds;
  sound : AllByRecursion IsSoundBound l.bounds;
}
