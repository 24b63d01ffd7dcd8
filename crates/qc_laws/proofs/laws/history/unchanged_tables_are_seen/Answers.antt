use Rattle.qc_laws.proofs.history.Seen.{sees_present}
use Rattle.qc_laws.proofs.laws.history.unchanged_tables_are_seen.Goals as goal

pub returns : goal.returns
returns c = sees_present
