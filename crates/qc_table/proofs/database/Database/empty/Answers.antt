-- No databases stand in order, and within rows.
use Rattle.qc_table.proofs.InPlace.{none_held}
use Rattle.qc_table.proofs.database.Database.empty.Goals as goal

pub invariant_of-result : goal.invariant_of-result
invariant_of-result c = rw (c.in_ok-new.ensures.ok, c.new.ensures) none_held
