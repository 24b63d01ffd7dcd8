-- What is merged is sound, and has no more rows than may be stored.
use Rattle.std.proofs.Common.{◌≤◌, ap, arith, length, subst}
use Rattle.std.proofs.lemmas.Map.Entries.{length-keys_of}
use Rattle.qc_sql.specs.Database.{most_rows}
use Rattle.qc_model.specs.Sound.{IsSoundTable}
use Rattle.qc_table.proofs.draft_table.DraftTable.version.Goals as goal

pub new-requires : goal.new-requires
new-requires c =
    let rows = c.in_ok-rows.rows.rows in
    let within : length rows ≤ most_rows = omega (arith, ap length c.keys.ensures, length-keys_of rows) in
    record { sound = subst IsSoundTable c.rows-2.view_is c.rows-2.invariant.1; within = within }

pub merge-requires-clause-ordered : goal.merge-requires-clause-ordered
merge-requires-clause-ordered c = c.self.invariant.ordered
