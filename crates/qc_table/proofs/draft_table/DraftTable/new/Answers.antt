-- A table without rows.
use Rattle.qc_table.proofs.Drafts.{none_stored}
use Rattle.qc_table.proofs.draft_table.DraftTable.new.Goals as goal

pub new-requires : goal.new-requires
new-requires c = rw c.in_ok-rows.ensures (none_stored c.args.columns.now c.requires)
