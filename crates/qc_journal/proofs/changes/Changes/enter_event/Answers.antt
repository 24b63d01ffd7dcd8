-- The tables that a commit touches are those of its operations.
use Rattle.qc_journal.proofs.changes.Changes.enter_event.Goals as goal

pub returns-in-Commit-clause-ok : goal.returns-in-Commit-clause-ok
returns-in-Commit-clause-ok c = rw c.in-Commit.is (rw c.items.ensures at c.enter_ops.ensures.ok)
