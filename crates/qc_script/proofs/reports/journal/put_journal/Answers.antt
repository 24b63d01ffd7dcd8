use Rattle.qc_script.proofs.Joined.{journal_more}
use Rattle.qc_script.proofs.reports.journal.put_journal.Goals as goal

pub loop-index-preserved : goal.loop-index-preserved
loop-index-preserved c = journal_more _ _ _ c.args.events.now c.loop-index.index _ c.loop-index.invariant c.loop-index-test.true c.index-events-index.is c.in_ok-put_line.ensures
