use Rattle.qc_script.proofs.Joined.{report_parts}
use Rattle.qc_script.proofs.reports.report_text.Goals as goal

pub returns : goal.returns
returns c =
    let sessions = rw c.items.ensures at c.in_ok-put_sessions.ensures in
    let journal = rw c.items-2.ensures at c.in_ok-put_journal.ensures in
    report_parts c.args.report.now _ _ _ _ _ _ c.in_ok-out.ensures c.in_ok-put_options.ensures sessions journal c.in_ok-put_counters.ensures c.in_ok-extend.ensures.ok
