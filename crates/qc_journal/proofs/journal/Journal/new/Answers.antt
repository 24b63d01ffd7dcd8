-- Nothing is counted, and nothing is found.
use Rattle.std.proofs.Common.{arith, refl}
use Rattle.qc_journal.proofs.Sessions.{none_counted}
use Rattle.qc_journal.proofs.journal.Journal.new.Goals as goal

pub invariant_of-result : goal.invariant_of-result
invariant_of-result c =
    rw c.new.ensures.items (record {
      counted = record { com_select = refl; hits = refl; inserts = refl; not_cached = refl; lowmem_prunes = refl };
      by_session = none_counted;
      within = omega arith;
      indexed = λ t. rw c.new-2.ensures.entered (c.new-2.ensures.found t);
    })
