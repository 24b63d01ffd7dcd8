-- A key that is taken out is one more change.
use Rattle.std.proofs.Common.{w64, None}
use Rattle.std.proofs.lemmas.Int.{to_z-of_z}
use Rattle.qc_table.proofs.Drafts.{change_put, del_is_row}
use Rattle.qc_table.proofs.draft_table.DraftTable.del.Goals as goal

pub invariant_of-self-2 : goal.invariant_of-self-2
invariant_of-self-2 c =
    let after = rw (to_z-of_z w64 c.args.key c.ranges.key) at c.in_ok-insert.ensures.entries in
    record {
      base = c.self.invariant.base;
      changes = rw after (change_put c.self.inside.base.columns c.args.key None c.self.inside.changes.entries tt c.self.invariant.changes);
      ordered = c.in_ok-insert.ensures.ordered;
    }

pub returns : goal.returns
returns c =
    let after = rw (to_z-of_z w64 c.args.key c.ranges.key) at c.in_ok-insert.ensures.entries in
    rw (after, ← c.self.view_is) (del_is_row c.self.inside.base c.self.inside.changes.entries c.args.key c.self.invariant)
