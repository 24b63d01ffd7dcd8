-- The draft is the table without the row.
use Rattle.std.proofs.Common.{w64}
use Rattle.std.proofs.lemmas.Int.{to_z-of_z}
use Rattle.qc_table.proofs.table_version.TableVersion.del.Goals as goal

pub returns : goal.returns
returns c =
    let deleted = rw (to_z-of_z w64 c.args.key c.ranges.key, c.in_ok-draft.ensures) at c.in_ok-del.ensures in
    rw deleted at c.become_draft.ensures
