-- A row that is put is one more change.
use Rattle.std.proofs.Common.{◌≡◌, rules, w64, FitsSigned, Some, refl}
use Rattle.std.proofs.lemmas.Int.{to_z-of_z}
use Rattle.qc_sql.specs.Database.{key_of}
use Rattle.qc_table.proofs.Drafts.{change_put, put_is_row}
use Rattle.qc_table.proofs.draft_table.DraftTable.put.Goals as goal

pub invariant_of-self-2 : goal.invariant_of-self-2
invariant_of-self-2 c =
    let cs = c.self.inside.base.columns in
    let row = c.args.row.now in
    let key = c.key_of_row-key.result in
    let fits : FitsSigned w64 key = search rules in
    let is : key ≡ key_of cs row = rw (c.columns.ensures.value) at c.key_of_row-key.ensures in
    let after = rw (to_z-of_z w64 key fits, is, c.in_ok-row.ensures) at c.in_ok-insert.ensures.entries in
    let row_fits = rw (← c.self.view_is) at c.requires in
    record {
      base = c.self.invariant.base;
      changes = rw after (change_put cs (key_of cs row) (Some row) c.self.inside.changes.entries (row_fits, refl) c.self.invariant.changes);
      ordered = c.in_ok-insert.ensures.ordered;
    }

pub returns : goal.returns
returns c =
    let cs = c.self.inside.base.columns in
    let row = c.args.row.now in
    let key = c.key_of_row-key.result in
    let fits : FitsSigned w64 key = search rules in
    let is : key ≡ key_of cs row = rw (c.columns.ensures.value) at c.key_of_row-key.ensures in
    let after = rw (to_z-of_z w64 key fits, is, c.in_ok-row.ensures) at c.in_ok-insert.ensures.entries in
    rw (after, ← c.self.view_is) (put_is_row c.self.inside.base c.self.inside.changes.entries row c.self.invariant)
