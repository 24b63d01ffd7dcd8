-- The database is there, and what is removed from its tables changes it there alone.
use Rattle.std.proofs.Common.{refl, ap, ◌∙◌}
use Rattle.std.specs.Prelude.{is_some, option_and_then}
use Rattle.qc_sql.specs.Database.{at_name}
use Rattle.qc_table.proofs.Maps.{changed}
use Rattle.qc_table.proofs.draft.Draft.drop_table.Goals as goal

pub unreachable-requires : goal.unreachable-requires
unreachable-requires c =
    let none = rw (c.bytes.ensures, c.self.view_is) at c.in_default.ensures.value in
    absurd (cc (ap is_some (ap (option_and_then (at_name c.args.table.now.name)) none), c.requires))

pub returns : goal.returns
returns c =
    let found = rw (c.bytes.ensures, c.self.view_is) at c.in-Some.ensures.value in
    let ends = rw (c.bytes.ensures, c.self.view_is) at (c.get_mut.follows.holds c.remove.new.self) in
    changed _ _ _ _ _ _ ends found (c.remove.ensures ∙ rw c.bytes-2.ensures refl)
