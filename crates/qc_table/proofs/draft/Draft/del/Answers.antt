-- The table is there, and what changes it changes the tables of its database, and these the whole.
use Rattle.std.proofs.Common.{ap, ◌∙◌, w64}
use Rattle.std.specs.Prelude.{option_and_then}
use Rattle.std.proofs.lemmas.Int.{to_z-of_z}
use Rattle.std.proofs.lemmas.Result.{on_ok_weaker}
use Rattle.qc_sql.specs.Database.{at_name}
use Rattle.qc_model.specs.Licence.{has_row}
use Rattle.qc_table.proofs.Maps.{changed}
use Rattle.qc_table.proofs.draft.Draft.del.Goals as goal

pub unreachable-requires : goal.unreachable-requires
unreachable-requires c =
    let none = rw (c.bytes.ensures, c.self.view_is) at c.in_default.ensures.value in
    absurd (cc (ap (λ t. has_row t c.args.key) (ap (option_and_then (at_name c.args.table.now.name)) none), c.requires))

pub unreachable-requires-in_default-get_mut : goal.unreachable-requires-in_default-get_mut
unreachable-requires-in_default-get_mut c =
    let tables = rw (c.bytes.ensures, c.self.view_is) at c.in-Some.ensures.value in
    let none = rw (c.bytes-2.ensures) at c.in_default-get_mut.ensures.value in
    absurd (cc (ap (λ t. has_row t c.args.key) (none ∙ ap (option_and_then (at_name c.args.table.now.name)) tables), c.requires))

pub returns : goal.returns
returns c =
    let tables = rw (c.bytes.ensures, c.self.view_is) at c.in-Some.ensures.value in
    let version = rw (c.bytes-2.ensures) at c.in-Some-get_mut.ensures.value in
    let outer = rw (c.bytes.ensures, c.self.view_is) at (c.get_mut.follows.holds (c.get_mut-2.follows.lender c.del.new.self)) in
    let inner = rw (c.bytes-2.ensures) at (c.get_mut-2.follows.holds c.del.new.self) in
    on_ok_weaker c.del.result (λ made. changed _ _ _ _ _ _ outer tables (changed _ _ _ _ _ _ inner version made)) (rw (to_z-of_z w64 c.args.key c.ranges.key) at c.del.ensures)
