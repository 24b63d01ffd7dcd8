-- The database is there, and what is inserted into its tables changes it there alone.
use Rattle.std.proofs.Common.{◌≡◌, refl, ap, ◌∙◌, true}
use Rattle.std.specs.Prelude.{is_some}
use Rattle.std.proofs.lemmas.Result.{on_ok_weaker}
use Rattle.qc_sql.specs.Database.{tables_of}
use Rattle.qc_table.proofs.Rows.{both}
use Rattle.qc_table.proofs.Maps.{changed}
use Rattle.qc_table.proofs.draft.Draft.create_table.Goals as goal

pub new-requires : goal.new-requires
new-requires c = (both _ _ c.requires).1

pub unreachable-requires : goal.unreachable-requires
unreachable-requires c =
    let none = rw (c.bytes.ensures, c.self.view_is) at c.in_default.ensures.value in
    let there : is_some (tables_of c.args.table.now.db c.args.self.now) ≡ true = (both _ _ (both _ _ c.requires).0).0 in
    absurd (cc (ap is_some none, there))

pub returns : goal.returns
returns c =
    let found = rw (c.bytes.ensures, c.self.view_is) at c.in-Some.ensures.value in
    let ends = rw (c.bytes.ensures, c.self.view_is) at (c.get_mut.follows.holds c.insert.new.self) in
    on_ok_weaker c.insert.result (λ made. changed _ _ _ _ _ _ ends found (made ∙ rw (c.bytes-2.ensures, c.in_ok-draft.ensures) refl)) c.insert.ensures.ok
