-- One more database is made, until none is left.
use Rattle.std.proofs.Common.{◌≡◌, ◌++◌, ◌∙◌, ap, sym, subst, append-nil, None}
use Rattle.std.specs.Prelude.{Ok}
use Rattle.std.specs.List.Sorted.{IsStrictlySortedBy}
use Rattle.std.specs.Map.{keys_of}
use Rattle.std.specs.Map.Iter.{deref_pair}
use Rattle.std.proofs.lemmas.Map.Iter.{rest_more, rest_all}
use Rattle.qc_sql.specs.Database.{name_cmp, Database}
use Rattle.qc_sql.specs.Words.{◌or_else◌}
use Rattle.qc_model.specs.Machine.{full_in, full_table}
use Rattle.qc_table.proofs.Maps.{named}
use Rattle.qc_table.proofs.Drafts.{insert_behind}
use Rattle.qc_table.proofs.Fits.{unless_ok}
use Rattle.qc_table.proofs.draft.Draft.versions.Goals as goal

pub loop-db-preserved : goal.loop-db-preserved
loop-db-preserved c =
    let tables = c.in-Some.tables.now in
    let more = rest_more deref_pair _ _ c.next.result (c.in-Some.db, c.in-Some.tables) c.in-Some.is c.next.ensures.steps in
    let before = ap (λ es. c.loop-db.made ++ named (λ k. k.items) es) (sym more) ∙ c.loop-db.invariant.made in
    let ordered = subst (λ (m : Database). IsStrictlySortedBy name_cmp (keys_of m)) (c.self.view_is ∙ sym before) c.is_in_order.ensures in
    let fits = unless_ok (full_in c.in-Some.db.now.items tables) tables c.in_ok-versions.versions (rw c.as_slice.ensures.value at c.in_ok-versions.ensures) in
    record {
      made = rw (c.in_ok-insert.ensures.ok, c.as_slice-in-loop-db.ensures.value, fits.1) (insert_behind c.loop-db.made _ _ _ ordered ∙ before);
      full = c.loop-db.invariant.full ∙ (ap (λ es. full_table (named (λ k. k.items) es)) more ∙ ap (λ o. o or_else full_table (named (λ k. k.items) c.next.new.self)) fits.0);
    }

pub returns : goal.returns
returns c =
    let none = rest_all deref_pair _ _ c.next.result c.in-None.is c.next.ensures.steps in
    let made : c.loop-db.made ≡ c.args.self.now =
    sym (append-nil c.loop-db.made) ∙ (ap (λ es. c.loop-db.made ++ named (λ k. k.items) es) (sym none) ∙ c.loop-db.invariant.made) in
    let full : full_table c.args.self.now ≡ None = c.loop-db.invariant.full ∙ ap (λ es. full_table (named (λ k. k.items) es)) none in
    rw full (ap Ok (sym made))
