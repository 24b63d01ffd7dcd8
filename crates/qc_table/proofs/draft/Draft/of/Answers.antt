-- One more database is copied, until none is left.
use Rattle.std.proofs.Common.{◌++◌, ◌∙◌, ap, sym, subst, append-nil}
use Rattle.std.specs.List.Sorted.{IsStrictlySortedBy}
use Rattle.std.specs.Map.{keys_of}
use Rattle.std.specs.Map.Iter.{deref_pair}
use Rattle.std.proofs.lemmas.Map.Iter.{rest_more, rest_all}
use Rattle.qc_sql.specs.Database.{name_cmp, Database}
use Rattle.qc_table.proofs.Maps.{named}
use Rattle.qc_table.proofs.Drafts.{insert_behind}
use Rattle.qc_table.proofs.draft.Draft.of.Goals as goal

pub loop-db-preserved : goal.loop-db-preserved
loop-db-preserved c =
    let more = rest_more deref_pair _ _ c.next.result (c.in-Some.db, c.in-Some.tables) c.in-Some.is c.next.ensures.steps in
    let before = ap (λ es. c.loop-db.databases ++ named (λ k. k.items) es) (sym more) ∙ c.loop-db.invariant in
    let ordered = subst (λ (m : Database). IsStrictlySortedBy name_cmp (keys_of m)) (sym before) c.is_in_order.ensures in
    rw (c.in_ok-insert.ensures.ok, c.as_slice.ensures.value, c.in_ok-drafts_of.ensures) (insert_behind c.loop-db.databases _ _ _ ordered ∙ before)

pub returns : goal.returns
returns c =
    let none = rest_all deref_pair _ _ c.next.result c.in-None.is c.next.ensures.steps in
    sym (append-nil c.loop-db.databases) ∙ (ap (λ es. c.loop-db.databases ++ named (λ k. k.items) es) (sym none) ∙ c.loop-db.invariant)
