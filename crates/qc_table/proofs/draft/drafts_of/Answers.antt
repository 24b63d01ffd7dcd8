-- One more table is copied, until none is left.
use Rattle.std.proofs.Common.{◌++◌, ◌∙◌, ap, sym, subst, append-nil}
use Rattle.std.specs.List.Sorted.{IsStrictlySortedBy}
use Rattle.std.specs.Map.{keys_of}
use Rattle.std.specs.Map.Iter.{deref_pair}
use Rattle.std.proofs.lemmas.Map.Iter.{rest_more, rest_all}
use Rattle.qc_sql.specs.Database.{name_cmp, Tables}
use Rattle.qc_table.proofs.Maps.{named}
use Rattle.qc_table.proofs.Drafts.{insert_behind}
use Rattle.qc_table.proofs.draft.drafts_of.Goals as goal

pub loop-name-preserved : goal.loop-name-preserved
loop-name-preserved c =
    let more = rest_more deref_pair _ _ c.next.result (c.in-Some.name, c.in-Some.version) c.in-Some.is c.next.ensures.steps in
    let before = ap (λ es. c.loop-name.drafts ++ named (λ k. k.items) es) (sym more) ∙ c.loop-name.invariant in
    let ordered = subst (λ (m : Tables). IsStrictlySortedBy name_cmp (keys_of m)) (sym before) c.is_in_order.ensures in
    rw (c.in_ok-insert.ensures.ok, c.as_slice.ensures.value, c.in_ok-of.ensures) (insert_behind c.loop-name.drafts _ _ _ ordered ∙ before)

pub returns : goal.returns
returns c =
    let none = rest_all deref_pair _ _ c.next.result c.in-None.is c.next.ensures.steps in
    sym (append-nil c.loop-name.drafts) ∙ (ap (λ es. c.loop-name.drafts ++ named (λ k. k.items) es) (sym none) ∙ c.loop-name.invariant)
