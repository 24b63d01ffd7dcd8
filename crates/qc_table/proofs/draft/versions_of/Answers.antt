-- One more table is made, until none is left or one is too full, which is the first.
use Rattle.std.proofs.Common.{◌≡◌, ◌++◌, ◌∙◌, ap, sym, None, subst, append-nil}
use Rattle.std.specs.Prelude.{Ok}
use Rattle.std.specs.List.Sorted.{IsStrictlySortedBy}
use Rattle.std.specs.Map.{keys_of}
use Rattle.std.specs.Map.Iter.{deref_pair}
use Rattle.std.proofs.lemmas.Map.Iter.{rest_more, rest_all}
use Rattle.qc_sql.specs.Database.{name_cmp, Tables}
use Rattle.qc_sql.specs.Words.{◌or_else◌, when}
use Rattle.qc_model.specs.Machine.{full_in}
use Rattle.qc_table.specs.Fitting.{fitting_table}
use Rattle.qc_table.proofs.Maps.{named}
use Rattle.qc_table.proofs.Drafts.{first_full, insert_behind, not_full, refused}
use Rattle.qc_table.proofs.draft.versions_of.Goals as goal

pub loop-name-preserved : goal.loop-name-preserved
loop-name-preserved c =
    let db = c.args.db.now in
    let more = rest_more deref_pair _ _ c.next.result (c.in-Some.name, c.in-Some.draft) c.in-Some.is c.next.ensures.steps in
    let before = ap (λ es. c.loop-name.made ++ named (λ k. k.items) es) (sym more) ∙ c.loop-name.invariant.made in
    let ordered = subst (λ (m : Tables). IsStrictlySortedBy name_cmp (keys_of m)) (sym before) c.is_in_order.ensures in
    let fits = not_full c.in-Some.draft.now c.in-Some-2.version (sym c.in-Some-2.is ∙ c.in_ok-version.ensures) in
    record {
      made = rw (c.in_ok-insert.ensures.ok, c.as_slice-in-loop-name.ensures.value, fits.1) (insert_behind c.loop-name.made _ _ _ ordered ∙ before);
      full = c.loop-name.invariant.full ∙ (ap (λ es. full_in db (named (λ k. k.items) es)) more ∙ ap (λ b. (when b (record { db = db; name = c.in-Some.name.now.items })) or_else full_in db (named (λ k. k.items) c.next.new.self)) fits.0);
    }

pub returns-in_default : goal.returns-in_default
returns-in_default c =
    let more = rest_more deref_pair _ _ c.next.result (c.in-Some.name, c.in-Some.draft) c.in-Some.is c.next.ensures.steps in
    let full = c.loop-name.invariant.full ∙ ap (λ es. full_in c.args.db.now (named (λ k. k.items) es)) more in
    let none : None ≡ fitting_table c.in-Some.draft.now = sym c.in_default.is ∙ c.in_ok-version.ensures in
    let refusal = rw c.as_slice.ensures.value at c.full.ensures in
    refused c.full.result _ _ _ refusal (full ∙ first_full c.args.db.now c.in-Some.name.now.items c.in-Some.draft.now (named (λ k. k.items) c.next.new.self) none)

pub returns : goal.returns
returns c =
    let none = rest_all deref_pair _ _ c.next.result c.in-None.is c.next.ensures.steps in
    let made : c.loop-name.made ≡ c.args.tables.now =
    sym (append-nil c.loop-name.made) ∙ (ap (λ es. c.loop-name.made ++ named (λ k. k.items) es) (sym none) ∙ c.loop-name.invariant.made) in
    let full : full_in c.args.db.now c.args.tables.now ≡ None = c.loop-name.invariant.full ∙ ap (λ es. full_in c.args.db.now (named (λ k. k.items) es)) none in
    rw full (ap Ok (sym made))
