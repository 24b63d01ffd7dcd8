use Rattle.std.proofs.Common.{◌≡◌, ◌+◌, ◌∙◌, map, refl, sym, ap, subst, Option, Some}
use Rattle.std.specs.Option.{IsSome}
use Rattle.qc_dir.specs.declared.entries.Entry.{Entry}
use Rattle.qc_dir.specs.Directory.{Directory, IsDirectory, entry_at, moved_entry}
use Rattle.qc_dir.specs.Keys.{total}
use Rattle.qc_dir.specs.Uses.{entries_of, placed_text, texts_at}
use Rattle.qc_dir.proofs.EntryTotals.{map-changed, total-changed}
use Rattle.qc_dir.proofs.DirSteps.{directory, still}
use Rattle.qc_dir.proofs.DirCalls.{some-entry, text_same, text_counts}
use Rattle.qc_dir.proofs.dir.Dir.shift_text.Goals.{In-Some}
use Rattle.qc_dir.proofs.dir.Dir.shift_text.Goals as goal

pub returns-in_default-clause-none : goal.returns-in_default-clause-none
returns-in_default-clause-none c = λ _. ap (λ (d : Directory). texts_at c.args.change.from d.entries) (sym c.self.view_is) ∙ c.in_default.ensures {u = tt}

pub returns-in_default-clause-valid : goal.returns-in_default-clause-valid
returns-in_default-clause-valid c = subst (λ (d : Directory). IsDirectory d) c.self.view_is (directory _ _ _ _ _ c.self.invariant)

found : (c : In-Some) → (e : Entry) × (entry_at c.in-Some.serial (entries_of c.self.inside.entries) ≡ Some e) × (e.text.first ≡ c.args.change.from)
found c = some-entry (λ e. e.text.first ≡ c.args.change.from) (entry_at c.in-Some.serial (entries_of c.self.inside.entries)) (c.in-Some.ensures {u = tt})

pub place-requires : goal.place-requires
place-requires c = subst (λ (o : Option Entry). IsSome o) (sym (found (goal.at.place-requires c).In-Some).1) refl

pub invariant_of-self : goal.invariant_of-self
invariant_of-self c =
    let i = c.self.inside in
    still _ _ _ _ _ _ c.self.invariant (λ w ignores. ap (λ es. total w es) c.place.ensures.entries ∙ total-changed w (placed_text c.args.change.to) c.in-Some.serial (entries_of i.entries) (λ e. ignores e (record { first = c.args.change.to; words = e.text.words }) e.complete e.users)) c.place.ensures.room

pub returns-clause-entries : goal.returns-clause-entries
returns-clause-entries c =
    let i = c.self.inside in
    let entry = found (goal.at.returns-clause-entries c).In-Some in
    ap (λ es. map (moved_entry c.args.change) es) c.place.ensures.entries
    ∙ (map-changed (moved_entry c.args.change) (placed_text c.args.change.to) c.in-Some.serial (entries_of i.entries) entry.0 c.self.invariant.serials entry.1 (text_same c.args.change entry.0 entry.2 c.requires)
    ∙ ap (λ (d : Directory). map (moved_entry c.args.change) d.entries) c.self.view_is)

pub returns-clause-one : goal.returns-clause-one
returns-clause-one c = λ _.
    let i = c.self.inside in
    let entry = found (goal.at.returns-clause-one c).In-Some in
    ap (λ es. texts_at c.args.change.from es + 1) c.place.ensures.entries
    ∙ (text_counts c.args.change (entries_of i.entries) c.in-Some.serial entry.0 c.self.invariant.serials entry.1 entry.2 c.requires
    ∙ ap (λ (d : Directory). texts_at c.args.change.from d.entries) c.self.view_is)

pub returns-clause-valid : goal.returns-clause-valid
returns-clause-valid c = directory _ _ _ _ _ (invariant_of-self c)
