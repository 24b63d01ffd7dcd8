use Rattle.std.proofs.Common.{◌≡◌, ◌∙◌, ap, subst, Option}
use Rattle.std.specs.Option.{IsSomeAnd, MatchOption, option_map}
use Rattle.qc_dir.specs.declared.entries.Entry.{Entry}
use Rattle.qc_dir.specs.Directory.{entry_at}
use Rattle.qc_dir.specs.Uses.{entries_of, texts_at}
use Rattle.qc_dir.proofs.UseSteps.{text-is, text-none}
use Rattle.qc_dir.proofs.uses.Uses.text_at.Goals as goal

pub returns-in_default : goal.returns-in_default
returns-in_default c =
    let i = c.self.inside in
    subst (λ es. texts_at c.args.place es ≡ 0) (ap entries_of c.self.view_is) (text-none c.args.place i.slots i.order c.self.invariant.ordered (c.text_at.ensures.none c.in_default.is))

pub at-requires : goal.at-requires
at-requires c = (c.in-Some.ensures {u = tt}).some.0

pub returns : goal.returns
returns c =
    let i = c.self.inside in
    let is = (c.in-Some.ensures {u = tt}).some in
    subst (λ es. MatchOption c.serial_in.result (texts_at c.args.place es ≡ 0) (λ n. IsSomeAnd (entry_at n es) (λ e. e.text.first ≡ c.args.place))) (ap entries_of c.self.view_is)
    (text-is c.args.place c.in-Some.slot i.slots i.order i.count i.incomplete c.serial_in.result c.self.invariant is.0 is.1 (c.serial_in.ensures ∙ ap (λ (o : Option Entry). option_map (λ (e : Entry). e.serial) o) c.at.ensures))
