use Rattle.std.proofs.Common.{◌<◌, ◌∙◌, sym, ap, subst, slice_get, length, Option, arith}
use Rattle.std.specs.Option.{IfSome, option_map}
use Rattle.qc_dir.specs.declared.entries.Entry.{Entry}
use Rattle.qc_dir.specs.Uses.{Used, entries_of}
use Rattle.qc_dir.proofs.UseSteps.{first-used}
use Rattle.qc_dir.proofs.uses.Uses.oldest.Goals.{In-Some}
use Rattle.qc_dir.proofs.uses.Uses.oldest.Goals as goal

pub first-requires : goal.first-requires
first-requires c = omega (arith, c.self.invariant.ordered.lists)

within : (c : In-Some) → c.in-Some.slot < length c.self.inside.slots
within c =
    let node : c.in-Some.slot < c.self.inside.order.nodes = subst (λ o. IfSome o (λ n. n < c.self.inside.order.nodes)) c.in-Some.is c.first.ensures.below in
    omega (arith, node, c.self.invariant.ordered.nodes)

pub at-requires : goal.at-requires
at-requires c = within (goal.at.at-requires c).In-Some

pub returns : goal.returns
returns c =
    let i = c.self.inside in
    let low = within (goal.at.returns c).In-Some in
    let at = first-used c.in-Some.slot i.slots i.order c.at.result.now c.self.invariant.ordered low (sym c.first.ensures.first ∙ c.in-Some.is) c.at.ensures in
    c.serial_in.ensures ∙ ap (λ (o : Option Entry). option_map (λ (e : Entry). e.serial) o) (at ∙ ap (λ (d : Used). slice_get (entries_of d) 0) c.self.view_is)
