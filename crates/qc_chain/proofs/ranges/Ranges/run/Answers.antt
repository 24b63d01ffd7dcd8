use Rattle.std.proofs.Common.{◌≡◌, ℕ, List, length, subst, ◌+◌, ◌-◌, ◌%◌, ◌<◌, ◌∙◌, sym, ap, refl, arith, get_or}
use Rattle.std.proofs.lemmas.Grind.{get_or_default_zero}
use Rattle.qc_tiles.specs.declared.blocks.Block.{Block}
use Rattle.qc_chain.specs.Words.{word_at}
use Rattle.qc_chain.specs.Ends.{ends_from, start_at}
use Rattle.qc_chain.proofs.Words.{is_run, ends_rise, wraps_to}
use Rattle.qc_chain.proofs.ranges.Ranges.run.Goals as goal

pub count_up_to-at-requires : goal.count_up_to-at-requires
count_up_to-at-requires c = rw (c.as_slice.ensures.value, c.self.invariant.each) (ends_rise 0 c.self.inside.blocks.items)

pub index-requires : goal.index-requires
index-requires c =
    let within = rw (← c.self.view_is) at c.requires in
    let one = is_run c.self.inside.blocks.items c.as_slice.result.now c.args.index c.count_up_to-at.result (record { first = 0; words = 0 }) (c.as_slice.ensures.value ∙ c.self.invariant.each) within c.count_up_to-at.ensures.within c.count_up_to-at.ensures.before c.count_up_to-at.ensures.after in
    omega (arith, one.within)

pub index-requires-2 : goal.index-requires-2
index-requires-2 c =
    let within = rw (← c.self.view_is) at c.requires in
    let one = is_run c.self.inside.blocks.items c.as_slice.result.now c.args.index c.count_up_to-at.result (record { first = 0; words = 0 }) (c.as_slice.ensures.value ∙ c.self.invariant.each) within c.count_up_to-at.ensures.within c.count_up_to-at.ensures.before c.count_up_to-at.ensures.after in
    let inside : c.count_up_to-at.result < length c.self.inside.ends.items = subst (λ (l : List ℕ). c.count_up_to-at.result < length l) c.as_slice.ensures.value one.inside in
    omega (arith, inside)

pub overflow_sub-words : goal.overflow_sub-words
overflow_sub-words c =
    let within = rw (← c.self.view_is) at c.requires in
    let one = is_run c.self.inside.blocks.items c.as_slice.result.now c.args.index c.count_up_to-at.result (record { first = 0; words = 0 }) (c.as_slice.ensures.value ∙ c.self.invariant.each) within c.count_up_to-at.ensures.within c.count_up_to-at.ensures.before c.count_up_to-at.ensures.after in
    let inside : c.count_up_to-at.result < length c.self.inside.ends.items = subst (λ (l : List ℕ). c.count_up_to-at.result < length l) c.as_slice.ensures.value one.inside in
    let end : c.index-2.result.now ≡ get_or c.as_slice.result.now c.count_up_to-at.result 0 = c.index-2.ensures ∙ (get_or_default_zero c.self.inside.ends.items c.count_up_to-at.result c.index-2.result.now inside ∙ sym (ap (λ l. get_or l c.count_up_to-at.result 0) c.as_slice.ensures.value)) in
    omega (arith, one.some, end)

pub returns-clause-some : goal.returns-clause-some
returns-clause-some c =
    let within = rw (← c.self.view_is) at c.requires in
    let one = is_run c.self.inside.blocks.items c.as_slice.result.now c.args.index c.count_up_to-at.result (record { first = 0; words = 0 }) (c.as_slice.ensures.value ∙ c.self.invariant.each) within c.count_up_to-at.ensures.within c.count_up_to-at.ensures.before c.count_up_to-at.ensures.after in
    let inside : c.count_up_to-at.result < length c.self.inside.ends.items = subst (λ (l : List ℕ). c.count_up_to-at.result < length l) c.as_slice.ensures.value one.inside in
    let end : c.index-2.result.now ≡ get_or c.as_slice.result.now c.count_up_to-at.result 0 = c.index-2.ensures ∙ (get_or_default_zero c.self.inside.ends.items c.count_up_to-at.result c.index-2.result.now inside ∙ sym (ap (λ l. get_or l c.count_up_to-at.result 0) c.as_slice.ensures.value)) in
    omega (arith, one.some, end)

pub returns-clause-within : goal.returns-clause-within
returns-clause-within c =
    let within = rw (← c.self.view_is) at c.requires in
    let one = is_run c.self.inside.blocks.items c.as_slice.result.now c.args.index c.count_up_to-at.result (record { first = 0; words = 0 }) (c.as_slice.ensures.value ∙ c.self.invariant.each) within c.count_up_to-at.ensures.within c.count_up_to-at.ensures.before c.count_up_to-at.ensures.after in
    let inside : c.count_up_to-at.result < length c.self.inside.ends.items = subst (λ (l : List ℕ). c.count_up_to-at.result < length l) c.as_slice.ensures.value one.inside in
    let end : c.index-2.result.now ≡ get_or c.as_slice.result.now c.count_up_to-at.result 0 = c.index-2.ensures ∙ (get_or_default_zero c.self.inside.ends.items c.count_up_to-at.result c.index-2.result.now inside ∙ sym (ap (λ l. get_or l c.count_up_to-at.result 0) c.as_slice.ensures.value)) in
    rw (← c.self.view_is) (omega (arith, one.some, one.most, end))

pub returns-clause-places : goal.returns-clause-places
returns-clause-places c =
    let blocks = c.self.inside.blocks.items in
    let at = c.count_up_to-at.result in
    let within = rw (← c.self.view_is) at c.requires in
    let one = is_run blocks c.as_slice.result.now c.args.index at c.index.result.now (c.as_slice.ensures.value ∙ c.self.invariant.each) within c.count_up_to-at.ensures.within c.count_up_to-at.ensures.before c.count_up_to-at.ensures.after in
    let inside : at < length c.self.inside.ends.items = subst (λ (l : List ℕ). at < length l) c.as_slice.ensures.value one.inside in
    let end : c.index-2.result.now ≡ get_or c.as_slice.result.now at 0 = c.index-2.ensures ∙ (get_or_default_zero c.self.inside.ends.items at c.index-2.result.now inside ∙ sym (ap (λ l. get_or l at 0) c.as_slice.ensures.value)) in
    let start : c.start_at-start.result ≡ start_at 0 (ends_from 0 blocks) at = c.start_at-start.ensures ∙ ap (λ ends. start_at 0 ends at) (c.as_slice-2.ensures.value ∙ c.self.invariant.each) in
    let first : c.index.result.now.first ≡ (get_or blocks at c.index.result.now).first = ap (λ (b : Block). b.first) c.index.ensures in
    let low = one.start in
    rw (← c.self.view_is) (λ k h fits.
    let place = one.places k (omega (arith, h, end, one.some)) in
    let a : ℕ = c.index.result.now.first + (c.args.index - c.start_at-start.result) in
    let sum : word_at (c.args.index + k) blocks ≡ a + k = omega (arith, place, first, start, low) in
    let wrap : a % 4294967296 ≡ a = wraps_to a a refl (omega (arith, sum, fits)) in
    omega (arith, sum, wrap))
