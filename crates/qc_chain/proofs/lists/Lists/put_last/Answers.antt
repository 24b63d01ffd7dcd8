use Rattle.std.proofs.Common.{◌≡◌, ◌+◌, ◌<◌, ◌∙◌, sym, ap, subst, length, arith}
use Rattle.std.specs.Vec.{with_items}
use Rattle.std.specs.List.{slice_index}
use Rattle.std.proofs.lemmas.List.{with_items_is, get_or_read}
use Rattle.qc_chain.specs.Linked.{Linked, moved_last, lists_of, IsLinked}
use Rattle.qc_chain.proofs.Counting.{length-moved}
use Rattle.qc_chain.proofs.Linking.{unlinked, linked_next, linked_previous, moved, last_stays, linked, length-lists}
use Rattle.qc_chain.proofs.lists.Lists.put_last.Goals as goal

pub returns-then-index-node-clause-moved : goal.returns-then-index-node-clause-moved
returns-then-index-node-clause-moved c =
    let v = c.self.inside in
    let x = c.args.node in
    let low : x < v.nodes = omega (arith, c.requires.node, ap (λ (l : Linked). l.nodes) c.self.view_is) in
    let high : v.nodes + c.args.list < length v.next.items = omega (arith, c.requires.list, ap (λ (l : Linked). length l.lists) c.self.view_is, length-lists v.next.items v.nodes, c.self.invariant.few) in
    let last : slice_index v.previous.items (v.nodes + c.args.list) ≡ x = sym (get_or_read v.previous.items _ _ (omega (arith, high, c.self.invariant.same)) c.index.ensures 0) ∙ c.if-index-node.true in
    sym c.self.view_is
    ∙ (ap (λ ls. linked ls v.nodes) (last_stays v.next.items v.previous.items v.nodes x c.args.list c.self.invariant low high last) ∙ ap (λ (l : Linked). linked (moved_last x c.args.list l.lists) l.nodes) c.self.view_is)

pub invariant_of-self : goal.invariant_of-self
invariant_of-self c =
    let v = c.self.inside in
    let x = c.args.node in
    let end = v.nodes + c.args.list in
    let low : x < v.nodes = omega (arith, c.requires.node, ap (λ (l : Linked). l.nodes) c.self.view_is) in
    let high : v.nodes + c.args.list < length v.next.items = omega (arith, c.requires.list, ap (λ (l : Linked). length l.lists) c.self.view_is, length-lists v.next.items v.nodes, c.self.invariant.few) in
    let next = with_items v.next c.unlink.new.next in
    let previous = with_items v.previous c.unlink.new.previous in
    let a : next.items ≡ unlinked v.next.items v.previous.items x =
    with_items_is v.next c.unlink.new.next (omega (arith, c.unlink.auto.next, c.deref_mut.ensures.len, v.next.ok.0)) ∙ rw (c.deref_mut.ensures.value, c.deref_mut-2.ensures.value) at c.unlink.ensures.next in
    let b : previous.items ≡ unlinked v.previous.items v.next.items x =
    with_items_is v.previous c.unlink.new.previous (omega (arith, c.unlink.auto.previous, c.deref_mut-2.ensures.len, v.previous.ok.0)) ∙ rw (c.deref_mut.ensures.value, c.deref_mut-2.ensures.value) at c.unlink.ensures.previous in
    let p : c.deref_mut-3.result.now ≡ unlinked v.next.items v.previous.items x = c.deref_mut-3.ensures.value ∙ a in
    let q : c.deref_mut-4.result.now ≡ unlinked v.previous.items v.next.items x = c.deref_mut-4.ensures.value ∙ b in
    let d : (with_items next c.link.new.next).items ≡ linked_next (unlinked v.next.items v.previous.items x) (unlinked v.previous.items v.next.items x) x end =
    with_items_is next c.link.new.next (omega (arith, c.link.auto.next, c.deref_mut-3.ensures.len, v.next.ok.0)) ∙ rw (p, q) at c.link.ensures.next in
    let e : (with_items previous c.link.new.previous).items ≡ linked_previous (unlinked v.previous.items v.next.items x) x end =
    with_items_is previous c.link.new.previous (omega (arith, c.link.auto.previous, c.deref_mut-4.ensures.len, v.previous.ok.0)) ∙ rw q at c.link.ensures.previous in
    subst (λ xs. IsLinked xs (with_items previous c.link.new.previous).items v.nodes) (sym d)
    (subst (λ ys. IsLinked (linked_next (unlinked v.next.items v.previous.items x) (unlinked v.previous.items v.next.items x) x end) ys v.nodes) (sym e) (moved v.next.items v.previous.items v.nodes x c.args.list c.self.invariant low high).linked)

pub returns-clause-moved : goal.returns-clause-moved
returns-clause-moved c =
    let v = c.self.inside in
    let x = c.args.node in
    let end = v.nodes + c.args.list in
    let low : x < v.nodes = omega (arith, c.requires.node, ap (λ (l : Linked). l.nodes) c.self.view_is) in
    let high : v.nodes + c.args.list < length v.next.items = omega (arith, c.requires.list, ap (λ (l : Linked). length l.lists) c.self.view_is, length-lists v.next.items v.nodes, c.self.invariant.few) in
    let next = with_items v.next c.unlink.new.next in
    let previous = with_items v.previous c.unlink.new.previous in
    let a : next.items ≡ unlinked v.next.items v.previous.items x =
    with_items_is v.next c.unlink.new.next (omega (arith, c.unlink.auto.next, c.deref_mut.ensures.len, v.next.ok.0)) ∙ rw (c.deref_mut.ensures.value, c.deref_mut-2.ensures.value) at c.unlink.ensures.next in
    let b : previous.items ≡ unlinked v.previous.items v.next.items x =
    with_items_is v.previous c.unlink.new.previous (omega (arith, c.unlink.auto.previous, c.deref_mut-2.ensures.len, v.previous.ok.0)) ∙ rw (c.deref_mut.ensures.value, c.deref_mut-2.ensures.value) at c.unlink.ensures.previous in
    let p : c.deref_mut-3.result.now ≡ unlinked v.next.items v.previous.items x = c.deref_mut-3.ensures.value ∙ a in
    let q : c.deref_mut-4.result.now ≡ unlinked v.previous.items v.next.items x = c.deref_mut-4.ensures.value ∙ b in
    let d : (with_items next c.link.new.next).items ≡ linked_next (unlinked v.next.items v.previous.items x) (unlinked v.previous.items v.next.items x) x end =
    with_items_is next c.link.new.next (omega (arith, c.link.auto.next, c.deref_mut-3.ensures.len, v.next.ok.0)) ∙ rw (p, q) at c.link.ensures.next in
    ap (λ xs. linked (lists_of xs v.nodes) v.nodes) d
    ∙ (ap (λ ls. linked ls v.nodes) (moved v.next.items v.previous.items v.nodes x c.args.list c.self.invariant low high).are ∙ ap (λ (l : Linked). linked (moved_last x c.args.list l.lists) l.nodes) c.self.view_is)

pub returns-clause-many : goal.returns-clause-many
returns-clause-many c = ap (λ (l : Linked). length l.lists) (returns-clause-moved c) ∙ length-moved c.args.node c.args.list c.args.self.now.lists
