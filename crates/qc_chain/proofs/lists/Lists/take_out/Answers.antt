use Rattle.std.proofs.Common.{◌≡◌, ◌<◌, ◌∙◌, sym, ap, subst, map, length, arith}
use Rattle.std.proofs.lemmas.List.{length-map}
use Rattle.std.specs.Vec.{with_items}
use Rattle.std.proofs.lemmas.List.{with_items_is}
use Rattle.qc_chain.specs.Linked.{Linked, without, lists_of, IsLinked}
use Rattle.qc_chain.proofs.Linking.{unlinked, cut, linked}
use Rattle.qc_chain.proofs.lists.Lists.take_out.Goals as goal

pub invariant_of-self : goal.invariant_of-self
invariant_of-self c =
    let v = c.self.inside in
    let x = c.args.node in
    let low : x < v.nodes = omega (arith, c.requires, ap (λ (l : Linked). l.nodes) c.self.view_is) in
    let a : (with_items v.next c.unlink.new.next).items ≡ unlinked v.next.items v.previous.items x =
    with_items_is v.next c.unlink.new.next (omega (arith, c.unlink.auto.next, c.deref_mut.ensures.len, v.next.ok.0)) ∙ rw (c.deref_mut.ensures.value, c.deref_mut-2.ensures.value) at c.unlink.ensures.next in
    let b : (with_items v.previous c.unlink.new.previous).items ≡ unlinked v.previous.items v.next.items x =
    with_items_is v.previous c.unlink.new.previous (omega (arith, c.unlink.auto.previous, c.deref_mut-2.ensures.len, v.previous.ok.0)) ∙ rw (c.deref_mut.ensures.value, c.deref_mut-2.ensures.value) at c.unlink.ensures.previous in
    subst (λ xs. IsLinked xs (with_items v.previous c.unlink.new.previous).items v.nodes) (sym a)
    (subst (λ ys. IsLinked (unlinked v.next.items v.previous.items x) ys v.nodes) (sym b) (cut v.next.items v.previous.items v.nodes x c.self.invariant low).linked)

pub returns-clause-moved : goal.returns-clause-moved
returns-clause-moved c =
    let v = c.self.inside in
    let x = c.args.node in
    let low : x < v.nodes = omega (arith, c.requires, ap (λ (l : Linked). l.nodes) c.self.view_is) in
    let a : (with_items v.next c.unlink.new.next).items ≡ unlinked v.next.items v.previous.items x =
    with_items_is v.next c.unlink.new.next (omega (arith, c.unlink.auto.next, c.deref_mut.ensures.len, v.next.ok.0)) ∙ rw (c.deref_mut.ensures.value, c.deref_mut-2.ensures.value) at c.unlink.ensures.next in
    ap (λ xs. linked (lists_of xs v.nodes) v.nodes) a
    ∙ (ap (λ ls. linked ls v.nodes) (cut v.next.items v.previous.items v.nodes x c.self.invariant low).are ∙ ap (λ (l : Linked). linked (map (without x) l.lists) l.nodes) c.self.view_is)

pub returns-clause-many : goal.returns-clause-many
returns-clause-many c = ap (λ (l : Linked). length l.lists) (returns-clause-moved c) ∙ length-map c.args.self.now.lists (without c.args.node)
