use Rattle.std.proofs.Common.{◌≡◌, ◌+◌, ◌<◌, ◌≤◌, ◌∙◌, sym, ap, Some, length, arith}
use Rattle.std.specs.List.{slice_get, slice_index}
use Rattle.std.proofs.lemmas.List.{get_or_read}
use Rattle.qc_chain.specs.Linked.{Linked, nodes_of}
use Rattle.qc_chain.proofs.Linking.{length-lists, first-some, first-none}
use Rattle.qc_chain.proofs.lists.Lists.first.Goals as goal

pub returns-then-place-self-clause-first : goal.returns-then-place-self-clause-first
returns-then-place-self-clause-first c =
    let v = c.self.inside in
    let many : c.args.list < length c.args.self.now.lists = c.requires in
    let high : v.nodes + c.args.list < length v.next.items = omega (arith, many, ap (λ (l : Linked). length l.lists) c.self.view_is, length-lists v.next.items v.nodes, c.self.invariant.few) in
    let is : c.index-place.result.now ≡ slice_index v.next.items (v.nodes + c.args.list) = get_or_read v.next.items _ _ high c.index-place.ensures 0 in
    let low : slice_index v.next.items (v.nodes + c.args.list) < v.nodes = omega (arith, is, c.if-place-self.true) in
    ap (λ p. Some p) is ∙ (sym (first-some v.next.items v.previous.items v.nodes c.args.list c.self.invariant high low) ∙ ap (λ (l : Linked). slice_get (nodes_of c.args.list l.lists) 0) c.self.view_is)

pub returns-else-place-self-clause-first : goal.returns-else-place-self-clause-first
returns-else-place-self-clause-first c =
    let v = c.self.inside in
    let many : c.args.list < length c.args.self.now.lists = c.requires in
    let high : v.nodes + c.args.list < length v.next.items = omega (arith, many, ap (λ (l : Linked). length l.lists) c.self.view_is, length-lists v.next.items v.nodes, c.self.invariant.few) in
    let is : c.index-place.result.now ≡ slice_index v.next.items (v.nodes + c.args.list) = get_or_read v.next.items _ _ high c.index-place.ensures 0 in
    let low : v.nodes ≤ slice_index v.next.items (v.nodes + c.args.list) = omega (arith, is, c.if-place-self.false) in
    sym (first-none v.next.items v.nodes c.args.list high low) ∙ ap (λ (l : Linked). slice_get (nodes_of c.args.list l.lists) 0) c.self.view_is
