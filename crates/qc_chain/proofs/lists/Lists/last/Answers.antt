use Rattle.std.proofs.Common.{◌≡◌, ◌+◌, ◌<◌, ◌≤◌, sym, ap, subst, [], length, arith}
use Rattle.std.specs.List.{slice_index}
use Rattle.std.proofs.lemmas.List.{get_or_read}
use Rattle.qc_chain.specs.Linked.{Linked, nodes_of, IsLast}
use Rattle.qc_chain.proofs.Linking.{length-lists, last-some, last-none}
use Rattle.qc_chain.proofs.lists.Lists.last.Goals as goal

pub returns-then-node-self-clause-last : goal.returns-then-node-self-clause-last
returns-then-node-self-clause-last c =
    let v = c.self.inside in
    let many : c.args.list < length c.args.self.now.lists = c.requires in
    let high : v.nodes + c.args.list < length v.next.items = omega (arith, many, ap (λ (l : Linked). length l.lists) c.self.view_is, length-lists v.next.items v.nodes, c.self.invariant.few) in
    let is : c.index-node.result.now ≡ slice_index v.previous.items (v.nodes + c.args.list) = get_or_read v.previous.items _ _ (omega (arith, high, c.self.invariant.same)) c.index-node.ensures 0 in
    let low : slice_index v.previous.items (v.nodes + c.args.list) < v.nodes = omega (arith, is, c.if-node-self.true) in
    subst (λ x. IsLast x (nodes_of c.args.list c.args.self.now.lists)) (sym is)
    (subst (λ (l : Linked). IsLast (slice_index v.previous.items (v.nodes + c.args.list)) (nodes_of c.args.list l.lists)) c.self.view_is (last-some v.next.items v.previous.items v.nodes c.args.list c.self.invariant high low))

pub returns-else-node-self-clause-last : goal.returns-else-node-self-clause-last
returns-else-node-self-clause-last c =
    let v = c.self.inside in
    let many : c.args.list < length c.args.self.now.lists = c.requires in
    let high : v.nodes + c.args.list < length v.next.items = omega (arith, many, ap (λ (l : Linked). length l.lists) c.self.view_is, length-lists v.next.items v.nodes, c.self.invariant.few) in
    let is : c.index-node.result.now ≡ slice_index v.previous.items (v.nodes + c.args.list) = get_or_read v.previous.items _ _ (omega (arith, high, c.self.invariant.same)) c.index-node.ensures 0 in
    let none : v.nodes ≤ slice_index v.previous.items (v.nodes + c.args.list) = omega (arith, is, c.if-node-self.false) in
    subst (λ (l : Linked). nodes_of c.args.list l.lists ≡ []) c.self.view_is (last-none v.next.items v.previous.items v.nodes c.args.list c.self.invariant high none)
