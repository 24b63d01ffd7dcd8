use Rattle.std.proofs.Common.{ap, arith}
use Rattle.qc_chain.proofs.Linking.{fresh, linked}
use Rattle.qc_chain.proofs.lists.Lists.new.Goals as goal

pub invariant_of-result : goal.invariant_of-result
invariant_of-result c = (fresh c.in_ok-next.next.items c.in_ok-previous.previous.items c.args.nodes c.args.lists (omega arith) (c.in_ok-next.ensures {u = tt}) (c.in_ok-previous.ensures {u = tt})).linked

pub returns : goal.returns
returns c = ap (λ ls. linked ls c.args.nodes) (fresh c.in_ok-next.next.items c.in_ok-previous.previous.items c.args.nodes c.args.lists (omega arith) (c.in_ok-next.ensures {u = tt}) (c.in_ok-previous.ensures {u = tt})).are
