use Rattle.std.proofs.Common.{◌≡◌, ◌==◌, ◌∙◌, ap, length, arith}
use Rattle.std.specs.Vec.{vec_len, vec_capacity}
use Rattle.qc_chain.proofs.Stores.{told_free}
use Rattle.qc_chain.proofs.chains.Chains.has_free_name.Goals as goal

pub returns : goal.returns
returns c =
    let s = c.self.inside in
    let long : vec_len s.free ≡ length s.free.items = omega (arith, s.free.ok.0) in
    told_free (vec_capacity s.free) s.extents.items s.free.items s.blocks c.args.self.now c.is_empty.result c.self.invariant c.self.view_is (c.is_empty.ensures ∙ ap (λ n. n == 0) long)
