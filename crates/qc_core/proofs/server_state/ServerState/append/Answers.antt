use Rattle.std.proofs.Common.{◌+◌, [], ◌∷◌, ◌++◌, length-append, sym, subst, arith}
use Rattle.qc_chain.specs.Chains.{Begun, whole_chain}
use Rattle.qc_core.proofs.Appending.{append_begun}
use Rattle.qc_core.proofs.server_state.ServerState.append.Goals as goal

pub ranges-requires : goal.ranges-requires
ranges-requires c =
    let u = c.requires in
    let n = c.args.chain.number in
    let b = c.args.block in (
      whole_chain (u.held.blocks ++ b ∷ []),
      subst (λ cs. Begun n cs (whole_chain (u.held.blocks ++ b ∷ []))) (sym (c.append_block.ensures u.held u.begun)) (append_begun c.args.self.now.chains n b u.held u.begun),
      omega (arith, u.ranges, length-append u.held.blocks (b ∷ [])),
    )

pub returns-clause-ranges : goal.returns-clause-ranges
returns-clause-ranges c = λ u.
    let n = c.args.chain.number in
    let b = c.args.block in
    c.ranges-2.ensures.ranges (whole_chain (u.held.blocks ++ b ∷ [])) (subst (λ cs. Begun n cs (whole_chain (u.held.blocks ++ b ∷ []))) (sym (c.append_block.ensures u.held u.begun)) (append_begun c.args.self.now.chains n b u.held u.begun))
