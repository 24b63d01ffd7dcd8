use Rattle.std.proofs.Common.{List, sym, subst}
use Rattle.qc_tiles.specs.declared.blocks.Tile.{Tile}
use Rattle.qc_chain.specs.Chains.{AreHandedOut}
use Rattle.qc_core.proofs.Pinning.{out_unpinned}
use Rattle.qc_core.proofs.server_state.ServerState.cut_chain.Goals as goal

pub trim_last-requires : goal.trim_last-requires
trim_last-requires c =
    let u = c.requires.chain in
    (u.held, u.begun, subst (λ (ts : List Tile). AreHandedOut ts u.held.blocks) (sym (c.unpin.ensures.tiles u.held u.begun)) (out_unpinned _ c.args.self.now.tiles u.held.blocks u.tiling u.out), c.requires.ends)
