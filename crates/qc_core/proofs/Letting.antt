-- A chain whose blocks are unpinned or given back.
use Rattle.std.proofs.Common.{ℕ, List, ◌++◌, ap, arith}
use Rattle.qc_model.specs.Licence.{region_words}
use Rattle.qc_tiles.specs.Tiles.{handed_out}
use Rattle.qc_tiles.proofs.Calls.{own_tiling}
use Rattle.qc_chain.specs.Chains.{Begun, AreHandedOut}
use Rattle.qc_chain.specs.Chains.{Chain as Kept}
use Rattle.qc_sound.specs.Moment.{Moment}
use Rattle.qc_sound.specs.parts.Memory.{blocks_in_use}
use Rattle.qc_sound.proofs.Handed.{times, times_append, times_permuted}
use Rattle.qc_core.specs.declared.server_state.ServerState.{ServerState}
use Rattle.qc_core.specs.Whole.{Named, IsNamedAs, chain_blocks, chain_in, plain}
use Rattle.qc_core.specs.TaskEnd.{MayLetGo}
use Rattle.qc_core.specs.EntriesCut.{BlocksAreSound}
use Rattle.qc_core.proofs.Uses.{begun_at, few_blocks}
use Rattle.qc_core.proofs.OwnBlocks.{part_out, chain_count, use_count}
use Rattle.qc_core.proofs.Remaining.{chain_found}

-- the blocks of a chain are handed out, each once
pub chain_out : (m : Moment) (names : List Named) (s : ServerState) (n number : ℕ) (held : Kept) → BlocksAreSound m names s → IsNamedAs names n number → Begun number s.chains held → AreHandedOut s.tiles held.blocks
chain_out m names s n number held h is begun =
    let p = plain names s in
    part_out (region_words s.options) s.tiles held.blocks h.tiles.tiling
    (λ b. omega (arith, times_permuted b (handed_out s.tiles) (m.held ++ blocks_in_use p) h.tiles.in_use, times_append b m.held (blocks_in_use p), use_count b p, chain_count b n p.chains (chain_in s.chains (record { serial = n; number = number })) h.apart (chain_found s.chains n _ names is), ap (λ o. times b (chain_blocks o)) begun))

pub may_let_go : (m : Moment) (names : List Named) (s : ServerState) (n number : ℕ) → BlocksAreSound m names s → IsNamedAs names n number → MayLetGo number s
may_let_go m names s n number h is =
    let c = begun_at names s n number h.named is in
    let few = few_blocks m names s n number c.0 h.tiles is c.1 in
    record {
      held = c.0;
      begun = c.1;
      room = omega (arith, few, h.room.unpinner);
      tiling = own_tiling (region_words s.options) s.tiles h.tiles.tiling;
      out = chain_out m names s n number c.0 h is c.1;
    }
