-- Blocks that a start holds are given back.
use Rattle.std.proofs.Common.{◌≡◌, ℕ, ◌+◌, List, ◌++◌, sym, subst, arith}
use Rattle.std.specs.Prelude.{Contains}
use Rattle.std.specs.List.{flat_map, AllByRecursion}
use Rattle.qc_model.specs.Licence.{region_words}
use Rattle.qc_tiles.specs.declared.blocks.Block.{Block}
use Rattle.qc_tiles.specs.Tiles.{handed_out}
use Rattle.qc_chain.specs.Chains.{AreHandedOut, after_release}
use Rattle.qc_sound.specs.PlainServer.{PlainServer, EntryChain}
use Rattle.qc_sound.specs.Moment.{Moment}
use Rattle.qc_sound.specs.parts.Memory.{blocks_in_use, pinned_blocks}
use Rattle.qc_sound.proofs.Handed.{times, times_append, times_permuted, permuted, gives_all}
use Rattle.qc_core.specs.declared.server_state.ServerState.{ServerState}
use Rattle.qc_core.specs.Whole.{Named, plain, IsWhole}
use Rattle.qc_core.proofs.OwnBlocks.{part_out, not_both, use_count}
use Rattle.qc_core.proofs.Remaining.{tasks_in}
use Rattle.qc_core.proofs.Uses.{all_members}
use Rattle.qc_core.proofs.Keeping.{retiled}

module _ (m : Moment) (held bs : List Block) (names : List Named) (words : List ℕ) (s : ServerState) (w : IsWhole m names words s) (split : (b : Block) → times b m.held ≡ times b held + times b bs) where
  abbrev p : PlainServer
  p = plain names s

  total : (b : Block) → times b (handed_out s.tiles) ≡ (times b held + times b bs) + times b (blocks_in_use p)
  total b = omega (arith, times_permuted b (handed_out s.tiles) (m.held ++ blocks_in_use p) w.sound.memory.tiles.in_use, times_append b m.held (blocks_in_use p), split b)

  pub held_out : AreHandedOut s.tiles bs
  held_out = part_out (region_words s.options) s.tiles bs w.sound.memory.tiles.tiling (λ b. omega (arith, total b))

  loose : AllByRecursion (λ b. Contains (pinned_blocks s.tiles) b → ⊥) bs
  loose = all_members (λ b. Contains (pinned_blocks s.tiles) b → ⊥) bs (λ b mine pinned.
      not_both (region_words s.options) s.tiles b bs (flat_map (λ (c : EntryChain). c.blocks) p.chains) w.sound.memory.tiles.tiling (λ b. omega (arith, total b, use_count b p)) mine
      (tasks_in p.chains p.tasks b ((w.sound.memory.tiles.pinned b).0 pinned)))

  pub given_whole : IsWhole (record m { held = held }) names words (record s { tiles = after_release bs s.tiles })
  given_whole =
      let g = gives_all (region_words s.options) s.tiles bs w.sound.memory.tiles.tiling held_out loose in
      let us = after_release bs s.tiles in
      retiled m held names words s us w (record {
        tiling = g.tiling;
        in_use = permuted (handed_out us) (held ++ blocks_in_use p) (λ b. omega (arith, total b, times_permuted b (handed_out s.tiles) (handed_out us ++ bs) g.hands, times_append b (handed_out us) bs, times_append b held (blocks_in_use p)));
        pinned = λ b. (λ k. (w.sound.memory.tiles.pinned b).0 (subst (λ l. Contains l b) g.pins k), λ k. subst (λ l. Contains l b) (sym g.pins) ((w.sound.memory.tiles.pinned b).1 k));
      })
