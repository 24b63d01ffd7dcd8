use Rattle.std.proofs.Common.{◌≡◌, ℕ, ◌-◌, ◌*◌}
use Rattle.qc_chain.specs.Words.{words_of}
use Rattle.qc_turn.specs.Seats.{words, holder, MayRelease}
use Rattle.qc_flow.specs.Growths.{GrowFor, Continues, FillsFor, GrowsBy}
use Rattle.qc_flow.proofs.growths.grow_to.Given as goal

abbrev pub invariant-loop-held : goal.invariant-loop-held
invariant-loop-held l = record {
  stands : MayRelease l.held;
  goes_on : Continues l.initial.held l.held;
  words : words l.held ≡ words l.initial.held;
  blocks : GrowFor l.total l.initial.held.ranges.blocks l.held.ranges.blocks;
  fills : FillsFor l.serial l.total l.held;
  grown : (count : ℕ) × GrowsBy (holder l.initial.held).number l.serial count l.initial.held.value l.initial.held.ranges l.held.value l.held.ranges;
}

abbrev pub decreases-loop-held : goal.decreases-loop-held
decreases-loop-held l = l.total - 8 * words_of l.held.ranges.blocks
