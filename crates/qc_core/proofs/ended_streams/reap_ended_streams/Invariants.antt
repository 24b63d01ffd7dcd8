use Rattle.std.proofs.Common.{◌≡◌, List}
use Rattle.qc_turn.specs.declared.view.FoundWord.{FoundWord}
use Rattle.qc_turn.specs.Seats.{MayRelease, holder, words}
use Rattle.qc_core.specs.EndedStreams.{ReadsBehind, Finds, IsSwept}
use Rattle.qc_core.proofs.ended_streams.reap_ended_streams.Given as goal

abbrev pub invariant-loop-index : goal.invariant-loop-index
invariant-loop-index l = (MayRelease l.held × (words l.held ≡ words l.fn.held)) × ((found : List FoundWord) × Finds l.fn.held l.held found × IsSwept (holder l.fn.held).number l.fn.held.value l.held.value found × ReadsBehind (holder l.fn.held).number l.index l.fn.held.value l.held.value found)

abbrev pub decreases-loop-index : goal.decreases-loop-index
decreases-loop-index l = l.index
