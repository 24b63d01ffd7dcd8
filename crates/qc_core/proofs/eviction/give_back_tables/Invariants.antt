use Rattle.qc_core.specs.EntryRemoval.{IsReturning}
use Rattle.qc_core.proofs.eviction.give_back_tables.Given as goal

abbrev pub invariant-loop-place : goal.invariant-loop-place
invariant-loop-place l = IsReturning l.places l.place-index l.initial.tiles l.tiles
