use Rattle.std.proofs.Common.{◌≡◌, ◌++◌, drop}
use Rattle.qc_write.specs.Inserts.{row_from}
use Rattle.qc_write.proofs.insert.row_from.Given as goal

abbrev pub invariant-loop-place : goal.invariant-loop-place
invariant-loop-place l = l.row ++ row_from l.tuple (drop l.place-index l.places) ≡ row_from l.tuple l.places
