use Rattle.std.proofs.Common.{◌≡◌, List, [], drop, take}
use Rattle.qc_sql.specs.Database.{Name}
use Rattle.qc_sql.specs.Rows.{first_repeated}
use Rattle.qc_write.specs.Parts.{columns_of, names_of}
use Rattle.qc_resolve.proofs.Lists.{SameSeen}
use Rattle.qc_write.proofs.create.first_repeated.Given as goal

abbrev pub invariant-loop-i : goal.invariant-loop-i
invariant-loop-i l = (seen : List Name) × (first_repeated [] (names_of (columns_of l.written)) ≡ first_repeated seen (names_of (columns_of (drop l.i l.written)))) × SameSeen seen (names_of (columns_of (take l.i l.written)))
