use Rattle.std.proofs.Common.{◌≡◌, ◌++◌, [], List, drop, take, Ok}
use Rattle.qc_sql.specs.Database.{Name}
use Rattle.qc_sql.specs.Rows.{◌>>=◌}
use Rattle.qc_sql.specs.Effects.{named_columns}
use Rattle.qc_write.specs.Lists.{borrowed}
use Rattle.qc_resolve.proofs.Lists.{SameSeen}
use Rattle.qc_write.proofs.shape.named_columns.Given as goal

abbrev pub invariant-loop-i : goal.invariant-loop-i
invariant-loop-i l = (seen : List Name)
    × (named_columns [] l.columns l.names ≡ (named_columns seen l.columns (drop l.i l.names) >>= λ cs. Ok (borrowed l.named.items ++ cs)))
    × SameSeen seen (take l.i l.names)
