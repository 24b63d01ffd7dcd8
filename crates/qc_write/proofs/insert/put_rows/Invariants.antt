use Rattle.std.proofs.Common.{◌≡◌, ◌+◌, ◌++◌, ℤ, List, drop, Ok}
use Rattle.qc_sql.specs.Rows.{◌>>=◌}
use Rattle.qc_sql.specs.Effects.{new_rows}
use Rattle.qc_write.specs.Inserts.{named_in, puts, rows_validated}
use Rattle.qc_write.specs.Targets.{bound_of}
use Rattle.qc_write.proofs.Keys.{HasKeys}
use Rattle.qc_write.proofs.insert.put_rows.Given as goal

abbrev pub invariant-loop-i : goal.invariant-loop-i
invariant-loop-i g l = (keys : List ℤ)
    × (rows_validated (bound_of l.target) (named_in l.shape) l.tuples ≡ (new_rows l.target.name l.target.version.now (named_in l.shape) keys (l.i + 1) (drop l.i l.tuples) >>= λ rows. Ok (l.ops ++ puts l.target.name rows)))
    × HasKeys l.taken keys
