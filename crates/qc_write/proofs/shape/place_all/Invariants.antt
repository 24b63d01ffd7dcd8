use Rattle.std.proofs.Common.{◌≡◌, ◌++◌, drop}
use Rattle.qc_sql.specs.Effects.{lacking, refuse_lacking}
use Rattle.qc_write.specs.Inserts.{places}
use Rattle.qc_write.specs.Lists.{borrowed}
use Rattle.qc_write.proofs.shape.place_all.Given as goal

abbrev pub invariant-loop-column : goal.invariant-loop-column
invariant-loop-column l = record {
  gives : refuse_lacking (lacking l.columns (borrowed l.named)) ≡ refuse_lacking (lacking (drop l.column-index l.columns) (borrowed l.named));
  all : l.places.items ++ places (borrowed l.named) (drop l.column-index l.columns) ≡ places (borrowed l.named) l.columns;
}
