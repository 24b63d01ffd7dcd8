use Rattle.std.proofs.Common.{◌≡◌, ◌++◌, ◌-◌, take, drop}
use Rattle.qc_table.specs.Stored.{is_ints, values_of, IsCells}
use Rattle.qc_table.proofs.cells.Cells.append.Given as goal

abbrev pub invariant-loop-row : goal.invariant-loop-row
invariant-loop-row l = record {
  ready : IsCells l.self;
  kind : is_ints l.self ≡ is_ints l.fn.self;
  values : values_of l.self ≡ values_of l.fn.self ++ take (l.row - l.fn.from) (drop l.fn.from (values_of l.other));
}
