use Rattle.std.proofs.Common.{◌≡◌, ◌++◌, drop, take}
use Rattle.qc_table.specs.Puts.{values_at}
use Rattle.qc_table.specs.Stored.{is_ints, values_of, HasRoom, IsCells}
use Rattle.qc_table.proofs.cells.Cells.push_all.Given as goal

abbrev pub invariant-loop-index : goal.invariant-loop-index
invariant-loop-index l = record {
  ready : IsCells l.self;
  kind : is_ints l.self ≡ is_ints l.fn.self;
  values : values_of l.self ≡ values_of l.fn.self ++ take l.index (values_at l.column l.puts.rows);
  room : HasRoom (drop l.index (values_at l.column l.puts.rows)) l.self;
}
