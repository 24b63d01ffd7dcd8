use Rattle.std.proofs.Common.{◌≡◌, map, drop}
use Rattle.qc_script.specs.Told.{each, table_among}
use Rattle.qc_script.proofs.Loops.{with_prefix}
use Rattle.qc_script.proofs.reading.fields.tables.Given as goal

abbrev pub invariant-loop-member : goal.invariant-loop-member
invariant-loop-member l = with_prefix l.tables (each table_among tt (drop l.member-index (map (λ m. m.now) l.member-items))) ≡ each table_among tt (map (λ m. m.now) l.member-items)
