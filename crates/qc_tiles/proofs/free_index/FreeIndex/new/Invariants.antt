use Rattle.std.proofs.Common.{◌≡◌, ◌+◌, ◌≤◌, vec_len, vec_capacity}
use Rattle.qc_tiles.proofs.free_index.FreeIndex.new.Given as goal

abbrev pub invariant-loop-count : goal.invariant-loop-count
invariant-loop-count l = record { made : vec_len l.spare + 1 ≡ l._count; room : l.most ≤ vec_capacity l.spare }
