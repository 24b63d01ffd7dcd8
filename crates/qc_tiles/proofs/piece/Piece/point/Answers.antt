use Rattle.std.proofs.Common.{◌≡◌, ◌++◌, ◌∙◌, rules}
use Rattle.std.proofs.lemmas.List.Sorted.{IsPartitionPoint-from_clause}
use Rattle.qc_tiles.specs.Sizes.{is_smaller}
use Rattle.qc_tiles.proofs.Points.{point_is}
use Rattle.qc_tiles.proofs.piece.Piece.point.Goals as goal

pub returns-clause-at : goal.returns-clause-at
returns-clause-at c = λ low high is passes fails.
    let p = is_smaller c.args.block.first c.args.block.words in
    let whole : c.deref.result.now ≡ low ++ high = c.deref.ensures.value ∙ (c.self.view_is ∙ is) in
    point_is p c.args.block low high c.partition_point.result passes fails (rw whole at c.partition_point.ensures.bound)
    (λ parted. IsPartitionPoint-from_clause p (low ++ high) c.partition_point.result (rw whole at c.partition_point.ensures.partitioned) parted (λ a r q k. search rules))
