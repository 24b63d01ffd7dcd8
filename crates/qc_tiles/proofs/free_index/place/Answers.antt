use Rattle.std.proofs.Common.{◌-◌, ◌∙◌, [], length, min, ap, rules}
use Rattle.std.proofs.lemmas.List.Sorted.{IsPartitionPoint-from_clause}
use Rattle.qc_tiles.specs.Pieces.{is_below}
use Rattle.qc_tiles.proofs.Points.{point_is}
use Rattle.qc_tiles.proofs.Pieces.{halved, located}
use Rattle.qc_tiles.proofs.free_index.place.Goals as goal

pub returns : goal.returns
returns c = λ sorted filled.
    let ps = c.args.pieces.now in
    let p = is_below c.args.block in
    let r = halved c.args.block 0 ps filled sorted in
    let i = c.partition_point-below.result in
    let at = point_is p [] r.before r.from i r.below r.above (rw r.is at c.partition_point-below.ensures.bound)
    (λ parted. rw r.is at (IsPartitionPoint-from_clause p ps i c.partition_point-below.ensures.partitioned (rw r.is parted) (λ a r q k. search rules))) in
    located c.args.block ps c.min.result sorted c.requires r (c.min.ensures ∙ ap (λ n. min n (length ps - 1)) at)
