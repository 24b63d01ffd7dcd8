use Rattle.qc_dir.proofs.Insertions.{put_all, put_more}
use Rattle.qc_dir.proofs.dir.put_tables.Goals as goal

pub loop-item-preserved : goal.loop-item-preserved
loop-item-preserved c = put_more _ _ _ c.in-Some.item _ _ _ _ c.loop-item.invariant (c.in-Some.ensures {u = tt}) c.add.ensures.held c.add.ensures.room

pub returns : goal.returns
returns c = put_all _ _ _ _ c.loop-item.invariant (c.in_default.ensures {u = tt}).0
