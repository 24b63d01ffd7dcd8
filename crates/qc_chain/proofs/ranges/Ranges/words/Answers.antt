use Rattle.std.proofs.Common.{◌∙◌}
use Rattle.qc_chain.proofs.Words.{last_of_ends}
use Rattle.qc_chain.proofs.ranges.Ranges.words.Goals as goal

pub returns : goal.returns
returns c = rw (← c.self.view_is) (last_of_ends c.self.inside.blocks.items c.last_end.result c.as_slice.result.now (c.as_slice.ensures.value ∙ c.self.invariant.each) c.last_end.ensures.none c.last_end.ensures.last)
