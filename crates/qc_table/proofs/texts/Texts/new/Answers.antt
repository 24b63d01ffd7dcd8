-- No texts, and no bits.
use Rattle.std.proofs.Common.{refl}
use Rattle.qc_table.proofs.BitSteps.{none_packed}
use Rattle.qc_table.proofs.texts.Texts.new.Goals as goal

pub returns-clause-ready : goal.returns-clause-ready
returns-clause-ready c = record {
  packed = rw (c.new-2.ensures.items, c.new-3.ensures.items) none_packed;
  climbs = rw (c.new.ensures.items, c.new-2.ensures.items) refl;
}
