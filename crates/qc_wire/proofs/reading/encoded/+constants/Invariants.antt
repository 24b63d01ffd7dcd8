use Rattle.std.proofs.Common.{length}
use Rattle.qc_wire.proofs.reading.encoded.+constants.Given as goal

abbrev pub decreases-constants : goal.decreases-constants
decreases-constants l = length l.expected.now
