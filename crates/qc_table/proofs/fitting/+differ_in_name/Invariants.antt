use Rattle.std.proofs.Common.{length}
use Rattle.qc_table.proofs.fitting.+differ_in_name.Given as goal

abbrev pub decreases-differ_in_name : goal.decreases-differ_in_name
decreases-differ_in_name l = length l.columns.now
