use Rattle.std.proofs.Common.{length}
use Rattle.qc_table.proofs.fitting.+row_fits.Given as goal

abbrev pub decreases-row_fits : goal.decreases-row_fits
decreases-row_fits l = length l.columns.now
