-- A bit is tested by shifting it to the end.
use Rattle.std.proofs.Common.{◌%◌, ◌/◌, get_or}
use Rattle.qc_table.proofs.BitSteps.{shifted}
use Rattle.qc_table.proofs.nulls.has_bit.Goals as goal

pub returns : goal.returns
returns c = shifted (get_or c.args.words.now (c.args.at / 64) 0) (c.args.at % 64)
