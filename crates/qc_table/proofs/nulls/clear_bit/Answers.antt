-- A bit that is 1 is cleared by taking it away.
use Rattle.std.proofs.Common.{◌/◌, ◌%◌, ◌<◌, get_or, refl, arith}
use Rattle.std.proofs.lemmas.Nat.{one_shl, mod_below}
use Rattle.qc_table.proofs.BitSteps.{bit_part, bit_cleared}
use Rattle.qc_table.proofs.nulls.clear_bit.Goals as goal

pub overflow_sub-words : goal.overflow_sub-words
overflow_sub-words c =
    let k = c.args.at % 64 in
    let w = get_or c.args.words.now (c.args.at / 64) 0 in
    let low : k < 64 = mod_below c.args.at 64 (omega arith) in
    rw (one_shl k 64 low) (bit_part k w c.requires.set)

pub returns : goal.returns
returns c =
    let k = c.args.at % 64 in
    let low : k < 64 = mod_below c.args.at 64 (omega arith) in
    rw (one_shl k 64 low) (bit_cleared c.args.words.now c.args.at (get_or c.args.words.now (c.args.at / 64) 0) c.requires.there refl c.requires.set)
