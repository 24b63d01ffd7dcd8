-- A bit that is 0 is set by adding it.
use Rattle.std.proofs.Common.{◌/◌, ◌%◌, ◌<◌, get_or, refl, arith, Fits, w64, rules}
use Rattle.std.proofs.lemmas.Nat.{one_shl, mod_below}
use Rattle.qc_table.proofs.BitSteps.{bit_fits, bit_set}
use Rattle.qc_table.proofs.nulls.set_bit.Goals as goal

pub overflow_add-words : goal.overflow_add-words
overflow_add-words c =
    let k = c.args.at % 64 in
    let w = get_or c.args.words.now (c.args.at / 64) 0 in
    let low : k < 64 = mod_below c.args.at 64 (omega arith) in
    let fits : Fits w64 w = search rules in
    let sum = bit_fits 64 k w low fits.fits c.requires.clear in
    rw (one_shl k 64 low) (record { fits = sum })

pub returns : goal.returns
returns c =
    let k = c.args.at % 64 in
    let low : k < 64 = mod_below c.args.at 64 (omega arith) in
    rw (one_shl k 64 low) (bit_set c.args.words.now c.args.at (get_or c.args.words.now (c.args.at / 64) 0) c.requires.there refl c.requires.clear)
