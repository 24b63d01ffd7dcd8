-- What stands above the place is moved, and the bit comes between the two parts.
use Rattle.std.proofs.Common.{◌≡◌, ◌<◌, ◌∙◌, ap}
use mir.Val.{bool_byte}
use Rattle.std.proofs.lemmas.Nat.{one_shl}
use Rattle.qc_table.specs.Bits.{bit_of}
use Rattle.qc_table.proofs.BitMoves.{flag_bit, flag_small, joined_behind, joined_fits, joined_front, joined_here, joined_whole}
use Rattle.qc_table.proofs.nulls.with_bit.Goals as goal

pub overflow_add-result-2 : goal.overflow_add-result-2
overflow_add-result-2 c =
    let w = c.args.word in
    let at = c.args.at in
    let b = c.from.result in
    let is : b ≡ bool_byte c.args.bit = c.from.ensures in
    let small : b < 2 = rw is (flag_small c.args.bit) in
    rw (joined_whole w at b c.requires small, one_shl at 64 c.requires) (record { fits = joined_fits w at b c.requires small })

pub returns-clause-front : goal.returns-clause-front
returns-clause-front c = λ i below.
    let w = c.args.word in
    let at = c.args.at in
    let b = c.from.result in
    let is : b ≡ bool_byte c.args.bit = c.from.ensures in
    let small : b < 2 = rw is (flag_small c.args.bit) in
    rw (joined_whole w at b c.requires small, one_shl at 64 c.requires) (joined_front w at b i below)

pub returns-clause-here : goal.returns-clause-here
returns-clause-here c =
    let w = c.args.word in
    let at = c.args.at in
    let b = c.from.result in
    let is : b ≡ bool_byte c.args.bit = c.from.ensures in
    let small : b < 2 = rw is (flag_small c.args.bit) in
    rw (joined_whole w at b c.requires small, one_shl at 64 c.requires) (joined_here w at b small ∙ (ap (λ n. bit_of n 0) is ∙ flag_bit c.args.bit))

pub returns-clause-behind : goal.returns-clause-behind
returns-clause-behind c = λ i above below.
    let w = c.args.word in
    let at = c.args.at in
    let b = c.from.result in
    let is : b ≡ bool_byte c.args.bit = c.from.ensures in
    let small : b < 2 = rw is (flag_small c.args.bit) in
    rw (joined_whole w at b c.requires small, one_shl at 64 c.requires) (joined_behind w at b i small above below)
