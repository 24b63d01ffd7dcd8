-- What stands above the place is moved, and the other bit comes above all.
use Rattle.std.proofs.Common.{◌≡◌, ◌<◌, ◌^◌, ◌∙◌, ap}
use mir.Val.{bool_byte}
use Rattle.std.proofs.lemmas.Nat.{one_shl}
use Rattle.qc_table.specs.Bits.{bit_of}
use Rattle.qc_table.proofs.BitMoves.{flag_bit, flag_small, top_whole, without_all, without_behind, without_front, without_last, without_whole}
use Rattle.qc_table.proofs.nulls.without_bit.Goals as goal

pub overflow_add-result-2 : goal.overflow_add-result-2
overflow_add-result-2 c =
    let w = c.args.word in
    let at = c.args.at in
    let b = c.from.result in
    let is : b ≡ bool_byte c.args.next = c.from.ensures in
    let small : b < 2 = rw is (flag_small c.args.next) in
    let whole : w < 2 ^ 64 = c.ranges.word.fits in
    rw (top_whole b small, without_whole w at c.requires whole, one_shl at 64 c.requires) (record { fits = without_all w at b c.requires whole small })

pub returns-clause-front : goal.returns-clause-front
returns-clause-front c = λ i below.
    let w = c.args.word in
    let at = c.args.at in
    let b = c.from.result in
    let is : b ≡ bool_byte c.args.next = c.from.ensures in
    let small : b < 2 = rw is (flag_small c.args.next) in
    let whole : w < 2 ^ 64 = c.ranges.word.fits in
    rw (top_whole b small, without_whole w at c.requires whole, one_shl at 64 c.requires) (without_front w at b i c.requires below)

pub returns-clause-behind : goal.returns-clause-behind
returns-clause-behind c = λ i above below.
    let w = c.args.word in
    let at = c.args.at in
    let b = c.from.result in
    let is : b ≡ bool_byte c.args.next = c.from.ensures in
    let small : b < 2 = rw is (flag_small c.args.next) in
    let whole : w < 2 ^ 64 = c.ranges.word.fits in
    rw (top_whole b small, without_whole w at c.requires whole, one_shl at 64 c.requires) (without_behind w at b i above below)

pub returns-clause-last : goal.returns-clause-last
returns-clause-last c =
    let w = c.args.word in
    let at = c.args.at in
    let b = c.from.result in
    let is : b ≡ bool_byte c.args.next = c.from.ensures in
    let small : b < 2 = rw is (flag_small c.args.next) in
    let whole : w < 2 ^ 64 = c.ranges.word.fits in
    rw (top_whole b small, without_whole w at c.requires whole, one_shl at 64 c.requires) (without_last w at b c.requires whole ∙ (ap (λ n. bit_of n 0) is ∙ flag_bit c.args.next))
