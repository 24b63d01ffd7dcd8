use Rattle.std.proofs.Common.{◌≡◌, ◌+◌, ◌-◌, arith, length}
use Rattle.qc_memory_tests.proofs.Checks.{words_of_last}
use Rattle.qc_memory_tests.proofs.memory.Memory.cut.Goals as goal

pub overflow_sub-words : goal.overflow_sub-words
overflow_sub-words g c =
    let some : (c.blocks-3.result - 1) + 1 ≡ length c.list-ranges.result.blocks = omega arith in
    omega (arith, words_of_last c.list-ranges.result.blocks (c.blocks-3.result - 1) c.block-last.result some c.block-last.ensures, c.from.ensures, c.from-words.ensures, c.words.ensures)

pub trim_last-requires : goal.trim_last-requires
trim_last-requires g c =
    let (held, begun, same) = c.list-ranges.ensures in
    let some : (c.blocks-3.result - 1) + 1 ≡ length c.list-ranges.result.blocks = omega arith in
    let words = words_of_last c.list-ranges.result.blocks (c.blocks-3.result - 1) c.block-last.result some c.block-last.ensures in
    (held, begun, rw (← same) c.are_handed_out.ensures, rw (← same) (record { some = omega arith; more = omega (arith, words, c.from.ensures, c.from-words.ensures, c.words.ensures, c.from-2.ensures); within = omega (arith, c.from-words.ensures, c.words.ensures, c.from-3.ensures) }))
