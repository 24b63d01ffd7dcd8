-- The sizes of blocks of the cache's memory, in words of 8 bytes.
use Rattle.std.specs.Prelude.{ℕ, max}

-- the least words of a block
abbrev pub least_block : ℕ
least_block = 64

-- the words of the block that is asked for where so many are needed
abbrev pub raised : ℕ → ℕ
raised need = max need least_block
