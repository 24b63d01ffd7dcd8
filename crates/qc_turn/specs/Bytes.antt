-- The bytes of words, the low byte of a word first.
use Rattle.std.specs.Prelude.{ℕ, zero, suc, ◌-◌, ◌*◌, ◌/◌, ◌%◌, List, [], ◌∷◌, ◌++◌, take}

-- the lowest n bytes of a word
abbrev pub low_bytes : ℕ → ℕ → List ℕ
low_bytes zero w = []
low_bytes (suc n) w = w % 256 ∷ low_bytes n (w / 256)

abbrev pub bytes_of : List ℕ → List ℕ
bytes_of [] = []
bytes_of (w ∷ ws) = low_bytes 8 w ++ bytes_of ws

-- the bytes of a fill after its word at this index was stored: those in front of the word stay, and there are count in all
abbrev pub filled : List ℕ → ℕ → ℕ → ℕ → List ℕ
filled bytes index value count = take (8 * index) bytes ++ take (count - 8 * index) (low_bytes 8 value)

-- the bytes of a fill after words from this index on were stored: those in front of them stay, and there are count in all
abbrev pub filled_piece : List ℕ → ℕ → List ℕ → ℕ → List ℕ
filled_piece bytes index values count = take (8 * index) bytes ++ take (count - 8 * index) (bytes_of values)
