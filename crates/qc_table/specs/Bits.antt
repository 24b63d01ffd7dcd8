-- Bits in words of 64.
use Rattle.std.specs.Prelude.{◌≡◌, ℕ, ◌+◌, ◌/◌, ◌%◌, ◌<◌, ◌≤◌, Bool, false, ◌==◌, List, length, slice_index, zero, suc}

-- bit k of a word
abbrev pub bit_of : ℕ → ℕ → Bool
bit_of word zero = word % 2 == 1
bit_of word (suc k) = bit_of (word / 2) k

-- bit i mod 64 of word i / 64
abbrev pub bit_at : List ℕ → ℕ → Bool
bit_at words i = bit_of (slice_index words (i / 64)) (i % 64)

-- as many words as bits take, and the bits behind the end are 0
pub record IsPacked (words : List ℕ) (count : ℕ) : Type 0 where
  pub enough : length words ≡ (count + 63) / 64
  pub rest : (i : ℕ) → count ≤ i → bit_at words i ≡ false

-- words with a bit between the bits of others, of which those behind it stand one further
pub record HasBitAt (at : ℕ) (bit : Bool) (before after : List ℕ) : Type 0 where
  pub front : (i : ℕ) → i < at → bit_at after i ≡ bit_at before i
  pub here : bit_at after at ≡ bit
  pub behind : (i : ℕ) → at ≤ i → bit_at after (i + 1) ≡ bit_at before i
