-- Texts of values, and how long they are.
use Rattle.std.specs.Prelude.{◌≡◌, ℕ, ◌+◌, ◌≤◌, pos, Bool, true, false, List, [], ◌++◌, length, take, Option, Some, None, option_map, nat_le, unwrap_or}
use Rattle.qc_types.specs.declared.names.Value.{Value}
use Rattle.qc_types.specs.declared.names.Value.TheVariants as value
use Rattle.qc_sql.specs.Rows.{text_of}
use Rattle.qc_eval.specs.Buffered.{Buffered}

-- how many bytes the text of a value has
abbrev pub text_size : Value → Option ℕ
text_size v = option_map length (text_of v)

-- LENGTH of a value whose text has so many bytes
abbrev pub size_value : Option ℕ → Value
size_value None = value.Null
size_value (Some n) = value.Int (pos n)

-- whether a value is there, as a number, by how many bytes its text has
abbrev pub present_size : Option ℕ → Value
present_size None = value.Int (pos 0)
present_size (Some n) = value.Int (pos 1)

-- whether a text is there, of so many bytes at most
abbrev pub fits : ℕ → Option (List ℕ) → Bool
fits room None = false
fits room (Some t) = nat_le (length t) room

-- What a call did that puts a text behind a buffer where it fits: it is there then, and else some prefix of it may be.
pub record Puts (text : Option (List ℕ)) (room : ℕ) (put : Bool) (old new : Buffered) : Type 0 where
  pub answer : put ≡ fits room text
  pub whole : put ≡ true → new.bytes ≡ old.bytes ++ unwrap_or text []
  pub prefix : take (length old.bytes) new.bytes ≡ old.bytes
  pub within : length new.bytes ≤ length old.bytes + room
  pub capacity : old.capacity ≤ new.capacity

-- So far a text is there, it stands behind what was there before, and leaves so much room.
pub record HasPut (told : Option (List ℕ)) (room left : ℕ) (old now : Buffered) : Type 0 where
  pub text : List ℕ
  pub is : told ≡ Some text
  pub behind : now.bytes ≡ old.bytes ++ text
  pub left_over : left + length text ≡ room
  pub capacity : old.capacity ≤ now.capacity
