-- Steps of a read of a command: a buffer that is filled, and the header of a packet.
use Rattle.std.specs.Prelude.{◌≡◌, ℕ, ◌≤◌, ◌<◌, List, [], length, take, drop, slice_index, Option, Some, None, Result, Ok, Err, not, ◌==◌, nat_lt, if◌then◌else◌}
use Rattle.qc_sql.specs.declared.commands.CommandEnd.{CommandEnd}
use Rattle.qc_sql.specs.declared.commands.CommandEnd.TheVariants as end
use Rattle.qc_sql.specs.Packets.{most_payload}
use Rattle.qc_sql.specs.Commands.{command_end, length_at}
use Rattle.qc_wire.specs.Commands.{left_at_end}
use Rattle.qc_wire.specs.declared.stream.Filled.{Filled}
use Rattle.qc_wire.specs.declared.stream.Filled.TheVariants as filled

-- an end comes before the buffer is full
abbrev pub EndsWithin : Filled → ℕ → Type 0
EndsWithin (filled.Ended n) room = n < room
EndsWithin f room = Unit {0}

-- A buffer was filled with the first bytes of what is left, or all that is left was fewer bytes than it has room for.
abbrev pub FillGives : Filled → Option (List ℕ) → Option (List ℕ) → List ℕ → Type 0
FillGives f None new buffer = new ≡ None
FillGives filled.Whole (Some left) new buffer =
    (length buffer ≤ length left) × (buffer ≡ take (length buffer) left) × (new ≡ Some (drop (length buffer) left))
FillGives (filled.Ended n) (Some left) new buffer = (n ≡ length left) × (n < length buffer) × (new ≡ Some [])
FillGives filled.Failed (Some left) new buffer = (taken : ℕ) × (taken ≤ length buffer) × (new ≡ Some (drop taken left))

-- the length in a header of four bytes, or its refusal
abbrev pub validated_header : List ℕ → Result ℕ CommandEnd
validated_header bytes =
    if nat_lt most_payload (length_at bytes) then Err (end.TooLong (length_at bytes)) else
    if not (slice_index bytes 3 == 0) then Err (end.BadSequence (slice_index bytes 3) 0) else Ok (length_at bytes)

-- a header that was read, and the length in it, or why no command stands in front
abbrev pub HeaderGives : Result ℕ CommandEnd → Option (List ℕ) → Option (List ℕ) → Type 0
HeaderGives result None new = new ≡ None
HeaderGives (Ok n) (Some left) new = (4 ≤ length left) × (slice_index left 3 ≡ 0) × (n ≡ length_at left) × (new ≡ Some (drop 4 left))
HeaderGives (Err end.Failed) (Some left) new = (taken : ℕ) × (taken ≤ 4) × (new ≡ Some (drop taken left))
HeaderGives (Err e) (Some left) new = (command_end left ≡ Some e) × (new ≡ Some (left_at_end e left))
