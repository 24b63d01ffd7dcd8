-- Bytes that are cut into packets, one after another, whatever their sequence numbers.
use Rattle.std.specs.Prelude.{ℕ, ◌+◌, List, [], length, Option, Some, None, Result, Ok, Err, nat_lt, ◌==◌, slice_index, if◌then◌else◌}
use Rattle.qc_sql.specs.Packets.{most_payload}
use Rattle.qc_sql.specs.Commands.{length_at, payload_at, behind_packet}
use Rattle.qc_wire.specs.Places.{Unread, end_of}
use Rattle.qc_wire.specs.declared.refusal.WireRefusal.{WireRefusal}
use Rattle.qc_wire.specs.declared.refusal.WireRefusal.TheVariants as refusal
use Rattle.qc_wire.specs.declared.packets.Packet.{Packet}

-- The sequence number and the payload of the packet in front, or why there is none. The third byte of a length above the most is validated first.
abbrev pub packet_in_front : Unread → Result (ℕ × List ℕ) WireRefusal
packet_in_front u =
    if nat_lt most_payload (length_at u.left) then Err (refusal.BadByte (u.at + 2)) else
    if nat_lt (length u.left) 4 then Err (refusal.Truncated (end_of u)) else
    if nat_lt (length u.left) (4 + length_at u.left) then Err (refusal.Truncated (end_of u)) else
    Ok (slice_index u.left 3, payload_at u.left)

-- behind the packet in front, or at the end where there is none
abbrev pub behind_front : Unread → Unread
behind_front u = behind (packet_in_front u)
  where
    behind : Result (ℕ × List ℕ) WireRefusal → Unread
    behind (Ok packet) = record { at = u.at + 4 + length_at u.left; left = behind_packet u.left }
    behind (Err e) = record { at = end_of u; left = [] }

-- what the next cut answers; nothing at the end
abbrev pub next_packet : Unread → Option (Result (ℕ × List ℕ) WireRefusal)
next_packet u = if length u.left == 0 then None else Some (packet_in_front u)

-- a borrowed packet's number and payload
abbrev pub seen : Result Packet WireRefusal → Result (ℕ × List ℕ) WireRefusal
seen (Ok p) = Ok (p.sequence, p.payload.now)
seen (Err e) = Err e

abbrev pub seen_next : Option (Result Packet WireRefusal) → Option (Result (ℕ × List ℕ) WireRefusal)
seen_next None = None
seen_next (Some r) = Some (seen r)
