-- Commands as payloads, and a stream of packets read as commands, as the protocol's command phase has them.
use Rattle.std.specs.Prelude.{ℕ, ◌+◌, ◌*◌, not, ◌&&◌, ◌||◌, List, [], ◌∷◌, length, take, drop, Option, Some, None, nat_lt, ◌==◌, slice_index, if◌then◌else◌}
use Rattle.qc_sql.specs.declared.commands.Command.{Command}
use Rattle.qc_sql.specs.declared.commands.Command.TheVariants as command
use Rattle.qc_sql.specs.declared.commands.CommandEnd.{CommandEnd}
use Rattle.qc_sql.specs.declared.commands.CommandEnd.TheVariants as end
use Rattle.qc_sql.specs.Packets.{most_payload}

-- ---- the payload of a command

abbrev pub command_payload : Command → List ℕ
command_payload command.Quit = 0x01 ∷ []
command_payload (command.InitDb name) = 0x02 ∷ name
command_payload (command.Query text) = 0x03 ∷ text
command_payload command.Ping = 0x0e ∷ []
-- these two bytes alone would be COM_QUIT and COM_PING
command_payload (command.Unknown byte) = if byte == 0x01 || byte == 0x0e then byte ∷ 0 ∷ [] else byte ∷ []
command_payload command.Empty = []

-- the command of a payload; COM_QUIT and COM_PING are single bytes
abbrev pub command_of : List ℕ → Command
command_of [] = command.Empty
command_of (b ∷ rest) =
    if b == 0x02 then command.InitDb rest else
    if b == 0x03 then command.Query rest else
    if b == 0x01 && length rest == 0 then command.Quit else
    if b == 0x0e && length rest == 0 then command.Ping else
    command.Unknown b

-- ---- the packet in front of a stream

-- the length of the payload, in the first three bytes
abbrev pub length_at : List ℕ → ℕ
length_at bytes = slice_index bytes 0 + 256 * slice_index bytes 1 + 65536 * slice_index bytes 2

-- the payload behind the header
abbrev pub payload_at : List ℕ → List ℕ
payload_at bytes = take (length_at bytes) (drop 4 bytes)

-- what stands behind the packet
abbrev pub behind_packet : List ℕ → List ℕ
behind_packet bytes = drop (4 + length_at bytes) bytes

-- Why no whole packet of a command stands in front, or none where one does. The header is validated as a whole, its length before its sequence number.
abbrev pub command_end : List ℕ → Option CommandEnd
command_end bytes =
    if length bytes == 0 then Some end.EndOfInput else
    if nat_lt (length bytes) 4 then Some (end.Cut (length bytes)) else
    if nat_lt most_payload (length_at bytes) then Some (end.TooLong (length_at bytes)) else
    if not (slice_index bytes 3 == 0) then Some (end.BadSequence (slice_index bytes 3) 0) else
    if nat_lt (length bytes) (4 + length_at bytes) then Some (end.Cut (length bytes)) else None
