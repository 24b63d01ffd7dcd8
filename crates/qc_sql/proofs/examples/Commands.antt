-- Commands as payloads, payloads as commands, and what stands in front of a stream of packets.
use Rattle.std.proofs.Common.{◌≡◌, ℕ, List, [], ◌∷◌, refl}
use Rattle.std.specs.Prelude.{codes, Some, None}
use Rattle.qc_sql.specs.declared.commands.Command.TheVariants as command
use Rattle.qc_sql.specs.declared.commands.CommandEnd.TheVariants as end
use Rattle.qc_sql.specs.Commands.{command_payload, command_of, length_at, payload_at, behind_packet, command_end}

-- ---- payloads

init_payload : command_payload (command.InitDb (codes "w")) ≡ 2 ∷ 119 ∷ []
init_payload = refl

empty_query_payload : command_payload (command.Query []) ≡ 3 ∷ []
empty_query_payload = refl

ping_payload : command_payload command.Ping ≡ 14 ∷ []
ping_payload = refl

-- another command is its byte alone
unknown_payload : command_payload (command.Unknown 29) ≡ 29 ∷ []
unknown_payload = refl

-- but the bytes of COM_QUIT and COM_PING alone would be these commands, so a byte follows
longer_quit_payload : command_payload (command.Unknown 1) ≡ 1 ∷ 0 ∷ []
longer_quit_payload = refl

-- ---- commands

query_is : command_of (3 ∷ 97 ∷ 98 ∷ []) ≡ command.Query (codes "ab")
query_is = refl

-- a name may be empty
init_is : command_of (2 ∷ []) ≡ command.InitDb []
init_is = refl

quit_is : command_of (1 ∷ []) ≡ command.Quit
quit_is = refl

-- with a byte more it is no COM_QUIT, and none of what it holds is told
longer_quit_is : command_of (1 ∷ 1 ∷ []) ≡ command.Unknown 1
longer_quit_is = refl

longer_ping_is : command_of (14 ∷ 0 ∷ 0 ∷ []) ≡ command.Unknown 14
longer_ping_is = refl

nothing_is : command_of [] ≡ command.Empty
nothing_is = refl

zero_is : command_of (0 ∷ 3 ∷ []) ≡ command.Unknown 0
zero_is = refl

-- ---- streams

-- 16 + 2 * 256 + 1 * 65536
length_is : length_at (16 ∷ 2 ∷ 1 ∷ 0 ∷ []) ≡ 66064
length_is = refl

no_bytes : command_end [] ≡ Some end.EndOfInput
no_bytes = refl

-- a header has four bytes
cut_header : command_end (255 ∷ 255 ∷ 255 ∷ []) ≡ Some (end.Cut 3)
cut_header = refl

-- the length is validated before the sequence number
long_and_wrongly_numbered : command_end (255 ∷ 255 ∷ 255 ∷ 9 ∷ []) ≡ Some (end.TooLong 16777215)
long_and_wrongly_numbered = refl

-- the longest payload that a command may have; its bytes lack
longest : command_end (254 ∷ 255 ∷ 255 ∷ 0 ∷ []) ≡ Some (end.Cut 4)
longest = refl

-- the header is validated before the payload is missed
wrongly_numbered : command_end (5 ∷ 0 ∷ 0 ∷ 2 ∷ 3 ∷ []) ≡ Some (end.BadSequence 2 0)
wrongly_numbered = refl

cut_payload : command_end (2 ∷ 0 ∷ 0 ∷ 0 ∷ 3 ∷ []) ≡ Some (end.Cut 5)
cut_payload = refl

-- a payload without bytes is whole
whole_without_bytes : command_end (0 ∷ 0 ∷ 0 ∷ 0 ∷ []) ≡ None
whole_without_bytes = refl

-- what stands behind a packet isn't looked at
abbrev two : List ℕ
two = 2 ∷ 0 ∷ 0 ∷ 0 ∷ 2 ∷ 100 ∷ 1 ∷ 0 ∷ 0 ∷ 7 ∷ []

whole : command_end two ≡ None
whole = refl

first_payload : payload_at two ≡ 2 ∷ 100 ∷ []
first_payload = refl

left : behind_packet two ≡ 1 ∷ 0 ∷ 0 ∷ 7 ∷ []
left = refl
