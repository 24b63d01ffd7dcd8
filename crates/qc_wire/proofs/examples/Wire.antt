-- Packets of commands that are written and read, packets that are cut, and texts of cells.
use Rattle.std.proofs.Common.{◌≡◌, ℕ, List, [], ◌∷◌, refl, true, false, Ok, Err, arith}
use Rattle.std.specs.Prelude.{codes, Some, None, pos, neg_ℤ}
use Rattle.std.specs.Fmt.{digits}
use Rattle.qc_types.specs.declared.memory.Or.TheVariants as or
use Rattle.qc_sql.specs.declared.commands.Command.TheVariants as command
use Rattle.qc_sql.specs.declared.commands.CommandEnd.TheVariants as end
use Rattle.qc_sql.specs.Packets.{packet}
use Rattle.qc_wire.specs.declared.refusal.WireRefusal.TheVariants as refusal
use Rattle.qc_sql.specs.declared.cells.StoredCell.TheVariants as stored
use Rattle.qc_wire.specs.Places.{Unread}
use Rattle.qc_wire.specs.Commands.{can_be_read, too_long, framed, left_at_end, HasHeader, ReadsCommand, IsCommand, command_text, ReadsAs}
use Rattle.qc_wire.specs.Packets.{packet_in_front, behind_front, next_packet}
use Rattle.qc_wire.specs.Cells.{cell_text, cell_texts}
use Rattle.qc_wire.specs.Laws.{IsPayload, CellFits, IsRowOf, IsError, IsRow, IsReply, Asked, Answered, message_text, IsMessage}
use Rattle.qc_sql.specs.declared.replies.Reply.TheVariants as reply
use Rattle.qc_sql.specs.Errors.{error_of, unknown_command}
use Rattle.qc_sql.specs.Packets.{encoded_integer, encoded_string}

-- ---- commands

known_byte : can_be_read (command.Unknown 3) ≡ false
known_byte = refl

unknown_byte : can_be_read (command.Unknown 255) ≡ true
unknown_byte = refl

-- COM_QUIT with a byte more is an unknown command of its byte
longer_quit : can_be_read (command.Unknown 1) ≡ true
longer_quit = refl

short_payload : too_long (3 ∷ 97 ∷ []) ≡ None
short_payload = refl

empty_is_framed : framed [] ≡ Ok (0 ∷ 0 ∷ 0 ∷ 0 ∷ [])
unfolding packet
empty_is_framed = refl

two_are_framed : framed (3 ∷ 97 ∷ []) ≡ Ok (2 ∷ 0 ∷ 0 ∷ 0 ∷ 3 ∷ 97 ∷ [])
unfolding packet
two_are_framed = refl

-- of a payload that is refused the header was taken
header_taken : left_at_end (end.TooLong 16777215) (255 ∷ 255 ∷ 255 ∷ 0 ∷ 9 ∷ 8 ∷ []) ≡ 9 ∷ 8 ∷ []
header_taken = refl

numbered_taken : left_at_end (end.BadSequence 1 0) (1 ∷ 0 ∷ 0 ∷ 1 ∷ 14 ∷ []) ≡ 14 ∷ []
numbered_taken = refl

-- of a packet that is cut all was taken
cut_taken : left_at_end (end.Cut 3) (1 ∷ 0 ∷ 0 ∷ []) ≡ []
cut_taken = refl

ping_is_read : ReadsCommand (Ok command.Ping) (Some (1 ∷ 0 ∷ 0 ∷ 0 ∷ 14 ∷ 7 ∷ [])) (Some (7 ∷ []))
ping_is_read = (refl, refl, refl)

end_is_read : ReadsCommand (Err (or.Other end.EndOfInput)) (Some []) (Some [])
end_is_read = (refl, refl)

-- without memory for the payload the header was taken, and no more
memory_lacks : ReadsCommand (Err or.Memory) (Some (1 ∷ 0 ∷ 0 ∷ 0 ∷ 14 ∷ [])) (Some (14 ∷ []))
memory_lacks = (record { whole = omega arith; short = omega arith; sequence = refl }, refl)

-- where the source fails, some bytes of the packet were taken
source_fails : ReadsCommand (Err (or.Other end.Failed)) (Some (1 ∷ 0 ∷ 0 ∷ 0 ∷ 14 ∷ 7 ∷ [])) (Some (0 ∷ 0 ∷ 14 ∷ 7 ∷ []))
source_fails = (2, omega arith, refl)

-- a quit isn't read where a ping stands
not_quit : ReadsCommand (Ok command.Quit) (Some (1 ∷ 0 ∷ 0 ∷ 0 ∷ 14 ∷ [])) (Some []) → ⊥
not_quit h = absurd (cc h.1)

no_header : HasHeader (1 ∷ 0 ∷ 0 ∷ []) → ⊥
no_header h = absurd (omega (arith, h.whole))

-- the payload needn't be there
header_alone : HasHeader (254 ∷ 255 ∷ 255 ∷ 0 ∷ [])
header_alone = record { whole = omega arith; short = omega arith; sequence = refl }

query_is_one : IsCommand (command.Query (codes "a"))
query_is_one = (refl, omega arith)

query_byte_is_none : IsCommand (command.Unknown 3) → ⊥
query_byte_is_none h = absurd (cc h.0)

text_of_init : command_text (command.InitDb (codes "d")) ≡ 2 ∷ 0 ∷ 0 ∷ 0 ∷ 2 ∷ 100 ∷ []
unfolding packet
text_of_init = refl

init_is_read : ReadsAs (command.InitDb (codes "d")) (5 ∷ 6 ∷ [])
unfolding packet
init_is_read = (refl, refl, refl)

unknown_is_read : ReadsAs (command.Unknown 14) []
unfolding packet
unknown_is_read = (refl, refl, refl)

-- ---- packets that are cut

abbrev at : ℕ → List ℕ → Unread
at place left = record { at = place; left = left }

in_front : packet_in_front (at 10 (2 ∷ 0 ∷ 0 ∷ 200 ∷ 8 ∷ 9 ∷ 1 ∷ [])) ≡ Ok (200, 8 ∷ 9 ∷ [])
in_front = refl

-- 10 + 4 + 2
behind : behind_front (at 10 (2 ∷ 0 ∷ 0 ∷ 200 ∷ 8 ∷ 9 ∷ 1 ∷ [])) ≡ at 16 (1 ∷ [])
behind = refl

-- the text ends at 15, where the last byte lacks
cut : packet_in_front (at 10 (2 ∷ 0 ∷ 0 ∷ 200 ∷ 8 ∷ [])) ≡ Err (refusal.Truncated 15)
cut = refl

-- the third byte of a length that no packet has stands at 12
long : packet_in_front (at 10 (255 ∷ 255 ∷ 255 ∷ [])) ≡ Err (refusal.BadByte 12)
long = refl

-- after a refusal nothing is left
behind_cut : behind_front (at 10 (2 ∷ 0 ∷ 0 ∷ 200 ∷ 8 ∷ [])) ≡ at 15 []
behind_cut = refl

none_left : next_packet (at 15 []) ≡ None
none_left = refl

next : next_packet (at 0 (0 ∷ 0 ∷ 0 ∷ 255 ∷ [])) ≡ Some (Ok (255, []))
next = refl

-- ---- cells

null_text : cell_text stored.Null ≡ None
null_text = refl

empty_text : cell_text (stored.Str []) ≡ Some []
empty_text = refl

number_text : cell_text (stored.Int (neg_ℤ (pos 40))) ≡ Some (codes "-40")
unfolding digits
number_text = refl

-- a sum may be wider than 64 bits
wide_text : cell_texts (stored.Wide (pos 18446744073709551616) ∷ stored.Null ∷ []) ≡ Some (codes "18446744073709551616") ∷ None ∷ []
unfolding digits
wide_text = refl

-- ---- what has a text

empty_payload : IsPayload []
empty_payload = omega arith

null_cell : CellFits None
null_cell = tt

two_cells : IsRowOf 2 (None ∷ Some (codes "a") ∷ [])
two_cells = (refl, (tt, (omega arith, tt)))

a_cell_lacks : IsRowOf 2 (None ∷ []) → ⊥
a_cell_lacks h = absurd (cc h.0)

-- the packets of an error have its state's five bytes
error_fits : IsError unknown_command
error_fits = record { code = omega arith; state = refl; payload = omega arith }

short_state : IsError (error_of 1 (codes "HY0") []) → ⊥
short_state h = absurd (cc h.state)

large_code : IsError (error_of 65536 (codes "HY000") []) → ⊥
large_code h = absurd (omega (arith, h.code))

-- the largest numbers that an OK tells
ok_fits : IsReply (reply.Ok 18446744073709551615 65535)
ok_fits = (omega arith, omega arith)

large_status : IsReply (reply.Ok 0 65536) → ⊥
large_status h = absurd (omega (arith, h.1))

-- a result set has a column
no_columns : IsReply (reply.Rows [] [] 2) → ⊥
no_columns h = absurd (omega (arith, h.some))

null_row : IsRow 1 (None ∷ [])
unfolding encoded_integer encoded_string
null_row = record { count = refl; payload = omega arith }

asked_text : message_text (Asked command.Ping) ≡ 1 ∷ 0 ∷ 0 ∷ 0 ∷ 14 ∷ []
unfolding packet
asked_text = refl

answered_text : message_text (Answered (reply.Ok 300 3)) ≡ 9 ∷ 0 ∷ 0 ∷ 1 ∷ 0 ∷ 252 ∷ 44 ∷ 1 ∷ 0 ∷ 3 ∷ 0 ∷ 0 ∷ 0 ∷ []
unfolding packet encoded_integer
answered_text = refl

asked_is_one : IsMessage (Asked (command.Unknown 3)) → ⊥
asked_is_one h = absurd (cc h.0)
