-- Bytes that are no reply, each with its first fault, and bytes that are one.
use Rattle.std.proofs.Common.{◌≡◌, ℕ, List, [], ◌∷◌, Ok, Err, refl}
use Rattle.std.specs.Prelude.{Some}
use Rattle.qc_sql.specs.declared.replies.Reply.TheVariants as reply
use Rattle.qc_wire.specs.declared.refusal.WireRefusal.{WireRefusal}
use Rattle.qc_wire.specs.declared.refusal.WireRefusal.TheVariants as refusal
use Rattle.qc_wire.specs.Reading.{number, constant, constants, integer, integer_behind, no_number, string, times}
use Rattle.qc_wire.specs.Replies.{next_payload, complete, ok_fields, eof_fields, eof_again, eof_packet, catalog, column_names, column_sizes, column_fields, column_packet, cell, row_or_end, next_row, rows, column_count, opened_by, result_set, reply_in_front, reply_of}

abbrev Refused : List ℕ → WireRefusal → Type 0
Refused bytes fault = reply_of bytes ≡ Err fault

-- a result set of one column, of which the columns lack
no_columns : Refused (1 ∷ 0 ∷ 0 ∷ 1 ∷ 1 ∷ []) (refusal.Truncated 5)
unfolding reply_of reply_in_front opened_by next_payload complete column_count integer integer_behind number result_set times column_packet
no_columns = refl

bytes_behind_a_count : Refused (3 ∷ 0 ∷ 0 ∷ 1 ∷ 1 ∷ 0xfc ∷ 1 ∷ []) (refusal.Trailing 5)
unfolding reply_of reply_in_front opened_by next_payload complete column_count integer integer_behind number
bytes_behind_a_count = refl

count_in_a_long_form : Refused (3 ∷ 0 ∷ 0 ∷ 1 ∷ 0xfc ∷ 1 ∷ 0 ∷ []) (refusal.NotMinimal 4)
unfolding reply_of reply_in_front opened_by next_payload complete column_count integer integer_behind number
count_in_a_long_form = refl

-- the fault in front is told, and not that the payload is cut
long_form_in_a_cut_payload : Refused (4 ∷ 0 ∷ 0 ∷ 1 ∷ 0xfc ∷ 1 ∷ 0 ∷ []) (refusal.NotMinimal 4)
unfolding reply_of reply_in_front opened_by next_payload complete column_count integer integer_behind number
long_form_in_a_cut_payload = refl

-- a length of a payload that no packet has
too_long : Refused (0xff ∷ 0xff ∷ 0xff ∷ []) (refusal.BadByte 2)
unfolding reply_of reply_in_front next_payload
too_long = refl

nothing : Refused [] (refusal.Truncated 0)
unfolding reply_of reply_in_front next_payload
nothing = refl

numbered_two : Refused (1 ∷ 0 ∷ 0 ∷ 2 ∷ []) (refusal.BadSequence 2 1)
unfolding reply_of reply_in_front next_payload
numbered_two = refl

sixty_five_columns : Refused (1 ∷ 0 ∷ 0 ∷ 1 ∷ 65 ∷ []) (refusal.BadByte 4)
unfolding reply_of reply_in_front opened_by next_payload column_count integer integer_behind number
sixty_five_columns = refl

ok_is_read : reply_of (7 ∷ 0 ∷ 0 ∷ 1 ∷ 0 ∷ 1 ∷ 0 ∷ 2 ∷ 0 ∷ 0 ∷ 0 ∷ []) ≡ Ok (reply.Ok 1 2)
unfolding reply_of reply_in_front opened_by next_payload complete ok_fields no_number constant constants integer integer_behind number
ok_is_read = refl

byte_behind_an_ok : Refused (7 ∷ 0 ∷ 0 ∷ 1 ∷ 0 ∷ 1 ∷ 0 ∷ 2 ∷ 0 ∷ 0 ∷ 0 ∷ 7 ∷ []) (refusal.Trailing 11)
unfolding reply_of reply_in_front opened_by next_payload complete ok_fields no_number constant constants integer integer_behind number
byte_behind_an_ok = refl

ok_with_an_insert_id : Refused (7 ∷ 0 ∷ 0 ∷ 1 ∷ 0 ∷ 1 ∷ 9 ∷ 2 ∷ 0 ∷ 0 ∷ 0 ∷ []) (refusal.BadByte 6)
unfolding reply_of reply_in_front opened_by next_payload complete ok_fields no_number constant constants integer integer_behind number
ok_with_an_insert_id = refl

-- the 62 bytes of a select of one row: one column, one number
set_bytes : List ℕ
set_bytes =
    0x01 ∷ 0x00 ∷ 0x00 ∷ 0x01 ∷ 0x01
    ∷ 0x1d ∷ 0x00 ∷ 0x00 ∷ 0x02 ∷ 0x03 ∷ 0x64 ∷ 0x65 ∷ 0x66 ∷ 0x01 ∷ 0x64 ∷ 0x01 ∷ 0x74 ∷ 0x01 ∷ 0x74 ∷ 0x02 ∷ 0x69 ∷ 0x64 ∷ 0x02 ∷ 0x69 ∷ 0x64
    ∷ 0x0c ∷ 0x3f ∷ 0x00 ∷ 0x14 ∷ 0x00 ∷ 0x00 ∷ 0x00 ∷ 0x08 ∷ 0x03 ∷ 0x00 ∷ 0x00 ∷ 0x00 ∷ 0x00
    ∷ 0x05 ∷ 0x00 ∷ 0x00 ∷ 0x03 ∷ 0xfe ∷ 0x00 ∷ 0x00 ∷ 0x02 ∷ 0x00
    ∷ 0x02 ∷ 0x00 ∷ 0x00 ∷ 0x04 ∷ 0x01 ∷ 0x37
    ∷ 0x05 ∷ 0x00 ∷ 0x00 ∷ 0x05 ∷ 0xfe ∷ 0x00 ∷ 0x00 ∷ 0x02 ∷ 0x00 ∷ []

set_is_read : reply_of set_bytes ≡ Ok (reply.Rows
    (record { schema = 0x64 ∷ []; table = 0x74 ∷ []; org_table = 0x74 ∷ []; name = 0x69 ∷ 0x64 ∷ []; org_name = 0x69 ∷ 0x64 ∷ []; charset = 63; length = 20; kind = 8; flags = 3; decimals = 0 } ∷ [])
    ((Some (0x37 ∷ []) ∷ []) ∷ []) 2)
unfolding set_bytes reply_of reply_in_front opened_by next_payload complete column_count integer integer_behind number result_set times column_packet column_fields column_names catalog string column_sizes constant constants eof_packet eof_fields rows next_row row_or_end eof_again cell
set_is_read = refl
