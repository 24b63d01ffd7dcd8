-- Reading a reply packet by packet, as the protocol's OK_Packet, ERR_Packet and text result set have it. The first fault by place is the answer.
use Rattle.std.specs.Prelude.{ℕ, zero, suc, ◌+◌, ◌%◌, Bool, false, not, ◌&&◌, ◌||◌, List, [], ◌∷◌, length, Option, Some, None, Result, Ok, Err, nat_lt, ◌==◌, slice_index, codes, if◌then◌else◌}
use Rattle.std.specs.Int.{w16, to_le_bytes}
use Rattle.qc_sql.specs.declared.replies.ColumnDef.{ColumnDef}
use Rattle.qc_sql.specs.declared.replies.Reply.{Reply}
use Rattle.qc_sql.specs.declared.replies.Reply.TheVariants as reply
use Rattle.qc_sql.specs.Packets.{most_payload}
use Rattle.qc_sql.specs.Commands.{length_at, payload_at}
use Rattle.qc_wire.specs.declared.refusal.WireRefusal.{WireRefusal}
use Rattle.qc_wire.specs.declared.refusal.WireRefusal.TheVariants as refusal
use Rattle.qc_wire.specs.declared.reading.payload.Payload.{Payload as BorrowedPayload}
use Rattle.qc_wire.specs.declared.reading.payload.Stream.{Stream as BorrowedStream}
use Rattle.qc_wire.specs.declared.reading.columns.Names.{Names}
use Rattle.qc_wire.specs.declared.reading.columns.Sizes.{Sizes}
use Rattle.qc_wire.specs.declared.reading.reply.Opening.{Opening}
use Rattle.qc_wire.specs.declared.reading.reply.Opening.TheVariants as opens
use Rattle.qc_wire.specs.Places.{Unread, moved, end_of}
use Rattle.qc_wire.specs.Reading.{Read, ◌>>=◌, unless, unread, take_bytes, number, constant, constants, integer, no_number, string, times}

-- ---- packets

-- the bytes of a payload that are there, and how many it has by its header
pub record Payload : Type 0 where
  pub bytes : Unread
  pub size : ℕ

-- packets that are still to be read, and the sequence number of the next
pub record Stream : Type 0 where
  pub sequence : ℕ
  pub bytes : Unread

abbrev pub payload_view : BorrowedPayload → Payload
payload_view p = record { bytes = unread p.fields; size = p.size }

abbrev pub stream_view : BorrowedStream → Stream
stream_view s = record { sequence = s.sequence; bytes = unread s.fields }

-- a value, and the packets behind it; or why there is none
abbrev pub Parsed : Type 0 → Type 0
Parsed A = Result (A × Stream) WireRefusal

-- The payload in front, and the packets behind it. Its length is validated first, then its sequence number; whether all of it is there shows when it is read.
unfoldable pub next_payload : Stream → Parsed Payload
next_payload s =
    let u = s.bytes in
    if nat_lt most_payload (length_at u.left) then Err (refusal.BadByte (u.at + 2)) else
    if nat_lt (length u.left) 4 then Err (refusal.Truncated (end_of u)) else
    if not (slice_index u.left 3 == s.sequence) then Err (refusal.BadSequence (slice_index u.left 3) s.sequence) else
    Ok (
      record { bytes = record { at = u.at + 4; left = payload_at u.left }; size = length_at u.left },
      record { sequence = (s.sequence + 1) % 256; bytes = moved (4 + length (payload_at u.left)) u },
    )

-- a payload that was read up to here is complete
unfoldable pub complete : Payload → Unread → Result (Unit {0}) WireRefusal
complete p rest =
    if not (length rest.left == 0) then Err (refusal.Trailing rest.at) else
    if nat_lt (length p.bytes.left) p.size then Err (refusal.Truncated rest.at) else
    Ok tt

-- whether bytes begin with this one
abbrev pub begins_with : ℕ → List ℕ → Bool
begins_with b [] = false
begins_with b (c ∷ cs) = c == b

-- ---- OK, ERR and EOF

unfoldable pub ok_fields : Unread → Read Reply
ok_fields u = do
  header ← constant 0x00 u
  affected ← integer header
  id ← no_number affected.1
  status ← number 2 id
  warnings ← constants (0 ∷ 0 ∷ []) status.1
  Ok (reply.Ok affected.0 status.0, warnings)

-- the message is all that is left
unfoldable pub err_fields : Unread → Read Reply
err_fields u = do
  header ← constant 0xff u
  code ← number 2 header
  sign ← constant 35 code.1
  state ← take_bytes 5 sign
  message ← take_bytes (length state.1.left) state.1
  Ok (reply.Err (record { code = code.0; state = state.0; message = message.0 }), message.1)

unfoldable pub eof_fields : Unread → Read ℕ
eof_fields u = do
  header ← constants (0xfe ∷ 0 ∷ 0 ∷ []) u
  number 2 header

-- both EOF packets of a reply carry the same status
unfoldable pub eof_again : ℕ → Unread → Result Unread WireRefusal
eof_again status u = do
  header ← constants (0xfe ∷ 0 ∷ 0 ∷ []) u
  constants (to_le_bytes w16 status) header

unfoldable pub eof_packet : Stream → Parsed ℕ
eof_packet s = do
  payload ← next_payload s
  status ← eof_fields payload.0.bytes
  whole ← complete payload.0 status.1
  Ok (status.0, payload.1)

-- ---- columns

-- the catalog is "def"
unfoldable pub catalog : Unread → Result Unread WireRefusal
catalog u = do
  size ← integer u
  same ← unless (not (size.0 == 3)) (refusal.BadByte u.at) size.1
  constants (codes "def") same

unfoldable pub column_names : Unread → Read Names
column_names u = do
  behind ← catalog u
  schema ← string behind
  table ← string schema.1
  org_table ← string table.1
  name ← string org_table.1
  org_name ← string name.1
  Ok (record { schema = schema.0; table = table.0; org_table = org_table.0; name = name.0; org_name = org_name.0 }, org_name.1)

unfoldable pub column_sizes : Unread → Read Sizes
column_sizes u = do
  header ← constant 0x0c u
  charset ← number 2 header
  length ← number 4 charset.1
  kind ← number 1 length.1
  flags ← number 2 kind.1
  decimals ← number 1 flags.1
  filler ← constants (0 ∷ 0 ∷ []) decimals.1
  Ok (record { charset = charset.0; length = length.0; kind = kind.0; flags = flags.0; decimals = decimals.0 }, filler)

-- a column with these names and sizes
abbrev pub column_of : Names → Sizes → ColumnDef
column_of n s = record {
  schema = n.schema;
  table = n.table;
  org_table = n.org_table;
  name = n.name;
  org_name = n.org_name;
  charset = s.charset;
  length = s.length;
  kind = s.kind;
  flags = s.flags;
  decimals = s.decimals;
}

unfoldable pub column_fields : Unread → Read ColumnDef
column_fields u = do
  names ← column_names u
  sizes ← column_sizes names.1
  Ok (column_of names.0 sizes.0, sizes.1)

unfoldable pub column_packet : Stream → Parsed ColumnDef
column_packet s = do
  payload ← next_payload s
  column ← column_fields payload.0.bytes
  whole ← complete payload.0 column.1
  Ok (column.0, payload.1)

abbrev pub columns : ℕ → Stream → Parsed (List ColumnDef)
columns n s = times column_packet n s

-- ---- rows

-- the cells of a row are texts, or null
abbrev pub Row : Type 0
Row = List (Option (List ℕ))

unfoldable pub cell : Unread → Read (Option (List ℕ))
cell u =
    if begins_with 0xfb u.left then (take_bytes 1 u >>= λ null. Ok (None, null.1)) else
    (string u >>= λ text. Ok (Some text.0, text.1))

abbrev pub cells : ℕ → Unread → Read Row
cells n u = times cell n u

-- a payload that begins as an EOF and has its size is one
abbrev pub is_eof : Payload → Bool
is_eof p = begins_with 0xfe p.bytes.left && (p.size == 5)

-- a row, or none at the EOF behind the rows
unfoldable pub row_or_end : ℕ → ℕ → Payload → Result (Option Row) WireRefusal
row_or_end columns status p =
    if is_eof p then (eof_again status p.bytes >>= λ rest. complete p rest >>= λ whole. Ok None) else
    (cells columns p.bytes >>= λ row. complete p row.1 >>= λ whole. Ok (Some row.0))

-- the row in front, or none at the EOF behind the rows; and the packets behind it
unfoldable pub next_row : ℕ → ℕ → Stream → Parsed (Option Row)
next_row columns status s = do
  payload ← next_payload s
  row ← row_or_end columns status payload.0
  Ok (row, payload.1)

abbrev pub row_before : Option Row × Stream → Parsed (List Row) → Parsed (List Row)
row_before (None, behind) later = Ok ([], behind)
row_before (Some row, behind) later = later >>= λ others. Ok (row ∷ others.0, others.1)

-- The rows up to the EOF behind them, of at most n packets. Each packet takes a byte at least, so as many as there are bytes are enough.
unfoldable pub rows : ℕ → ℕ → ℕ → Stream → Parsed (List Row)
rows zero columns status s = Err (refusal.Truncated (end_of s.bytes))
rows (suc n) columns status s = next_row columns status s >>= λ row. row_before row (rows n columns status row.1)

-- ---- replies

-- a column count is from 1 to 64
unfoldable pub column_count : Unread → Read ℕ
column_count u = do
  count ← integer u
  unless (count.0 == 0 || nat_lt 64 count.0) (refusal.BadByte u.at) count

-- what the first payload opens
unfoldable pub opened_by : Payload → Result Opening WireRefusal
opened_by p =
    if begins_with 0x00 p.bytes.left then (ok_fields p.bytes >>= λ r. complete p r.1 >>= λ whole. Ok (opens.Whole r.0)) else
    if begins_with 0xff p.bytes.left then (err_fields p.bytes >>= λ r. complete p r.1 >>= λ whole. Ok (opens.Whole r.0)) else
    (column_count p.bytes >>= λ count. complete p count.1 >>= λ whole. Ok (opens.Columns count.0))

-- the columns, their EOF, the rows, their EOF
unfoldable pub result_set : ℕ → Stream → Parsed Reply
result_set n s = do
  cs ← columns n s
  status ← eof_packet cs.1
  rs ← rows (length status.1.bytes.left) n status.0 status.1
  Ok (reply.Rows cs.0 rs.0 status.0, rs.1)

abbrev pub opened : Opening → Stream → Parsed Reply
opened (opens.Whole r) s = Ok (r, s)
opened (opens.Columns n) s = result_set n s

-- the reply in front, and the packets behind it
unfoldable pub reply_in_front : Stream → Parsed Reply
reply_in_front s = do
  payload ← next_payload s
  o ← opened_by payload.0
  opened o payload.1

-- the packets of a reply, which are numbered from 1
abbrev pub from_start : List ℕ → Stream
from_start bytes = record { sequence = 1; bytes = record { at = 0; left = bytes } }

-- The reply that bytes are the text of, or the first fault.
unfoldable pub reply_of : List ℕ → Result Reply WireRefusal
reply_of bytes = do
  r ← reply_in_front (from_start bytes)
  unless (not (length r.1.bytes.left == 0)) (refusal.Trailing r.1.bytes.at) r.0
