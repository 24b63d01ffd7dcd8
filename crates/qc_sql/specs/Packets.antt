-- The bytes of packets, as the client/server protocol has them.
use Rattle.std.specs.Prelude.{ℕ, ◌+◌, ◌%◌, ◌^◌, List, [], ◌∷◌, ◌++◌, length, map, Option, Some, None, nat_lt, if◌then◌else◌, codes}
use Rattle.std.specs.List.{flat_map, concat}
use Rattle.std.specs.Int.{w16, w32, w64, to_le_bytes, bytes_low_first}
use Rattle.qc_types.specs.declared.sql_error.SqlError.{SqlError}
use Rattle.qc_sql.specs.declared.replies.ColumnDef.{ColumnDef}
use Rattle.qc_sql.specs.declared.replies.Reply.{Reply}
use Rattle.qc_sql.specs.declared.replies.Reply.TheVariants as reply

-- the most bytes that one packet carries
abbrev pub most_payload : ℕ
most_payload = 16777214

-- the three low bytes of a number, the lowest first
abbrev pub three_bytes : ℕ → List ℕ
three_bytes n = bytes_low_first 0 3 n

-- a packet: the length of its payload, its sequence number, the payload
unfoldable pub packet : ℕ → List ℕ → List ℕ
packet sequence payload = three_bytes (length payload) ++ sequence ∷ payload

-- a length-encoded integer, in its shortest form
unfoldable pub encoded_integer : ℕ → List ℕ
encoded_integer n =
    if nat_lt n 251 then n ∷ [] else
    if nat_lt n (2 ^ 16) then 0xfc ∷ to_le_bytes w16 n else
    if nat_lt n (2 ^ 24) then 0xfd ∷ three_bytes n else
    0xfe ∷ to_le_bytes w64 n

-- a length-encoded string
unfoldable pub encoded_string : List ℕ → List ℕ
encoded_string bytes = encoded_integer (length bytes) ++ bytes

-- ---- payloads

abbrev pub ok_payload : ℕ → ℕ → List ℕ
ok_payload affected status = 0x00 ∷ (encoded_integer affected ++ encoded_integer 0 ++ to_le_bytes w16 status ++ to_le_bytes w16 0)

abbrev pub err_payload : SqlError → List ℕ
err_payload error = 0xff ∷ (to_le_bytes w16 error.code ++ codes "#" ++ error.state ++ error.message)

abbrev pub eof_payload : ℕ → List ℕ
eof_payload status = 0xfe ∷ (to_le_bytes w16 0 ++ to_le_bytes w16 status)

abbrev pub count_payload : ℕ → List ℕ
count_payload count = encoded_integer count

abbrev pub column_names : ColumnDef → List ℕ
column_names c = flat_map encoded_string (codes "def" ∷ c.schema ∷ c.table ∷ c.org_table ∷ c.name ∷ c.org_name ∷ [])

abbrev pub column_sizes : ColumnDef → List ℕ
column_sizes c = 0x0c ∷ (to_le_bytes w16 c.charset ++ to_le_bytes w32 c.length ++ c.kind ∷ (to_le_bytes w16 c.flags ++ c.decimals ∷ 0 ∷ 0 ∷ []))

abbrev pub column_payload : ColumnDef → List ℕ
column_payload c = column_names c ++ column_sizes c

-- a cell is a text, or null
abbrev pub encoded_cell : Option (List ℕ) → List ℕ
encoded_cell None = 0xfb ∷ []
encoded_cell (Some text) = encoded_string text

abbrev pub row_payload : List (Option (List ℕ)) → List ℕ
row_payload cells = flat_map encoded_cell cells

-- ---- replies

-- The payloads of a reply. A result set is its column count, its columns, EOF, its rows, EOF.
abbrev pub payloads : Reply → List (List ℕ)
payloads (reply.Ok affected status) = ok_payload affected status ∷ []
payloads (reply.Err error) = err_payload error ∷ []
payloads (reply.Rows columns rows status) =
    count_payload (length columns) ∷ (map column_payload columns ++ eof_payload status ∷ (map row_payload rows ++ eof_payload status ∷ []))

-- packets of these payloads, numbered from this one on modulo 256
abbrev pub numbered : ℕ → List (List ℕ) → List (List ℕ)
numbered n [] = []
numbered n (payload ∷ others) = packet n payload ∷ numbered ((n + 1) % 256) others

-- the packets of a reply, numbered from 1
abbrev pub packet_list : Reply → List (List ℕ)
packet_list r = numbered 1 (payloads r)

-- the byte text of a reply
abbrev pub packets : Reply → List ℕ
packets r = concat (packet_list r)
