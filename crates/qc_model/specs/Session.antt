-- A session: what its statements see, and the key and the answer of a select.
use Rattle.std.specs.Prelude.{ℕ, ◌+◌, Bool, true, false, List, [], ◌∷◌, length, map, take, drop, Option, Some, None, Result, Ok, Err, is_some, nat_lt, nat_le, bytes_eq, ◌&&◌, ◌||◌, ◌==◌, slice_index, if◌then◌else◌, option_map, option_and_then}
use Rattle.std.specs.Int.{w16, w64, from_le_bytes}
use Rattle.std.specs.List.{concat}
use Rattle.qc_sql.specs.declared.session.Flags.{Flags}
use Rattle.qc_sql.specs.declared.tables.RowOp.{RowOp}
use Rattle.qc_sql.specs.declared.replies.Reply.{Reply}
use Rattle.qc_sql.specs.declared.replies.Reply.TheVariants as reply
use Rattle.qc_types.specs.declared.sql_error.SqlError.{SqlError}
use Rattle.qc_types.specs.declared.names.Why.{Why}
use Rattle.qc_sql.specs.declared.statements.Statement.{Statement}
use Rattle.qc_sql.specs.declared.statements.Statement.TheVariants as statement
use Rattle.qc_sql.specs.Database.{Name, Database, apply}
use Rattle.qc_model.specs.Journal.{Journal, present, before}
use Rattle.qc_sql.specs.Packets.{packet_list}
use Rattle.qc_sql.specs.Keys.{can_be_keyed, key_bytes}
use Rattle.qc_sql.specs.Rules.{why_not}
use Rattle.qc_sql.specs.Rows.{Rows, rows, text_of}
use Rattle.qc_sql.specs.Grammar.{meaning, ParseFault, trimmed}

-- an open transaction: the place at which it took its snapshot, and its own operations
pub record Transaction : Type 0 where
  pub snapshot : Option ℕ
  pub operations : List RowOp

pub record State : Type 0 where
  pub session : ℕ
  pub db : Name
  pub autocommit : Bool
  pub charset : ℕ
  pub ansi : Bool
  pub row_limit : ℕ
  pub kind : ℕ
  pub transaction : Option Transaction

-- a session that has just begun
abbrev pub starting : ℕ → ℕ → State
starting session kind = record { session = session; db = []; autocommit = true; charset = 33; ansi = false; row_limit = 18446744073709551615; kind = kind; transaction = None }

abbrev pub flags_of : State → Flags
flags_of s = record { in_trans = is_some s.transaction; autocommit = s.autocommit; charset = s.charset; ansi = s.ansi; row_limit = s.row_limit; protocol_form = 0; row_form = 0 }

-- the status of a reply: bit 1 where a transaction is open, and bit 2 where autocommit is on
abbrev pub status_of : Flags → ℕ
status_of f = (if f.in_trans then 1 else 0) + (if f.autocommit then 2 else 0)

abbrev pub with_transaction : State → Option Transaction → State
with_transaction s t = record { session = s.session; db = s.db; autocommit = s.autocommit; charset = s.charset; ansi = s.ansi; row_limit = s.row_limit; kind = s.kind; transaction = t }

-- ---- what a statement sees

abbrev pub at_snapshot : Option ℕ → Journal → Database
at_snapshot None journal = present journal
at_snapshot (Some place) journal = present (before place journal)

abbrev pub seen_in : Option Transaction → Journal → Database
seen_in None journal = present journal
seen_in (Some t) journal = apply t.operations (at_snapshot t.snapshot journal)

-- the database that a session's next statement is validated on
abbrev pub base : State → Journal → Database
base state journal = seen_in state.transaction journal

abbrev pub own_operations : State → List RowOp
own_operations state = of_transaction state.transaction
  where
    of_transaction : Option Transaction → List RowOp
    of_transaction None = []
    of_transaction (Some t) = t.operations

abbrev pub snapshot_of : State → Option ℕ
snapshot_of state = option_and_then (λ t. t.snapshot) state.transaction

-- whether a statement reads or writes rows of a table, and so takes a snapshot
abbrev pub uses_rows : Statement → Bool
uses_rows (statement.Select s) = nat_lt 0 (length s.from)
uses_rows (statement.Insert i) = true
uses_rows (statement.Update u) = true
uses_rows (statement.Delete d) = true
uses_rows _ = false

abbrev pub just_opened : Transaction
just_opened = record { snapshot = None; operations = [] }

-- with autocommit off, a transaction opens by itself
abbrev pub opened : State → Option Transaction
opened state = by_transaction state.transaction
  where
    by_transaction : Option Transaction → Option Transaction
    by_transaction (Some t) = Some t
    by_transaction None = if state.autocommit then None else Some just_opened

abbrev pub snapshot_taken : ℕ → Transaction → Transaction
snapshot_taken place t = by_snapshot t.snapshot
  where
    by_snapshot : Option ℕ → Transaction
    by_snapshot (Some p) = t
    by_snapshot None = record { snapshot = Some place; operations = t.operations }

-- the state in which a statement at this place is validated
abbrev pub arrived : ℕ → Statement → State → State
arrived place s state =
    if uses_rows s then with_transaction state (option_map (snapshot_taken place) (opened state)) else state

-- ---- keys and answers

-- the key of a select's text in a session
abbrev pub key_of_text : State → List ℕ → List ℕ
key_of_text state text = key_bytes (flags_of state) state.db (trimmed text)

-- what a key is made of
pub record KeyParts : Type 0 where
  pub flags : Flags
  pub db : Name
  pub text : List ℕ

abbrev pub flags_from : List ℕ → Flags
flags_from f = record {
  in_trans = slice_index f 0 == 1;
  autocommit = slice_index f 1 == 1;
  charset = from_le_bytes w16 (take 2 (drop 2 f));
  ansi = slice_index f 4 == 1;
  row_limit = from_le_bytes w64 (take 8 (drop 5 f));
  protocol_form = slice_index f 13;
  row_form = slice_index f 14;
}

abbrev pub parts_of : List ℕ → KeyParts
parts_of [] = record { flags = flags_from []; db = []; text = [] }
parts_of (n ∷ rest) = record { flags = flags_from (take 15 (drop n rest)); db = take n rest; text = drop 15 (drop n rest) }

-- whether bytes are the key of these parts, and each part is one that a key may have
abbrev pub is_key_of : KeyParts → List ℕ → Bool
is_key_of parts key =
    can_be_keyed parts.flags parts.db && bytes_eq (key_bytes parts.flags parts.db parts.text) key

-- the reply that rows make
abbrev pub rows_reply : Flags → Rows → Reply
rows_reply flags r = reply.Rows r.columns (map (map text_of) r.rows) (status_of flags)

abbrev pub select_reply : Flags → Result Rows SqlError → Reply
select_reply flags (Ok r) = rows_reply flags r
select_reply flags (Err e) = reply.Err e

-- the packets of rows that aren't refused, where the cache may keep them
abbrev pub packets_unless : KeyParts → Option Why → Result Rows SqlError → Option (List (List ℕ))
packets_unless parts None (Ok r) = Some (packet_list (rows_reply parts.flags r))
packets_unless parts _ _ = None

-- the packets of a select that isn't refused and that the cache may keep
abbrev pub kept_packets : KeyParts → Database → Result Statement ParseFault → Option (List (List ℕ))
kept_packets parts d (Ok (statement.Select s)) = packets_unless parts (why_not parts.db s) (rows s d parts.db parts.flags 0)
kept_packets parts d _ = None

-- the packets that a key's own statement has on a database, under the key's database name and flags; none where the bytes are no key
unfoldable pub answer_packets : List ℕ → Database → Option (List (List ℕ))
answer_packets key d = let parts = parts_of key in if is_key_of parts key then kept_packets parts d (meaning parts.text parts.flags.ansi) else None

-- the same as bytes
abbrev pub answer : List ℕ → Database → Option (List ℕ)
answer key d = option_map concat (answer_packets key d)
