-- What the lines of a report tell, read from the left. More is read than reports have: whether a line is one of a report's shows when what it tells is spelt again.
use Rattle.std.specs.Prelude.{◌≡◌, ℕ, zero, suc, ◌+◌, ◌-◌, ◌/◌, ◌^◌, ℤ, pos, negsuc, true, false, ◌&&◌, List, [], ◌∷◌, length, map, take, drop, slice_index, Option, Some, None, unwrap_or, Result, Ok, Err, nat_lt, ◌==◌, bytes_eq, codes, decimal, if◌then◌else◌}
use Rattle.std.specs.Fmt.{signed_decimal}
use Rattle.std.specs.List.{before_first, after_first, position, slice_split}
use Rattle.std.specs.Str.Parse.{digits_value}
use Rattle.std.specs.BTreeMap.{insert_entry}
use lib.Signed.{mag}
use denote.Ref.{Bor}
use Rattle.byteorder.specs.Endian.{little_number}
use Rattle.hex.specs.declared.error.FromHexError.{FromHexError}
use Rattle.hex.specs.Hex.{decode_of}
use Rattle.qc_types.specs.declared.memory.Or.{Or}
use Rattle.qc_types.specs.declared.memory.Or.TheVariants as or
use Rattle.qc_types.specs.declared.names.TableName.{TableName}
use Rattle.qc_types.specs.declared.names.Value.{Value}
use Rattle.qc_types.specs.declared.names.Value.TheVariants as value
use Rattle.qc_types.specs.declared.names.Why.{Why}
use Rattle.qc_types.specs.declared.names.Why.TheVariants as why
use Rattle.qc_types.specs.declared.options.Options.{Options}
use Rattle.qc_types.specs.declared.totals.Totals.{Totals}
use Rattle.qc_sql.specs.Database.{at_name, name_cmp}
use Rattle.qc_sql.specs.declared.tables.Column.{Column}
use Rattle.qc_sql.specs.declared.tables.Kind.{Kind}
use Rattle.qc_sql.specs.declared.tables.Kind.TheVariants as kind
use Rattle.qc_sql.specs.declared.tables.RowOp.{RowOp}
use Rattle.qc_sql.specs.declared.tables.RowOp.TheVariants as op
use Rattle.qc_model.specs.declared.events.Who.{Who}
use Rattle.qc_model.specs.declared.events.How.{How}
use Rattle.qc_model.specs.declared.events.How.TheVariants as how
use Rattle.qc_model.specs.declared.events.Reason.{Reason}
use Rattle.qc_model.specs.declared.events.Reason.TheVariants as reason
use Rattle.qc_model.specs.declared.events.GoneWhy.{GoneWhy}
use Rattle.qc_model.specs.declared.events.GoneWhy.TheVariants as gone
use Rattle.qc_model.specs.declared.events.Event.{Event}
use Rattle.qc_model.specs.declared.events.Event.TheVariants as event
use Rattle.qc_model.specs.declared.events.Counters.{Counters}
use Rattle.qc_model.specs.declared.reports.Word.{Word}
use Rattle.qc_model.specs.declared.reports.Word.TheVariants as word
use Rattle.qc_model.specs.declared.reports.Ending.{Ending}
use Rattle.qc_model.specs.declared.reports.Ending.TheVariants as ending
use Rattle.qc_model.specs.declared.reports.ReportLine.{ReportLine}
use Rattle.qc_model.specs.declared.reports.SessionReport.{SessionReport}
use Rattle.qc_model.specs.declared.reports.Report.{Report}
use Rattle.qc_model.specs.ReportText.{Text, table_text, lines, fields, option_fields, counter_fields, event_fields, line_text}
use Rattle.qc_script.specs.declared.reading.misspelt.Misspelt.{Misspelt}
use Rattle.qc_script.specs.declared.reading.left.Lines.{Lines}
use Rattle.qc_script.specs.declared.reports.sessions.Head.{Head}
use Rattle.qc_script.specs.ReportParts.{head_fields}

-- ---- steps

-- what bytes tell, or that they tell nothing
abbrev pub Told : Type 0 → Type 0
Told A = Result A Misspelt

infixl 10 ◌>>=◌
abbrev pub ◌>>=◌ : {A B E : Type 0} → Result A E → (A → Result B E) → Result B E
(Ok x) >>= f = f x
(Err e) >>= f = Err e

abbrev pub nothing : {A : Type 0} → Told A
nothing = Err (record {})

-- a call answers, seen by a view, what is told
abbrev pub Is : {X Y : Type 0} → (X → Y) → Result X Misspelt → Told Y → Type 0
Is view (Ok x) told = told ≡ Ok (view x)
Is view (Err e) told = told ≡ Err e

-- each in order, with what the ones before it leave
unfoldable pub each : {S X A : Type 0} → (S → X → Told (A × S)) → S → List X → Told (List A × S)
each f s [] = Ok ([], s)
each f s (x ∷ xs) = do
  first ← f s x
  others ← each f first.1 xs
  Ok (first.0 ∷ others.0, others.1)

-- ---- fields

-- what stands in front of the first such byte, and what stands behind it
abbrev pub front : ℕ → Text → Text
front c t = before_first (λ b. b == c) t

abbrev pub behind : ℕ → Text → Text
behind c t = after_first (λ b. b == c) t

-- the members of a list with a comma between two
abbrev pub members : Text → List Text
members [] = []
members (b ∷ bs) = slice_split (λ c. c == 44) (b ∷ bs)

unfoldable pub number_told : Text → Told ℕ
number_told t = let n = digits_value 10 t in if nat_lt n (2 ^ 64) && bytes_eq (decimal n) t then Ok n else nothing

unfoldable pub number_below : ℕ → Text → Told ℕ
number_below limit t = do
  n ← number_told t
  if nat_lt n limit then Ok n else nothing

-- the number that digits write, with a minus in front where it is below 0
abbrev pub signed_value : Text → ℤ
signed_value t = if slice_index t 0 == 45 then negsuc (digits_value 10 (drop 1 t) - 1) else pos (digits_value 10 t)

unfoldable pub signed_told : Text → Told ℤ
signed_told t = let z = signed_value t in if nat_lt (mag z) (2 ^ 63) && bytes_eq (signed_decimal z) t then Ok z else nothing

abbrev pub decoded : Result Text FromHexError → Told Text
decoded (Ok bytes) = Ok bytes
decoded (Err e) = nothing

unfoldable pub bytes_told : Text → Told Text
bytes_told t = if bytes_eq t (codes "-") then Ok [] else decoded (decode_of t)

unfoldable pub table_told : Text → Told TableName
table_told t = do
  db ← bytes_told (front 46 t)
  name ← bytes_told (behind 46 t)
  Ok (record { db = db; name = name })

abbrev pub table_among : Unit {0} → Text → Told (TableName × Unit {0})
table_among u t = do
  table ← table_told t
  Ok (table, u)

unfoldable pub tables_told : Text → Told (List TableName)
tables_told t = do
  tables ← each table_among tt (members t)
  Ok tables.0

unfoldable pub key_told : Text → Told (Option ℤ)
key_told t = if bytes_eq t (codes "-") then Ok None else (signed_told t >>= λ z. Ok (Some z))

-- ---- rows and columns

-- the text that a cell borrows, where it isn't NULL
abbrev pub now_of : Option (Bor Text) → Option Text
now_of None = None
now_of (Some text) = Some text.now

abbrev pub taken : ℕ → Text → Told (Text × Text)
taken n t = if nat_lt (length t) n then nothing else Ok (take n t, drop n t)

unfoldable pub little : ℕ → Text → Told (ℕ × Text)
little n t = do
  bytes ← taken n t
  Ok (little_number n bytes.0, bytes.1)

-- a length-encoded integer, in any of its forms, from its first byte
unfoldable pub integer_told : ℕ → Text → Told (ℕ × Text)
integer_told first t =
    if nat_lt first 251 then Ok (first, t) else
    if first == 0xfc then little 2 t else
    if first == 0xfd then little 3 t else
    if first == 0xfe then little 8 t else
    nothing

unfoldable pub cell_behind : ℕ → Text → Told (Option Text × Text)
cell_behind first t =
    if first == 0xfb then Ok (None, t) else
    (integer_told first t >>= λ size. taken size.0 size.1 >>= λ text. Ok (Some text.0, text.1))

unfoldable pub cell_told : Text → Told (Option Text × Text)
cell_told t = do
  first ← little 1 t
  cell_behind first.0 first.1

abbrev pub number_or_text : Text → Told ℤ → Value
number_or_text t (Ok z) = value.Int z
number_or_text t (Err e) = value.Str t

abbrev pub value_told : Option Kind → Option Text → Value
value_told k None = value.Null
value_told None (Some t) = value.Str t
value_told (Some (kind.Str n)) (Some t) = value.Str t
value_told (Some kind.Int) (Some t) = number_or_text t (signed_told t)

abbrev pub first_kind : List Kind → Option Kind
first_kind [] = None
first_kind (k ∷ ks) = Some k

-- the cells of at most so many bytes
unfoldable pub cells_told : ℕ → List Kind → Text → Told (List Value)
cells_told n kinds [] = Ok []
cells_told zero kinds (b ∷ bs) = nothing
cells_told (suc n) kinds (b ∷ bs) = do
  cell ← cell_told (b ∷ bs)
  others ← cells_told n (drop 1 kinds) cell.1
  Ok (value_told (first_kind kinds) cell.0 ∷ others)

abbrev pub row_told : List Kind → Text → Told (List Value)
row_told kinds t = cells_told (length t) kinds t

unfoldable pub kind_told : ℕ → ℕ → Told Kind
kind_told k size = if k == 0 then Ok kind.Int else if k == 1 then Ok (kind.Str size) else nothing

unfoldable pub column_of : Text → Kind → ℕ → Told Column
column_of name k flags =
    if flags == 0 then Ok (record { name = name; kind = k; not_null = false; primary = false }) else
    if flags == 1 then Ok (record { name = name; kind = k; not_null = true; primary = false }) else
    if flags == 3 then Ok (record { name = name; kind = k; not_null = true; primary = true }) else
    nothing

unfoldable pub column_told : Text → Told (Column × Text)
column_told t = do
  size ← little 1 t
  name ← taken size.0 size.1
  which ← little 1 name.1
  long ← little 2 which.1
  flags ← little 1 long.1
  kind ← kind_told which.0 long.0
  column ← column_of name.0 kind flags.0
  Ok (column, flags.1)

-- the columns of at most so many bytes
unfoldable pub columns_within : ℕ → Text → Told (List Column)
columns_within n [] = Ok []
columns_within zero (b ∷ bs) = nothing
columns_within (suc n) (b ∷ bs) = do
  column ← column_told (b ∷ bs)
  others ← columns_within n column.1
  Ok (column.0 ∷ others)

abbrev pub columns_told : Text → Told (List Column)
columns_told t = columns_within (length t) t

-- ---- operations

-- of each table that was made, by its name as a report spells it, the kinds of its columns when it was last made
abbrev pub KindsMade : Type 0
KindsMade = List (Text × List Kind)

abbrev pub kinds_at : Text → KindsMade → List Kind
kinds_at name made = unwrap_or (at_name name made) []

abbrev pub made_with : Text → List Column → KindsMade → KindsMade
made_with name columns made = insert_entry name_cmp made name (map (λ c. c.kind) columns)

unfoldable pub put_told : KindsMade → Text → Told RowOp
put_told made t = do
  table ← table_told (front 58 t)
  payload ← bytes_told (behind 58 t)
  row ← row_told (kinds_at (table_text table) made) payload
  Ok (op.Put table row)

unfoldable pub create_told : KindsMade → Text → Told (RowOp × KindsMade)
create_told made t = do
  payload ← bytes_told (behind 58 t)
  columns ← columns_told payload
  table ← table_told (front 58 t)
  Ok (op.CreateTable table columns, made_with (table_text table) columns made)

unfoldable pub del_told : Text → Told RowOp
del_told t = do
  table ← table_told (front 58 t)
  key ← signed_told (behind 58 t)
  Ok (op.Del table key)

-- an operation that makes no table, by its word
unfoldable pub change_told : KindsMade → Text → Text → Told RowOp
change_told made w t =
    if bytes_eq w (codes "put") then put_told made t else
    if bytes_eq w (codes "del") then del_told t else
    if bytes_eq w (codes "drop") then (table_told t >>= λ table. Ok (op.DropTable table)) else
    if bytes_eq w (codes "createdb") then (bytes_told t >>= λ name. Ok (op.CreateDb name)) else
    if bytes_eq w (codes "dropdb") then (bytes_told t >>= λ name. Ok (op.DropDb name)) else
    nothing

unfoldable pub op_told : KindsMade → Text → Told (RowOp × KindsMade)
op_told made t =
    if bytes_eq (front 58 t) (codes "create") then create_told made (behind 58 t) else
    (change_told made (front 58 t) (behind 58 t) >>= λ change. Ok (change, made))

abbrev pub ops_told : KindsMade → Text → Told (List RowOp × KindsMade)
ops_told made t = each op_told made (members t)

-- ---- events

unfoldable pub who_told : Text → Told Who
who_told t = do
  session ← number_below (2 ^ 8) (front 32 t)
  number ← number_told (front 32 (behind 32 t))
  Ok (record { session = session; number = number })

abbrev pub behind_two : Text → Text
behind_two t = behind 32 (behind 32 t)

unfoldable pub why_told : Text → Text → Told Why
why_told w t =
    if bytes_eq w (codes "locking") then Ok why.Locking else
    if bytes_eq w (codes "notables") then Ok why.NoTables else
    if bytes_eq w (codes "systemtable") then (table_told t >>= λ table. Ok (why.SystemTable table)) else
    if bytes_eq w (codes "function") then (bytes_told t >>= λ name. Ok (why.Function name)) else
    nothing

unfoldable pub not_visible_told : Text → Told Reason
not_visible_told t = do
  table ← table_told (front 32 t)
  changed ← number_told (front 32 (behind 32 t))
  snapshot ← number_told (behind_two t)
  Ok (reason.NotVisible table changed snapshot)

unfoldable pub reason_told : Text → Told Reason
reason_told t =
    let w = front 32 t in
    let rest = behind 32 t in
    if bytes_eq w (codes "error") then (number_below (2 ^ 16) rest >>= λ code. Ok (reason.Error code)) else
    if bytes_eq w (codes "off") then Ok reason.Off else
    if bytes_eq w (codes "notasked") then Ok reason.NotAsked else
    if bytes_eq w (codes "written") then (table_told rest >>= λ table. Ok (reason.Written table)) else
    if bytes_eq w (codes "notvisible") then not_visible_told rest else
    if bytes_eq w (codes "rival") then (number_told rest >>= λ serial. Ok (reason.Rival serial)) else
    if bytes_eq w (codes "noroom") then (number_below (2 ^ 32) (front 32 rest) >>= λ need. number_below (2 ^ 32) (behind 32 rest) >>= λ largest. Ok (reason.NoRoom need largest)) else
    (why_told w rest >>= λ y. Ok (reason.Rule y))

unfoldable pub start_told : Text → Told How
start_told t = do
  serial ← number_told (front 32 t)
  key ← bytes_told (front 32 (behind 32 t))
  tables ← tables_told (behind_two t)
  Ok (how.Start serial key tables)

unfoldable pub totals_told : Text → Told Totals
totals_told t = do
  blocks ← number_below (2 ^ 32) (front 32 t)
  free_blocks ← number_below (2 ^ 32) (front 32 (behind 32 t))
  free_bytes ← number_below (2 ^ 35) (behind_two t)
  Ok (record { blocks = blocks; free_blocks = free_blocks; free_words = free_bytes / 8 })

unfoldable pub conflict_told : Text → Told How
conflict_told t = do
  table ← table_told (front 32 t)
  key ← key_told (front 32 (behind 32 t))
  by ← number_told (behind_two t)
  Ok (how.Conflict table key by)

unfoldable pub how_told : Text → Told How
how_told t =
    let w = front 32 t in
    let rest = behind 32 t in
    if bytes_eq w (codes "hit") then (number_told rest >>= λ serial. Ok (how.Hit serial)) else
    if bytes_eq w (codes "start") then start_told rest else
    if bytes_eq w (codes "plain") then (reason_told rest >>= λ y. Ok (how.Plain y)) else
    if bytes_eq w (codes "other") then Ok how.Other else
    if bytes_eq w (codes "status") then (totals_told rest >>= λ totals. Ok (how.Status totals)) else
    if bytes_eq w (codes "conflict") then conflict_told rest else
    nothing

unfoldable pub gone_told : Text → Told GoneWhy
gone_told t =
    let w = front 32 t in
    let rest = behind 32 t in
    if bytes_eq w (codes "toolarge") then (number_told (front 32 rest) >>= λ size. number_below (2 ^ 32) (behind 32 rest) >>= λ limit. Ok (gone.TooLarge size limit)) else
    if bytes_eq w (codes "noroom") then (number_below (2 ^ 32) (front 32 rest) >>= λ need. number_below (2 ^ 32) (behind 32 rest) >>= λ largest. Ok (gone.NoRoom need largest)) else
    if bytes_eq w (codes "ended") then Ok gone.Ended else
    nothing

unfoldable pub run_told : Text → Told Event
run_told t = do
  who ← who_told t
  h ← how_told (behind_two t)
  Ok (event.Run who h)

-- the number of the operations stands in front of them
unfoldable pub commit_told : KindsMade → Text → Told (Event × KindsMade)
commit_told made t = do
  who ← who_told t
  ops ← ops_told made (behind 32 (behind_two t))
  Ok (event.Commit who ops.0, ops.1)

unfoldable pub prune_told : Text → Told Event
prune_told t = do
  serial ← number_told (front 32 t)
  need ← number_below (2 ^ 32) (front 32 (behind 32 t))
  largest ← number_below (2 ^ 32) (behind_two t)
  Ok (event.Prune serial need largest)

unfoldable pub gone_event_told : Text → Told Event
gone_event_told t = do
  serial ← number_told (front 32 t)
  y ← gone_told (behind 32 t)
  Ok (event.Gone serial y)

-- an event that is no commit, by its word
unfoldable pub other_told : Text → Text → Told Event
other_told w t =
    if bytes_eq w (codes "run") then run_told t else
    if bytes_eq w (codes "done") then (number_told t >>= λ serial. Ok (event.Done serial)) else
    if bytes_eq w (codes "gone") then gone_event_told t else
    if bytes_eq w (codes "prune") then prune_told t else
    if bytes_eq w (codes "reset") then (who_told t >>= λ who. Ok (event.Reset who)) else
    if bytes_eq w (codes "flush") then (who_told t >>= λ who. Ok (event.Flush who)) else
    nothing

unfoldable pub event_told : KindsMade → Text → Told (Event × KindsMade)
event_told made t =
    if bytes_eq (front 32 t) (codes "commit") then commit_told made (behind 32 t) else
    (other_told (front 32 t) (behind 32 t) >>= λ e. Ok (e, made))

-- ---- lines, each with its LF

-- the fields of a line behind its first one
abbrev pub behind_word : Text → Text
behind_word line = behind 32 (front 10 line)

-- what a line tells, where it is spelt so
abbrev pub spelt : {A : Type 0} → Text → (A → Text) → A → Told A
spelt line text x = if bytes_eq line (text x) then Ok x else nothing

abbrev pub one_line : List Text → Text
one_line texts = lines (fields texts ∷ [])

unfoldable pub options_in : Text → Told Options
options_in t = do
  size ← number_below (2 ^ 32) (front 32 t)
  limit ← number_below (2 ^ 32) (front 32 (behind 32 t))
  unit ← number_below (2 ^ 32) (front 32 (behind_two t))
  kind ← number_below (2 ^ 8) (behind 32 (behind_two t))
  Ok (record { size = size; limit = limit; unit = unit; kind = kind })

unfoldable pub options_line : Text → Told Options
options_line line = options_in (behind_word line) >>= spelt line (λ o. one_line (option_fields o))

unfoldable pub counters_in : Text → Told Counters
counters_in t = do
  com_select ← number_told (front 32 t)
  hits ← number_told (front 32 (behind 32 t))
  inserts ← number_told (front 32 (behind_two t))
  not_cached ← number_told (front 32 (behind 32 (behind_two t)))
  lowmem_prunes ← number_told (front 32 (behind_two (behind_two t)))
  queries_in_cache ← number_told (behind 32 (behind_two (behind_two t)))
  Ok (record { com_select = com_select; hits = hits; inserts = inserts; not_cached = not_cached; lowmem_prunes = lowmem_prunes; queries_in_cache = queries_in_cache })

unfoldable pub counters_line : Text → Told Counters
counters_line line = counters_in (behind_word line) >>= spelt line (λ c. one_line (counter_fields c))

unfoldable pub count_line : Text → Text → Told ℕ
count_line w line = number_told (behind_word line) >>= spelt line (λ n. one_line (w ∷ decimal n ∷ []))

unfoldable pub ending_told : Text → Told Ending
ending_told t =
    let w = front 32 t in
    let rest = behind 32 t in
    if bytes_eq w (codes "quit") then Ok ending.Quit else
    if bytes_eq w (codes "input") then Ok ending.Input else
    if bytes_eq w (codes "cut") then (number_below (2 ^ 32) rest >>= λ size. Ok (ending.Cut size)) else
    if bytes_eq w (codes "toolong") then (number_below (2 ^ 32) rest >>= λ size. Ok (ending.TooLong size)) else
    if bytes_eq w (codes "badsequence") then (number_below (2 ^ 8) (front 32 rest) >>= λ found. number_below (2 ^ 8) (behind 32 rest) >>= λ wanted. Ok (ending.BadSequence found wanted)) else
    nothing

unfoldable pub head_in : Text → Told Head
head_in t = do
  session ← number_below (2 ^ 8) (front 32 t)
  commands ← number_told (front 32 (behind_two t))
  ending ← ending_told (behind_two (behind_two t))
  Ok (record { session = session; commands = commands; ending = ending })

unfoldable pub head_line : Text → Told Head
head_line line = head_in (behind_word line) >>= spelt line (λ h. one_line (codes "session" ∷ head_fields h))

unfoldable pub word_told : Text → Told Word
word_told w =
    if bytes_eq w (codes "hit") then Ok word.Hit else
    if bytes_eq w (codes "start") then Ok word.Start else
    if bytes_eq w (codes "plain") then Ok word.Plain else
    if bytes_eq w (codes "other") then Ok word.Other else
    if bytes_eq w (codes "local") then Ok word.Local else
    nothing

unfoldable pub command_in : Text → Told ReportLine
command_in t = do
  place ← number_told (front 32 t)
  how ← word_told (front 32 (behind 32 t))
  reply ← bytes_told (behind_two t)
  Ok (record { place = place; how = how; reply = reply })

unfoldable pub command_line : Text → Told ReportLine
command_line line = command_in (front 10 line) >>= spelt line (λ c. lines (line_text c ∷ []))

unfoldable pub event_line : KindsMade → ℕ → Text → Told (Event × KindsMade)
event_line made number line = event_told made (behind_word line) >>= spelt line (λ e. one_line (decimal number ∷ event_fields e.0))

-- ---- the whole, from its first line; a line is refused by its number

-- the lines that are still to be read, and the number of the first
pub record Unread : Type 0 where
  pub number : ℕ
  pub left : Text

abbrev pub unread : Lines → Unread
unread l = record { number = l.number; left = l.left.now }

abbrev pub line_to : Unread → Option ℕ → Result (Text × Unread) ℕ
line_to u None = Err u.number
line_to u (Some end) = Ok (take (end + 1) u.left, record { number = u.number + 1; left = drop (end + 1) u.left })

-- the first line with its LF, and those behind it
unfoldable pub line_at : Unread → Result (Text × Unread) ℕ
line_at u = line_to u (position (λ b. b == 10) u.left)

abbrev pub at_number : {A : Type 0} → ℕ → Told A → Result A ℕ
at_number n (Ok x) = Ok x
at_number n (Err e) = Err n

-- a line's reading is refused by the line's number, but for want of memory
abbrev pub IsAt : {A : Type 0} → ℕ → Result A (Or Misspelt) → Result A (Or ℕ) → Type 0
IsAt n (Ok x) result = result ≡ Ok x
IsAt n (Err or.Memory) result = result ≡ Err or.Memory
IsAt n (Err (or.Other m)) result = result ≡ Err (or.Other n)

-- what the first line tells
abbrev pub told_at : {A : Type 0} → (Text → Told A) → Unread → Result (A × Unread) ℕ
told_at tells u = do
  line ← line_at u
  x ← at_number u.number (tells line.0)
  Ok (x, line.1)

-- the lines behind a certain one
unfoldable pub behind_line : Text → Unread → Result Unread ℕ
behind_line expected u = do
  line ← line_at u
  if bytes_eq line.0 expected then Ok line.1 else Err u.number

-- so many values, one after another
unfoldable pub times : {A S : Type 0} → (S → Result (A × S) ℕ) → ℕ → S → Result (List A × S) ℕ
times read zero s = Ok ([], s)
times read (suc n) s = do
  first ← read s
  others ← times read n first.1
  Ok (first.0 ∷ others.0, others.1)

abbrev pub command_at : Unread → Result (ReportLine × Unread) ℕ
command_at u = told_at command_line u

unfoldable pub session_at : Unread → Result (SessionReport × Unread) ℕ
session_at u = do
  head ← told_at head_line u
  commands ← times command_at head.0.commands head.1
  Ok (record { session = head.0.session; lines = commands.0; ending = head.0.ending }, commands.1)

unfoldable pub sessions_at : Unread → Result (List SessionReport × Unread) ℕ
sessions_at u = do
  count ← told_at (count_line (codes "sessions")) u
  times session_at count.0 count.1

-- behind an event: its number, the tables that were made, and the lines behind its own
pub record Behind : Type 0 where
  pub number : ℕ
  pub made : KindsMade
  pub unread : Unread

abbrev pub behind_event : ℕ → KindsMade → Unread → Behind
behind_event number made u = record { number = number; made = made; unread = u }

unfoldable pub event_at : Behind → Result (Event × Behind) ℕ
event_at s = do
  line ← line_at s.unread
  e ← at_number s.unread.number (event_line s.made (s.number + 1) line.0)
  Ok (e.0, behind_event (s.number + 1) e.1 line.1)

unfoldable pub events_at : ℕ → Unread → Result (List Event × Unread) ℕ
events_at count u = do
  events ← times event_at count (behind_event 0 [] u)
  Ok (events.0, events.1.unread)

unfoldable pub journal_at : Unread → Result (List Event × Unread) ℕ
journal_at u = do
  count ← told_at (count_line (codes "journal")) u
  events_at count.0 count.1

-- no line is left
abbrev pub ended : Unread → Result Text ℕ
ended u = if length u.left == 0 then Ok u.left else Err u.number

unfoldable pub report_told : Unread → Result Report ℕ
report_told u = do
  first ← behind_line (codes "qcache report 1\n") u
  options ← told_at options_line first
  sessions ← sessions_at options.1
  journal ← journal_at sessions.1
  counters ← told_at counters_line journal.1
  last ← behind_line (codes "end\n") counters.1
  none ← ended last
  Ok (record { options = options.0; sessions = sessions.0; journal = journal.0; counters = counters.0 })
