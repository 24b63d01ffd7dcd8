-- The text of a report.
use Rattle.std.specs.Prelude.{ℕ, ◌+◌, ◌*◌, ◌/◌, ◌%◌, ℤ, false, List, [], ◌∷◌, ◌++◌, length, map, Option, Some, None, codes, decimal}
use Rattle.std.specs.Fmt.{signed_decimal, digit_glyph}
use Rattle.std.specs.List.{flat_map, join_with_byte}
use Rattle.std.specs.Int.{w16, to_le_bytes}
use Rattle.qc_types.specs.declared.names.TableName.{TableName}
use Rattle.qc_types.specs.declared.options.Options.{Options}
use Rattle.qc_sql.specs.declared.tables.Column.{Column}
use Rattle.qc_sql.specs.declared.tables.Kind.{Kind}
use Rattle.qc_sql.specs.declared.tables.Kind.TheVariants as kind
use Rattle.qc_sql.specs.declared.tables.RowOp.{RowOp}
use Rattle.qc_sql.specs.declared.tables.RowOp.TheVariants as op
use Rattle.qc_model.specs.declared.events.Who.{Who}
use Rattle.qc_types.specs.declared.names.Why.{Why}
use Rattle.qc_types.specs.declared.names.Why.TheVariants as why
use Rattle.qc_model.specs.declared.events.How.{How}
use Rattle.qc_model.specs.declared.events.How.TheVariants as how
use Rattle.qc_model.specs.declared.events.Reason.{Reason}
use Rattle.qc_model.specs.declared.events.Reason.TheVariants as reason
use Rattle.qc_model.specs.declared.events.GoneWhy.{GoneWhy}
use Rattle.qc_model.specs.declared.events.GoneWhy.TheVariants as gone
use Rattle.qc_model.specs.declared.events.Event.{Event}
use Rattle.qc_model.specs.declared.events.Event.TheVariants as event
use Rattle.qc_model.specs.declared.events.Counters.{Counters}
use Rattle.qc_model.specs.declared.reports.Word.{Word}
use Rattle.qc_model.specs.declared.reports.Word.TheVariants as word
use Rattle.qc_model.specs.declared.reports.Ending.{Ending}
use Rattle.qc_model.specs.declared.reports.Ending.TheVariants as ending
use Rattle.qc_model.specs.declared.reports.ReportLine.{ReportLine}
use Rattle.qc_model.specs.declared.reports.SessionReport.{SessionReport}
use Rattle.qc_model.specs.declared.reports.Report.{Report}
use Rattle.qc_sql.specs.Packets.{row_payload}
use Rattle.qc_sql.specs.Rows.{text_of, column_flags}

abbrev pub Text : Type 0
Text = List ℕ

-- two lower-case hexadecimal digits a byte, and - for no bytes
abbrev pub hex_digits : List ℕ → Text
hex_digits bytes = flat_map (λ b. digit_glyph false (b / 16) ∷ digit_glyph false (b % 16) ∷ []) bytes

abbrev pub hex : List ℕ → Text
hex [] = codes "-"
hex (b ∷ bs) = hex_digits (b ∷ bs)

-- fields with one space between them, and lines that end with LF
abbrev pub fields : List Text → Text
fields texts = join_with_byte 32 texts

abbrev pub listed : List Text → Text
listed texts = join_with_byte 44 texts

abbrev pub lines : List Text → Text
lines texts = flat_map (λ t. t ++ 10 ∷ []) texts

abbrev pub table_text : TableName → Text
table_text t = hex t.db ++ codes "." ++ hex t.name

-- ---- operations

abbrev pub kind_bytes : Kind → List ℕ
kind_bytes kind.Int = 0 ∷ 0 ∷ 0 ∷ []
kind_bytes (kind.Str n) = 1 ∷ to_le_bytes w16 n

abbrev pub column_bytes : Column → List ℕ
column_bytes c = length c.name ∷ (c.name ++ kind_bytes c.kind ++ column_flags c ∷ [])

abbrev pub op_text : RowOp → Text
op_text (op.Put t row) = codes "put:" ++ table_text t ++ codes ":" ++ hex (row_payload (map text_of row))
op_text (op.Del t key) = codes "del:" ++ table_text t ++ codes ":" ++ signed_decimal key
op_text (op.CreateTable t columns) = codes "create:" ++ table_text t ++ codes ":" ++ hex (flat_map column_bytes columns)
op_text (op.DropTable t) = codes "drop:" ++ table_text t
op_text (op.CreateDb name) = codes "createdb:" ++ hex name
op_text (op.DropDb name) = codes "dropdb:" ++ hex name

-- ---- events

abbrev pub why_fields : Why → List Text
why_fields why.Locking = codes "locking" ∷ []
why_fields why.NoTables = codes "notables" ∷ []
why_fields (why.SystemTable t) = codes "systemtable" ∷ table_text t ∷ []
why_fields (why.Function name) = codes "function" ∷ hex name ∷ []

abbrev pub reason_fields : Reason → List Text
reason_fields (reason.Error code) = codes "error" ∷ decimal code ∷ []
reason_fields reason.Off = codes "off" ∷ []
reason_fields reason.NotAsked = codes "notasked" ∷ []
reason_fields (reason.Rule why) = why_fields why
reason_fields (reason.Written t) = codes "written" ∷ table_text t ∷ []
reason_fields (reason.NotVisible t changed snapshot) = codes "notvisible" ∷ table_text t ∷ decimal changed ∷ decimal snapshot ∷ []
reason_fields (reason.Rival serial) = codes "rival" ∷ decimal serial ∷ []
reason_fields (reason.NoRoom need largest) = codes "noroom" ∷ decimal need ∷ decimal largest ∷ []

abbrev pub key_text : Option ℤ → Text
key_text None = codes "-"
key_text (Some key) = signed_decimal key

abbrev pub how_fields : How → List Text
how_fields (how.Hit serial) = codes "hit" ∷ decimal serial ∷ []
how_fields (how.Start serial key tables) = codes "start" ∷ decimal serial ∷ hex key ∷ listed (map table_text tables) ∷ []
how_fields (how.Plain why) = codes "plain" ∷ reason_fields why
how_fields how.Other = codes "other" ∷ []
how_fields (how.Status t) = codes "status" ∷ decimal t.blocks ∷ decimal t.free_blocks ∷ decimal (8 * t.free_words) ∷ []
how_fields (how.Conflict t key by) = codes "conflict" ∷ table_text t ∷ key_text key ∷ decimal by ∷ []

abbrev pub gone_fields : GoneWhy → List Text
gone_fields (gone.TooLarge bytes limit) = codes "toolarge" ∷ decimal bytes ∷ decimal limit ∷ []
gone_fields (gone.NoRoom need largest) = codes "noroom" ∷ decimal need ∷ decimal largest ∷ []
gone_fields gone.Ended = codes "ended" ∷ []

abbrev pub who_fields : Who → List Text
who_fields who = decimal who.session ∷ decimal who.number ∷ []

abbrev pub event_fields : Event → List Text
event_fields (event.Run who h) = codes "run" ∷ (who_fields who ++ how_fields h)
event_fields (event.Commit who ops) = codes "commit" ∷ (who_fields who ++ decimal (length ops) ∷ listed (map op_text ops) ∷ [])
event_fields (event.Done serial) = codes "done" ∷ decimal serial ∷ []
event_fields (event.Gone serial why) = codes "gone" ∷ decimal serial ∷ gone_fields why
event_fields (event.Prune serial need largest) = codes "prune" ∷ decimal serial ∷ decimal need ∷ decimal largest ∷ []
event_fields (event.Reset who) = codes "reset" ∷ who_fields who
event_fields (event.Flush who) = codes "flush" ∷ who_fields who

abbrev pub event_lines : ℕ → List Event → List Text
event_lines n [] = []
event_lines n (e ∷ es) = fields (decimal n ∷ event_fields e) ∷ event_lines (n + 1) es

-- ---- sessions

abbrev pub word_text : Word → Text
word_text word.Hit = codes "hit"
word_text word.Start = codes "start"
word_text word.Plain = codes "plain"
word_text word.Other = codes "other"
word_text word.Local = codes "local"

abbrev pub ending_fields : Ending → List Text
ending_fields ending.Quit = codes "quit" ∷ []
ending_fields ending.Input = codes "input" ∷ []
ending_fields (ending.Cut n) = codes "cut" ∷ decimal n ∷ []
ending_fields (ending.TooLong n) = codes "toolong" ∷ decimal n ∷ []
ending_fields (ending.BadSequence found wanted) = codes "badsequence" ∷ decimal found ∷ decimal wanted ∷ []

abbrev pub line_text : ReportLine → Text
line_text l = fields (decimal l.place ∷ word_text l.how ∷ hex l.reply ∷ [])

abbrev pub session_lines : SessionReport → List Text
session_lines s =
    fields (codes "session" ∷ decimal s.session ∷ codes "commands" ∷ decimal (length s.lines) ∷ codes "end" ∷ ending_fields s.ending) ∷ map line_text s.lines

-- ---- the whole

abbrev pub option_fields : Options → List Text
option_fields o = codes "options" ∷ decimal o.size ∷ decimal o.limit ∷ decimal o.unit ∷ decimal o.kind ∷ []

abbrev pub counter_fields : Counters → List Text
counter_fields c =
    codes "counters" ∷ decimal c.com_select ∷ decimal c.hits ∷ decimal c.inserts ∷ decimal c.not_cached ∷ decimal c.lowmem_prunes ∷ decimal c.queries_in_cache ∷ []

-- the text of a report
unfoldable pub text_of_report : Report → Text
text_of_report r = lines (
    codes "qcache report 1"
    ∷ fields (option_fields r.options)
    ∷ fields (codes "sessions" ∷ decimal (length r.sessions) ∷ [])
    ∷ (flat_map session_lines r.sessions
    ++ fields (codes "journal" ∷ decimal (length r.journal) ∷ [])
    ∷ (event_lines 1 r.journal
    ++ fields (counter_fields r.counters)
    ∷ codes "end" ∷ [])))
