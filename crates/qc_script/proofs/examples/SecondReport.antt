-- The report of one session that makes a table, puts a row and reads it, while the cache is off; and what is no such report.
use Rattle.std.proofs.Common.{◌≡◌, ℕ, ◌^◌, ◌<◌, Bool, true, false, List, [], ◌∷◌, ◌++◌, refl, ap, arith}
use Rattle.std.specs.Prelude.{◌&&◌, nat_lt, codes, pos}
use Rattle.std.specs.Fmt.{digits}
use Rattle.std.proofs.lemmas.Bool.{and_parts, ltb-true}
use Rattle.qc_types.specs.declared.names.TableName.{TableName}
use Rattle.qc_types.specs.declared.names.Value.{Value}
use Rattle.qc_types.specs.declared.names.Value.TheVariants as value
use Rattle.qc_sql.specs.Packets.{encoded_integer, encoded_string}
use Rattle.qc_sql.specs.declared.tables.Column.{Column}
use Rattle.qc_sql.specs.declared.tables.Kind.TheVariants as kind
use Rattle.qc_sql.specs.declared.tables.RowOp.TheVariants as op
use Rattle.qc_model.specs.declared.events.Who.{Who}
use Rattle.qc_model.specs.declared.events.How.TheVariants as how
use Rattle.qc_model.specs.declared.events.Reason.TheVariants as reason
use Rattle.qc_model.specs.declared.events.Event.{Event}
use Rattle.qc_model.specs.declared.events.Event.TheVariants as event
use Rattle.qc_model.specs.declared.reports.Word.TheVariants as word
use Rattle.qc_model.specs.declared.reports.Ending.TheVariants as ending
use Rattle.qc_model.specs.declared.reports.ReportLine.{ReportLine}
use Rattle.qc_model.specs.declared.reports.Report.{Report}
use Rattle.qc_model.specs.ReportText.{Text, table_text, text_of_report, lines}
use Rattle.qc_script.specs.Told.{KindsMade, kinds_at, made_with}
use Rattle.qc_script.specs.Tellable.{IsU8, AreBytes, made_by, IsTellable}
use Rattle.qc_script.specs.BadLine.{Begins, IsFirstBad}

abbrev table : TableName
table = record { db = codes "d"; name = codes "t" }

abbrev columns : List Column
columns = record { name = codes "id"; kind = kind.Int; not_null = true; primary = true } ∷ []

-- the reply to the last SELECT: one column, and one row with the number 7
abbrev rows : Text
rows =
    0x01 ∷ 0x00 ∷ 0x00 ∷ 0x01 ∷ 0x01
    ∷ 0x1d ∷ 0x00 ∷ 0x00 ∷ 0x02 ∷ 0x03 ∷ 0x64 ∷ 0x65 ∷ 0x66 ∷ 0x01 ∷ 0x64 ∷ 0x01 ∷ 0x74 ∷ 0x01 ∷ 0x74 ∷ 0x02 ∷ 0x69 ∷ 0x64 ∷ 0x02 ∷ 0x69 ∷ 0x64
    ∷ 0x0c ∷ 0x3f ∷ 0x00 ∷ 0x14 ∷ 0x00 ∷ 0x00 ∷ 0x00 ∷ 0x08 ∷ 0x03 ∷ 0x00 ∷ 0x00 ∷ 0x00 ∷ 0x00
    ∷ 0x05 ∷ 0x00 ∷ 0x00 ∷ 0x03 ∷ 0xfe ∷ 0x00 ∷ 0x00 ∷ 0x02 ∷ 0x00
    ∷ 0x02 ∷ 0x00 ∷ 0x00 ∷ 0x04 ∷ 0x01 ∷ 0x37
    ∷ 0x05 ∷ 0x00 ∷ 0x00 ∷ 0x05 ∷ 0xfe ∷ 0x00 ∷ 0x00 ∷ 0x02 ∷ 0x00 ∷ []

-- the reply to a statement that changed so many rows
abbrev changed : ℕ → Text
changed n = 7 ∷ 0 ∷ 0 ∷ 1 ∷ 0 ∷ n ∷ 0 ∷ 2 ∷ 0 ∷ 0 ∷ 0 ∷ []

abbrev answered : ℕ → Text → ReportLine
answered place reply = record { place = place; how = word.Other; reply = reply }

abbrev who : ℕ → Who
who n = record { session = 1; number = n }

-- the report, where the row that was put has these cells
abbrev report_with : List Value → Report
report_with row = record {
  options = record { size = 0; limit = 1048576; unit = 4096; kind = 1 };
  sessions = record {
    session = 1;
    lines = answered 1 (changed 1) ∷ answered 2 (changed 0) ∷ answered 3 (changed 0) ∷ answered 4 (changed 1) ∷ record { place = 5; how = word.Plain; reply = rows } ∷ [];
    ending = ending.Input;
  } ∷ [];
  journal =
      event.Commit (who 1) (op.CreateDb (codes "d") ∷ [])
      ∷ event.Run (who 2) how.Other
      ∷ event.Commit (who 3) (op.CreateTable table columns ∷ [])
      ∷ event.Commit (who 4) (op.Put table row ∷ [])
      ∷ event.Run (who 5) (how.Plain reason.Off)
      ∷ [];
  counters = record { com_select = 1; hits = 0; inserts = 0; not_cached = 1; lowmem_prunes = 0; queries_in_cache = 0 };
}

abbrev second : Report
second = report_with (value.Int (pos 7) ∷ [])

-- ---- tables that were made

made_first : made_with (table_text table) columns [] ≡ (codes "64.74", kind.Int ∷ []) ∷ []
made_first = refl

kinds_there : kinds_at (codes "64.74") ((codes "64.74", kind.Int ∷ []) ∷ []) ≡ kind.Int ∷ []
kinds_there = refl

no_kinds : kinds_at (codes "64.75") ((codes "64.74", kind.Int ∷ []) ∷ []) ≡ []
no_kinds = refl

-- a table that is made again has the kinds of its new columns
made_again : made_by (op.CreateTable table (record { name = codes "v"; kind = kind.Str 3; not_null = false; primary = false } ∷ [])) (made_with (table_text table) columns []) ≡ (codes "64.74", kind.Str 3 ∷ []) ∷ []
made_again = refl

-- ---- the report

abbrev all_bytes : Text → Bool
all_bytes [] = true
all_bytes (b ∷ t) = nat_lt b (2 ^ 8) && all_bytes t

are_bytes : (t : Text) → all_bytes t ≡ true → AreBytes t
are_bytes [] e = tt
are_bytes (b ∷ t) e = let both = and_parts (nat_lt b (2 ^ 8)) (all_bytes t) e in (ltb-true b (2 ^ 8) both.0, are_bytes t both.1)

second_is_told : IsTellable second
second_is_told = record {
  options = record { size = omega arith; limit = omega arith; unit = omega arith; kind = omega arith };
  session_count = omega arith;
  sessions = (
    record {
      session = omega arith;
      count = omega arith;
      each = (
        record { place = omega arith; reply = are_bytes (changed 1) refl },
        (
          record { place = omega arith; reply = are_bytes (changed 0) refl },
          (
            record { place = omega arith; reply = are_bytes (changed 0) refl },
            (record { place = omega arith; reply = are_bytes (changed 1) refl }, (record { place = omega arith; reply = are_bytes rows refl }, tt)),
          ),
        ),
      );
      ending = tt;
    },
    tt,
  );
  event_count = omega arith;
  journal = (
    (record { session = omega arith; number = omega arith }, (are_bytes (codes "d") refl, tt)),
    (
      (record { session = omega arith; number = omega arith }, tt),
      (
        (record { session = omega arith; number = omega arith }, ((record { db = are_bytes (codes "d") refl; name = are_bytes (codes "t") refl }, (record { short = omega arith; name = are_bytes (codes "id") refl; kind = tt; key = λ e. refl }, tt)), tt)),
        (
          (record { session = omega arith; number = omega arith }, ((record { db = are_bytes (codes "d") refl; name = are_bytes (codes "t") refl }, (omega arith, tt)), tt)),
          ((record { session = omega arith; number = omega arith }, tt), tt),
        ),
      ),
    ),
  );
  counters = record { com_select = omega arith; hits = omega arith; inserts = omega arith; not_cached = omega arith; lowmem_prunes = omega arith; queries_in_cache = omega arith };
}

second_text : text_of_report second ≡ lines (
    codes "qcache report 1"
    ∷ codes "options 0 1048576 4096 1"
    ∷ codes "sessions 1"
    ∷ codes "session 1 commands 5 end input"
    ∷ codes "1 other 0700000100010002000000"
    ∷ codes "2 other 0700000100000002000000"
    ∷ codes "3 other 0700000100000002000000"
    ∷ codes "4 other 0700000100010002000000"
    ∷ codes "5 plain 01000001011d000002036465660164017401740269640269640c3f001400000008030000000005000003fe0000020002000004013705000005fe00000200"
    ∷ codes "journal 5"
    ∷ codes "1 commit 1 1 1 createdb:64"
    ∷ codes "2 run 1 2 other"
    ∷ codes "3 commit 1 3 1 create:64.74:02696400000003"
    ∷ codes "4 commit 1 4 1 put:64.74:0137"
    ∷ codes "5 run 1 5 plain off"
    ∷ codes "counters 1 0 0 1 0 0"
    ∷ codes "end"
    ∷ [])
unfolding text_of_report digits encoded_string encoded_integer
second_text = refl

-- ---- damaged ones

-- With the text 7 in the column of numbers it has the same text, which tells the number.
abbrev with_text : Report
with_text = report_with (value.Str (codes "7") ∷ [])

same_text : text_of_report with_text ≡ text_of_report second
unfolding text_of_report digits
same_text = refl

text_is_not_told : IsTellable with_text → ⊥
unfolding digits
text_is_not_told h = h.journal.1.1.1.0.1.0.1.0.1 (pos 7) (omega arith) refl

-- a byte above 255, which two digits can't tell
byte_is_not_told : IsTellable (report_with (value.Null ∷ value.Str (256 ∷ []) ∷ [])) → ⊥
byte_is_not_told h = absurd (too_wide h.journal.1.1.1.0.1.0.1.1.0.bytes.0)
  where
    too_wide : 256 < 2 ^ 8 → ⊥
    too_wide lt = absurd (omega (arith, lt))

-- ---- first bad lines

begun : Begins []
begun = (second, second_is_told, text_of_report second, refl)

no_line : (line more : Text) → ◌≡◌ {A = Text} [] (line ++ 10 ∷ more) → ⊥
no_line [] more e = absurd cc
no_line (b ∷ line) more e = absurd cc

no_text : (r : Report) → ◌≡◌ {A = Text} [] (text_of_report r) → ⊥
unfolding text_of_report
no_text r e = absurd cc

-- of no bytes the first line is missing
nothing_lacks_line_1 : IsFirstBad [] 1
nothing_lacks_line_1 = record { front = []; rest = []; each = tt; parts = refl; number = refl; none = λ r is e. no_text r e; begins = begun; stops = λ line more lacks e goes_on. absurd (no_line line more e) }

abbrev first : Text → ℕ
first [] = 0
first (b ∷ t) = b

wrong_line : (line more : Text) → ◌≡◌ {A = Text} (120 ∷ 10 ∷ []) (line ++ 10 ∷ more) → Begins (lines (line ∷ [])) → ⊥
unfolding text_of_report
wrong_line [] more e goes_on = absurd cc
wrong_line (b ∷ line) more e goes_on =
    let has : 113 ≡ b = ap first goes_on.3 in
    let is : 120 ≡ b = ap first e in
    absurd (omega (arith, has, is))

no_wrong_text : (r : Report) → ◌≡◌ {A = Text} (120 ∷ 10 ∷ []) (text_of_report r) → ⊥
unfolding text_of_report
no_wrong_text r e = absurd cc

-- no report begins with the line x
x_is_bad_line_1 : IsFirstBad (120 ∷ 10 ∷ []) 1
x_is_bad_line_1 = record {
  front = [];
  rest = 120 ∷ 10 ∷ [];
  each = tt;
  parts = refl;
  number = refl;
  none = λ r is e. no_wrong_text r e;
  begins = begun;
  stops = λ line more lacks e goes_on. wrong_line line more e goes_on;
}
