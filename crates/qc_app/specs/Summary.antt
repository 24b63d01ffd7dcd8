-- The summary of a workload, with numbers that are counted in the report of its run.
use Rattle.std.specs.Prelude.{ℕ, ◌+◌, ◌*◌, ℤ, pos, ◌+ℤ◌, List, [], ◌∷◌, map, length, Option, Some, None, codes, decimal, count_by}
use Rattle.std.specs.Fmt.{signed_decimal}
use Rattle.qc_types.specs.declared.names.Value.{Value}
use Rattle.qc_sql.specs.Database.{Database, MapOf, Table, table_of}
use Rattle.qc_sql.specs.Rows.{sum_of}
use Rattle.qc_model.specs.declared.events.Counters.{Counters}
use Rattle.qc_model.specs.declared.reports.Report.{Report}
use Rattle.qc_model.specs.Journal.{present}
use Rattle.qc_model.specs.ReportText.{Text, fields, lines}
use Rattle.qc_model.specs.Workload.{draws_of_session}
use Rattle.qc_table.specs.Views.{value_at}
use Rattle.qc_app.specs.workload.Counts.{is_commit}
use Rattle.qc_app.specs.declared.summary.Counts.{Counts}
use Rattle.qc_app.specs.declared.summary.TableCount.{TableCount}

-- ---- what is counted

-- the selects that were answered, from entries and otherwise
abbrev pub selects_in : Counters → ℕ
selects_in c = c.hits + c.com_select

abbrev pub total_of : List ℤ → ℤ
total_of [] = pos 0
total_of (n ∷ ns) = n +ℤ total_of ns

-- the sum of the numbers in the second column, which is v; a NULL, a text and a value that isn't there add nothing
abbrev pub sum_in : MapOf ℤ (List Value) → ℤ
sum_in rows = sum_of (map (λ entry. value_at entry.1 1) rows)

-- a table that isn't there has no rows
abbrev pub count_of : Option Table → TableCount
count_of None = record { rows = 0; sum = pos 0 }
count_of (Some t) = record { rows = length t.rows; sum = sum_in t.rows }

-- that of the table of this name in the workload's database, which is w
abbrev pub count_in : Text → Database → TableCount
count_in name d = count_of (table_of (record { db = codes "w"; name = name }) d)

-- the numbers of a report, and of the database that its journal makes
abbrev pub counts_in : Report → Counts
counts_in r = record {
  commits = count_by is_commit r.journal;
  a = count_in (codes "a") (present r.journal);
  b = count_in (codes "b") (present r.journal);
  selects = selects_in r.counters;
}

-- ---- the lines

abbrev pub count_line : Text → ℕ → Text
count_line word count = fields (word ∷ decimal count ∷ [])

abbrev pub table_line : Text → TableCount → Text
table_line name c = fields (codes "table" ∷ name ∷ codes "rows" ∷ decimal c.rows ∷ codes "sum" ∷ signed_decimal c.sum ∷ [])

-- the six lines with these numbers
abbrev pub summary_lines : ℕ → Counts → Text
summary_lines number c =
    lines (count_line (codes "workload") number ∷ count_line (codes "commands") (4 + 4 * (draws_of_session + 1)) ∷ count_line (codes "commits") c.commits
    ∷ table_line (codes "a") c.a ∷ table_line (codes "b") c.b ∷ count_line (codes "selects") c.selects ∷ [])

-- the summary of the workload with this number, of which the report is one
unfoldable pub counted_summary : ℕ → Report → Text
counted_summary number r = summary_lines number (counts_in r)
