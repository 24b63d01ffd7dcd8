-- What a run of the workload comes to.
use Rattle.std.specs.Prelude.{◌≡◌, ℕ, ◌+◌, ℤ, pos, Bool, true, false, List, map, length, Some, codes, get_or, count_by}
use Rattle.qc_types.specs.declared.names.Value.{Value}
use Rattle.qc_types.specs.declared.names.Value.TheVariants as value
use Rattle.qc_sql.specs.Database.{Name, MapOf, Table, table_of}
use Rattle.qc_sql.specs.Rows.{sum_of}
use Rattle.qc_model.specs.declared.events.Event.{Event}
use Rattle.qc_model.specs.declared.events.Event.TheVariants as event
use Rattle.qc_model.specs.declared.reports.Report.{Report}
use Rattle.qc_model.specs.Journal.{Journal, present}
use Rattle.qc_model.specs.Workload.{Tally, tallies, total, value_sum}
use Rattle.qc_app.specs.workload.Tables.{in_w}

abbrev pub is_commit : Event → Bool
is_commit (event.Commit who ops) = true
is_commit _ = false

-- the sum of the values in the second column
abbrev pub second_sum : Table → ℤ
second_sum t = sum_of (map (λ (entry : ℤ × List Value). get_or entry.1 1 value.Null) t.rows)

-- a table of w, at the end of a journal, has the rows of these sessions
pub record HasRows (journal : Journal) (name : Name) (rows : Tally → MapOf ℕ ℕ) (ts : List Tally) : Type 0 where
  pub table : Table
  pub there : table_of (in_w name) (present journal) ≡ Some table
  pub count : length table.rows ≡ total (λ t. length (rows t)) ts
  pub sum : second_sum table ≡ pos (total (λ t. value_sum (rows t)) ts)

-- the numbers of the workload's summary: commits, rows and sums, hits and selects that ran
pub record HasCounts (number : ℕ) (report : Report) : Type 0 where
  pub commits : count_by is_commit report.journal ≡ 3 + total (λ t. t.commits) (tallies number)
  pub a : HasRows report.journal (codes "a") (λ t. t.in_a) (tallies number)
  pub b : HasRows report.journal (codes "b") (λ t. t.in_b) (tallies number)
  pub selects : report.counters.hits + report.counters.com_select ≡ total (λ t. t.selects) (tallies number)
