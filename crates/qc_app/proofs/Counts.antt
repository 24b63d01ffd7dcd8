-- The sum of a column.
use Rattle.std.proofs.Common.{◌≡◌, ◌∙◌, ◌+◌, ◌+ℤ◌, ◌<◌, ◌≤◌, ◌&&◌, ℕ, ◌*◌, ℤ, pos, Bool, true, false, List, [], ◌∷◌, ◌++◌, length, map, drop, append_assoc, get_or, Option, Some, None, Result, Ok, Err, refl, sym, ap, arith, add-one, drop-cons, true≢false}
use Rattle.std.specs.List.{AllByRecursion}
use Rattle.std.specs.Prelude.{OnOk, codes, count_by, decimal}
use Rattle.std.proofs.lemmas.Bool.{and_parts}
use Rattle.std.proofs.Math.IntN.{+ℤ_assoc, +ℤ_comm, +ℤ_idl}
use Rattle.std.proofs.lemmas.List.{length-map}
use Rattle.std.proofs.lemmas.List.Concat.{flat_map-append}
use Rattle.std.proofs.lemmas.Option.{none-some, same_Some}
use Rattle.qc_types.specs.declared.names.Value.{Value}
use Rattle.qc_types.specs.declared.names.Value.TheVariants as value
use Rattle.qc_types.specs.declared.options.Options.{Options}
use Rattle.qc_sql.specs.declared.tables.Column.{Column}
use Rattle.qc_sql.specs.declared.tables.Kind.{Kind}
use Rattle.qc_sql.specs.declared.tables.Kind.TheVariants as kind
use Rattle.qc_sql.specs.Database.{Database, MapOf, Table, key_value, table_of}
use Rattle.qc_sql.specs.Rows.{sum_of}
use Rattle.qc_model.specs.declared.reports.Report.{Report}
use Rattle.qc_model.specs.Journal.{Journal, present}
use Rattle.qc_model.specs.Licence.{kind_fits, row_fits, value_fits}
use Rattle.qc_model.specs.ReportText.{Text, lines}
use Rattle.qc_model.specs.Sound.{IsRow}
use Rattle.qc_model.specs.Workload.{Tally, draws_of_session, summary, tallies, total, value_sum}
use Rattle.qc_table.specs.Views.{column_values, kind_at, value_at}
use Rattle.qc_app.specs.ScriptRun.{IsReportOf}
use Rattle.qc_script.specs.WorkloadScript.{workload_script}
use Rattle.qc_app.specs.workload.Counts.{HasCounts, HasRows, is_commit}
use Rattle.qc_app.proofs.workload.Whole.{workload_counts}
use Rattle.qc_app.specs.declared.summary.Counts.{Counts}
use Rattle.qc_app.specs.declared.summary.TableCount.{TableCount}
use Rattle.qc_app.specs.Summary.{count_in, count_of, count_line, counted_summary, selects_in, sum_in, summary_lines, table_line, total_of}

-- a NULL of a column of numbers is stored as 0
nothing_more : (z : ℤ) → pos 0 +ℤ z ≡ z
nothing_more z = +ℤ_idl z

pub numbers_summed : (vs : List Value) → total_of (map key_value vs) ≡ sum_of vs
numbers_summed [] = refl
numbers_summed (value.Int n ∷ vs) = ap (λ z. n +ℤ z) (numbers_summed vs)
numbers_summed (value.Null ∷ vs) = nothing_more (total_of (map key_value vs)) ∙ numbers_summed vs
numbers_summed (value.Str t ∷ vs) = nothing_more (total_of (map key_value vs)) ∙ numbers_summed vs

-- a value of a column that isn't of numbers adds nothing
no_number : (k : Kind) (v : Value) (vs : List Value) → (Some k ≡ Some kind.Int → ⊥) → kind_fits k v ≡ true → sum_of (v ∷ vs) ≡ sum_of vs
no_number k value.Null vs other fits = refl
no_number k (value.Str t) vs other fits = refl
no_number kind.Int (value.Int n) vs other fits = absurd (other refl)
no_number (kind.Str m) (value.Int n) vs other fits = absurd (true≢false (sym fits))

adds_nothing : (columns : List Column) (row : List Value) (vs : List Value) → (kind_at columns 1 ≡ Some kind.Int → ⊥) → row_fits columns row ≡ true → sum_of (value_at row 1 ∷ vs) ≡ sum_of vs
adds_nothing columns [] vs other fits = refl
adds_nothing columns (v ∷ []) vs other fits = refl
adds_nothing [] (v ∷ w ∷ row) vs other fits = absurd (true≢false (sym fits))
adds_nothing (c ∷ []) (v ∷ w ∷ row) vs other fits = absurd (true≢false (sym (and_parts (value_fits c v) false fits).1))
adds_nothing (c ∷ d ∷ columns) (v ∷ w ∷ row) vs other fits =
    let second = (and_parts (value_fits c v) (row_fits (d ∷ columns) (w ∷ row)) fits).1 in
    let own = (and_parts (value_fits d w) (row_fits columns row) second).0 in
    no_number d.kind w vs other (and_parts (kind_fits d.kind w) _ own).0

pub sums_nothing : (columns : List Column) (rows : MapOf ℤ (List Value)) → (kind_at columns 1 ≡ Some kind.Int → ⊥) → AllByRecursion (IsRow columns) rows → sum_in rows ≡ pos 0
sums_nothing columns [] other fit = refl
sums_nothing columns (e ∷ es) other fit = adds_nothing columns e.1 (map (λ entry. value_at entry.1 1) es) other fit.0.0 ∙ sums_nothing columns es other fit.1

-- there is no second column
pub no_second : (columns : List Column) → length columns ≤ 1 → kind_at columns 1 ≡ Some kind.Int → ⊥
no_second [] few is = none-some kind.Int is
no_second (c ∷ []) few is = none-some kind.Int is
no_second (c ∷ d ∷ columns) few is = absurd (omega (arith, few))

-- the second column is one of texts
other_kind : (k : Kind) (n : ℕ) → k ≡ kind.Str n → k ≡ kind.Int → ⊥
other_kind k n str int = clash (sym str ∙ int)
  where
    clash : kind.Str n ≡ kind.Int → ⊥
    clash e = cc

pub texts_second : (columns : List Column) (d : Column) (n : ℕ) → 1 < length columns → (get_or columns 1 d).kind ≡ kind.Str n → kind_at columns 1 ≡ Some kind.Int → ⊥
texts_second [] d n l str is = absurd (omega (arith, l))
texts_second (c ∷ []) d n l str is = absurd (omega (arith, l))
texts_second (c ∷ e ∷ columns) d n l str is = other_kind e.kind n str (same_Some e.kind kind.Int is)

-- ---- the second column

-- a view of it has a number for each row
pub column_long : (t : Table) (ns : List ℤ) → ns ≡ map key_value (column_values t 1).values → length t.rows ≤ 1048576 → length ns ≤ 1048576
column_long t ns is few =
    let long : length ns ≡ length t.rows = ap length is ∙ (length-map (column_values t 1).values key_value ∙ length-map t.rows (λ entry. value_at entry.1 1)) in
    omega (arith, long, few)

-- their sum is the column's
pub column_summed : (t : Table) (ns : List ℤ) (sum : ℤ) → ns ≡ map key_value (column_values t 1).values → sum ≡ total_of ns → sum ≡ sum_in t.rows
column_summed t ns sum is total = total ∙ (ap total_of is ∙ numbers_summed (map (λ entry. value_at entry.1 1) t.rows))

-- ---- the loops

-- the numbers from an index on: the next one, and those behind it
pub next_total : (numbers : List ℤ) (i : ℕ) → i < length numbers → total_of (drop i numbers) ≡ get_or numbers i (pos 0) +ℤ total_of (drop (i + 1) numbers)
next_total numbers i l = rw (add-one, drop-cons numbers i (pos 0)) refl

-- the sum so far, and one more number in front of the others
pub moved_on : (x sum rest whole : ℤ) → sum +ℤ (x +ℤ rest) ≡ whole → (x +ℤ sum) +ℤ rest ≡ whole
moved_on x sum rest whole is = ap (λ s. s +ℤ rest) (+ℤ_comm x sum) ∙ (+ℤ_assoc sum x rest ∙ is)

-- ---- the whole

-- one line more
more : (front : Text) (xs : List Text) (l : Text) → (front ++ lines xs) ++ lines (l ∷ []) ≡ front ++ lines (xs ++ l ∷ [])
more front xs l = simp (flat_map-append, append_assoc)

on_ok : {T E : Type 0} (r : Result T E) (P Q : Type 0) → (P → Q) → OnOk r P → OnOk r Q
on_ok (Ok x) P Q f h = f h
on_ok (Err e) P Q f h = tt

-- the six lines, put one after another
pub all_put : {T E : Type 0} (r : Result T E) (number : ℕ) (n : Counts) (front a b c d e f : Text) → a ≡ front ++ lines (count_line (codes "workload") number ∷ [])
    → b ≡ a ++ lines (count_line (codes "commands") (4 + 4 * (draws_of_session + 1)) ∷ []) → c ≡ b ++ lines (count_line (codes "commits") n.commits ∷ []) → d ≡ c ++ lines (table_line (codes "a") n.a ∷ [])
    → e ≡ d ++ lines (table_line (codes "b") n.b ∷ []) → OnOk r (f ≡ e ++ lines (count_line (codes "selects") n.selects ∷ [])) → OnOk r (f ≡ front ++ summary_lines number n)
all_put r number n front a b c d e f a_is b_is c_is d_is e_is f_is =
    let workload = count_line (codes "workload") number in
    let commands = count_line (codes "commands") (4 + 4 * (draws_of_session + 1)) in
    let commits = count_line (codes "commits") n.commits in
    let in_a = table_line (codes "a") n.a in
    let in_b = table_line (codes "b") n.b in
    let selects = count_line (codes "selects") n.selects in
    let two : b ≡ front ++ lines (workload ∷ commands ∷ []) = b_is ∙ (ap (λ l. l ++ lines (commands ∷ [])) a_is ∙ more front (workload ∷ []) commands) in
    let three : c ≡ front ++ lines (workload ∷ commands ∷ commits ∷ []) = c_is ∙ (ap (λ l. l ++ lines (commits ∷ [])) two ∙ more front (workload ∷ commands ∷ []) commits) in
    let four : d ≡ front ++ lines (workload ∷ commands ∷ commits ∷ in_a ∷ []) = d_is ∙ (ap (λ l. l ++ lines (in_a ∷ [])) three ∙ more front (workload ∷ commands ∷ commits ∷ []) in_a) in
    let five : e ≡ front ++ lines (workload ∷ commands ∷ commits ∷ in_a ∷ in_b ∷ []) = e_is ∙ (ap (λ l. l ++ lines (in_b ∷ [])) four ∙ more front (workload ∷ commands ∷ commits ∷ in_a ∷ []) in_b) in
    on_ok r (f ≡ e ++ lines (selects ∷ [])) (f ≡ front ++ summary_lines number n)
    (λ is. is ∙ (ap (λ l. l ++ lines (selects ∷ [])) five ∙ more front (workload ∷ commands ∷ commits ∷ in_a ∷ in_b ∷ []) selects)) f_is

abbrev told : ℕ → TableCount → TableCount → ℕ → Counts
told commits a b selects = record { commits = commits; a = a; b = b; selects = selects }

pub counted : (number : ℕ) (r : Report) (d : Database) (commits : ℕ) (a b : TableCount) (selects : ℕ) (text : List ℕ) → d ≡ present r.journal → commits ≡ count_by is_commit r.journal
    → a ≡ count_in (codes "a") d → b ≡ count_in (codes "b") d → selects ≡ selects_in r.counters → text ≡ summary_lines number (told commits a b selects) → text ≡ counted_summary number r
unfolding counted_summary
counted number r d commits a b selects text present_ commits_are a_is b_is selects_are is =
    let in_a = a_is ∙ ap (count_in (codes "a")) present_ in
    let in_b = b_is ∙ ap (count_in (codes "b")) present_ in
    is ∙ (λ i. summary_lines number (told (commits_are i) (in_a i) (in_b i) (selects_are i)))

-- ---- what the definitions give

abbrev table_told : ℕ → ℤ → TableCount
table_told rows sum = record { rows = rows; sum = sum }

-- the numbers that the draws give
abbrev drawn_counts : ℕ → Counts
drawn_counts number =
    let ts = tallies number in
    told (3 + total (λ t. t.commits) ts) (table_told (total (λ t. length t.in_a) ts) (pos (total (λ t. value_sum t.in_a) ts)))
    (table_told (total (λ t. length t.in_b) ts) (pos (total (λ t. value_sum t.in_b) ts))) (total (λ t. t.selects) ts)

-- the summary has the same lines, with these numbers
summary_is : (number : ℕ) → summary number ≡ summary_lines number (drawn_counts number)
unfolding summary
summary_is number = refl

-- a table that is there, with so many rows and this sum
table_is : (name : Text) (j : Journal) (rows : Tally → MapOf ℕ ℕ) (ts : List Tally) → HasRows j name rows ts
    → count_in name (present j) ≡ table_told (total (λ t. length (rows t)) ts) (pos (total (λ t. value_sum (rows t)) ts))
table_is name j rows ts h = ap count_of h.there ∙ (λ i. table_told (h.count i) (h.sum i))

-- a report with the numbers of the draws has the summary
has_summary : (number : ℕ) (r : Report) → HasCounts number r → counted_summary number r ≡ summary number
unfolding counted_summary
has_summary number r h =
    let in_a = table_is (codes "a") r.journal (λ t. t.in_a) (tallies number) h.a in
    let in_b = table_is (codes "b") r.journal (λ t. t.in_b) (tallies number) h.b in
    (λ i. summary_lines number (told (h.commits i) (in_a i) (in_b i) (h.selects i))) ∙ sym (summary_is number)

-- and so has each report of the workload's script
pub summary_counted : (number : ℕ) (options : Options) (r : Report) → IsReportOf (workload_script number) options r → counted_summary number r ≡ summary number
unfolding IsReportOf
summary_counted number options r agrees = has_summary number r (workload_counts number options r agrees)
