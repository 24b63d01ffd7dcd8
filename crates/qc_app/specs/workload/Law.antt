-- The laws of the workload: what its tables hold at each moment, on every schedule, and what its reports come to.
use Rattle.std.specs.Prelude.{◌≡◌, ℕ, ◌+◌, ◌-◌, ◌*◌, ◌<◌, ◌≤◌, List, [], ◌∷◌, ◌++◌, ◌||◌, map, count_by}
use Rattle.std.specs.List.{AllByRecursion, flat_map}
use Rattle.qc_types.specs.declared.options.Options.{Options}
use Rattle.qc_sql.specs.Database.{MapOf}
use Rattle.qc_model.specs.declared.reports.Report.{Report}
use Rattle.qc_model.specs.Journal.{Journal, present, event_count}
use Rattle.qc_model.specs.Cache.{is_run, is_hit, is_start, is_plain}
use Rattle.qc_model.specs.Workload.{Tally, no_tally, after_draws, total}
use Rattle.qc_model.specs.Agrees.{Agrees, whole_machine}
use Rattle.qc_script.specs.WorkloadScript.{before_session, workload_script}
use Rattle.qc_app.specs.workload.Tables.{database}
use Rattle.qc_app.specs.workload.Counts.{is_commit, HasCounts}

-- what a session's draws have made of its rows after so many of its events, of which the first is `init`
abbrev pub tally_after : ℕ → ℕ → ℕ → Tally
tally_after number session events = after_draws (events - 1) session 1 (before_session number session) no_tally

abbrev pub tallies_after : ℕ → Journal → List Tally
tallies_after number journal = map (λ s. tally_after number s (event_count journal s)) (1 ∷ 2 ∷ 3 ∷ 4 ∷ [])

-- the keys of a session
abbrev pub IsInRange : ℕ → MapOf ℕ ℕ → Type 0
IsInRange session m = AllByRecursion (λ (e : ℕ × ℕ). (session * 1000000 < e.0) × (e.0 ≤ session * 1000000 + 2000)) m

abbrev pub AreInRanges : ℕ → List Tally → Type 0
AreInRanges session [] = Unit {0}
AreInRanges session (t ∷ ts) = IsInRange session t.in_a × IsInRange session t.in_b × AreInRanges (session + 1) ts

-- After the setup the tables have the rows that each session's draws so far have made, in the session's range, and no others; and so many events are commits, and so many are of selects.
pub record StandsAfter (number : ℕ) (journal : Journal) : Type 0 where
  pub tables : present journal ≡ database (flat_map (λ t. t.in_a) (tallies_after number journal)) (flat_map (λ t. t.in_b) (tallies_after number journal))
  pub ranges : AreInRanges 1 (tallies_after number journal)
  pub commits : count_by is_commit journal ≡ 3 + total (λ t. t.commits) (tallies_after number journal)
  pub selects : count_by (is_run is_hit) journal + count_by (is_run (λ h. is_start h || is_plain h)) journal ≡ total (λ t. t.selects) (tallies_after number journal)

-- at each moment after the setup, which has four events
abbrev pub PrefixesStand : Type 0
PrefixesStand = (number : ℕ) (options : Options) (report : Report) → Agrees whole_machine (workload_script number) options report
    → (journal later : Journal) → report.journal ≡ journal ++ later → event_count journal 0 ≡ 4 → StandsAfter number journal

-- at the end
abbrev pub WorkloadCounts : Type 0
WorkloadCounts = (number : ℕ) (options : Options) (report : Report) → Agrees whole_machine (workload_script number) options report → HasCounts number report
