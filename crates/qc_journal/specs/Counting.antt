-- The counts of a journal's events.
use Rattle.std.specs.Prelude.{◌≡◌, ℕ, ◌+◌, ◌<◌, ◌^◌, ◌||◌, List, length, Option, Some, None, slice_index, slice_set, count_by}
use Rattle.qc_model.specs.Journal.{Journal, event_count}
use Rattle.qc_model.specs.Cache.{is_hit, is_not_cached, is_plain, is_prune, is_run, is_start}
use Rattle.qc_journal.specs.declared.counts.Counts.{Counts}

-- each count can be raised
pub record IsSmall (counts : Counts) : Type 0 where
  pub com_select : counts.com_select < 2 ^ 63
  pub hits : counts.hits < 2 ^ 63
  pub inserts : counts.inserts < 2 ^ 63
  pub not_cached : counts.not_cached < 2 ^ 63
  pub lowmem_prunes : counts.lowmem_prunes < 2 ^ 63

-- the counts are those of the events
pub record AreCounts (counts : Counts) (journal : Journal) : Type 0 where
  pub com_select : counts.com_select ≡ count_by (is_run (λ h. is_start h || is_plain h)) journal
  pub hits : counts.hits ≡ count_by (is_run is_hit) journal
  pub inserts : counts.inserts ≡ count_by (is_run is_start) journal
  pub not_cached : counts.not_cached ≡ count_by (is_run is_not_cached) journal
  pub lowmem_prunes : counts.lowmem_prunes ≡ count_by is_prune journal

-- each session has as many deciding events as are counted
pub record AreCounted (sessions : List ℕ) (journal : Journal) : Type 0 where
  pub long : length sessions ≡ 256
  pub each : (session : ℕ) → session < 256 → slice_index sessions session ≡ event_count journal session

-- one more of a session
abbrev pub raised : Option ℕ → List ℕ → List ℕ
raised None counts = counts
raised (Some n) counts = slice_set counts n (slice_index counts n + 1)
