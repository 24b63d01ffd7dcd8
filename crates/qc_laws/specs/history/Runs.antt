-- Where entries were started, and what lawful journals keep.
use Rattle.std.specs.Prelude.{◌≡◌, ℕ, Bool, true, false, List, [], ◌∷◌, ◌++◌, Some, ◌==◌, not, ◌&&◌, map}
use Rattle.std.specs.List.{list_any, AllByRecursion}
use Rattle.qc_types.specs.declared.names.TableName.{TableName}
use Rattle.qc_types.specs.declared.options.Options.{Options}
use Rattle.qc_model.specs.declared.events.Who.{Who}
use Rattle.qc_model.specs.declared.events.Event.{Event}
use Rattle.qc_model.specs.declared.events.Event.TheVariants as event
use Rattle.qc_model.specs.declared.events.How.TheVariants as how
use Rattle.qc_model.specs.Journal.{Journal, present, is_by}
use Rattle.qc_model.specs.Cache.{Entry, cache}
use Rattle.qc_model.specs.Session.{answer}
use Rattle.qc_model.specs.Choice.{has_key}
use Rattle.qc_model.specs.Licence.{IsLawful, tables_of_key}

-- the entry was started in this journal, after the earlier events
pub record IsStarted (j : Journal) (n : ℕ) : Type 0 where
  pub who : Who
  pub key : List ℕ
  pub tables : List TableName
  pub earlier : Journal
  pub later : Journal
  pub split : j ≡ earlier ++ event.Run who (how.Start n key tables) ∷ later

-- an event of a session stands in the journal
pub record Stands (j : Journal) (session : ℕ) (e : Event) : Type 0 where
  pub earlier : Journal
  pub later : Journal
  pub split : j ≡ earlier ++ e ∷ later
  pub own : is_by session e ≡ true

-- an entry was completed
abbrev pub completes : ℕ → Event → Bool
completes n (event.Done k) = k == n
completes n _ = false

abbrev pub is_completed : ℕ → Journal → Bool
is_completed n j = list_any (completes n) j

-- an entry of the cache: its start, and its answer, which is that of its start
pub record IsKept (j : Journal) (entry : Entry) : Type 0 where
  pub start : IsStarted j entry.serial
  pub key : start.key ≡ entry.key
  pub named : start.tables ≡ entry.tables
  pub tables : entry.tables ≡ tables_of_key entry.key
  pub bytes : List ℕ
  pub at_start : answer entry.key (present start.earlier) ≡ Some bytes
  pub now : answer entry.key (present j) ≡ Some bytes
  pub ended : entry.complete ≡ true → is_completed entry.serial j ≡ true

abbrev pub StartsOnce : Type 0
StartsOnce = (options : Options) (j : Journal) (n : ℕ) (s t : IsStarted j n) → IsLawful options j
    → (s.earlier ≡ t.earlier) × (s.who ≡ t.who) × (s.key ≡ t.key) × (s.tables ≡ t.tables)

abbrev pub AnswersStay : Type 0
AnswersStay = (options : Options) (j : Journal) → IsLawful options j → AllByRecursion (IsKept j) (cache j)

-- what is hit was completed before
abbrev pub HitsAreWhole : Type 0
HitsAreWhole = (options : Options) (j : Journal) (who : Who) (n : ℕ) (earlier later : Journal) → IsLawful options j
    → j ≡ earlier ++ event.Run who (how.Hit n) ∷ later → is_completed n earlier ≡ true

-- no number stands twice
abbrev pub are_distinct : List ℕ → Bool
are_distinct [] = true
are_distinct (n ∷ ns) = not (list_any (λ m. m == n) ns) && are_distinct ns

abbrev pub serials : List Entry → List ℕ
serials es = map (λ e. e.serial) es

abbrev pub EntriesAreApart : Type 0
EntriesAreApart = (options : Options) (j : Journal) → IsLawful options j → are_distinct (serials (cache j)) ≡ true

-- no two entries have one key
abbrev pub are_apart : List Entry → Bool
are_apart [] = true
are_apart (e ∷ es) = not (list_any (has_key e.key) es) && are_apart es

abbrev pub KeysAreApart : Type 0
KeysAreApart = (options : Options) (j : Journal) → IsLawful options j → are_apart (cache j) ≡ true
