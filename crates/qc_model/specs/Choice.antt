-- Which event a select may have: a hit, a start, or a plain run with its reason.
use Rattle.std.specs.Prelude.{◌≡◌, ℕ, ◌+◌, ◌⊎◌, Bool, true, false, not, ◌&&◌, ◌||◌, List, Option, Some, None, Result, Ok, Err, MatchOption, nat_lt, bytes_eq, ◌==◌, find, count_by, if◌then◌else◌, option_map}
use Rattle.std.specs.List.{list_any, list_all}
use Rattle.qc_types.specs.declared.names.TableName.{TableName}
use Rattle.qc_types.specs.declared.options.Options.{Options}
use Rattle.qc_sql.specs.declared.session.Asked.{Asked}
use Rattle.qc_sql.specs.declared.session.Asked.TheVariants as asked
use Rattle.qc_types.specs.declared.sql_error.SqlError.{SqlError}
use Rattle.qc_model.specs.declared.events.How.{How}
use Rattle.qc_model.specs.declared.events.How.TheVariants as how
use Rattle.qc_model.specs.declared.events.Reason.{Reason}
use Rattle.qc_model.specs.declared.events.Reason.TheVariants as reason
use Rattle.qc_sql.specs.declared.statements.Select.{Select}
use Rattle.qc_sql.specs.Database.{touches}
use Rattle.qc_model.specs.Journal.{Journal, last_change}
use Rattle.qc_model.specs.Cache.{Entry, cache, is_run, is_start}
use Rattle.qc_sql.specs.Rules.{asks, why_not, select_tables}
use Rattle.qc_sql.specs.Rows.{Rows, rows}
use Rattle.qc_model.specs.Session.{State, flags_of, base, own_operations, snapshot_of, key_of_text}
use Rattle.qc_sql.specs.Words.{◌or_else◌, when}
use Rattle.qc_sql.specs.Grammar.{head_of, trimmed}

-- whether a transaction has written a table
abbrev pub wrote : State → TableName → Bool
wrote state t = list_any (touches t) (own_operations state)

-- whether a table has changed since a session's snapshot, where it has one
abbrev pub changed_since : Option ℕ → ℕ → Bool
changed_since None change = false
changed_since (Some place) change = nat_lt place change

abbrev pub is_stale : State → Journal → TableName → Bool
is_stale state journal t = changed_since (snapshot_of state) (last_change journal t)

abbrev pub is_visible : State → Journal → Entry → Bool
is_visible state journal entry = list_all (λ t. not (wrote state t) && not (is_stale state journal t)) entry.tables

abbrev pub has_key : List ℕ → Entry → Bool
has_key key entry = bytes_eq entry.key key

-- the entry that answers a key, if there is one
abbrev pub answering : State → Journal → List ℕ → Option Entry
answering state journal key = find (λ entry. entry.complete && has_key key entry && is_visible state journal entry) (cache journal)

-- an entry of the same key that is still being filled
abbrev pub rival : Journal → List ℕ → Option Entry
rival journal key = find (λ entry. not entry.complete && has_key key entry) (cache journal)

abbrev pub is_asked : Asked → Bool
is_asked asked.Yes = true
is_asked _ = false

abbrev pub refusal_reason : Result Rows SqlError → Option Reason
refusal_reason (Ok r) = None
refusal_reason (Err e) = Some (reason.Error e.code)

abbrev pub stale_reason : State → Journal → Option TableName → Option Reason
stale_reason state journal None = None
stale_reason state journal (Some t) = since (snapshot_of state)
  where
    since : Option ℕ → Option Reason
    since None = None
    since (Some place) = Some (reason.NotVisible t (last_change journal t) place)

-- why the options, the cache type and the text keep a select out
abbrev pub rule_reason : Options → State → List ℕ → Select → Option Reason
rule_reason options state text select =
    when (options.size == 0 || state.kind == 0) reason.Off
    or_else when (not (is_asked (asks (head_of (trimmed text)) state.kind))) reason.NotAsked
    or_else option_map reason.Rule (why_not state.db select)

-- why a session may not see these tables as they are
abbrev pub unseen_reason : State → Journal → List TableName → Option Reason
unseen_reason state journal tables =
    option_map reason.Written (find (wrote state) tables)
    or_else stale_reason state journal (find (is_stale state journal) tables)

-- the first reason for which a select has a plain run, but for want of room
abbrev pub plain_reason : Options → State → List ℕ → Select → Journal → Option Reason
plain_reason options state text select journal =
    refusal_reason (rows select (base state journal) state.db (flags_of state) state.session)
    or_else rule_reason options state text select
    or_else unseen_reason state journal (select_tables state.db select)
    or_else option_map (λ entry. reason.Rival entry.serial) (rival journal (key_of_text state text))

abbrev pub start_count : Journal → ℕ
start_count journal = count_by (is_run is_start) journal

abbrev pub IsNoRoom : How → Type 0
IsNoRoom h = (need : ℕ) × (largest : ℕ) × (h ≡ how.Plain (reason.NoRoom need largest))

-- The events that a select's text may have in a state that has arrived: with an entry that answers it a hit and nothing else; else a plain run, where a reason applies; else a start, or a plain run for want of room.
abbrev pub Allows : Options → State → List ℕ → Select → Journal → How → Type 0
Allows options state text select journal h =
    let key = key_of_text state text in
    let asked_for = not (options.size == 0) && is_asked (asks (head_of (trimmed text)) state.kind) in
    MatchOption (if asked_for then answering state journal key else None)
    (MatchOption (plain_reason options state text select journal)
    ((h ≡ how.Start (start_count journal + 1) key (select_tables state.db select)) ⊎ IsNoRoom h)
    (λ r. h ≡ how.Plain r))
    (λ entry. h ≡ how.Hit entry.serial)
