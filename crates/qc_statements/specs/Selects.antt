-- A select that asks the cache.
use Rattle.std.specs.Prelude.{◌≡◌, ℕ, ◌==◌, ◌&&◌, Bool, not, List, option_map}
use Rattle.qc_types.specs.declared.options.Options.{Options}
use Rattle.qc_sql.specs.Grammar.{head_of, trimmed}
use Rattle.qc_sql.specs.Rules.{asks}
use Rattle.qc_model.specs.Choice.{is_asked}
use Rattle.qc_model.specs.Session.{State, opened, snapshot_taken, with_transaction}

-- the state in which a select is validated that names a table and whose event has this place
abbrev pub arrived_at : ℕ → State → State
arrived_at place state = with_transaction state (option_map (snapshot_taken place) (opened state))

-- whether the cache is asked for a text
abbrev pub is_asked_for : Options → State → List ℕ → Bool
is_asked_for options state text = not (options.size == 0) && is_asked (asks (head_of (trimmed text)) state.kind)
