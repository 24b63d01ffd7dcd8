-- Which seats are connected.
use Rattle.std.specs.Prelude.{ℕ, ◌+◌, ◌-◌, Bool, not, [], ◌∷◌, ◌++◌, ◌==◌}
use Rattle.std.specs.List.{list_any, filter}
use Rattle.qc_core.specs.declared.server_state.ServerState.{ServerState}

abbrev pub is_connected : ℕ → ServerState → Bool
is_connected seat s = list_any (λ m. m == seat) s.connected.items

abbrev pub connects : ℕ → ServerState → ServerState
connects seat s = record s { connected = record { items = s.connected.items ++ seat ∷ []; room = s.connected.room - 1 } }

abbrev pub disconnects : ℕ → ServerState → ServerState
disconnects seat s = record s { connected = record { items = filter (λ m. not (m == seat)) s.connected.items; room = s.connected.room + 1 } }
