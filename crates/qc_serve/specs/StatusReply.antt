-- The packets of SHOW STATUS in parts.
use Rattle.std.specs.Prelude.{ℕ, ◌*◌, List, [], ◌∷◌, codes, map}
use Rattle.qc_types.specs.declared.totals.Totals.{Totals}
use Rattle.qc_sql.specs.Packets.{column_payload, count_payload, eof_payload, row_payload}
use Rattle.qc_model.specs.declared.events.Counters.{Counters}
use Rattle.qc_model.specs.Machine.{status_column, status_row}
use Rattle.qc_model.specs.Session.{State, flags_of, status_of}

-- the payloads in front of the rows
abbrev pub head_of : State → List (List ℕ)
head_of state =
    count_payload 2
    ∷ column_payload (status_column state (codes "Variable_name") 64)
    ∷ column_payload (status_column state (codes "Value") 20)
    ∷ eof_payload (status_of (flags_of state)) ∷ []

-- the payloads of the rows
abbrev pub rows_of : Counters → Totals → List (List ℕ)
rows_of c t = map row_payload (
    status_row (codes "Qcache_free_blocks") t.free_blocks
    ∷ status_row (codes "Qcache_free_memory") (8 * t.free_words)
    ∷ status_row (codes "Qcache_hits") c.hits
    ∷ status_row (codes "Qcache_inserts") c.inserts
    ∷ status_row (codes "Qcache_lowmem_prunes") c.lowmem_prunes
    ∷ status_row (codes "Qcache_not_cached") c.not_cached
    ∷ status_row (codes "Qcache_queries_in_cache") c.queries_in_cache
    ∷ status_row (codes "Qcache_total_blocks") t.blocks ∷ [])
