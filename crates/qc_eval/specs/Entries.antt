-- Entries of a table by their indexes.
use Rattle.std.specs.Prelude.{ℕ, ℤ, pos, List, [], ◌∷◌, filter, slice_index_or}
use Rattle.std.specs.List.{range_with_len}
use Rattle.qc_types.specs.declared.names.Value.{Value}
use Rattle.qc_sql.specs.Database.{MapOf}
use Rattle.qc_eval.specs.Walk.{Keeping}

-- the key and the row at an index, by rising key
abbrev pub entry_at : MapOf ℤ (List Value) → ℕ → ℤ × List Value
entry_at rows i = slice_index_or rows i (pos 0, [])

-- the indexes of the rows that are kept, of the first n
abbrev pub kept_indexes : Keeping → MapOf ℤ (List Value) → ℕ → List ℕ
kept_indexes keep rows n = filter (λ i. keep ((entry_at rows i).1 ∷ [])) (range_with_len 0 n)
