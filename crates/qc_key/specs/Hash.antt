-- The hash of bytes: FNV-1a of 64 bits, by Fowler, Noll and Vo.
use Rattle.std.specs.Prelude.{ℕ, ◌*◌, ◌%◌, ◌^◌, List, ◌∷◌, ◌++◌, bit_xor}
use Rattle.std.specs.List.{fold}
use Rattle.qc_types.specs.declared.names.TableName.{TableName}

-- a byte is combined with the hash so far by exclusive or, and that is multiplied by the prime
abbrev pub hash_with : ℕ → ℕ → ℕ
hash_with before byte = bit_xor before byte * 1099511628211 % 2 ^ 64

abbrev pub hash : List ℕ → ℕ
hash bytes = fold hash_with 14695981039346656037 bytes

-- the names of a table, with the byte 0 between, so that names which join to one text are told apart
abbrev pub table_bytes : TableName → List ℕ
table_bytes table = table.db ++ 0 ∷ table.name
