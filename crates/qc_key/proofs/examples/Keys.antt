-- Hashes of keys and tables, and what is the key of what.
use Rattle.std.proofs.Common.{◌≡◌, ℕ, List, [], ◌∷◌, refl, arith, ap}
use Rattle.std.specs.Prelude.{codes, None}
use Rattle.qc_sql.proofs.examples.Keys.{far, far_key}
use Rattle.qc_key.specs.Hash.{hash_with, table_bytes}
use Rattle.qc_key.specs.Keyed.{IsKeyOf, read_as}

-- ---- what a table's hash is of

table_is : table_bytes (record { db = codes "d"; name = codes "tt" }) ≡ 100 ∷ 0 ∷ 116 ∷ 116 ∷ []
table_is = refl

-- the byte between them tells where the first ends
other_table : table_bytes (record { db = codes "dt"; name = codes "t" }) ≡ 100 ∷ 116 ∷ 0 ∷ 116 ∷ []
other_table = refl

no_table : table_bytes (record { db = codes ""; name = codes "" }) ≡ 0 ∷ []
no_table = refl

-- (0 xor 1) times the prime, and (1 xor 3) times it, which is twice the prime
one_byte : hash_with 0 1 ≡ 1099511628211
one_byte = refl

bits_apart : hash_with 1 3 ≡ 2199023256422
bits_apart = refl

-- equal bytes leave nothing
bits_alike : hash_with 7 7 ≡ 0
bits_alike = refl

-- ---- the key of a text

far_is_key : IsKeyOf far (codes "db") (codes "XY") far_key
far_is_key = record { can_be = refl; limit = omega arith; bytes = refl }

-- of another text it is no key
of_another_text : IsKeyOf far (codes "db") (codes "XZ") far_key → ⊥
of_another_text h = absurd (omega (arith, ap last h.bytes))
  where
    last : List ℕ → ℕ
    last [] = 0
    last (b ∷ []) = b
    last (b ∷ c ∷ bs) = last (c ∷ bs)

nothing_read : read_as None ≡ None
nothing_read = refl
