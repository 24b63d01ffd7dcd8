-- Keys: each flag at its place, and the database's name in front.
use Rattle.std.proofs.Common.{◌≡◌, ℕ, List, [], ◌∷◌, refl, true, false}
use Rattle.std.specs.Prelude.{codes, replicate}
use Rattle.qc_sql.specs.declared.session.Flags.{Flags}
use Rattle.qc_sql.specs.Keys.{can_be_keyed, flag_byte, flag_bytes, key_bytes}

-- in a transaction, autocommit off, utf8mb4, ANSI quotes, and 772 rows, which is 3 * 256 + 4
abbrev pub far : Flags
far = record { in_trans = true; autocommit = false; charset = 45; ansi = true; row_limit = 772; protocol_form = 0; row_form = 0 }

-- outside one, autocommit on, utf8, no ANSI quotes, and no rows
abbrev pub near : Flags
near = record { in_trans = false; autocommit = true; charset = 33; ansi = false; row_limit = 0; protocol_form = 0; row_form = 0 }

on : flag_byte true ≡ 1
on = refl

off : flag_byte false ≡ 0
off = refl

far_flags : flag_bytes far ≡ 1 ∷ 0 ∷ 45 ∷ 0 ∷ 1 ∷ 4 ∷ 3 ∷ 0 ∷ 0 ∷ 0 ∷ 0 ∷ 0 ∷ 0 ∷ 0 ∷ 0 ∷ []
far_flags = refl

near_flags : flag_bytes near ≡ 0 ∷ 1 ∷ 33 ∷ 0 ∷ 0 ∷ 0 ∷ 0 ∷ 0 ∷ 0 ∷ 0 ∷ 0 ∷ 0 ∷ 0 ∷ 0 ∷ 0 ∷ []
near_flags = refl

abbrev pub far_key : List ℕ
far_key = 2 ∷ 100 ∷ 98 ∷ 1 ∷ 0 ∷ 45 ∷ 0 ∷ 1 ∷ 4 ∷ 3 ∷ 0 ∷ 0 ∷ 0 ∷ 0 ∷ 0 ∷ 0 ∷ 0 ∷ 0 ∷ 88 ∷ 89 ∷ []

-- the name's length, the name, the flags, the text
key_is : key_bytes far (codes "db") (codes "XY") ≡ far_key
key_is = refl

-- without a database and without a text the flags alone are left, behind a length of 0
bare_key : key_bytes near (codes "") (codes "") ≡ 0 ∷ 0 ∷ 1 ∷ 33 ∷ 0 ∷ 0 ∷ 0 ∷ 0 ∷ 0 ∷ 0 ∷ 0 ∷ 0 ∷ 0 ∷ 0 ∷ 0 ∷ 0 ∷ []
bare_key = refl

-- ---- flags and names that a key can hold

far_can_be : can_be_keyed far (replicate 64 100) ≡ true
far_can_be = refl

near_can_be : can_be_keyed near [] ≡ true
near_can_be = refl

long_name : can_be_keyed near (replicate 65 100) ≡ false
long_name = refl

other_charset : can_be_keyed (record near { charset = 8 }) [] ≡ false
other_charset = refl

other_protocol : can_be_keyed (record near { protocol_form = 1 }) [] ≡ false
other_protocol = refl

other_rows : can_be_keyed (record near { row_form = 1 }) [] ≡ false
other_rows = refl
