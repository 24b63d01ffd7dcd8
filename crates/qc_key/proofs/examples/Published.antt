-- The key of a select, and the hash of some texts.
use Rattle.std.proofs.Common.{◌≡◌, List, ℕ, [], ◌∷◌, false, true, refl}
use Rattle.std.specs.Prelude.{codes}
use Rattle.qc_sql.specs.Keys.{key_bytes}
use Rattle.qc_key.specs.Hash.{hash}

-- SELECT id FROM t in the database d, with no transaction, autocommit, utf8 and no limit of rows: 33 bytes
select_key : List ℕ
select_key =
    0x01 ∷ 0x64 ∷ 0x00 ∷ 0x01 ∷ 0x21 ∷ 0x00 ∷ 0x00 ∷ 0xff ∷ 0xff ∷ 0xff ∷ 0xff ∷ 0xff ∷ 0xff ∷ 0xff ∷ 0xff ∷ 0x00 ∷ 0x00
    ∷ 0x53 ∷ 0x45 ∷ 0x4c ∷ 0x45 ∷ 0x43 ∷ 0x54 ∷ 0x20 ∷ 0x69 ∷ 0x64 ∷ 0x20 ∷ 0x46 ∷ 0x52 ∷ 0x4f ∷ 0x4d ∷ 0x20 ∷ 0x74 ∷ []

select_key_is :
    key_bytes (record { in_trans = false; autocommit = true; charset = 33; ansi = false; row_limit = 18446744073709551615; protocol_form = 0; row_form = 0 })
    (codes "d") (codes "SELECT id FROM t")
    ≡ select_key
unfolding select_key
select_key_is = refl

hash_of_nothing : hash [] ≡ 0xcbf29ce484222325
hash_of_nothing = refl

hash_of_a : hash (codes "a") ≡ 0xaf63dc4c8601ec8c
hash_of_a = refl

hash_of_foobar : hash (codes "foobar") ≡ 0x85944171f73967e8
hash_of_foobar = refl
