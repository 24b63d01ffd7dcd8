-- What is read of a key, and what is no key.
use Rattle.std.proofs.Common.{◌≡◌, ℕ, List, [], ◌∷◌, refl, true, false}
use Rattle.std.specs.Prelude.{codes}
use Rattle.qc_sql.proofs.examples.Keys.{far, far_key}
use Rattle.qc_model.specs.Session.{parts_of, is_key_of}

-- the parts are read back
parts_are : parts_of far_key ≡ record { flags = far; db = codes "db"; text = codes "XY" }
parts_are = refl

is_its_key : is_key_of (parts_of far_key) far_key ≡ true
is_its_key = refl

-- a byte that is neither 0 nor 1 for autocommit is no flag
no_flag : is_key_of (parts_of (0 ∷ 0 ∷ 2 ∷ 33 ∷ 0 ∷ 0 ∷ 0 ∷ 0 ∷ 0 ∷ 0 ∷ 0 ∷ 0 ∷ 0 ∷ 0 ∷ 0 ∷ 0 ∷ [])) (0 ∷ 0 ∷ 2 ∷ 33 ∷ 0 ∷ 0 ∷ 0 ∷ 0 ∷ 0 ∷ 0 ∷ 0 ∷ 0 ∷ 0 ∷ 0 ∷ 0 ∷ 0 ∷ []) ≡ false
no_flag = refl

-- the character set 34 is none of the two
no_charset : is_key_of (parts_of (0 ∷ 0 ∷ 1 ∷ 34 ∷ 0 ∷ 0 ∷ 0 ∷ 0 ∷ 0 ∷ 0 ∷ 0 ∷ 0 ∷ 0 ∷ 0 ∷ 0 ∷ 0 ∷ [])) (0 ∷ 0 ∷ 1 ∷ 34 ∷ 0 ∷ 0 ∷ 0 ∷ 0 ∷ 0 ∷ 0 ∷ 0 ∷ 0 ∷ 0 ∷ 0 ∷ 0 ∷ 0 ∷ []) ≡ false
no_charset = refl

-- one byte too few
cut_key : is_key_of (parts_of (0 ∷ 0 ∷ 1 ∷ 33 ∷ 0 ∷ 0 ∷ 0 ∷ 0 ∷ 0 ∷ 0 ∷ 0 ∷ 0 ∷ 0 ∷ 0 ∷ 0 ∷ [])) (0 ∷ 0 ∷ 1 ∷ 33 ∷ 0 ∷ 0 ∷ 0 ∷ 0 ∷ 0 ∷ 0 ∷ 0 ∷ 0 ∷ 0 ∷ 0 ∷ 0 ∷ []) ≡ false
cut_key = refl
