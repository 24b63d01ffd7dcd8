-- What is read of a key.
use Rattle.std.specs.Prelude.{◌≡◌, ℕ, ◌<◌, ◌^◌, List, Option, Some, None, IsTrue}
use Rattle.qc_sql.specs.declared.session.Flags.{Flags}
use Rattle.qc_sql.specs.Keys.{can_be_keyed, key_bytes}
use Rattle.qc_key.specs.declared.keys.KeyParts.{KeyParts}

-- bytes are the key of these flags, this name and this text; a row limit is a number of 64 bits
pub record IsKeyOf (flags : Flags) (db text key : List ℕ) : Type 0 where
  pub can_be : IsTrue (can_be_keyed flags db)
  pub limit : flags.row_limit < 2 ^ 64
  pub bytes : key ≡ key_bytes flags db text

-- the flags, the database name and the text that are borrowed of a key
abbrev pub read_as : Option KeyParts → Option (Flags × List ℕ × List ℕ)
read_as (Some parts) = Some (parts.flags, parts.db.now, parts.text.now)
read_as None = None
