-- What a key determines.
use Rattle.std.specs.Prelude.{◌≡◌, ℕ, List}
use Rattle.qc_sql.specs.declared.session.Flags.{Flags}
use Rattle.qc_key.specs.Keyed.{IsKeyOf}

-- A key is that of one text alone, under the same flags and with the same database name.
abbrev pub HasOneSpelling : Type 0
HasOneSpelling = (key : List ℕ) (f g : Flags) (d e t u : List ℕ) → IsKeyOf f d t key → IsKeyOf g e u key → (f ≡ g) × (d ≡ e) × (t ≡ u)
