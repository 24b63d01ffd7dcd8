-- The key of a row, column by column.
use Rattle.std.proofs.Common.{◌≡◌, ℕ, ◌+◌, ◌<◌, false, List, [], ◌∷◌, length, get_or, drop, zero, suc, refl, arith, pos, add-one}
use Rattle.qc_types.specs.declared.names.Value.{Value}
use Rattle.qc_sql.specs.declared.tables.Column.{Column}
use Rattle.qc_sql.specs.Database.{key_of}

key_of_none : (cs : List Column) → key_of cs [] ≡ pos 0
key_of_none [] = refl
key_of_none (c ∷ cs) = refl

drop_none : (i : ℕ) → drop {A = Value} i [] ≡ []
drop_none zero = refl
drop_none (suc i) = refl

next : (cs : List Column) (vs : List Value) (i : ℕ) (c : Column) → i < length cs → c ≡ get_or cs i c → c.primary ≡ false → key_of (drop i cs) (drop i vs) ≡ key_of (drop (suc i) cs) (drop (suc i) vs)
next [] vs i c within is plain = absurd (omega arith)
next (d ∷ cs) [] zero c within is plain = rw (key_of_none cs) refl
next (d ∷ cs) (v ∷ vs) zero c within is plain = rw (← is, plain) refl
next (d ∷ cs) [] (suc i) c within is plain = rw drop_none at (next cs [] i c (omega arith) is plain)
next (d ∷ cs) (v ∷ vs) (suc i) c within is plain = next cs vs i c (omega arith) is plain

-- a column that isn't the key is passed
pub next_key : (cs : List Column) (vs : List Value) (i : ℕ) (c : Column) → i < length cs → c ≡ get_or cs i c → c.primary ≡ false → key_of (drop i cs) (drop i vs) ≡ key_of (drop (i + 1) cs) (drop (i + 1) vs)
next_key cs vs i c within is plain = rw add-one (next cs vs i c within is plain)
