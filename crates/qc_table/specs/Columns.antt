-- How the values of a column are stored.
use Rattle.std.specs.Prelude.{◌≡◌, ℕ, ◌+◌, ◌-◌, ◌/◌, ◌≤◌, ℤ, List, [], ◌∷◌, map, length, take, drop, slice_index, if◌then◌else◌}
use Rattle.std.specs.Vec.{vec_capacity, vec_len}
use Rattle.qc_types.specs.declared.names.Value.{Value}
use Rattle.qc_types.specs.declared.names.Value.TheVariants as value
use Rattle.qc_sql.specs.Database.{key_value}
use Rattle.qc_table.specs.declared.ints.Ints.{Ints}
use Rattle.qc_table.specs.declared.texts.Texts.{Texts}
use Rattle.qc_table.specs.Bits.{bit_at, IsPacked}

-- numbers from an index on, and NULL where the bit is set
abbrev pub ints_from : ℕ → List ℤ → List ℕ → List Value
ints_from i [] nulls = []
ints_from i (n ∷ ns) nulls = (if bit_at nulls i then value.Null else value.Int n) ∷ ints_from (i + 1) ns nulls

abbrev pub ints_of : Ints → List Value
ints_of c = ints_from 0 c.values.items c.nulls.items

-- a bit for each number, and 0 for the number of a NULL
pub record IsInts (c : Ints) : Type 0 where
  pub packed : IsPacked c.nulls.items (length c.values.items)
  pub zeroed : map key_value (ints_of c) ≡ c.values.items

-- texts from an index on, each behind the end of the one before it, and NULL where the bit is set
abbrev pub texts_from : ℕ → ℕ → List ℕ → List ℕ → List ℕ → List Value
texts_from i from [] bytes nulls = []
texts_from i from (e ∷ es) bytes nulls = (if bit_at nulls i then value.Null else value.Str (take (e - from) (drop from bytes))) ∷ texts_from (i + 1) e es bytes nulls

abbrev pub texts_of : Texts → List Value
texts_of c = texts_from 0 0 c.ends.items c.bytes.items c.nulls.items

-- ends that don't fall, up to the last
abbrev pub Climbs : ℕ → List ℕ → ℕ → Type 0
Climbs from [] last = from ≡ last
Climbs from (e ∷ es) last = (from ≤ e) × Climbs e es last

-- a bit for each text, and the texts fill the bytes
pub record IsTexts (c : Texts) : Type 0 where
  pub packed : IsPacked c.nulls.items (length c.ends.items)
  pub climbs : Climbs 0 c.ends.items (length c.bytes.items)

-- the bytes of the text at an index
abbrev pub part_at : List ℕ → List ℕ → ℕ → List ℕ
part_at ends bytes i = let from = slice_index (0 ∷ ends) i in take (slice_index ends i - from) (drop from bytes)

-- room for more numbers
pub record HasIntRoom (more : ℕ) (c : Ints) : Type 0 where
  pub values : vec_len c.values + more ≤ vec_capacity c.values
  pub nulls : (vec_len c.values + more + 63) / 64 ≤ vec_capacity c.nulls

-- room for more texts, of so many bytes together
pub record HasTextRoom (more count : ℕ) (c : Texts) : Type 0 where
  pub bytes : vec_len c.bytes + count ≤ vec_capacity c.bytes
  pub ends : vec_len c.ends + more ≤ vec_capacity c.ends
  pub nulls : (vec_len c.ends + more + 63) / 64 ≤ vec_capacity c.nulls

-- how many bytes a value has, where it is a text
abbrev pub text_length : Value → ℕ
text_length value.Null = 0
text_length (value.Int n) = 0
text_length (value.Str t) = length t
