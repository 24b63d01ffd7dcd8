-- Reading the fields of a payload from the left. The first fault by place is the answer: a field is read as a whole, and is wrong at its first byte.
use Rattle.std.specs.Prelude.{◌≡◌, ℕ, zero, suc, ◌^◌, Bool, not, List, [], ◌∷◌, length, take, Result, Ok, Err, nat_lt, ◌==◌, if◌then◌else◌}
use Rattle.byteorder.specs.Endian.{little_number}
use Rattle.qc_wire.specs.Places.{Unread, moved, end_of}
use Rattle.qc_wire.specs.declared.refusal.WireRefusal.{WireRefusal}
use Rattle.qc_wire.specs.declared.refusal.WireRefusal.TheVariants as refusal
use Rattle.qc_wire.specs.declared.reading.fields.Fields.{Fields}

-- a value, and what is still to be read behind it; or why there is none
abbrev pub Read : Type 0 → Type 0
Read A = Result (A × Unread) WireRefusal

infixl 10 ◌>>=◌
abbrev pub ◌>>=◌ : {A B : Type 0} → Result A WireRefusal → (A → Result B WireRefusal) → Result B WireRefusal
(Ok x) >>= f = f x
(Err e) >>= f = Err e

-- a call answers, seen by a view, what reading gives
abbrev pub Is : {X Y : Type 0} → (X → Y) → Result X WireRefusal → Result Y WireRefusal → Type 0
Is view (Ok x) read = read ≡ Ok (view x)
Is view (Err e) read = read ≡ Err e

-- what is left of fields
abbrev pub unread : Fields → Unread
unread f = record { at = f.at; left = f.left.now }

-- goes on unless the test finds this fault
abbrev pub unless : {A : Type 0} → Bool → WireRefusal → A → Result A WireRefusal
unless wrong fault x = if wrong then Err fault else Ok x

-- so many bytes
abbrev pub take_bytes : ℕ → Unread → Read (List ℕ)
take_bytes n u = unless (nat_lt (length u.left) n) (refusal.Truncated (end_of u)) (take n u.left, moved n u)

-- a number in so many bytes, the low one first
unfoldable pub number : ℕ → Unread → Read ℕ
number n u = do
  bytes ← take_bytes n u
  Ok (little_number n bytes.0, bytes.1)

-- one certain byte
unfoldable pub constant : ℕ → Unread → Result Unread WireRefusal
constant b u = do
  byte ← number 1 u
  unless (not (byte.0 == b)) (refusal.BadByte u.at) byte.1

-- certain bytes, one after another
unfoldable pub constants : List ℕ → Unread → Result Unread WireRefusal
constants [] u = Ok u
constants (b ∷ bs) u = do
  behind ← constant b u
  constants bs behind

-- a value of a length-encoded integer, that starts here, that no shorter form has
abbrev pub shortest : ℕ → ℕ → ℕ × Unread → Read ℕ
shortest start least value = unless (nat_lt value.0 least) (refusal.NotMinimal start) value

-- what the first byte of a length-encoded integer begins
unfoldable pub integer_behind : ℕ → ℕ → Unread → Read ℕ
integer_behind start byte u =
    if nat_lt byte 251 then Ok (byte, u) else
    if byte == 0xfc then number 2 u >>= shortest start 251 else
    if byte == 0xfd then number 3 u >>= shortest start (2 ^ 16) else
    if byte == 0xfe then number 8 u >>= shortest start (2 ^ 24) else
    Err (refusal.BadByte start)

-- a length-encoded integer in its shortest form
unfoldable pub integer : Unread → Read ℕ
integer u = do
  byte ← number 1 u
  integer_behind u.at byte.0 byte.1

-- a length-encoded 0
unfoldable pub no_number : Unread → Result Unread WireRefusal
no_number u = do
  value ← integer u
  unless (not (value.0 == 0)) (refusal.BadByte u.at) value.1

-- a length-encoded string
unfoldable pub string : Unread → Read (List ℕ)
string u = do
  size ← integer u
  take_bytes size.0 size.1

-- so many values, one after another
unfoldable pub times : {A S : Type 0} → (S → Result (A × S) WireRefusal) → ℕ → S → Result (List A × S) WireRefusal
times read zero s = Ok ([], s)
times read (suc n) s = do
  first ← read s
  others ← times read n first.1
  Ok (first.0 ∷ others.0, others.1)
