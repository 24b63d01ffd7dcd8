-- Readers that read from a start of bytes what they read from all of them, or find it cut at its end.
use Rattle.std.proofs.Common.{◌≡◌, ℕ, zero, suc, ◌+◌, ◌^◌, Bool, true, false, List, [], ◌∷◌, ◌++◌, length, take, drop, Result, Ok, Err, refl, sym, ap, subst, ◌∙◌, arith, inl, inr, ◌⊎◌, length-drop}
use Rattle.std.specs.Prelude.{nat_lt, not, ◌==◌, if◌then◌else◌}
use Rattle.std.proofs.lemmas.Bool.{cases_lt, le-ltb, lt-ltb}
use Rattle.std.proofs.lemmas.List.{take-append-le, drop-append-le}
use Rattle.byteorder.specs.Endian.{little_number}
use Rattle.qc_wire.specs.declared.refusal.WireRefusal.{WireRefusal}
use Rattle.qc_wire.specs.declared.refusal.WireRefusal.TheVariants as refusal
use Rattle.qc_wire.specs.Places.{Unread, moved, end_of}
use Rattle.qc_wire.specs.Reading.{Read, ◌>>=◌, unless, take_bytes, number, constant, constants, shortest, integer_behind, integer, no_number, string, times}
use Rattle.qc_wire.proofs.Results.{ok_is, then_step, unless_ok}
use Rattle.qc_wire.proofs.Fields.{spot}

-- how more bytes are put behind what is left, and where what is left ends
pub record Ground (S : Type 0) : Type 0 where
  pub grow : List ℕ → S → S
  pub place : S → ℕ

abbrev pub bytes_ground : Ground Unread
bytes_ground = record { grow = λ more u. spot u.at (u.left ++ more); place = λ u. end_of u }

-- a value, and what is left
abbrev pub with_value : {A S : Type 0} → Ground S → Ground (A × S)
with_value b = record { grow = λ more x. (x.0, b.grow more x.1); place = λ x. b.place x.1 }

-- a reader is cut at this end, or gave a value of which this holds
abbrev pub Reaches : {R : Type 0} → (ℕ → R → Type 0) → ℕ → Result R WireRefusal → Type 0
Reaches {R} Holds end read = (read ≡ Err (refusal.Truncated end)) ⊎ ((t : R) × (read ≡ Ok t) × Holds end t)

-- What was read with more bytes there is read without them, or is cut at their end.
abbrev pub Local : {S R : Type 0} → Ground S → Ground R → (S → Result R WireRefusal) → Type 0
Local {S} {R} a b read = (s : S) (more : List ℕ) (y : R) → read (a.grow more s) ≡ Ok y → Reaches (λ end t. (y ≡ b.grow more t) × (b.place t ≡ end)) (a.place s) (read s)

-- what is read behind such a reader
pub cut_then : {S R T : Type 0} (a : Ground S) (b : Ground R) (read : S → Result R WireRefusal) (f : R → Result T WireRefusal) → Local a b read
    → (Holds : ℕ → T → Type 0) (s : S) (more : List ℕ) (y : T) → ((t : R) → f (b.grow more t) ≡ Ok y → Reaches Holds (b.place t) (f t))
    → (read (a.grow more s) >>= f) ≡ Ok y → Reaches Holds (a.place s) (read s >>= f)
cut_then {S} {R} {T} a b read f h Holds s more y go e =
    then_step (read (a.grow more s)) f y e (λ x took is.
    elim (h s more x took) [
      | inl cut ↦ inl (ap (λ (r : Result R WireRefusal). r >>= f) cut)
      | inr (t, there, same) ↦
          subst (λ (end : ℕ). Reaches Holds end (read s >>= f)) same.1 (
          subst (λ (r : Result T WireRefusal). Reaches Holds (b.place t) r) (sym (ap (λ (r : Result R WireRefusal). r >>= f) there))
          (go t (subst (λ (z : R). f z ≡ Ok y) same.0 is)))
    ])

pub local_then : {S R T : Type 0} (a : Ground S) (b : Ground R) (c : Ground T) (read : S → Result R WireRefusal) (f : R → Result T WireRefusal)
    → Local a b read → Local b c f → Local a c (λ s. read s >>= f)
local_then a b c read f h g s more y e = cut_then a b read f h (λ end v. (y ≡ c.grow more v) × (c.place v ≡ end)) s more y (λ t is. g t more y is) e

-- a test of what was read before
pub local_unless : {R T : Type 0} (b : Ground R) (c : Ground T) (value : R → T) (wrong : Bool) (fault : WireRefusal)
    → ((more : List ℕ) (r : R) → value (b.grow more r) ≡ c.grow more (value r)) → ((r : R) → c.place (value r) ≡ b.place r)
    → Local b c (λ r. unless wrong fault (value r))
local_unless b c value true fault grows places r more y e = absurd cc
local_unless b c value false fault grows places r more y e = inr (value r, refl, (sym (ok_is _ y e) ∙ grows more r, places r))

pub local_if : {R T : Type 0} (b : Ground R) (c : Ground T) (f g : R → Result T WireRefusal) (test : Bool) → Local b c f → Local b c g
    → Local b c (λ r. if test then f r else g r)
local_if b c f g true p q = p
local_if b c f g false p q = q

pub local_fault : {R T : Type 0} (b : Ground R) (c : Ground T) (fault : WireRefusal) → Local b c (λ r. Err fault)
local_fault b c fault r more y e = absurd cc

-- ---- readers of bytes

abbrev pub LocalRead : {A : Type 0} → (Unread → Read A) → Type 0
LocalRead {A} read = Local bytes_ground (with_value bytes_ground) read

abbrev pub LocalPass : (Unread → Result Unread WireRefusal) → Type 0
LocalPass read = Local bytes_ground bytes_ground read

-- a reader, and what goes on from its value
pub read_then : {A T : Type 0} (c : Ground T) (read : Unread → Read A) (f : A × Unread → Result T WireRefusal)
    → LocalRead read → ((x : A) → Local bytes_ground c (λ u. f (x, u))) → Local bytes_ground c (λ u. read u >>= f)
read_then c read f h g = local_then bytes_ground (with_value bytes_ground) c read f h (λ r more y e. g r.0 r.1 more y e)

pub pass_then : {T : Type 0} (c : Ground T) (read : Unread → Result Unread WireRefusal) (f : Unread → Result T WireRefusal)
    → LocalPass read → Local bytes_ground c f → Local bytes_ground c (λ u. read u >>= f)
pass_then c read f h g = local_then bytes_ground bytes_ground c read f h g

-- a value made of those that were read
pub made : {A : Type 0} (x : A) → LocalRead (λ u. Ok (x, u))
made x u more y e = inr ((x, u), refl, (sym (ok_is _ y e), refl))

pub bytes_local : (n : ℕ) → LocalRead (take_bytes n)
bytes_local n u more y e =
    let all : Unread = spot u.at (u.left ++ more) in
    elim (cases_lt (length u.left) n) [
      | inl short ↦ inl (rw (lt-ltb (length u.left) n short) refl)
      | inr enough ↦
          let is = (unless_ok (nat_lt (length all.left) n) (refusal.Truncated (end_of all)) (take n all.left, moved n all) y e).1 in
          let same : ◌≡◌ {A = List ℕ × Unread} (take n all.left, moved n all) (take n u.left, spot (u.at + n) (drop n u.left ++ more)) = rw (take-append-le n u.left more enough, drop-append-le n u.left more enough) refl in
          inr ((take n u.left, moved n u), rw (le-ltb (length u.left) n enough) refl, (sym is ∙ same, omega (arith, enough, length-drop n u.left)))
    ]

pub number_local : (n : ℕ) → LocalRead (number n)
unfolding number
number_local n = read_then (with_value bytes_ground) (take_bytes n) (λ bytes. Ok (little_number n bytes.0, bytes.1)) (bytes_local n) (λ x. made (little_number n x))

pub constant_local : (b : ℕ) → LocalPass (constant b)
unfolding constant
constant_local b u more y e =
    read_then bytes_ground (number 1) (λ byte. unless (not (byte.0 == b)) (refusal.BadByte u.at) byte.1) (number_local 1)
    (λ x. local_unless bytes_ground bytes_ground (λ r. r) (not (x == b)) (refusal.BadByte u.at) (λ more r. refl) (λ r. refl)) u more y e

pub constants_local : (bs : List ℕ) → LocalPass (constants bs)
unfolding constants
constants_local [] u more y e = inr (u, refl, (sym (ok_is _ y e), refl))
constants_local (b ∷ bs) u more y e = pass_then bytes_ground (constant b) (constants bs) (constant_local b) (constants_local bs) u more y e

shortest_local : (n start least : ℕ) → LocalRead (λ u. number n u >>= shortest start least)
shortest_local n start least =
    read_then (with_value bytes_ground) (number n) (shortest start least) (number_local n)
    (λ x. local_unless bytes_ground (with_value bytes_ground) (λ u. (x, u)) (nat_lt x least) (refusal.NotMinimal start) (λ more r. refl) (λ r. refl))

abbrev value_ground : Ground (ℕ × Unread)
value_ground = with_value bytes_ground

behind_local : (start byte : ℕ) → LocalRead (integer_behind start byte)
unfolding integer_behind
behind_local start byte =
    local_if bytes_ground value_ground (λ u. Ok (byte, u)) _ (nat_lt byte 251) (made byte)
    (local_if bytes_ground value_ground (λ u. number 2 u >>= shortest start 251) _ (byte == 0xfc) (shortest_local 2 start 251)
    (local_if bytes_ground value_ground (λ u. number 3 u >>= shortest start (2 ^ 16)) _ (byte == 0xfd) (shortest_local 3 start (2 ^ 16))
    (local_if bytes_ground value_ground (λ u. number 8 u >>= shortest start (2 ^ 24)) (λ u. Err (refusal.BadByte start)) (byte == 0xfe) (shortest_local 8 start (2 ^ 24))
    (local_fault bytes_ground value_ground (refusal.BadByte start)))))

pub integer_local : LocalRead integer
unfolding integer
integer_local u more y e =
    read_then value_ground (number 1) (λ byte. integer_behind u.at byte.0 byte.1) (number_local 1) (λ x. behind_local u.at x) u more y e

pub no_number_local : LocalPass no_number
unfolding no_number
no_number_local u more y e =
    read_then bytes_ground integer (λ value. unless (not (value.0 == 0)) (refusal.BadByte u.at) value.1) integer_local
    (λ x. local_unless bytes_ground bytes_ground (λ r. r) (not (x == 0)) (refusal.BadByte u.at) (λ more r. refl) (λ r. refl)) u more y e

pub string_local : LocalRead string
unfolding string
string_local u more y e = read_then (with_value bytes_ground) integer (λ size. take_bytes size.0 size.1) integer_local (λ n. bytes_local n) u more y e

pub times_local : {A S : Type 0} (b : Ground S) (read : S → Result (A × S) WireRefusal) → Local b (with_value b) read → (n : ℕ)
    → Local b (with_value b) (times read n)
unfolding times
times_local b read h zero s more y e = inr (([], s), refl, (sym (ok_is _ y e), refl))
times_local {A} {S} b read h (suc n) s more y e =
    local_then b (with_value b) (with_value b) read (λ first. times read n first.1 >>= λ others. Ok (first.0 ∷ others.0, others.1)) h
    (λ x. local_then b (with_value b) (with_value b) (times read n) (λ others. Ok (x.0 ∷ others.0, others.1)) (times_local b read h n)
    (λ v grown z is. inr ((x.0 ∷ v.0, v.1), refl, (sym (ok_is _ z is), refl))) x.1) s more y e
