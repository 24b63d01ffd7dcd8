-- A field that is read is the field that was written, and what was written is read again.
use Rattle.std.proofs.Common.{◌≡◌, ℕ, zero, suc, ◌+◌, ◌%◌, ◌^◌, ◌<◌, ◌≤◌, Bool, true, false, List, [], ◌∷◌, ◌++◌, length, take, Result, Ok, refl, sym, ap, subst, ◌∙◌, append_assoc, append-nil, arith, inl, inr, ◌⊎◌}
use Rattle.std.specs.Prelude.{nat_lt, not, ◌==◌, if◌then◌else◌}
use Rattle.std.proofs.lemmas.Bool.{cases_lt, ltb-true, ltb-false, le-ltb, lt-ltb, eqb-true, eq-eqb}
use Rattle.std.proofs.lemmas.List.{take_at, drop_at, take-append-drop, length-append, length-take}
use Rattle.byteorder.specs.Endian.{little_number, little_bytes}
use Rattle.byteorder.specs.Numbers.{little_number-reads_back, little_from-lt, length-bytes_low_first}
use Rattle.qc_sql.specs.Packets.{encoded_integer, encoded_string}
use Rattle.qc_wire.specs.declared.refusal.WireRefusal.{WireRefusal}
use Rattle.qc_wire.specs.declared.refusal.WireRefusal.TheVariants as refusal
use Rattle.qc_wire.specs.Places.{Unread, moved, end_of}
use Rattle.qc_wire.specs.Reading.{Read, ◌>>=◌, unless, take_bytes, number, constant, constants, shortest, integer_behind, integer, no_number, string}
use Rattle.qc_wire.proofs.Results.{ok_is, then_step, unless_ok, not_false}
use Rattle.qc_wire.proofs.LowFirst.{IsBytes, IsBytes-drop, IsBytes-take, IsBytes-rest, bytes_again}

-- what a reader took from what is left
pub record Takes (u : Unread) (text : List ℕ) (rest : Unread) : Type 0 where
  pub parts : u.left ≡ text ++ rest.left
  pub bytes : IsBytes rest.left

pub takes_then : (a b c : Unread) (x y : List ℕ) → Takes a x b → Takes b y c → Takes a (x ++ y) c
takes_then a b c x y p q = record { parts = p.parts ∙ ap (λ (t : List ℕ). x ++ t) q.parts ∙ sym (append_assoc x y c.left); bytes = q.bytes }

abbrev pub spot : ℕ → List ℕ → Unread
spot at left = record { at = at; left = left }

-- ---- bytes and numbers

pub bytes_take : (n : ℕ) (u : Unread) (x : List ℕ × Unread) → IsBytes u.left → take_bytes n u ≡ Ok x → Takes u x.0 x.1 × (length x.0 ≡ n) × IsBytes x.0
bytes_take n u x fits e =
    let t = unless_ok (nat_lt (length u.left) n) (refusal.Truncated (end_of u)) (take n u.left, moved n u) x e in
    let enough : n ≤ length u.left = ltb-false (length u.left) n t.0 in
    let P : List ℕ × Unread → Type 0 = λ y. Takes u y.0 y.1 × (length y.0 ≡ n) × IsBytes y.0 in
    subst P t.1 (
      record { parts = sym (take-append-drop n u.left); bytes = IsBytes-drop n u.left fits },
      omega (arith, length-take n u.left),
      IsBytes-take n u.left fits,
    )

pub bytes_reread : (n at : ℕ) (x rest : List ℕ) → length x ≡ n → take_bytes n (spot at (x ++ rest)) ≡ Ok (x, spot (at + n) rest)
bytes_reread n at x rest e =
    rw (le-ltb (length (x ++ rest)) n (omega (arith, length-append x rest)), take_at x rest n e, drop_at x rest n e) refl

pub number_takes : (n : ℕ) (u : Unread) (x : ℕ × Unread) → IsBytes u.left → number n u ≡ Ok x → Takes u (little_bytes n x.0) x.1 × (x.0 < 256 ^ n)
unfolding number
number_takes n u x fits e =
    then_step (take_bytes n u) (λ bytes. Ok (little_number n bytes.0, bytes.1)) x e (λ b took is.
    let t = bytes_take n u b fits took in
    let P : ℕ × Unread → Type 0 = λ y. Takes u (little_bytes n y.0) y.1 × (y.0 < 256 ^ n) in
    subst P (ok_is (little_number n b.0, b.1) x is) (
      subst (λ (text : List ℕ). Takes u text b.1) (sym (bytes_again n b.0 t.1 t.2)) t.0,
      little_from-lt 0 n b.0 t.2,
    ))

pub number_again : (n at x : ℕ) (rest : List ℕ) → x < 256 ^ n → number n (spot at (little_bytes n x ++ rest)) ≡ Ok (x, spot (at + n) rest)
unfolding number
number_again n at x rest lt =
    let bytes : List ℕ = little_bytes n x in
    let back : little_number n bytes ≡ x = ap (little_number n) (sym (append-nil bytes)) ∙ little_number-reads_back n x [] lt in
    ap (λ (r : Result (List ℕ × Unread) WireRefusal). r >>= λ b. Ok (little_number n b.0, b.1)) (bytes_reread n at bytes rest (length-bytes_low_first 0 n x))
    ∙ ap (λ (v : ℕ). Ok (v, spot (at + n) rest)) back

pub constant_takes : (b : ℕ) (u rest : Unread) → IsBytes u.left → constant b u ≡ Ok rest → Takes u (b ∷ []) rest
unfolding constant
constant_takes b u rest fits e =
    then_step (number 1 u) (λ byte. unless (not (byte.0 == b)) (refusal.BadByte u.at) byte.1) rest e (λ x took is.
    let t = number_takes 1 u x fits took in
    let g = unless_ok (not (x.0 == b)) (refusal.BadByte u.at) x.1 rest is in
    let same : x.0 ≡ b = eqb-true x.0 b (not_false (x.0 == b) g.0) in
    let low : x.0 % 256 ≡ b = omega (arith, t.1) in
    subst (λ (r : Unread). Takes u (b ∷ []) r) g.1 (subst (λ (d : ℕ). Takes u (d ∷ []) x.1) low t.0))

pub constant_again : (b at : ℕ) (rest : List ℕ) → b < 256 → constant b (spot at (b ∷ rest)) ≡ Ok (spot (at + 1) rest)
unfolding constant
constant_again b at rest lt =
    let low : b % 256 ≡ b = omega arith in
    let one : number 1 (spot at (b ∷ rest)) ≡ Ok (b, spot (at + 1) rest) = ap (λ (d : ℕ). number 1 (spot at (d ∷ rest))) (sym low) ∙ number_again 1 at b rest lt in
    rw (one, eq-eqb b b refl) refl

pub constants_take : (bs : List ℕ) (u rest : Unread) → IsBytes u.left → constants bs u ≡ Ok rest → Takes u bs rest
unfolding constants
constants_take [] u rest fits e = subst (λ (r : Unread). Takes u [] r) (ok_is u rest e) (record { parts = refl; bytes = fits })
constants_take (b ∷ bs) u rest fits e =
    then_step (constant b u) (λ behind. constants bs behind) rest e (λ v took is.
    let t = constant_takes b u v fits took in
    takes_then u v rest (b ∷ []) bs t (constants_take bs v rest t.bytes is))

pub constants_again : (bs : List ℕ) (at : ℕ) (rest : List ℕ) → IsBytes bs → constants bs (spot at (bs ++ rest)) ≡ Ok (spot (at + length bs) rest)
unfolding constants
constants_again [] at rest fits = ap (λ (n : ℕ). Ok (spot n rest)) (omega arith)
constants_again (b ∷ bs) at rest fits =
    ap (λ (r : Result Unread WireRefusal). r >>= constants bs) (constant_again b at (bs ++ rest) (fits 0))
    ∙ constants_again bs (at + 1) rest (IsBytes-rest b bs fits)
    ∙ ap (λ (n : ℕ). Ok (spot n rest)) (omega arith)

-- two bytes 0
pub zero_bytes : IsBytes (0 ∷ 0 ∷ [])
zero_bytes zero = omega arith
zero_bytes (suc zero) = omega arith
zero_bytes (suc (suc i)) = omega arith

-- ---- length-encoded integers and strings

shortest_ok : (start least : ℕ) (r : Read ℕ) (x : ℕ × Unread) → (r >>= shortest start least) ≡ Ok x → (r ≡ Ok x) × (least ≤ x.0)
shortest_ok start least r x e =
    then_step r (shortest start least) x e (λ v took is.
    let g = unless_ok (nat_lt v.0 least) (refusal.NotMinimal start) v x is in
    subst (λ (y : ℕ × Unread). (r ≡ Ok y) × (least ≤ y.0)) g.1 (took, ltb-false v.0 least g.0))

-- a test, and which way it went
chosen : {A : Type 0} (b : Bool) (x y z : A) → (if b then x else y) ≡ z → ((b ≡ true) × (x ≡ z)) ⊎ ((b ≡ false) × (y ≡ z))
chosen true x y z e = inl (refl, e)
chosen false x y z e = inr (refl, e)

-- an integer that is in its range has this form
pub in_one : (n : ℕ) → n < 251 → encoded_integer n ≡ n ∷ []
unfolding encoded_integer
in_one n lt = rw (lt-ltb n 251 lt) refl

pub in_two : (n : ℕ) → 251 ≤ n → n < 2 ^ 16 → encoded_integer n ≡ 0xfc ∷ little_bytes 2 n
unfolding encoded_integer
in_two n le lt = rw (le-ltb n 251 le) (rw (lt-ltb n (2 ^ 16) lt) refl)

pub in_three : (n : ℕ) → 2 ^ 16 ≤ n → n < 2 ^ 24 → encoded_integer n ≡ 0xfd ∷ little_bytes 3 n
unfolding encoded_integer
in_three n le lt = rw (le-ltb n 251 (omega arith)) (rw (le-ltb n (2 ^ 16) le) (rw (lt-ltb n (2 ^ 24) lt) refl))

pub in_eight : (n : ℕ) → 2 ^ 24 ≤ n → encoded_integer n ≡ 0xfe ∷ little_bytes 8 n
unfolding encoded_integer
in_eight n le = rw (le-ltb n 251 (omega arith)) (rw (le-ltb n (2 ^ 16) (omega arith)) (rw (le-ltb n (2 ^ 24) le) refl))

-- the bytes behind the first one
behind_takes : (start byte : ℕ) (u : Unread) (x : ℕ × Unread) → IsBytes u.left → byte < 256 → integer_behind start byte u ≡ Ok x
    → (text : List ℕ) × (encoded_integer x.0 ≡ byte ∷ text) × Takes u text x.1 × (x.0 < 2 ^ 64)
unfolding integer_behind
behind_takes start byte u x fits lt e =
    elim (chosen (nat_lt byte 251) _ _ (Ok x) e) [
      | inl (test, is) ↦
          let P : ℕ × Unread → Type 0 = λ y. (text : List ℕ) × (encoded_integer y.0 ≡ byte ∷ text) × Takes u text y.1 × (y.0 < 2 ^ 64) in
          subst P (ok_is (byte, u) x is) ([], in_one byte (ltb-true byte 251 test), record { parts = refl; bytes = fits }, omega arith)
      | inr (test, e1) ↦ elim (chosen (byte == 0xfc) _ _ (Ok x) e1) [
        | inl (test, is) ↦
            let s = shortest_ok start 251 (number 2 u) x is in
            let t = number_takes 2 u x fits s.0 in
            (little_bytes 2 x.0, in_two x.0 s.1 (omega (arith, t.1)) ∙ ap (λ (d : ℕ). d ∷ little_bytes 2 x.0) (sym (eqb-true byte 0xfc test)), t.0, omega (arith, t.1))
        | inr (test, e2) ↦ elim (chosen (byte == 0xfd) _ _ (Ok x) e2) [
          | inl (test, is) ↦
              let s = shortest_ok start (2 ^ 16) (number 3 u) x is in
              let t = number_takes 3 u x fits s.0 in
              (little_bytes 3 x.0, in_three x.0 s.1 (omega (arith, t.1)) ∙ ap (λ (d : ℕ). d ∷ little_bytes 3 x.0) (sym (eqb-true byte 0xfd test)), t.0, omega (arith, t.1))
          | inr (test, e3) ↦ elim (chosen (byte == 0xfe) _ _ (Ok x) e3) [
            | inl (test, is) ↦
                let s = shortest_ok start (2 ^ 24) (number 8 u) x is in
                let t = number_takes 8 u x fits s.0 in
                (little_bytes 8 x.0, in_eight x.0 s.1 ∙ ap (λ (d : ℕ). d ∷ little_bytes 8 x.0) (sym (eqb-true byte 0xfe test)), t.0, omega (arith, t.1))
            | inr (test, is) ↦ absurd cc
          ]
        ]
      ]
    ]

pub integer_takes : (u : Unread) (x : ℕ × Unread) → IsBytes u.left → integer u ≡ Ok x → Takes u (encoded_integer x.0) x.1 × (x.0 < 2 ^ 64)
unfolding integer
integer_takes u x fits e =
    then_step (number 1 u) (λ byte. integer_behind u.at byte.0 byte.1) x e (λ b took is.
    let t = number_takes 1 u b fits took in
    let low : b.0 % 256 ≡ b.0 = omega (arith, t.1) in
    let one : Takes u (b.0 ∷ []) b.1 = subst (λ (d : ℕ). Takes u (d ∷ []) b.1) low t.0 in
    let rest = behind_takes u.at b.0 b.1 x one.bytes (omega (arith, t.1)) is in
    (subst (λ (text : List ℕ). Takes u text x.1) (sym rest.1) (takes_then u b.1 x.1 (b.0 ∷ []) rest.0 one rest.2), rest.3))

longer_again : (start least n at x : ℕ) (rest : List ℕ) → least ≤ x → x < 256 ^ n → (number n (spot at (little_bytes n x ++ rest)) >>= shortest start least) ≡ Ok (x, spot (at + n) rest)
longer_again start least n at x rest le lt =
    ap (λ (r : Read ℕ). r >>= shortest start least) (number_again n at x rest lt) ∙ rw (le-ltb x least le) refl

-- how many bytes stand behind the first one
abbrev more : ℕ → ℕ
more n = if nat_lt n 251 then 0 else if nat_lt n (2 ^ 16) then 2 else if nat_lt n (2 ^ 24) then 3 else 8

first_again : (at b : ℕ) (text : List ℕ) → b < 256 → integer (spot at (b ∷ text)) ≡ integer_behind at b (spot (at + 1) text)
unfolding integer
first_again at b text lt =
    let low : b % 256 ≡ b = omega arith in
    ap (λ (r : Read ℕ). r >>= λ byte. integer_behind at byte.0 byte.1) (ap (λ (d : ℕ). number 1 (spot at (d ∷ text))) (sym low) ∙ number_again 1 at b text lt)

pub integer_again : (n at : ℕ) (rest : List ℕ) → n < 2 ^ 64 → integer (spot at (encoded_integer n ++ rest)) ≡ Ok (n, spot (at + 1 + more n) rest)
unfolding integer_behind
integer_again n at rest lt =
    elim (cases_lt n 251) [
      | inl small ↦
          ap (λ (text : List ℕ). integer (spot at (text ++ rest))) (in_one n small) ∙ first_again at n rest (omega arith)
          ∙ rw (lt-ltb n 251 small) (ap (λ (k : ℕ). Ok (n, spot k rest)) (omega arith))
      | inr large ↦ elim (cases_lt n (2 ^ 16)) [
        | inl small ↦
            ap (λ (text : List ℕ). integer (spot at (text ++ rest))) (in_two n large small) ∙ first_again at 0xfc (little_bytes 2 n ++ rest) (omega arith)
            ∙ rw (le-ltb n 251 large, lt-ltb n (2 ^ 16) small) (longer_again at 251 2 (at + 1) n rest large (omega arith))
        | inr larger ↦ elim (cases_lt n (2 ^ 24)) [
          | inl small ↦
              ap (λ (text : List ℕ). integer (spot at (text ++ rest))) (in_three n larger small) ∙ first_again at 0xfd (little_bytes 3 n ++ rest) (omega arith)
              ∙ rw (le-ltb n 251 large, le-ltb n (2 ^ 16) larger, lt-ltb n (2 ^ 24) small) (longer_again at (2 ^ 16) 3 (at + 1) n rest larger (omega arith))
          | inr largest ↦
              ap (λ (text : List ℕ). integer (spot at (text ++ rest))) (in_eight n largest) ∙ first_again at 0xfe (little_bytes 8 n ++ rest) (omega arith)
              ∙ rw (le-ltb n 251 large, le-ltb n (2 ^ 16) larger, le-ltb n (2 ^ 24) largest) (longer_again at (2 ^ 24) 8 (at + 1) n rest largest (omega arith))
        ]
      ]
    ]

pub no_number_takes : (u rest : Unread) → IsBytes u.left → no_number u ≡ Ok rest → Takes u (encoded_integer 0) rest
unfolding no_number
no_number_takes u rest fits e =
    then_step (integer u) (λ value. unless (not (value.0 == 0)) (refusal.BadByte u.at) value.1) rest e (λ x took is.
    let t = integer_takes u x fits took in
    let g = unless_ok (not (x.0 == 0)) (refusal.BadByte u.at) x.1 rest is in
    let same : x.0 ≡ 0 = eqb-true x.0 0 (not_false (x.0 == 0) g.0) in
    subst (λ (r : Unread). Takes u (encoded_integer 0) r) g.1 (subst (λ (n : ℕ). Takes u (encoded_integer n) x.1) same t.0))

pub no_number_again : (at : ℕ) (rest : List ℕ) → no_number (spot at (encoded_integer 0 ++ rest)) ≡ Ok (spot (at + 1 + 0) rest)
unfolding no_number
no_number_again at rest = ap (λ (r : Read ℕ). r >>= λ value. unless (not (value.0 == 0)) (refusal.BadByte at) value.1) (integer_again 0 at rest (omega arith))

pub string_takes : (u : Unread) (x : List ℕ × Unread) → IsBytes u.left → string u ≡ Ok x → Takes u (encoded_string x.0) x.1 × (length x.0 < 2 ^ 64)
unfolding string encoded_string
string_takes u x fits e =
    then_step (integer u) (λ size. take_bytes size.0 size.1) x e (λ n took is.
    let t = integer_takes u n fits took in
    let b = bytes_take n.0 n.1 x t.0.bytes is in (
      subst (λ (k : ℕ). Takes u (encoded_integer k ++ x.0) x.1) (sym b.1) (takes_then u n.1 x.1 (encoded_integer n.0) x.0 t.0 b.0),
      omega (arith, t.1, b.1),
    ))

pub string_again : (s : List ℕ) (at : ℕ) (rest : List ℕ) → length s < 2 ^ 64 → string (spot at (encoded_string s ++ rest)) ≡ Ok (s, spot (at + 1 + more (length s) + length s) rest)
unfolding string encoded_string
string_again s at rest lt =
    ap (λ (text : List ℕ). integer (spot at text) >>= λ size. take_bytes size.0 size.1) (append_assoc (encoded_integer (length s)) s rest)
    ∙ ap (λ (r : Read ℕ). r >>= λ size. take_bytes size.0 size.1) (integer_again (length s) at (s ++ rest) lt)
    ∙ bytes_reread (length s) (at + 1 + more (length s)) s rest refl

-- ---- one field behind another

-- what was written is read, whatever follows it
abbrev pub Rereads : {A : Type 0} → (Unread → Read A) → List ℕ → A → Type 0
Rereads read text x = (at : ℕ) (rest : List ℕ) → (end : ℕ) × (read (spot at (text ++ rest)) ≡ Ok (x, spot end rest))

abbrev pub Passes : (Unread → Result Unread WireRefusal) → List ℕ → Type 0
Passes read text = (at : ℕ) (rest : List ℕ) → (end : ℕ) × (read (spot at (text ++ rest)) ≡ Ok (spot end rest))

-- what a reader that goes on has to answer
abbrev pub Answers : {B : Type 0} → Read B → B → List ℕ → Type 0
Answers read y rest = (end : ℕ) × (read ≡ Ok (y, spot end rest))

pub then_reread : {A B : Type 0} (read : Unread → Read A) (f : A × Unread → Read B) (text : List ℕ) (x : A) (y : B) (at : ℕ) (more rest : List ℕ)
    → Rereads read text x → ((next : ℕ) → Answers (f (x, spot next more)) y rest) → Answers (read (spot at (text ++ more)) >>= f) y rest
then_reread {A} read f text x y at more rest h go =
    let one = h at more in
    let two = go one.0 in
    (two.0, ap (λ (r : Read A). r >>= f) one.1 ∙ two.1)

pub then_passes : {B : Type 0} (read : Unread → Result Unread WireRefusal) (f : Unread → Read B) (text : List ℕ) (y : B) (at : ℕ) (more rest : List ℕ)
    → Passes read text → ((next : ℕ) → Answers (f (spot next more)) y rest) → Answers (read (spot at (text ++ more)) >>= f) y rest
then_passes read f text y at more rest h go =
    let one = h at more in
    let two = go one.0 in
    (two.0, ap (λ (r : Result Unread WireRefusal). r >>= f) one.1 ∙ two.1)

pub number_rereads : (n x : ℕ) → x < 256 ^ n → Rereads (number n) (little_bytes n x) x
number_rereads n x lt at rest = (at + n, number_again n at x rest lt)

pub constant_passes : (b : ℕ) → b < 256 → Passes (constant b) (b ∷ [])
constant_passes b lt at rest = (at + 1, constant_again b at rest lt)

pub constants_pass : (bs : List ℕ) → IsBytes bs → Passes (constants bs) bs
constants_pass bs fits at rest = (at + length bs, constants_again bs at rest fits)

pub integer_rereads : (n : ℕ) → n < 2 ^ 64 → Rereads integer (encoded_integer n) n
integer_rereads n lt at rest = (at + 1 + more n, integer_again n at rest lt)

pub no_number_passes : Passes no_number (encoded_integer 0)
no_number_passes at rest = (at + 1 + 0, no_number_again at rest)

pub string_rereads : (s : List ℕ) → length s < 2 ^ 64 → Rereads string (encoded_string s) s
string_rereads s lt at rest = (at + 1 + more (length s) + length s, string_again s at rest lt)

pub bytes_reread_all : (n : ℕ) (s : List ℕ) → length s ≡ n → Rereads (take_bytes n) s s
bytes_reread_all n s e at rest = (at + n, bytes_reread n at s rest e)
