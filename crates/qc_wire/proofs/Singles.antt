-- Payloads that are read are those that were written, and what was written is read again: OK, ERR, EOF, a column count, the cells of a row.
use Rattle.std.proofs.Common.{◌≡◌, ℕ, zero, suc, ◌+◌, ◌^◌, ◌<◌, ◌≤◌, Bool, true, false, List, [], ◌∷◌, ◌++◌, length, Result, Ok, refl, sym, ap, subst, ◌∙◌, append_assoc, append-nil, arith}
use Rattle.std.specs.Prelude.{nat_lt, ◌==◌, ◌||◌}
use Rattle.std.specs.Int.{w16, to_le_bytes}
use Rattle.std.proofs.lemmas.Bool.{ltb-false, le-ltb, ne_eqb}
use Rattle.byteorder.specs.Endian.{little_bytes}
use Rattle.qc_types.specs.declared.sql_error.SqlError.{SqlError}
use Rattle.qc_sql.specs.declared.replies.Reply.{Reply}
use Rattle.qc_sql.specs.declared.replies.Reply.TheVariants as reply
use Rattle.qc_sql.specs.Packets.{encoded_integer, ok_payload, err_payload, eof_payload, count_payload}
use Rattle.qc_wire.specs.declared.refusal.WireRefusal.{WireRefusal}
use Rattle.qc_wire.specs.declared.refusal.WireRefusal.TheVariants as refusal
use Rattle.qc_wire.specs.Places.{Unread}
use Rattle.qc_wire.specs.Reading.{Read, ◌>>=◌, unless, take_bytes, number, constant, constants, integer, no_number}
use Rattle.qc_wire.specs.Replies.{ok_fields, err_fields, eof_fields, eof_again, column_count}
use Rattle.qc_wire.proofs.Results.{ok_is, then_step, unless_ok}
use Rattle.qc_wire.proofs.LowFirst.{IsBytes}
use Rattle.qc_wire.proofs.Fields.{zero_bytes, Takes, takes_then, spot, bytes_take, bytes_reread, bytes_reread_all, number_takes, constant_takes, constants_take, integer_takes, no_number_takes, Rereads, Passes, Answers, then_reread, then_passes, number_rereads, constant_passes, constants_pass, integer_rereads, no_number_passes}

-- ---- OK

ok_regrouped : (affected status : ℕ) → ok_payload affected status ≡ 0x00 ∷ (encoded_integer affected ++ (encoded_integer 0 ++ (little_bytes 2 status ++ 0 ∷ 0 ∷ [])))
ok_regrouped affected status = simp append_assoc

pub ok_takes : (u : Unread) (x : Reply × Unread) → IsBytes u.left → ok_fields u ≡ Ok x
    → (affected : ℕ) × (status : ℕ) × (x.0 ≡ reply.Ok affected status) × Takes u (ok_payload affected status) x.1 × (affected < 2 ^ 64) × (status < 2 ^ 16)
unfolding ok_fields
ok_takes u x fits e =
    then_step (constant 0x00 u) _ x e (λ u0 took0 e0.
    let t0 = constant_takes 0x00 u u0 fits took0 in
    then_step (integer u0) _ x e0 (λ a took1 e1.
    let t1 = integer_takes u0 a t0.bytes took1 in
    then_step (no_number a.1) _ x e1 (λ u2 took2 e2.
    let t2 = no_number_takes a.1 u2 t1.0.bytes took2 in
    then_step (number 2 u2) _ x e2 (λ b took3 e3.
    let t3 = number_takes 2 u2 b t2.bytes took3 in
    then_step (constants (0 ∷ 0 ∷ []) b.1) _ x e3 (λ u4 took4 e4.
    let t4 = constants_take (0 ∷ 0 ∷ []) b.1 u4 t3.0.bytes took4 in
    let parts = takes_then u u0 u4 (0x00 ∷ []) _ t0 (takes_then u0 a.1 u4 _ _ t1.0 (takes_then a.1 u2 u4 _ _ t2 (takes_then u2 b.1 u4 _ _ t3.0 t4))) in
    let whole = subst (λ (text : List ℕ). Takes u text u4) (sym (ok_regrouped a.0 b.0)) parts in
    let P : Reply × Unread → Type 0 = λ y. (affected : ℕ) × (status : ℕ) × (y.0 ≡ reply.Ok affected status) × Takes u (ok_payload affected status) y.1 × (affected < 2 ^ 64) × (status < 2 ^ 16) in
    subst P (ok_is (reply.Ok a.0 b.0, u4) x e4) (a.0, b.0, refl, whole, t1.1, omega (arith, t3.1)))))))

pub ok_rereads : (affected status : ℕ) → affected < 2 ^ 64 → status < 2 ^ 16 → Rereads ok_fields (ok_payload affected status) (reply.Ok affected status)
unfolding ok_fields
ok_rereads affected status p q at rest =
    subst (λ (text : List ℕ). Answers (ok_fields (spot at text)) (reply.Ok affected status) rest) (sym regrouped)
    (then_passes (constant 0x00) _ (0x00 ∷ []) (reply.Ok affected status) at _ rest (constant_passes 0x00 (omega arith)) (λ at0.
    then_reread integer _ (encoded_integer affected) affected (reply.Ok affected status) at0 _ rest (integer_rereads affected p) (λ at1.
    then_passes no_number _ (encoded_integer 0) (reply.Ok affected status) at1 _ rest no_number_passes (λ at2.
    then_reread (number 2) _ (little_bytes 2 status) status (reply.Ok affected status) at2 _ rest (number_rereads 2 status (omega (arith, q))) (λ at3.
    then_passes (constants (0 ∷ 0 ∷ [])) _ (0 ∷ 0 ∷ []) (reply.Ok affected status) at3 rest rest (constants_pass (0 ∷ 0 ∷ []) zero_bytes) (λ at4. (at4, refl)))))))
  where
    regrouped : ok_payload affected status ++ rest ≡ 0x00 ∷ (encoded_integer affected ++ (encoded_integer 0 ++ (little_bytes 2 status ++ (0 ∷ 0 ∷ rest))))
    regrouped = simp append_assoc

-- ---- ERR

pub err_takes : (u : Unread) (x : Reply × Unread) → IsBytes u.left → err_fields u ≡ Ok x
    → (error : SqlError) × (x.0 ≡ reply.Err error) × Takes u (err_payload error) x.1 × (error.code < 2 ^ 16) × (length error.state ≡ 5)
unfolding err_fields
err_takes u x fits e =
    then_step (constant 0xff u) _ x e (λ u0 took0 e0.
    let t0 = constant_takes 0xff u u0 fits took0 in
    then_step (number 2 u0) _ x e0 (λ a took1 e1.
    let t1 = number_takes 2 u0 a t0.bytes took1 in
    then_step (constant 35 a.1) _ x e1 (λ u2 took2 e2.
    let t2 = constant_takes 35 a.1 u2 t1.0.bytes took2 in
    then_step (take_bytes 5 u2) _ x e2 (λ b took3 e3.
    let t3 = bytes_take 5 u2 b t2.bytes took3 in
    then_step (take_bytes (length b.1.left) b.1) _ x e3 (λ c took4 e4.
    let t4 = bytes_take (length b.1.left) b.1 c t3.0.bytes took4 in
    let whole = takes_then u u0 c.1 (0xff ∷ []) _ t0 (takes_then u0 a.1 c.1 _ _ t1.0 (takes_then a.1 u2 c.1 (35 ∷ []) _ t2 (takes_then u2 b.1 c.1 _ _ t3.0 t4.0))) in
    let error : SqlError = record { code = a.0; state = b.0; message = c.0 } in
    let P : Reply × Unread → Type 0 = λ y. (error : SqlError) × (y.0 ≡ reply.Err error) × Takes u (err_payload error) y.1 × (error.code < 2 ^ 16) × (length error.state ≡ 5) in
    subst P (ok_is (reply.Err error, c.1) x e4) (error, refl, whole, omega (arith, t1.1), t3.1))))))

-- the message is all that is left
pub err_rereads : (error : SqlError) → error.code < 2 ^ 16 → length error.state ≡ 5 → (at : ℕ) → Answers (err_fields (spot at (err_payload error))) (reply.Err error) []
unfolding err_fields
err_rereads error p q at =
    then_passes (constant 0xff) _ (0xff ∷ []) (reply.Err error) at _ [] (constant_passes 0xff (omega arith)) (λ at0.
    then_reread (number 2) _ (little_bytes 2 error.code) error.code (reply.Err error) at0 _ [] (number_rereads 2 error.code (omega (arith, p))) (λ at1.
    then_passes (constant 35) _ (35 ∷ []) (reply.Err error) at1 _ [] (constant_passes 35 (omega arith)) (λ at2.
    then_reread (take_bytes 5) _ error.state error.state (reply.Err error) at2 error.message [] (bytes_reread_all 5 error.state q) (λ at3.
    let all : take_bytes (length error.message) (spot at3 error.message) ≡ Ok (error.message, spot (at3 + length error.message) []) =
    ap (λ (text : List ℕ). take_bytes (length error.message) (spot at3 text)) (sym (append-nil error.message)) ∙ bytes_reread (length error.message) at3 error.message [] refl in
    (at3 + length error.message, ap (λ (r : Read (List ℕ)). r >>= λ message. Ok (reply.Err (record { code = error.code; state = error.state; message = message.0 }), message.1)) all)))))

-- ---- EOF

header_bytes : IsBytes (0xfe ∷ 0 ∷ 0 ∷ [])
header_bytes zero = omega arith
header_bytes (suc zero) = omega arith
header_bytes (suc (suc zero)) = omega arith
header_bytes (suc (suc (suc i))) = omega arith

pub eof_takes : (u : Unread) (x : ℕ × Unread) → IsBytes u.left → eof_fields u ≡ Ok x → Takes u (eof_payload x.0) x.1 × (x.0 < 2 ^ 16)
unfolding eof_fields
eof_takes u x fits e =
    then_step (constants (0xfe ∷ 0 ∷ 0 ∷ []) u) _ x e (λ u0 took0 is.
    let t0 = constants_take (0xfe ∷ 0 ∷ 0 ∷ []) u u0 fits took0 in
    let t1 = number_takes 2 u0 x t0.bytes is in
    (takes_then u u0 x.1 (0xfe ∷ 0 ∷ 0 ∷ []) (little_bytes 2 x.0) t0 t1.0, omega (arith, t1.1)))

pub eof_rereads : (status : ℕ) → status < 2 ^ 16 → Rereads eof_fields (eof_payload status) status
unfolding eof_fields
eof_rereads status p at rest =
    then_passes (constants (0xfe ∷ 0 ∷ 0 ∷ [])) (number 2) (0xfe ∷ 0 ∷ 0 ∷ []) status at (little_bytes 2 status ++ rest) rest (constants_pass (0xfe ∷ 0 ∷ 0 ∷ []) header_bytes) (λ at0.
    number_rereads 2 status (omega (arith, p)) at0 rest)

pub eof_again_takes : (status : ℕ) (u rest : Unread) → IsBytes u.left → eof_again status u ≡ Ok rest → Takes u (eof_payload status) rest
unfolding eof_again
eof_again_takes status u rest fits e =
    then_step (constants (0xfe ∷ 0 ∷ 0 ∷ []) u) _ rest e (λ u0 took0 is.
    let t0 = constants_take (0xfe ∷ 0 ∷ 0 ∷ []) u u0 fits took0 in
    takes_then u u0 rest (0xfe ∷ 0 ∷ 0 ∷ []) (to_le_bytes w16 status) t0 (constants_take (to_le_bytes w16 status) u0 rest t0.bytes is))

status_bytes : (status : ℕ) → IsBytes (to_le_bytes w16 status)
status_bytes status zero = omega arith
status_bytes status (suc zero) = omega arith
status_bytes status (suc (suc i)) = omega arith

pub eof_again_passes : (status : ℕ) → Passes (eof_again status) (eof_payload status)
unfolding eof_again
eof_again_passes status at rest =
    let one = constants_pass (0xfe ∷ 0 ∷ 0 ∷ []) header_bytes at (to_le_bytes w16 status ++ rest) in
    let two = constants_pass (to_le_bytes w16 status) (status_bytes status) one.0 rest in
    (two.0, ap (λ (r : Result Unread WireRefusal). r >>= constants (to_le_bytes w16 status)) one.1 ∙ two.1)

-- ---- a column count

either_false : (a b : Bool) → (a || b) ≡ false → (a ≡ false) × (b ≡ false)
either_false true b h = absurd cc
either_false false b h = (refl, h)

pub count_takes : (u : Unread) (x : ℕ × Unread) → IsBytes u.left → column_count u ≡ Ok x → Takes u (count_payload x.0) x.1 × (1 ≤ x.0) × (x.0 ≤ 64)
unfolding column_count
count_takes u x fits e =
    then_step (integer u) _ x e (λ n took is.
    let t = integer_takes u n fits took in
    let g = unless_ok (n.0 == 0 || nat_lt 64 n.0) (refusal.BadByte u.at) n x is in
    let tests = either_false (n.0 == 0) (nat_lt 64 n.0) g.0 in
    let P : ℕ × Unread → Type 0 = λ y. Takes u (count_payload y.0) y.1 × (1 ≤ y.0) × (y.0 ≤ 64) in
    subst P g.1 (t.0, some n.0 tests.0, ltb-false 64 n.0 tests.1))
  where
    some : (n : ℕ) → (n == 0) ≡ false → 1 ≤ n
    some zero h = absurd cc
    some (suc n) h = omega arith

pub count_rereads : (n : ℕ) → 1 ≤ n → n ≤ 64 → Rereads column_count (count_payload n) n
unfolding column_count
count_rereads n p q at rest =
    let one = integer_rereads n (omega (arith, q)) at rest in
    let some : (n == 0) ≡ false = ne_eqb n 0 (λ e. omega (arith, e, p)) in
    (one.0, ap (λ (r : Read ℕ). r >>= λ count. unless (count.0 == 0 || nat_lt 64 count.0) (refusal.BadByte at) count) one.1 ∙ rw (some, le-ltb 64 n q) refl)
