-- Reading rows one after another, up to the EOF behind them.
use Rattle.std.proofs.Common.{◌≡◌, ℕ, zero, suc, ◌+◌, ◌≤◌, ◌<◌, List, [], ◌∷◌, ◌++◌, length, Option, Some, None, Ok, Err, refl, sym, ap, ◌∙◌, append-nil, arith, length-drop}
use Rattle.std.specs.Prelude.{nat_lt, not, ◌==◌, slice_index}
use Rattle.std.proofs.lemmas.Bool.{ltb-false}
use Rattle.qc_types.specs.declared.memory.Or.{Or}
use Rattle.qc_types.specs.declared.memory.Or.TheVariants as or
use Rattle.qc_sql.specs.Packets.{most_payload}
use Rattle.qc_sql.specs.Commands.{length_at, payload_at}
use Rattle.qc_wire.specs.declared.refusal.WireRefusal.{WireRefusal}
use Rattle.qc_wire.specs.declared.refusal.WireRefusal.TheVariants as refusal
use Rattle.qc_wire.specs.Places.{end_of, moved}
use Rattle.qc_wire.specs.Reading.{◌>>=◌}
use Rattle.qc_wire.specs.Replies.{Payload, Stream, Parsed, Row, next_payload, row_or_end, next_row, row_before, rows}
use Rattle.qc_wire.proofs.Results.{ok_is, then_step, bind_same, guard_ok}
use Rattle.qc_wire.proofs.Loops.{Fails, with_prefix, regroup}

-- the packets behind a payload are shorter
pub payload_shortens : (s : Stream) (p : Payload × Stream) → next_payload s ≡ Ok p → length p.1.bytes.left < length s.bytes.left
unfolding next_payload
payload_shortens s p h =
    let u = s.bytes in
    let a = guard_ok (nat_lt most_payload (length_at u.left)) _ _ p h in
    let b = guard_ok (nat_lt (length u.left) 4) _ _ p a.1 in
    let c = guard_ok (not (slice_index u.left 3 == s.sequence)) _ _ p b.1 in
    let is : length (moved (4 + length (payload_at u.left)) u).left ≡ length p.1.bytes.left = ap (λ (x : Payload × Stream). length x.1.bytes.left) (ok_is _ p c.1) in
    let long : 4 ≤ length u.left = ltb-false (length u.left) 4 b.0 in
    omega (arith, is, long, length-drop (4 + length (payload_at u.left)) u.left)

-- so are those behind a row
pub row_shortens : (columns status : ℕ) (s : Stream) (x : Option Row × Stream) → next_row columns status s ≡ Ok x → length x.1.bytes.left < length s.bytes.left
unfolding next_row
row_shortens columns status s x h =
    then_step (next_payload s) _ x h (λ p took h1.
    then_step (row_or_end columns status p.0) _ x h1 (λ row read h2.
    let is : length p.1.bytes.left ≡ length x.1.bytes.left = ap (λ (y : Option Row × Stream). length y.1.bytes.left) (ok_is (row, p.1) x h2) in
    omega (arith, is, payload_shortens s p took)))

abbrev NextRow : Type 0
NextRow = Parsed (Option Row)

-- a row, and those behind it, where these are read so
abbrev then_rows : (Stream → Parsed (List Row)) → Option Row × Stream → Parsed (List Row)
then_rows later x = row_before x (later x.1)

-- no row is in front of no bytes
no_row : (columns status : ℕ) (s : Stream) → length s.bytes.left ≤ 0 → next_row columns status s ≡ Err (refusal.Truncated (end_of s.bytes))
unfolding next_row next_payload
no_row columns status s h = by s.sequence s.bytes.at s.bytes.left h
  where
    by : (n at : ℕ) (left : List ℕ) → length left ≤ 0 → next_row columns status (record { sequence = n; bytes = record { at = at; left = left } }) ≡ Err (refusal.Truncated (at + length left))
    by n at [] h = refl
    by n at (b ∷ bs) h = absurd (omega arith)

-- so many packets are enough
pub enough : (n k columns status : ℕ) (s : Stream) → length s.bytes.left ≤ n → length s.bytes.left ≤ k → rows n columns status s ≡ rows k columns status s
unfolding rows
enough zero zero columns status s h g = refl
enough zero (suc k) columns status s h g = sym (ap (λ (r : NextRow). r >>= then_rows (rows k columns status)) (no_row columns status s h))
enough (suc n) zero columns status s h g = ap (λ (r : NextRow). r >>= then_rows (rows n columns status)) (no_row columns status s g)
enough (suc n) (suc k) columns status s h g =
    bind_same (next_row columns status s) (then_rows (rows n columns status)) (then_rows (rows k columns status))
    (λ x is. ap (row_before x) (enough n k columns status x.1 (omega (arith, row_shortens columns status s x is)) (omega (arith, row_shortens columns status s x is))))

-- the rows of a stream
abbrev pub rows_of : ℕ → ℕ → Stream → Parsed (List Row)
rows_of columns status s = rows (length s.bytes.left) columns status s

-- the first packet, and the rows behind it
pub rows_first : (columns status : ℕ) (s : Stream) → rows_of columns status s ≡ (next_row columns status s >>= λ x. row_before x (rows_of columns status x.1))
unfolding rows
rows_first columns status s =
    enough (length s.bytes.left) (suc (length s.bytes.left)) columns status s (omega arith) (omega arith)
    ∙ bind_same (next_row columns status s) (then_rows (rows (length s.bytes.left) columns status)) (then_rows (rows_of columns status))
    (λ x is. ap (row_before x) (enough (length s.bytes.left) (length x.1.bytes.left) columns status x.1 (omega (arith, row_shortens columns status s x is)) (omega arith)))

-- ---- the loop

pub row_taken : (columns status : ℕ) (prefix : List Row) (s : Stream) (row : Row) (behind : Stream) (total : Parsed (List Row))
    → next_row columns status s ≡ Ok (Some row, behind) → with_prefix prefix (rows_of columns status s) ≡ total → with_prefix (prefix ++ row ∷ []) (rows_of columns status behind) ≡ total
row_taken columns status prefix s row behind total h so_far =
    let one : rows_of columns status s ≡ (rows_of columns status behind >>= λ others. Ok (row ∷ others.0, others.1)) = rows_first columns status s ∙ ap (λ (r : NextRow). r >>= λ x. row_before x (rows_of columns status x.1)) h in
    sym (regroup prefix row (rows_of columns status behind)) ∙ ap (with_prefix prefix) (sym one) ∙ so_far

pub rows_end : (columns status : ℕ) (prefix : List Row) (s behind : Stream) (total : Parsed (List Row))
    → next_row columns status s ≡ Ok (None, behind) → with_prefix prefix (rows_of columns status s) ≡ total → total ≡ Ok (prefix, behind)
rows_end columns status prefix s behind total h so_far =
    let one : rows_of columns status s ≡ Ok ([], behind) = rows_first columns status s ∙ ap (λ (r : NextRow). r >>= λ x. row_before x (rows_of columns status x.1)) h in
    sym so_far ∙ ap (with_prefix prefix) one ∙ ap (λ (rs : List Row). Ok (rs, behind)) (append-nil prefix)

pub rows_fail : (columns status : ℕ) (e : Or WireRefusal) (prefix : List Row) (s : Stream) (total : Parsed (List Row))
    → Fails e (next_row columns status s) → with_prefix prefix (rows_of columns status s) ≡ total → Fails e total
rows_fail columns status or.Memory prefix s total h so_far = tt
rows_fail columns status (or.Other f) prefix s total h so_far =
    let one : rows_of columns status s ≡ Err f = rows_first columns status s ∙ ap (λ (r : NextRow). r >>= λ x. row_before x (rows_of columns status x.1)) h in
    sym so_far ∙ ap (with_prefix prefix) one
