-- A reply's text with more behind it is refused at the first byte behind it.
use Rattle.std.proofs.Common.{◌≡◌, ℕ, zero, suc, ◌+◌, ◌≤◌, false, List, [], ◌∷◌, ◌++◌, length, drop, Option, Some, None, Ok, Err, sym, ap, ◌∙◌, arith, length-append, length-drop, length-take}
use Rattle.std.specs.Prelude.{nat_lt, not, ◌==◌, slice_index}
use Rattle.std.proofs.lemmas.Bool.{ltb-false, ne_eqb}
use Rattle.qc_sql.specs.declared.replies.Reply.{Reply}
use Rattle.qc_sql.specs.declared.replies.Reply.TheVariants as reply
use Rattle.qc_sql.specs.Packets.{most_payload, packets}
use Rattle.qc_sql.specs.Commands.{length_at, payload_at}
use Rattle.qc_wire.specs.declared.refusal.WireRefusal.TheVariants as refusal
use Rattle.qc_wire.specs.declared.reading.reply.Opening.{Opening}
use Rattle.qc_wire.specs.declared.reading.reply.Opening.TheVariants as opens
use Rattle.qc_wire.specs.Laws.{IsReply, RefusesMore}
use Rattle.qc_wire.specs.Places.{Unread, moved, end_of}
use Rattle.qc_wire.specs.Reading.{Read, ◌>>=◌, unless, times}
use Rattle.qc_wire.specs.Replies.{Payload, Stream, Parsed, Row, next_payload, complete, eof_fields, eof_packet, column_fields, column_packet, columns, row_or_end, next_row, row_before, rows, opened_by, opened, result_set, reply_in_front, from_start, reply_of}
use Rattle.qc_wire.proofs.Results.{ok_is, then_step, guard_ok}
use Rattle.qc_wire.proofs.Payloads.{stream, whole_payload}
use Rattle.qc_wire.proofs.ReplyLaws.{reply_again}

-- what is read ends where the stream did
abbrev Keeps : {A : Type 0} → (Stream → Parsed A) → Type 0
Keeps {A} read = (s : Stream) (x : A × Stream) → read s ≡ Ok x → end_of x.1.bytes ≡ end_of s.bytes

payload_keeps : Keeps next_payload
unfolding next_payload
payload_keeps s p h =
    let u = s.bytes in
    let k : ℕ = 4 + length (payload_at u.left) in
    let a = guard_ok (nat_lt most_payload (length_at u.left)) _ _ p h in
    let b = guard_ok (nat_lt (length u.left) 4) _ _ p a.1 in
    let c = guard_ok (not (slice_index u.left 3 == s.sequence)) _ _ p b.1 in
    let is : end_of (moved k u) ≡ end_of p.1.bytes = ap (λ (x : Payload × Stream). end_of x.1.bytes) (ok_is _ p c.1) in
    let long : 4 ≤ length u.left = ltb-false (length u.left) 4 b.0 in
    omega (arith, is, long, length-drop k u.left, length-take (length_at u.left) (drop 4 u.left), length-drop 4 u.left)

whole_keeps : {A : Type 0} (read : Unread → Read A) → Keeps (whole_payload read)
whole_keeps {A} read s x e =
    then_step (next_payload s) _ x e (λ p took e1.
    then_step (read p.0.bytes) _ x e1 (λ v done e2.
    then_step (complete p.0 v.1) _ x e2 (λ whole complete_so e3.
    sym (ap (λ (y : A × Stream). end_of y.1.bytes) (ok_is (v.0, p.1) x e3)) ∙ payload_keeps s p took)))

column_keeps : Keeps column_packet
unfolding column_packet
column_keeps s x e = whole_keeps column_fields s x e

eof_keeps : Keeps eof_packet
unfolding eof_packet
eof_keeps s x e = whole_keeps eof_fields s x e

columns_keep : (n : ℕ) → Keeps (times column_packet n)
unfolding times
columns_keep zero s x e = sym (ap (λ y. end_of y.1.bytes) (ok_is _ x e))
columns_keep (suc n) s x e =
    then_step (column_packet s) _ x e (λ a took e1.
    then_step (times column_packet n a.1) _ x e1 (λ b took1 e2.
    sym (ap (λ y. end_of y.1.bytes) (ok_is _ x e2)) ∙ columns_keep n a.1 b took1 ∙ column_keeps s a took))

row_keeps : (columns status : ℕ) → Keeps (next_row columns status)
unfolding next_row
row_keeps columns status s x e =
    then_step (next_payload s) _ x e (λ p took e1.
    then_step (row_or_end columns status p.0) _ x e1 (λ row read e2.
    sym (ap (λ (y : Option Row × Stream). end_of y.1.bytes) (ok_is (row, p.1) x e2)) ∙ payload_keeps s p took))

rows_behind_keep : (row : Option Row) (next : Stream) (later : Parsed (List Row)) (x : List Row × Stream)
    → ((y : List Row × Stream) → later ≡ Ok y → end_of y.1.bytes ≡ end_of next.bytes) → row_before (row, next) later ≡ Ok x → end_of x.1.bytes ≡ end_of next.bytes
rows_behind_keep None next later x go h = sym (ap (λ (y : List Row × Stream). end_of y.1.bytes) (ok_is ([], next) x h))
rows_behind_keep (Some row) next later x go h =
    then_step later _ x h (λ others read h1.
    sym (ap (λ (y : List Row × Stream). end_of y.1.bytes) (ok_is (row ∷ others.0, others.1) x h1)) ∙ go others read)

rows_keep : (n columns status : ℕ) → Keeps (rows n columns status)
unfolding rows
rows_keep zero columns status s x e = absurd cc
rows_keep (suc n) columns status s x e =
    then_step (next_row columns status s) _ x e (λ y took e1.
    rows_behind_keep y.0 y.1 (rows n columns status y.1) x (λ z read. rows_keep n columns status y.1 z read) e1 ∙ row_keeps columns status s y took)

set_keeps : (n : ℕ) → Keeps (result_set n)
unfolding result_set
set_keeps n s x e =
    then_step (columns n s) _ x e (λ cs read0 e0.
    then_step (eof_packet cs.1) _ x e0 (λ status read1 e1.
    then_step (rows (length status.1.bytes.left) n status.0 status.1) _ x e1 (λ rs read2 e2.
    sym (ap (λ (y : Reply × Stream). end_of y.1.bytes) (ok_is (reply.Rows cs.0 rs.0 status.0, rs.1) x e2))
    ∙ rows_keep (length status.1.bytes.left) n status.0 status.1 rs read2 ∙ eof_keeps cs.1 status read1 ∙ columns_keep n s cs read0)))

opened_keeps : (o : Opening) → Keeps (opened o)
opened_keeps (opens.Whole r) s x e = sym (ap (λ (y : Reply × Stream). end_of y.1.bytes) (ok_is (r, s) x e))
opened_keeps (opens.Columns n) s x e = set_keeps n s x e

reply_keeps : Keeps reply_in_front
unfolding reply_in_front
reply_keeps s x e =
    then_step (next_payload s) _ x e (λ p took e1.
    then_step (opened_by p.0) _ x e1 (λ o opens_so e2. opened_keeps o p.1 x e2 ∙ payload_keeps s p took))

pub more_is_refused : (r : Reply) → IsReply r → RefusesMore r
unfolding reply_of
more_is_refused r h b more =
    let tail : List ℕ = b ∷ more in
    let one = reply_again r tail h in
    let ends = reply_keeps (from_start (packets r ++ tail)) (r, stream one.0 one.1 tail) one.2 in
    let some : (suc (length more) == 0) ≡ false = ne_eqb (suc (length more)) 0 (λ e. omega (arith, e)) in
    let here : one.1 ≡ length (packets r) = omega (arith, ends, length-append (packets r) tail) in
    ap (λ (q : Parsed Reply). q >>= λ x. unless (not (length x.1.bytes.left == 0)) (refusal.Trailing x.1.bytes.at) x.0) one.2
    ∙ rw (some) (ap (λ (at : ℕ). Err (refusal.Trailing at)) here)
