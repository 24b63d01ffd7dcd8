-- A prefix of a reply's text that is not the whole is cut at its end.
use Rattle.std.proofs.Common.{◌≡◌, ℕ, zero, suc, ◌+◌, ◌-◌, ◌*◌, ◌%◌, ◌<◌, ◌≤◌, List, [], ◌∷◌, ◌++◌, length, take, drop, Option, Some, None, Result, Ok, Err, refl, sym, ap, ◌∙◌, arith, inl, inr, length-drop, length-take, length-append}
use Rattle.std.specs.Prelude.{nat_lt, not, ◌==◌, slice_index}
use Rattle.std.proofs.lemmas.Bool.{cases_lt, le-ltb, lt-ltb, ltb-false, eqb-true, eq-eqb}
use Rattle.std.proofs.lemmas.List.{take-append-le, drop-append-le, take_all}
use Rattle.std.proofs.Math.Seq.{take-append-add}
use Rattle.qc_sql.specs.declared.replies.Reply.{Reply}
use Rattle.qc_sql.specs.declared.replies.Reply.TheVariants as reply
use Rattle.qc_sql.specs.Packets.{most_payload}
use Rattle.qc_sql.specs.Commands.{length_at}
use Rattle.qc_wire.specs.declared.refusal.WireRefusal.{WireRefusal}
use Rattle.qc_wire.specs.declared.refusal.WireRefusal.TheVariants as refusal
use Rattle.qc_wire.specs.declared.reading.reply.Opening.{Opening}
use Rattle.qc_wire.specs.declared.reading.reply.Opening.TheVariants as opens
use Rattle.qc_wire.specs.Laws.{IsReply, RefusesCut}
use Rattle.qc_wire.specs.Places.{Unread, end_of}
use Rattle.qc_wire.specs.Reading.{Read, ◌>>=◌, unless}
use Rattle.qc_wire.specs.Replies.{Payload, Stream, Parsed, Row, next_payload, complete, eof_fields, eof_packet, column_fields, column_packet, columns, row_or_end, next_row, row_before, rows, opened_by, opened, result_set, reply_in_front, from_start, reply_of}
use Rattle.qc_wire.proofs.Results.{ok_is, then_step, bind_same, guard_ok, not_false, unless_ok}
use Rattle.qc_wire.proofs.Fields.{spot}
use Rattle.qc_wire.proofs.Payloads.{stream, behind_header, whole_payload}
use Rattle.qc_wire.proofs.RowLoop.{enough, rows_of}
use Rattle.qc_wire.proofs.ReplyLaws.{text_is_reread}
use Rattle.qc_wire.proofs.Prefixes.{Ground, with_value, Reaches, Local, LocalRead, local_then, times_local}
use Rattle.qc_wire.proofs.PayloadPrefixes.{column_local, eof_local, Cuts, to_its_end, rest_of, read_cuts, row_cuts, opened_cuts}

-- ---- packets

abbrev stream_ground : Ground Stream
stream_ground = record { grow = λ more s. stream s.sequence s.bytes.at (s.bytes.left ++ more); place = λ s. end_of s.bytes }

abbrev parsed_ground : {A : Type 0} → Ground (A × Stream)
parsed_ground = with_value stream_ground

abbrev LocalParse : {A : Type 0} → (Stream → Parsed A) → Type 0
LocalParse {A} read = Local stream_ground (parsed_ground {A = A}) read

length_of_prefix : (prefix more : List ℕ) → length_at prefix ≤ length_at (prefix ++ more)
length_of_prefix [] more = omega arith
length_of_prefix (a ∷ []) more = omega arith
length_of_prefix (a ∷ b ∷ []) more = omega arith
length_of_prefix (a ∷ b ∷ c ∷ prefix) more = omega arith

cut_header : (n at : ℕ) (prefix more : List ℕ) → length prefix < 4 → length_at (prefix ++ more) ≤ most_payload
    → next_payload (stream n at prefix) ≡ Err (refusal.Truncated (at + length prefix))
unfolding next_payload
cut_header n at prefix more lt le =
    rw (le-ltb most_payload (length_at prefix) (omega (arith, le, length_of_prefix prefix more)), lt-ltb (length prefix) 4 lt) refl

header_ok : (s : Stream) (p : Payload × Stream) → next_payload s ≡ Ok p
    → (length_at s.bytes.left ≤ most_payload) × (slice_index s.bytes.left 3 ≡ s.sequence)
unfolding next_payload
header_ok s p h =
    let left : List ℕ = s.bytes.left in
    let a = guard_ok (nat_lt most_payload (length_at left)) _ _ p h in
    let b = guard_ok (nat_lt (length left) 4) _ _ p a.1 in
    let c = guard_ok (not (slice_index left 3 == s.sequence)) _ _ p b.1 in
    (ltb-false most_payload (length_at left) a.0, eqb-true (slice_index left 3) s.sequence (not_false (slice_index left 3 == s.sequence) c.0))

abbrev size_of : ℕ → ℕ → ℕ → ℕ
size_of a b c = a + 256 * b + 65536 * c

whole_header : (n at a b c d : ℕ) (rest : List ℕ) → size_of a b c ≤ most_payload → d ≡ n
    → next_payload (stream n at (a ∷ b ∷ c ∷ d ∷ rest)) ≡ Ok (
      record { bytes = spot (at + 4) (take (size_of a b c) rest); size = size_of a b c },
      stream ((n + 1) % 256) (at + (4 + length (take (size_of a b c) rest))) (drop (length (take (size_of a b c) rest)) rest),
    )
unfolding next_payload
whole_header n at a b c d rest le same =
    let k : ℕ = size_of a b c in
    let long : 4 ≤ suc (suc (suc (suc (length rest)))) = omega arith in
    rw (le-ltb most_payload k le, le-ltb (suc (suc (suc (suc (length rest))))) 4 long, eq-eqb d n same, behind_header (length (take k rest)) a b c d rest) refl

-- one packet, whose payload is handled so
abbrev one_packet : {B : Type 0} → (Payload → Result B WireRefusal) → Stream → Parsed B
one_packet handle s = next_payload s >>= λ p. handle p.0 >>= λ v. Ok (v, p.1)

abbrev PrefixOf : {B : Type 0} → (Stream → Parsed B) → Stream → List ℕ → B × Stream → Type 0
PrefixOf {B} read s more y = Reaches (λ end t. (y ≡ parsed_ground.grow more t) × (parsed_ground.place t ≡ end)) (end_of s.bytes) (read s)

short_prefix : {B : Type 0} (handle : Payload → Result B WireRefusal) (n at : ℕ) (left more : List ℕ) (y : B × Stream) → length left < 4
    → one_packet handle (stream n at (left ++ more)) ≡ Ok y → one_packet handle (stream n at left) ≡ Err (refusal.Truncated (at + length left))
short_prefix {B} handle n at left more y lt e =
    then_step (next_payload (stream n at (left ++ more))) _ y e (λ p took e1.
    ap (λ (r : Parsed Payload). r >>= λ q. handle q.0 >>= λ v. Ok (v, q.1)) (cut_header n at left more lt (header_ok (stream n at (left ++ more)) p took).0))

long_prefix : {B : Type 0} (handle : Payload → Result B WireRefusal) → Cuts handle → (n at a b c d : ℕ) (rest more : List ℕ) (y : B × Stream)
    → one_packet handle (stream n at (a ∷ b ∷ c ∷ d ∷ (rest ++ more))) ≡ Ok y → PrefixOf (one_packet handle) (stream n at (a ∷ b ∷ c ∷ d ∷ rest)) more y
long_prefix {B} handle cuts n at a b c d rest more y e =
    let k : ℕ = size_of a b c in
    let all : Stream = stream n at (a ∷ b ∷ c ∷ d ∷ (rest ++ more)) in
    let next : ℕ = (n + 1) % 256 in
    let given : List ℕ → Payload = λ bytes. record { bytes = spot (at + 4) bytes; size = k } in
    then_step (next_payload all) _ y e (λ p took e1.
    then_step (handle p.0) _ y e1 (λ v handled e2.
    let h = header_ok all p took in
    let whole : (given (take k (rest ++ more)), stream next (at + (4 + length (take k (rest ++ more)))) (drop (length (take k (rest ++ more))) (rest ++ more))) ≡ p =
    ok_is _ p (sym (whole_header n at a b c d (rest ++ more) h.0 h.1) ∙ took) in
    let there : List ℕ = take k rest in
    let behind : Stream = stream next (at + (4 + length there)) (drop (length there) rest) in
    let here : next_payload (stream n at (a ∷ b ∷ c ∷ d ∷ rest)) ≡ Ok (given there, behind) = whole_header n at a b c d rest h.0 h.1 in
    let first : one_packet handle (stream n at (a ∷ b ∷ c ∷ d ∷ rest)) ≡ (handle (given there) >>= λ w. Ok (w, behind)) = ap (λ (r : Parsed Payload). r >>= λ q. handle q.0 >>= λ w. Ok (w, q.1)) here in
    let read : handle (given (take k (rest ++ more))) ≡ Ok v = ap (λ (q : Payload × Stream). handle q.0) whole ∙ handled in
    elim (cases_lt (length rest) k) [
      | inl short ↦
          let split : take k (rest ++ more) ≡ rest ++ take (k - length rest) more = ap (λ (m : ℕ). take m (rest ++ more)) (omega (arith, short)) ∙ take-append-add rest more (k - length rest) in
          let cut = cuts (spot (at + 4) rest) (take (k - length rest) more) k v (ap (λ (bytes : List ℕ). handle (given bytes)) (sym split) ∙ read) short in
          let none : handle (given there) ≡ Err (refusal.Truncated (at + 4 + length rest)) = ap (λ (bytes : List ℕ). handle (given bytes)) (take_all k rest (omega (arith, short))) ∙ cut in
          inl (first ∙ ap (λ (r : Result B WireRefusal). r >>= λ w. Ok (w, behind)) none ∙ ap (λ (m : ℕ). Err (refusal.Truncated m)) (omega arith))
      | inr enough ↦
          let same : take k (rest ++ more) ≡ there = take-append-le k rest more enough in
          let count : length there ≤ length rest = omega (arith, length-take k rest) in
          let one : handle (given there) ≡ Ok v = ap (λ (bytes : List ℕ). handle (given bytes)) (sym same) ∙ read in
          let left : p.1 ≡ stream next (at + (4 + length there)) (drop (length there) rest ++ more) =
          ap (λ (q : Payload × Stream). q.1) (sym whole)
          ∙ ap (λ (bytes : List ℕ). stream next (at + (4 + length bytes)) (drop (length bytes) (rest ++ more))) same
          ∙ ap (λ (bytes : List ℕ). stream next (at + (4 + length there)) bytes) (drop-append-le (length there) rest more count) in
          inr (
            (v, behind),
            first ∙ ap (λ (r : Result B WireRefusal). r >>= λ w. Ok (w, behind)) one,
            (sym (ok_is (v, p.1) y e2) ∙ ap (λ (s : Stream). (v, s)) left, omega (arith, count, length-drop (length there) rest)),
          )
    ]))

packet_prefix : {B : Type 0} (handle : Payload → Result B WireRefusal) → Cuts handle → (n at : ℕ) (left more : List ℕ) (y : B × Stream)
    → one_packet handle (stream n at (left ++ more)) ≡ Ok y → PrefixOf (one_packet handle) (stream n at left) more y
packet_prefix handle cuts n at [] more y e = inl (short_prefix handle n at [] more y (omega arith) e)
packet_prefix handle cuts n at (a ∷ []) more y e = inl (short_prefix handle n at (a ∷ []) more y (omega arith) e)
packet_prefix handle cuts n at (a ∷ b ∷ []) more y e = inl (short_prefix handle n at (a ∷ b ∷ []) more y (omega arith) e)
packet_prefix handle cuts n at (a ∷ b ∷ c ∷ []) more y e = inl (short_prefix handle n at (a ∷ b ∷ c ∷ []) more y (omega arith) e)
packet_prefix handle cuts n at (a ∷ b ∷ c ∷ d ∷ rest) more y e = long_prefix handle cuts n at a b c d rest more y e

packet_local : {B : Type 0} (handle : Payload → Result B WireRefusal) → Cuts handle → LocalParse (one_packet handle)
packet_local handle cuts s more y e = packet_prefix handle cuts s.sequence s.bytes.at s.bytes.left more y e

-- the same reader in other words
local_same : {B : Type 0} (f g : Stream → Parsed B) → ((s : Stream) → f s ≡ g s) → LocalParse f → LocalParse g
local_same {B} f g same h s more y e =
    elim (h s more y (same (stream_ground.grow more s) ∙ e)) [
      | inl cut ↦ inl (sym (same s) ∙ cut)
      | inr (t, is, rest) ↦ inr (t, sym (same s) ∙ is, rest)
    ]

whole_is : {A : Type 0} (read : Unread → Read A) (s : Stream) → one_packet (to_its_end rest_of (λ x. x.0) read) s ≡ whole_payload read s
whole_is {A} read s = bind_same (next_payload s) _ _ (λ p is. by p (read p.0.bytes))
  where
    inner : (p : Payload × Stream) (v : A) (r : Result (Unit {0}) WireRefusal) → ◌≡◌ {A = Parsed A} ((r >>= λ whole. Ok v) >>= λ w. Ok (w, p.1)) (r >>= λ whole. Ok (v, p.1))
    inner p v (Ok x) = refl
    inner p v (Err e) = refl

    by : (p : Payload × Stream) (r : Read A) → ◌≡◌ {A = Parsed A} ((r >>= λ w. complete p.0 w.1 >>= λ whole. Ok w.0) >>= λ w. Ok (w, p.1)) (r >>= λ v. complete p.0 v.1 >>= λ whole. Ok (v.0, p.1))
    by p (Ok x) = inner p x.0 (complete p.0 x.1)
    by p (Err e) = refl

payload_local : {A : Type 0} (read : Unread → Read A) → LocalRead read → LocalParse (whole_payload read)
payload_local read h =
    local_same (one_packet (to_its_end rest_of (λ x. x.0) read)) (whole_payload read) (whole_is read)
    (packet_local (to_its_end rest_of (λ x. x.0) read) (read_cuts read (λ x. x.0) h))

-- ---- replies

column_packet_local : LocalParse column_packet
unfolding column_packet
column_packet_local s more y e = payload_local column_fields column_local s more y e

eof_packet_local : LocalParse eof_packet
unfolding eof_packet
eof_packet_local s more y e = payload_local eof_fields eof_local s more y e

row_local : (columns status : ℕ) → LocalParse (next_row columns status)
unfolding next_row
row_local columns status s more y e = packet_local (row_or_end columns status) (row_cuts columns status) s more y e

row_before_local : (later : Stream → Parsed (List Row)) → LocalParse later
    → Local parsed_ground parsed_ground (λ (row : Option Row × Stream). row_before row (later row.1))
row_before_local later h (None, s) more y e = inr (([], s), refl, (sym (ok_is _ y e), refl))
row_before_local later h (Some row, s) more y e =
    local_then stream_ground parsed_ground parsed_ground later (λ others. Ok (row ∷ others.0, others.1)) h
    (λ v grown z is. inr ((row ∷ v.0, v.1), refl, (sym (ok_is _ z is), refl))) s more y e

rows_local : (k columns status : ℕ) → LocalParse (rows k columns status)
unfolding rows
rows_local zero columns status s more y e = absurd cc
rows_local (suc k) columns status s more y e =
    local_then stream_ground parsed_ground parsed_ground (next_row columns status) (λ row. row_before row (rows k columns status row.1)) (row_local columns status)
    (row_before_local (rows k columns status) (rows_local k columns status)) s more y e

rows_of_local : (columns status : ℕ) → LocalParse (rows_of columns status)
rows_of_local columns status s more y e =
    let k : ℕ = length (s.bytes.left ++ more) in
    let same : rows k columns status s ≡ rows_of columns status s = enough k (length s.bytes.left) columns status s (omega (arith, length-append s.bytes.left more)) (omega arith) in
    elim (rows_local k columns status s more y e) [
      | inl cut ↦ inl (sym same ∙ cut)
      | inr (t, is, rest) ↦ inr (t, sym same ∙ is, rest)
    ]

set_local : (n : ℕ) → LocalParse (result_set n)
unfolding result_set
set_local n s more y e =
    local_then stream_ground parsed_ground parsed_ground (columns n) (λ cs. eof_packet cs.1 >>= λ status. rows_of n status.0 status.1 >>= λ rs. Ok (reply.Rows cs.0 rs.0 status.0, rs.1))
    (times_local stream_ground column_packet column_packet_local n) (λ cs.
    local_then stream_ground parsed_ground parsed_ground eof_packet (λ status. rows_of n status.0 status.1 >>= λ rs. Ok (reply.Rows cs.0 rs.0 status.0, rs.1)) eof_packet_local (λ status.
    local_then stream_ground parsed_ground parsed_ground (rows_of n status.0) (λ rs. Ok (reply.Rows cs.0 rs.0 status.0, rs.1)) (rows_of_local n status.0)
    (λ rs m z is. inr ((reply.Rows cs.0 rs.0 status.0, rs.1), refl, (sym (ok_is _ z is), refl))) status.1) cs.1) s more y e

opened_local : Local parsed_ground parsed_ground (λ (o : Opening × Stream). opened o.0 o.1)
opened_local (opens.Whole r, s) more y e = inr ((r, s), refl, (sym (ok_is _ y e), refl))
opened_local (opens.Columns n, s) more y e = set_local n s more y e

opening_is : (s : Stream) → (one_packet opened_by s >>= λ o. opened o.0 o.1) ≡ reply_in_front s
unfolding reply_in_front
opening_is s = by (next_payload s)
  where
    inner : (next : Stream) (r : Result Opening WireRefusal) → (◌>>=◌ {B = Opening × Stream} r (λ o. Ok (o, next)) >>= λ x. opened x.0 x.1) ≡ (r >>= λ o. opened o next)
    inner next (Ok o) = refl
    inner next (Err e) = refl

    by : (r : Parsed Payload) → (◌>>=◌ {B = Opening × Stream} r (λ p. opened_by p.0 >>= λ o. Ok (o, p.1)) >>= λ x. opened x.0 x.1) ≡ (r >>= λ p. opened_by p.0 >>= λ o. opened o p.1)
    by (Ok p) = inner p.1 (opened_by p.0)
    by (Err e) = refl

reply_local : LocalParse reply_in_front
reply_local =
    local_same (λ s. one_packet opened_by s >>= λ o. opened o.0 o.1) reply_in_front opening_is
    (local_then stream_ground parsed_ground parsed_ground (one_packet opened_by) (λ o. opened o.0 o.1) (packet_local opened_by opened_cuts) opened_local)

pub cut_is_refused : (r : Reply) → IsReply r → RefusesCut r
unfolding reply_of
cut_is_refused r h prefix rest b e =
    let whole : reply_of (prefix ++ b ∷ rest) ≡ Ok r = ap reply_of e ∙ text_is_reread r h in
    let end : Reply × Stream → Result Reply WireRefusal = λ x. unless (not (length x.1.bytes.left == 0)) (refusal.Trailing x.1.bytes.at) x.0 in
    then_step (reply_in_front (from_start (prefix ++ b ∷ rest))) end r whole (λ x took is.
    let g = unless_ok (not (length x.1.bytes.left == 0)) (refusal.Trailing x.1.bytes.at) x.0 r is in
    let none : length x.1.bytes.left ≡ 0 = eqb-true (length x.1.bytes.left) 0 (not_false (length x.1.bytes.left == 0) g.0) in
    elim (reply_local (from_start prefix) (b ∷ rest) x took) [
      | inl cut ↦ ap (λ (q : Parsed Reply). q >>= end) cut ∙ ap (λ (n : ℕ). Err (refusal.Truncated n)) (omega arith)
      | inr (t, read, same) ↦
          let all : length x.1.bytes.left ≡ length (t.1.bytes.left ++ b ∷ rest) = ap (λ (z : Reply × Stream). length z.1.bytes.left) same.0 in
          absurd (omega (arith, none, all, length-append t.1.bytes.left (b ∷ rest)))
    ])
