-- A reply that is read is the one that was written, and what was written is read again.
use Rattle.std.proofs.Common.{◌≡◌, ℕ, zero, suc, ◌+◌, ◌%◌, ◌^◌, ◌<◌, ◌≤◌, Bool, true, false, List, [], ◌∷◌, ◌++◌, length, map, Result, Ok, Err, refl, sym, ap, subst, ◌∙◌, append_assoc, append-nil, arith, length-append}
use Rattle.std.specs.Prelude.{not, ◌==◌, slice_index, IfOk, if◌then◌else◌}
use Rattle.std.specs.List.{AllByRecursion}
use Rattle.std.proofs.lemmas.Bool.{eqb-true, ne_eqb}
use Rattle.std.proofs.lemmas.List.{nil_from_length, length-map}
use Rattle.qc_types.specs.declared.memory.Or.{Or}
use Rattle.qc_types.specs.Answers.{Gives}
use Rattle.qc_types.specs.declared.sql_error.SqlError.{SqlError}
use Rattle.qc_sql.specs.declared.replies.ColumnDef.{ColumnDef}
use Rattle.qc_sql.specs.declared.replies.Reply.{Reply}
use Rattle.qc_sql.specs.declared.replies.Reply.TheVariants as reply
use Rattle.qc_sql.specs.Packets.{packet, packets, payloads, ok_payload, err_payload, eof_payload, count_payload, column_payload, row_payload}
use Rattle.qc_wire.specs.declared.refusal.WireRefusal.{WireRefusal}
use Rattle.qc_wire.specs.declared.refusal.WireRefusal.TheVariants as refusal
use Rattle.qc_wire.specs.declared.reading.reply.Opening.{Opening}
use Rattle.qc_wire.specs.declared.reading.reply.Opening.TheVariants as opens
use Rattle.qc_sql.specs.declared.commands.Command.{Command}
use Rattle.qc_sql.specs.Commands.{command_payload}
use Rattle.qc_wire.specs.Commands.{command_text}
use Rattle.qc_wire.specs.Laws.{ReadsBack, IsPayload, IsColumn, IsError, IsRow, IsResultSet, IsReply, Asked, Answered, IsMessage, message_text}
use Rattle.qc_wire.proofs.Results.{not_false, ok_is, then_step, unless_ok}
use Rattle.qc_wire.proofs.ReadBack.{command_same}
use Rattle.qc_wire.specs.Places.{Unread}
use Rattle.qc_wire.specs.Reading.{Read, ◌>>=◌, unless, times}
use Rattle.qc_wire.specs.Replies.{Payload, Stream, Parsed, Row, begins_with, next_payload, complete, ok_fields, err_fields, eof_fields, eof_packet, column_fields, column_packet, columns, rows, column_count, opened_by, opened, result_set, reply_in_front, from_start, reply_of}
use Rattle.qc_wire.proofs.LowFirst.{IsBytes}
use Rattle.qc_wire.proofs.Fields.{Takes, in_one}
use Rattle.qc_wire.proofs.Lengths.{ok_bound, integer_bound}
use Rattle.qc_wire.proofs.Columns.{ColumnFits, column_takes, column_rereads}
use Rattle.qc_wire.proofs.Payloads.{stream, Spells, spells_then, spells_none, packet_takes, payload_bytes, pack, payload, written, next_written, read_alone, complete_again, Unpacks, whole_payload, payload_unpacks}
use Rattle.qc_wire.proofs.Singles.{ok_takes, ok_rereads, err_takes, err_rereads, eof_takes, eof_rereads, count_takes, count_rereads}
use Rattle.qc_wire.proofs.RowLaws.{rows_take, rows_again}

-- ---- columns

column_is : (c : ColumnDef) → ColumnFits c → IsPayload (column_payload c) → IsColumn c
column_is c f p = record { charset = f.charset; length = f.length; kind = f.kind; flags = f.flags; decimals = f.decimals; payload = p }

-- a packet whose payload is read to its end by a reader that takes this text
whole_takes : {A : Type 0} (read : Unread → Read A) (text : A → List ℕ) (Fits : A → Type 0)
    → ((u : Unread) (y : A × Unread) → IsBytes u.left → read u ≡ Ok y → Takes u (text y.0) y.1 × Fits y.0)
    → (s : Stream) (x : A × Stream) → IsBytes s.bytes.left → whole_payload read s ≡ Ok x → Spells s (text x.0 ∷ []) x.1 × IsPayload (text x.0) × Fits x.0
whole_takes {A} read text Fits takes s x fits e =
    then_step (next_payload s) _ x e (λ p took e1.
    then_step (read p.0.bytes) _ x e1 (λ v is e2.
    let t = takes p.0.bytes v (payload_bytes s p fits took) is in
    then_step (complete p.0 v.1) _ x e2 (λ whole done e3.
    let taken = packet_takes s p (text v.0) v.1 fits took t.0 done in
    let P : A × Stream → Type 0 = λ y. Spells s (text y.0 ∷ []) y.1 × IsPayload (text y.0) × Fits y.0 in
    subst P (ok_is (v.0, p.1) x e3) (taken.0, taken.1, t.1))))

one_column_takes : (s : Stream) (x : ColumnDef × Stream) → IsBytes s.bytes.left → column_packet s ≡ Ok x → Spells s (column_payload x.0 ∷ []) x.1 × IsColumn x.0
unfolding column_packet
one_column_takes s x fits e =
    let t = whole_takes column_fields (λ c. column_payload c) ColumnFits column_takes s x fits e in
    (t.0, column_is x.0 t.2 t.1)

columns_take : (n : ℕ) (s : Stream) (x : List ColumnDef × Stream) → IsBytes s.bytes.left → times column_packet n s ≡ Ok x
    → Spells s (map column_payload x.0) x.1 × (length x.0 ≡ n) × AllByRecursion IsColumn x.0
unfolding times
columns_take zero s x fits e =
    let P : List ColumnDef × Stream → Type 0 = λ y. Spells s (map column_payload y.0) y.1 × (length y.0 ≡ 0) × AllByRecursion IsColumn y.0 in
    subst P (ok_is ([], s) x e) (spells_none s fits, refl, tt)
columns_take (suc n) s x fits e =
    then_step (column_packet s) _ x e (λ a took e1.
    let t0 = one_column_takes s a fits took in
    then_step (times column_packet n a.1) _ x e1 (λ b took1 e2.
    let t1 = columns_take n a.1 b t0.0.bytes took1 in
    let P : List ColumnDef × Stream → Type 0 = λ y. Spells s (map column_payload y.0) y.1 × (length y.0 ≡ suc n) × AllByRecursion IsColumn y.0 in
    subst P (ok_is (a.0 ∷ b.0, b.1) x e2) (spells_then s a.1 b.1 (column_payload a.0 ∷ []) (map column_payload b.0) t0.0 t1.0, ap suc t1.1, (t0.1, t1.2))))

one_column_unpacks : (c : ColumnDef) → IsColumn c → Unpacks column_packet (column_payload c ∷ []) c
unfolding column_packet
one_column_unpacks c h = payload_unpacks column_fields (column_payload c) c h.payload (column_rereads c h)

columns_unpack : (cs : List ColumnDef) → AllByRecursion IsColumn cs → Unpacks (times column_packet (length cs)) (map column_payload cs) cs
unfolding times
columns_unpack [] h n at more tail = (n, at, refl)
columns_unpack (c ∷ cs) h n at more tail =
    let one = one_column_unpacks c h.0 n at (map column_payload cs ++ more) tail in
    let two = columns_unpack cs h.1 one.0 one.1 more tail in (
      two.0,
      two.1,
      ap (λ (r : Parsed ColumnDef). r >>= λ first. times column_packet (length cs) first.1 >>= λ others. Ok (first.0 ∷ others.0, others.1)) one.2
          ∙ ap (λ (r : Parsed (List ColumnDef)). r >>= λ others. Ok (c ∷ others.0, others.1)) two.2,
    )

-- ---- the EOF behind columns

eof_packet_takes : (s : Stream) (x : ℕ × Stream) → IsBytes s.bytes.left → eof_packet s ≡ Ok x → Spells s (eof_payload x.0 ∷ []) x.1 × (x.0 < 2 ^ 16)
unfolding eof_packet
eof_packet_takes s x fits e =
    let t = whole_takes eof_fields (λ status. eof_payload status) (λ status. status < 2 ^ 16) eof_takes s x fits e in
    (t.0, t.2)

eof_packet_unpacks : (status : ℕ) → status < 2 ^ 16 → Unpacks eof_packet (eof_payload status ∷ []) status
unfolding eof_packet
eof_packet_unpacks status lt = payload_unpacks eof_fields (eof_payload status) status (omega arith) (eof_rereads status lt)

-- ---- the first payload

-- what opened a reply was written so
abbrev Opens : Stream → Payload × Stream → Opening → Type 0
Opens s p (opens.Whole r) = Spells s (payloads r) p.1 × IsReply r
Opens s p (opens.Columns n) = Spells s (count_payload n ∷ []) p.1 × (1 ≤ n) × (n ≤ 64)

opened_takes : (s : Stream) (p : Payload × Stream) (o : Opening) → IsBytes s.bytes.left → next_payload s ≡ Ok p → opened_by p.0 ≡ Ok o → Opens s p o
unfolding opened_by
opened_takes s p o fits took e = by (begins_with 0x00 p.0.bytes.left) (begins_with 0xff p.0.bytes.left) e
  where
    bytes : IsBytes p.0.bytes.left
    bytes = payload_bytes s p fits took

    by : (a b : Bool) → (if a then (ok_fields p.0.bytes >>= λ r. complete p.0 r.1 >>= λ whole. Ok (opens.Whole r.0)) else
        if b then (err_fields p.0.bytes >>= λ r. complete p.0 r.1 >>= λ whole. Ok (opens.Whole r.0)) else
        (column_count p.0.bytes >>= λ count. complete p.0 count.1 >>= λ whole. Ok (opens.Columns count.0))) ≡ Ok o → Opens s p o
    by true b h =
        then_step (ok_fields p.0.bytes) _ o h (λ r read h1.
        let t = ok_takes p.0.bytes r bytes read in
        then_step (complete p.0 r.1) _ o h1 (λ whole done h2.
        let taken = packet_takes s p (ok_payload t.0 t.1) r.1 fits took t.3 done in
        let P : Reply → Type 0 = λ y. Spells s (payloads y) p.1 × IsReply y in
        subst (Opens s p) (ok_is (opens.Whole r.0) o h2) (subst P (sym t.2) (taken.0, (t.4, t.5)))))
    by false true h =
        then_step (err_fields p.0.bytes) _ o h (λ r read h1.
        let t = err_takes p.0.bytes r bytes read in
        then_step (complete p.0 r.1) _ o h1 (λ whole done h2.
        let taken = packet_takes s p (err_payload t.0) r.1 fits took t.2 done in
        let P : Reply → Type 0 = λ y. Spells s (payloads y) p.1 × IsReply y in
        subst (Opens s p) (ok_is (opens.Whole r.0) o h2) (subst P (sym t.1) (taken.0, record { code = t.3; state = t.4; payload = taken.1 }))))
    by false false h =
        then_step (column_count p.0.bytes) _ o h (λ r read h1.
        let t = count_takes p.0.bytes r bytes read in
        then_step (complete p.0 r.1) _ o h1 (λ whole done h2.
        let taken = packet_takes s p (count_payload r.0) r.1 fits took t.0 done in
        subst (Opens s p) (ok_is (opens.Columns r.0) o h2) (taken.0, t.1, t.2)))

ok_opens : (affected status at : ℕ) → affected < 2 ^ 64 → status < 2 ^ 16 → opened_by (payload at (ok_payload affected status)) ≡ Ok (opens.Whole (reply.Ok affected status))
unfolding opened_by
ok_opens affected status at p q =
    let text : List ℕ = ok_payload affected status in
    let one = read_alone ok_fields text (reply.Ok affected status) at (ok_rereads affected status p q) in
    ap (λ (r : Read Reply). r >>= λ v. complete (payload at text) v.1 >>= λ whole. Ok (opens.Whole v.0)) one.1
    ∙ ap (λ (r : Result (Unit {0}) WireRefusal). r >>= λ whole. Ok (opens.Whole (reply.Ok affected status))) (complete_again at text one.0)

err_opens : (error : SqlError) (at : ℕ) → IsError error → opened_by (payload at (err_payload error)) ≡ Ok (opens.Whole (reply.Err error))
unfolding opened_by
err_opens error at h =
    let text : List ℕ = err_payload error in
    let one = err_rereads error h.code h.state at in
    ap (λ (r : Read Reply). r >>= λ v. complete (payload at text) v.1 >>= λ whole. Ok (opens.Whole v.0)) one.1
    ∙ ap (λ (r : Result (Unit {0}) WireRefusal). r >>= λ whole. Ok (opens.Whole (reply.Err error))) (complete_again at text one.0)

count_opens : (n at : ℕ) → 1 ≤ n → n ≤ 64 → opened_by (payload at (count_payload n)) ≡ Ok (opens.Columns n)
unfolding opened_by
count_opens n at p q =
    let text : List ℕ = count_payload n in
    let small : text ≡ n ∷ [] = in_one n (omega (arith, q)) in
    let no_ok : begins_with 0x00 text ≡ false = ap (begins_with 0x00) small ∙ ne_eqb n 0x00 (λ e. omega (arith, e, p)) in
    let no_err : begins_with 0xff text ≡ false = ap (begins_with 0xff) small ∙ ne_eqb n 0xff (λ e. omega (arith, e, q)) in
    let one = read_alone column_count text n at (count_rereads n p q) in
    rw (no_ok, no_err) (
    ap (λ (r : Read ℕ). r >>= λ v. complete (payload at text) v.1 >>= λ whole. Ok (opens.Columns v.0)) one.1
    ∙ ap (λ (r : Result (Unit {0}) WireRefusal). r >>= λ whole. Ok (opens.Columns n)) (complete_again at text one.0))

-- ---- a result set

abbrev set_payloads : List ColumnDef → List Row → ℕ → List (List ℕ)
set_payloads cs rs status = map column_payload cs ++ eof_payload status ∷ (map row_payload rs ++ eof_payload status ∷ [])

abbrev AreSet : Stream → ℕ → Reply × Stream → Type 0
AreSet s n x = (cs : List ColumnDef) × (rs : List Row) × (status : ℕ) × (x.0 ≡ reply.Rows cs rs status) × Spells s (set_payloads cs rs status) x.1
    × (length cs ≡ n) × AllByRecursion IsColumn cs × AllByRecursion (IsRow n) rs × (status < 2 ^ 16)

set_takes : (n : ℕ) (s : Stream) (x : Reply × Stream) → IsBytes s.bytes.left → result_set n s ≡ Ok x → AreSet s n x
unfolding result_set
set_takes n s x fits e =
    then_step (columns n s) _ x e (λ cs read0 e0.
    let t0 = columns_take n s cs fits read0 in
    then_step (eof_packet cs.1) _ x e0 (λ status read1 e1.
    let t1 = eof_packet_takes cs.1 status t0.0.bytes read1 in
    then_step (rows (length status.1.bytes.left) n status.0 status.1) _ x e1 (λ rs read2 e2.
    let t2 = rows_take (length status.1.bytes.left) n status.0 status.1 rs t1.0.bytes read2 in
    subst (AreSet s n) (ok_is (reply.Rows cs.0 rs.0 status.0, rs.1) x e2) (
      cs.0,
      rs.0,
      status.0,
      refl,
      spells_then s cs.1 rs.1 (map column_payload cs.0) (eof_payload status.0 ∷ (map row_payload rs.0 ++ eof_payload status.0 ∷ [])) t0.0
          (spells_then cs.1 status.1 rs.1 (eof_payload status.0 ∷ []) (map row_payload rs.0 ++ eof_payload status.0 ∷ []) t1.0 t2.0),
      t0.1,
      t0.2,
      t2.1,
      t1.1,
    ))))

-- each packet has a byte at least
packs_are_long : (n : ℕ) (ps : List (List ℕ)) → length ps ≤ length (pack n ps)
unfolding packet
packs_are_long n [] = omega arith
packs_are_long n (p ∷ ps) = omega (arith, length-append (packet n p) (pack ((n + 1) % 256) ps), packs_are_long ((n + 1) % 256) ps)

set_unpacks : (cs : List ColumnDef) (rs : List Row) (status : ℕ) → IsResultSet cs rs status → Unpacks (result_set (length cs)) (set_payloads cs rs status) (reply.Rows cs rs status)
unfolding result_set
set_unpacks cs rs status h n at more tail =
    let k : ℕ = length cs in
    let behind_columns : List (List ℕ) = eof_payload status ∷ ((map row_payload rs ++ eof_payload status ∷ []) ++ more) in
    let behind_eof : List (List ℕ) = (map row_payload rs ++ eof_payload status ∷ []) ++ more in
    let grouped : set_payloads cs rs status ++ more ≡ map column_payload cs ++ behind_columns = append_assoc (map column_payload cs) (eof_payload status ∷ (map row_payload rs ++ eof_payload status ∷ [])) more in
    let a = columns_unpack cs h.each_column n at behind_columns tail in
    let b = eof_packet_unpacks status h.in_status a.0 a.1 behind_eof tail in
    let left : List ℕ = (written b.0 b.1 behind_eof tail).bytes.left in
    let enough : length rs < length left = omega (
      arith,
      length-append (pack b.0 behind_eof) tail,
      packs_are_long b.0 behind_eof,
      length-append (map row_payload rs ++ eof_payload status ∷ []) more,
      length-append (map row_payload rs) (eof_payload status ∷ []),
      length-map rs row_payload,
    ) in
    let c = rows_again (length left) k status rs h.some h.each_row enough b.0 b.1 more tail in (
      c.0,
      c.1,
      ap (λ (ps : List (List ℕ)). result_set k (written n at ps tail)) grouped
          ∙ ap (λ (r : Parsed (List ColumnDef)). r >>= λ cs'. eof_packet cs'.1 >>= λ st. rows (length st.1.bytes.left) k st.0 st.1 >>= λ rs'. Ok (reply.Rows cs'.0 rs'.0 st.0, rs'.1)) a.2
          ∙ ap (λ (r : Parsed ℕ). r >>= λ st. rows (length st.1.bytes.left) k st.0 st.1 >>= λ rs'. Ok (reply.Rows cs rs'.0 st.0, rs'.1)) b.2
          ∙ ap (λ (r : Parsed (List Row)). r >>= λ rs'. Ok (reply.Rows cs rs'.0 status, rs'.1)) c.2,
    )

-- ---- replies

reply_takes : (s : Stream) (x : Reply × Stream) → IsBytes s.bytes.left → reply_in_front s ≡ Ok x → Spells s (payloads x.0) x.1 × IsReply x.0
unfolding reply_in_front
reply_takes s x fits e =
    then_step (next_payload s) _ x e (λ p took e1.
    then_step (opened_by p.0) _ x e1 (λ o opens_so e2. by p o (opened_takes s p o fits took opens_so) e2))
  where
    AreReply : Reply × Stream → Type 0
    AreReply y = Spells s (payloads y.0) y.1 × IsReply y.0

    by : (p : Payload × Stream) (o : Opening) → Opens s p o → opened o p.1 ≡ Ok x → Spells s (payloads x.0) x.1 × IsReply x.0
    by p (opens.Whole r) t h = subst AreReply (ok_is (r, p.1) x h) t
    by p (opens.Columns n) t h =
        let u = set_takes n p.1 x t.0.bytes h in
        let whole : Spells s (payloads (reply.Rows u.0 u.1 u.2)) x.1 =
        subst (λ (k : ℕ). Spells s (count_payload k ∷ set_payloads u.0 u.1 u.2) x.1) (sym u.5) (spells_then s p.1 x.1 (count_payload n ∷ []) (set_payloads u.0 u.1 u.2) t.0 u.4) in
        let fits_all : IsResultSet u.0 u.1 u.2 = record {
          some = omega (arith, u.5, t.1);
          most = omega (arith, u.5, t.2);
          each_column = u.6;
          each_row = subst (λ (k : ℕ). AllByRecursion (IsRow k) u.1) (sym u.5) u.7;
          in_status = u.8;
        } in
        subst (λ (r : Reply). Spells s (payloads r) x.1 × IsReply r) (sym u.3) (whole, fits_all)

-- a reply whose first payload opens it so, by itself
opened_reply : (text : List ℕ) (r : Reply) → IsPayload text → ((at : ℕ) → opened_by (payload at text) ≡ Ok (opens.Whole r)) → Unpacks reply_in_front (text ∷ []) r
unfolding reply_in_front
opened_reply text r fits h n at more tail =
    let next : ℕ = (n + 1) % 256 in
    let end : ℕ = at + (4 + length text) in (
      next,
      end,
      ap (λ (q : Parsed Payload). q >>= λ p. opened_by p.0 >>= λ o. opened o p.1) (next_written n at text more tail fits)
          ∙ ap (λ (q : Result Opening WireRefusal). q >>= λ o. opened o (written next end more tail)) (h (at + 4)),
    )

counted_unpacks : (cs : List ColumnDef) (rs : List Row) (status : ℕ) → IsResultSet cs rs status → Unpacks reply_in_front (payloads (reply.Rows cs rs status)) (reply.Rows cs rs status)
unfolding reply_in_front
counted_unpacks cs rs status h n at more tail =
    let k : ℕ = length cs in
    let behind : Stream = written ((n + 1) % 256) (at + (4 + length (count_payload k))) (set_payloads cs rs status ++ more) tail in
    let small : IsPayload (count_payload k) = omega (arith, integer_bound k) in
    let one = next_written n at (count_payload k) (set_payloads cs rs status ++ more) tail small in
    let two = set_unpacks cs rs status h ((n + 1) % 256) (at + (4 + length (count_payload k))) more tail in (
      two.0,
      two.1,
      ap (λ (q : Parsed Payload). q >>= λ p. opened_by p.0 >>= λ o. opened o p.1) one
          ∙ ap (λ (q : Result Opening WireRefusal). q >>= λ o. opened o behind) (count_opens k (at + 4) h.some h.most)
          ∙ two.2,
    )

reply_unpacks : (r : Reply) → IsReply r → Unpacks reply_in_front (payloads r) r
reply_unpacks (reply.Ok affected status) h = opened_reply (ok_payload affected status) (reply.Ok affected status) (ok_bound affected status) (λ at. ok_opens affected status at h.0 h.1)
reply_unpacks (reply.Err error) h = opened_reply (err_payload error) (reply.Err error) h.payload (λ at. err_opens error at h)
reply_unpacks (reply.Rows cs rs status) h = counted_unpacks cs rs status h

-- a reply's text, and what follows it
pub reply_again : (r : Reply) (tail : List ℕ) → IsReply r → (next : ℕ) × (end : ℕ) × (reply_in_front (from_start (packets r ++ tail)) ≡ Ok (r, stream next end tail))
reply_again r tail h =
    let one = reply_unpacks r h 1 0 [] tail in
    (one.0, one.1, ap (λ (ps : List (List ℕ)). reply_in_front (stream 1 0 (pack 1 ps ++ tail))) (sym (append-nil (payloads r))) ∙ one.2)

-- what is read is the text of that reply
pub text_is_read : (bytes : List ℕ) (r : Reply) → IsBytes bytes → reply_of bytes ≡ Ok r → (bytes ≡ packets r) × IsReply r
unfolding reply_of
text_is_read bytes r fits e =
    then_step (reply_in_front (from_start bytes)) _ r e (λ x read is.
    let t = reply_takes (from_start bytes) x fits read in
    let g = unless_ok (not (length x.1.bytes.left == 0)) (refusal.Trailing x.1.bytes.at) x.0 r is in
    let nothing : x.1.bytes.left ≡ [] = nil_from_length x.1.bytes.left (eqb-true (length x.1.bytes.left) 0 (not_false (length x.1.bytes.left == 0) g.0)) in
    let whole : bytes ≡ packets x.0 = t.0.parts [] [] nothing ∙ append-nil (pack 1 (payloads x.0 ++ [])) ∙ ap (pack 1) (append-nil (payloads x.0)) in
    subst (λ (y : Reply). (bytes ≡ packets y) × IsReply y) g.1 (whole, t.1))

-- the text of a reply is read
pub text_is_reread : (r : Reply) → IsReply r → reply_of (packets r) ≡ Ok r
unfolding reply_of
text_is_reread r h =
    let one = reply_again r [] h in
    ap (λ (bytes : List ℕ). reply_in_front (from_start bytes) >>= λ x. unless (not (length x.1.bytes.left == 0)) (refusal.Trailing x.1.bytes.at) x.0) (sym (append-nil (packets r)))
    ∙ ap (λ (q : Parsed Reply). q >>= λ x. unless (not (length x.1.bytes.left == 0)) (refusal.Trailing x.1.bytes.at) x.0) one.2

-- the text determines the reply, and where it ends
pub reply_same : ReadsBack IsReply packets
reply_same a b x y p q e =
    let one = reply_again a x p in
    let two = reply_again b y q in
    let same = ok_is (a, stream one.0 one.1 x) (b, stream two.0 two.1 y) (sym one.2 ∙ ap (λ (bytes : List ℕ). reply_in_front (from_start bytes)) e ∙ two.2) in
    (ap (λ (z : Reply × Stream). z.0) same, ap (λ (z : Reply × Stream). z.1.bytes.left) same)

-- ---- what a call gave

pub found : (bytes : List ℕ) (result : Result Reply (Or WireRefusal)) → IsBytes bytes → Gives (λ r. r) (λ e. e) result (reply_of bytes) → IfOk result (λ r. IsReply r × (bytes ≡ packets r))
found bytes (Ok r) fits h = let t = text_is_read bytes r fits h in (t.1, t.0)
found bytes (Err e) fits h = tt

-- ---- commands and replies

-- a reply's first packet is numbered 1
begins_with_one : (r : Reply) → (payload : List ℕ) × (others : List ℕ) × (packets r ≡ packet 1 payload ++ others)
begins_with_one (reply.Ok affected status) = (ok_payload affected status, [], refl)
begins_with_one (reply.Err error) = (err_payload error, [], refl)
begins_with_one (reply.Rows cs rs status) = (count_payload (length cs), pack 2 (set_payloads cs rs status), refl)

number_of_packet : (n : ℕ) (payload rest : List ℕ) → slice_index (packet n payload ++ rest) 3 ≡ n
unfolding packet
number_of_packet n payload rest = refl

apart : {P : Type 0} (c : Command) (r : Reply) (x y : List ℕ) → command_text c ++ x ≡ packets r ++ y → P
apart c r x y e =
    let one = begins_with_one r in
    let grouped : packets r ++ y ≡ packet 1 one.0 ++ (one.1 ++ y) = ap (λ (b : List ℕ). b ++ y) one.2 ∙ append_assoc (packet 1 one.0) one.1 y in
    let zero_is_one : 0 ≡ 1 = sym (number_of_packet 0 (command_payload c) x) ∙ ap (λ (b : List ℕ). slice_index b 3) (e ∙ grouped) ∙ number_of_packet 1 one.0 (one.1 ++ y) in
    absurd (omega (arith, zero_is_one))

pub message_same : ReadsBack IsMessage message_text
message_same (Asked a) (Asked b) x y p q e = let s = command_same a b x y p q e in (ap Asked s.0, s.1)
message_same (Answered a) (Answered b) x y p q e = let s = reply_same a b x y p q e in (ap Answered s.0, s.1)
message_same (Asked a) (Answered b) x y p q e = apart a b x y e
message_same (Answered a) (Asked b) x y p q e = apart b a y x (sym e)
