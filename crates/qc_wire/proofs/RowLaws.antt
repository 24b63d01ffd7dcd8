-- Rows that are read are those that were written, and what was written is read again.
use Rattle.std.proofs.Common.{◌≡◌, ℕ, zero, suc, ◌+◌, ◌%◌, ◌^◌, ◌<◌, ◌≤◌, Bool, true, false, List, [], ◌∷◌, ◌++◌, length, map, Option, Some, None, Result, Ok, refl, sym, ap, subst, ◌∙◌, append_assoc, arith, length-append, inl, inr}
use Rattle.std.specs.Prelude.{◌==◌, ◌&&◌, if◌then◌else◌}
use Rattle.std.specs.List.{AllByRecursion}
use Rattle.std.proofs.lemmas.Bool.{eqb-true, ne_eqb, cases_lt}
use Rattle.qc_sql.specs.Packets.{most_payload, encoded_integer, encoded_string, encoded_cell, eof_payload, row_payload}
use Rattle.qc_wire.specs.declared.refusal.WireRefusal.{WireRefusal}
use Rattle.qc_wire.specs.Laws.{IsPayload, IsRow, CellFits}
use Rattle.qc_wire.specs.Places.{Unread}
use Rattle.qc_wire.specs.Reading.{Read, ◌>>=◌, take_bytes, string, times}
use Rattle.qc_wire.specs.Replies.{Payload, Stream, Parsed, Row, begins_with, next_payload, complete, cell, cells, is_eof, eof_again, row_or_end, next_row, row_before, rows}
use Rattle.qc_wire.proofs.Results.{ok_is, then_step}
use Rattle.qc_wire.proofs.LowFirst.{IsBytes}
use Rattle.qc_wire.proofs.Lengths.{string_longer}
use Rattle.qc_wire.proofs.Fields.{Takes, takes_then, spot, bytes_take, bytes_reread, string_takes, Rereads, Answers, then_reread, string_rereads, in_one, in_two, in_three, in_eight}
use Rattle.qc_wire.proofs.Payloads.{Spells, spells_then, packet_takes, payload_bytes, payload, written, next_written, read_alone, pass_alone, complete_again}
use Rattle.qc_wire.proofs.Singles.{eof_again_takes, eof_again_passes}

-- ---- cells

-- a byte that a payload begins with is its first one
first_is : (b : ℕ) (u : Unread) → IsBytes u.left → begins_with b u.left ≡ true → (x : List ℕ × Unread) → take_bytes 1 u ≡ Ok x → Takes u (b ∷ []) x.1
first_is b u fits h x e = by u.at u.left fits h e
  where
    by : (at : ℕ) (left : List ℕ) → IsBytes left → begins_with b left ≡ true → take_bytes 1 (spot at left) ≡ Ok x → Takes (spot at left) (b ∷ []) x.1
    by at [] f g q = absurd cc
    by at (c ∷ left) f g q =
        let t = bytes_take 1 (spot at (c ∷ left)) x f q in
        let two : take_bytes 1 (spot at (c ∷ left)) ≡ Ok (c ∷ [], spot (at + 1) left) = bytes_reread 1 at (c ∷ []) left refl in
        let same = ok_is (c ∷ [], spot (at + 1) left) x (sym two ∙ q) in
        subst (λ (y : List ℕ × Unread). Takes (spot at (c ∷ left)) (b ∷ []) y.1) same
        (record { parts = ap (λ (d : ℕ). d ∷ left) (eqb-true c b g); bytes = λ i. f (suc i) })

pub cell_takes : (u : Unread) (x : Option (List ℕ) × Unread) → IsBytes u.left → cell u ≡ Ok x → Takes u (encoded_cell x.0) x.1
unfolding cell
cell_takes u x fits e = by (begins_with 0xfb u.left) refl e
  where
    by : (b : Bool) → begins_with 0xfb u.left ≡ b → (if b then (take_bytes 1 u >>= λ null. Ok (None, null.1)) else (string u >>= λ text. Ok (Some text.0, text.1))) ≡ Ok x → Takes u (encoded_cell x.0) x.1
    by true test h =
        then_step (take_bytes 1 u) _ x h (λ null took is.
        let P : Option (List ℕ) × Unread → Type 0 = λ y. Takes u (encoded_cell y.0) y.1 in
        subst P (ok_is (None, null.1) x is) (first_is 0xfb u fits test null took))
    by false test h =
        then_step (string u) _ x h (λ text took is.
        let P : Option (List ℕ) × Unread → Type 0 = λ y. Takes u (encoded_cell y.0) y.1 in
        subst P (ok_is (Some text.0, text.1) x is) (string_takes u text fits took).0)

-- no length-encoded string begins with a byte that begins no length of such a text
begins_apart : (b : ℕ) (t rest : List ℕ) → 251 ≤ b → (0xfc == b) ≡ false → (0xfd == b) ≡ false → (2 ^ 24 ≤ length t → (0xfe == b) ≡ false)
    → begins_with b (encoded_string t ++ rest) ≡ false
unfolding encoded_string
begins_apart b t rest high two three eight =
    let n : ℕ = length t in
    let one : (text : List ℕ) → encoded_integer n ≡ text → begins_with b ((text ++ t) ++ rest) ≡ false → begins_with b ((encoded_integer n ++ t) ++ rest) ≡ false =
    λ text e h. ap (λ (s : List ℕ). begins_with b ((s ++ t) ++ rest)) e ∙ h in
    elim (cases_lt n 251) [
      | inl small ↦ one (n ∷ []) (in_one n small) (ne_eqb n b (λ e. omega (arith, e, small, high)))
      | inr large ↦ elim (cases_lt n (2 ^ 16)) [
        | inl small ↦ one _ (in_two n large small) two
        | inr larger ↦ elim (cases_lt n (2 ^ 24)) [
          | inl small ↦ one _ (in_three n larger small) three
          | inr largest ↦ one _ (in_eight n largest) (eight largest)
        ]
      ]
    ]

pub cell_rereads : (c : Option (List ℕ)) → CellFits c → Rereads cell (encoded_cell c) c
unfolding cell
cell_rereads None fits at rest = (at + 1, ap (λ (r : Read (List ℕ)). r >>= λ null. Ok (None, null.1)) (bytes_reread 1 at (0xfb ∷ []) rest refl))
cell_rereads (Some t) fits at rest =
    let one = string_rereads t fits at rest in
    (one.0, rw (begins_apart 0xfb t rest (omega arith) refl refl (λ large. refl)) (ap (λ (r : Read (List ℕ)). r >>= λ text. Ok (Some text.0, text.1)) one.1))

pub cells_take : (n : ℕ) (u : Unread) (x : Row × Unread) → IsBytes u.left → times cell n u ≡ Ok x → Takes u (row_payload x.0) x.1 × (length x.0 ≡ n)
unfolding times
cells_take zero u x fits e =
    let P : Row × Unread → Type 0 = λ y. Takes u (row_payload y.0) y.1 × (length y.0 ≡ 0) in
    subst P (ok_is ([], u) x e) (record { parts = refl; bytes = fits }, refl)
cells_take (suc n) u x fits e =
    then_step (cell u) _ x e (λ a took e1.
    let t0 = cell_takes u a fits took in
    then_step (times cell n a.1) _ x e1 (λ b took1 is.
    let t1 = cells_take n a.1 b t0.bytes took1 in
    let P : Row × Unread → Type 0 = λ y. Takes u (row_payload y.0) y.1 × (length y.0 ≡ suc n) in
    subst P (ok_is (a.0 ∷ b.0, b.1) x is) (takes_then u a.1 b.1 (encoded_cell a.0) (row_payload b.0) t0 t1.0, ap suc t1.1)))

cells_reread : (row : Row) → AllByRecursion CellFits row → Rereads (times cell (length row)) (row_payload row) row
unfolding times
cells_reread [] fits at rest = (at, refl)
cells_reread (c ∷ cs) fits at rest =
    subst (λ (text : List ℕ). Answers (times cell (suc (length cs)) (spot at text)) (c ∷ cs) rest) (sym (append_assoc (encoded_cell c) (row_payload cs) rest))
    (then_reread cell _ (encoded_cell c) c (c ∷ cs) at (row_payload cs ++ rest) rest (cell_rereads c fits.0) (λ at0.
    then_reread (times cell (length cs)) _ (row_payload cs) cs (c ∷ cs) at0 rest rest (cells_reread cs fits.1) (λ at1. (at1, refl))))

-- a row that fits a packet has cells that fit their lengths
cells_fit : (row : Row) → IsPayload (row_payload row) → AllByRecursion CellFits row
cells_fit [] h = tt
cells_fit (None ∷ cs) h = (tt, cells_fit cs (omega (arith, h)))
cells_fit (Some t ∷ cs) h =
    let parts : length (row_payload (Some t ∷ cs)) ≡ length (encoded_string t) + length (row_payload cs) = length-append (encoded_string t) (row_payload cs) in
    (omega (arith, parts, h, string_longer t), cells_fit cs (omega (arith, parts, h)))

pub row_rereads : (columns : ℕ) (row : Row) → IsRow columns row → Rereads (cells columns) (row_payload row) row
row_rereads columns row h = subst (λ (n : ℕ). Rereads (times cell n) (row_payload row) row) h.count (cells_reread row (cells_fit row h.payload))

short_string : (t rest : List ℕ) → length t ≤ most_payload → begins_with 0xfe (encoded_string t ++ rest) ≡ false
short_string t rest le = begins_apart 0xfe t rest (omega arith) refl refl (λ large. absurd (omega (arith, large, le)))

-- a row of cells that fits a packet doesn't begin as an EOF does
not_eof : (columns : ℕ) (row : Row) → 1 ≤ columns → IsRow columns row → begins_with 0xfe (row_payload row) ≡ false
not_eof columns [] some h = let count : 0 ≡ columns = h.count in absurd (omega (arith, count, some))
not_eof columns (None ∷ cs) some h = refl
not_eof columns (Some t ∷ cs) some h = short_string t (row_payload cs) (omega (arith, h.payload, length-append (encoded_string t) (row_payload cs), string_longer t))

-- ---- rows

-- a row that was read, or the EOF behind the rows
abbrev Row_or_end : ℕ → ℕ → Stream → Option Row × Stream → Type 0
Row_or_end columns status s (None, next) = Spells s (eof_payload status ∷ []) next
Row_or_end columns status s (Some row, next) = Spells s (row_payload row ∷ []) next × IsRow columns row

one_row_takes : (columns status : ℕ) (s : Stream) (x : Option Row × Stream) → IsBytes s.bytes.left → next_row columns status s ≡ Ok x → Row_or_end columns status s x
unfolding next_row row_or_end
one_row_takes columns status s x fits e =
    then_step (next_payload s) _ x e (λ p took e1.
    let bytes = payload_bytes s p fits took in
    then_step (row_or_end columns status p.0) _ x e1 (λ row read e2.
    let P : Option Row × Stream → Type 0 = Row_or_end columns status s in
    subst P (ok_is (row, p.1) x e2) (by p took bytes row (is_eof p.0) read)))
  where
    by : (p : Payload × Stream) → next_payload s ≡ Ok p → IsBytes p.0.bytes.left → (row : Option Row) (b : Bool)
        → (if b then (eof_again status p.0.bytes >>= λ rest. complete p.0 rest >>= λ whole. Ok None) else (cells columns p.0.bytes >>= λ r. complete p.0 r.1 >>= λ whole. Ok (Some r.0))) ≡ Ok row
        → Row_or_end columns status s (row, p.1)
    by p took bytes row true h =
        then_step (eof_again status p.0.bytes) _ row h (λ rest read h1.
        let t = eof_again_takes status p.0.bytes rest bytes read in
        then_step (complete p.0 rest) _ row h1 (λ whole done h2.
        let P : Option Row → Type 0 = λ r. Row_or_end columns status s (r, p.1) in
        subst P (ok_is None row h2) (packet_takes s p (eof_payload status) rest fits took t done).0))
    by p took bytes row false h =
        then_step (cells columns p.0.bytes) _ row h (λ r read h1.
        let t = cells_take columns p.0.bytes r bytes read in
        then_step (complete p.0 r.1) _ row h1 (λ whole done h2.
        let taken = packet_takes s p (row_payload r.0) r.1 fits took t.0 done in
        let P : Option Row → Type 0 = λ y. Row_or_end columns status s (y, p.1) in
        subst P (ok_is (Some r.0) row h2) (taken.0, record { count = t.1; payload = taken.1 })))

abbrev rows_payloads : List Row → ℕ → List (List ℕ)
rows_payloads rs status = map row_payload rs ++ eof_payload status ∷ []

-- the rows of a stream were written so
abbrev AreRows : ℕ → ℕ → Stream → List Row × Stream → Type 0
AreRows columns status s x = Spells s (rows_payloads x.0 status) x.1 × AllByRecursion (IsRow columns) x.0

rows_behind : (columns status : ℕ) (s : Stream) (row : Option Row) (next : Stream) (later : Parsed (List Row)) (x : List Row × Stream)
    → ((y : List Row × Stream) → IsBytes next.bytes.left → later ≡ Ok y → AreRows columns status next y)
    → Row_or_end columns status s (row, next) → row_before (row, next) later ≡ Ok x → AreRows columns status s x
rows_behind columns status s None next later x go t h = subst (AreRows columns status s) (ok_is ([], next) x h) (t, tt)
rows_behind columns status s (Some row) next later x go t h =
    then_step later _ x h (λ others read h1.
    let behind = go others t.0.bytes read in
    subst (AreRows columns status s) (ok_is (row ∷ others.0, others.1) x h1) (spells_then s next others.1 (row_payload row ∷ []) (rows_payloads others.0 status) t.0 behind.0, (t.1, behind.1)))

pub rows_take : (n columns status : ℕ) (s : Stream) (x : List Row × Stream) → IsBytes s.bytes.left → rows n columns status s ≡ Ok x
    → Spells s (rows_payloads x.0 status) x.1 × AllByRecursion (IsRow columns) x.0
unfolding rows
rows_take zero columns status s x fits e = absurd cc
rows_take (suc n) columns status s x fits e =
    then_step (next_row columns status s) _ x e (λ y took e1.
    rows_behind columns status s y.0 y.1 (rows n columns status y.1) x (λ z bytes read. rows_take n columns status y.1 z bytes read) (one_row_takes columns status s y fits took) e1)

-- ---- written rows

-- a written row is read
row_again : (columns status n at : ℕ) (row : Row) (more : List (List ℕ)) (tail : List ℕ) → 1 ≤ columns → IsRow columns row
    → next_row columns status (written n at (row_payload row ∷ more) tail) ≡ Ok (Some row, written ((n + 1) % 256) (at + (4 + length (row_payload row))) more tail)
unfolding next_row row_or_end
row_again columns status n at row more tail some h =
    let text : List ℕ = row_payload row in
    let next : Stream = written ((n + 1) % 256) (at + (4 + length text)) more tail in
    let p : Payload = payload (at + 4) text in
    let one = read_alone (cells columns) text row (at + 4) (row_rereads columns row h) in
    let apart : is_eof p ≡ false = ap (λ (b : Bool). b && (length text == 5)) (not_eof columns row some h) in
    let read : row_or_end columns status p ≡ Ok (Some row) =
    ap (λ (b : Bool). if b then (eof_again status p.bytes >>= λ rest. complete p rest >>= λ whole. Ok None) else (cells columns p.bytes >>= λ r. complete p r.1 >>= λ whole. Ok (Some r.0))) apart
    ∙ ap (λ (r : Read Row). r >>= λ v. complete p v.1 >>= λ whole. Ok (Some v.0)) one.1
    ∙ ap (λ (r : Result (Unit {0}) WireRefusal). r >>= λ whole. Ok (Some row)) (complete_again (at + 4) text one.0) in
    ap (λ (r : Parsed Payload). r >>= λ q. row_or_end columns status q.0 >>= λ v. Ok (v, q.1)) (next_written n at text more tail h.payload)
    ∙ ap (λ (r : Result (Option Row) WireRefusal). r >>= λ v. Ok (v, next)) read

-- the EOF behind written rows ends them
end_again : (columns status n at : ℕ) (more : List (List ℕ)) (tail : List ℕ)
    → next_row columns status (written n at (eof_payload status ∷ more) tail) ≡ Ok (None, written ((n + 1) % 256) (at + (4 + length (eof_payload status))) more tail)
unfolding next_row row_or_end
end_again columns status n at more tail =
    let text : List ℕ = eof_payload status in
    let next : Stream = written ((n + 1) % 256) (at + (4 + length text)) more tail in
    let p : Payload = payload (at + 4) text in
    let one = pass_alone (eof_again status) text (at + 4) (eof_again_passes status) in
    let read : row_or_end columns status p ≡ Ok None =
    ap (λ (r : Result Unread WireRefusal). r >>= λ rest. complete p rest >>= λ whole. Ok None) one.1
    ∙ ap (λ (r : Result (Unit {0}) WireRefusal). r >>= λ whole. Ok None) (complete_again (at + 4) text one.0) in
    ap (λ (r : Parsed Payload). r >>= λ q. row_or_end columns status q.0 >>= λ v. Ok (v, q.1)) (next_written n at text more tail (omega arith))
    ∙ ap (λ (r : Result (Option Row) WireRefusal). r >>= λ v. Ok (v, next)) read

pub rows_again : (k columns status : ℕ) (rs : List Row) → 1 ≤ columns → AllByRecursion (IsRow columns) rs → length rs < k
    → (n at : ℕ) (more : List (List ℕ)) (tail : List ℕ) → (next : ℕ) × (end : ℕ) × (rows k columns status (written n at (rows_payloads rs status ++ more) tail) ≡ Ok (rs, written next end more tail))
unfolding rows
rows_again zero columns status rs some h lt n at more tail = absurd (omega arith)
rows_again (suc k) columns status [] some h lt n at more tail =
    let next : ℕ = (n + 1) % 256 in
    let end : ℕ = at + (4 + length (eof_payload status)) in
    (next, end, ap (λ (r : Parsed (Option Row)). r >>= λ row. row_before row (rows k columns status row.1)) (end_again columns status n at more tail))
rows_again (suc k) columns status (row ∷ rs) some h lt n at more tail =
    let next : ℕ = (n + 1) % 256 in
    let end : ℕ = at + (4 + length (row_payload row)) in
    let one = row_again columns status n at row (rows_payloads rs status ++ more) tail some h.0 in
    let two = rows_again k columns status rs some h.1 (omega arith) next end more tail in (
      two.0,
      two.1,
      ap (λ (r : Parsed (Option Row)). r >>= λ v. row_before v (rows k columns status v.1)) one
          ∙ ap (λ (r : Parsed (List Row)). r >>= λ others. Ok (row ∷ others.0, others.1)) two.2,
    )
