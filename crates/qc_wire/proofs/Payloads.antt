-- A packet that is read is the one that was written, and what was written is read again.
use Rattle.std.proofs.Common.{◌≡◌, ℕ, suc, ◌+◌, ◌*◌, ◌/◌, ◌%◌, ◌^◌, ◌≤◌, List, [], ◌∷◌, ◌++◌, length, take, drop, Result, Ok, refl, sym, ap, subst, ◌∙◌, append_assoc, append-nil, arith, length-take}
use Rattle.std.specs.Prelude.{nat_lt, not, ◌==◌, slice_index}
use Rattle.std.specs.List.{concat}
use Rattle.std.proofs.lemmas.Bool.{ltb-false, le-ltb, eqb-true, eq-eqb}
use Rattle.std.proofs.lemmas.List.{take_at, drop_at, take-append-drop, nil_from_length}
use Rattle.qc_sql.specs.Packets.{most_payload, packet, numbered}
use Rattle.qc_sql.specs.Commands.{length_at, payload_at}
use Rattle.qc_wire.specs.declared.refusal.WireRefusal.{WireRefusal}
use Rattle.qc_wire.specs.declared.refusal.WireRefusal.TheVariants as refusal
use Rattle.qc_wire.specs.Laws.{IsPayload}
use Rattle.qc_wire.specs.Places.{Unread}
use Rattle.qc_wire.specs.Reading.{Read, ◌>>=◌}
use Rattle.qc_wire.specs.Replies.{Payload, Stream, Parsed, next_payload, complete}
use Rattle.qc_wire.proofs.Results.{guard_ok, not_false, ok_is}
use Rattle.qc_wire.proofs.LowFirst.{IsBytes, IsBytes-drop, IsBytes-take}
use Rattle.qc_wire.proofs.Fields.{Takes, spot, Rereads, Passes}

abbrev pub stream : ℕ → ℕ → List ℕ → Stream
stream n at left = record { sequence = n; bytes = spot at left }

-- ---- one packet

record IsNext (s : Stream) (p : Payload × Stream) : Type 0 where
  bytes : IsBytes p.0.bytes.left
  behind : IsBytes p.1.bytes.left
  sequence : p.1.sequence ≡ (s.sequence + 1) % 256
  whole : p.0.size ≤ length p.0.bytes.left → (s.bytes.left ≡ packet s.sequence p.0.bytes.left ++ p.1.bytes.left) × IsPayload p.0.bytes.left

-- behind a header of four bytes
pub behind_header : (k a b c d : ℕ) (rest : List ℕ) → drop (4 + k) (a ∷ b ∷ c ∷ d ∷ rest) ≡ drop k rest
behind_header k a b c d rest =
    let n : 4 + k ≡ suc (suc (suc (suc k))) = omega arith in
    ap (λ (m : ℕ). drop m (a ∷ b ∷ c ∷ d ∷ rest)) n

-- a header of four bytes, and the payload behind it
whole_packet : (left : List ℕ) → IsBytes left → 4 ≤ length left → length_at left ≤ length (payload_at left)
    → left ≡ packet (slice_index left 3) (payload_at left) ++ drop (4 + length (payload_at left)) left
unfolding packet
whole_packet [] fits long h = absurd (omega (arith, long))
whole_packet (a ∷ []) fits long h = absurd (omega (arith, long))
whole_packet (a ∷ b ∷ []) fits long h = absurd (omega (arith, long))
whole_packet (a ∷ b ∷ c ∷ []) fits long h = absurd (omega (arith, long))
whole_packet (a ∷ b ∷ c ∷ d ∷ rest) fits long h =
    let n : ℕ = a + 256 * b + 65536 * c in
    let there : List ℕ = take n rest in
    let size : length there ≡ n = omega (arith, h, length-take n rest) in
    let e0 : length there % 256 ≡ a = omega (arith, size, fits 0) in
    let e1 : length there / 256 ^ 1 % 256 ≡ b = omega (arith, size, fits 0, fits 1) in
    let e2 : length there / 256 ^ 2 % 256 ≡ c = omega (arith, size, fits 0, fits 1, fits 2) in
    let parts : rest ≡ there ++ drop (4 + length there) (a ∷ b ∷ c ∷ d ∷ rest) =
    sym (take-append-drop n rest) ∙ ap (λ (k : ℕ). there ++ drop k rest) (sym size) ∙ ap (λ (r : List ℕ). there ++ r) (sym (behind_header (length there) a b c d rest)) in
    rw (e0, e1, e2) (ap (λ (r : List ℕ). a ∷ b ∷ c ∷ d ∷ r) parts)

next_is : (s : Stream) (p : Payload × Stream) → IsBytes s.bytes.left → next_payload s ≡ Ok p → IsNext s p
unfolding next_payload
next_is s p fits h =
    let u = s.bytes in
    let left : List ℕ = u.left in
    let there : List ℕ = payload_at left in
    let a = guard_ok (nat_lt most_payload (length_at left)) _ _ p h in
    let b = guard_ok (nat_lt (length left) 4) _ _ p a.1 in
    let c = guard_ok (not (slice_index left 3 == s.sequence)) _ _ p b.1 in
    let short : length_at left ≤ most_payload = ltb-false most_payload (length_at left) a.0 in
    let long : 4 ≤ length left = ltb-false (length left) 4 b.0 in
    let same : slice_index left 3 ≡ s.sequence = eqb-true (slice_index left 3) s.sequence (not_false (slice_index left 3 == s.sequence) c.0) in
    subst (IsNext s) (ok_is _ p c.1) (record {
      bytes = IsBytes-take (length_at left) (drop 4 left) (IsBytes-drop 4 left fits);
      behind = IsBytes-drop (4 + length there) left fits;
      sequence = refl;
      whole = λ enough. (
        subst (λ (n : ℕ). left ≡ packet n there ++ drop (4 + length there) left) same (whole_packet left fits long enough),
        omega (arith, short, length-take (length_at left) (drop 4 left)),
      );
    })

pub complete_ok : (p : Payload) (rest : Unread) → complete p rest ≡ Ok tt → (rest.left ≡ []) × (p.size ≤ length p.bytes.left)
unfolding complete
complete_ok p rest h =
    let a = guard_ok (not (length rest.left == 0)) (refusal.Trailing rest.at) _ tt h in
    let b = guard_ok (nat_lt (length p.bytes.left) p.size) (refusal.Truncated rest.at) _ tt a.1 in
    (nil_from_length rest.left (eqb-true (length rest.left) 0 (not_false (length rest.left == 0) a.0)), ltb-false (length p.bytes.left) p.size b.0)

-- packets of these payloads
abbrev pub pack : ℕ → List (List ℕ) → List ℕ
pack n payloads = concat (numbered n payloads)

-- what is left is packets of these payloads, and then what is left there
pub record Spells (a : Stream) (payloads : List (List ℕ)) (b : Stream) : Type 0 where
  pub parts : (more : List (List ℕ)) (tail : List ℕ) → b.bytes.left ≡ pack b.sequence more ++ tail → a.bytes.left ≡ pack a.sequence (payloads ++ more) ++ tail
  pub bytes : IsBytes b.bytes.left

pub spells_then : (a b c : Stream) (ps qs : List (List ℕ)) → Spells a ps b → Spells b qs c → Spells a (ps ++ qs) c
spells_then a b c ps qs p q = record {
  parts = λ more tail e. p.parts (qs ++ more) tail (q.parts more tail e) ∙ ap (λ (rs : List (List ℕ)). pack a.sequence rs ++ tail) (sym (append_assoc ps qs more));
  bytes = q.bytes;
}

pub spells_none : (a : Stream) → IsBytes a.bytes.left → Spells a [] a
spells_none a fits = record { parts = λ more tail e. e; bytes = fits }

-- a payload that was read to its end
pub packet_takes : (s : Stream) (p : Payload × Stream) (text : List ℕ) (rest : Unread) → IsBytes s.bytes.left → next_payload s ≡ Ok p → Takes p.0.bytes text rest → complete p.0 rest ≡ Ok tt
    → Spells s (text ∷ []) p.1 × IsPayload text
packet_takes s p text rest fits h t done =
    let n = next_is s p fits h in
    let d = complete_ok p.0 rest done in
    let same : p.0.bytes.left ≡ text = t.parts ∙ ap (λ (r : List ℕ). text ++ r) d.0 ∙ append-nil text in
    let w = n.whole d.1 in (
      record {
        parts = λ more tail e.
            w.0
            ∙ ap (λ (r : List ℕ). packet s.sequence r ++ p.1.bytes.left) same
            ∙ ap (λ (r : List ℕ). packet s.sequence text ++ r) (e ∙ ap (λ (k : ℕ). pack k more ++ tail) n.sequence)
            ∙ sym (append_assoc (packet s.sequence text) (pack ((s.sequence + 1) % 256) more) tail);
        bytes = n.behind;
      },
      subst IsPayload same w.1,
    )

-- the bytes of a payload are bytes
pub payload_bytes : (s : Stream) (p : Payload × Stream) → IsBytes s.bytes.left → next_payload s ≡ Ok p → IsBytes p.0.bytes.left
payload_bytes s p fits h = (next_is s p fits h).bytes

-- ---- written packets

next_again : (n at : ℕ) (text rest : List ℕ) → IsPayload text
    → next_payload (stream n at (packet n text ++ rest)) ≡ Ok (record { bytes = spot (at + 4) text; size = length text }, stream ((n + 1) % 256) (at + (4 + length text)) rest)
unfolding next_payload packet
next_again n at text rest fits =
    let k : ℕ = length text in
    let size : k % 256 + 256 * (k / 256 ^ 1 % 256) + 65536 * (k / 256 ^ 2 % 256) ≡ k = omega (arith, fits) in
    let header : 4 ≤ suc (suc (suc (suc (length (text ++ rest))))) = omega arith in
    let behind : drop (4 + k) (k % 256 ∷ k / 256 ^ 1 % 256 ∷ k / 256 ^ 2 % 256 ∷ n ∷ (text ++ rest)) ≡ rest =
    behind_header k (k % 256) (k / 256 ^ 1 % 256) (k / 256 ^ 2 % 256) n (text ++ rest) ∙ drop_at text rest k refl in
    rw (size, le-ltb most_payload k fits, le-ltb (suc (suc (suc (suc (length (text ++ rest)))))) 4 header, eq-eqb n n refl, take_at text rest k refl, behind) refl

-- a payload that was read to its end has nothing left
pub complete_again : (at : ℕ) (text : List ℕ) (end : ℕ) → complete (record { bytes = spot at text; size = length text }) (spot end []) ≡ Ok tt
unfolding complete
complete_again at text end = rw (le-ltb (length text) (length text) (omega arith)) refl

-- the payload that was written here
abbrev pub payload : ℕ → List ℕ → Payload
payload at text = record { bytes = spot at text; size = length text }

-- what is left where packets of these payloads are written
abbrev pub written : ℕ → ℕ → List (List ℕ) → List ℕ → Stream
written n at payloads tail = stream n at (pack n payloads ++ tail)

pub next_written : (n at : ℕ) (text : List ℕ) (more : List (List ℕ)) (tail : List ℕ) → IsPayload text
    → next_payload (written n at (text ∷ more) tail) ≡ Ok (payload (at + 4) text, written ((n + 1) % 256) (at + (4 + length text)) more tail)
next_written n at text more tail fits =
    ap (λ (bytes : List ℕ). next_payload (stream n at bytes)) (append_assoc (packet n text) (pack ((n + 1) % 256) more) tail)
    ∙ next_again n at text (pack ((n + 1) % 256) more ++ tail) fits

-- a payload alone is read to its end
pub read_alone : {A : Type 0} (read : Unread → Read A) (text : List ℕ) (x : A) (at : ℕ) → Rereads read text x → (end : ℕ) × (read (spot at text) ≡ Ok (x, spot end []))
read_alone read text x at h =
    let one = h at [] in
    (one.0, ap (λ (bytes : List ℕ). read (spot at bytes)) (sym (append-nil text)) ∙ one.1)

pub pass_alone : (read : Unread → Result Unread WireRefusal) (text : List ℕ) (at : ℕ) → Passes read text → (end : ℕ) × (read (spot at text) ≡ Ok (spot end []))
pass_alone read text at h =
    let one = h at [] in
    (one.0, ap (λ (bytes : List ℕ). read (spot at bytes)) (sym (append-nil text)) ∙ one.1)

-- Where packets of these payloads are written, this value is read, and the packets behind them are left.
abbrev pub Unpacks : {A : Type 0} → (Stream → Parsed A) → List (List ℕ) → A → Type 0
Unpacks read payloads x = (n at : ℕ) (more : List (List ℕ)) (tail : List ℕ) → (next : ℕ) × (end : ℕ) × (read (written n at (payloads ++ more) tail) ≡ Ok (x, written next end more tail))

-- a reader of one whole payload
abbrev pub whole_payload : {A : Type 0} → (Unread → Read A) → Stream → Parsed A
whole_payload read s = next_payload s >>= λ p. read p.0.bytes >>= λ v. complete p.0 v.1 >>= λ whole. Ok (v.0, p.1)

pub payload_unpacks : {A : Type 0} (read : Unread → Read A) (text : List ℕ) (x : A) → IsPayload text → Rereads read text x → Unpacks (whole_payload read) (text ∷ []) x
payload_unpacks {A} read text x fits h n at more tail =
    let next : ℕ = (n + 1) % 256 in
    let end : ℕ = at + (4 + length text) in
    let one = read_alone read text x (at + 4) h in (
      next,
      end,
      ap (λ (r : Parsed Payload). r >>= λ p. read p.0.bytes >>= λ v. complete p.0 v.1 >>= λ whole. Ok (v.0, p.1)) (next_written n at text more tail fits)
          ∙ ap (λ (r : Read A). r >>= λ v. complete (payload (at + 4) text) v.1 >>= λ whole. Ok (v.0, written next end more tail)) one.1
          ∙ ap (λ (r : Result (Unit {0}) WireRefusal). r >>= λ whole. Ok (x, written next end more tail)) (complete_again (at + 4) text one.0),
    )
