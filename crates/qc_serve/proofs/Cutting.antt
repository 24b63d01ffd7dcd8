-- Pieces of their sizes go out one after another.
use Rattle.std.proofs.Common.{◌≡◌, ℕ, suc, ◌+◌, ◌*◌, ◌-◌, ◌/◌, ◌%◌, ◌^◌, ◌<◌, ◌≤◌, List, [], ◌∷◌, ◌++◌, length, take, refl, sym, ap, ◌∙◌, subst, arith, append-nil, length-append, length-take, Option, inl, inr}
use Rattle.std.specs.Prelude.{All, min}
use Rattle.std.specs.List.{AllByRecursion}
use Rattle.std.proofs.lemmas.List.Elements.{All-append, All-cons, All-nil}
use Rattle.qc_types.specs.Streams.{BeginsWith}
use Rattle.qc_sql.specs.Packets.{most_payload, numbered, packet}
use Rattle.qc_turn.specs.declared.task.Task.{Task}
use Rattle.qc_serve.specs.declared.sinks.Piece.{Piece}
use Rattle.qc_serve.specs.Sent.{Adds, AreCut, IsPacket, IsPartOf, NoneIsEmpty, packet_size, piece}
use Rattle.qc_serve.proofs.Sending.{adds_both, adds_none, adds_so}

-- ---- any sizes

-- all have their sizes
abbrev pub AreWhole : (List ℕ → ℕ) → List Piece → Type 0
AreWhole size pieces = All (λ p. length p.bytes ≡ size p.bytes) pieces

none_whole : (size : List ℕ → ℕ) → AreWhole size []
none_whole size = All-nil (λ (p : Piece). length p.bytes ≡ size p.bytes)

no_piece : (size : List ℕ → ℕ) → All (λ (p : Piece). length p.bytes ≤ size p.bytes) []
no_piece size = All-nil (λ (p : Piece). length p.bytes ≤ size p.bytes)

pub none_empty : NoneIsEmpty []
none_empty = All-nil (λ (p : Piece). 0 < length p.bytes)

cut_whole : (size : List ℕ → ℕ) (x : List Piece) → AreWhole size x → AreCut size x
cut_whole size x h = record { whole = x; last = []; split = sym (append-nil x); one = omega arith; sized = h; few = no_piece size }

cut_last : (size : List ℕ → ℕ) (x : List Piece) (bytes : List ℕ) (at : Task) → AreWhole size x → length bytes ≤ size bytes → AreCut size (x ++ piece bytes at ∷ [])
cut_last size x bytes at h few = record { whole = x; last = piece bytes at ∷ []; split = refl; one = omega arith; sized = h; few = All-cons (λ (p : Piece). length p.bytes ≤ size p.bytes) (piece bytes at) [] few (no_piece size) }

-- no piece at all
pub none_cut : (size : List ℕ → ℕ) → AreCut size []
none_cut size = cut_whole size [] (none_whole size)

pub cut_held : (size : List ℕ → ℕ) (held : Option (List Piece)) → Adds held held (AreCut size)
cut_held size held = adds_none held (AreCut size) (none_cut size)

-- the pieces so far: where more is left, all have their sizes
pub record CutSoFar (size : List ℕ → ℕ) (left : ℕ) (pieces : List Piece) : Type 0 where
  pub cut : AreCut size pieces
  pub some : NoneIsEmpty pieces
  pub whole : 0 < left → AreWhole size pieces

abbrev pub CutOn : (size : List ℕ → ℕ) (left : ℕ) (before held : Option (List Piece)) → Type 0
CutOn size left before held = Adds before held (CutSoFar size left)

pub cut_none : (size : List ℕ → ℕ) (left : ℕ) (held : Option (List Piece)) → CutOn size left held held
cut_none size left held = adds_none held (CutSoFar size left) (record { cut = none_cut size; some = none_empty; whole = λ h. none_whole size })

one_more : (size : List ℕ → ℕ) (left then : ℕ) (x : List Piece) (next : List ℕ) (at : Task) → 0 < left → 0 < length next → length next ≤ size next → (0 < then → length next ≡ size next) → CutSoFar size left x → CutSoFar size then (x ++ piece next at ∷ [])
one_more size left then x next at more some few exact h =
    let Sized : Piece → Type 0 = λ p. length p.bytes ≡ size p.bytes in
    let HasByte : Piece → Type 0 = λ p. 0 < length p.bytes in
    record {
      cut = cut_last size x next at (h.whole more) few;
      some = All-append HasByte x (piece next at ∷ []) h.some (All-cons HasByte (piece next at) [] some none_empty);
      whole = λ on. All-append Sized x (piece next at ∷ []) (h.whole more) (All-cons Sized (piece next at) [] (exact on) (none_whole size));
    }

-- a piece more, where there was one
pub cut_more : (size : List ℕ → ℕ) (left then : ℕ) (before held out : Option (List Piece)) (next : List ℕ) (at : Task) → 0 < left → 0 < length next → length next ≤ size next → (0 < then → length next ≡ size next)
    → CutOn size left before held → Adds held out (λ more. more ≡ piece next at ∷ []) → CutOn size then before out
cut_more size left then before held out next at more some few exact cut puts =
    adds_both before held out (CutSoFar size left) (λ ps. ps ≡ piece next at ∷ []) (CutSoFar size then) cut puts
    (λ x y p q. subst (λ (ps : List Piece). CutSoFar size then (x ++ ps)) (sym q) (one_more size left then x next at more some few exact p))

part_on : (size : List ℕ → ℕ) (left : ℕ) (x y : List Piece) (next : List ℕ) (at : Task) → 0 < left → ((prefix : List ℕ) → BeginsWith next prefix → length prefix ≤ size prefix) → CutSoFar size left x → IsPartOf next at y → AreCut size (x ++ y)
part_on size left x y next at more few h (inl is) = subst (λ (ps : List Piece). AreCut size (x ++ ps)) (sym is) (subst (AreCut size) (sym (append-nil x)) h.cut)
part_on size left x y next at more few h (inr (prefix, begins, is)) = subst (λ (ps : List Piece). AreCut size (x ++ ps)) (sym is) (cut_last size x prefix at (h.whole more) (few prefix begins))

-- a part of it
pub cut_part : (size : List ℕ → ℕ) (left : ℕ) (before held out : Option (List Piece)) (next : List ℕ) (at : Task) → 0 < left → ((prefix : List ℕ) → BeginsWith next prefix → length prefix ≤ size prefix)
    → CutOn size left before held → Adds held out (IsPartOf next at) → Adds before out (AreCut size)
cut_part size left before held out next at more few cut part =
    adds_both before held out (CutSoFar size left) (IsPartOf next at) (AreCut size) cut part (λ x y p q. part_on size left x y next at more few p q)

pub cut_so : (size : List ℕ → ℕ) (left : ℕ) (before held : Option (List Piece)) → CutOn size left before held → Adds before held (AreCut size)
cut_so size left before held cut = adds_so before held (CutSoFar size left) (AreCut size) (λ x h. h.cut) cut

pub cut_some : (size : List ℕ → ℕ) (left : ℕ) (before held : Option (List Piece)) → CutOn size left before held → Adds before held NoneIsEmpty
cut_some size left before held cut = adds_so before held (CutSoFar size left) NoneIsEmpty (λ x h. h.some) cut

-- ---- pieces of a hit

pub hit_few : (next prefix : List ℕ) → length next ≤ 512 → BeginsWith next prefix → length prefix ≤ 512
hit_few next prefix few (rest, is) = omega (arith, few, ap length is, length-append prefix rest)

-- ---- packets

pub packet_few : (next prefix : List ℕ) → length next ≤ packet_size next → BeginsWith next prefix → length prefix ≤ packet_size prefix
packet_few next [] few begins = omega arith
packet_few next (a ∷ []) few begins = omega arith
packet_few next (a ∷ b ∷ []) few begins = omega arith
packet_few next (a ∷ b ∷ c ∷ more) few (rest, is) =
    let whole : length (a ∷ b ∷ c ∷ (more ++ rest)) ≤ packet_size (a ∷ b ∷ c ∷ (more ++ rest)) = subst (λ (l : List ℕ). length l ≤ packet_size l) is few in
    omega (arith, whole, length-append more rest)

-- the next packet of some bytes, or all where no whole packet is
pub record NextPacket (bytes next : List ℕ) (n : ℕ) : Type 0 where
  pub long : length next ≡ n
  pub few : length next ≤ packet_size next
  pub exact : n < length bytes → length next ≡ packet_size next

short_next : (bytes next : List ℕ) (n : ℕ) → length bytes < 3 → n ≡ min (length bytes) (packet_size bytes) → next ≡ take n bytes → NextPacket bytes next n
short_next bytes next n short is taken =
    let cut : length next ≡ min n (length bytes) = ap length taken ∙ length-take n bytes in
    record { long = omega (arith, cut, is, short); few = omega (arith, cut, short); exact = λ less. absurd (omega (arith, less, is, short)) }

long_next : (a b c : ℕ) (more next : List ℕ) (n : ℕ) → n ≡ min (length (a ∷ b ∷ c ∷ more)) (packet_size (a ∷ b ∷ c ∷ more)) → next ≡ take n (a ∷ b ∷ c ∷ more) → NextPacket (a ∷ b ∷ c ∷ more) next n
long_next a b c more next n is taken =
    let k : ℕ = n - 3 in
    let from : n ≡ suc (suc (suc k)) = omega (arith, is) in
    let next_is : next ≡ a ∷ b ∷ c ∷ take k more = taken ∙ ap (λ (m : ℕ). take m (a ∷ b ∷ c ∷ more)) from in
    let long : length next ≡ length (a ∷ b ∷ c ∷ take k more) = ap length next_is in
    let size : packet_size next ≡ packet_size (a ∷ b ∷ c ∷ more) = ap packet_size next_is in
    let cut : length (take k more) ≡ min k (length more) = length-take k more in
    record { long = omega (arith, long, cut, from, is); few = omega (arith, long, size, cut, from, is); exact = λ less. omega (arith, long, size, cut, from, is, less) }

pub next_packet : (bytes next : List ℕ) (n : ℕ) → n ≡ min (length bytes) (packet_size bytes) → next ≡ take n bytes → NextPacket bytes next n
next_packet [] next n is taken = short_next [] next n (omega arith) is taken
next_packet (a ∷ []) next n is taken = short_next (a ∷ []) next n (omega arith) is taken
next_packet (a ∷ b ∷ []) next n is taken = short_next (a ∷ b ∷ []) next n (omega arith) is taken
next_packet (a ∷ b ∷ c ∷ more) next n is taken = long_next a b c more next n is taken

-- a packet is as long as its header says
packet_is : (n : ℕ) (payload : List ℕ) → length payload ≤ most_payload → IsPacket (packet n payload)
unfolding packet
packet_is n payload fits =
    let k : ℕ = length payload in
    let size : k % 256 + 256 * (k / 256 ^ 1 % 256) + 65536 * (k / 256 ^ 2 % 256) ≡ k = omega (arith, fits) in
    omega (arith, size)

pub numbered_are : (n : ℕ) (payloads : List (List ℕ)) → AllByRecursion (λ p. length p ≤ most_payload) payloads → AllByRecursion IsPacket (numbered n payloads)
numbered_are n [] h = tt
numbered_are n (p ∷ ps) h = (packet_is n p h.0, numbered_are ((n + 1) % 256) ps h.1)

-- of these packets some are left, and the others went out one by one
abbrev pub PacketsOn : (all left : List (List ℕ)) (before held : Option (List Piece)) → Type 0
PacketsOn all left before held = AllByRecursion IsPacket all → AllByRecursion IsPacket left × CutOn packet_size 1 before held

pub packets_none : (all : List (List ℕ)) (held : Option (List Piece)) → PacketsOn all all held held
packets_none all held = λ h. (h, cut_none packet_size 1 held)

some_packet : (bytes : List ℕ) → IsPacket bytes → 0 < length bytes
some_packet bytes is = omega (arith, is)

whole_packet : (bytes : List ℕ) → IsPacket bytes → length bytes ≤ packet_size bytes
whole_packet bytes is = omega (arith, is)

pub packets_more : (all left : List (List ℕ)) (next : List ℕ) (before held out : Option (List Piece)) (at : Task) → PacketsOn all (next ∷ left) before held → Adds held out (λ more. more ≡ piece next at ∷ []) → PacketsOn all left before out
packets_more all left next before held out at on puts = λ h.
    let p = on h in (p.0.1, cut_more packet_size 1 1 before held out next at (omega arith) (some_packet next p.0.0) (whole_packet next p.0.0) (λ more. p.0.0) p.1 puts)

pub packets_part : (all left : List (List ℕ)) (next : List ℕ) (before held out : Option (List Piece)) (at : Task) → PacketsOn all (next ∷ left) before held → Adds held out (IsPartOf next at) → AllByRecursion IsPacket all → Adds before out (AreCut packet_size)
packets_part all left next before held out at on part = λ h.
    let p = on h in
    let few : length next ≤ packet_size next = whole_packet next p.0.0 in
    cut_part packet_size 1 before held out next at (omega arith) (λ prefix begins. packet_few next prefix few begins) p.1 part

pub packets_cut : (all left : List (List ℕ)) (before held : Option (List Piece)) → PacketsOn all left before held → AllByRecursion IsPacket all → Adds before held (AreCut packet_size)
packets_cut all left before held on = λ h. let p = on h in cut_so packet_size 1 before held p.1

pub packets_some : (all left : List (List ℕ)) (before held : Option (List Piece)) → PacketsOn all left before held → AllByRecursion IsPacket all → Adds before held NoneIsEmpty
packets_some all left before held on = λ h. let p = on h in cut_some packet_size 1 before held p.1
