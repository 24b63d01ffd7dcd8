-- Blocks by size in pieces: what is found there, and what the calls make of them.
use Rattle.std.proofs.Common.{subst, ◌≡◌, ℕ, ◌+◌, ◌-◌, ◌*◌, ◌<◌, ◌≤◌, min, suc, true, false, ◌⊎◌, inl, inr, List, [], ◌∷◌, ◌++◌, length, take, drop, get_or, set, refl, sym, ap, ◌∙◌, arith, Option}
use Rattle.std.specs.List.{AllByRecursion, insert, remove}
use Rattle.std.proofs.lemmas.Bool.Decides.{nat_tests}
use Rattle.std.proofs.lemmas.List.{append-nil, append_assoc, length-append, length-drop, length_push, get_or_at, set_at, take_at, drop_at}
use Rattle.qc_tiles.specs.declared.blocks.Block.{Block}
use Rattle.qc_tiles.specs.Sizes.{is_smaller, insert_block, IsBySize, Indexed, Parts, block_words, first_of, last_of}
use Rattle.qc_tiles.specs.Pieces.{gathered, is_below, Filled, IsLocated, IsEdited}
use Rattle.qc_tiles.proofs.Halves.{same_halves}
use Rattle.qc_tiles.proofs.Points.{each_front, each_back}
use Rattle.qc_tiles.proofs.Sorting.{itself, insert-behind, insert-front, none_smaller, insert-length, insert-words}
use Rattle.qc_tiles.proofs.Tilings.{each_both}

abbrev pub AreSmaller : Block → List Block → Type 0
AreSmaller b xs = AllByRecursion (λ x. is_smaller b.first b.words x ≡ true) xs

abbrev pub AreLarger : Block → List Block → Type 0
AreLarger b xs = AllByRecursion (λ x. is_smaller b.first b.words x ≡ false) xs

-- ---- one list

sorted_front : (xs ys : List Block) → IsBySize (xs ++ ys) → IsBySize xs
sorted_front [] ys h = tt
sorted_front (x ∷ xs) ys h = (each_front _ xs ys h.0, sorted_front xs ys h.1)

sorted_back : (xs ys : List Block) → IsBySize (xs ++ ys) → IsBySize ys
sorted_back [] ys h = h
sorted_back (x ∷ xs) ys h = sorted_back xs ys h.1

-- those that are smaller than a block, and the others
pub record Cut (b : Block) (xs : List Block) : Type 0 where
  pub low : List Block
  pub high : List Block
  pub is : xs ≡ low ++ high
  pub smaller : AreSmaller b low
  pub larger : AreLarger b high

pub cut_at : (b : Block) (xs : List Block) → IsBySize xs → Cut b xs
cut_at b [] h = record { low = []; high = []; is = refl; smaller = tt; larger = tt }
cut_at b (x ∷ xs) h =
    elim (is_smaller b.first b.words x) as (λ v. is_smaller b.first b.words x ≡ v → Cut b (x ∷ xs)) [
      | true ↦ λ e. behind e (cut_at b xs h.1)
      | false ↦ λ e. record { low = []; high = x ∷ xs; is = refl; smaller = tt; larger = (e, none_smaller b x xs e h.0) }
    ] refl
  where
    behind : is_smaller b.first b.words x ≡ true → Cut b xs → Cut b (x ∷ xs)
    behind e c = record { low = x ∷ c.low; high = c.high; is = ap (λ ys. x ∷ ys) c.is; smaller = (e, c.smaller); larger = c.larger }

insert_between : (b : Block) (low high : List Block) → AreSmaller b low → AreLarger b high → insert_block b (low ++ high) ≡ low ++ b ∷ high
insert_between b [] [] s l = refl
insert_between b [] (x ∷ xs) s l = insert-front b x xs l.0
insert_between b (x ∷ xs) high s l = insert-behind b x (xs ++ high) s.0 ∙ ap (λ ys. x ∷ ys) (insert_between b xs high s.1 l)

-- ---- one piece, and those behind it

all_below : (b : Block) (p : List Block) → IsBySize p → is_below b p ≡ true → AreSmaller b p
all_below b [] h e = tt
all_below b (x ∷ []) h e = (e, tt)
all_below b (x ∷ y ∷ p) h e = let rest = all_below b (y ∷ p) h.1 e in (still h.0.0 rest.0, rest)
  where
    still : is_smaller x.first x.words y ≡ false → is_smaller b.first b.words y ≡ true → is_smaller b.first b.words x ≡ true
    still g k = grind (arith, nat_tests)

below_all : (b : Block) (p : List Block) → AreSmaller b p → is_below b p ≡ true
below_all b [] h = refl
below_all b (x ∷ []) h = h.0
below_all b (x ∷ y ∷ p) h = below_all b (y ∷ p) h.1

not_below : (b x : Block) (p : List Block) → AreLarger b (x ∷ p) → is_below b (x ∷ p) ≡ false
not_below b x [] h = h.0
not_below b x (y ∷ p) h = not_below b y p h.1

behind_last : (b : Block) (p ys : List Block) → is_below b p ≡ false → IsBySize (p ++ ys) → AreLarger b ys
behind_last b [] ys e h = absurd (cc e)
behind_last b (x ∷ []) ys e h = none_smaller b x ys e h.0
behind_last b (x ∷ y ∷ p) ys e h = behind_last b (y ∷ p) ys e h.1

none_below : (b : Block) (ps : List (List Block)) → Filled 128 ps → AreLarger b (gathered ps) → AllByRecursion (λ p. is_below b p ≡ false) ps
none_below b [] f l = tt
none_below b ([] ∷ ps) f l = absurd (omega (arith, f.0))
none_below b ((x ∷ p) ∷ ps) f l = (not_below b x p (each_front _ (x ∷ p) (gathered ps) l), none_below b ps f.2 (each_back _ (x ∷ p) (gathered ps) l))

-- ---- pieces

-- pieces of smaller blocks alone, and the others
pub record Halved (b : Block) (ps : List (List Block)) : Type 0 where
  pub before : List (List Block)
  pub from : List (List Block)
  pub is : ps ≡ before ++ from
  pub below : AllByRecursion (λ p. is_below b p ≡ true) before
  pub above : AllByRecursion (λ p. is_below b p ≡ false) from
  pub smaller : AreSmaller b (gathered before)

pub halved : (b : Block) (least : ℕ) (ps : List (List Block)) → Filled least ps → IsBySize (gathered ps) → Halved b ps
halved b least [] f h = record { before = []; from = []; is = refl; below = tt; above = tt; smaller = tt }
halved b least (p ∷ ps) f h =
    elim (is_below b p) as (λ v. is_below b p ≡ v → Halved b (p ∷ ps)) [
      | true ↦ λ e. behind e (halved b 128 ps f.2 (sorted_back p (gathered ps) h))
      | false ↦ λ e. record { before = []; from = p ∷ ps; is = refl; below = tt; above = (e, none_below b ps f.2 (behind_last b p (gathered ps) e h)); smaller = tt }
    ] refl
  where
    behind : is_below b p ≡ true → Halved b ps → Halved b (p ∷ ps)
    behind e r = record {
      before = p ∷ r.before;
      from = r.from;
      is = ap (λ qs. p ∷ qs) r.is;
      below = (e, r.below);
      above = r.above;
      smaller = each_both _ p (gathered r.before) (all_below b p (sorted_front p (gathered ps) h) e) r.smaller;
    }

pub gathered-append : (ps qs : List (List Block)) → gathered (ps ++ qs) ≡ gathered ps ++ gathered qs
gathered-append [] qs = refl
gathered-append (p ∷ ps) qs = ap (λ xs. p ++ xs) (gathered-append ps qs) ∙ sym (append_assoc p (gathered ps) (gathered qs))

record Last (ps : List (List Block)) : Type 0 where
  front : List (List Block)
  last : List Block
  is : ps ≡ front ++ last ∷ []

last_in : (p : List Block) (ps : List (List Block)) → Last (p ∷ ps)
last_in p [] = record { front = []; last = p; is = refl }
last_in p (q ∷ ps) = let r = last_in q ps in record { front = p ∷ r.front; last = r.last; is = ap (λ qs. p ∷ qs) r.is }

located_by : (b : Block) (before from : List (List Block)) (at : ℕ) → AreSmaller b (gathered before) → AllByRecursion (λ p. is_below b p ≡ false) from → IsBySize (gathered (before ++ from)) → 0 < length (before ++ from)
    → at ≡ min (length before) (length (before ++ from) - 1) → IsLocated b (before ++ from) at
located_by b [] [] at s a h some is = absurd (omega (arith, some))
located_by b (q ∷ qs) [] at s a h some is =
    let r = last_in q qs in
    let whole : (q ∷ qs) ++ [] ≡ r.front ++ (r.last ++ []) ∷ [] = append-nil (q ∷ qs) ∙ (r.is ∙ ap (λ p. r.front ++ p ∷ []) (sym (append-nil r.last))) in
    let all : gathered (q ∷ qs) ≡ gathered r.front ++ r.last = ap gathered r.is ∙ (gathered-append r.front (r.last ∷ []) ∙ ap (λ xs. gathered r.front ++ xs) (append-nil r.last)) in
    record {
      before = r.front;
      low = r.last;
      high = [];
      after = [];
      is = whole;
      index = omega (arith, ap length whole, length-append r.front ((r.last ++ []) ∷ []), ap length r.is, length-append r.front (r.last ∷ []), is);
      smaller = subst (λ xs. AreSmaller b xs) all s;
      larger = tt;
      last = λ _. refl;
    }
located_by b before (p ∷ after) at s a h some is =
    let sorted = sorted_back (gathered before) (p ++ gathered after) (subst (λ xs. IsBySize xs) (gathered-append before (p ∷ after)) h) in
    let c = cut_at b p (sorted_front p (gathered after) sorted) in
    record {
      before = before;
      low = c.low;
      high = c.high;
      after = after;
      is = ap (λ q. before ++ q ∷ after) c.is;
      index = omega (arith, length-append before (p ∷ after), is);
      smaller = each_both _ (gathered before) c.low s c.smaller;
      larger = each_both _ c.high (gathered after) c.larger (behind_last b p (gathered after) a.0 sorted);
      last = λ e. absurd (cc (a.0, below_all b p (subst (λ xs. AreSmaller b xs) (sym (c.is ∙ (ap (λ xs. c.low ++ xs) e ∙ append-nil c.low))) c.smaller)));
    }

pub located : (b : Block) (ps : List (List Block)) (at : ℕ) → IsBySize (gathered ps) → 0 < length ps → (r : Halved b ps) → at ≡ min (length r.before) (length ps - 1) → IsLocated b ps at
located b ps at h some r is =
    subst (λ qs. IsLocated b qs at) (sym r.is)
    (located_by b r.before r.from at r.smaller r.above (subst (λ qs. IsBySize (gathered qs)) r.is h) (subst (λ qs. 0 < length qs) r.is some) (is ∙ ap (λ qs. min (length r.before) (length qs - 1)) r.is))

short_in : (least : ℕ) (before : List (List Block)) (p : List Block) (after : List (List Block)) → Filled least (before ++ p ∷ after) → length p < 256
short_in least [] p after f = f.1
short_in least (q ∷ before) p after f = short_in 128 before p after f.2

-- ---- a change in the piece

regrouped : (before : List (List Block)) (low high : List Block) (after : List (List Block)) → gathered (before ++ (low ++ high) ∷ after) ≡ (gathered before ++ low) ++ (high ++ gathered after)
regrouped before low high after =
    gathered-append before ((low ++ high) ∷ after)
    ∙ (ap (λ xs. gathered before ++ xs) (append_assoc low high (gathered after)) ∙ sym (append_assoc (gathered before) low (high ++ gathered after)))

module _ {b : Block} {ps : List (List Block)} {at : ℕ} (l : IsLocated b ps at) where
  -- the piece at the index
  pub piece_at : (x : List Block) → x ≡ get_or ps at x → x ≡ l.low ++ l.high
  piece_at x h = h ∙ (ap (λ qs. get_or qs at x) l.is ∙ get_or_at l.before (l.low ++ l.high) l.after x at l.index)

  parts_of : (x : List Block) (P : List Block → List Block → Type 0) → x ≡ get_or ps at x → Parts b.first b.words x P → P l.low l.high
  parts_of x P h parts = parts l.low l.high (piece_at x h) (each_back _ (gathered l.before) l.low l.smaller) (each_front _ l.high (gathered l.after) l.larger)

  pub short : Filled 0 ps → length (l.low ++ l.high) < 256
  short f = short_in 0 l.before (l.low ++ l.high) l.after (subst (λ qs. Filled 0 qs) l.is f)

  set_is : (p : List Block) → set ps at p ≡ l.before ++ p ∷ l.after
  set_is p = ap (λ qs. set qs at p) l.is ∙ set_at l.before (l.low ++ l.high) l.after p at l.index

  abbrev edited : (p : List Block) → Filled 0 ps → IsEdited at (set ps at p)
  edited p f = record { before = l.before; was = l.low ++ l.high; now = p; after = l.after; is = set_is p; index = l.index; filled = subst (λ qs. Filled 0 qs) l.is f }

  pub put_edits : (x p : List Block) → Filled 0 ps → x ≡ get_or ps at x → Parts b.first b.words x (λ low high. p ≡ low ++ b ∷ high) → (e : IsEdited at (set ps at p)) × (length e.was ≤ length e.now) × (length e.now < 384)
  put_edits x p f x_is parts =
      let longer = ap length (parts_of x (λ low high. p ≡ low ++ b ∷ high) x_is parts) ∙ length-append l.low (b ∷ l.high) in
      (edited p f, omega (arith, longer, length-append l.low l.high), omega (arith, longer, length-append l.low l.high, short f))

  pub gone_edits : (x p : List Block) → Filled 0 ps → x ≡ get_or ps at x → Parts b.first b.words x (λ low high. p ≡ low ++ drop 1 high) → (e : IsEdited at (set ps at p)) × (length e.now ≤ length e.was)
  gone_edits x p f x_is parts =
      let is = parts_of x (λ low high. p ≡ low ++ drop 1 high) x_is parts in
      (edited p f, omega (arith, ap length is, length-append l.low (drop 1 l.high), length-append l.low l.high, length-drop 1 l.high))

  whole : gathered ps ≡ (gathered l.before ++ l.low) ++ (l.high ++ gathered l.after)
  whole = ap gathered l.is ∙ regrouped l.before l.low l.high l.after

  pub put : (x p : List Block) → x ≡ get_or ps at x → Parts b.first b.words x (λ low high. p ≡ low ++ b ∷ high) → gathered (set ps at p) ≡ insert_block b (gathered ps)
  put x p x_is parts =
      let is = parts_of x (λ low high. p ≡ low ++ b ∷ high) x_is parts in
      ap gathered (set_is p ∙ ap (λ q. l.before ++ q ∷ l.after) is)
      ∙ (regrouped l.before l.low (b ∷ l.high) l.after
      ∙ (sym (insert_between b (gathered l.before ++ l.low) (l.high ++ gathered l.after) l.smaller l.larger) ∙ ap (insert_block b) (sym whole)))

  without_first : (high tail : List Block) (after : List (List Block)) → (high ≡ [] → after ≡ []) → high ++ gathered after ≡ b ∷ tail → drop 1 high ++ gathered after ≡ tail
  without_first [] tail after last is = absurd (cc (sym is ∙ ap gathered (last refl)))
  without_first (x ∷ xs) tail after last is = ap (drop 1) is

  pub gone : (x p others : List Block) → x ≡ get_or ps at x → Parts b.first b.words x (λ low high. p ≡ low ++ drop 1 high) → gathered ps ≡ insert_block b others → IsBySize others → gathered (set ps at p) ≡ others
  gone x p others x_is parts from sorted =
      let is = parts_of x (λ low high. p ≡ low ++ drop 1 high) x_is parts in
      let c = cut_at b others sorted in
      let put_between = sym whole ∙ (from ∙ (ap (insert_block b) c.is ∙ insert_between b c.low c.high c.smaller c.larger)) in
      let same = same_halves (is_smaller b.first b.words) (gathered l.before ++ l.low) (l.high ++ gathered l.after) c.low (b ∷ c.high) put_between l.smaller l.larger c.smaller (itself b, c.larger) in
      ap gathered (set_is p ∙ ap (λ q. l.before ++ q ∷ l.after) is)
      ∙ (regrouped l.before l.low (drop 1 l.high) l.after
      ∙ (ap (λ xs. xs ++ (drop 1 l.high ++ gathered l.after)) same.0 ∙ (ap (λ xs. c.low ++ xs) (without_first l.high c.high l.after l.last same.1) ∙ sym c.is)))

  first_behind : (high : List Block) (after : List (List Block)) → (high ≡ [] → after ≡ []) → first_of high ≡ first_of (high ++ gathered after)
  first_behind [] after last = ap (λ qs. first_of (gathered qs)) (sym (last refl))
  first_behind (x ∷ xs) after last = refl

  pub found : (x : List Block) (o : Option Block) → x ≡ get_or ps at x → Parts b.first b.words x (λ low high. o ≡ first_of high) → Parts b.first b.words (gathered ps) (λ low high. o ≡ first_of high)
  found x o x_is parts = λ low high all passes fails.
      let is = parts_of x (λ low high. o ≡ first_of high) x_is parts in
      let same = same_halves (is_smaller b.first b.words) (gathered l.before ++ l.low) (l.high ++ gathered l.after) low high (sym whole ∙ all) l.smaller l.larger passes fails in
      is ∙ (first_behind l.high l.after l.last ∙ ap first_of same.1)

-- ---- the last block

last_behind : (xs : List Block) (y : Block) (ys : List Block) → last_of (xs ++ y ∷ ys) ≡ last_of (y ∷ ys)
last_behind [] y ys = refl
last_behind (x ∷ []) y ys = refl
last_behind (x ∷ z ∷ xs) y ys = last_behind (z ∷ xs) y ys

last_piece : (least : ℕ) (d p : List Block) (ps : List (List Block)) → Filled least (p ∷ ps) → last_of (get_or (p ∷ ps) (length ps) d) ≡ last_of (gathered (p ∷ ps))
last_piece least d p [] f = ap last_of (sym (append-nil p))
last_piece least d p ([] ∷ ps) f = absurd (omega (arith, f.2.0))
last_piece least d p ((y ∷ ys) ∷ ps) f = last_piece 128 d (y ∷ ys) ps f.2 ∙ sym (last_behind p y (ys ++ gathered ps))

pub last_at : (ps : List (List Block)) (x : List Block) (n : ℕ) → n ≡ length ps → 0 < length ps → Filled 0 ps → x ≡ get_or ps (n - 1) x → last_of x ≡ last_of (gathered ps)
last_at [] x n many some f is = absurd (omega (arith, some))
last_at (p ∷ ps) x n many some f is =
    let e : n - 1 ≡ length ps = omega (arith, many) in
    ap last_of is ∙ (ap (λ k. last_of (get_or (p ∷ ps) k x)) e ∙ last_piece 0 x p ps f)

-- ---- how many blocks the pieces have

filled_behind : (least : ℕ) (before xs ys : List (List Block)) → ((n : ℕ) → n ≤ 128 → Filled n xs → Filled n ys) → least ≤ 128 → Filled least (before ++ xs) → Filled least (before ++ ys)
filled_behind least [] xs ys more few f = more least few f
filled_behind least (p ∷ before) xs ys more few f = (f.0, f.1, filled_behind 128 before xs ys more (omega arith) f.2)

refilled : (least : ℕ) (before : List (List Block)) (was now : List Block) (after : List (List Block)) → (length before + least ≡ 0) ⊎ ((length was ≤ length now) ⊎ (128 ≤ length now)) → length now < 256 → Filled least (before ++ was ∷ after) → least ≤ 128 → Filled least (before ++ now ∷ after)
refilled least [] was now after more less f few = (enough more, less, f.2)
  where
    enough : (0 + least ≡ 0) ⊎ ((length was ≤ length now) ⊎ (128 ≤ length now)) → least ≤ length now
    enough (inl none) = omega (arith, none)
    enough (inr (inl k)) = omega (arith, f.0, k)
    enough (inr (inr k)) = omega (arith, few, k)
refilled least (p ∷ before) was now after more less f few = (f.0, f.1, refilled 128 before was now after (later more) less f.2 (omega arith))
  where
    later : (length (p ∷ before) + least ≡ 0) ⊎ ((length was ≤ length now) ⊎ (128 ≤ length now)) → (length before + 128 ≡ 0) ⊎ ((length was ≤ length now) ⊎ (128 ≤ length now))
    later (inl none) = absurd (omega (arith, none))
    later (inr other) = inr other

pub cut_filled : (before : List (List Block)) (was low high : List Block) (after : List (List Block)) → Filled 0 (before ++ was ∷ after) → 128 ≤ length low → length low < 256 → 128 ≤ length high → length high < 256 → Filled 0 (before ++ low ∷ high ∷ after)
cut_filled before was low high after f a b c d = filled_behind 0 before (was ∷ after) (low ∷ high ∷ after) (λ n few h. (omega (arith, few, a), b, (c, d, h.2))) (omega arith) f

full : (ps : List (List Block)) → Filled 128 ps → 128 * length ps ≤ length (gathered ps)
full [] f = omega arith
full (p ∷ ps) f = omega (arith, f.0, full ps f.2, length-append p (gathered ps))

-- a long piece makes up for the first
pub many : (least : ℕ) (before : List (List Block)) (was now : List Block) (after : List (List Block)) → least ≤ 128 → Filled least (before ++ was ∷ after) → 256 ≤ length now → 128 * length (before ++ now ∷ after) + least ≤ length (gathered (before ++ now ∷ after))
many least [] was now after few f long = omega (arith, few, full after f.2, long, length-append now (gathered after))
many least (p ∷ before) was now after few f long =
    omega (arith, f.0, many 128 before was now after (omega arith) f.2 long, length-append p (gathered (before ++ now ∷ after)))

-- ---- a long piece is cut, and a short one joined

module _ {at : ℕ} {ps : List (List Block)} (e : IsEdited at ps) where
  pub edited_at : (x : List Block) → x ≡ get_or ps at x → x ≡ e.now
  edited_at x h = h ∙ (ap (λ qs. get_or qs at x) e.is ∙ get_or_at e.before e.now e.after x at e.index)

  pub cut_is : (low high : List Block) → insert (set ps at low) (at + 1) high ≡ e.before ++ low ∷ high ∷ e.after
  cut_is low high =
      let set_low = ap (λ qs. set qs at low) e.is ∙ (set_at e.before e.now e.after low at e.index ∙ sym (append_assoc e.before (low ∷ []) e.after)) in
      let index = length_push e.before low ∙ ap (λ n. n + 1) e.index in
      ap (λ qs. insert qs (at + 1) high) set_low
      ∙ (ap (λ qs. qs ++ high ∷ drop (at + 1) ((e.before ++ low ∷ []) ++ e.after)) (take_at (e.before ++ low ∷ []) e.after (at + 1) index)
      ∙ (ap (λ qs. (e.before ++ low ∷ []) ++ high ∷ qs) (drop_at (e.before ++ low ∷ []) e.after (at + 1) index) ∙ append_assoc e.before (low ∷ []) (high ∷ e.after)))

  pub cut_blocks : (low high : List Block) → low ++ high ≡ e.now → gathered (e.before ++ low ∷ high ∷ e.after) ≡ gathered ps
  cut_blocks low high is =
      gathered-append e.before (low ∷ high ∷ e.after)
      ∙ (ap (λ xs. gathered e.before ++ xs) (sym (append_assoc low high (gathered e.after)) ∙ ap (λ xs. xs ++ gathered e.after) is)
      ∙ (sym (gathered-append e.before (e.now ∷ e.after)) ∙ sym (ap gathered e.is)))

  pub spare_left : 256 ≤ length e.now → 128 * length ps ≤ length (gathered ps)
  spare_left long = subst (λ qs. 128 * length qs ≤ length (gathered qs)) (sym e.is) (omega (arith, many 0 e.before e.was e.now e.after (omega arith) e.filled long))

  pub still_filled : (at ≡ 0) ⊎ ((length e.was ≤ length e.now) ⊎ (128 ≤ length e.now)) → length e.now < 256 → Filled 0 ps
  still_filled more less = subst (λ qs. Filled 0 qs) (sym e.is) (refilled 0 e.before e.was e.now e.after (ends more) less e.filled (omega arith))
    where
      ends : (at ≡ 0) ⊎ ((length e.was ≤ length e.now) ⊎ (128 ≤ length e.now)) → (length e.before + 0 ≡ 0) ⊎ ((length e.was ≤ length e.now) ⊎ (128 ≤ length e.now))
      ends (inl first) = inl (omega (arith, e.index, first))
      ends (inr other) = inr other

  pub was_short : length e.was < 256
  was_short = short_in 0 e.before e.was e.after e.filled

-- the piece below the one that is edited
pub record Below {at : ℕ} {ps : List (List Block)} (e : IsEdited at ps) : Type 0 where
  pub front : List (List Block)
  pub low : List Block
  pub is : e.before ≡ front ++ low ∷ []
  pub index : length front ≡ at - 1
  pub short : length low < 256
  pub filled : Filled 0 (front ++ low ∷ e.after)

pub below_of : {at : ℕ} {ps : List (List Block)} (e : IsEdited at ps) → 0 < at → Below e
below_of {at = at} e some = found e.before e.index e.filled refl
  where
    found : (before : List (List Block)) → length before ≡ at → Filled 0 (before ++ e.was ∷ e.after) → e.before ≡ before → Below e
    found [] index filled same = absurd (omega (arith, index, some))
    found (q ∷ qs) index filled same =
        let r = last_in q qs in
        let all = subst (λ ps. Filled 0 ps) (ap (λ ps. ps ++ e.was ∷ e.after) r.is ∙ append_assoc r.front (r.last ∷ []) (e.was ∷ e.after)) filled in
        record {
          front = r.front;
          low = r.last;
          is = same ∙ r.is;
          index = omega (arith, ap length r.is, length_push r.front r.last, index);
          short = short_in 0 r.front r.last (e.was ∷ e.after) all;
          filled = filled_behind 0 r.front (r.last ∷ e.was ∷ e.after) (r.last ∷ e.after) (λ n few h. (h.0, h.1, h.2.2)) (omega arith) all;
        }

module _ {at : ℕ} {ps : List (List Block)} (e : IsEdited at ps) (j : Below e) {qs : List (List Block)} (without : qs ≡ remove ps at) where
  removed : qs ≡ j.front ++ j.low ∷ e.after
  removed =
      let front = ap (take at) e.is ∙ take_at e.before (e.now ∷ e.after) at e.index in
      let back = ap (drop (suc at)) (e.is ∙ sym (append_assoc e.before (e.now ∷ []) e.after))
      ∙ drop_at (e.before ++ e.now ∷ []) e.after (suc at) (omega (arith, length_push e.before e.now, e.index)) in
      without
      ∙ (ap (λ rs. rs ++ drop (suc at) ps) front ∙ (ap (λ rs. e.before ++ rs) back ∙ (ap (λ rs. rs ++ e.after) j.is ∙ append_assoc j.front (j.low ∷ []) e.after)))

  pub below_at : (x : List Block) → x ≡ get_or qs (at - 1) x → x ≡ j.low
  below_at x h = h ∙ (ap (λ rs. get_or rs (at - 1) x) removed ∙ get_or_at j.front j.low e.after x (at - 1) j.index)

  joined_is : (p : List Block) → set qs (at - 1) p ≡ j.front ++ p ∷ e.after
  joined_is p = ap (λ rs. set rs (at - 1) p) removed ∙ set_at j.front j.low e.after p (at - 1) j.index

  abbrev joined : (p : List Block) → IsEdited (at - 1) (set qs (at - 1) p)
  joined p = record { before = j.front; was = j.low; now = p; after = e.after; is = joined_is p; index = j.index; filled = j.filled }

  pub joined_edits : (x upper p : List Block) → x ≡ get_or qs (at - 1) x → p ≡ x ++ upper → length upper < 128 → (d : IsEdited (at - 1) (set qs (at - 1) p)) × (length d.was ≤ length d.now) × (length d.now < 384)
  joined_edits x upper p x_is is less =
      let longer = ap length is ∙ length-append x upper in
      let same = ap length (below_at x x_is) in
      (joined p, omega (arith, longer, same), omega (arith, longer, same, less, j.short))

  pub joined_blocks : (x upper p : List Block) → x ≡ get_or qs (at - 1) x → upper ≡ get_or ps at upper → p ≡ x ++ upper → gathered (set qs (at - 1) p) ≡ gathered ps
  joined_blocks x upper p x_is upper_is is =
      let whole = is ∙ (ap (λ xs. xs ++ upper) (below_at x x_is) ∙ ap (λ xs. j.low ++ xs) (edited_at e upper upper_is)) in
      let front = ap gathered j.is ∙ (gathered-append j.front (j.low ∷ []) ∙ ap (λ xs. gathered j.front ++ xs) (append-nil j.low)) in
      ap gathered (joined_is p ∙ ap (λ q. j.front ++ q ∷ e.after) whole)
      ∙ (regrouped j.front j.low e.now e.after
      ∙ (ap (λ xs. xs ++ (e.now ++ gathered e.after)) (sym front) ∙ (sym (gathered-append e.before (e.now ∷ e.after)) ∙ sym (ap gathered e.is))))

-- ---- the whole

pub same_index : (xs ys : List Block) (n m : ℕ) → xs ≡ ys → n ≡ m → ◌≡◌ {A = Indexed} record { blocks = xs; room = n } record { blocks = ys; room = m }
same_index xs ys n m h k = rw (h, k) refl

pub one_more : (b : Block) (s others : List Block) → s ≡ insert_block b others → length s ≡ length others + 1
one_more b s others is = ap length is ∙ insert-length b others

pub words_more : (b : Block) (s others : List Block) → s ≡ insert_block b others → block_words s ≡ block_words others + b.words
words_more b s others is = ap block_words is ∙ insert-words b others
