-- What each change makes of a tiling is a tiling of the same words.
use Rattle.std.proofs.Common.{subst, ◌≡◌, ℕ, ◌+◌, ◌-◌, ◌≤◌, Bool, true, false, cond, List, [], ◌∷◌, ◌++◌, take, drop, nat_le, refl, sym, ap, ◌∙◌, arith, Option, Some, None}
use Rattle.std.specs.Prelude.{◌==◌}
use Rattle.std.specs.List.{AllByRecursion}
use Rattle.std.proofs.lemmas.Bool.{leb-true}
use Rattle.qc_tiles.specs.declared.blocks.Tile.{Tile}
use Rattle.qc_types.specs.Blocks.{least_block, raised}
use Rattle.qc_tiles.specs.Tiles.{tile, free_tile, CoversFrom, FreeApart, IsTiling, replaced, cut, best, cut_from, after_take, after_trim, after_give_back, after_pin, may_move, movable, swapped, after_move_down}
use Rattle.qc_tiles.specs.Kept.{tile_at}
use Rattle.qc_tiles.proofs.Tilings.{AreLarge, AreUnpinned, each_both, joined-tiling, joined_apart}
use Rattle.qc_tiles.proofs.Walks.{split_at, none_swapped}
use Rattle.qc_tiles.proofs.Standing.{replaced_at, best_at}

-- ---- one block becomes several

pub covers_then : (a b c : ℕ) (xs ys : List Tile) → CoversFrom a b xs → CoversFrom b c ys → CoversFrom a c (xs ++ ys)
covers_then a b c [] ys h k = rw h k
covers_then a b c (x ∷ xs) ys h k = (h.0, covers_then (a + x.words) b c xs ys h.1 k)

replaced_covers_more : (place first end : ℕ) (f : Tile → List Tile) (t : Tile) (ts : List Tile) (b : Bool) → CoversFrom t.first (t.first + t.words) (f t) → t.first ≡ first → CoversFrom (first + t.words) end (replaced place f ts)
    → CoversFrom first end (cond b (f t ++ replaced place f ts) (t ∷ replaced place f ts))
replaced_covers_more place first end f t ts true parts at rest = covers_then first (first + t.words) end (f t) (replaced place f ts) (subst (λ (m : ℕ). CoversFrom m (m + t.words) (f t)) at parts) rest
replaced_covers_more place first end f t ts false parts at rest = (at, rest)

pub replaced-covers : (place first end : ℕ) (f : Tile → List Tile) (ts : List Tile) → ((t : Tile) → least_block ≤ t.words → CoversFrom t.first (t.first + t.words) (f t)) → CoversFrom first end ts → AreLarge ts → CoversFrom first end (replaced place f ts)
replaced-covers place first end f [] divides h large = h
replaced-covers place first end f (t ∷ ts) divides h large =
    replaced_covers_more place first end f t ts (t.first == place) (divides t large.0) h.0 (replaced-covers place (first + t.words) end f ts divides h.1 large.1)

replaced_each_more : (P : Tile → Type 0) (place : ℕ) (f : Tile → List Tile) (t : Tile) (ts : List Tile) (b : Bool) → AllByRecursion P (f t) → P t → AllByRecursion P (replaced place f ts) → AllByRecursion P (cond b (f t ++ replaced place f ts) (t ∷ replaced place f ts))
replaced_each_more P place f t ts true parts here rest = each_both P (f t) (replaced place f ts) parts rest
replaced_each_more P place f t ts false parts here rest = (here, rest)

pub replaced-each : (P : Tile → Type 0) (place : ℕ) (f : Tile → List Tile) (ts : List Tile) → ((t : Tile) → P t → AllByRecursion P (f t)) → AllByRecursion P ts → AllByRecursion P (replaced place f ts)
replaced-each P place f [] each h = h
replaced-each P place f (t ∷ ts) each h = replaced_each_more P place f t ts (t.first == place) (each t h.0) h.0 (replaced-each P place f ts each h.1)

-- ---- cutting

cut_covers_by : (wanted : ℕ) (pinned : Bool) (t : Tile) (b : Bool) → (b ≡ true → wanted + least_block ≤ t.words)
    → CoversFrom t.first (t.first + t.words) (cond b (tile t.first wanted false pinned ∷ free_tile (t.first + wanted) (t.words - wanted) ∷ []) (tile t.first t.words false pinned ∷ []))
cut_covers_by wanted pinned t true h = (refl, (refl, omega (arith, h refl)))
cut_covers_by wanted pinned t false h = (refl, refl)

pub cut-covers : (wanted : ℕ) (pinned : Bool) (t : Tile) → CoversFrom t.first (t.first + t.words) (cut wanted pinned t)
cut-covers wanted pinned t = cut_covers_by wanted pinned t (nat_le (wanted + least_block) t.words) (leb-true (wanted + least_block) t.words)

cut_large_by : (wanted : ℕ) (pinned : Bool) (t : Tile) (b : Bool) → (b ≡ true → wanted + least_block ≤ t.words) → least_block ≤ wanted → least_block ≤ t.words
    → AreLarge (cond b (tile t.first wanted false pinned ∷ free_tile (t.first + wanted) (t.words - wanted) ∷ []) (tile t.first t.words false pinned ∷ []))
cut_large_by wanted pinned t true h some large = (some, (omega (arith, h refl), tt))
cut_large_by wanted pinned t false h some large = (large, tt)

pub cut-large : (wanted : ℕ) (pinned : Bool) (t : Tile) → least_block ≤ wanted → least_block ≤ t.words → AreLarge (cut wanted pinned t)
cut-large wanted pinned t some large = cut_large_by wanted pinned t (nat_le (wanted + least_block) t.words) (leb-true (wanted + least_block) t.words) some large

cut_unpinned_by : (wanted : ℕ) (pinned : Bool) (t : Tile) (b : Bool) → AreUnpinned (cond b (tile t.first wanted false pinned ∷ free_tile (t.first + wanted) (t.words - wanted) ∷ []) (tile t.first t.words false pinned ∷ []))
cut_unpinned_by wanted pinned t true = (λ e. absurd (cc e), (λ e. refl, tt))
cut_unpinned_by wanted pinned t false = (λ e. absurd (cc e), tt)

pub cut-unpinned : (wanted : ℕ) (pinned : Bool) (t : Tile) → AreUnpinned (cut wanted pinned t)
cut-unpinned wanted pinned t = cut_unpinned_by wanted pinned t (nat_le (wanted + least_block) t.words)

pub raised_some : (need : ℕ) → least_block ≤ raised need
raised_some need = omega arith

-- ---- free blocks stay apart

abbrev pub head_free : List Tile → Bool
head_free [] = false
head_free (t ∷ ts) = t.free

pub apart_cons : (t : Tile) (ts : List Tile) → (t.free ≡ true → head_free ts ≡ false) → FreeApart ts → FreeApart (t ∷ ts)
apart_cons t [] h k = tt
apart_cons t (u ∷ us) h k = (h, k)

pub apart_head : (t : Tile) (ts : List Tile) → FreeApart (t ∷ ts) → t.free ≡ true → head_free ts ≡ false
apart_head t [] h e = refl
apart_head t (u ∷ us) h e = h.0 e

pub apart_tail : (t : Tile) (ts : List Tile) → FreeApart (t ∷ ts) → FreeApart ts
apart_tail t [] h = tt
apart_tail t (u ∷ us) h = h.1

-- blocks in place of the first of a list, of which none is free in front where that one isn't
pub apart_front : (xs : List Tile) (ys zs : List Tile) → FreeApart (xs ++ ys) → (head_free ys ≡ false → head_free zs ≡ false) → FreeApart zs → FreeApart (xs ++ zs)
apart_front [] ys zs h same rest = rest
apart_front (x ∷ []) ys zs h same rest = apart_cons x zs (λ e. same (apart_head x ys h e)) rest
apart_front (x ∷ y ∷ xs) ys zs h same rest = (h.0, apart_front (y ∷ xs) ys zs h.1 same rest)

pub apart_back : (xs ys : List Tile) → FreeApart (xs ++ ys) → FreeApart ys
apart_back [] ys h = h
apart_back (x ∷ xs) ys h = apart_back xs ys (apart_tail x (xs ++ ys) h)

cut_apart_by : (wanted : ℕ) (pinned : Bool) (t : Tile) (ts : List Tile) (b : Bool) → head_free ts ≡ false → FreeApart ts
    → FreeApart (cond b (tile t.first wanted false pinned ∷ free_tile (t.first + wanted) (t.words - wanted) ∷ []) (tile t.first t.words false pinned ∷ []) ++ ts)
cut_apart_by wanted pinned t ts true used h = (λ e. absurd (cc e), apart_cons (free_tile (t.first + wanted) (t.words - wanted)) ts (λ e. used) h)
cut_apart_by wanted pinned t ts false used h = apart_cons (tile t.first t.words false pinned) ts (λ e. absurd (cc e)) h

cut_head_by : (wanted : ℕ) (pinned : Bool) (t : Tile) (ts : List Tile) (b : Bool)
    → head_free (cond b (tile t.first wanted false pinned ∷ free_tile (t.first + wanted) (t.words - wanted) ∷ []) (tile t.first t.words false pinned ∷ []) ++ ts) ≡ false
cut_head_by wanted pinned t ts true = refl
cut_head_by wanted pinned t ts false = refl

-- a free block is cut
pub cut-apart : (wanted : ℕ) (pinned : Bool) (xs : List Tile) (t : Tile) (ts : List Tile) → t.free ≡ true → FreeApart (xs ++ (t ∷ ts)) → FreeApart (xs ++ (cut wanted pinned t ++ ts))
cut-apart wanted pinned xs t ts free h =
    let back = apart_back xs (t ∷ ts) h in
    apart_front xs (t ∷ ts) (cut wanted pinned t ++ ts) h (λ _. cut_head_by wanted pinned t ts (nat_le (wanted + least_block) t.words))
    (cut_apart_by wanted pinned t ts (nat_le (wanted + least_block) t.words) (apart_head t ts back free) (apart_tail t ts back))

-- ---- the changes

cut_best : (words wanted : ℕ) (ts : List Tile) (o : Option Tile) → IsTiling words ts → least_block ≤ wanted → best wanted ts ≡ o → IsTiling words (cut_from wanted o ts)
cut_best words wanted ts None h some e = h
cut_best words wanted ts (Some t) h some e =
    let one = best_at wanted ts t e in
    let k = one.0 in
    let made = replaced_at 0 words (cut wanted false) ts k h.covers h.large one.1.within in
    let split = split_at ts k one.1.within in
    let apart : FreeApart (take k ts ++ (tile_at ts k ∷ drop (k + 1) ts)) = subst (λ (x : List Tile). FreeApart x) split h.apart in
    record {
      covers = replaced-covers t.first 0 words (cut wanted false) ts (λ u large. cut-covers wanted false u) h.covers h.large;
      large = replaced-each (λ u. least_block ≤ u.words) t.first (cut wanted false) ts (λ u large. cut-large wanted false u some large) h.large;
      apart = subst (λ (x : List Tile). FreeApart x) (sym made ∙ ap (λ (u : Tile). replaced u.first (cut wanted false) ts) one.1.is) (cut-apart wanted false (take k ts) (tile_at ts k) (drop (k + 1) ts) (ap (λ (u : Tile). u.free) one.1.is ∙ one.1.free) apart);
      unpinned = replaced-each (λ u. u.free ≡ true → u.pinned ≡ false) t.first (cut wanted false) ts (λ u _. cut-unpinned wanted false u) h.unpinned;
    }

pub after_take-tiling : (words need : ℕ) (ts : List Tile) → IsTiling words ts → IsTiling words (after_take need ts)
after_take-tiling words need ts h = cut_best words (raised need) ts (best (raised need) ts) h (raised_some need) refl

pub after_trim-tiling : (words first used : ℕ) (ts : List Tile) → IsTiling words ts → IsTiling words (after_trim first used ts)
after_trim-tiling words first used ts h =
    joined-tiling words (replaced first (λ t. cut (raised used) t.pinned t) ts)
    (replaced-covers first 0 words (λ t. cut (raised used) t.pinned t) ts (λ u large. cut-covers (raised used) u.pinned u) h.covers h.large)
    (replaced-each (λ u. least_block ≤ u.words) first (λ t. cut (raised used) t.pinned t) ts (λ u large. cut-large (raised used) u.pinned u (raised_some used) large) h.large)
    (replaced-each (λ u. u.free ≡ true → u.pinned ≡ false) first (λ t. cut (raised used) t.pinned t) ts (λ u _. cut-unpinned (raised used) u.pinned u) h.unpinned)

pub after_give_back-tiling : (words first : ℕ) (ts : List Tile) → IsTiling words ts → IsTiling words (after_give_back first ts)
after_give_back-tiling words first ts h =
    joined-tiling words (replaced first (λ t. free_tile t.first t.words ∷ []) ts)
    (replaced-covers first 0 words (λ t. free_tile t.first t.words ∷ []) ts (λ u large. (refl, refl)) h.covers h.large)
    (replaced-each (λ u. least_block ≤ u.words) first (λ t. free_tile t.first t.words ∷ []) ts (λ u large. (large, tt)) h.large)
    (replaced-each (λ u. u.free ≡ true → u.pinned ≡ false) first (λ t. free_tile t.first t.words ∷ []) ts (λ u _. (λ e. refl, tt)) h.unpinned)

-- a block that is handed out in place of any one
pin_head_by : (first words : ℕ) (p : Bool) (t : Tile) (us vs : List Tile) (b : Bool) → t.free ≡ false → head_free (cond b (tile first words false p ∷ us) (t ∷ vs)) ≡ false
pin_head_by first words p t us vs true h = refl
pin_head_by first words p t us vs false h = h

pin_head : (place : ℕ) (p : Bool) (ts : List Tile) → head_free ts ≡ false → head_free (after_pin p place ts) ≡ false
pin_head place p [] h = refl
pin_head place p (t ∷ ts) h = pin_head_by t.first t.words p t (after_pin p place ts) (after_pin p place ts) (t.first == place) h

pin_apart_by : (p : Bool) (t : Tile) (us : List Tile) (b : Bool) → (t.free ≡ true → head_free us ≡ false) → FreeApart us → FreeApart (cond b (tile t.first t.words false p ∷ us) (t ∷ us))
pin_apart_by p t us true h rest = apart_cons (tile t.first t.words false p) us (λ e. absurd (cc e)) rest
pin_apart_by p t us false h rest = apart_cons t us h rest

pin_apart : (place : ℕ) (p : Bool) (ts : List Tile) → FreeApart ts → FreeApart (after_pin p place ts)
pin_apart place p [] h = tt
pin_apart place p (t ∷ ts) h =
    pin_apart_by p t (after_pin p place ts) (t.first == place) (λ e. pin_head place p ts (apart_head t ts h e)) (pin_apart place p ts (apart_tail t ts h))

pub after_pin-tiling : (words first : ℕ) (p : Bool) (ts : List Tile) → IsTiling words ts → IsTiling words (after_pin p first ts)
after_pin-tiling words first p ts h = record {
  covers = replaced-covers first 0 words (λ t. tile t.first t.words false p ∷ []) ts (λ u large. (refl, refl)) h.covers h.large;
  large = replaced-each (λ u. least_block ≤ u.words) first (λ t. tile t.first t.words false p ∷ []) ts (λ u large. (large, tt)) h.large;
  apart = pin_apart first p ts h.apart;
  unpinned = replaced-each (λ u. u.free ≡ true → u.pinned ≡ false) first (λ t. tile t.first t.words false p ∷ []) ts (λ u _. (λ e. absurd (cc e), tt)) h.unpinned;
}

-- ---- moving down

swapped_covers_by : (first end : ℕ) (t u : Tile) (us : List Tile) (b : Bool) → CoversFrom first end (t ∷ u ∷ us) → CoversFrom (first + t.words) end (swapped (u ∷ us))
    → CoversFrom first end (cond b (tile t.first u.words false false ∷ free_tile (t.first + u.words) t.words ∷ us) (t ∷ swapped (u ∷ us)))
swapped_covers_by first end t u us true h rest =
    let same : (first + u.words) + t.words ≡ (first + t.words) + u.words = omega arith in
    (h.0, (omega (arith, h.0), rw same h.1.1))
swapped_covers_by first end t u us false h rest = (h.0, rest)

pub swapped-covers : (first end : ℕ) (ts : List Tile) → CoversFrom first end ts → CoversFrom first end (swapped ts)
swapped-covers first end [] h = h
swapped-covers first end (t ∷ []) h = h
swapped-covers first end (t ∷ u ∷ us) h = swapped_covers_by first end t u us (may_move t u) h (swapped-covers (first + t.words) end (u ∷ us) h.1)

swapped_large_by : (t u : Tile) (us : List Tile) (b : Bool) → AreLarge (t ∷ u ∷ us) → AreLarge (swapped (u ∷ us)) → AreLarge (cond b (tile t.first u.words false false ∷ free_tile (t.first + u.words) t.words ∷ us) (t ∷ swapped (u ∷ us)))
swapped_large_by t u us true h rest = (h.1.0, (h.0, h.1.1))
swapped_large_by t u us false h rest = (h.0, rest)

pub swapped-large : (ts : List Tile) → AreLarge ts → AreLarge (swapped ts)
swapped-large [] h = h
swapped-large (t ∷ []) h = h
swapped-large (t ∷ u ∷ us) h = swapped_large_by t u us (may_move t u) h (swapped-large (u ∷ us) h.1)

swapped_unpinned_by : (t u : Tile) (us : List Tile) (b : Bool) → AreUnpinned (t ∷ u ∷ us) → AreUnpinned (swapped (u ∷ us)) → AreUnpinned (cond b (tile t.first u.words false false ∷ free_tile (t.first + u.words) t.words ∷ us) (t ∷ swapped (u ∷ us)))
swapped_unpinned_by t u us true h rest = (λ e. refl, (λ e. refl, h.1.1))
swapped_unpinned_by t u us false h rest = (h.0, rest)

pub swapped-unpinned : (ts : List Tile) → AreUnpinned ts → AreUnpinned (swapped ts)
swapped-unpinned [] h = h
swapped-unpinned (t ∷ []) h = h
swapped-unpinned (t ∷ u ∷ us) h = swapped_unpinned_by t u us (may_move t u) h (swapped-unpinned (u ∷ us) h.1)

pub after_move_down-tiling : (words : ℕ) (ts : List Tile) → IsTiling words ts → IsTiling words (after_move_down ts)
after_move_down-tiling words ts h = joined-tiling words (swapped ts) (swapped-covers 0 words ts h.covers) (swapped-large ts h.large) (swapped-unpinned ts h.unpinned)

pub after_move_down-none : (words : ℕ) (ts : List Tile) → IsTiling words ts → movable ts ≡ None → ts ≡ after_move_down ts
after_move_down-none words ts h none = sym (rw (none_swapped ts none) (joined_apart ts h.apart))
