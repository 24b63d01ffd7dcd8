-- The smallest free block that holds a need, and the largest one, among the free blocks by size.
use Rattle.std.proofs.Common.{subst, ◌≡◌, ℕ, ◌+◌, ◌<◌, ◌≤◌, Bool, true, false, cond, List, [], ◌∷◌, ◌++◌, max, nat_le, refl, sym, ap, ◌∙◌, arith, Option, Some, None, option_map}
use Rattle.std.specs.List.{AllByRecursion}
use Rattle.std.proofs.lemmas.Bool.Decides.{nat_tests}
use Rattle.qc_tiles.specs.declared.blocks.Block.{Block}
use Rattle.qc_tiles.specs.declared.blocks.Tile.{Tile}
use Rattle.qc_tiles.specs.Tiles.{block_of, CoversFrom, best, holds, smaller, largest_free}
use Rattle.qc_tiles.specs.Sizes.{is_smaller, insert_block, IsBySize, by_size, first_of, last_of, words_or_none, Parts}
use Rattle.qc_tiles.proofs.Tilings.{AreLarge}
use Rattle.qc_tiles.proofs.Standing.{best_at, later_first}
use Rattle.qc_tiles.proofs.Sorting.{insert-behind, insert-front, by_size-sorted}
use Rattle.qc_tiles.proofs.Pieces.{cut_at}

-- ---- the first that is large enough

abbrev pub fitting : ℕ → List Block → Option Block
fitting need [] = None
fitting need (b ∷ bs) = cond (is_smaller 0 need b) (fitting need bs) (Some b)

fitting-small : (need : ℕ) (b : Block) (bs : List Block) → is_smaller 0 need b ≡ true → fitting need (b ∷ bs) ≡ fitting need bs
fitting-small need b bs e = rw e refl

fitting-large : (need : ℕ) (b : Block) (bs : List Block) → is_smaller 0 need b ≡ false → fitting need (b ∷ bs) ≡ Some b
fitting-large need b bs e = rw e refl

fitting-cut : (need : ℕ) (low high : List Block) → AllByRecursion (λ b. is_smaller 0 need b ≡ true) low → AllByRecursion (λ b. is_smaller 0 need b ≡ false) high → first_of high ≡ fitting need (low ++ high)
fitting-cut need [] [] smaller larger = refl
fitting-cut need [] (b ∷ bs) smaller larger = sym (fitting-large need b bs larger.0)
fitting-cut need (b ∷ low) high smaller larger = fitting-cut need low high smaller.1 larger ∙ sym (fitting-small need b (low ++ high) smaller.0)

pub first_fitting : (need : ℕ) (bs : List Block) (o : Option Block) → IsBySize bs → Parts 0 need bs (λ low high. o ≡ first_of high) → o ≡ fitting need bs
first_fitting need bs o h parts =
    let c = cut_at (record { first = 0; words = need }) bs h in
    parts c.low c.high c.is c.smaller c.larger ∙ (fitting-cut need c.low c.high c.smaller c.larger ∙ ap (fitting need) (sym c.is))

-- ---- one more block

fitting-insert_small : (need : ℕ) (b : Block) (s : List Block) → is_smaller 0 need b ≡ true → fitting need (insert_block b s) ≡ fitting need s
fitting-insert_small need b [] e = fitting-small need b [] e
fitting-insert_small need b (c ∷ cs) e =
    elim (is_smaller b.first b.words c) as (λ v. is_smaller b.first b.words c ≡ v → fitting need (insert_block b (c ∷ cs)) ≡ fitting need (c ∷ cs)) [
      | true ↦ λ g. ap (fitting need) (insert-behind b c cs g) ∙ (fitting-small need c (insert_block b cs) (too e g)
          ∙ (fitting-insert_small need b cs e ∙ sym (fitting-small need c cs (too e g))))
      | false ↦ λ g. ap (fitting need) (insert-front b c cs g) ∙ fitting-small need b (c ∷ cs) e
    ] refl
  where
    too : is_smaller 0 need b ≡ true → is_smaller b.first b.words c ≡ true → is_smaller 0 need c ≡ true
    too h k = grind (arith, nat_tests)

abbrev pub lesser : Block → Option Block → Block
lesser b None = b
lesser b (Some c) = cond (is_smaller b.first b.words c) c b

lesser-other : (b c : Block) → is_smaller b.first b.words c ≡ true → lesser b (Some c) ≡ c
lesser-other b c e = rw e refl

lesser-same : (b c : Block) → is_smaller b.first b.words c ≡ false → lesser b (Some c) ≡ b
lesser-same b c e = rw e refl

fitting-insert_large : (need : ℕ) (b : Block) (s : List Block) → is_smaller 0 need b ≡ false → fitting need (insert_block b s) ≡ Some (lesser b (fitting need s))
fitting-insert_large need b [] e = fitting-large need b [] e
fitting-insert_large need b (c ∷ cs) e =
    elim (is_smaller b.first b.words c) as (λ v. is_smaller b.first b.words c ≡ v → fitting need (insert_block b (c ∷ cs)) ≡ Some (lesser b (fitting need (c ∷ cs)))) [
      | true ↦ λ g. ap (fitting need) (insert-behind b c cs g) ∙ elim (is_smaller 0 need c) as (λ v. is_smaller 0 need c ≡ v → fitting need (c ∷ insert_block b cs) ≡ Some (lesser b (fitting need (c ∷ cs)))) [
        | true ↦ λ k. fitting-small need c (insert_block b cs) k ∙ (fitting-insert_large need b cs e ∙ ap (λ o. Some (lesser b o)) (sym (fitting-small need c cs k)))
        | false ↦ λ k. fitting-large need c (insert_block b cs) k ∙ (ap (λ x. Some x) (sym (lesser-other b c g)) ∙ ap (λ o. Some (lesser b o)) (sym (fitting-large need c cs k)))
      ] refl
      | false ↦ λ g. ap (fitting need) (insert-front b c cs g) ∙ (fitting-large need b (c ∷ cs) e ∙ (ap (λ x. Some x) (sym (lesser-same b c g)) ∙ ap (λ o. Some (lesser b o)) (sym (fitting-large need c cs (too e g)))))
    ] refl
  where
    too : is_smaller 0 need b ≡ false → is_smaller b.first b.words c ≡ false → is_smaller 0 need c ≡ false
    too h k = grind (arith, nat_tests)

-- ---- the best block is the first that fits

holds_parts : (need : ℕ) (t : Tile) → holds need t ≡ true → (t.free ≡ true) × (is_smaller 0 need (block_of t) ≡ false)
holds_parts need t h = (grind (arith, nat_tests), grind (arith, nat_tests))

holds_not : (need : ℕ) (t : Tile) → holds need t ≡ false → t.free ≡ true → is_smaller 0 need (block_of t) ≡ true
holds_not need t h e = grind (arith, nat_tests)

lesser_is_smaller : (t u : Tile) → t.first < u.first → block_of (cond (nat_le t.words u.words) t u) ≡ lesser (block_of t) (Some (block_of u))
lesser_is_smaller t u h =
    elim (nat_le t.words u.words) as (λ v. nat_le t.words u.words ≡ v → block_of (cond v t u) ≡ lesser (block_of t) (Some (block_of u))) [
      | true ↦ λ e. sym (lesser-same (block_of t) (block_of u) (same e))
      | false ↦ λ e. sym (lesser-other (block_of t) (block_of u) (other e))
    ] refl
  where
    same : nat_le t.words u.words ≡ true → is_smaller t.first t.words (block_of u) ≡ false
    same e = grind (arith, nat_tests)

    other : nat_le t.words u.words ≡ false → is_smaller t.first t.words (block_of u) ≡ true
    other e = grind (arith, nat_tests)

smaller_is_lesser : (t : Tile) (o : Option Tile) → ((u : Tile) → o ≡ Some u → t.first < u.first) → block_of (smaller t o) ≡ lesser (block_of t) (option_map block_of o)
smaller_is_lesser t None h = refl
smaller_is_lesser t (Some u) h = lesser_is_smaller t u (h u refl)

best-holds : (need : ℕ) (t : Tile) (ts : List Tile) → holds need t ≡ true → best need (t ∷ ts) ≡ Some (smaller t (best need ts))
best-holds need t ts e = rw e refl

best-other : (need : ℕ) (t : Tile) (ts : List Tile) → holds need t ≡ false → best need (t ∷ ts) ≡ best need ts
best-other need t ts e = rw e refl

by_size-free : (t : Tile) (ts : List Tile) → t.free ≡ true → by_size (t ∷ ts) ≡ insert_block (block_of t) (by_size ts)
by_size-free t ts e = rw e refl

by_size-used : (t : Tile) (ts : List Tile) → t.free ≡ false → by_size (t ∷ ts) ≡ by_size ts
by_size-used t ts e = rw e refl

pub best-fitting : (need first end : ℕ) (ts : List Tile) → CoversFrom first end ts → AreLarge ts → option_map block_of (best need ts) ≡ fitting need (by_size ts)
best-fitting need first end [] h large = refl
best-fitting need first end (t ∷ ts) h large =
    let rest = best-fitting need (first + t.words) end ts h.1 large.1 in
    elim (holds need t) as (λ v. holds need t ≡ v → option_map block_of (best need (t ∷ ts)) ≡ fitting need (by_size (t ∷ ts))) [
      | true ↦ λ e. ap (option_map block_of) (best-holds need t ts e) ∙ (ap (λ b. Some b) (smaller_is_lesser t (best need ts) (later e))
          ∙ (ap (λ o. Some (lesser (block_of t) o)) rest ∙ sym (ap (fitting need) (by_size-free t ts (holds_parts need t e).0) ∙ fitting-insert_large need (block_of t) (by_size ts) (holds_parts need t e).1)))
      | false ↦ λ e. ap (option_map block_of) (best-other need t ts e) ∙ (rest ∙ elim t.free as (λ v. t.free ≡ v → fitting need (by_size ts) ≡ fitting need (by_size (t ∷ ts))) [
        | true ↦ λ g. sym (ap (fitting need) (by_size-free t ts g) ∙ fitting-insert_small need (block_of t) (by_size ts) (holds_not need t e g))
        | false ↦ λ g. sym (ap (fitting need) (by_size-used t ts g))
      ] refl)
    ] refl
  where
    later : holds need t ≡ true → (u : Tile) → best need ts ≡ Some u → t.first < u.first
    later e u is = let one = best_at need ts u is in subst (λ (x : Tile). t.first < x.first) one.1.is (later_first first end t ts one.0 h large.0 one.1.within)

-- ---- the largest

abbrev last_words : List Block → ℕ
last_words bs = words_or_none (last_of bs)

last-insert : (b c : Block) (cs : List Block) → last_words (c ∷ insert_block b cs) ≡ last_words (insert_block b cs)
last-insert b c [] = refl
last-insert b c (x ∷ xs) = elim (is_smaller b.first b.words x) as (λ v. last_words (c ∷ cond v (x ∷ insert_block b xs) (b ∷ x ∷ xs)) ≡ last_words (cond v (x ∷ insert_block b xs) (b ∷ x ∷ xs))) [ true ↦ refl | false ↦ refl ]

below_last : (c : Block) (cs : List Block) → IsBySize (c ∷ cs) → c.words ≤ last_words (c ∷ cs)
below_last c [] h = omega arith
below_last c (x ∷ xs) h = step h.0.0 (below_last x xs h.1)
  where
    step : is_smaller c.first c.words x ≡ false → x.words ≤ last_words (x ∷ xs) → c.words ≤ last_words (x ∷ xs)
    step e k = omega (arith, order e, k)
      where
        order : is_smaller c.first c.words x ≡ false → c.words ≤ x.words
        order g = grind (arith, nat_tests)

not_larger : (b c : Block) → is_smaller b.first b.words c ≡ true → c.words ≤ b.words
not_larger b c e = grind (arith, nat_tests)

not_smaller : (b c : Block) → is_smaller b.first b.words c ≡ false → b.words ≤ c.words
not_smaller b c e = grind (arith, nat_tests)

last_behind : (b c : Block) (cs : List Block) → c.words ≤ b.words → max b.words (last_words cs) ≡ max b.words (last_words (c ∷ cs))
last_behind b c [] h = omega arith
last_behind b c (x ∷ xs) h = refl

last_words-insert : (b : Block) (s : List Block) → IsBySize s → last_words (insert_block b s) ≡ max b.words (last_words s)
last_words-insert b [] h = omega arith
last_words-insert b (c ∷ cs) h =
    elim (is_smaller b.first b.words c) as (λ v. is_smaller b.first b.words c ≡ v → last_words (insert_block b (c ∷ cs)) ≡ max b.words (last_words (c ∷ cs))) [
      | true ↦ λ e. ap last_words (insert-behind b c cs e) ∙ (last-insert b c cs ∙ (last_words-insert b cs h.1 ∙ last_behind b c cs (not_larger b c e)))
      | false ↦ λ e. ap last_words (insert-front b c cs e) ∙ omega (arith, below_last c cs h, not_smaller b c e)
    ] refl

largest-by : (t : Tile) (ts : List Tile) (b : Bool) → t.free ≡ b → largest_free ts ≡ last_words (by_size ts) → largest_free (t ∷ ts) ≡ last_words (by_size (t ∷ ts))
largest-by t ts true e h = rw e (ap (max t.words) h ∙ sym (last_words-insert (block_of t) (by_size ts) (by_size-sorted ts)))
largest-by t ts false e h = rw e h

pub largest-last : (ts : List Tile) → largest_free ts ≡ words_or_none (last_of (by_size ts))
largest-last [] = refl
largest-last (t ∷ ts) = largest-by t ts t.free refl (largest-last ts)
