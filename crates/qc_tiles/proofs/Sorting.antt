-- Blocks by size: the order, and what one more block changes.
use Rattle.std.proofs.Common.{◌≡◌, ◌+◌, Bool, true, false, cond, List, [], ◌∷◌, ◌++◌, length, refl, sym, ap, ◌∙◌, arith, suc}
use Rattle.std.specs.List.{AllByRecursion}
use Rattle.std.proofs.lemmas.Bool.Decides.{nat_tests}
use Rattle.qc_tiles.specs.declared.blocks.Block.{Block}
use Rattle.qc_tiles.specs.declared.blocks.Tile.{Tile}
use Rattle.qc_tiles.specs.Tiles.{block_of, free_count, free_words}
use Rattle.qc_tiles.specs.Sizes.{is_smaller, insert_block, IsBySize, block_words, added, by_size}

-- ---- the order

pub itself : (b : Block) → is_smaller b.first b.words b ≡ false
itself b = grind (arith, nat_tests)

pub not_both : (b c : Block) → is_smaller b.first b.words c ≡ true → is_smaller c.first c.words b ≡ false
not_both b c h = grind (arith, nat_tests)

same_numbers : (b c : Block) → is_smaller b.first b.words c ≡ false → is_smaller c.first c.words b ≡ false → (b.words ≡ c.words) × (b.first ≡ c.first)
same_numbers b c h k = (grind (arith, nat_tests), grind (arith, nat_tests))

pub same_block : (b c : Block) → is_smaller b.first b.words c ≡ false → is_smaller c.first c.words b ≡ false → b ≡ c
same_block b c h k = let n = same_numbers b c h k in rw (n.0, n.1) refl

-- ---- one more block

pub insert-behind : (b c : Block) (cs : List Block) → is_smaller b.first b.words c ≡ true → insert_block b (c ∷ cs) ≡ c ∷ insert_block b cs
insert-behind b c cs e = rw e refl

pub insert-front : (b c : Block) (cs : List Block) → is_smaller b.first b.words c ≡ false → insert_block b (c ∷ cs) ≡ b ∷ c ∷ cs
insert-front b c cs e = rw e refl

commute_one : (a b : Block) → insert_block a (b ∷ []) ≡ insert_block b (a ∷ [])
commute_one a b =
    elim (is_smaller a.first a.words b) as (λ v. is_smaller a.first a.words b ≡ v → insert_block a (b ∷ []) ≡ insert_block b (a ∷ [])) [
      | true ↦ λ e. insert-behind a b [] e ∙ sym (insert-front b a [] (not_both a b e))
      | false ↦ λ e. insert-front a b [] e ∙ other e
    ] refl
  where
    other : is_smaller a.first a.words b ≡ false → a ∷ b ∷ [] ≡ insert_block b (a ∷ [])
    other e =
        elim (is_smaller b.first b.words a) as (λ v. is_smaller b.first b.words a ≡ v → a ∷ b ∷ [] ≡ insert_block b (a ∷ [])) [
          | true ↦ λ f. sym (insert-behind b a [] f)
          | false ↦ λ f. ap (λ (x : Block). x ∷ b ∷ []) (same_block a b e f) ∙ (ap (λ (x : Block). b ∷ x ∷ []) (sym (same_block a b e f)) ∙ sym (insert-front b a [] f))
        ] refl

-- both in front of the same block
commute_front : (a b c : Block) (cs : List Block) → is_smaller a.first a.words c ≡ false → is_smaller b.first b.words c ≡ false → insert_block a (b ∷ c ∷ cs) ≡ insert_block b (a ∷ c ∷ cs)
commute_front a b c cs ac bc =
    elim (is_smaller a.first a.words b) as (λ v. is_smaller a.first a.words b ≡ v → insert_block a (b ∷ c ∷ cs) ≡ insert_block b (a ∷ c ∷ cs)) [
      | true ↦ λ e. insert-behind a b (c ∷ cs) e ∙ (ap (λ xs. b ∷ xs) (insert-front a c cs ac) ∙ sym (insert-front b a (c ∷ cs) (not_both a b e)))
      | false ↦ λ e. insert-front a b (c ∷ cs) e ∙ other e
    ] refl
  where
    other : is_smaller a.first a.words b ≡ false → a ∷ b ∷ c ∷ cs ≡ insert_block b (a ∷ c ∷ cs)
    other e =
        elim (is_smaller b.first b.words a) as (λ v. is_smaller b.first b.words a ≡ v → a ∷ b ∷ c ∷ cs ≡ insert_block b (a ∷ c ∷ cs)) [
          | true ↦ λ f. sym (insert-behind b a (c ∷ cs) f ∙ ap (λ xs. a ∷ xs) (insert-front b c cs bc))
          | false ↦ λ f. ap (λ (x : Block). x ∷ b ∷ c ∷ cs) (same_block a b e f) ∙ (ap (λ (x : Block). b ∷ x ∷ c ∷ cs) (sym (same_block a b e f)) ∙ sym (insert-front b a (c ∷ cs) f))
        ] refl

-- one behind a block and the other in front of it
commute_across : (a b c : Block) (cs : List Block) → is_smaller a.first a.words c ≡ false → is_smaller b.first b.words c ≡ true → insert_block a (c ∷ insert_block b cs) ≡ insert_block b (a ∷ c ∷ cs)
commute_across a b c cs ac bc =
    insert-front a c (insert_block b cs) ac
    ∙ sym (insert-behind b a (c ∷ cs) (across ac bc) ∙ ap (λ xs. a ∷ xs) (insert-behind b c cs bc))
  where
    across : is_smaller a.first a.words c ≡ false → is_smaller b.first b.words c ≡ true → is_smaller b.first b.words a ≡ true
    across h k = grind (arith, nat_tests)

pub insert-insert : (a b : Block) (s : List Block) → insert_block a (insert_block b s) ≡ insert_block b (insert_block a s)
insert-insert a b [] = commute_one a b
insert-insert a b (c ∷ cs) =
    elim (is_smaller a.first a.words c) as (λ v. is_smaller a.first a.words c ≡ v → insert_block a (insert_block b (c ∷ cs)) ≡ insert_block b (insert_block a (c ∷ cs))) [
      | true ↦ λ ac. elim (is_smaller b.first b.words c) as (λ v. is_smaller b.first b.words c ≡ v → insert_block a (insert_block b (c ∷ cs)) ≡ insert_block b (insert_block a (c ∷ cs))) [
        | true ↦ λ bc. ap (insert_block a) (insert-behind b c cs bc) ∙ (insert-behind a c (insert_block b cs) ac
            ∙ (ap (λ xs. c ∷ xs) (insert-insert a b cs) ∙ sym (ap (insert_block b) (insert-behind a c cs ac) ∙ insert-behind b c (insert_block a cs) bc)))
        | false ↦ λ bc. ap (insert_block a) (insert-front b c cs bc) ∙ sym (ap (insert_block b) (insert-behind a c cs ac) ∙ commute_across b a c cs bc ac)
      ] refl
      | false ↦ λ ac. elim (is_smaller b.first b.words c) as (λ v. is_smaller b.first b.words c ≡ v → insert_block a (insert_block b (c ∷ cs)) ≡ insert_block b (insert_block a (c ∷ cs))) [
        | true ↦ λ bc. ap (insert_block a) (insert-behind b c cs bc) ∙ (commute_across a b c cs ac bc ∙ ap (insert_block b) (sym (insert-front a c cs ac)))
        | false ↦ λ bc. ap (insert_block a) (insert-front b c cs bc) ∙ (commute_front a b c cs ac bc ∙ ap (insert_block b) (sym (insert-front a c cs ac)))
      ] refl
    ] refl

each_inserted : (P : Block → Type 0) (b : Block) (s : List Block) → P b → AllByRecursion P s → AllByRecursion P (insert_block b s)
each_inserted P b [] here h = (here, tt)
each_inserted P b (c ∷ cs) here h =
    elim (is_smaller b.first b.words c) as (λ v. AllByRecursion P (cond v (c ∷ insert_block b cs) (b ∷ c ∷ cs))) [
      | true ↦ (h.0, each_inserted P b cs here h.1)
      | false ↦ (here, h)
    ]

-- none is smaller than one in front of the sorted ones
pub none_smaller : (b c : Block) (cs : List Block) → is_smaller b.first b.words c ≡ false → AllByRecursion (λ x. is_smaller c.first c.words x ≡ false) cs → AllByRecursion (λ x. is_smaller b.first b.words x ≡ false) cs
none_smaller b c [] e h = tt
none_smaller b c (x ∷ xs) e h = (between e h.0, none_smaller b c xs e h.1)
  where
    between : is_smaller b.first b.words c ≡ false → is_smaller c.first c.words x ≡ false → is_smaller b.first b.words x ≡ false
    between g k = grind (arith, nat_tests)

pub insert-sorted : (b : Block) (s : List Block) → IsBySize s → IsBySize (insert_block b s)
insert-sorted b [] h = (tt, tt)
insert-sorted b (c ∷ cs) h =
    elim (is_smaller b.first b.words c) as (λ v. is_smaller b.first b.words c ≡ v → IsBySize (cond v (c ∷ insert_block b cs) (b ∷ c ∷ cs))) [
      | true ↦ λ e. (each_inserted (λ x. is_smaller c.first c.words x ≡ false) b cs (not_both b c e) h.0, insert-sorted b cs h.1)
      | false ↦ λ e. ((e, none_smaller b c cs e h.0), h)
    ] refl

added_sorted : (t : Tile) (b : Bool) (s : List Block) → IsBySize s → IsBySize (cond b (insert_block (block_of t) s) s)
added_sorted t true s h = insert-sorted (block_of t) s h
added_sorted t false s h = h

pub by_size-sorted : (ts : List Tile) → IsBySize (by_size ts)
by_size-sorted [] = tt
by_size-sorted (t ∷ ts) = added_sorted t t.free (by_size ts) (by_size-sorted ts)

-- ---- counts

insert_length_by : (b c : Block) (cs : List Block) (v : Bool) → length (insert_block b cs) ≡ length cs + 1 → length (cond v (c ∷ insert_block b cs) (b ∷ c ∷ cs)) ≡ suc (length cs) + 1
insert_length_by b c cs true h = omega (arith, h)
insert_length_by b c cs false h = omega arith

pub insert-length : (b : Block) (s : List Block) → length (insert_block b s) ≡ length s + 1
insert-length b [] = omega arith
insert-length b (c ∷ cs) = insert_length_by b c cs (is_smaller b.first b.words c) (insert-length b cs)

insert_words_by : (b c : Block) (cs : List Block) (v : Bool) → block_words (insert_block b cs) ≡ block_words cs + b.words → block_words (cond v (c ∷ insert_block b cs) (b ∷ c ∷ cs)) ≡ (c.words + block_words cs) + b.words
insert_words_by b c cs true h = omega (arith, h)
insert_words_by b c cs false h = omega arith

pub insert-words : (b : Block) (s : List Block) → block_words (insert_block b s) ≡ block_words s + b.words
insert-words b [] = omega arith
insert-words b (c ∷ cs) = insert_words_by b c cs (is_smaller b.first b.words c) (insert-words b cs)

count_by : (t : Tile) (ts : List Tile) (b : Bool) → t.free ≡ b → length (by_size ts) ≡ free_count ts → length (by_size (t ∷ ts)) ≡ free_count (t ∷ ts)
count_by t ts true e h = rw e (omega (arith, insert-length (block_of t) (by_size ts), h))
count_by t ts false e h = rw e h

pub by_size-count : (ts : List Tile) → length (by_size ts) ≡ free_count ts
by_size-count [] = refl
by_size-count (t ∷ ts) = count_by t ts t.free refl (by_size-count ts)

words_by : (t : Tile) (ts : List Tile) (b : Bool) → t.free ≡ b → block_words (by_size ts) ≡ free_words ts → block_words (by_size (t ∷ ts)) ≡ free_words (t ∷ ts)
words_by t ts true e h = rw e (omega (arith, insert-words (block_of t) (by_size ts), h))
words_by t ts false e h = rw e h

pub by_size-words : (ts : List Tile) → block_words (by_size ts) ≡ free_words ts
by_size-words [] = refl
by_size-words (t ∷ ts) = words_by t ts t.free refl (by_size-words ts)

-- ---- a block among others

added-added : (t u : Tile) (a b : Bool) (s : List Block) → cond a (insert_block (block_of t) (cond b (insert_block (block_of u) s) s)) (cond b (insert_block (block_of u) s) s)
    ≡ cond b (insert_block (block_of u) (cond a (insert_block (block_of t) s) s)) (cond a (insert_block (block_of t) s) s)
added-added t u true true s = insert-insert (block_of t) (block_of u) s
added-added t u true false s = refl
added-added t u false true s = refl
added-added t u false false s = refl

pub by_size-middle : (xs : List Tile) (t : Tile) (ys : List Tile) → by_size (xs ++ (t ∷ ys)) ≡ added t (by_size (xs ++ ys))
by_size-middle [] t ys = refl
by_size-middle (x ∷ xs) t ys = ap (added x) (by_size-middle xs t ys) ∙ added-added x t x.free t.free (by_size (xs ++ ys))
