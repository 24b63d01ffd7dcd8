-- What is handed out after a block was taken.
use Rattle.std.proofs.Common.{◌≡◌, ℕ, ◌+◌, ◌-◌, ◌≤◌, true, false, cond, List, [], ◌∷◌, ◌++◌, map, take, drop, nat_le, refl, sym, ap, subst, ◌∙◌, arith}
use Rattle.std.specs.Prelude.{not, Option, Some, None}
use Rattle.std.specs.List.{filter}
use Rattle.std.proofs.lemmas.Bool.Decides.{nat_tests}
use Rattle.std.proofs.lemmas.Option.{none-some, same_Some}
use Rattle.qc_types.specs.Blocks.{least_block, raised}
use Rattle.qc_tiles.specs.declared.blocks.Tile.{Tile}
use Rattle.qc_tiles.specs.declared.blocks.Block.{Block}
use Rattle.qc_tiles.specs.Tiles.{tile, free_tile, block_of, IsTiling, handed_out, replaced, cut, cut_words, cut_from, best, taken, taken_from, after_take}
use Rattle.qc_tiles.specs.Kept.{tile_at}
use Rattle.qc_tiles.proofs.Walks.{split_at}
use Rattle.qc_tiles.proofs.Standing.{best_at, each_at, replaced_at}
use Rattle.qc_tiles.proofs.Keeps.{after_take-tiling}
use Rattle.qc_sound.specs.parts.Memory.{pinned_blocks}
use Rattle.qc_sound.proofs.Handed.{times, times_append}

hands_join : (xs ys : List Tile) → handed_out (xs ++ ys) ≡ handed_out xs ++ handed_out ys
hands_join [] ys = refl
hands_join (t ∷ xs) ys = elim t.free as (λ v. map block_of (cond (not v) (t ∷ filter (λ t. not t.free) (xs ++ ys)) (filter (λ t. not t.free) (xs ++ ys))) ≡ map block_of (cond (not v) (t ∷ filter (λ t. not t.free) xs) (filter (λ t. not t.free) xs)) ++ handed_out ys) [
  | true ↦ hands_join xs ys
  | false ↦ ap (λ l. block_of t ∷ l) (hands_join xs ys)
]

pins_join : (xs ys : List Tile) → pinned_blocks (xs ++ ys) ≡ pinned_blocks xs ++ pinned_blocks ys
pins_join [] ys = refl
pins_join (t ∷ xs) ys = elim t.pinned as (λ v. map block_of (cond v (t ∷ filter (λ t. t.pinned) (xs ++ ys)) (filter (λ t. t.pinned) (xs ++ ys))) ≡ map block_of (cond v (t ∷ filter (λ t. t.pinned) xs) (filter (λ t. t.pinned) xs)) ++ pinned_blocks ys) [
  | true ↦ ap (λ l. block_of t ∷ l) (pins_join xs ys)
  | false ↦ pins_join xs ys
]

-- the front of a free block
abbrev front : ℕ → Tile → Block
front w t = record { first = t.first; words = cut_words w t.words }

cut_hands : (w : ℕ) (t : Tile) (high : List Tile) → handed_out (cut w false t ++ high) ≡ front w t ∷ handed_out high
cut_hands w t high = elim (nat_le (w + least_block) t.words) as (λ v. handed_out (cond v (tile t.first w false false ∷ free_tile (t.first + w) (t.words - w) ∷ []) (tile t.first t.words false false ∷ []) ++ high) ≡ (let b : Block = record { first = t.first; words = cond v w t.words } in b) ∷ handed_out high) [ true ↦ refl | false ↦ refl ]

cut_pins : (w : ℕ) (t : Tile) (high : List Tile) → pinned_blocks (cut w false t ++ high) ≡ pinned_blocks high
cut_pins w t high = elim (nat_le (w + least_block) t.words) as (λ v. pinned_blocks (cond v (tile t.first w false false ∷ free_tile (t.first + w) (t.words - w) ∷ []) (tile t.first t.words false false ∷ []) ++ high) ≡ pinned_blocks high) [ true ↦ refl | false ↦ refl ]

free_hands : (t : Tile) (high : List Tile) → t.free ≡ true → handed_out (t ∷ high) ≡ handed_out high
free_hands t high e = rw e refl

loose_pins : (t : Tile) (high : List Tile) → t.pinned ≡ false → pinned_blocks (t ∷ high) ≡ pinned_blocks high
loose_pins t high e = rw e refl

front_words : (w n : ℕ) → w ≤ n → (w ≤ cut_words w n) × (cut_words w n ≤ w + 63)
front_words w n h = elim (nat_le (w + least_block) n) as (λ v. nat_le (w + least_block) n ≡ v → (w ≤ cond v w n) × (cond v w n ≤ w + 63)) [
  | true ↦ λ e. (omega arith, omega arith)
  | false ↦ λ e. (h, below e)
] refl
  where
    below : nat_le (w + least_block) n ≡ false → n ≤ w + 63
    below e = grind (arith, nat_tests)

-- the block is handed out too, none is pinned or unpinned, and it has the need or up to 63 words more
pub record Took (words need : ℕ) (ts us : List Tile) (b : Block) : Type 0 where
  pub tiling : IsTiling words us
  pub hands : (c : Block) → times c (handed_out us) ≡ times c (b ∷ handed_out ts)
  pub pins : pinned_blocks us ≡ pinned_blocks ts
  pub large : raised need ≤ b.words
  pub small : b.words ≤ raised need + 63

pub took : (words need : ℕ) (ts : List Tile) (b : Block) → IsTiling words ts → taken need ts ≡ Some b → Took words need ts (after_take need ts) b
took words need ts b tiling is = by (best (raised need) ts) refl is
  where
    by : (o : Option Tile) → best (raised need) ts ≡ o → taken_from (raised need) o ≡ Some b → Took words need ts (after_take need ts) b
    by None e k = absurd (none-some b k)
    by (Some t) e k =
        let w = raised need in
        let one = best_at w ts t e in
        let n = one.0 in
        let at = tile_at ts n in
        let low = take n ts in
        let high = drop (n + 1) ts in
        let block : front w at ≡ b = ap (front w) one.1.is ∙ same_Some (front w t) b k in
        let made : after_take need ts ≡ low ++ (cut w false at ++ high) =
        ap (λ o. cut_from w o ts) e ∙ (ap (λ (u : Tile). replaced u.first (cut w false) ts) (sym one.1.is) ∙ replaced_at 0 words (cut w false) ts n tiling.covers tiling.large one.1.within) in
        let split = split_at ts n one.1.within in
        let free : at.free ≡ true = ap (λ (u : Tile). u.free) one.1.is ∙ one.1.free in
        let loose : at.pinned ≡ false = each_at (λ u. u.free ≡ true → u.pinned ≡ false) ts n tiling.unpinned one.1.within free in
        let now : handed_out (after_take need ts) ≡ handed_out low ++ b ∷ handed_out high = ap handed_out made ∙ (hands_join low (cut w false at ++ high) ∙ ap (λ l. handed_out low ++ l) (cut_hands w at high ∙ ap (λ c. c ∷ handed_out high) block)) in
        let was : handed_out ts ≡ handed_out low ++ handed_out high = ap handed_out split ∙ (hands_join low (at ∷ high) ∙ ap (λ l. handed_out low ++ l) (free_hands at high free)) in
        let size = front_words w at.words (subst (λ (u : Tile). w ≤ u.words) (sym one.1.is) one.1.large) in
        let long : cut_words w at.words ≡ b.words = ap (λ (c : Block). c.words) block in
        record {
          tiling = after_take-tiling words need ts tiling;
          hands = λ c. omega (arith, ap (times c) now, ap (times c) was, times_append c (handed_out low) (handed_out high), times_append c (handed_out low) (b ∷ handed_out high));
          pins = ap pinned_blocks made ∙ (pins_join low (cut w false at ++ high) ∙ (ap (λ l. pinned_blocks low ++ l) (cut_pins w at high ∙ sym (loose_pins at high loose)) ∙ sym (ap pinned_blocks split ∙ pins_join low (at ∷ high))));
          large = omega (arith, size.0, long);
          small = omega (arith, size.1, long);
        }
