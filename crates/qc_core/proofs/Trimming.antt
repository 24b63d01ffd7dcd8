-- What is handed out and pinned after a block was trimmed, or the last block of a chain.
use Rattle.std.proofs.Common.{◌≡◌, ℕ, ◌+◌, ◌-◌, ◌<◌, Bool, true, false, cond, List, [], ◌∷◌, ◌++◌, map, length, take, drop, refl, sym, ap, subst, ◌∙◌, arith, true≢false}
use Rattle.std.specs.Prelude.{not, Contains, nat_le}
use Rattle.std.specs.List.{filter}
use Rattle.std.proofs.lemmas.List.Elements.{Contains-append_right}
use Rattle.qc_types.specs.Blocks.{raised, least_block}
use Rattle.qc_tiles.specs.declared.blocks.Tile.{Tile}
use Rattle.qc_tiles.specs.declared.blocks.Block.{Block}
use Rattle.qc_tiles.specs.Tiles.{IsTiling, tile, free_tile, block_of, handed_out, replaced, cut, cut_words, trimmed, after_trim}
use Rattle.qc_tiles.specs.Kept.{tile_at}
use Rattle.qc_tiles.proofs.Tilings.{AreUnpinned}
use Rattle.qc_tiles.proofs.Walks.{split_at}
use Rattle.qc_tiles.proofs.Standing.{in_hand}
use Rattle.qc_tiles.proofs.Calls.{replaced_block}
use Rattle.qc_tiles.proofs.Keeps.{after_trim-tiling, replaced-each}
use Rattle.qc_chain.specs.Chains.{cut_blocks, after_cut}
use Rattle.qc_chain.proofs.Releases.{joined-used, in_first}
use Rattle.qc_sound.specs.parts.Memory.{pinned_blocks}
use Rattle.qc_sound.proofs.Handed.{times, times_append, joined-pins, unpinned-cons}

hands_append : (xs ys : List Tile) → handed_out (xs ++ ys) ≡ handed_out xs ++ handed_out ys
hands_append [] ys = refl
hands_append (t ∷ xs) ys = elim t.free as (λ v. map block_of (cond (not v) (t ∷ filter (λ t. not t.free) (xs ++ ys)) (filter (λ t. not t.free) (xs ++ ys))) ≡ map block_of (cond (not v) (t ∷ filter (λ t. not t.free) xs) (filter (λ t. not t.free) xs)) ++ handed_out ys) [
  | true ↦ hands_append xs ys
  | false ↦ ap (λ l. block_of t ∷ l) (hands_append xs ys)
]

pins_append : (xs ys : List Tile) → pinned_blocks (xs ++ ys) ≡ pinned_blocks xs ++ pinned_blocks ys
pins_append [] ys = refl
pins_append (t ∷ xs) ys = elim t.pinned as (λ v. map block_of (cond v (t ∷ filter (λ t. t.pinned) (xs ++ ys)) (filter (λ t. t.pinned) (xs ++ ys))) ≡ map block_of (cond v (t ∷ filter (λ t. t.pinned) xs) (filter (λ t. t.pinned) xs)) ++ pinned_blocks ys) [
  | true ↦ ap (λ l. block_of t ∷ l) (pins_append xs ys)
  | false ↦ pins_append xs ys
]

hands-used : (t : Tile) (ts : List Tile) → t.free ≡ false → handed_out (t ∷ ts) ≡ block_of t ∷ handed_out ts
hands-used t ts e = rw e refl

pins-pinned : (t : Tile) (ts : List Tile) → t.pinned ≡ true → pinned_blocks (t ∷ ts) ≡ block_of t ∷ pinned_blocks ts
pins-pinned t ts e = rw e refl

-- ---- a block in the middle of a tiling

record Middle (ts : List Tile) (b : Block) (f : Tile → List Tile) : Type 0 where
  low : List Tile
  high : List Tile
  at : Tile
  block : block_of at ≡ b
  used : at.free ≡ false
  old : ts ≡ low ++ at ∷ high
  new : replaced b.first f ts ≡ low ++ (f at ++ high)

middle : (words : ℕ) (ts : List Tile) (b : Block) (f : Tile → List Tile) → IsTiling words ts → Contains (handed_out ts) b → Middle ts b f
middle words ts b f tiling there =
    let one = in_hand ts b there in
    let k = one.0 in
    record {
      low = take k ts;
      high = drop (k + 1) ts;
      at = tile_at ts k;
      block = λ i. record { first = one.1.first i; words = one.1.words i };
      used = one.1.used;
      old = split_at ts k one.1.within;
      new = replaced_block words ts b k f tiling one.1;
    }

-- ---- a block that is cut

cut-used : (w : ℕ) (p : Bool) (t : Tile) (ts : List Tile) → handed_out (cut w p t ++ ts) ≡ record { first = t.first; words = cut_words w t.words } ∷ handed_out ts
cut-used w p t ts = elim (nat_le (w + least_block) t.words) as (λ b. handed_out (cond b (tile t.first w false p ∷ free_tile (t.first + w) (t.words - w) ∷ []) (tile t.first t.words false p ∷ []) ++ ts) ≡ record { first = t.first; words = cond b w t.words } ∷ handed_out ts) [
  | true ↦ refl
  | false ↦ refl
]

cut-pins : (w : ℕ) (t : Tile) (ts : List Tile) → pinned_blocks (cut w false t ++ ts) ≡ pinned_blocks ts
cut-pins w t ts = elim (nat_le (w + least_block) t.words) as (λ b. pinned_blocks (cond b (tile t.first w false false ∷ free_tile (t.first + w) (t.words - w) ∷ []) (tile t.first t.words false false ∷ []) ++ ts) ≡ pinned_blocks ts) [
  | true ↦ refl
  | false ↦ refl
]

cut-loose : (w : ℕ) (p : Bool) (t : Tile) → AreUnpinned (cut w p t)
cut-loose w p t = elim (nat_le (w + least_block) t.words) as (λ b. AreUnpinned (cond b (tile t.first w false p ∷ free_tile (t.first + w) (t.words - w) ∷ []) (tile t.first t.words false p ∷ []))) [
  | true ↦ ((λ h. absurd (true≢false (sym h))), ((λ _. refl), tt))
  | false ↦ ((λ h. absurd (true≢false (sym h))), tt)
]

-- the block stands cut where it stood, and no block is pinned or unpinned, where it isn't pinned itself
pub record IsTrimmed (words used : ℕ) (ts us : List Tile) (b : Block) : Type 0 where
  pub tiling : IsTiling words us
  pub count : (c : Block) → times c (handed_out us) + times c (b ∷ []) ≡ times c (handed_out ts) + times c (trimmed used b ∷ [])
  pub pins : pinned_blocks us ≡ pinned_blocks ts

pub trims_one : (words used : ℕ) (ts : List Tile) (b : Block) → IsTiling words ts → Contains (handed_out ts) b → (Contains (pinned_blocks ts) b → ⊥) → IsTrimmed words used ts (after_trim b.first used ts) b
trims_one words used ts b tiling there loose =
    let w = raised used in
    let f = λ (t : Tile). cut w t.pinned t in
    let m = middle words ts b f tiling there in
    let us = replaced b.first f ts in
    let flat : m.at.pinned ≡ false = off m.at.pinned m.low m.high m.at refl m.block m.old in
    let small : record { first = m.at.first; words = cut_words w m.at.words } ≡ trimmed used b = ap (λ (c : Block). trimmed used c) m.block in
    let now : handed_out (after_trim b.first used ts) ≡ handed_out m.low ++ trimmed used b ∷ handed_out m.high =
    joined-used us ∙ (ap handed_out m.new ∙ (hands_append m.low (cut w m.at.pinned m.at ++ m.high) ∙ ap (λ l. handed_out m.low ++ l) (cut-used w m.at.pinned m.at m.high ∙ ap (λ (c : Block). c ∷ handed_out m.high) small))) in
    let was : handed_out ts ≡ handed_out m.low ++ b ∷ handed_out m.high = ap handed_out m.old ∙ (hands_append m.low (m.at ∷ m.high) ∙ ap (λ l. handed_out m.low ++ l) (hands-used m.at m.high m.used ∙ ap (λ (c : Block). c ∷ handed_out m.high) m.block)) in
    let free : AreUnpinned us = replaced-each (λ t. t.free ≡ true → t.pinned ≡ false) b.first f ts (λ t _. cut-loose w t.pinned t) tiling.unpinned in
    let cuts : pinned_blocks (cut w m.at.pinned m.at ++ m.high) ≡ pinned_blocks (m.at ∷ m.high) = ap (λ p. pinned_blocks (cut w p m.at ++ m.high)) flat ∙ (cut-pins w m.at m.high ∙ sym (unpinned-cons m.at m.high flat)) in
    record {
      tiling = after_trim-tiling words b.first used ts tiling;
      count = λ c. omega (arith, ap (times c) now, ap (times c) was, times_append c (handed_out m.low) (trimmed used b ∷ handed_out m.high), times_append c (handed_out m.low) (b ∷ handed_out m.high));
      pins = joined-pins us free ∙ (ap pinned_blocks m.new ∙ (pins_append m.low (cut w m.at.pinned m.at ++ m.high) ∙ (ap (λ l. pinned_blocks m.low ++ l) cuts ∙ sym (ap pinned_blocks m.old ∙ pins_append m.low (m.at ∷ m.high)))));
    }
  where
    off : (p : Bool) (low high : List Tile) (t : Tile) → t.pinned ≡ p → block_of t ≡ b → ts ≡ low ++ t ∷ high → p ≡ false
    off true low high t e same split = absurd (loose (subst (λ l. Contains l b) (sym (ap pinned_blocks split ∙ (pins_append low (t ∷ high) ∙ ap (λ l. pinned_blocks low ++ l) (pins-pinned t high e ∙ ap (λ (c : Block). c ∷ pinned_blocks high) same)))) (Contains-append_right (pinned_blocks low) (b ∷ pinned_blocks high) b (in_first b (pinned_blocks high)))))
    off false low high t e same split = refl

-- ---- the last block of a chain

record EndsWith (bs : List Block) : Type 0 where
  front : List Block
  last : Block
  is : bs ≡ front ++ last ∷ []

last_of : (bs : List Block) → 0 < length bs → EndsWith bs
last_of [] h = absurd (omega (arith, h))
last_of (b ∷ []) h = record { front = []; last = b; is = refl }
last_of (b ∷ c ∷ bs) h = let t = last_of (c ∷ bs) (omega arith) in record { front = b ∷ t.front; last = t.last; is = ap (λ l. b ∷ l) t.is }

cut_last : (used : ℕ) (front : List Block) (b : Block) → cut_blocks used (front ++ b ∷ []) ≡ front ++ trimmed used b ∷ []
cut_last used [] b = refl
cut_last used (x ∷ []) b = refl
cut_last used (x ∷ y ∷ front) b = ap (λ l. x ∷ l) (cut_last used (y ∷ front) b)

after_last : (used : ℕ) (front : List Block) (b : Block) (ts : List Tile) → after_cut used (front ++ b ∷ []) ts ≡ after_trim b.first used ts
after_last used [] b ts = refl
after_last used (x ∷ []) b ts = refl
after_last used (x ∷ y ∷ front) b ts = after_last used (y ∷ front) b ts

-- what a cut makes of the tiles
pub record IsCutTo (words used : ℕ) (ts us : List Tile) (bs : List Block) : Type 0 where
  pub tiling : IsTiling words us
  pub count : (b : Block) → times b (handed_out us) + times b bs ≡ times b (handed_out ts) + times b (cut_blocks used bs)
  pub pins : pinned_blocks us ≡ pinned_blocks ts

pub cuts_chain : (words used : ℕ) (ts : List Tile) (bs : List Block) → IsTiling words ts → 0 < length bs → ((b : Block) → Contains bs b → Contains (handed_out ts) b × (Contains (pinned_blocks ts) b → ⊥)) → IsCutTo words used ts (after_cut used bs ts) bs
cuts_chain words used ts bs tiling some each =
    let e = last_of bs some in
    let here : Contains bs e.last = subst (λ l. Contains l e.last) (sym e.is) (Contains-append_right e.front (e.last ∷ []) e.last (in_first e.last [])) in
    let t = each e.last here in
    let trim = trims_one words used ts e.last tiling t.0 t.1 in
    let same : after_cut used bs ts ≡ after_trim e.last.first used ts = ap (λ l. after_cut used l ts) e.is ∙ after_last used e.front e.last ts in
    subst (λ us. IsCutTo words used ts us bs) (sym same) (record {
      tiling = trim.tiling;
      count = λ b. omega (arith, trim.count b, ap (times b) e.is, times_append b e.front (e.last ∷ []), ap (λ l. times b (cut_blocks used l)) e.is, ap (times b) (cut_last used e.front e.last), times_append b e.front (trimmed used e.last ∷ []));
      pins = trim.pins;
    })
