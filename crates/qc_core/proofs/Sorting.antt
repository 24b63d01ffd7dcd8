-- Freed blocks of tables come into a hand, or are given back.
use Rattle.std.proofs.Common.{◌≡◌, ℕ, ◌+◌, ◌<◌, ◌≤◌, true, false, List, [], ◌∷◌, ◌++◌, length, refl, sym, ap, subst, ◌∙◌, arith, append_assoc, append-nil, length-append}
use Rattle.std.specs.Prelude.{Contains, IsPermutation}
use Rattle.std.specs.List.{list_any, AllByRecursion}
use Rattle.std.proofs.lemmas.List.{map-append}
use Rattle.std.proofs.lemmas.List.Elements.{Contains-append_right}
use Rattle.std.proofs.lemmas.List.Sorted.{IsPermutation-refl, IsPermutation-trans, IsPermutation-append_comm, IsPermutation-append_left, IsPermutation-append_right}
use Rattle.qc_sql.specs.Database.{same_table}
use Rattle.qc_tiles.specs.declared.blocks.Tile.{Tile}
use Rattle.qc_tiles.specs.declared.blocks.Block.{Block}
use Rattle.qc_tiles.specs.Tiles.{IsTiling, region_words, handed_out, after_give_back}
use Rattle.qc_tiles.proofs.Keeps.{after_give_back-tiling}
use Rattle.qc_chain.specs.Chains.{AreHandedOut, AreOnce, after_release}
use Rattle.qc_chain.proofs.Releases.{in_first, still_in_hand}
use Rattle.qc_dir.specs.declared.tables.TableBlock.{TableBlock}
use Rattle.qc_dir.specs.Keys.{bit}
use Rattle.qc_dir.proofs.Totals.{total-append}
use Rattle.qc_core.specs.declared.reserved_blocks.ReservedBlocks.{ReservedBlocks}
use Rattle.qc_core.specs.EntryRemoval.{table_blocks, AreSorted}
use Rattle.qc_core.specs.BlocksReserved.{own_in, Sorts}
use Rattle.qc_core.proofs.Leaving.{release_append, out_front}

-- ---- the last block of some

blocks_push : (xs : List TableBlock) (b : TableBlock) → table_blocks (xs ++ b ∷ []) ≡ table_blocks xs ++ b.block ∷ []
blocks_push xs b = map-append (λ (t : TableBlock). t.block) xs (b ∷ [])

each_left : (words : ℕ) (ts : List Tile) (xs : List Block) (b : Block) → IsTiling words ts → Contains (handed_out ts) b → AllByRecursion (Contains (handed_out ts)) (xs ++ b ∷ []) → AreOnce (xs ++ b ∷ []) → AllByRecursion (Contains (handed_out (after_give_back b.first ts))) xs
each_left words ts [] b tiling is each once = tt
each_left words ts (x ∷ xs) b tiling is each once = (
  still_in_hand words ts b x tiling is each.0 (λ e. once.0 (subst (λ c. Contains (xs ++ b ∷ []) c) e (Contains-append_right xs (b ∷ []) b (in_first b [])))),
  each_left words ts xs b tiling is each.1 once.1,
)

last_in : (P : Block → Type 0) (xs : List Block) (b : Block) → AllByRecursion P (xs ++ b ∷ []) → P b
last_in P [] b h = h.0
last_in P (x ∷ xs) b h = last_in P xs b h.1

pub last_out : (words : ℕ) (ts : List Tile) (xs : List Block) (b : Block) → IsTiling words ts → AreHandedOut ts (xs ++ b ∷ []) → AreHandedOut (after_give_back b.first ts) xs
last_out words ts xs b tiling h = record {
  each = each_left words ts xs b tiling (last_in (Contains (handed_out ts)) xs b h.each) h.each h.once;
  once = (out_front ts xs (b ∷ []) h).once;
}

all_push : (P : TableBlock → Type 0) (xs : List TableBlock) (b : TableBlock) → AllByRecursion P xs → P b → AllByRecursion P (xs ++ b ∷ [])
all_push P [] b h k = (k, tt)
all_push P (x ∷ xs) b h k = (h.0, all_push P xs b h.1 k)

-- ---- the loop

-- so many of the blocks are still to be sorted
pub record IsSorting (before : ReservedBlocks) (freed : List TableBlock) (ts : List Tile) (mine : ReservedBlocks) (left : List TableBlock) (now : List Tile) : Type 0 where
  pub kept : List TableBlock
  pub others : List TableBlock
  pub parts : IsPermutation freed (left ++ (kept ++ others))
  pub sorts : AreSorted before.tables kept others
  pub hand : mine ≡ record { tables = before.tables; fresh = before.fresh ++ kept }
  pub tiles : now ≡ after_release (table_blocks others) ts
  pub tiling : IsTiling (region_words ts) now
  pub out : AreHandedOut now (table_blocks left)
  pub few : length mine.fresh + own_in before.tables left ≤ 8

pub sorting_start : (hand : ReservedBlocks) (freed : List TableBlock) (tiles : List Tile) → length hand.fresh + own_in hand.tables freed ≤ 8 → IsTiling (region_words tiles) tiles → AreHandedOut tiles (table_blocks freed) → IsSorting hand freed tiles hand freed tiles
sorting_start hand freed tiles few tiling out = record {
  kept = [];
  others = [];
  parts = subst (IsPermutation freed) (sym (append-nil freed)) (IsPermutation-refl freed);
  sorts = record { own = tt; foreign = tt };
  hand = λ i. record { tables = hand.tables; fresh = sym (append-nil hand.fresh) i };
  tiles = refl;
  tiling = tiling;
  out = out;
  few = few;
}

module _ (before : ReservedBlocks) (freed : List TableBlock) (tiles : List Tile) (hand : ReservedBlocks) (left : List TableBlock) (b : TableBlock) (now : List Tile) (h : IsSorting before freed tiles hand (left ++ b ∷ []) now) where
  same_tables : hand.tables ≡ before.tables
  same_tables = ap (λ (x : ReservedBlocks). x.tables) h.hand

  own_last : own_in before.tables (left ++ b ∷ []) ≡ own_in before.tables left + bit (list_any (same_table b.table) before.tables)
  own_last = let sum = total-append (λ (b : TableBlock). bit (list_any (same_table b.table) before.tables)) left (b ∷ []) in omega (arith, sum)

  front : AreHandedOut now (table_blocks left ++ b.block ∷ [])
  front = subst (AreHandedOut now) (blocks_push left b) h.out

  pub last_held : Contains (handed_out now) b.block
  last_held = last_in (Contains (handed_out now)) (table_blocks left) b.block front.each

  pub keep_room : list_any (same_table b.table) hand.tables ≡ true → length hand.fresh < 8
  keep_room is = omega (arith, h.few, own_last, ap bit (ap (list_any (same_table b.table)) (sym same_tables) ∙ is))

  -- it comes into the hand
  pub sorting_keeps : list_any (same_table b.table) hand.tables ≡ true → (new : ReservedBlocks) → new ≡ record hand { fresh = hand.fresh ++ b ∷ [] } → IsSorting before freed tiles new left now
  sorting_keeps is new made =
      let own : list_any (same_table b.table) before.tables ≡ true = ap (list_any (same_table b.table)) (sym same_tables) ∙ is in
      let rest = h.kept ++ h.others in
      let moved : IsPermutation ((b ∷ []) ++ (h.kept ++ h.others)) ((h.kept ++ b ∷ []) ++ h.others) =
      subst (λ l. IsPermutation l ((h.kept ++ b ∷ []) ++ h.others)) (append_assoc (b ∷ []) h.kept h.others) (IsPermutation-append_left h.others ((b ∷ []) ++ h.kept) (h.kept ++ b ∷ []) (IsPermutation-append_comm (b ∷ []) h.kept)) in
      let fresh : new.fresh ≡ hand.fresh ++ b ∷ [] = ap (λ (x : ReservedBlocks). x.fresh) made in
      record {
        kept = h.kept ++ b ∷ [];
        others = h.others;
        parts = IsPermutation-trans freed (left ++ ((b ∷ []) ++ rest)) (left ++ ((h.kept ++ b ∷ []) ++ h.others)) (subst (IsPermutation freed) (append_assoc left (b ∷ []) rest) h.parts) (IsPermutation-append_right left ((b ∷ []) ++ rest) ((h.kept ++ b ∷ []) ++ h.others) moved);
        sorts = record { own = all_push (λ b. list_any (same_table b.table) before.tables ≡ true) h.kept b h.sorts.own own; foreign = h.sorts.foreign };
        hand = made ∙ (λ i. record { tables = same_tables i; fresh = (ap (λ (x : ReservedBlocks). x.fresh ++ b ∷ []) h.hand ∙ append_assoc before.fresh h.kept (b ∷ [])) i });
        tiles = h.tiles;
        tiling = h.tiling;
        out = out_front now (table_blocks left) (b.block ∷ []) front;
        few = omega (arith, h.few, own_last, ap bit own, ap (λ (l : List TableBlock). length l) fresh, length-append hand.fresh (b ∷ []));
      }

  -- it is given back
  pub sorting_gives : list_any (same_table b.table) hand.tables ≡ false → (us : List Tile) → us ≡ after_give_back b.block.first now → IsSorting before freed tiles hand left us
  sorting_gives is us made =
      let foreign : list_any (same_table b.table) before.tables ≡ false = ap (list_any (same_table b.table)) (sym same_tables) ∙ is in
      let rest = h.kept ++ h.others in
      let moved : IsPermutation ((b ∷ []) ++ rest) (h.kept ++ (h.others ++ b ∷ [])) = subst (IsPermutation ((b ∷ []) ++ rest)) (append_assoc h.kept h.others (b ∷ [])) (IsPermutation-append_comm (b ∷ []) rest) in
      subst (IsSorting before freed tiles hand left) (sym made) (record {
        kept = h.kept;
        others = h.others ++ b ∷ [];
        parts = IsPermutation-trans freed (left ++ ((b ∷ []) ++ rest)) (left ++ (h.kept ++ (h.others ++ b ∷ []))) (subst (IsPermutation freed) (append_assoc left (b ∷ []) rest) h.parts) (IsPermutation-append_right left ((b ∷ []) ++ rest) (h.kept ++ (h.others ++ b ∷ [])) moved);
        sorts = record { own = h.sorts.own; foreign = all_push (λ b. list_any (same_table b.table) before.tables ≡ false) h.others b h.sorts.foreign foreign };
        hand = h.hand;
        tiles = ap (after_give_back b.block.first) h.tiles ∙ (sym (release_append (table_blocks h.others) (b.block ∷ []) tiles) ∙ ap (λ l. after_release l tiles) (sym (blocks_push h.others b)));
        tiling = after_give_back-tiling (region_words tiles) b.block.first now h.tiling;
        out = last_out (region_words tiles) now (table_blocks left) b.block h.tiling front;
        few = omega (arith, h.few, own_last);
      })

pub sorted_all : (before : ReservedBlocks) (freed : List TableBlock) (tiles : List Tile) (hand : ReservedBlocks) (now : List Tile) → IsSorting before freed tiles hand [] now → Sorts freed before hand tiles now
sorted_all before freed tiles hand now h = record { kept = h.kept; others = h.others; parts = h.parts; sorts = h.sorts; hand = h.hand; tiles = h.tiles }
