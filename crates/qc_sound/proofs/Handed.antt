-- Blocks handed out and pinned, after blocks were pinned or given back.
use Rattle.std.proofs.Common.{◌≡◌, ℕ, zero, suc, ◌+◌, ◌<◌, ◌≤◌, eqb, eq-eqb, eqb-true, Bool, true, false, cond, List, [], ◌∷◌, ◌++◌, map, length, take, drop, refl, sym, ap, subst, ◌∙◌, arith, true≢false, ◌⊎◌, ⊎_elim, inl, inr}
use Rattle.std.specs.Prelude.{not, ◌&&◌, ◌==◌, Contains, IsPermutation, sum_by, ◌↔◌}
use Rattle.std.specs.List.{filter, AllByRecursion}
use Rattle.std.proofs.lemmas.List.Recursion.{is_sum_by}
use Rattle.std.proofs.lemmas.List.Elements.{Contains-append_left, Contains-append_right, Contains-append_cases}
use Rattle.std.proofs.lemmas.List.Sorted.{sum_by-IsPermutation, IsPermutation-refl, IsPermutation-cons, IsPermutation-trans, IsPermutation-sym, IsPermutation-middle}
use Rattle.qc_tiles.specs.declared.blocks.Tile.{Tile}
use Rattle.qc_tiles.specs.declared.blocks.Block.{Block}
use Rattle.qc_tiles.specs.Tiles.{tile, free_tile, block_of, IsTiling, handed_out, joined, joined_to, replaced, after_pin, after_give_back}
use Rattle.qc_tiles.specs.Kept.{tile_at, InHand}
use Rattle.qc_tiles.proofs.Tilings.{AreUnpinned, joined-unpinned}
use Rattle.qc_tiles.proofs.Walks.{split_at}
use Rattle.qc_tiles.proofs.Standing.{in_hand}
use Rattle.qc_tiles.proofs.Calls.{replaced_block}
use Rattle.qc_tiles.proofs.Keeps.{after_give_back-tiling, after_pin-tiling, replaced-each}
use Rattle.qc_chain.specs.Chains.{AreHandedOut, AreOnce, after_release}
use Rattle.qc_chain.proofs.Releases.{joined-used, rest_handed_out, in_front, behind, in_first}
use Rattle.qc_sound.specs.parts.Memory.{pinned_blocks}
use Rattle.qc_sound.specs.Handed.{after_pins, IsPinnedSo, IsGivenBack, GivesAll}

-- ---- how often a block stands in a list

abbrev pub same_block : Block → Block → Bool
same_block a b = a.first == b.first && a.words == b.words

abbrev pub times : Block → List Block → ℕ
times b [] = 0
times b (x ∷ xs) = cond (same_block x b) 1 0 + times b xs

pub times_append : (b : Block) (xs ys : List Block) → times b (xs ++ ys) ≡ times b xs + times b ys
times_append b [] ys = omega arith
times_append b (x ∷ xs) ys = omega (arith, times_append b xs ys)

both_true : (a b : Bool) → (a && b) ≡ true → (a ≡ true) × (b ≡ true)
both_true true b h = (refl, h)
both_true false b h = absurd (true≢false (sym h))

same_is : (a b : Block) → same_block a b ≡ true → a ≡ b
same_is a b h =
    let p = both_true (a.first == b.first) (a.words == b.words) h in
    λ i. record { first = eqb-true a.first b.first p.0 i; words = eqb-true a.words b.words p.1 i }

pub same_self : (b : Block) → same_block b b ≡ true
same_self b = λ i. eq-eqb b.first b.first refl i && eq-eqb b.words b.words refl i

pub self_one : (b : Block) → ◌≡◌ {A = ℕ} (cond (same_block b b) 1 0) 1
self_one b = ap (λ v. cond v 1 0) (same_self b)

pub times_permuted : (b : Block) (xs ys : List Block) → IsPermutation xs ys → times b ys ≡ times b xs
times_permuted b xs ys h =
    let f = λ (x : Block). cond (same_block x b) 1 0 in
    is_sum_by (times b) f refl (λ x l. refl) ys ∙ (sum_by-IsPermutation f xs ys h ∙ sym (is_sum_by (times b) f refl (λ x l. refl) xs))

pub times_cut : (b : Block) (xs : List Block) → 0 < times b xs → (low : List Block) × (high : List Block) × (xs ≡ low ++ b ∷ high)
times_cut b [] h = absurd (omega (arith, h))
times_cut b (x ∷ xs) h =
    elim (same_block x b) as (λ v. same_block x b ≡ v → 0 < cond v 1 0 + times b xs → (low : List Block) × (high : List Block) × (x ∷ xs ≡ low ++ b ∷ high)) [
      | true ↦ λ e k. ([], xs, ap (λ z. z ∷ xs) (same_is x b e))
      | false ↦ λ e k. let cut = times_cut b xs (omega (arith, k)) in (x ∷ cut.0, cut.1, ap (λ l. x ∷ l) cut.2)
    ] refl h

-- lists with the same blocks, each as often, are one another in another order
pub permuted : (xs ys : List Block) → ((b : Block) → times b xs ≡ times b ys) → IsPermutation xs ys
permuted [] [] same = IsPermutation-refl []
permuted [] (y ∷ ys) same = absurd (omega (arith, same y, self_one y))
permuted (x ∷ xs) ys same =
    let cut = times_cut x ys (omega (arith, same x, self_one x)) in
    let rest = permuted xs (cut.0 ++ cut.1) (λ b. omega (arith, same b, ap (times b) cut.2, times_append b cut.0 (x ∷ cut.1), times_append b cut.0 cut.1)) in
    rw cut.2 (IsPermutation-trans (x ∷ xs) (x ∷ (cut.0 ++ cut.1)) (cut.0 ++ x ∷ cut.1) (IsPermutation-cons x xs (cut.0 ++ cut.1) rest) (IsPermutation-sym (cut.0 ++ x ∷ cut.1) (x ∷ (cut.0 ++ cut.1)) (IsPermutation-middle cut.0 x cut.1)))

-- ---- parts of a tiling

hands_append : (xs ys : List Tile) → handed_out (xs ++ ys) ≡ handed_out xs ++ handed_out ys
hands_append [] ys = refl
hands_append (t ∷ xs) ys = elim t.free as (λ v. map block_of (cond (not v) (t ∷ filter (λ t. not t.free) (xs ++ ys)) (filter (λ t. not t.free) (xs ++ ys))) ≡ map block_of (cond (not v) (t ∷ filter (λ t. not t.free) xs) (filter (λ t. not t.free) xs)) ++ handed_out ys) [
  | true ↦ hands_append xs ys
  | false ↦ ap (λ l. block_of t ∷ l) (hands_append xs ys)
]

pins_append : (xs ys : List Tile) → pinned_blocks (xs ++ ys) ≡ pinned_blocks xs ++ pinned_blocks ys
pins_append [] ys = refl
pins_append (t ∷ xs) ys = elim t.pinned as (λ v. map block_of (cond v (t ∷ filter (λ t. t.pinned) (xs ++ ys)) (filter (λ t. t.pinned) (xs ++ ys))) ≡ map block_of (cond v (t ∷ filter (λ t. t.pinned) xs) (filter (λ t. t.pinned) xs)) ++ pinned_blocks ys) [
  | true ↦ ap (λ l. block_of t ∷ l) (pins_append xs ys)
  | false ↦ pins_append xs ys
]

pins_cons : (t : Tile) (us vs : List Tile) → pinned_blocks us ≡ pinned_blocks vs → pinned_blocks (t ∷ us) ≡ pinned_blocks (t ∷ vs)
pins_cons t us vs h = pins_append (t ∷ []) us ∙ (ap (λ l. pinned_blocks (t ∷ []) ++ l) h ∙ sym (pins_append (t ∷ []) vs))

pub unpinned-cons : (t : Tile) (ts : List Tile) → t.pinned ≡ false → pinned_blocks (t ∷ ts) ≡ pinned_blocks ts
unpinned-cons t ts e = rw e refl

to_pins : (t u : Tile) (us : List Tile) (a b : Bool) → t.free ≡ a → u.free ≡ b → AreUnpinned (t ∷ u ∷ us) → pinned_blocks (cond (a && b) (free_tile t.first (t.words + u.words) ∷ us) (t ∷ u ∷ us)) ≡ pinned_blocks (t ∷ u ∷ us)
to_pins t u us true true e f h = sym (unpinned-cons t (u ∷ us) (h.0 e) ∙ unpinned-cons u us (h.1.0 f))
to_pins t u us true false e f h = refl
to_pins t u us false b e f h = refl

joined_to-pins : (t : Tile) (us : List Tile) → AreUnpinned (t ∷ us) → pinned_blocks (joined_to t us) ≡ pinned_blocks (t ∷ us)
joined_to-pins t [] h = refl
joined_to-pins t (u ∷ us) h = to_pins t u us t.free u.free refl refl h

-- joining pins no block and unpins none
pub joined-pins : (ts : List Tile) → AreUnpinned ts → pinned_blocks (joined ts) ≡ pinned_blocks ts
joined-pins [] h = refl
joined-pins (t ∷ ts) h = joined_to-pins t (joined ts) (h.0, joined-unpinned ts h.1) ∙ pins_cons t (joined ts) ts (joined-pins ts h.1)

-- ---- one block

-- a block in the middle of a tiling
record Middle (ts : List Tile) (b : Block) (f : Tile → List Tile) : Type 0 where
  pub low : List Tile
  pub high : List Tile
  pub at : Tile
  pub block : block_of at ≡ b
  pub used : at.free ≡ false
  pub old : ts ≡ low ++ at ∷ high
  pub new : replaced b.first f ts ≡ low ++ (f at ++ high)

middle : (words : ℕ) (ts : List Tile) (b : Block) (f : Tile → List Tile) → IsTiling words ts → Contains (handed_out ts) b → Middle ts b f
middle words ts b f tiling there =
    let one = in_hand ts b there in
    let k = one.0 in
    record {
      low = take k ts;
      high = drop (k + 1) ts;
      at = tile_at ts k;
      block = λ i. record { first = one.1.first i; words = one.1.words i };
      used = one.1.used;
      old = split_at ts k one.1.within;
      new = replaced_block words ts b k f tiling one.1;
    }

hands-used : (t : Tile) (ts : List Tile) → t.free ≡ false → handed_out (t ∷ ts) ≡ block_of t ∷ handed_out ts
hands-used t ts e = rw e refl

pins-pinned : (t : Tile) (ts : List Tile) → t.pinned ≡ true → pinned_blocks (t ∷ ts) ≡ block_of t ∷ pinned_blocks ts
pins-pinned t ts e = rw e refl

-- a pin hands out nothing and gives nothing back
pub pin_hands : (words : ℕ) (ts : List Tile) (b : Block) (p : Bool) → IsTiling words ts → Contains (handed_out ts) b → handed_out (after_pin p b.first ts) ≡ handed_out ts
pin_hands words ts b p tiling there =
    let m = middle words ts b (λ t. tile t.first t.words false p ∷ []) tiling there in
    ap handed_out m.new ∙ (hands_append m.low (tile m.at.first m.at.words false p ∷ m.high) ∙ sym (ap handed_out m.old ∙ (hands_append m.low (m.at ∷ m.high) ∙ ap (λ l. handed_out m.low ++ l) (hands-used m.at m.high m.used))))

-- and pins that block
pub pin_pins : (words : ℕ) (ts : List Tile) (b x : Block) → IsTiling words ts → Contains (handed_out ts) b → Contains (pinned_blocks (after_pin true b.first ts)) x ↔ (Contains (pinned_blocks ts) x ⊎ (x ≡ b))
pin_pins words ts b x tiling there =
    let m = middle words ts b (λ t. tile t.first t.words false true ∷ []) tiling there in
    let now : pinned_blocks (after_pin true b.first ts) ≡ pinned_blocks m.low ++ b ∷ pinned_blocks m.high = ap pinned_blocks m.new ∙ (pins_append m.low (tile m.at.first m.at.words false true ∷ m.high) ∙ ap (λ (c : Block). pinned_blocks m.low ++ c ∷ pinned_blocks m.high) m.block) in
    let was : pinned_blocks ts ≡ pinned_blocks m.low ++ pinned_blocks (m.at ∷ m.high) = ap pinned_blocks m.old ∙ pins_append m.low (m.at ∷ m.high) in (
      λ h. subst (λ l. Contains l x ⊎ (x ≡ b)) (sym was) (forth m.low m.high m.at (subst (λ l. Contains l x) now h)),
      λ h. subst (λ l. Contains l x) (sym now) (back m.low m.high m.at m.block (subst (λ l. Contains l x ⊎ (x ≡ b)) was h)),
    )
  where
    forth : (low high : List Tile) (t : Tile) → Contains (pinned_blocks low ++ b ∷ pinned_blocks high) x → Contains (pinned_blocks low ++ pinned_blocks (t ∷ high)) x ⊎ (x ≡ b)
    forth low high t h = ⊎_elim
        (λ l. inl (Contains-append_left (pinned_blocks low) (pinned_blocks (t ∷ high)) x l))
        (λ r. ⊎_elim
        (λ e. inr (sym e))
        (λ l. inl (Contains-append_right (pinned_blocks low) (pinned_blocks (t ∷ high)) x (subst (λ z. Contains z x) (sym (pins_append (t ∷ []) high)) (Contains-append_right (pinned_blocks (t ∷ [])) (pinned_blocks high) x l))))
        (in_front x b (pinned_blocks high) r))
        (Contains-append_cases (pinned_blocks low) (b ∷ pinned_blocks high) x h)

    one_at : (t : Tile) → block_of t ≡ b → Contains (pinned_blocks (t ∷ [])) x → b ≡ x
    one_at t same h = elim t.pinned as (λ v. Contains (map block_of (cond v (t ∷ []) [])) x → b ≡ x) [
      | true ↦ λ k. ⊎_elim (λ e. sym same ∙ e) (λ (n : Contains [] x). absurd (omega (arith, n.1))) (in_front x (block_of t) [] k)
      | false ↦ λ (k : Contains [] x). absurd (omega (arith, k.1))
    ] h

    back : (low high : List Tile) (t : Tile) → block_of t ≡ b → Contains (pinned_blocks low ++ pinned_blocks (t ∷ high)) x ⊎ (x ≡ b) → Contains (pinned_blocks low ++ b ∷ pinned_blocks high) x
    back low high t same (inr e) = Contains-append_right (pinned_blocks low) (b ∷ pinned_blocks high) x (subst (λ z. Contains (b ∷ pinned_blocks high) z) (sym e) (in_first b (pinned_blocks high)))
    back low high t same (inl h) = ⊎_elim
        (λ l. Contains-append_left (pinned_blocks low) (b ∷ pinned_blocks high) x l)
        (λ r. ⊎_elim
        (λ a. Contains-append_right (pinned_blocks low) (b ∷ pinned_blocks high) x (subst (λ z. Contains (b ∷ pinned_blocks high) z) (one_at t same a) (in_first b (pinned_blocks high))))
        (λ l. Contains-append_right (pinned_blocks low) (b ∷ pinned_blocks high) x (behind x b (pinned_blocks high) l))
        (Contains-append_cases (pinned_blocks (t ∷ [])) (pinned_blocks high) x (subst (λ z. Contains z x) (pins_append (t ∷ []) high) r)))
        (Contains-append_cases (pinned_blocks low) (pinned_blocks (t ∷ high)) x h)

-- a block given back is no more handed out, and nothing else changes of what is handed out and pinned, where it wasn't pinned
pub record GaveBack (ts us : List Tile) (bs : List Block) : Type 0 where
  pub hands : (c : Block) → times c (handed_out us) + times c bs ≡ times c (handed_out ts)
  pub pins : pinned_blocks us ≡ pinned_blocks ts

pub gave_one : (words : ℕ) (ts : List Tile) (b : Block) → IsTiling words ts → Contains (handed_out ts) b → (Contains (pinned_blocks ts) b → ⊥) → GaveBack ts (after_give_back b.first ts) (b ∷ [])
gave_one words ts b tiling there loose =
    let f = λ (t : Tile). free_tile t.first t.words ∷ [] in
    let m = middle words ts b f tiling there in
    let us = replaced b.first f ts in
    let now : handed_out (after_give_back b.first ts) ≡ handed_out m.low ++ handed_out m.high = joined-used us ∙ (ap handed_out m.new ∙ hands_append m.low (free_tile m.at.first m.at.words ∷ m.high)) in
    let was : handed_out ts ≡ handed_out m.low ++ b ∷ handed_out m.high = ap handed_out m.old ∙ (hands_append m.low (m.at ∷ m.high) ∙ ap (λ l. handed_out m.low ++ l) (hands-used m.at m.high m.used ∙ ap (λ (c : Block). c ∷ handed_out m.high) m.block)) in
    let free : AreUnpinned us = replaced-each (λ t. t.free ≡ true → t.pinned ≡ false) b.first f ts (λ t _. (λ _. refl, tt)) tiling.unpinned in
    record {
      hands = λ c. omega (arith, ap (times c) now, ap (times c) was, times_append c (handed_out m.low) (handed_out m.high), times_append c (handed_out m.low) (b ∷ handed_out m.high));
      pins = joined-pins us free ∙ (ap pinned_blocks m.new ∙ (pins_append m.low (free_tile m.at.first m.at.words ∷ m.high) ∙ sym (ap pinned_blocks m.old ∙ (pins_append m.low (m.at ∷ m.high) ∙ ap (λ l. pinned_blocks m.low ++ l) (off m.low m.high m.at m.block m.old)))));
    }
  where
    off : (low high : List Tile) (t : Tile) → block_of t ≡ b → ts ≡ low ++ t ∷ high → pinned_blocks (t ∷ high) ≡ pinned_blocks high
    off low high t same split = elim t.pinned as (λ v. t.pinned ≡ v → pinned_blocks (t ∷ high) ≡ pinned_blocks high) [
      | true ↦ λ e. absurd (loose (subst (λ l. Contains l b) (sym (ap pinned_blocks split ∙ (pins_append low (t ∷ high) ∙ ap (λ l. pinned_blocks low ++ l) (pins-pinned t high e ∙ ap (λ (c : Block). c ∷ pinned_blocks high) same)))) (Contains-append_right (pinned_blocks low) (b ∷ pinned_blocks high) b (in_first b (pinned_blocks high)))))
      | false ↦ λ e. unpinned-cons t high e
    ] refl

-- ---- many blocks

abbrev pub AreLoose : List Tile → List Block → Type 0
AreLoose ts bs = AllByRecursion (λ b. Contains (pinned_blocks ts) b → ⊥) bs

pub gave_all : (words : ℕ) (ts : List Tile) (bs : List Block) → IsTiling words ts → AreHandedOut ts bs → AreLoose ts bs → GaveBack ts (after_release bs ts) bs
gave_all words ts [] tiling out loose = record { hands = λ c. omega arith; pins = refl }
gave_all words ts (b ∷ bs) tiling out loose =
    let one = gave_one words ts b tiling out.each.0 loose.0 in
    let us = after_give_back b.first ts in
    let more = gave_all words us bs (after_give_back-tiling words b.first ts tiling) (rest_handed_out words ts b bs tiling out) (subst (λ l. AllByRecursion (λ b. Contains l b → ⊥) bs) (sym one.pins) loose.1) in
    record { hands = λ c. omega (arith, one.hands c, more.hands c); pins = more.pins ∙ one.pins }

pub gave_tiling : (words : ℕ) (ts : List Tile) (bs : List Block) → IsTiling words ts → IsTiling words (after_release bs ts)
gave_tiling words ts [] tiling = tiling
gave_tiling words ts (b ∷ bs) tiling = gave_tiling words (after_give_back b.first ts) bs (after_give_back-tiling words b.first ts tiling)

pub pinned_all : (words : ℕ) (ts : List Tile) (bs : List Block) → IsTiling words ts → AllByRecursion (Contains (handed_out ts)) bs → IsPinnedSo words ts (after_pins bs ts) bs
pinned_all words ts [] tiling out = record { tiling = tiling; hands = refl; pins = λ x. (λ h. inl h, λ h. ⊎_elim (λ a. a) (λ (n : Contains [] x). absurd (omega (arith, n.1))) h) }
pinned_all words ts (b ∷ bs) tiling out =
    let us = after_pin true b.first ts in
    let same = pin_hands words ts b true tiling out.0 in
    let more = pinned_all words us bs (after_pin-tiling words b.first true ts tiling) (subst (λ l. AllByRecursion (Contains l) bs) (sym same) out.1) in
    record {
      tiling = more.tiling;
      hands = more.hands ∙ same;
      pins = λ x. let one = pin_pins words ts b x tiling out.0 in (
        λ h. ⊎_elim (λ a. ⊎_elim (λ y. inl y) (λ e. inr (subst (λ z. Contains (b ∷ bs) z) (sym e) (in_first b bs))) (one.0 a)) (λ l. inr (behind x b bs l)) ((more.pins x).0 h),
        λ h. (more.pins x).1 (⊎_elim (λ a. inl (one.1 (inl a))) (λ l. ⊎_elim (λ e. inl (one.1 (inr (sym e)))) (λ r. inr r) (in_front x b bs l)) h),
      );
    }

pub gives_all : GivesAll
gives_all words ts bs tiling out loose =
    let g = gave_all words ts bs tiling out loose in
    record { tiling = gave_tiling words ts bs tiling; hands = permuted (handed_out ts) (handed_out (after_release bs ts) ++ bs) (λ b. omega (arith, g.hands b, times_append b (handed_out (after_release bs ts)) bs)); pins = g.pins }
