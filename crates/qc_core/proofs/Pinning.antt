-- What is pinned after blocks were unpinned.
use Rattle.std.proofs.Common.{◌≡◌, ◌≢◌, ℕ, zero, suc, ◌+◌, eqb, eq-eqb, ne_eqb, Bool, true, false, cond, List, [], ◌∷◌, map, refl, sym, ap, subst, ◌∙◌, arith, true≢false, inl, inr, ⊎_elim, ◌⊎◌}
use Rattle.std.specs.Prelude.{not, ◌==◌, Some, Contains, slice_get, drop}
use Rattle.std.specs.List.{filter, AllByRecursion}
use Rattle.std.proofs.lemmas.Option.{same_Some}
use Rattle.qc_tiles.specs.declared.blocks.Tile.{Tile}
use Rattle.qc_tiles.specs.declared.blocks.Block.{Block}
use Rattle.qc_tiles.specs.Tiles.{IsTiling, region_words, handed_out, block_of, after_pin}
use Rattle.qc_tiles.specs.Cells.{block_at}
use Rattle.qc_tiles.proofs.Changes.{found_at}
use Rattle.qc_tiles.proofs.Keeps.{after_pin-tiling}
use Rattle.qc_chain.specs.Chains.{AreHandedOut}
use Rattle.qc_chain.proofs.Listed.{drop_got}
use Rattle.qc_sound.specs.parts.Memory.{pinned_blocks}
use Rattle.qc_sound.specs.Handed.{after_pins}
use Rattle.qc_sound.proofs.Handed.{pin_hands}
use Rattle.qc_core.specs.ChainPins.{after_unpins, IsUnpinnedSo, IsPinning, IsUnpinning}

-- a pin less
unpin_pinned : (n : ℕ) (ts : List Tile) → pinned_blocks (after_pin false n ts) ≡ filter (λ b. not (b.first == n)) (pinned_blocks ts)
unpin_pinned n [] = refl
unpin_pinned n (t ∷ ts) =
    let rest = after_pin false n ts in
    let more = unpin_pinned n ts in
    elim (eqb t.first n) as (λ v. eqb t.first n ≡ v → pinned_blocks (cond v (record { first = t.first; words = t.words; free = false; pinned = false } ∷ rest) (t ∷ rest)) ≡ filter (λ b. not (b.first == n)) (pinned_blocks (t ∷ ts))) [
      | true ↦ λ e. elim t.pinned as (λ p. pinned_blocks rest ≡ filter (λ b. not (b.first == n)) (map block_of (cond p (t ∷ filter (λ t. t.pinned) ts) (filter (λ t. t.pinned) ts)))) [
        | true ↦ more ∙ sym (ap (λ v. cond (not v) (block_of t ∷ filter (λ b. not (b.first == n)) (pinned_blocks ts)) (filter (λ b. not (b.first == n)) (pinned_blocks ts))) e)
        | false ↦ more
      ]
      | false ↦ λ e. elim t.pinned as (λ p. map block_of (cond p (t ∷ filter (λ t. t.pinned) rest) (filter (λ t. t.pinned) rest)) ≡ filter (λ b. not (b.first == n)) (map block_of (cond p (t ∷ filter (λ t. t.pinned) ts) (filter (λ t. t.pinned) ts)))) [
        | true ↦ ap (λ l. block_of t ∷ l) more ∙ sym (ap (λ v. cond (not v) (block_of t ∷ filter (λ b. not (b.first == n)) (pinned_blocks ts)) (filter (λ b. not (b.first == n)) (pinned_blocks ts))) e)
        | false ↦ more
      ]
    ] refl

kept_in : (n : ℕ) (bs : List Block) (x : Block) → Contains bs x → x.first ≢ n → Contains (filter (λ b. not (b.first == n)) bs) x
kept_in n [] x h ne = absurd (omega (arith, h.1))
kept_in n (b ∷ bs) x (zero, within, same) ne = let at : (b.first == n) ≡ false = ne_eqb b.first n (λ e. ne (sym (ap (λ (c : Block). c.first) same) ∙ e)) in
    subst (λ v. Contains (cond (not v) (b ∷ filter (λ b. not (b.first == n)) bs) (filter (λ b. not (b.first == n)) bs)) x) (sym at) (0, omega arith, same)
kept_in n (b ∷ bs) x (suc k, within, same) ne =
    let more = kept_in n bs x (k, omega (arith, within), same) ne in
    elim (b.first == n) as (λ v. Contains (cond (not v) (b ∷ filter (λ b. not (b.first == n)) bs) (filter (λ b. not (b.first == n)) bs)) x) [
      | true ↦ more
      | false ↦ (suc more.0, omega (arith, more.1), more.2)
    ]

in_front : (x b : Block) (bs : List Block) → Contains (b ∷ bs) x → (b ≡ x) ⊎ Contains bs x
in_front x b bs (zero, within, same) = inl same
in_front x b bs (suc k, within, same) = inr (k, omega (arith, within), same)

was_in : (n : ℕ) (bs : List Block) (x : Block) → Contains (filter (λ b. not (b.first == n)) bs) x → Contains bs x × (x.first ≢ n)
was_in n [] x h = absurd (omega (arith, h.1))
was_in n (b ∷ bs) x h =
    let rest = filter (λ b. not (b.first == n)) bs in
    elim (eqb b.first n) as (λ v. eqb b.first n ≡ v → Contains (cond (not v) (b ∷ rest) rest) x → Contains (b ∷ bs) x × (x.first ≢ n)) [
      | true ↦ λ e k. let t = was_in n bs x k in ((suc t.0.0, omega (arith, t.0.1), t.0.2), t.1)
      | false ↦ λ e k. ⊎_elim
          (λ (z : b ≡ x). ((0, omega arith, z), λ y. true≢false (sym (eq-eqb b.first n (ap (λ (c : Block). c.first) z ∙ y)) ∙ e)))
          (λ r. let t = was_in n bs x r in ((suc t.0.0, omega (arith, t.0.1), t.0.2), t.1))
          (in_front x b rest k)
    ] refl h

-- the first of the tiles
pinned_step : (t : Tile) (ts : List Tile) (x : Block) → (Contains (pinned_blocks ts) x → Contains (handed_out ts) x) → (t.free ≡ true → t.pinned ≡ false) → Contains (pinned_blocks (t ∷ ts)) x → Contains (handed_out (t ∷ ts)) x
pinned_step t ts x more u h = by t.pinned t.free refl refl h
  where
    by : (p f : Bool) → t.pinned ≡ p → t.free ≡ f → Contains (map block_of (cond t.pinned (t ∷ filter (λ t. t.pinned) ts) (filter (λ t. t.pinned) ts))) x → Contains (map block_of (cond (not t.free) (t ∷ filter (λ t. not t.free) ts) (filter (λ t. not t.free) ts))) x
    by true true p f k = absurd (true≢false (sym p ∙ u f))
    by false true p f k =
        let rest = more (subst (λ v. Contains (map block_of (cond v (t ∷ filter (λ t. t.pinned) ts) (filter (λ t. t.pinned) ts))) x) p k) in
        subst (λ v. Contains (map block_of (cond (not v) (t ∷ filter (λ t. not t.free) ts) (filter (λ t. not t.free) ts))) x) (sym f) rest
    by false false p f k =
        let rest = more (subst (λ v. Contains (map block_of (cond v (t ∷ filter (λ t. t.pinned) ts) (filter (λ t. t.pinned) ts))) x) p k) in
        subst (λ v. Contains (map block_of (cond (not v) (t ∷ filter (λ t. not t.free) ts) (filter (λ t. not t.free) ts))) x) (sym f) (suc rest.0, omega (arith, rest.1), rest.2)
    by true false p f k =
        let front = subst (λ v. Contains (map block_of (cond v (t ∷ filter (λ t. t.pinned) ts) (filter (λ t. t.pinned) ts))) x) p k in
        subst (λ v. Contains (map block_of (cond (not v) (t ∷ filter (λ t. not t.free) ts) (filter (λ t. not t.free) ts))) x) (sym f)
        (⊎_elim (λ (z : block_of t ≡ x). (0, omega arith, z)) (λ r. let rest = more r in (suc rest.0, omega (arith, rest.1), rest.2)) (in_front x (block_of t) (pinned_blocks ts) front))

pinned_out : (ts : List Tile) (x : Block) → AllByRecursion (λ t. t.free ≡ true → t.pinned ≡ false) ts → Contains (pinned_blocks ts) x → Contains (handed_out ts) x
pinned_out [] x u h = absurd (omega (arith, h.1))
pinned_out (t ∷ ts) x u h = pinned_step t ts x (λ k. pinned_out ts x u.1 k) u.0 h

-- two blocks that are handed out and begin at one place are one
same_place : (words : ℕ) (ts : List Tile) (x b : Block) → IsTiling words ts → Contains (handed_out ts) x → Contains (handed_out ts) b → x.first ≡ b.first → x ≡ b
same_place words ts x b h p q e =
    let f = found_at words ts x h p in
    let g = found_at words ts b h q in
    let same : f.0 ≡ g.0 = same_Some f.0 g.0 (sym f.1 ∙ (ap (λ n. block_at n ts) e ∙ g.1)) in
    let long : x.words ≡ b.words = sym f.2 ∙ (ap (λ (t : Tile). t.words) same ∙ g.2) in
    λ i. record { first = e i; words = long i }

pub unpinned_all : (words : ℕ) (ts : List Tile) (bs : List Block) → IsTiling words ts → AllByRecursion (Contains (handed_out ts)) bs → IsUnpinnedSo words ts (after_unpins bs ts) bs
unpinned_all words ts [] tiling out = record { tiling = tiling; hands = refl; pins = λ x. (λ h. (h, λ (n : Contains [] x). absurd (omega (arith, n.1))), λ h. h.0) }
unpinned_all words ts (b ∷ bs) tiling out =
    let us = after_pin false b.first ts in
    let same = pin_hands words ts b false tiling out.0 in
    let more = unpinned_all words us bs (after_pin-tiling words b.first false ts tiling) (subst (λ l. AllByRecursion (Contains l) bs) (sym same) out.1) in
    let is = unpin_pinned b.first ts in
    record {
      tiling = more.tiling;
      hands = more.hands ∙ same;
      pins = λ x. (
        λ h. let r = (more.pins x).0 h in
            let w = was_in b.first (pinned_blocks ts) x (subst (λ l. Contains l x) is r.0) in
            (w.0, λ c. ⊎_elim (λ (e : b ≡ x). w.1 (ap (λ (z : Block). z.first) (sym e))) r.1 (in_front x b bs c)),
        λ h. (more.pins x).1 (
          subst (λ l. Contains l x) (sym is) (kept_in b.first (pinned_blocks ts) x h.0 (λ e. h.1 (0, omega arith, sym (same_place words ts x b tiling (pinned_out ts x tiling.unpinned h.0) out.0 e)))),
          λ c. h.1 (suc c.0, omega (arith, c.1), c.2),
        ),
      );
    }

-- one block more is unpinned
pub unpinning_on : (bs : List Block) (k : ℕ) (b : Block) (old now new : List Tile) → slice_get bs k ≡ Some b → new ≡ after_pin false b.first now → IsUnpinning bs k old now → IsUnpinning bs (k + 1) old new
unpinning_on bs k b old now new got is h =
    let rest = drop_got bs k b got in
    let out = subst (AllByRecursion (Contains (handed_out now))) rest h.out in
    let words = region_words old in
    let hands = pin_hands words now b false h.tiling out.0 in
    subst (IsUnpinning bs (k + 1) old) (sym is) (record {
      tiling = after_pin-tiling words b.first false now h.tiling;
      hands = hands ∙ h.hands;
      left = ap (λ l. after_unpins l now) (sym rest) ∙ h.left;
      out = subst (λ l. AllByRecursion (Contains l) (drop (k + 1) bs)) (sym hands) out.1;
    })

-- one block more is pinned
pub pinning_on : (bs : List Block) (k : ℕ) (b : Block) (old now new : List Tile) → slice_get bs k ≡ Some b → new ≡ after_pin true b.first now → IsPinning bs k old now → IsPinning bs (k + 1) old new
pinning_on bs k b old now new got is h =
    let rest = drop_got bs k b got in
    let out = subst (AllByRecursion (Contains (handed_out now))) rest h.out in
    let words = region_words old in
    let hands = pin_hands words now b true h.tiling out.0 in
    subst (IsPinning bs (k + 1) old) (sym is) (record {
      tiling = after_pin-tiling words b.first true now h.tiling;
      hands = hands ∙ h.hands;
      left = ap (λ l. after_pins l now) (sym rest) ∙ h.left;
      out = subst (λ l. AllByRecursion (Contains l) (drop (k + 1) bs)) (sym hands) out.1;
    })

-- what was handed out still is
pub out_unpinned : (words : ℕ) (ts : List Tile) (bs : List Block) → IsTiling words ts → AreHandedOut ts bs → AreHandedOut (after_unpins bs ts) bs
out_unpinned words ts bs tiling out = record { each = subst (λ l. AllByRecursion (Contains l) bs) (sym (unpinned_all words ts bs tiling out.each).hands) out.each; once = out.once }
