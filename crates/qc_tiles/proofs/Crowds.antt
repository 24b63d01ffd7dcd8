-- Between two free blocks one is handed out, so the free ones are at most one more.
use Rattle.std.proofs.Common.{◌≡◌, ℕ, ◌+◌, ◌*◌, ◌<◌, ◌≤◌, Bool, true, false, cond, List, [], ◌∷◌, length, refl, arith, zero, suc}
use Rattle.std.specs.List.{AllByRecursion}
use Rattle.std.proofs.Math.Nat.{mul-le-mul_left}
use Rattle.qc_tiles.specs.declared.blocks.Tile.{Tile}
use Rattle.qc_tiles.specs.Tiles.{FreeApart, region_words, handed_out, free_count}
use Rattle.qc_tiles.specs.Crowded.{IsBelow, BoundsRegion}
use Rattle.qc_tiles.proofs.Tilings.{tiling_words}

abbrev used_count : List Tile → ℕ
used_count ts = length (handed_out ts)

-- one for a free block in front
abbrev leads : List Tile → ℕ
leads [] = 0
leads (t ∷ ts) = cond t.free 1 0

-- a block in front of blocks of which this is known: whether it is free, and the next
alternate_more : (b : Bool) (t : Tile) (us : List Tile) → t.free ≡ b → (b ≡ true → leads us ≡ 0) → leads us ≤ 1 → free_count us ≤ used_count us + leads us → free_count (t ∷ us) ≤ used_count (t ∷ us) + leads (t ∷ us)
alternate_more true t us e apart one h = rw e (omega (arith, apart refl, h))
alternate_more false t us e apart one h = rw e (omega (arith, h, one))

leads_one : (ts : List Tile) → leads ts ≤ 1
leads_one [] = omega arith
leads_one (t ∷ ts) = elim t.free as (λ b. cond b 1 0 ≤ 1) [ true ↦ omega arith | false ↦ omega arith ]

leads_none : (t : Tile) (ts : List Tile) → t.free ≡ false → leads (t ∷ ts) ≡ 0
leads_none t ts e = rw e refl

alternate : (ts : List Tile) → FreeApart ts → free_count ts ≤ used_count ts + leads ts
alternate [] h = omega arith
alternate (t ∷ []) h = alternate_more t.free t [] refl (λ _. refl) (omega arith) (omega arith)
alternate (t ∷ u ∷ ts) h = alternate_more t.free t (u ∷ ts) refl (λ e. leads_none u ts (h.0 e)) (leads_one (u ∷ ts)) (alternate (u ∷ ts) h.1)

bounded_more : (most : ℕ) (b : Bool) (t : Tile) (ts : List Tile) → t.free ≡ b → IsBelow most t → region_words ts + free_count ts ≤ most * (used_count ts + free_count ts)
    → region_words (t ∷ ts) + free_count (t ∷ ts) ≤ most * (used_count (t ∷ ts) + free_count (t ∷ ts))
bounded_more most true t ts e below h = rw e (omega (arith, below.free e, h))
bounded_more most false t ts e below h = rw e (omega (arith, below.used e, h))

bounded : (most : ℕ) (ts : List Tile) → AllByRecursion (IsBelow most) ts → region_words ts + free_count ts ≤ most * (used_count ts + free_count ts)
bounded most [] h = omega arith
bounded most (t ∷ ts) h = bounded_more most t.free t ts refl h.0 (bounded most ts h.1)

finish : (words free used blocks most : ℕ) → words + free ≤ most * (used + free) → most * (used + free) ≤ most * (2 * blocks + 1) → most * used ≤ most * blocks → 0 < most → words < (2 * blocks + 1) * most
finish words zero used blocks most few wide narrow positive = omega arith
finish words (suc free) used blocks most few wide narrow positive = omega arith

pub bounds_region : BoundsRegion
bounds_region tiles words blocks most tiling few positive below =
    let sum : words ≡ region_words tiles = tiling_words words tiles tiling in
    let parts : region_words tiles + free_count tiles ≤ most * (used_count tiles + free_count tiles) = bounded most tiles below in
    let apart : free_count tiles ≤ used_count tiles + leads tiles = alternate tiles tiling.apart in
    let count : used_count tiles + free_count tiles ≤ 2 * blocks + 1 = omega (arith, leads_one tiles) in
    let wide : most * (used_count tiles + free_count tiles) ≤ most * (2 * blocks + 1) = mul-le-mul_left most count in
    let small : region_words tiles < (2 * blocks + 1) * most = finish (region_words tiles) (free_count tiles) (used_count tiles) blocks most parts wide (mul-le-mul_left most few) positive in
    omega arith
