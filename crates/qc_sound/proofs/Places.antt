-- Where blocks are in a tiling whose lowest movable block moves down.
use Rattle.std.proofs.Common.{◌≡◌, ◌≢◌, ◌⊎◌, inl, inr, ⊎_elim, ℕ, zero, suc, ◌+◌, ◌<◌, ◌≤◌, eqb, eqb-true, eq-eqb, ne_eqb, Bool, true, false, cond, List, [], ◌∷◌, ◌++◌, map, length, refl, sym, ap, subst, ◌∙◌, arith, true≢false, append-nil}
use Rattle.std.specs.Prelude.{not, ◌&&◌, Option, Some, None, Contains, slice_index}
use Rattle.std.specs.List.{filter, AllByRecursion}
use Rattle.std.proofs.lemmas.List.Elements.{All-contains, All-from_recursion, recursion_from_All}
use Rattle.std.proofs.lemmas.List.Sorted.{All-permutation}
use Rattle.qc_types.specs.Blocks.{least_block}
use Rattle.qc_model.specs.Licence.{region_words}
use Rattle.qc_tiles.specs.declared.blocks.Tile.{Tile}
use Rattle.qc_tiles.specs.declared.blocks.Block.{Block}
use Rattle.qc_tiles.specs.declared.blocks.Move.{Move}
use Rattle.qc_tiles.specs.Tiles.{CoversFrom, block_of, handed_out, may_move, movable, moved}
use Rattle.qc_turn.specs.Blocks.{counted, spelled}
use Rattle.qc_sound.specs.PlainServer.{PlainServer}
use Rattle.qc_sound.specs.Moment.{Moment}
use Rattle.qc_sound.specs.parts.Memory.{TilesAreSound, blocks_in_use}
use Rattle.qc_sound.specs.steps.Moving.{MovesWords, MovesSpell}
use Rattle.qc_sound.proofs.Lists.{both_true, opposite}
use Rattle.qc_sound.proofs.Moving.{parts_of}

-- ---- where each block is

-- it is the block that moves, or another one whose words are all below or behind
abbrev IsPlaced : Move → Block → Type 0
IsPlaced change b =
    ((b.first ≡ change.from) × (b.words ≡ change.words))
    ⊎ ((b.first ≢ change.from) × ((b.first + b.words ≤ change.to) ⊎ (change.from + change.words ≤ b.first)))

abbrev pub AreLarge : List Tile → Type 0
AreLarge ts = AllByRecursion (λ t. least_block ≤ t.words) ts

-- a block begins at the first word or behind it
pub from_first : (p : Tile → Bool) (first end : ℕ) (ts : List Tile) → CoversFrom first end ts → AllByRecursion (λ b. first ≤ b.first) (map block_of (filter p ts))
from_first p first end [] c = tt
from_first p first end (t ∷ ts) c =
    let more = later (map block_of (filter p ts)) (from_first p (first + t.words) end ts c.1) in
    elim (p t) as (λ b. AllByRecursion (λ b. first ≤ b.first) (map block_of (cond b (t ∷ filter p ts) (filter p ts)))) [
      | true ↦ (omega (arith, c.0), more)
      | false ↦ more
    ]
  where
    later : (bs : List Block) → AllByRecursion (λ b. first + t.words ≤ b.first) bs → AllByRecursion (λ b. first ≤ b.first) bs
    later [] h = tt
    later (b ∷ bs) h = (omega (arith, h.0), later bs h.1)

-- the move goes down, and not below the first word
pub record Goes (first : ℕ) (change : Move) : Type 0 where
  pub low : first ≤ change.to
  pub down : change.to ≤ change.from

pub goes : (first end : ℕ) (ts : List Tile) (change : Move) → CoversFrom first end ts → movable ts ≡ Some change → Goes first change
goes first end [] change c m = absurd cc
goes first end (t ∷ []) change c m = absurd cc
goes first end (t ∷ u ∷ ts) change c m = elim (may_move t u) as (λ b. cond b (Some (record { from = u.first; to = t.first; words = u.words })) (movable (u ∷ ts)) ≡ Some change → Goes first change) [
  | true ↦ λ f.
      let same : record { from = u.first; to = t.first; words = u.words } ≡ change = some_is _ change f in
      subst (Goes first) same (record { low = omega (arith, c.0); down = omega (arith, c.0, c.1.0) })
  | false ↦ λ f. let r = goes (first + t.words) end (u ∷ ts) change c.1 f in record { low = omega (arith, r.low); down = r.down }
] m
  where
    some_is : (a b : Move) → Some a ≡ Some b → a ≡ b
    some_is a b k = cc

behind_move : (change : Move) (first : ℕ) (bs : List Block) → 0 < change.words → change.from + change.words ≤ first → AllByRecursion (λ b. first ≤ b.first) bs → AllByRecursion (IsPlaced change) bs
behind_move change first [] w l h = tt
behind_move change first (b ∷ bs) w l h = (inr ((λ e. absurd (omega (arith, e, h.0, l, w))), inr (omega (arith, h.0, l))), behind_move change first bs w l h.1)

placed : (first end : ℕ) (ts : List Tile) (change : Move) → CoversFrom first end ts → AreLarge ts → movable ts ≡ Some change → AllByRecursion (IsPlaced change) (handed_out ts)
placed first end [] change c l m = absurd cc
placed first end (t ∷ []) change c l m = absurd cc
placed first end (t ∷ u ∷ ts) change c l m = elim (may_move t u) as (λ b. may_move t u ≡ b → cond b (Some (record { from = u.first; to = t.first; words = u.words })) (movable (u ∷ ts)) ≡ Some change → AllByRecursion (IsPlaced change) (handed_out (t ∷ u ∷ ts))) [
  | true ↦ λ e f. subst (λ (z : Move). AllByRecursion (IsPlaced z) (handed_out (t ∷ u ∷ ts))) (some_is _ change f) (here e)
  | false ↦ λ e f.
      let more = placed (first + t.words) end (u ∷ ts) change c.1 l.1 f in
      let r = goes (first + t.words) end (u ∷ ts) change c.1 f in
      elim (not t.free) as (λ b. AllByRecursion (IsPlaced change) (map block_of (cond b (t ∷ filter (λ t. not t.free) (u ∷ ts)) (filter (λ t. not t.free) (u ∷ ts))))) [
        | true ↦ (inr ((λ e. absurd (omega (arith, e, c.0, l.0, r.low, r.down))), inl (omega (arith, c.0, r.low))), more)
        | false ↦ more
      ]
] refl m
  where
    some_is : (a b : Move) → Some a ≡ Some b → a ≡ b
    some_is a b k = cc

    here : may_move t u ≡ true → AllByRecursion (IsPlaced (record { from = u.first; to = t.first; words = u.words })) (handed_out (t ∷ u ∷ ts))
    here e =
        let change : Move = record { from = u.first; to = t.first; words = u.words } in
        let parts = both_true t.free (not u.free && not u.pinned) e in
        let used = opposite u.free (both_true (not u.free) (not u.pinned) parts.1).0 in
        let rest = behind_move change (first + t.words + u.words) (handed_out ts) (omega (arith, l.1.0)) (omega (arith, c.1.0)) (from_first (λ t. not t.free) (first + t.words + u.words) end ts c.1.1) in
        rw parts.0 (rw used (inl (refl, refl), rest))

-- ---- what they spell

spelled_shift : (words over : List ℕ) (a b n : ℕ) → ((i : ℕ) → i < n → slice_index over (a + i) ≡ slice_index words (b + i)) → map (λ i. slice_index over i) (counted a n) ≡ map (λ i. slice_index words i) (counted b n)
spelled_shift words over a b zero h = refl
spelled_shift words over a b (suc n) h =
    let here : slice_index over a ≡ slice_index words b = ap (λ x. slice_index over x) (sym (no a)) ∙ (h 0 (omega arith) ∙ ap (λ x. slice_index words x) (no b)) in
    let more = spelled_shift words over (suc a) (suc b) n (λ i k. ap (λ x. slice_index over x) (sym (next a i)) ∙ (h (suc i) (omega arith) ∙ ap (λ x. slice_index words x) (next b i))) in
    λ i. here i ∷ more i
  where
    no : (x : ℕ) → x + 0 ≡ x
    no x = omega arith

    next : (x i : ℕ) → x + suc i ≡ suc x + i
    next x i = omega arith

spelled_placed : (change : Move) (words over : List ℕ) (b : Block) → Goes 0 change → MovesWords change words over → IsPlaced change b → spelled over (moved change b ∷ []) ≡ spelled words (b ∷ [])
spelled_placed change words over b g m (inl e) =
    let at : eqb b.first change.from ≡ true = eq-eqb b.first change.from e.0 in
    let there : moved change b ≡ record { first = change.to; words = b.words } = ap (λ v. cond v (record { first = change.to; words = b.words }) b) at in
    ap (λ (z : Block). spelled over (z ∷ [])) there
    ∙ (ap (map (λ i. slice_index over i)) (append-nil (counted change.to b.words))
    ∙ (spelled_shift words over change.to b.first b.words (λ i k. m.carried i (subst (λ n. i < n) e.1 k) ∙ ap (λ x. slice_index words (x + i)) (sym e.0)) ∙ ap (map (λ i. slice_index words i)) (sym (append-nil (counted b.first b.words)))))
spelled_placed change words over b g m (inr e) =
    let at : eqb b.first change.from ≡ false = ne_eqb b.first change.from e.0 in
    let there : moved change b ≡ b = ap (λ v. cond v (record { first = change.to; words = b.words }) b) at in
    ap (λ (z : Block). spelled over (z ∷ [])) there
    ∙ (ap (map (λ i. slice_index over i)) (append-nil (counted b.first b.words)) ∙ (spelled_shift words over b.first b.first b.words (λ i k. by i k e.1) ∙ ap (map (λ i. slice_index words i)) (sym (append-nil (counted b.first b.words)))))
  where
    by : (i : ℕ) → i < b.words → (b.first + b.words ≤ change.to) ⊎ (change.from + change.words ≤ b.first) → slice_index over (b.first + i) ≡ slice_index words (b.first + i)
    by i k (inl low) = m.below (b.first + i) (omega (arith, k, low))
    by i k (inr high) = m.behind (b.first + i) (omega (arith, high))

pub moves_spell : MovesSpell
moves_spell moment words over s change tiles is m b there =
    let g = goes 0 (region_words s.options) s.tiles change tiles.tiling.covers is in
    let out = placed 0 (region_words s.options) s.tiles change tiles.tiling.covers tiles.tiling.large is in
    let all : AllByRecursion (IsPlaced change) (moment.held ++ blocks_in_use s) =
    recursion_from_All (IsPlaced change) (moment.held ++ blocks_in_use s) (All-permutation (IsPlaced change) (handed_out s.tiles) (moment.held ++ blocks_in_use s) tiles.in_use (All-from_recursion (IsPlaced change) (handed_out s.tiles) out)) in
    spelled_placed change words over b g m (All-contains (IsPlaced change) (blocks_in_use s) b (All-from_recursion (IsPlaced change) (blocks_in_use s) (parts_of (IsPlaced change) moment.held (blocks_in_use s) all).1) there)
