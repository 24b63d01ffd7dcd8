-- Blocks move down until none can any more.
use Rattle.std.proofs.Common.{◌≡◌, ◌≢◌, ℕ, ◌+◌, ◌-◌, ◌<◌, ◌≤◌, Bool, true, false, cond, List, [], ◌∷◌, ◌++◌, map, refl, sym, ap, subst, arith, true≢false, inl, inr, ⊎_elim, ◌⊎◌}
use Rattle.std.specs.Prelude.{not, ◌&&◌, ◌==◌, Option, Some, None, Contains, nat_lt}
use Rattle.std.proofs.lemmas.Bool.Decides.{nat_tests}
use Rattle.std.proofs.lemmas.Option.{none-some}
use Rattle.std.specs.List.{filter, flat_map, AllByRecursion}
use Rattle.std.proofs.lemmas.List.Elements.{Contains-append_left, Contains-append_right}
use Rattle.qc_types.specs.Blocks.{least_block}
use Rattle.qc_key.specs.Hash.{hash}
use Rattle.qc_model.specs.Licence.{region_words}
use Rattle.qc_tiles.specs.declared.blocks.Block.{Block}
use Rattle.qc_tiles.specs.declared.blocks.Move.{Move}
use Rattle.qc_tiles.specs.declared.blocks.Tile.{Tile}
use Rattle.qc_tiles.specs.Tiles.{CoversFrom, FreeApart, IsTiling, block_of, tile, free_tile, handed_out, may_move, movable, swapped, after_move_down}
use Rattle.qc_chain.proofs.Releases.{joined-used, in_front, in_first, behind}
use Rattle.qc_turn.specs.declared.task.ListedTask.{ListedTask}
use Rattle.qc_turn.specs.declared.task.Task.{Task}
use Rattle.qc_turn.specs.declared.task.Task.TheVariants as task
use Rattle.qc_turn.specs.Blocks.{places, counted, Misses}
use Rattle.qc_turn.specs.Tasks.{listed_for, places_of, fill_places, fill_of, OutsideOtherFills}
use Rattle.qc_turn.specs.Releases.{IsFreeOfOthers, Follows}
use Rattle.qc_turn.proofs.Tasks.{misses_front, misses_back, keeps_fills}
use Rattle.qc_sound.specs.PlainServer.{PlainServer, SeatTask, blocks_of, listed, listed_tasks}
use Rattle.qc_sound.specs.Moment.{at_rest}
use Rattle.qc_sound.specs.parts.Memory.{pinned_blocks, blocks_of_tasks}
use Rattle.qc_sound.proofs.Counts.{occurs, occurs_misses, occurs_append, counted_here, all_blocks, tiled_once, parted}
use Rattle.qc_core.specs.declared.server_state.ServerState.{ServerState}
use Rattle.qc_core.specs.contracts.server.ServerKept.TheImpl.{ghosts}
use Rattle.qc_core.specs.Whole.{Named, plain, tasks_of, IsWhole}
use Rattle.qc_core.specs.KeptLaws.{tasks_same}
use Rattle.qc_core.specs.Compaction.{OneFreeBetween}

-- ---- where the next block goes

both_true : (a b : Bool) → (a && b) ≡ true → (a ≡ true) × (b ≡ true)
both_true true b h = (refl, h)
both_true false b h = absurd (true≢false (sym h))

loose : (b : Bool) → not b ≡ true → b ≡ false
loose true h = absurd (true≢false (sym h))
loose false h = refl

some_is : (a b : Move) → Some a ≡ Some b → a ≡ b
some_is a b k = cc

abbrev going : Tile → Tile → Move
going t u = record { from = u.first; to = t.first; words = u.words }

-- it goes down, from within the region
pub record Bounds (end : ℕ) (change : Move) : Type 0 where
  pub down : change.to < change.from
  pub within : change.from + change.words ≤ end

covers_end : (first end : ℕ) (ts : List Tile) → CoversFrom first end ts → first ≤ end
covers_end first end [] c = omega (arith, c)
covers_end first end (t ∷ ts) c = let more = covers_end (first + t.words) end ts c.1 in omega (arith, more)

pub bounds : (first end : ℕ) (ts : List Tile) (change : Move) → CoversFrom first end ts → AllByRecursion (λ t. least_block ≤ t.words) ts → movable ts ≡ Some change → Bounds end change
bounds first end [] change c l m = absurd cc
bounds first end (t ∷ []) change c l m = absurd cc
bounds first end (t ∷ u ∷ ts) change c l m = elim (may_move t u) as (λ b. cond b (Some (going t u)) (movable (u ∷ ts)) ≡ Some change → Bounds end change) [
  | true ↦ λ f. subst (Bounds end) (some_is (going t u) change f) (record { down = omega (arith, c.0, c.1.0, l.0); within = omega (arith, c.0, c.1.0, covers_end (first + t.words + u.words) end ts c.1.1) })
  | false ↦ λ f. bounds (first + t.words) end (u ∷ ts) change c.1 l.1 f
] m

-- its words are in tiles that aren't pinned
unpinned_word : (first end x : ℕ) (ts : List Tile) (change : Move) → CoversFrom first end ts → AllByRecursion (λ t. t.free ≡ true → t.pinned ≡ false) ts → movable ts ≡ Some change → change.to ≤ x → x < change.from + change.words → 0 < occurs x (places (all_blocks (filter (λ t. not t.pinned) ts)))
unpinned_word first end x [] change c n m low high = absurd cc
unpinned_word first end x (t ∷ []) change c n m low high = absurd cc
unpinned_word first end x (t ∷ u ∷ ts) change c n m low high = elim (may_move t u) as (λ b. may_move t u ≡ b → cond b (Some (going t u)) (movable (u ∷ ts)) ≡ Some change → 0 < occurs x (places (all_blocks (filter (λ t. not t.pinned) (t ∷ u ∷ ts))))) [
  | true ↦ λ e f.
      let parts = both_true t.free (not u.free && not u.pinned) e in
      let rest = both_true (not u.free) (not u.pinned) parts.1 in
      let is = some_is (going t u) change f in
      let keeps : filter (λ t. not t.pinned) (t ∷ u ∷ ts) ≡ t ∷ u ∷ filter (λ t. not t.pinned) ts =
      λ i. cond (not (n.0 parts.0 i)) (t ∷ cond (rest.1 i) (u ∷ filter (λ t. not t.pinned) ts) (filter (λ t. not t.pinned) ts)) (cond (rest.1 i) (u ∷ filter (λ t. not t.pinned) ts) (filter (λ t. not t.pinned) ts)) in
      let more = places (all_blocks (filter (λ t. not t.pinned) ts)) in
      let to : t.first ≡ change.to = ap (λ (z : Move). z.to) is in
      let from : u.first ≡ change.from = ap (λ (z : Move). z.from) is in
      let size : u.words ≡ change.words = ap (λ (z : Move). z.words) is in
      let sum = occurs_append x (counted t.first t.words) (counted u.first u.words ++ more) in
      let sums = occurs_append x (counted u.first u.words) more in
      let some : 0 < occurs x (counted t.first t.words ++ (counted u.first u.words ++ more)) = by x (λ k. omega (arith, sum, counted_here x t.first t.words (omega (arith, low, to)) (omega (arith, k, c.0, c.1.0))))
      (λ k. omega (arith, sum, sums, counted_here x u.first u.words k (omega (arith, high, from, size)))) in
      subst (λ l. 0 < occurs x (places (all_blocks l))) (sym keeps) some
  | false ↦ λ e f.
      let more = unpinned_word (first + t.words) end x (u ∷ ts) change c.1 n.1 f low high in
      elim (not t.pinned) as (λ b. 0 < occurs x (places (all_blocks (cond b (t ∷ filter (λ t. not t.pinned) (u ∷ ts)) (filter (λ t. not t.pinned) (u ∷ ts)))))) [
        | true ↦ let sum = occurs_append x (counted t.first t.words) (places (all_blocks (filter (λ t. not t.pinned) (u ∷ ts)))) in omega (arith, sum, more)
        | false ↦ more
      ]
] refl m
  where
    by : {P : Type 0} (x : ℕ) → (x < u.first → P) → (u.first ≤ x → P) → P
    by x f g = ⊎_elim f g (side x u.first)
      where
        side : (a b : ℕ) → (a < b) ⊎ (b ≤ a)
        side a b = elim (nat_lt a b) as (λ v. nat_lt a b ≡ v → (a < b) ⊎ (b ≤ a)) [ true ↦ λ e. inl (grind (arith, nat_tests)) | false ↦ λ e. inr (grind (arith, nat_tests)) ] refl

-- so they are in no pinned one
pub pinned_misses : (W x : ℕ) (ts : List Tile) (change : Move) → IsTiling W ts → movable ts ≡ Some change → change.to ≤ x → x < change.from + change.words → occurs x (places (pinned_blocks ts)) ≡ 0
pinned_misses W x ts change tiling is low high =
    let some = unpinned_word 0 W x ts change tiling.covers tiling.unpinned is low high in
    omega (arith, some, parted x (λ t. t.pinned) ts, tiled_once W x ts tiling.covers)

-- ---- and in no task

among : (x : ℕ) (bs : List Block) (b : Block) → Contains bs b → occurs x (places (b ∷ [])) ≤ occurs x (places bs)
among x [] b h = absurd (omega (arith, h.1))
among x (c ∷ bs) b h =
    let sum = occurs_append x (counted c.first c.words) (places bs) in
    let one = occurs_append x (counted c.first c.words) [] in
    ⊎_elim
    (λ (e : c ≡ b). subst (λ (z : Block). occurs x (places (z ∷ [])) ≤ occurs x (places (c ∷ bs))) e (omega (arith, sum, one)))
    (λ (k : Contains bs b). omega (arith, sum, among x bs b k))
    (in_front b c bs h)

misses_join : (x : ℕ) (xs ys : List ℕ) → Misses x xs → Misses x ys → Misses x (xs ++ ys)
misses_join x [] ys h k = k
misses_join x (y ∷ xs) ys h k = (h.0, misses_join x xs ys h.1 k)

abbrev AreApart : ℕ → List Block → Type 0
AreApart x bs = (b : Block) → Contains bs b → Misses x (places (b ∷ []))

blocks_missed : (x : ℕ) (bs : List Block) → AreApart x bs → Misses x (places bs)
blocks_missed x [] h = tt
blocks_missed x (b ∷ bs) h =
    misses_join x (counted b.first b.words) (places bs) (misses_front x (counted b.first b.words) [] (h b (in_first b bs))) (blocks_missed x bs (λ c k. h c (behind c b bs k)))

tasks_missed : (x n : ℕ) (ls : List ListedTask) → AreApart x (flat_map (λ t. t.blocks) ls) → Misses x (places_of (listed_for n ls))
tasks_missed x n [] h = tt
tasks_missed x n (t ∷ ls) h =
    let f = λ (t : ListedTask). t.blocks in
    let more = tasks_missed x n ls (λ b k. h b (Contains-append_right t.blocks (flat_map f ls) b k)) in
    elim (t.number == n) as (λ v. Misses x (places_of (cond v (t ∷ listed_for n ls) (listed_for n ls)))) [
      | true ↦ misses_join x (places t.blocks) (places_of (listed_for n ls)) (blocks_missed x t.blocks (λ b k. h b (Contains-append_left t.blocks (flat_map f ls) b k))) more
      | false ↦ more
    ]

of_tasks : (s : PlainServer) → blocks_of_tasks s ≡ flat_map (λ (t : ListedTask). t.blocks) (listed_tasks s)
of_tasks s = by s.tasks
  where
    by : (ws : List SeatTask) → flat_map (λ w. blocks_of s.chains w.task) ws ≡ flat_map (λ (t : ListedTask). t.blocks) (map (listed s.chains) ws)
    by [] = refl
    by (w ∷ ws) = ap (λ l. blocks_of s.chains w.task ++ l) (by ws)

pub move_misses : (names : List Named) (words : List ℕ) (s : ServerState) (change : Move) (x n : ℕ) → IsWhole (at_rest hash) names words s → movable s.tiles ≡ Some change → change.to ≤ x → x < change.from + change.words → Misses x (places_of (listed_for n (tasks_of s)))
move_misses names words s change x n w is low high =
    let p = plain names s in
    let none = pinned_misses (region_words s.options) x s.tiles change w.sound.memory.tiles.tiling is low high in
    subst (λ ls. Misses x (places_of (listed_for n ls))) (sym (tasks_same names s w.named))
    (tasks_missed x n (listed_tasks p) (λ b k.
    let pinned = (w.sound.memory.tiles.pinned b).1 (subst (λ l. Contains l b) (sym (of_tasks p)) k) in
    occurs_misses x (places (b ∷ [])) (omega (arith, none, among x (pinned_blocks s.tiles) b pinned))))

fills_missed : (x : ℕ) (ts : List ListedTask) → Misses x (places_of ts) → Misses x (fill_places ts)
fills_missed x [] h = tt
fills_missed x (t ∷ ts) h = misses_join x (fill_of t.task t.blocks) (fill_places ts) (by t.task (misses_front x (places t.blocks) (places_of ts) h)) (fills_missed x ts (misses_back x (places t.blocks) (places_of ts) h))
  where
    by : (k : Task) → Misses x (places t.blocks) → Misses x (fill_of k t.blocks)
    by task.Rest m = tt
    by (task.Stream s) m = tt
    by (task.Fill s) m = m

-- a word that no other seat's task has in the value is free in the value as taken
pub free_words : (n x : ℕ) (idle : List ℕ) (taken s : ServerState) → Follows ghosts n idle taken s → ((m : ℕ) → Misses x (places_of (listed_for m (tasks_of s)))) → OutsideOtherFills n (tasks_of taken) x × IsFreeOfOthers ghosts n idle x taken
free_words n x idle taken s f none = (
  λ m ne. subst (Misses x) (keeps_fills idle m (listed_for m (tasks_of taken)) (listed_for m (tasks_of s)) (f.tasks m ne)) (fills_missed x (listed_for m (tasks_of s)) (none m)),
  λ m ne. ⊎_elim
      (λ (e : listed_for m (tasks_of s) ≡ listed_for m (tasks_of taken)). inl (subst (λ l. Misses x (places_of l)) e (none m)))
      (λ (e : _ × _ × _). inr (e.0, e.1))
      (f.tasks m ne),
)

-- ---- each move brings blocks down

abbrev pub firsts : List Block → ℕ
firsts [] = 0
firsts (b ∷ bs) = b.first + firsts bs

swapped_less : (first end : ℕ) (ts : List Tile) (change : Move) → CoversFrom first end ts → AllByRecursion (λ t. least_block ≤ t.words) ts → movable ts ≡ Some change → firsts (handed_out (swapped ts)) < firsts (handed_out ts)
swapped_less first end [] change c l m = absurd cc
swapped_less first end (t ∷ []) change c l m = absurd cc
swapped_less first end (t ∷ u ∷ ts) change c l m = elim (may_move t u) as (λ b. may_move t u ≡ b → cond b (Some (going t u)) (movable (u ∷ ts)) ≡ Some change → firsts (handed_out (cond b (tile t.first u.words false false ∷ free_tile (t.first + u.words) t.words ∷ ts) (t ∷ swapped (u ∷ ts)))) < firsts (handed_out (t ∷ u ∷ ts))) [
  | true ↦ λ e f.
      let parts = both_true t.free (not u.free && not u.pinned) e in
      let used = loose u.free (both_true (not u.free) (not u.pinned) parts.1).0 in
      let was : handed_out (t ∷ u ∷ ts) ≡ block_of u ∷ handed_out ts =
      λ i. map block_of (cond (not (parts.0 i)) (t ∷ cond (not (used i)) (u ∷ filter (λ t. not t.free) ts) (filter (λ t. not t.free) ts)) (cond (not (used i)) (u ∷ filter (λ t. not t.free) ts) (filter (λ t. not t.free) ts))) in
      subst (λ l. t.first + firsts (handed_out ts) < firsts l) (sym was) (omega (arith, c.0, c.1.0, l.0))
  | false ↦ λ e f.
      let more = swapped_less (first + t.words) end (u ∷ ts) change c.1 l.1 f in
      elim (not t.free) as (λ b. firsts (map block_of (cond b (t ∷ filter (λ t. not t.free) (swapped (u ∷ ts))) (filter (λ t. not t.free) (swapped (u ∷ ts))))) < firsts (map block_of (cond b (t ∷ filter (λ t. not t.free) (u ∷ ts)) (filter (λ t. not t.free) (u ∷ ts))))) [
        | true ↦ omega (arith, more)
        | false ↦ more
      ]
] refl m

pub move_less : (W : ℕ) (ts : List Tile) (change : Move) → IsTiling W ts → movable ts ≡ Some change → firsts (handed_out (after_move_down ts)) < firsts (handed_out ts)
move_less W ts change tiling is = subst (λ l. firsts l < firsts (handed_out ts)) (sym (joined-used (swapped ts))) (swapped_less 0 W ts change tiling.covers tiling.large is)

-- ---- where none can move, few free blocks are left

movable_behind : (b : Bool) (x : Move) (o : Option Move) → cond b (Some x) o ≡ None → o ≡ None
movable_behind true x o h = absurd (none-some x (sym h))
movable_behind false x o h = h

stays_pinned : (a b p : Bool) (x : Move) (o : Option Move) → a ≡ true → b ≡ false → cond (a && (not b && not p)) (Some x) o ≡ None → p ≡ true
stays_pinned false b p x o ha hb h = absurd (true≢false (sym ha))
stays_pinned true true p x o ha hb h = absurd (true≢false hb)
stays_pinned true false true x o ha hb h = refl
stays_pinned true false false x o ha hb h = absurd (none-some x (sym h))

one_free : (ts : List Tile) → FreeApart ts → movable ts ≡ None → OneFreeBetween 0 ts
one_free [] a m = omega arith
one_free (t ∷ []) a m = (omega arith, elim t.pinned as (λ p. cond p 0 (cond t.free (0 + 1) 0) ≤ 1) [ true ↦ omega arith | false ↦ elim t.free as (λ f. cond f (0 + 1) 0 ≤ 1) [ true ↦ omega arith | false ↦ omega arith ] ])
one_free (t ∷ u ∷ us) a m =
    let rest = one_free (u ∷ us) a.1 (movable_behind (may_move t u) (going t u) (movable (u ∷ us)) m) in (
      omega arith,
      elim t.pinned as (λ p. OneFreeBetween (cond p 0 (cond t.free (0 + 1) 0)) (u ∷ us)) [
        | true ↦ rest
        | false ↦ elim t.free as (λ f. t.free ≡ f → OneFreeBetween (cond f (0 + 1) 0) (u ∷ us)) [
          | true ↦ λ e.
              let pinned = stays_pinned t.free u.free u.pinned (going t u) (movable (u ∷ us)) e (a.0 e) m in (
                omega arith,
                subst (λ p. OneFreeBetween (cond p 0 (cond u.free (0 + 1 + 1) (0 + 1))) us) (sym pinned) (subst (λ p. OneFreeBetween (cond p 0 (cond u.free (0 + 1) 0)) us) pinned rest.1),
              )
          | false ↦ λ e. rest
        ] refl
      ],
    )

pub few_free : (W : ℕ) (ts : List Tile) → IsTiling W ts → movable ts ≡ None → OneFreeBetween 0 ts
few_free W ts tiling none = one_free ts tiling.apart none
