-- The words of a listed task are in no free block, and in no handed-out block that is in no task.
use Rattle.std.proofs.Common.{◌≡◌, ⊎_elim, ℕ, ◌+◌, ◌<◌, ◌≤◌, zero, suc, eqb, eq-eqb, eqb-true, Bool, true, false, cond, List, [], ◌∷◌, ◌++◌, map, refl, sym, ap, subst, ◌∙◌, arith, true≢false}
use Rattle.std.specs.Prelude.{not, ◌&&◌, ◌||◌, ◌==◌}
use Rattle.std.specs.List.{list_any, filter}
use Rattle.std.proofs.lemmas.List.Folds.{list_any-append}
use Rattle.std.proofs.lemmas.List.Sorted.{list_any-IsPermutation}
use Rattle.qc_model.specs.Licence.{region_words}
use Rattle.qc_tiles.specs.declared.blocks.Block.{Block}
use Rattle.qc_tiles.specs.declared.blocks.Tile.{Tile}
use Rattle.qc_tiles.specs.Tiles.{handed_out}
use Rattle.qc_turn.specs.declared.task.ListedTask.{ListedTask}
use Rattle.qc_turn.specs.declared.task.Task.{Task}
use Rattle.qc_turn.specs.declared.task.Task.TheVariants as task
use Rattle.qc_turn.specs.Blocks.{counted, places, Misses}
use Rattle.qc_turn.specs.Tasks.{places_of, listed_for}
use Rattle.qc_sound.specs.PlainServer.{PlainServer, EntryChain, blocks_at, blocks_of, listed, listed_tasks}
use Rattle.qc_sound.specs.Moment.{Moment}
use Rattle.qc_sound.specs.parts.Memory.{TilesAreSound, blocks_in_use}
use Rattle.qc_sound.specs.parts.Tasks.{SeatTaskIsSound}
use Rattle.qc_sound.specs.Laws.{TasksApart, is_block, is_in_task, free_blocks, taken_blocks}
use Rattle.qc_sound.proofs.Counts.{occurs, occurs_places, occurs_append, occurs_misses, met_occurs, tiled_once, parted, occurs_permuted, all_blocks}
use Rattle.qc_sound.proofs.Lists.{all_chains, IsOnly, both_true}
use Rattle.qc_sound.proofs.Laws.{word_once, chains_in, tasks_in, only, places_only}

-- ---- a block and its words

same_block : (b c : Block) → is_block b c ≡ true → b ≡ c
same_block b c h =
    let p = both_true (b.first == c.first) (b.words == c.words) h in
    let f = eqb-true b.first c.first p.0 in
    let w = eqb-true b.words c.words p.1 in
    λ i. record { first = f i; words = w i }

self_block : (b : Block) → is_block b b ≡ true
self_block b = (λ i. eq-eqb b.first b.first refl i && (b.words == b.words)) ∙ eq-eqb b.words b.words refl

or_right : (x y : Bool) → y ≡ true → (x || y) ≡ true
or_right true y h = refl
or_right false y h = h

or_left : (x y : Bool) → x ≡ true → (x || y) ≡ true
or_left true y h = refl
or_left false y h = absurd (true≢false (sym h))

-- a word of blocks is a word of one of them
record Met (k : ℕ) (bs : List Block) : Type 0 where
  pub block : Block
  pub there : list_any (is_block block) bs ≡ true
  pub here : 0 < occurs k (counted block.first block.words)

met : (k : ℕ) (bs : List Block) → 0 < occurs k (places bs) → Met k bs
met k [] h = absurd (omega arith)
met k (b ∷ bs) h = by (λ (o : 0 < occurs k (places bs)). met k bs o) (occurs k (counted b.first b.words)) refl
  where
    by : (0 < occurs k (places bs) → Met k bs) → (n : ℕ) → occurs k (counted b.first b.words) ≡ n → Met k (b ∷ bs)
    by more zero e =
        let m = more (omega (arith, h, e, occurs_append k (counted b.first b.words) (places bs))) in
        record { block = m.block; there = or_right (is_block m.block b) (list_any (is_block m.block) bs) m.there; here = m.here }
    by more (suc n) e = record { block = b; there = or_left (is_block b b) (list_any (is_block b) bs) (self_block b); here = omega (arith, e) }

-- the words of those that pass and of those that don't
apart_sum : (k : ℕ) (q : Block → Bool) (bs : List Block) → occurs k (places (filter q bs)) + occurs k (places (filter (λ b. not (q b)) bs)) ≡ occurs k (places bs)
apart_sum k q [] = refl
apart_sum k q (b ∷ bs) =
    let r = apart_sum k q bs in
    let here = occurs_append k (counted b.first b.words) (places bs) in
    elim (q b) as (λ v. occurs k (places (cond v (b ∷ filter q bs) (filter q bs))) + occurs k (places (cond (not v) (b ∷ filter (λ b. not (q b)) bs) (filter (λ b. not (q b)) bs))) ≡ occurs k (places (b ∷ bs))) [
      | true ↦ omega (arith, r, here, occurs_append k (counted b.first b.words) (places (filter q bs)))
      | false ↦ omega (arith, r, here, occurs_append k (counted b.first b.words) (places (filter (λ b. not (q b)) bs)))
    ]

-- a block that stands there and passes is among those that pass
kept_word : (k : ℕ) (q : Block → Bool) (c : Block) (bs : List Block) → q c ≡ true → 0 < occurs k (counted c.first c.words) → list_any (is_block c) bs ≡ true → 0 < occurs k (places (filter q bs))
kept_word k q c [] h o there = absurd (true≢false (sym there))
kept_word k q c (b ∷ bs) h o there = elim (is_block c b) as (λ v. is_block c b ≡ v → (v || list_any (is_block c) bs) ≡ true → 0 < occurs k (places (filter q (b ∷ bs)))) [
  | true ↦ λ e f.
      let same = same_block c b e in
      let passes : q b ≡ true = subst (λ z. q z ≡ true) same h in
      let here : 0 < occurs k (counted b.first b.words) = subst (λ (z : Block). 0 < occurs k (counted z.first z.words)) same o in
      rw passes (omega (arith, here, occurs_append k (counted b.first b.words) (places (filter q bs))))
  | false ↦ λ e f.
      let more = kept_word k q c bs h o f in
      elim (q b) as (λ v. 0 < occurs k (places (cond v (b ∷ filter q bs) (filter q bs)))) [
        | true ↦ omega (arith, more, occurs_append k (counted b.first b.words) (places (filter q bs)))
        | false ↦ more
      ]
] refl there

-- ---- where the blocks of a task are

in_chains : (p : Block → Bool) (n : ℕ) (cs : List EntryChain) → list_any p (blocks_at n cs) ≡ true → list_any p (all_chains cs) ≡ true
in_chains p n [] h = h
in_chains p n (c ∷ cs) h = list_any-append p c.blocks (all_chains cs) ∙ elim (eqb c.serial n) as (λ v. list_any p (cond v c.blocks (blocks_at n cs)) ≡ true → (list_any p c.blocks || list_any p (all_chains cs)) ≡ true) [
  | true ↦ λ k. or_left (list_any p c.blocks) (list_any p (all_chains cs)) k
  | false ↦ λ k. or_right (list_any p c.blocks) (list_any p (all_chains cs)) (in_chains p n cs k)
] h

task_in_chains : (p : Block → Bool) (cs : List EntryChain) (t : Task) → list_any p (blocks_of cs t) ≡ true → list_any p (all_chains cs) ≡ true
task_in_chains p cs task.Rest h = absurd (true≢false (sym h))
task_in_chains p cs (task.Stream n) h = in_chains p n cs h
task_in_chains p cs (task.Fill n) h = in_chains p n cs h

-- a block of a chain is handed out
handed : (moment : Moment) (s : PlainServer) (p : Block → Bool) → TilesAreSound moment s → list_any p (all_chains s.chains) ≡ true → list_any p (handed_out s.tiles) ≡ true
handed moment s p h k =
    let texts = map (λ e. e.text) s.entries in
    let tables = map (λ b. b.1) s.table_blocks in
    let inner : list_any p (tables ++ all_chains s.chains) ≡ true = list_any-append p tables (all_chains s.chains) ∙ or_right (list_any p tables) (list_any p (all_chains s.chains)) k in
    let used : list_any p (blocks_in_use s) ≡ true = list_any-append p texts (tables ++ all_chains s.chains) ∙ or_right (list_any p texts) (list_any p (tables ++ all_chains s.chains)) inner in
    let all : list_any p (moment.held ++ blocks_in_use s) ≡ true = list_any-append p moment.held (blocks_in_use s) ∙ or_right (list_any p moment.held) (list_any p (blocks_in_use s)) used in
    list_any-IsPermutation p (handed_out s.tiles) (moment.held ++ blocks_in_use s) h.in_use ∙ all

-- what passes among the tasks of a seat passes among all
any_listed : (p : ListedTask → Bool) (n : ℕ) (ts : List ListedTask) → list_any p (listed_for n ts) ≡ true → list_any p ts ≡ true
any_listed p n [] h = h
any_listed p n (t ∷ ts) h = elim (eqb t.number n) as (λ v. list_any p (cond v (t ∷ listed_for n ts) (listed_for n ts)) ≡ true → (p t || list_any p ts) ≡ true) [
  | true ↦ λ k. elim (p t) as (λ v. (v || list_any p (listed_for n ts)) ≡ true → (v || list_any p ts) ≡ true) [
    | true ↦ λ _. refl
    | false ↦ λ f. any_listed p n ts f
  ] k
  | false ↦ λ k. or_right (p t) (list_any p ts) (any_listed p n ts k)
] h

pub tasks_apart : (moment : Moment) → TasksApart moment
tasks_apart moment words v n k h touched = ⊎_elim
    (λ (e : listed_for n (listed_tasks v) ≡ []). absurd (touched (subst (λ l. Misses k (places_of l)) (sym e) tt)))
    (λ (o : IsOnly (SeatTaskIsSound v.journal v.chains) v.chains v.tasks n).
    let t = o.one.task in
    let bs = blocks_of v.chains t in
    let tiles = h.memory.tiles in
    let hs = handed_out v.tiles in
    let q = is_in_task (listed_tasks v) in
    let there : 0 < occurs k (places bs) = met_occurs k (places bs) (λ none. touched (subst (λ l. Misses k l) (sym (ap places_of o.only ∙ places_only v.chains o.one)) none)) in
    let m = met k bs there in
    let out : list_any (is_block m.block) hs ≡ true = handed moment v (is_block m.block) tiles (task_in_chains (is_block m.block) v.chains t m.there) in
    let mine : q m.block ≡ true = any_listed (λ (x : ListedTask). list_any (is_block m.block) x.blocks) n (listed_tasks v) (ap (λ (l : List ListedTask). list_any (λ (x : ListedTask). list_any (is_block m.block) x.blocks) l) o.only ∙ or_left (list_any (is_block m.block) bs) false m.there) in
    let some : 0 < occurs k (places (filter q hs)) = kept_word k q m.block hs mine m.here out in
    let once : occurs k (places hs) ≤ 1 = omega (arith, tiled_once (region_words v.options) k v.tiles tiles.tiling.covers, parted k (λ t. t.free) v.tiles) in (
      occurs_misses k (places (free_blocks v.tiles)) (omega (arith, word_once moment k v tiles, tasks_in k v.chains t, chains_in k v, there)),
      occurs_misses k (places (taken_blocks v.tiles (listed_tasks v))) (omega (arith, apart_sum k q hs, some, once)),
    ))
    (only moment words v n h)
