-- A stream is struck off, as the plain server has it.
use Rattle.std.proofs.Common.{◌≡◌, ℕ, zero, suc, ◌+◌, ◌-◌, eqb, eq-eqb, eqb-true, ne_eqb, Bool, true, false, cond, List, [], ◌∷◌, ◌++◌, map, length, refl, sym, ap, subst, ◌∙◌, arith, true≢false, inl, inr, ⊎_elim}
use Rattle.std.specs.Prelude.{not, ◌||◌, ◌==◌, ◌⊎◌, ◌↔◌, Option, Some, None, IfSome, is_some, Contains, IsPermutation, sum_by, unwrap_or, option_map}
use Rattle.std.specs.List.{list_any, filter, find, flat_map, AllByRecursion}
use Rattle.std.proofs.lemmas.List.Elements.{Contains-append_left, Contains-append_right}
use Rattle.std.proofs.lemmas.List.Recursion.{is_sum_by}
use Rattle.std.proofs.lemmas.List.Sorted.{sum_by-IsPermutation}
use Rattle.std.proofs.lemmas.List.Sums.{sum_by_push}
use Rattle.std.proofs.lemmas.Option.{none-some, same_Some}
use Rattle.qc_model.specs.Licence.{region_words}
use Rattle.qc_laws.specs.history.Runs.{are_distinct}
use Rattle.qc_laws.proofs.history.Serials.{neither}
use Rattle.qc_tiles.specs.declared.blocks.Tile.{Tile}
use Rattle.qc_tiles.specs.declared.blocks.Block.{Block}
use Rattle.qc_tiles.specs.Tiles.{handed_out}
use Rattle.qc_chain.specs.Chains.{Chained, AreHandedOut, after_release}
use Rattle.qc_dir.specs.declared.entries.Entry.{Entry}
use Rattle.qc_dir.specs.Directory.{entry_at, after_leave}
use Rattle.qc_turn.specs.declared.task.Task.{Task}
use Rattle.qc_turn.specs.declared.task.Task.TheVariants as task
use Rattle.qc_sound.specs.PlainServer.{PlainServer, StoredEntry, EntryChain, SeatTask, blocks_at, blocks_of, serial_of, is_task_on, is_stored, is_wanted}
use Rattle.qc_sound.specs.Moment.{Moment}
use Rattle.qc_sound.specs.parts.Memory.{TilesAreSound, pinned_blocks, blocks_in_use, blocks_of_tasks}
use Rattle.qc_sound.specs.steps.Leaving.{is_of_seat, without_seat}
use Rattle.qc_sound.specs.steps.Ending.{used_less, left_by_user, struck_off}
use Rattle.qc_sound.proofs.Handed.{times, times_append, times_permuted, permuted, gives_all}
use Rattle.qc_sound.proofs.Filters.{pins_stay, tasks_wanted}
use Rattle.qc_sound.proofs.Moved.{moved_permutes}
use Rattle.qc_laws.proofs.history.Events.{all_on}
use Rattle.qc_core.specs.declared.server_state.RunningTask.{RunningTask}
use Rattle.qc_core.specs.declared.server_state.ServerState.{ServerState}
use Rattle.qc_core.specs.Whole.{Named, IsNamedAs, chain_blocks, chain_in, stored, work_in, plain}
use Rattle.qc_core.specs.ChainPins.{after_unpins, IsUnpinnedSo}
use Rattle.qc_core.specs.TaskEnd.{is_of, others, is_on, MayLetGo, MayStrike}
use Rattle.qc_core.specs.EntriesCut.{BlocksAreSound}
use Rattle.qc_core.specs.KeptLaws.{blocks_named}
use Rattle.qc_core.proofs.Pinning.{unpinned_all}
use Rattle.qc_core.proofs.Seating.{distinct_parts, none_other}
use Rattle.qc_core.proofs.Uses.{find_all, all_members}
use Rattle.qc_core.proofs.OwnBlocks.{not_both, chain_count, use_count, times_there, there_times}
use Rattle.qc_core.proofs.Remaining.{chain_found, tasks_in}

-- ---- the tasks

pub others_in : (seat : ℕ) (ws : List RunningTask) → map work_in (others seat ws) ≡ without_seat seat (map work_in ws)
others_in seat [] = refl
others_in seat (w ∷ ws) = elim (w.seat == seat) as (λ b. map work_in (cond (not b) (w ∷ others seat ws) (others seat ws)) ≡ cond (not b) (work_in w ∷ without_seat seat (map work_in ws)) (without_seat seat (map work_in ws))) [
  | true ↦ others_in seat ws
  | false ↦ ap (λ l. work_in w ∷ l) (others_in seat ws)
]

pub found_in : (seat : ℕ) (ws : List RunningTask) (w : RunningTask) → find (is_of seat) ws ≡ Some w → find (is_of_seat seat) (map work_in ws) ≡ Some (work_in w)
found_in seat [] w h = absurd (none-some w h)
found_in seat (x ∷ ws) w h = elim (x.seat == seat) as (λ b. cond b (Some x) (find (is_of seat) ws) ≡ Some w → cond b (Some (work_in x)) (find (is_of_seat seat) (map work_in ws)) ≡ Some (work_in w)) [
  | true ↦ λ f. ap (λ (y : RunningTask). Some (work_in y)) (same_Some x w f)
  | false ↦ λ f. found_in seat ws w f
] h

pub seat_found : (seat : ℕ) (ws : List RunningTask) (w : RunningTask) → find (is_of seat) ws ≡ Some w → w.seat ≡ seat
seat_found seat [] w h = absurd (none-some w h)
seat_found seat (x ∷ ws) w h = elim (eqb x.seat seat) as (λ b. eqb x.seat seat ≡ b → cond b (Some x) (find (is_of seat) ws) ≡ Some w → w.seat ≡ seat) [
  | true ↦ λ e f. ap (λ (y : RunningTask). y.seat) (sym (same_Some x w f)) ∙ eqb-true x.seat seat e
  | false ↦ λ e f. seat_found seat ws w f
] refl h

pub any_in : (n : ℕ) (ws : List RunningTask) → list_any (is_on n) ws ≡ list_any (is_task_on n) (map work_in ws)
any_in n [] = refl
any_in n (w ∷ ws) = ap (λ b. is_task_on n (work_in w) || b) (any_in n ws)

-- ---- the entries

pub left_in : (cs : Chained) (n : ℕ) (es : List Entry) → map (stored cs) (after_leave n es) ≡ left_by_user n (map (stored cs) es)
left_in cs n [] = refl
left_in cs n (e ∷ es) = elim (e.serial == n) as (λ b. stored cs (cond b (record e { users = e.users - 1 }) e) ∷ map (stored cs) (after_leave n es) ≡ cond b (used_less (stored cs e)) (stored cs e) ∷ left_by_user n (map (stored cs) es)) [
  | true ↦ ap (λ l. used_less (stored cs e) ∷ l) (left_in cs n es)
  | false ↦ ap (λ l. stored cs e ∷ l) (left_in cs n es)
]

pub all_left : (P : Entry → Type 0) (n : ℕ) (es : List Entry) → ((e : Entry) → P e → P (record e { users = e.users - 1 })) → AllByRecursion P es → AllByRecursion P (after_leave n es)
all_left P n [] more h = tt
all_left P n (e ∷ es) more h = (elim (e.serial == n) as (λ b. P (cond b (record e { users = e.users - 1 }) e)) [ true ↦ more e h.0 | false ↦ h.0 ], all_left P n es more h.1)

pub left_length : (n : ℕ) (es : List Entry) → length (after_leave n es) ≡ length es
left_length n [] = refl
left_length n (e ∷ es) = omega (arith, left_length n es)

-- serials stay
pub stored_left : (n m : ℕ) (es : List StoredEntry) → list_any (is_stored m) (left_by_user n es) ≡ list_any (is_stored m) es
stored_left n m [] = refl
stored_left n m (e ∷ es) = elim (is_stored n e) as (λ b. (is_stored m (cond b (used_less e) e) || list_any (is_stored m) (left_by_user n es)) ≡ (is_stored m e || list_any (is_stored m) es)) [
  | true ↦ ap (λ b. is_stored m e || b) (stored_left n m es)
  | false ↦ ap (λ b. is_stored m e || b) (stored_left n m es)
]

pub there_in : (cs : Chained) (n : ℕ) (es : List Entry) → is_some (entry_at n es) ≡ list_any (is_stored n) (map (stored cs) es)
there_in cs n [] = refl
there_in cs n (e ∷ es) = elim (e.serial == n) as (λ b. is_some (cond b (Some e) (entry_at n es)) ≡ (b || list_any (is_stored n) (map (stored cs) es))) [ true ↦ refl | false ↦ there_in cs n es ]

-- ---- who is still wanted

-- what a task on the serial has
on_serial : (n m : ℕ) (o : Option ℕ) → o ≡ Some n → eqb n m ≡ false → unwrap_or (option_map (λ j. j == m) o) false ≡ false
on_serial n m o is ne = ap (λ o. unwrap_or (option_map (λ j. j == m) o) false) is ∙ ne

pub blocks_on : (cs : List EntryChain) (t : Task) (n : ℕ) → serial_of t ≡ Some n → blocks_of cs t ≡ blocks_at n cs
blocks_on cs task.Rest n h = absurd (none-some n h)
blocks_on cs (task.Stream k) n h = ap (λ j. blocks_at j cs) (same_Some k n h)
blocks_on cs (task.Fill k) n h = ap (λ j. blocks_at j cs) (same_Some k n h)

-- a task on another serial is still there
on_other : (seat n m : ℕ) (t : Task) (ws : List SeatTask) → serial_of t ≡ Some n → find (is_of_seat seat) ws ≡ Some (record { seat = seat; task = t }) → are_distinct (map (λ w. w.seat) ws) ≡ true → eqb n m ≡ false → list_any (is_task_on m) ws ≡ list_any (is_task_on m) (without_seat seat ws)
on_other seat n m t [] is f d ne = refl
on_other seat n m t (w ∷ ws) is f d ne = elim (eqb w.seat seat) as (λ b. eqb w.seat seat ≡ b → cond b (Some w) (find (is_of_seat seat) ws) ≡ Some (record { seat = seat; task = t }) → (is_task_on m w || list_any (is_task_on m) ws) ≡ list_any (is_task_on m) (cond (not b) (w ∷ without_seat seat ws) (without_seat seat ws))) [
  | true ↦ λ e g.
      let same = same_Some w _ g in
      let off : is_task_on m w ≡ false = on_serial n m (serial_of w.task) (ap (λ (x : SeatTask). serial_of x.task) same ∙ is) ne in
      let parts = distinct_parts w.seat (map (λ (w : SeatTask). w.seat) ws) d in
      ap (λ b. b || list_any (is_task_on m) ws) off ∙ ap (list_any (is_task_on m)) (sym (none_other (λ (w : SeatTask). w.seat) seat ws (subst (λ k. list_any (λ j. j == k) (map (λ (w : SeatTask). w.seat) ws) ≡ false) (eqb-true w.seat seat e) parts.0)))
  | false ↦ λ e g. ap (λ b. is_task_on m w || b) (on_other seat n m t ws is g (distinct_parts w.seat (map (λ (w : SeatTask). w.seat) ws) d).1 ne)
] refl f

-- the entry's chain is wanted by no task that is left
others_wanted : (seat n : ℕ) (t : Task) (es : List StoredEntry) (ws : List SeatTask) (m : ℕ) → serial_of t ≡ Some n → find (is_of_seat seat) ws ≡ Some (record { seat = seat; task = t }) → are_distinct (map (λ w. w.seat) ws) ≡ true → is_wanted es ws m ≡ true
    → eqb n m ≡ false → is_wanted (left_by_user n es) (without_seat seat ws) m ≡ true
others_wanted seat n t es ws m is f d h ne = (λ i. stored_left n m es i || sym (on_other seat n m t ws is f d ne) i) ∙ h

-- ---- blocks of tasks

times_flat : {A : Type 0} (f : A → List Block) (b : Block) (xs : List A) → times b (flat_map f xs) ≡ sum_by (λ x. times b (f x)) xs
times_flat f b xs = is_sum_by (λ l. times b (flat_map f l)) (λ x. times b (f x)) refl (λ x l. times_append b (f x) (flat_map f l)) xs

task_count : (f : SeatTask → List Block) (b : Block) (seat : ℕ) (ws : List SeatTask) (w : SeatTask) → are_distinct (map (λ w. w.seat) ws) ≡ true → find (is_of_seat seat) ws ≡ Some w
    → times b (flat_map f ws) ≡ times b (flat_map f (without_seat seat ws)) + times b (f w)
task_count f b seat ws w d e =
    let g = λ (w : SeatTask). times b (f w) in
    let rest = without_seat seat ws in
    times_flat f b ws
    ∙ (sym (sum_by-IsPermutation g ws (rest ++ w ∷ []) (moved_permutes (λ (w : SeatTask). w.seat) seat ws w d e))
    ∙ (sum_by_push g rest w ∙ ap (λ k. k + times b (f w)) (sym (times_flat f b rest))))

-- a task's blocks are among those of all
on_in : (n : ℕ) (cs : List EntryChain) (ws : List SeatTask) (b : Block) → list_any (is_task_on n) ws ≡ true → Contains (blocks_at n cs) b → Contains (flat_map (λ w. blocks_of cs w.task) ws) b
on_in n cs [] b h k = absurd (true≢false (sym h))
on_in n cs (w ∷ ws) b h k =
    let rest = flat_map (λ (w : SeatTask). blocks_of cs w.task) ws in
    elim (is_task_on n w) as (λ v. is_task_on n w ≡ v → (v || list_any (is_task_on n) ws) ≡ true → Contains (blocks_of cs w.task ++ rest) b) [
      | true ↦ λ e _. Contains-append_left (blocks_of cs w.task) rest b (subst (λ l. Contains l b) (sym (same w.task e)) k)
      | false ↦ λ e g. Contains-append_right (blocks_of cs w.task) rest b (on_in n cs ws b g k)
    ] refl h
  where
    same : (t : Task) → unwrap_or (option_map (λ m. m == n) (serial_of t)) false ≡ true → blocks_of cs t ≡ blocks_at n cs
    same task.Rest e = absurd (true≢false (sym e))
    same (task.Stream m) e = ap (λ k. blocks_at k cs) (eqb-true m n e)
    same (task.Fill m) e = ap (λ k. blocks_at k cs) (eqb-true m n e)

-- no task is on the serial
off_serial : (n : ℕ) (ws : List SeatTask) → list_any (is_task_on n) ws ≡ false → AllByRecursion (λ w. IfSome (serial_of w.task) (λ m. not (m == n) ≡ true)) ws
off_serial n [] h = tt
off_serial n (w ∷ ws) h = let t = neither (is_task_on n w) (list_any (is_task_on n) ws) h in (by (serial_of w.task) t.0, off_serial n ws t.1)
  where
    by : (o : Option ℕ) → unwrap_or (option_map (λ m. m == n) o) false ≡ false → IfSome o (λ m. not (m == n) ≡ true)
    by None e = tt
    by (Some m) e = ap not e

texts_left : (n : ℕ) (es : List StoredEntry) → map (λ e. e.text) (left_by_user n es) ≡ map (λ e. e.text) es
texts_left n [] = refl
texts_left n (e ∷ es) = elim (is_stored n e) as (λ b. (cond b (used_less e) e).text ∷ map (λ e. e.text) (left_by_user n es) ≡ e.text ∷ map (λ e. e.text) es) [ true ↦ ap (λ l. e.text ∷ l) (texts_left n es) | false ↦ ap (λ l. e.text ∷ l) (texts_left n es) ]

pub all_pass : (q : ℕ → Bool) (cs : List EntryChain) → AllByRecursion (λ c. q c.serial ≡ true) cs → filter (λ c. q c.serial) cs ≡ cs
all_pass q [] h = refl
all_pass q (c ∷ cs) h = ap (λ b. cond b (c ∷ filter (λ c. q c.serial) cs) (filter (λ c. q c.serial) cs)) h.0 ∙ ap (λ l. c ∷ l) (all_pass q cs h.1)

swap_false : (n m : ℕ) → eqb m n ≡ false → eqb n m ≡ false
swap_false n m h = ne_eqb n m (λ z. true≢false (sym (eq-eqb m n (sym z)) ∙ h))

one_passes : (q : ℕ → Bool) (n : ℕ) (cs : List EntryChain) → q n ≡ false → AllByRecursion (λ c. eqb n c.serial ≡ false → q c.serial ≡ true) cs → AllByRecursion (λ c. q c.serial ≡ not (c.serial == n)) cs
one_passes q n [] a h = tt
one_passes q n (c ∷ cs) a h = (elim (eqb c.serial n) as (λ v. eqb c.serial n ≡ v → q c.serial ≡ not v) [ true ↦ λ e. ap q (eqb-true c.serial n e) ∙ a | false ↦ λ e. h.0 (swap_false n c.serial e) ] refl, one_passes q n cs a h.1)

-- what one of a list has, where another test says so of all others
pub each_passes : (q : ℕ → Bool) (n : ℕ) (cs : List EntryChain) → q n ≡ true → AllByRecursion (λ c. eqb n c.serial ≡ false → q c.serial ≡ true) cs → AllByRecursion (λ c. q c.serial ≡ true) cs
each_passes q n [] a h = tt
each_passes q n (c ∷ cs) a h = (elim (eqb n c.serial) as (λ v. eqb n c.serial ≡ v → q c.serial ≡ true) [ true ↦ λ e. ap q (sym (eqb-true n c.serial e)) ∙ a | false ↦ λ e. h.0 e ] refl, each_passes q n cs a h.1)

-- ---- the blocks

-- a task of a seat, and its chain
pub record EndingTask (seat : ℕ) (s : ServerState) : Type 0 where
  pub work : RunningTask
  pub serial : ℕ
  pub at : find (is_of seat) s.tasks.items ≡ Some work
  pub on : serial_of work.task ≡ Some serial
  pub chain : MayLetGo work.chain.number s

abbrev pub ending : (seat : ℕ) (s : ServerState) → MayStrike seat s → EndingTask seat s
ending seat s u = record {
  work = u.work;
  serial = u.serial;
  at = u.at;
  on = ⊎_elim (λ (e : u.work.task ≡ task.Stream u.serial). ap serial_of e) (λ (e : (u.work.task ≡ task.Fill u.serial) × (entry_at u.serial s.dir.entries ≡ None)). ap serial_of e.0) u.ends;
  chain = u.chain;
}

module _ (m : Moment) (names : List Named) (s : ServerState) (seat : ℕ) (h : BlocksAreSound m names s) (u : EndingTask seat s) where
  abbrev n : ℕ
  n = u.serial

  abbrev p : PlainServer
  p = plain names s

  abbrev left_tasks : List SeatTask
  left_tasks = without_seat seat p.tasks

  abbrev q : ℕ → Bool
  q k = is_wanted (left_by_user n p.entries) left_tasks k

  pub named_n : IsNamedAs names n u.work.chain.number
  named_n = subst (λ o. IfSome o (λ k. IsNamedAs names k u.work.chain.number)) u.on (find_all (λ w. IfSome (serial_of w.task) (λ k. IsNamedAs names k w.chain.number)) (is_of seat) s.tasks.items u.work h.named.tasks u.at)

  pub found : find (is_of_seat seat) p.tasks ≡ Some (record { seat = seat; task = u.work.task })
  found = found_in seat s.tasks.items u.work u.at ∙ (λ i. Some (record { seat = seat_found seat s.tasks.items u.work u.at i; task = u.work.task }))

  chain_is : blocks_of p.chains u.work.task ≡ u.chain.held.blocks
  chain_is = blocks_on p.chains u.work.task n u.on ∙ (blocks_named s.chains names n _ named_n ∙ ap chain_blocks u.chain.begun)

  chain_at_n : blocks_at n p.chains ≡ u.chain.held.blocks
  chain_at_n = blocks_named s.chains names n _ named_n ∙ ap chain_blocks u.chain.begun

  abbrev still : List Block
  still = flat_map (λ (w : SeatTask). blocks_of p.chains w.task) left_tasks

  count : (b : Block) → times b (blocks_of_tasks p) ≡ times b still + times b u.chain.held.blocks
  count b = task_count (λ (w : SeatTask). blocks_of p.chains w.task) b seat p.tasks _ h.once found ∙ ap (λ l. times b still + times b l) chain_is

  -- a block of a task is one of those that are left, or of the chain
  parts_of : (b : Block) → Contains (blocks_of_tasks p) b → Contains still b ⊎ Contains u.chain.held.blocks b
  parts_of b k = by (times b still) refl
    where
      by : (c : ℕ) → times b still ≡ c → Contains still b ⊎ Contains u.chain.held.blocks b
      by zero e = inr (there_times b u.chain.held.blocks (omega (arith, times_there b (blocks_of_tasks p) k, count b, e)))
      by (suc c) e = inl (there_times b still (omega (arith, e)))

  left_in_all : (b : Block) → Contains still b → Contains (blocks_of_tasks p) b
  left_in_all b k = there_times b (blocks_of_tasks p) (omega (arith, times_there b still k, count b))

  -- what is listed after
  abbrev after : List Tile → PlainServer
  after ts = struck_off seat n ts p

  tasks_after : (ts : List Tile) → blocks_of_tasks (after ts) ≡ still
  tasks_after ts = pins_stay q p.chains left_tasks (tasks_wanted (left_by_user n p.entries) left_tasks)

  pub others_stay : AllByRecursion (λ c. eqb n c.serial ≡ false → q c.serial ≡ true) p.chains
  others_stay = all_on (λ c. is_wanted p.entries p.tasks c.serial ≡ true) (λ c. eqb n c.serial ≡ false → q c.serial ≡ true) p.chains (λ c k ne. others_wanted seat n u.work.task p.entries p.tasks c.serial u.on found h.once k ne) h.wanted

  pub q_at : q n ≡ (list_any (is_stored n) p.entries || list_any (is_task_on n) left_tasks)
  q_at = ap (λ b. b || list_any (is_task_on n) left_tasks) (stored_left n n p.entries)

  pub chains_stay : q n ≡ true → filter (λ c. q c.serial) p.chains ≡ p.chains
  chains_stay e = all_pass q p.chains (each_passes q n p.chains e others_stay)

  -- the blocks in use, where the chain stays
  same_use : (ts : List Tile) → q n ≡ true → (b : Block) → times b (blocks_in_use (after ts)) ≡ times b (blocks_in_use p)
  same_use ts e b = omega (arith, use_count b (after ts), use_count b p, ap (times b) (texts_left n p.entries), ap (λ (cs : List EntryChain). times b (flat_map (λ (c : EntryChain). c.blocks) cs)) (chains_stay e))

  same_hands : (ts : List Tile) → q n ≡ true → handed_out ts ≡ handed_out s.tiles → IsPermutation (handed_out ts) (m.held ++ blocks_in_use (after ts))
  same_hands ts e is = permuted (handed_out ts) (m.held ++ blocks_in_use (after ts)) (λ b. omega (arith, ap (times b) is, times_permuted b (handed_out s.tiles) (m.held ++ blocks_in_use p) h.tiles.in_use, times_append b m.held (blocks_in_use p), times_append b m.held (blocks_in_use (after ts)), same_use ts e b))

  -- another task is on the chain
  pub tiles_kept : list_any (is_task_on n) left_tasks ≡ true → TilesAreSound m (after s.tiles)
  tiles_kept on =
      let e : q n ≡ true = q_at ∙ (ap (λ b. list_any (is_stored n) p.entries || b) on ∙ or_true (list_any (is_stored n) p.entries)) in
      record {
        tiling = h.tiles.tiling;
        in_use = same_hands s.tiles e refl;
        pinned = λ b. (
          λ k. subst (λ l. Contains l b) (sym (tasks_after s.tiles)) (⊎_elim (λ c. c) (λ c. on_in n p.chains left_tasks b on (subst (λ l. Contains l b) (sym chain_at_n) c)) (parts_of b ((h.tiles.pinned b).0 k))),
          λ k. (h.tiles.pinned b).1 (left_in_all b (subst (λ l. Contains l b) (tasks_after s.tiles) k)),
        );
      }
    where
      or_true : (b : Bool) → (b || true) ≡ true
      or_true true = refl
      or_true false = refl

  -- no other task is: the chain's blocks are in no other chain
  apart : list_any (is_task_on n) left_tasks ≡ false → (b : Block) → Contains still b → Contains u.chain.held.blocks b → ⊥
  apart off b k c =
      let rest = filter (λ (c : EntryChain). not (c.serial == n)) p.chains in
      let is = pins_stay (λ k. not (k == n)) p.chains left_tasks (off_serial n left_tasks off) in
      let among = tasks_in rest left_tasks b (subst (λ l. Contains l b) (sym is) k) in
      not_both (region_words s.options) s.tiles b u.chain.held.blocks (flat_map (λ (c : EntryChain). c.blocks) rest) h.tiles.tiling
      (λ b. omega (arith, times_permuted b (handed_out s.tiles) (m.held ++ blocks_in_use p) h.tiles.in_use, times_append b m.held (blocks_in_use p), use_count b p, chain_count b n p.chains (chain_in s.chains (record { serial = n; number = u.work.chain.number })) h.apart (chain_found s.chains n _ names named_n), ap (λ o. times b (chain_blocks o)) u.chain.begun))
      c among

  pub pins_after : (ts : List Tile) → list_any (is_task_on n) left_tasks ≡ false → IsUnpinnedSo (region_words s.options) s.tiles ts u.chain.held.blocks → (b : Block) → Contains (pinned_blocks ts) b ↔ Contains still b
  pins_after ts off un b = (
    λ k. let r = (un.pins b).0 k in ⊎_elim (λ c. c) (λ c. absurd (r.1 c)) (parts_of b ((h.tiles.pinned b).0 r.0)),
    λ k. (un.pins b).1 ((h.tiles.pinned b).1 (left_in_all b k), λ c. apart off b k c),
  )

  pub un : IsUnpinnedSo (region_words s.options) s.tiles (after_unpins u.chain.held.blocks s.tiles) u.chain.held.blocks
  un = unpinned_all (region_words s.options) s.tiles u.chain.held.blocks h.tiles.tiling u.chain.out.each

  pub tiles_unpinned : list_any (is_task_on n) left_tasks ≡ false → list_any (is_stored n) p.entries ≡ true → TilesAreSound m (after (after_unpins u.chain.held.blocks s.tiles))
  tiles_unpinned off there =
      let ts = after_unpins u.chain.held.blocks s.tiles in
      let e : q n ≡ true = q_at ∙ ap (λ b. b || list_any (is_task_on n) left_tasks) there in
      record {
        tiling = un.tiling;
        in_use = same_hands ts e un.hands;
        pinned = λ b. let t = pins_after ts off un b in (λ k. subst (λ l. Contains l b) (sym (tasks_after ts)) (t.0 k), λ k. t.1 (subst (λ l. Contains l b) (tasks_after ts) k));
      }

  pub wanted_else : list_any (is_task_on n) left_tasks ≡ false → list_any (is_stored n) p.entries ≡ false → AllByRecursion (λ c. q c.serial ≡ not (c.serial == n)) p.chains
  wanted_else off gone = one_passes q n p.chains (q_at ∙ ((λ i. gone i || off i))) others_stay

  pub tiles_released : list_any (is_task_on n) left_tasks ≡ false → list_any (is_stored n) p.entries ≡ false → TilesAreSound m (after (after_release u.chain.held.blocks (after_unpins u.chain.held.blocks s.tiles)))
  tiles_released off gone =
      let ts = after_unpins u.chain.held.blocks s.tiles in
      let us = after_release u.chain.held.blocks ts in
      let out : AreHandedOut ts u.chain.held.blocks = record { each = subst (λ l. AllByRecursion (Contains l) u.chain.held.blocks) (sym un.hands) u.chain.out.each; once = u.chain.out.once } in
      let loose = all_members (λ b. Contains (pinned_blocks ts) b → ⊥) u.chain.held.blocks (λ b c k. ((un.pins b).0 k).1 c) in
      let g = gives_all (region_words s.options) ts u.chain.held.blocks un.tiling out loose in
      let chains : filter (λ (c : EntryChain). q c.serial) p.chains ≡ filter (λ (c : EntryChain). not (c.serial == n)) p.chains = same_filter (λ c. q c.serial) (λ c. not (c.serial == n)) p.chains (wanted_else off gone) in
      record {
        tiling = g.tiling;
        in_use = permuted (handed_out us) (m.held ++ blocks_in_use (after us)) (λ b.
            omega (arith, times_permuted b (handed_out ts) (handed_out us ++ u.chain.held.blocks) g.hands, times_append b (handed_out us) u.chain.held.blocks, ap (times b) un.hands, times_permuted b (handed_out s.tiles) (m.held ++ blocks_in_use p) h.tiles.in_use, times_append b m.held (blocks_in_use p), times_append b m.held (blocks_in_use (after us)), use_count b p, use_count b (after us), ap (times b) (texts_left n p.entries), ap (λ (cs : List EntryChain). times b (flat_map (λ (c : EntryChain). c.blocks) cs)) chains, chain_count b n p.chains (chain_in s.chains (record { serial = n; number = u.work.chain.number })) h.apart (chain_found s.chains n _ names named_n), ap (λ o. times b (chain_blocks o)) u.chain.begun));
        pinned = λ b. let t = pins_after ts off un b in (
          λ k. subst (λ l. Contains l b) (sym (tasks_after us)) (t.0 (subst (λ l. Contains l b) g.pins k)),
          λ k. subst (λ l. Contains l b) (sym g.pins) (t.1 (subst (λ l. Contains l b) (tasks_after us) k)),
        );
      }
    where
      same_filter : (f g : EntryChain → Bool) (cs : List EntryChain) → AllByRecursion (λ c. f c ≡ g c) cs → filter f cs ≡ filter g cs
      same_filter f g [] h = refl
      same_filter f g (c ∷ cs) h = λ i. cond (h.0 i) (c ∷ same_filter f g cs h.1 i) (same_filter f g cs h.1 i)
