-- What a sound server shows of licences: no fill of a session without a task, and want of room.
use Rattle.std.proofs.Common.{eqb, Bool, ◌≡◌, ◌≢◌, ℕ, ◌<◌, ◌≤◌, max, eqb-true, true, false, cond, List, [], ◌∷◌, ◌++◌, length, refl, sym, ap, subst, ◌∙◌, arith, true≢false, zero, suc, eq-eqb, ne_eqb, map}
use Rattle.std.specs.Prelude.{not, ◌&&◌, ◌||◌, Option, Some, None, count_by, IsPermutation, ◌==◌, IsSomeAnd}
use Rattle.std.specs.List.{list_any, list_all, AllByRecursion, AllZip, find}
use Rattle.std.proofs.lemmas.List.Sums.{sum_by-cons}
use Rattle.qc_types.specs.declared.options.Options.{Options}
use Rattle.qc_model.specs.declared.events.Event.{Event}
use Rattle.qc_model.specs.Journal.{Journal, last_event}
use Rattle.qc_model.specs.Cache.{Entry, cache, entry_of}
use Rattle.qc_tiles.specs.declared.blocks.Tile.{Tile}
use Rattle.qc_tiles.specs.Tiles.{IsTiling, largest_free}
use Rattle.qc_model.specs.Licence.{before_entry, LacksRoom, is_busy, hit_by, starts_serial, region_words, word_bound, IsLawful}
use Rattle.qc_laws.proofs.history.Starts.{starts_once}
use Rattle.qc_laws.specs.history.Runs.{are_distinct}
use Rattle.qc_laws.proofs.history.Serials.{serials_apart, both_true, opposite, neither}
use Rattle.qc_sound.proofs.Moved.{same_serials}
use Rattle.qc_tiles.specs.declared.blocks.Block.{Block}
use Rattle.qc_turn.specs.declared.task.Task.{Task}
use Rattle.qc_turn.specs.declared.task.Task.TheVariants as task
use Rattle.qc_sound.specs.PlainServer.{PlainServer, StoredEntry, EntryChain, SeatTask, session_of}
use Rattle.qc_sound.specs.Moment.{Moment}
use Rattle.qc_sound.specs.parts.Directory.{IsStoredAs}
use Rattle.qc_sound.specs.parts.Memory.{blocks_in_use}
use Rattle.qc_sound.specs.parts.Tasks.{TaskIsSound, SeatTaskIsSound, HitsSerial, is_stream_of, is_fill_of}
use Rattle.qc_sound.specs.Sound.{IsSound}
use Rattle.qc_tiles.specs.Tiles.{handed_out}
use Rattle.qc_sound.specs.Room.{is_idle, PrunesOldest, Restless, HasNoFill}
use Rattle.qc_sound.proofs.Laws.{start_of}
use Rattle.qc_sound.proofs.Matched.{named_last}
use Rattle.qc_sound.proofs.Crowds.{crowds}

-- ---- streams make their entry busy

hit_busy : (j : Journal) (s n : ℕ) (o : Option Event) → last_event j s ≡ o → HitsSerial n o → is_busy j n ≡ true
hit_busy j s n None is h = absurd h
hit_busy j s n (Some e) is h = named_last hit_by s n j e h is

stream_busy : (j : Journal) (seat n : ℕ) (t : Task) → TaskIsSound j seat t → is_stream_of n t ≡ true → is_busy j n ≡ true
stream_busy j seat n task.Rest sound h = absurd (true≢false (sym h))
stream_busy j seat n (task.Fill m) sound h = absurd (true≢false (sym h))
stream_busy j seat n (task.Stream m) sound h = subst (λ i. is_busy j i ≡ true) (eqb-true m n h) (hit_busy j (session_of seat) m _ refl sound)

streams_busy : (j : Journal) (cs : List EntryChain) (n : ℕ) (ws : List SeatTask) → AllByRecursion (SeatTaskIsSound j cs) ws → 0 < count_by (λ w. is_stream_of n w.task) ws → is_busy j n ≡ true
streams_busy j cs n [] all h = absurd (omega arith)
streams_busy j cs n (w ∷ ws) all h =
    let sum = sum_by-cons (λ (x : SeatTask). cond (is_stream_of n x.task) 1 0) w ws in
    let more = streams_busy j cs n ws all.1 in
    elim (is_stream_of n w.task) as (λ b. is_stream_of n w.task ≡ b → is_busy j n ≡ true) [
      | true ↦ λ e. stream_busy j w.seat n w.task all.0.task e
      | false ↦ λ e. let none : ◌≡◌ {A = ℕ} (cond (is_stream_of n w.task) 1 0) 0 = ap (λ b. cond b 1 0) e in more (omega (arith, h, sum, none))
    ] refl

all_busy : (moment : Moment) (j : Journal) (cs : List EntryChain) (ws : List SeatTask) (es : List StoredEntry) (ys : List Entry) → AllByRecursion (SeatTaskIsSound j cs) ws → AllZip (IsStoredAs moment.hash) es ys
    → AllByRecursion (λ e. e.users ≡ count_by (λ w. is_stream_of e.serial w.task) ws) es → AllByRecursion (λ e. e.complete ≡ true → 0 < e.users) es
    → list_all (λ entry. not entry.complete || is_busy j entry.serial) ys ≡ true
all_busy moment j cs ws [] [] all h u r = refl
all_busy moment j cs ws [] (y ∷ ys) all h u r = absurd h
all_busy moment j cs ws (e ∷ es) [] all h u r = absurd h
all_busy moment j cs ws (e ∷ es) (y ∷ ys) all h u r =
    let more = all_busy moment j cs ws es ys all h.1 u.1 r.1 in
    elim y.complete as (λ b. y.complete ≡ b → ((not b || is_busy j y.serial) && list_all (λ entry. not entry.complete || is_busy j entry.serial) ys) ≡ true) [
      | true ↦ λ c.
          let used : 0 < e.users = r.0 (h.0.complete ∙ c) in
          let busy : is_busy j e.serial ≡ true = streams_busy j cs e.serial ws all (omega (arith, used, u.0)) in
          let same : is_busy j y.serial ≡ true = subst (λ n. is_busy j n ≡ true) h.0.serial busy in
          ap (λ b. b && list_all (λ entry. not entry.complete || is_busy j entry.serial) ys) same ∙ more
      | false ↦ λ c. more
    ] refl

free_below : (need : ℕ) (ts : List Tile) → largest_free ts < need → AllByRecursion (λ t. t.free ≡ true → t.words < need) ts
free_below need [] h = tt
free_below need (t ∷ ts) h = elim t.free as (λ b. t.free ≡ b → cond b (max t.words (largest_free ts)) (largest_free ts) < need → AllByRecursion (λ t. t.free ≡ true → t.words < need) (t ∷ ts)) [
  | true ↦ λ e k. ((λ _. omega (arith, k)), free_below need ts (omega (arith, k)))
  | false ↦ λ e k. ((λ y. absurd (true≢false (sym y ∙ e))), free_below need ts k)
] refl h

pub lacks_room : (moment : Moment) (words : List ℕ) (s : PlainServer) (tiles : List Tile) (held : List Block) (need : ℕ) → IsSound moment words s → IsTiling (region_words s.options) tiles
    → IsPermutation (handed_out tiles) (held ++ blocks_in_use s) → length held ≤ 9 → AllByRecursion (λ b. b.words ≤ word_bound s.options s.journal need) held
    → largest_free tiles < need → Restless s → LacksRoom s.options s.journal need (largest_free tiles)
lacks_room moment words s tiles held need h tiling perm few small low restless = record {
  too_small = low;
  all_busy = all_busy moment s.journal s.chains s.tasks s.entries (cache s.journal) h.tasks.each h.directory h.tasks.users restless;
  crowded = crowds moment words s tiles held need h tiling perm few small (free_below need tiles low);
}

-- ---- a session without a task has no fill under way

fill_of_serial : (j : Journal) (n s : ℕ) (o : Options) (w : SeatTask) (t : Task) → w.task ≡ t → TaskIsSound j w.seat t → is_fill_of n t ≡ true → starts_serial n (last_event j (session_of w.seat)) ≡ true
fill_of_serial j n s o w task.Rest e sound h = absurd (true≢false (sym h))
fill_of_serial j n s o w (task.Stream m) e sound h = absurd (true≢false (sym h))
fill_of_serial j n s o w (task.Fill m) e sound h = subst (λ i. starts_serial i (last_event j (session_of w.seat)) ≡ true) (eqb-true m n h) sound.0

others_fill : (o : Options) (j : Journal) (cs : List EntryChain) (n session : ℕ) (ws : List SeatTask) → IsLawful o j → AllByRecursion (SeatTaskIsSound j cs) ws → AllByRecursion (λ w. session_of w.seat ≢ session) ws → 0 < count_by (λ w. is_fill_of n w.task) ws
    → starts_serial n (last_event j session) ≡ true → ⊥
others_fill o j cs n session [] lawful all none h k = absurd (omega arith)
others_fill o j cs n session (w ∷ ws) lawful all none h k =
    let sum = sum_by-cons (λ (x : SeatTask). cond (is_fill_of n x.task) 1 0) w ws in
    let more = λ (c : 0 < count_by (λ w. is_fill_of n w.task) ws). others_fill o j cs n session ws lawful all.1 none.1 c k in
    elim (is_fill_of n w.task) as (λ b. is_fill_of n w.task ≡ b → ⊥) [
      | true ↦ λ e.
          let a = start_of j n (session_of w.seat) _ refl (fill_of_serial j n session o w w.task refl all.0.task e) in
          let b = start_of j n session _ refl k in
          let r = starts_once o j n a.0 b.0 lawful in
          none.0 (sym a.1 ∙ (ap (λ z. z.session) r.1 ∙ b.1))
      | false ↦ λ e. let zero_ : ◌≡◌ {A = ℕ} (cond (is_fill_of n w.task) 1 0) 0 = ap (λ b. cond b 1 0) e in more (omega (arith, h, sum, zero_))
    ] refl

no_fill_zip : (moment : Moment) (o : Options) (j : Journal) (cs : List EntryChain) (ws : List SeatTask) (session : ℕ) (es : List StoredEntry) (ys : List Entry) → IsLawful o j → AllByRecursion (SeatTaskIsSound j cs) ws → AllByRecursion (λ w. session_of w.seat ≢ session) ws
    → AllZip (IsStoredAs moment.hash) es ys → AllByRecursion (λ e. e.complete ≡ false → count_by (λ w. is_fill_of e.serial w.task) ws ≡ 1) es
    → list_any (λ entry. not entry.complete && starts_serial entry.serial (last_event j session)) ys ≡ false
no_fill_zip moment o j cs ws session [] [] lawful all none h f = refl
no_fill_zip moment o j cs ws session [] (y ∷ ys) lawful all none h f = absurd h
no_fill_zip moment o j cs ws session (e ∷ es) [] lawful all none h f = absurd h
no_fill_zip moment o j cs ws session (e ∷ es) (y ∷ ys) lawful all none h f =
    let more = no_fill_zip moment o j cs ws session es ys lawful all none h.1 f.1 in
    let rest = list_any (λ entry. not entry.complete && starts_serial entry.serial (last_event j session)) ys in
    elim y.complete as (λ b. y.complete ≡ b → ((not b && starts_serial y.serial (last_event j session)) || rest) ≡ false) [
      | true ↦ λ c. more
      | false ↦ λ c. elim (starts_serial y.serial (last_event j session)) as (λ b. starts_serial y.serial (last_event j session) ≡ b → (b || rest) ≡ false) [
        | true ↦ λ k. absurd (others_fill o j cs e.serial session ws lawful all none (let one = f.0 (h.0.complete ∙ c) in omega (arith, one)) (subst (λ n. starts_serial n (last_event j session) ≡ true) (sym h.0.serial) k))
        | false ↦ λ k. more
      ] refl
    ] refl

pub has_no_fill : HasNoFill
has_no_fill moment words s session h none = no_fill_zip moment s.options s.journal s.chains s.tasks session s.entries (cache s.journal) h.journal.lawful h.tasks.each none h.directory h.tasks.filled

-- ---- the oldest idle entry

later_serial : (n : ℕ) (es : List StoredEntry) (x : StoredEntry) → list_any (λ m. m == n) (map (λ e. e.serial) es) ≡ false → find is_idle es ≡ Some x → x.serial ≡ n → ⊥
later_serial n [] x none f e = absurd cc
later_serial n (d ∷ es) x none f e =
    let parts = neither (d.serial == n) (list_any (λ m. m == n) (map (λ e. e.serial) es)) none in
    elim (is_idle d) as (λ b. cond b (Some d) (find is_idle es) ≡ Some x → ⊥) [
      | true ↦ λ k. true≢false (sym (eq-eqb d.serial n (ap (λ z. z.serial) (some_is d x k) ∙ e)) ∙ parts.0)
      | false ↦ λ k. later_serial n es x parts.1 k e
    ] f
  where
    some_is : (a b : StoredEntry) → Some a ≡ Some b → a ≡ b
    some_is a b k = cc

idle_parts : (c : Bool) (u : ℕ) → (c && u == 0) ≡ true → c ≡ true
idle_parts true u h = refl
idle_parts false u h = absurd (true≢false (sym h))

used_parts : (c : Bool) (u : ℕ) → (c && u == 0) ≡ false → c ≡ true → 0 < u
used_parts true zero h e = absurd (true≢false h)
used_parts true (suc u) h e = omega arith
used_parts false u h e = absurd (true≢false (sym e))

oldest : (moment : Moment) (j : Journal) (cs : List EntryChain) (ws : List SeatTask) (es : List StoredEntry) (ys : List Entry) (x : StoredEntry) → AllByRecursion (SeatTaskIsSound j cs) ws → AllZip (IsStoredAs moment.hash) es ys
    → AllByRecursion (λ e. e.users ≡ count_by (λ w. is_stream_of e.serial w.task) ws) es → are_distinct (map (λ e. e.serial) es) ≡ true → find is_idle es ≡ Some x
    → IsSomeAnd (entry_of x.serial ys) (λ y. y.complete ≡ true) × (list_all (λ entry. not entry.complete || is_busy j entry.serial) (before_entry x.serial ys) ≡ true)
oldest moment j cs ws [] [] x all h u d f = absurd cc
oldest moment j cs ws [] (y ∷ ys) x all h u d f = absurd h
oldest moment j cs ws (e ∷ es) [] x all h u d f = absurd h
oldest moment j cs ws (e ∷ es) (y ∷ ys) x all h u d f =
    let parts = both_true (not (list_any (λ m. m == e.serial) (map (λ e. e.serial) es))) (are_distinct (map (λ e. e.serial) es)) d in
    elim (is_idle e) as (λ b. is_idle e ≡ b → cond b (Some e) (find is_idle es) ≡ Some x → IsSomeAnd (entry_of x.serial (y ∷ ys)) (λ y. y.complete ≡ true) × (list_all (λ entry. not entry.complete || is_busy j entry.serial) (before_entry x.serial (y ∷ ys)) ≡ true)) [
      | true ↦ λ i k.
          let same : e ≡ x = some_is e x k in
          let here : eqb y.serial x.serial ≡ true = eq-eqb y.serial x.serial (sym h.0.serial ∙ ap (λ z. z.serial) same) in
          let done : y.complete ≡ true = sym h.0.complete ∙ idle_parts e.complete e.users i in
          (subst (λ b. IsSomeAnd (cond b (Some y) (entry_of x.serial ys)) (λ y. y.complete ≡ true)) (sym here) done, ap (λ b. list_all (λ entry. not entry.complete || is_busy j entry.serial) (cond b [] (y ∷ before_entry x.serial ys))) here)
      | false ↦ λ i k.
          let more = oldest moment j cs ws es ys x all h.1 u.1 parts.1 k in
          let other : eqb y.serial x.serial ≡ false = ne_eqb y.serial x.serial (λ z. later_serial e.serial es x (opposite _ parts.0) k (sym z ∙ sym h.0.serial)) in (
            subst (λ b. IsSomeAnd (cond b (Some y) (entry_of x.serial ys)) (λ y. y.complete ≡ true)) (sym other) more.0,
            ap (λ b. list_all (λ entry. not entry.complete || is_busy j entry.serial) (cond b [] (y ∷ before_entry x.serial ys))) other ∙ busy (used_parts e.complete e.users i) more.1,
          )
    ] refl f
  where
    some_is : (a b : StoredEntry) → Some a ≡ Some b → a ≡ b
    some_is a b k = cc

    busy : (e.complete ≡ true → 0 < e.users) → list_all (λ entry. not entry.complete || is_busy j entry.serial) (before_entry x.serial ys) ≡ true
        → ((not y.complete || is_busy j y.serial) && list_all (λ entry. not entry.complete || is_busy j entry.serial) (before_entry x.serial ys)) ≡ true
    busy used rest = elim y.complete as (λ b. y.complete ≡ b → ((not b || is_busy j y.serial) && list_all (λ entry. not entry.complete || is_busy j entry.serial) (before_entry x.serial ys)) ≡ true) [
      | true ↦ λ c.
          let low : 0 < e.users = used (h.0.complete ∙ c) in
          let there : is_busy j e.serial ≡ true = streams_busy j cs e.serial ws all (omega (arith, low, u.0)) in
          ap (λ b. b && list_all (λ entry. not entry.complete || is_busy j entry.serial) (before_entry x.serial ys)) (subst (λ n. is_busy j n ≡ true) h.0.serial there) ∙ rest
      | false ↦ λ c. rest
    ] refl

pub prunes_oldest : PrunesOldest
prunes_oldest moment words s x need h few small low f =
    let d : are_distinct (map (λ e. e.serial) s.entries) ≡ true = ap are_distinct (same_serials moment s.entries (cache s.journal) h.directory) ∙ serials_apart s.options s.journal h.journal.lawful in
    let o = oldest moment s.journal s.chains s.tasks s.entries (cache s.journal) x h.tasks.each h.directory h.tasks.users d f in
    record { whole = o.0; too_small = low; oldest = o.1; crowded = crowds moment words s s.tiles moment.held need h h.memory.tiles.tiling h.memory.tiles.in_use few small (free_below need s.tiles low) }
