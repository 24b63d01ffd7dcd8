-- The laws that the lock asks of a sound server.
use Rattle.std.proofs.Common.{◌≡◌, ◌≢◌, ◌⊎◌, ⊎_elim, ℕ, ◌+◌, ◌-◌, ◌<◌, ◌≤◌, eqb-true, Bool, true, false, List, [], ◌∷◌, ◌++◌, map, length, get_or, take, refl, sym, ap, subst, ◌∙◌, arith, true≢false, append-nil, append_assoc}
use Rattle.std.specs.Prelude.{◌||◌, Option, Some, None, IsSomeAnd, IfSome, unwrap_or}
use Rattle.std.specs.List.{list_any, filter, AllByRecursion, AllZip}
use Rattle.std.proofs.lemmas.List.Folds.{list_any-append}
use Rattle.qc_types.specs.declared.options.Options.{Options}
use Rattle.qc_model.specs.declared.events.Event.{Event}
use Rattle.qc_model.specs.declared.events.Event.TheVariants as event
use Rattle.qc_model.specs.declared.events.How.TheVariants as how
use Rattle.qc_model.specs.Journal.{Journal, last_event, present}
use Rattle.qc_model.specs.Cache.{Entry, cache, entry_of, is_entry}
use Rattle.qc_model.specs.Session.{answer}
use Rattle.qc_model.specs.Licence.{IsLawful, region_words, starts_serial}
use Rattle.qc_laws.specs.history.Runs.{IsStarted, IsKept, completes, is_completed}
use Rattle.qc_sound.specs.Ended.{ends_fill, is_ended}
use Rattle.qc_laws.proofs.history.Events.{last_stands, found_all}
use Rattle.qc_laws.proofs.history.Starts.{starts_once}
use Rattle.qc_laws.proofs.history.Stays.{answers_stay, hits_are_whole}
use Rattle.qc_tiles.specs.declared.blocks.Block.{Block}
use Rattle.qc_turn.specs.declared.task.Task.{Task}
use Rattle.qc_turn.specs.declared.task.Task.TheVariants as task
use Rattle.std.specs.Prelude.{find}
use Rattle.qc_sound.specs.PlainServer.{is_stored, PlainServer, StoredEntry, EntryChain, SeatTask, blocks_at, blocks_of, listed, listed_tasks, session_of}
use Rattle.qc_sound.specs.Moment.{Moment}
use Rattle.qc_sound.specs.parts.Directory.{IsStoredAs}
use Rattle.qc_sound.specs.parts.Memory.{TilesAreSound, blocks_in_use}
use Rattle.qc_sound.specs.parts.Contents.{IsSpelled, text_of}
use Rattle.qc_sound.specs.parts.Tasks.{TaskIsSound, SeatTaskIsSound, HitsSerial}
use Rattle.qc_sound.specs.Sound.{IsSound, FitsFill}
use Rattle.qc_turn.specs.Blocks.{counted, places, Misses, IsDistinct}
use Rattle.qc_turn.specs.Bytes.{bytes_of}
use Rattle.qc_turn.specs.Tasks.{places_of, fill_of, fill_places, listed_for}
use Rattle.qc_turn.specs.Words.{StartsWith}
use Rattle.qc_turn.proofs.Tasks.{spelled_agree}
use Rattle.qc_tiles.specs.Tiles.{handed_out}
use Rattle.qc_sound.specs.Laws.{Within, FitsOn, FillsFree, FillsApart, Once}
use Rattle.qc_sound.proofs.Counts.{occurs, occurs_places, occurs_misses, met_occurs, occurs_at, occurs_distinct, tiled_once, tiled_in, parted, occurs_permuted, all_blocks, counted_here}
use Rattle.qc_sound.proofs.Lists.{all_chains, one_chain, two_chains, IsOnly, listed_one, in_use_sum, zip_on, zip_both, zip_right, zip_left}

-- ---- the blocks that are in use

-- a word is in one block of those in use and of the free ones
pub word_once : (moment : Moment) (k : ℕ) (s : PlainServer) → TilesAreSound moment s → occurs k (places (blocks_in_use s)) + occurs k (places (all_blocks (filter (λ t. t.free) s.tiles))) ≤ 1
word_once moment k s h = omega (arith, tiled_once (region_words s.options) k s.tiles h.tiling.covers, parted k (λ t. t.free) s.tiles, occurs_permuted k (handed_out s.tiles) (moment.held ++ blocks_in_use s) h.in_use, occurs_places k moment.held (blocks_in_use s))

pub word_in : (moment : Moment) (k : ℕ) (s : PlainServer) → TilesAreSound moment s → 0 < occurs k (places (blocks_in_use s)) → k < region_words s.options
word_in moment k s h o = tiled_in (region_words s.options) k s.tiles h.tiling.covers (omega (arith, parted k (λ t. t.free) s.tiles, occurs_permuted k (handed_out s.tiles) (moment.held ++ blocks_in_use s) h.in_use, occurs_places k moment.held (blocks_in_use s), o))

pub chains_in : (k : ℕ) (s : PlainServer) → occurs k (places (all_chains s.chains)) ≤ occurs k (places (blocks_in_use s))
chains_in k s = omega (arith, in_use_sum k s)

pub tasks_in : (k : ℕ) (cs : List EntryChain) (t : Task) → occurs k (places (blocks_of cs t)) ≤ occurs k (places (all_chains cs))
tasks_in k cs task.Rest = omega arith
tasks_in k cs (task.Stream n) = one_chain k n cs
tasks_in k cs (task.Fill n) = one_chain k n cs

-- ---- what is listed for a seat

pub only : (moment : Moment) (words : List ℕ) (s : PlainServer) (n : ℕ) → IsSound moment words s → (listed_for n (listed_tasks s) ≡ []) ⊎ IsOnly (SeatTaskIsSound s.journal s.chains) s.chains s.tasks n
only moment words s n h = listed_one (SeatTaskIsSound s.journal s.chains) s.chains n s.tasks h.tasks.each h.tasks.one_each

pub places_only : (cs : List EntryChain) (w : SeatTask) → places_of (listed cs w ∷ []) ≡ places (blocks_of cs w.task)
places_only cs w = append-nil (places (blocks_of cs w.task))

pub fills_only : (cs : List EntryChain) (w : SeatTask) → fill_places (listed cs w ∷ []) ≡ fill_of w.task (blocks_of cs w.task)
fills_only cs w = append-nil (fill_of w.task (blocks_of cs w.task))

pub within : (moment : Moment) → Within moment
within moment words v n k h below = ⊎_elim
    (λ (e : listed_for n (listed_tasks v) ≡ []). let none : length (places_of (listed_for n (listed_tasks v))) ≡ 0 = ap (λ l. length (places_of l)) e in absurd (omega (arith, below, none)))
    (λ (o : IsOnly (SeatTaskIsSound v.journal v.chains) v.chains v.tasks n).
    let is : places_of (listed_for n (listed_tasks v)) ≡ places (blocks_of v.chains o.one.task) = ap places_of o.only ∙ places_only v.chains o.one in
    let x = get_or (places (blocks_of v.chains o.one.task)) k 0 in
    let inside : 0 < occurs x (places (blocks_of v.chains o.one.task)) = occurs_at (places (blocks_of v.chains o.one.task)) k (subst (λ l. k < length l) is below) in
    let low : x < region_words v.options = word_in moment x v h.memory.tiles (omega (arith, tasks_in x v.chains o.one.task, chains_in x v, inside)) in
    subst (λ l. get_or l k 0 < length words) (sym is) (subst (λ m. x < m) (sym h.region) low))
    (only moment words v n h)

pub once : (moment : Moment) → Once moment
once moment words v n h = ⊎_elim
    (λ (e : listed_for n (listed_tasks v) ≡ []). subst (λ l. IsDistinct (places_of l)) (sym e) tt)
    (λ (o : IsOnly (SeatTaskIsSound v.journal v.chains) v.chains v.tasks n).
    subst (λ l. IsDistinct l) (sym (ap places_of o.only ∙ places_only v.chains o.one))
    (occurs_distinct (places (blocks_of v.chains o.one.task)) (λ k. omega (arith, tasks_in k v.chains o.one.task, chains_in k v, word_once moment k v h.memory.tiles))))
    (only moment words v n h)

-- ---- a fill is alone on its entry

-- the start that a session's last event is
pub start_of : (j : Journal) (n s : ℕ) (o : Option Event) → last_event j s ≡ o → starts_serial n o ≡ true → (t : IsStarted j n) × (t.who.session ≡ s)
start_of j n s None is h = absurd (true≢false (sym h))
start_of j n s (Some (event.Run who (how.Start m key tables))) is h =
    let same : m ≡ n = eqb-true m n h in
    let at = last_stands j s (event.Run who (how.Start m key tables)) is in
    (record { who = who; key = key; tables = tables; earlier = at.earlier; later = at.later; split = at.split ∙ ap (λ i. at.earlier ++ event.Run who (how.Start i key tables) ∷ at.later) same }, eqb-true who.session s at.own)
start_of j n s (Some e) is h = absurd (true≢false (sym h))

-- what was completed was ended
any_more : (p q : Event → Bool) (j : Journal) → ((e : Event) → p e ≡ true → q e ≡ true) → list_any p j ≡ true → list_any q j ≡ true
any_more p q [] f h = h
any_more p q (e ∷ j) f h = elim (p e) as (λ b. p e ≡ b → (b || list_any p j) ≡ true → (q e || list_any q j) ≡ true) [
  | true ↦ λ a k. ap (λ b. b || list_any q j) (f e a)
  | false ↦ λ a k. or_last (q e) (list_any q j) (any_more p q j f k)
] refl h
  where
    or_last : (a b : Bool) → b ≡ true → (a || b) ≡ true
    or_last true b h = refl
    or_last false b h = h

pub completed_ended : (n : ℕ) (j : Journal) → is_completed n j ≡ true → is_ended n j ≡ true
completed_ended n j h = any_more (completes n) (ends_fill n) j one h
  where
    one : (e : Event) → completes n e ≡ true → ends_fill n e ≡ true
    one (event.Done k) h = h
    one e h = absurd (true≢false (sym h))

front_ended : (n : ℕ) (xs ys : Journal) → is_ended n xs ≡ true → is_ended n (xs ++ ys) ≡ true
front_ended n xs ys h = list_any-append (ends_fill n) xs ys ∙ ap (λ b. b || list_any (ends_fill n) ys) h

pub hit_ended : (o : Options) (j : Journal) (n s : ℕ) (e : Option Event) → IsLawful o j → last_event j s ≡ e → HitsSerial n e → is_ended n j ≡ true
hit_ended o j n s None lawful is h = absurd h
hit_ended o j n s (Some (event.Run who (how.Hit m))) lawful is h =
    let same : m ≡ n = cc in
    let at = last_stands j s (event.Run who (how.Hit m)) is in
    let done = hits_are_whole o j who n at.earlier at.later lawful (at.split ∙ ap (λ i. at.earlier ++ event.Run who (how.Hit i) ∷ at.later) same) in
    subst (λ z. is_ended n z ≡ true) (sym at.split) (front_ended n at.earlier (event.Run who (how.Hit m) ∷ at.later) (completed_ended n at.earlier done))
hit_ended o j n s (Some e) lawful is h = absurd cc

-- no other seat has a task on the entry of a fill
pub fills_alone : (o : Options) (j : Journal) (n m a b : ℕ) → IsLawful o j → 0 < n → 0 < m → TaskIsSound j n (task.Fill a) → TaskIsSound j m (task.Fill b) → a ≡ b → n ≡ m
fills_alone o j n m a b lawful pn pm f g same =
    let s = start_of j a (session_of n) _ refl f.0 in
    let t = start_of j a (session_of m) _ refl (subst (λ i. starts_serial i (last_event j (session_of m)) ≡ true) (sym same) g.0) in
    let r = starts_once o j a s.0 t.0 lawful in
    let sessions : n - 1 ≡ m - 1 = sym s.1 ∙ (ap (λ w. w.session) r.1 ∙ t.1) in
    omega (arith, sessions, pn, pm)

pub streams_apart : (o : Options) (j : Journal) (n m a b : ℕ) → IsLawful o j → TaskIsSound j n (task.Fill a) → TaskIsSound j m (task.Stream b) → a ≡ b → ⊥
streams_apart o j n m a b lawful f g same =
    let e = hit_ended o j b (session_of m) _ lawful refl g in
    true≢false (sym (subst (λ i. is_ended i j ≡ true) (sym same) e) ∙ f.1)

-- a word of the fill is in no other task
apart_at : (moment : Moment) (s : PlainServer) (k n m : ℕ) (t u : Task) → IsLawful s.options s.journal → TilesAreSound moment s → n ≢ m → 0 < n → 0 < m → TaskIsSound s.journal n t → TaskIsSound s.journal m u
    → 0 < occurs k (fill_of t (blocks_of s.chains t)) → occurs k (places (blocks_of s.chains u)) ≡ 0
apart_at moment s k n m task.Rest u lawful blocks ne pn pm ht hu o = absurd (omega (arith, o))
apart_at moment s k n m (task.Stream a) u lawful blocks ne pn pm ht hu o = absurd (omega (arith, o))
apart_at moment s k n m (task.Fill a) task.Rest lawful blocks ne pn pm ht hu o = refl
apart_at moment s k n m (task.Fill a) (task.Stream b) lawful blocks ne pn pm ht hu o =
    omega (arith, two_chains k a b s.chains (λ e. streams_apart s.options s.journal n m a b lawful ht hu e), chains_in k s, word_once moment k s blocks, o)
apart_at moment s k n m (task.Fill a) (task.Fill b) lawful blocks ne pn pm ht hu o =
    omega (arith, two_chains k a b s.chains (λ e. ne (fills_alone s.options s.journal n m a b lawful pn pm ht hu e)), chains_in k s, word_once moment k s blocks, o)

pub fills_apart : (moment : Moment) → FillsApart moment
fills_apart moment words v n m k h ne met = ⊎_elim
    (λ (e : listed_for n (listed_tasks v) ≡ []). absurd (met (subst (λ l. Misses k (fill_places l)) (sym e) tt)))
    (λ (o : IsOnly (SeatTaskIsSound v.journal v.chains) v.chains v.tasks n). ⊎_elim
    (λ (e : listed_for m (listed_tasks v) ≡ []). subst (λ l. Misses k (places_of l)) (sym e) tt)
    (λ (p : IsOnly (SeatTaskIsSound v.journal v.chains) v.chains v.tasks m).
    let there : 0 < occurs k (fill_of o.one.task (blocks_of v.chains o.one.task)) = met_occurs k _ (λ none. met (subst (λ l. Misses k l) (sym (ap fill_places o.only ∙ fills_only v.chains o.one)) none)) in
    let pn : 0 < n = subst (λ i. 0 < i) o.seat o.holds.seat.low in
    let pm : 0 < m = subst (λ i. 0 < i) p.seat p.holds.seat.low in
    subst (λ l. Misses k l) (sym (ap places_of p.only ∙ places_only v.chains p.one))
    (occurs_misses k (places (blocks_of v.chains p.one.task)) (apart_at moment v k n m o.one.task p.one.task h.journal.lawful h.memory.tiles ne pn pm
    (subst (λ i. TaskIsSound v.journal i o.one.task) o.seat o.holds.task) (subst (λ i. TaskIsSound v.journal i p.one.task) p.seat p.holds.task) there)))
    (only moment words v m h))
    (only moment words v n h)

-- ---- the bytes of a fill

-- what a fill has put begins the answer of its entry, where that is still in the cache
fits_kept : (o : Options) (j : Journal) (n : ℕ) (x : Entry) (bytes : List ℕ) → IsLawful o j → (s : IsStarted j n) → n ≡ x.serial → StartsWith (unwrap_or (answer s.key (present s.earlier)) []) bytes → IsKept j x
    → IsSomeAnd (answer x.key (present j)) (λ all. StartsWith all bytes)
fits_kept o j n x bytes lawful s same front kept =
    let t : IsStarted j x.serial = record { who = s.who; key = s.key; tables = s.tables; earlier = s.earlier; later = s.later; split = s.split ∙ ap (λ i. s.earlier ++ event.Run s.who (how.Start i s.key s.tables) ∷ s.later) same } in
    let r = starts_once o j x.serial t kept.start lawful in
    let is : answer s.key (present s.earlier) ≡ Some kept.bytes = (λ i. answer (r.2 i) (present (r.0 i))) ∙ (ap (λ k. answer k (present kept.start.earlier)) kept.key ∙ kept.at_start) in
    subst (λ z. IsSomeAnd z (λ all. StartsWith all bytes)) (sym kept.now) (subst (λ z. StartsWith (unwrap_or z []) bytes) is front)

fits_now : (o : Options) (j : Journal) (n : ℕ) (bytes : List ℕ) (e : Option Entry) → entry_of n (cache j) ≡ e → IsLawful o j → (s : IsStarted j n) → StartsWith (unwrap_or (answer s.key (present s.earlier)) []) bytes
    → IfSome e (λ entry. IsSomeAnd (answer entry.key (present j)) (λ all. StartsWith all bytes))
fits_now o j n bytes None is lawful s front = tt
fits_now o j n bytes (Some x) is lawful s front =
    let found = found_all (IsKept j) (is_entry n) (cache j) x (answers_stay o j lawful) is in
    fits_kept o j n x bytes lawful s (sym (eqb-true x.serial n found.1)) front found.0

-- a fill's bytes fit where they begin the answer of its start
pub fits_by_start : (o : Options) (j : Journal) (n : ℕ) (bytes : List ℕ) → IsLawful o j → (s : IsStarted j n) → StartsWith (unwrap_or (answer s.key (present s.earlier)) []) bytes → FitsFill j n bytes
fits_by_start o j n bytes lawful s front = record { start = s; front = front; now = fits_now o j n bytes (entry_of n (cache j)) refl lawful s front }

pub fits_on : (moment : Moment) → FitsOn moment
fits_on moment words over v w n bytes hv hw begins fits =
    let s = fits.start in
    let e = event.Run s.who (how.Start n s.key s.tables) in
    let longer : IsStarted w.journal n = record {
      who = s.who;
      key = s.key;
      tables = s.tables;
      earlier = s.earlier;
      later = s.later ++ begins.0;
      split = begins.1 ∙ (ap (λ l. l ++ begins.0) s.split ∙ append_assoc s.earlier (e ∷ s.later) begins.0);
    } in
    fits_by_start w.options w.journal n bytes hw.journal.lawful longer fits.front
