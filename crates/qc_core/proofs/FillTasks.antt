-- A seat that fills an entry, and what stays of it when others are pruned.
use Rattle.std.proofs.Common.{◌≡◌, ◌≢◌, ℕ, zero, suc, ◌+◌, ◌<◌, eqb, eqb-true, Bool, true, false, cond, List, [], ◌∷◌, ◌++◌, map, refl, sym, ap, subst, ◌∙◌, arith, true≢false, append_assoc, append-nil, inl}
use Rattle.std.specs.Prelude.{not, ◌||◌, ◌==◌, Option, Some, None, IfSome, IsSomeAnd, find}
use Rattle.std.specs.List.{list_any}
use Rattle.std.proofs.lemmas.List.Elements.{filter-append}
use Rattle.std.proofs.lemmas.Option.{none-some, same_Some}
use Rattle.qc_types.specs.declared.names.TableName.{TableName}
use Rattle.qc_types.specs.declared.options.Options.{Options}
use Rattle.qc_key.specs.Hash.{hash}
use Rattle.qc_model.specs.declared.events.Event.TheVariants as event
use Rattle.qc_model.specs.declared.events.How.TheVariants as how
use Rattle.qc_model.specs.Journal.{Journal}
use Rattle.qc_model.specs.Cache.{cache, entry_of, is_entry}
use Rattle.qc_model.specs.Cache.{Entry as Cached}
use Rattle.qc_model.specs.Licence.{IsFilling, IsLawful, unit_words}
use Rattle.qc_laws.specs.history.Runs.{IsStarted, IsKept}
use Rattle.qc_laws.proofs.history.Events.{found_all, lawful_back}
use Rattle.qc_laws.proofs.history.Stays.{answers_stay}
use Rattle.qc_tiles.specs.declared.blocks.Block.{Block}
use Rattle.qc_tiles.specs.Tiles.{largest_free}
use Rattle.qc_chain.specs.Chains.{Chained, chain_at}
use Rattle.qc_dir.specs.declared.entries.Entry.{Entry}
use Rattle.qc_dir.specs.Directory.{entry_at, has_serial}
use Rattle.qc_turn.specs.declared.task.ListedTask.{ListedTask}
use Rattle.qc_turn.specs.declared.task.Task.{Task}
use Rattle.qc_turn.specs.declared.task.Task.TheVariants as task
use Rattle.qc_turn.specs.Tasks.{listed_for, own}
use Rattle.qc_turn.specs.Views.{of_seat}
use Rattle.qc_turn.specs.Releases.{Follows}
use Rattle.qc_sound.specs.PlainServer.{serial_of}
use Rattle.qc_sound.specs.Moment.{Moment, at_rest}
use Rattle.qc_sound.specs.Ended.{is_ended}
use Rattle.qc_sound.specs.steps.Leaving.{is_of_seat, filling}
use Rattle.qc_sound.proofs.Growing.{fill_found}
use Rattle.qc_sound.proofs.Laws.{completed_ended}
use Rattle.qc_core.specs.declared.server_state.RunningTask.{RunningTask}
use Rattle.qc_core.specs.declared.server_state.ServerState.{ServerState}
use Rattle.qc_core.specs.contracts.server.ServerKept.TheImpl.{ghosts}
use Rattle.qc_core.specs.Whole.{Named, is_named, IsNamedAs, chain_blocks, task_blocks, listed_in, work_in, plain, tasks_of, with_event, IsWhole}
use Rattle.qc_core.specs.TaskEnd.{is_of}
use Rattle.qc_core.specs.EntryRemoval.{has_task, left_by}
use Rattle.qc_core.specs.Eviction.{Prunes, PrunesMany}
use Rattle.qc_core.specs.BlocksReserved.{nothing}
use Rattle.qc_core.specs.Allocation.{MayTakeOne}
use Rattle.qc_core.specs.OvertakenFill.{overtakes, WasOvertaken}
use Rattle.qc_core.proofs.Uses.{find_all}
use Rattle.qc_core.proofs.Seeking.{pair_of, pair_there}
use Rattle.qc_core.proofs.Overtaking.{stays_all}

-- ---- the task of the seat

pub record FillTask (seat n : ℕ) (bs : List Block) (cs : Chained) (ws : List RunningTask) : Type 0 where
  pub work : RunningTask
  pub at : find (is_of seat) ws ≡ Some work
  pub seat_is : work.seat ≡ seat
  pub task : work.task ≡ task.Fill n
  pub blocks : chain_blocks (chain_at work.chain.number cs) ≡ bs

head_same : {A : Type 0} (a b : A) (xs ys : List A) → a ∷ xs ≡ b ∷ ys → a ≡ b
head_same a b xs ys h = cc

fill_blocks : (cs : Chained) (w : RunningTask) (n : ℕ) (bs : List Block) (seat : ℕ) → listed_in cs w ≡ record { number = seat; task = task.Fill n; blocks = bs } → chain_blocks (chain_at w.chain.number cs) ≡ bs
fill_blocks cs w n bs seat h = by w.task (ap (λ (t : ListedTask). t.task) h) (ap (λ (t : ListedTask). t.blocks) h)
  where
    by : (t : Task) → t ≡ task.Fill n → task_blocks t (chain_blocks (chain_at w.chain.number cs)) ≡ bs → chain_blocks (chain_at w.chain.number cs) ≡ bs
    by task.Rest e k = absurd cc
    by (task.Stream m) e k = absurd cc
    by (task.Fill m) e k = k

pub fill_task : (seat n : ℕ) (bs : List Block) (cs : Chained) (ws : List RunningTask) → listed_for seat (map (listed_in cs) ws) ≡ own seat (task.Fill n) bs → FillTask seat n bs cs ws
fill_task seat n bs cs [] h = absurd cc
fill_task seat n bs cs (w ∷ ws) h = elim (w.seat == seat) as (λ b. (w.seat == seat) ≡ b → cond b (listed_in cs w ∷ listed_for seat (map (listed_in cs) ws)) (listed_for seat (map (listed_in cs) ws)) ≡ own seat (task.Fill n) bs → FillTask seat n bs cs (w ∷ ws)) [
  | true ↦ λ e k.
      let same = head_same (listed_in cs w) _ (listed_for seat (map (listed_in cs) ws)) [] k in
      record { work = w; at = ap (λ b. cond b (Some w) (find (is_of seat) ws)) e; seat_is = eqb-true w.seat seat e; task = ap (λ (t : ListedTask). t.task) same; blocks = fill_blocks cs w n bs seat same }
  | false ↦ λ e k.
      let r = fill_task seat n bs cs ws k in
      record { work = r.work; at = ap (λ b. cond b (Some w) (find (is_of seat) ws)) e ∙ r.at; seat_is = r.seat_is; task = r.task; blocks = r.blocks }
] refl h

pub plain_at : (seat n : ℕ) (bs : List Block) (cs : Chained) (ws : List RunningTask) → FillTask seat n bs cs ws → find (is_of_seat seat) (map work_in ws) ≡ Some (filling seat n)
plain_at seat n bs cs ws t = mapped ws t.at ∙ λ i. Some (record { seat = t.seat_is i; task = t.task i })
  where
    mapped : (ws : List RunningTask) → find (is_of seat) ws ≡ Some t.work → find (is_of_seat seat) (map work_in ws) ≡ Some (work_in t.work)
    mapped [] h = absurd (none-some t.work h)
    mapped (w ∷ ws) h = elim (w.seat == seat) as (λ b. cond b (Some w) (find (is_of seat) ws) ≡ Some t.work → cond b (Some (work_in w)) (find (is_of_seat seat) (map work_in ws)) ≡ Some (work_in t.work)) [
      | true ↦ λ f. ap (λ w. Some (work_in w)) (same_Some w t.work f)
      | false ↦ λ f. mapped ws f
    ] h

-- ---- its entry, if it is there

module _ (m : Moment) (names : List Named) (words : List ℕ) (s : ServerState) (seat n : ℕ) (bs : List Block) (h : IsWhole m names words s) (t : FillTask seat n bs s.chains s.tasks.items) where
  pub fill_named : IsNamedAs names n t.work.chain.number
  fill_named = subst (λ o. IfSome o (λ k. IsNamedAs names k t.work.chain.number)) (ap serial_of t.task) (find_all (λ w. IfSome (serial_of w.task) (λ k. IsNamedAs names k w.chain.number)) (is_of seat) s.tasks.items t.work h.named.tasks t.at)

  pub fill_unended : is_ended n s.journal.events ≡ false
  fill_unended = (fill_found m words (plain names s) seat n h.sound (plain_at seat n bs s.chains s.tasks.items t)).task.1

  pub fill_seat : 0 < seat
  fill_seat = (fill_found m words (plain names s) seat n h.sound (plain_at seat n bs s.chains s.tasks.items t)).seat.low

  -- an entry of the cache with this serial isn't complete
  pub fill_incomplete : (y : Cached) → entry_of n (cache s.journal.events) ≡ Some y → y.complete ≡ false
  fill_incomplete y of = elim y.complete as (λ b. y.complete ≡ b → b ≡ false) [
    | true ↦ λ e.
        let kept = found_all (IsKept s.journal.events) (is_entry n) (cache s.journal.events) y (answers_stay s.options s.journal.events h.sound.journal.lawful) of in
        absurd (true≢false (sym (subst (λ i. is_ended i s.journal.events ≡ true) (eqb-true y.serial n kept.1) (completed_ended y.serial s.journal.events (kept.0.ended e))) ∙ fill_unended))
    | false ↦ λ e. refl
  ] refl

  pub entry_gone : entry_at n s.dir.entries ≡ None → entry_of n (cache s.journal.events) ≡ None
  entry_gone none = by (entry_of n (cache s.journal.events)) refl
    where
      by : (o : Option Cached) → entry_of n (cache s.journal.events) ≡ o → o ≡ None
      by None e = refl
      by (Some y) e = absurd (none-some _ (sym none ∙ (pair_of m words names s n y h e).0.there))

  pub entry_filling : (e : Entry) → entry_at n s.dir.entries ≡ Some e → IsFilling s.journal.events n
  entry_filling e there =
      let q = pair_there m words names s n e h there in
      subst (λ (o : Option Cached). IsSomeAnd o (λ y. y.complete ≡ false)) (sym q.1) (fill_incomplete q.0 q.1)

  -- the chain of the entry is the one that is filled
  pub entry_number : (e : Entry) → entry_at n s.dir.entries ≡ Some e → e.chain.number ≡ t.work.chain.number
  entry_number e there =
      let named = find_all (λ (e : Entry). IsNamedAs names e.serial e.chain.number) (has_serial n) s.dir.entries e h.named.entries there in
      let serial = eqb-true e.serial n (found_all (λ (e : Entry). IsNamedAs names e.serial e.chain.number) (has_serial n) s.dir.entries e h.named.entries there).1 in
      ap (λ (x : Named). x.number) (same_Some _ _ (sym (subst (λ i. find (is_named i) names ≡ Some (record { serial = e.serial; number = e.chain.number })) serial named) ∙ fill_named))

-- ---- what needs a fill has

pub some_incomplete : (n : ℕ) (ys : List Cached) → IsSomeAnd (entry_of n ys) (λ y. y.complete ≡ false) → list_any (λ y. not y.complete) ys ≡ true
some_incomplete n [] h = absurd h
some_incomplete n (y ∷ ys) h = elim (eqb y.serial n) as (λ b. IsSomeAnd (cond b (Some y) (entry_of n ys)) (λ y. y.complete ≡ false) → (not y.complete || list_any (λ y. not y.complete) ys) ≡ true) [
  | true ↦ λ k. ap (λ b. not b || list_any (λ y. not y.complete) ys) k
  | false ↦ λ k. or_last (not y.complete) (list_any (λ y. not y.complete) ys) (some_incomplete n ys k)
] h
  where
    or_last : (a b : Bool) → b ≡ true → (a || b) ≡ true
    or_last true b h = refl
    or_last false b h = h

abbrev pub may_allocate : (words : List ℕ) (names : List Named) (s : ServerState) (n : ℕ) → IsWhole (at_rest hash) names words s → IsFilling s.journal.events n → MayTakeOne (unit_words s.options) nothing s
may_allocate words names s n h filling_ =
    let long = h.sound.rounded.least in
    record {
      next = None;
      words = words;
      missing = [];
      others = [];
      starting = record { names = names; whole = h; hand = record { few = omega arith; one = λ t is. absurd (true≢false (sym is)); none = λ t is. refl }; small = tt };
      least = omega (arith, long);
      needs = (omega (arith, long), some_incomplete n (cache s.journal.events) filling_);
      few = omega arith;
      small = tt;
    }

-- ---- what prunes leave

-- the journal goes on by prunes, and what they don't touch stays
pub record IsAfter (s t : ServerState) : Type 0 where
  pub options : t.options ≡ s.options
  pub running : t.tasks ≡ s.tasks
  pub listed : tasks_of t ≡ tasks_of s
  pub connected : t.connected ≡ s.connected
  pub later : Journal
  pub events : t.journal.events ≡ s.journal.events ++ later
  pub unended : (n : ℕ) → is_ended n later ≡ false
  pub left : (tables : List TableName) → list_any (overtakes tables) later ≡ false
  pub others : (k : ℕ) → of_seat ghosts k later ≡ []

any_join : {A : Type 0} (p : A → Bool) (xs ys : List A) → list_any p xs ≡ false → list_any p ys ≡ false → list_any p (xs ++ ys) ≡ false
any_join p [] ys h k = k
any_join p (x ∷ xs) ys h k = elim (p x) as (λ b. (b || list_any p xs) ≡ false → (b || list_any p (xs ++ ys)) ≡ false) [ true ↦ λ f. absurd (true≢false f) | false ↦ λ f. any_join p xs ys f k ] h

-- what went with an entry that was pruned
pub prune_is : (tables : List TableName) (need : ℕ) (s t : ServerState) → (p : Prunes tables need s t) → t ≡ with_event (event.Prune p.serial need (largest_free s.tiles)) (left_by p.mid.dir (has_task p.serial s) p.may.entry p.may.held p.left.others s)
prune_is tables need s t p = p.server ∙ ap (with_event (event.Prune p.serial need (largest_free s.tiles))) p.left.server

pub pruned_after : (tables : List TableName) (need count : ℕ) (s t : ServerState) → PrunesMany tables need count s t → IsAfter s t
pruned_after tables need zero s t h = subst (IsAfter s) (sym h) (record { options = refl; running = refl; listed = refl; connected = refl; later = []; events = sym (append-nil s.journal.events); unended = λ n. refl; left = λ ts. refl; others = λ k. refl })
pruned_after tables need (suc k) s t h =
    let mid = h.0 in
    let a = pruned_after tables need k s mid h.1 in
    let p = h.2 in
    let e = event.Prune p.serial need (largest_free mid.tiles) in
    let is = prune_is tables need mid t p in
    record {
      options = ap (λ (x : ServerState). x.options) is ∙ a.options;
      running = ap (λ (x : ServerState). x.tasks) is ∙ a.running;
      listed = p.tasks ∙ a.listed;
      connected = ap (λ (x : ServerState). x.connected) is ∙ a.connected;
      later = a.later ++ e ∷ [];
      events = ap (λ (x : ServerState). x.journal.events) is ∙ (ap (λ l. l ++ e ∷ []) a.events ∙ append_assoc s.journal.events a.later (e ∷ []));
      unended = λ n. any_join _ a.later (e ∷ []) (a.unended n) refl;
      left = λ ts. any_join (overtakes ts) a.later (e ∷ []) (a.left ts) refl;
      others = λ k. filter-append _ a.later (e ∷ []) ∙ ap (λ l. l ++ []) (a.others k);
    }

-- the entry that is filled stays in the cache
pub still_filling : (o : Options) (s t : ServerState) (n : ℕ) → IsLawful o t.journal.events → IsAfter s t → IsFilling s.journal.events n → IsFilling t.journal.events n
still_filling o s t n lawful a h = by (entry_of n (cache s.journal.events)) refl h
  where
    by : (q : Option Cached) → entry_of n (cache s.journal.events) ≡ q → IsSomeAnd q (λ y. y.complete ≡ false) → IsFilling t.journal.events n
    by None e k = absurd k
    by (Some y) e k =
        let back = lawful_back o [] s.journal.events a.later (subst (IsLawful o) a.events lawful) in
        let there = stays_all o n y.tables s.journal.events a.later back (record { entry = y; at = e; partial = k; named = refl }) (a.unended n) (a.left y.tables) in
        subst (λ j. IsFilling j n) (sym a.events) (subst (λ (q : Option Cached). IsSomeAnd q (λ y. y.complete ≡ false)) (sym there.at) there.partial)

-- and was started where it was
abbrev pub started_after : (s t : ServerState) (n : ℕ) → IsAfter s t → (u : IsStarted s.journal.events n) → (v : IsStarted t.journal.events n) × (v.earlier ≡ u.earlier) × (v.key ≡ u.key)
started_after s t n a u = (
  record {
    who = u.who;
    key = u.key;
    tables = u.tables;
    earlier = u.earlier;
    later = u.later ++ a.later;
    split = a.events ∙ (ap (λ l. l ++ a.later) u.split ∙ append_assoc u.earlier (event.Run u.who (how.Start n u.key u.tables) ∷ u.later) a.later);
  },
  refl,
  refl,
)

pub after_follows : (s t : ServerState) (seat : ℕ) (idle : List ℕ) → IsAfter s t → Follows ghosts seat idle s t
after_follows s t seat idle a = record {
  journal = (a.later, a.events);
  others = λ k ne. ap (of_seat ghosts k) a.events ∙ (filter-append _ s.journal.events a.later ∙ (ap (λ l. of_seat ghosts k s.journal.events ++ l) (a.others k) ∙ append-nil (of_seat ghosts k s.journal.events)));
  fixed = ap (λ (o : Options). o.size ∷ o.limit ∷ o.unit ∷ o.kind ∷ []) a.options;
  connected = λ k ne. ap (λ c. list_any (λ m. m == k) c.items) a.connected;
  tasks = λ k ne. inl (ap (listed_for k) a.listed);
}

pub overtaken : (words : List ℕ) (names : List Named) (s : ServerState) (seat n : ℕ) (bs : List Block) → IsWhole (at_rest hash) names words s → FillTask seat n bs s.chains s.tasks.items → IsStarted s.journal.events n → entry_at n s.dir.entries ≡ None → WasOvertaken s.journal.events n
overtaken words names s seat n bs h t start none = record {
  options = s.options;
  lawful = h.sound.journal.lawful;
  start = start;
  filling = fill_unended (at_rest hash) names words s seat n bs h t;
  left = entry_gone (at_rest hash) names words s seat n bs h t none;
}
