-- Task words are read, and the streams struck off that have ended.
use Rattle.std.proofs.Common.{◌≡◌, ◌≢◌, ℕ, zero, suc, ◌+◌, ◌-◌, ◌<◌, ◌≤◌, eqb, eq-eqb, eqb-true, ne_eqb, Bool, true, false, cond, List, [], ◌∷◌, ◌++◌, length, take, drop, map, refl, sym, ap, subst, ◌∙◌, arith, true≢false, inl, inr, ⊎_elim, append_assoc, append-nil}
use Rattle.std.specs.Prelude.{not, ◌||◌, ◌==◌, slice_get, Option, Some, None, find}
use Rattle.std.specs.List.{list_any, AllByRecursion}
use Rattle.std.proofs.lemmas.Option.{none-some, same_Some}
use Rattle.std.proofs.lemmas.List.{take_all}
use Rattle.std.proofs.lemmas.List.Folds.{list_any-append}
use Rattle.qc_key.specs.Hash.{hash}
use Rattle.qc_types.specs.declared.options.Options.{Options}
use Rattle.qc_journal.specs.Room.{Recorded}
use Rattle.qc_chain.specs.Chains.{Chained, chain_at}
use Rattle.qc_chain.specs.Chains.{Chain as Kept}
use Rattle.qc_dir.specs.Directory.{IsDirectory}
use Rattle.qc_laws.specs.history.Runs.{are_distinct}
use Rattle.qc_laws.proofs.history.Serials.{neither}
use Rattle.qc_laws.proofs.history.Events.{any_append}
use Rattle.qc_turn.specs.declared.kept.Kept.{Ghosts}
use Rattle.qc_turn.specs.declared.view.FoundWord.{FoundWord}
use Rattle.qc_turn.specs.declared.view.Holding.TheVariants.{Holds}
use Rattle.qc_turn.specs.declared.task.Task.{Task}
use Rattle.qc_turn.specs.declared.task.Task.TheVariants as task
use Rattle.qc_turn.specs.Words.{word_seats}
use Rattle.qc_turn.specs.Tasks.{listed_for, is_stream, own, FoundIdle, IsEnded, KeepsListed}
use Rattle.qc_turn.specs.Views.{idle_of, found_word, of_seat, base_of, words_of, with_holding, with_found}
use Rattle.qc_turn.specs.Releases.{Follows}
use Rattle.qc_turn.specs.Seats.{Held, holder, words, taken, IsHeld, MayRelease, SameHolder, with_value}
use Rattle.qc_sound.specs.PlainServer.{EntryChain}
use Rattle.qc_sound.specs.Moment.{Moment, at_rest}
use Rattle.qc_sound.specs.parts.Tasks.{IsSeat, SeatTaskIsSound}
use Rattle.qc_model.specs.Journal.{Journal}
use Rattle.qc_model.specs.declared.events.Event.{Event}
use Rattle.qc_core.specs.declared.server_state.RunningTask.{RunningTask}
use Rattle.qc_core.specs.declared.server_state.ServerState.{ServerState}
use Rattle.qc_core.specs.contracts.server.ServerKept.TheImpl.{ghosts}
use Rattle.qc_core.specs.Whole.{Named, chain_blocks, work_in, listed_in, plain, tasks_of, task_blocks, IsWhole}
use Rattle.qc_core.specs.TaskEnd.{is_of, others, without_task_of, with_user_less, MayStrike, MayRest, rested}
use Rattle.qc_model.specs.declared.events.Who.{Who}
use Rattle.qc_model.specs.Journal.{event_count}
use Rattle.qc_model.specs.Cache.{cache}
use Rattle.qc_sound.specs.parts.Journal.{reserved}
use Rattle.qc_core.specs.ListRoom.{Reserved}
use Rattle.qc_core.specs.Calls.{IsNext, HasSpare}
use Rattle.qc_core.specs.EndedStreams.{has_stream, stream_seat, streams, swept, ReadsStreams, ReadsOne, ReadsAt, ReadsBehind, Finds, IsSwept}
use Rattle.qc_core.proofs.Seating.{distinct_parts, is_among}
use Rattle.qc_core.proofs.Standing.{value_stands}
use Rattle.qc_core.proofs.Struck.{IsRested, go_on, struck_is, once_each}
use Rattle.qc_core.proofs.Resting.{HasTask, at_found, may_strike, rested_sound}

-- ---- a word is read

module _ {V E : Type 0} {K : Ghosts V E} where
  -- what a step keeps may be struck off where more seats were found idle
  found_follows : (n : ℕ) (f : FoundWord) (found : List FoundWord) (b x : V) → Follows K n (idle_of found) b x → Follows K n (idle_of (f ∷ found)) b x
  found_follows n f found b x h = record {
    journal = h.journal;
    others = h.others;
    fixed = h.fixed;
    connected = h.connected;
    tasks = λ k ne. elim f.set as (λ v. KeepsListed (cond v (idle_of found) (f.seat ∷ idle_of found)) k (listed_for k (K.tasks b)) (listed_for k (K.tasks x))) [
      | true ↦ h.tasks k ne
      | false ↦ ⊎_elim (λ e. inl e) (λ r. inr ((λ m. r.0 m.1), r.1, r.2)) (h.tasks k ne)
    ];
  }

  pub record Reads (h k : Held V E K) (seat : ℕ) (set : Bool) : Type 0 where
    pub held : IsHeld k
    pub same_seat : k.seat.ghost_name ≡ h.seat.ghost_name
    pub turn : k.turn.now ≡ h.turn.now
    pub value : k.value ≡ h.value
    pub ranges : k.ranges ≡ h.ranges
    pub found : holder k ≡ with_found (holder h) (found_word seat set ∷ (holder h).found)

  reads_words : (h k : Held V E K) (seat : ℕ) (set : Bool) → Reads h k seat set → words k ≡ words h
  reads_words h k seat set r = ap (λ v. words_of v.holding) r.found

  reads_taken : (h k : Held V E K) (seat : ℕ) (set : Bool) → Reads h k seat set → taken k ≡ taken h
  reads_taken h k seat set r = ap (λ v. base_of k.value v.holding) r.found ∙ ap (λ x. base_of x (holder h).holding) r.value

  pub reads_stands : (h k : Held V E K) (seat : ℕ) (set : Bool) → MayRelease h → Reads h k seat set → MayRelease k
  reads_stands h k seat set st r =
      let f = found_word seat set in
      let ws = reads_words h k seat set r in
      let base = reads_taken h k seat set r in
      record {
        held = r.held;
        sound = subst (λ (p : List ℕ × V). K.sound p.0 p.1) (λ i. (sym ws i, sym r.value i)) st.sound;
        follows = subst (λ (p : ℕ × List ℕ × V × V). Follows K p.0 p.1 p.2 p.3) (λ i. (sym (ap (λ v. v.number) r.found) i, sym (ap (λ v. idle_of v.found) r.found) i, sym base i, sym r.value i)) (found_follows (holder h).number f (holder h).found (taken h) h.value st.follows);
      }

  pub finds_nothing : (h : Held V E K) (x : V) → IsHeld h → Finds h (with_value h x) []
  finds_nothing h x held = record { seat = refl; turn = refl; holder = ap (λ g. with_holding (holder h) g) held.holding; ranges = refl }

  pub reads_finds : (h k : Held V E K) (seat : ℕ) (set : Bool) → IsHeld h → Reads h k seat set → Finds h k (found_word seat set ∷ [])
  reads_finds h k seat set held r =
      let f = found_word seat set in
      record {
        seat = r.same_seat;
        turn = r.turn;
        holder = r.found ∙ ((λ i. with_found (with_holding (holder h) (held.holding i)) (f ∷ (holder h).found)) ∙ (λ i. with_found (with_holding (holder h) (Holds (taken h) (sym (reads_words h k seat set r) i))) (f ∷ (holder h).found)));
        ranges = r.ranges;
      }

  pub finds_value : (h k : Held V E K) (found : List FoundWord) (x : V) → Finds h k found → Finds h (with_value k x) found
  finds_value h k found x f = record { seat = f.seat; turn = f.turn; holder = f.holder; ranges = f.ranges }

  finds_taken : (h k : Held V E K) (found : List FoundWord) → Finds h k found → taken k ≡ taken h
  finds_taken h k found f = ap (λ v. base_of k.value v.holding) f.holder

  pub finds_number : (h k : Held V E K) (found : List FoundWord) → Finds h k found → (holder k).number ≡ (holder h).number
  finds_number h k found f = ap (λ v. v.number) f.holder

  pub finds_on : (h k m : Held V E K) (f g : List FoundWord) → Finds h k f → Finds k m g → Finds h m (g ++ f)
  finds_on h k m f g s t = record {
    seat = t.seat ∙ s.seat;
    turn = t.turn ∙ s.turn;
    holder =
        t.holder
        ∙ (ap (λ v. with_found (with_holding v (Holds (taken k) (words m))) (g ++ v.found)) s.holder
        ∙ ((λ i. with_found (with_holding (holder h) (Holds (finds_taken h k f s i) (words m))) (g ++ (f ++ (holder h).found)))
        ∙ (λ i. with_found (with_holding (holder h) (Holds (taken h) (words m))) (sym (append_assoc g f (holder h).found) i))));
    ranges = t.ranges ∙ s.ranges;
  }

-- a call on the same holding, after the words were read
module _ {V E : Type 0} {K : Ghosts V E} where
  pub finds_same : (h k m : Held V E K) (f : List FoundWord) → Finds h k f → SameHolder k m → m.ranges ≡ k.ranges → Finds h m f
  finds_same h k m f s t ranges = record {
    seat = t.seat ∙ s.seat;
    turn = t.turn ∙ s.turn;
    holder =
        t.holder
        ∙ (ap (λ v. with_holding v (Holds (taken k) (words m))) s.holder
        ∙ (λ i. with_found (with_holding (holder h) (Holds (finds_taken h k f s i) (words m))) (f ++ (holder h).found)));
    ranges = ranges ∙ s.ranges;
  }

-- ---- what is swept

swept_append : (g f : List FoundWord) (s : ServerState) → swept (g ++ f) s ≡ swept g (swept f s)
swept_append [] f s = refl
swept_append (x ∷ g) f s = λ i. cond x.set (swept_append g f s i) (rested x.seat (swept_append g f s i))

pub swept_none : (own : ℕ) (s : ServerState) → IsSwept own s s []
swept_none own s = record { value = refl; journal = refl; options = refl; connected = refl; listed = refl; stays = λ n h. refl }

pub swept_on : (own : ℕ) (a b c : ServerState) (f g : List FoundWord) → IsSwept own a b f → IsSwept own b c g → IsSwept own a c (g ++ f)
swept_on own a b c f g p q = record {
  value = q.value ∙ (ap (swept g) p.value ∙ sym (swept_append g f a));
  journal = q.journal ∙ p.journal;
  options = q.options ∙ p.options;
  connected = q.connected ∙ p.connected;
  listed = q.listed ∙ p.listed;
  stays = λ n h. let parts = neither (list_any (λ (x : FoundWord). x.seat == n) g) (list_any (λ (x : FoundWord). x.seat == n) f) (sym (list_any-append (λ (x : FoundWord). x.seat == n) g f) ∙ h) in q.stays n parts.0 ∙ p.stays n parts.1;
}

-- one whose seat goes on
pub swept_goes_on : (own seat : ℕ) (s : ServerState) → IsSwept own s s (found_word seat true ∷ [])
swept_goes_on own seat s = record { value = refl; journal = refl; options = refl; connected = refl; listed = refl; stays = λ n h. refl }

-- ---- one that has ended

find_others : (seat n : ℕ) (ws : List RunningTask) → eqb seat n ≡ false → find (is_of n) (others seat ws) ≡ find (is_of n) ws
find_others seat n [] ne = refl
find_others seat n (w ∷ ws) ne = elim (eqb w.seat seat) as (λ b. eqb w.seat seat ≡ b → find (is_of n) (cond (not b) (w ∷ others seat ws) (others seat ws)) ≡ cond (eqb w.seat n) (Some w) (find (is_of n) ws)) [
  | true ↦ λ e. find_others seat n ws ne ∙ sym (ap (λ b. cond b (Some w) (find (is_of n) ws)) (ap (λ k. eqb k n) (eqb-true w.seat seat e) ∙ ne))
  | false ↦ λ e. ap (λ o. cond (eqb w.seat n) (Some w) o) (find_others seat n ws ne)
] refl

go_tasks : (on there : Bool) (number : ℕ) (held : Kept) (s : ServerState) → (go_on on there number held s).tasks ≡ s.tasks
go_tasks true there number held s = refl
go_tasks false true number held s = refl
go_tasks false false number held s = refl

find_rested : (seat n : ℕ) (s : ServerState) → MayStrike seat s → eqb seat n ≡ false → find (is_of n) (rested seat s).tasks.items ≡ find (is_of n) s.tasks.items
find_rested seat n s u ne = ap (λ (x : ServerState). find (is_of n) x.tasks.items) (struck_is seat s u) ∙ (ap (λ t. find (is_of n) t.items) (go_tasks _ _ u.work.chain.number u.chain.held (with_user_less u.serial (without_task_of seat s))) ∙ find_others seat n s.tasks.items ne)

pub swept_ended : (m : Moment) (words : List ℕ) (own seat : ℕ) (s : ServerState) → MayStrike seat s → seat ≢ own → IsRested m words seat s (rested seat s) → IsSwept own s (rested seat s) (found_word seat false ∷ [])
swept_ended m words own seat s u ne r = record {
  value = refl;
  journal = r.journal;
  options = r.options;
  connected = r.connected;
  listed = r.listed own (λ e. ne (sym e));
  stays = λ n h. find_rested seat n s u (neither (eqb seat n) false h).0;
}

pub one_listed : (cs : Chained) (n : ℕ) (ws : List RunningTask) (w : RunningTask) → are_distinct (map (λ w. w.seat) ws) ≡ true → find (is_of n) ws ≡ Some w → listed_for n (map (listed_in cs) ws) ≡ listed_in cs w ∷ []
one_listed cs n [] w d h = absurd (none-some w h)
one_listed cs n (x ∷ ws) w d h =
    let parts = distinct_parts x.seat (map (λ (w : RunningTask). w.seat) ws) d in
    elim (eqb x.seat n) as (λ b. eqb x.seat n ≡ b → cond b (Some x) (find (is_of n) ws) ≡ Some w → cond b (listed_in cs x ∷ listed_for n (map (listed_in cs) ws)) (listed_for n (map (listed_in cs) ws)) ≡ listed_in cs w ∷ []) [
      | true ↦ λ e f. (λ i. listed_in cs (same_Some x w f i) ∷ none_with n ws (subst (λ k. list_any (λ m. m == k) (map (λ (w : RunningTask). w.seat) ws) ≡ false) (eqb-true x.seat n e) parts.0) i)
      | false ↦ λ e f. one_listed cs n ws w parts.1 f
    ] refl h
  where
    none_with : (n : ℕ) (ws : List RunningTask) → list_any (λ m. m == n) (map (λ (w : RunningTask). w.seat) ws) ≡ false → listed_for n (map (listed_in cs) ws) ≡ []
    none_with n [] k = refl
    none_with n (w ∷ ws) k = let t = neither (w.seat == n) (list_any (λ m. m == n) (map (λ (w : RunningTask). w.seat) ws)) k in ap (λ b. cond b (listed_in cs w ∷ listed_for n (map (listed_in cs) ws)) (listed_for n (map (listed_in cs) ws))) t.0 ∙ none_with n ws t.1

pub seat_there : (seat : ℕ) (ws : List RunningTask) (w : RunningTask) → find (is_of seat) ws ≡ Some w → w.seat ≡ seat
seat_there seat [] w h = absurd (none-some w h)
seat_there seat (x ∷ ws) w h = elim (eqb x.seat seat) as (λ b. eqb x.seat seat ≡ b → cond b (Some x) (find (is_of seat) ws) ≡ Some w → w.seat ≡ seat) [
  | true ↦ λ e f. ap (λ (y : RunningTask). y.seat) (sym (same_Some x w f)) ∙ eqb-true x.seat seat e
  | false ↦ λ e f. seat_there seat ws w f
] refl h

-- what is listed for the seat is that stream
pub ended_listed : (m : Moment) (names : List Named) (words : List ℕ) (s : ServerState) (seat n : ℕ) → IsWhole m names words s → (t : HasTask seat s.tasks.items (task.Stream n)) → IsEnded seat (listed_for seat (tasks_of s))
ended_listed m names words s seat n h t =
    let bs = chain_blocks (chain_at t.work.chain.number s.chains) in
    (n, bs, one_listed s.chains seat s.tasks.items t.work (once_each m names words s h) t.at ∙ (λ i. record { number = seat_there seat s.tasks.items t.work t.at i; task = t.task i; blocks = task_blocks (t.task i) bs } ∷ []))

pub ended_follows : (m : Moment) (words : List ℕ) (n seat : ℕ) (s t : ServerState) (idle : List ℕ) → FoundIdle idle seat → IsEnded seat (listed_for seat (tasks_of s)) → IsRested m words seat s t → Follows ghosts n idle s t
ended_follows m words n seat s t idle found ended r = record {
  journal = ([], ap (λ (j : Recorded). j.events) r.journal ∙ sym (append-nil s.journal.events));
  others = λ k ne. ap (λ (j : Recorded). of_seat ghosts k j.events) r.journal;
  fixed = ap (λ (o : Options). o.size ∷ o.limit ∷ o.unit ∷ o.kind ∷ []) r.options;
  connected = λ k ne. ap (λ c. list_any (λ m. m == k) c.items) r.connected;
  tasks = λ k ne. elim (eqb k seat) as (λ b. eqb k seat ≡ b → KeepsListed idle k (listed_for k (tasks_of s)) (listed_for k (tasks_of t))) [
    | true ↦ λ e. subst (λ j. KeepsListed idle j (listed_for j (tasks_of s)) (listed_for j (tasks_of t))) (sym (eqb-true k seat e)) (inr (found, ended, r.rests))
    | false ↦ λ e. inl (r.listed k (λ z. true≢false (sym (eq-eqb k seat z) ∙ e)))
  ] refl;
}

stream_in : (o : Option RunningTask) → has_stream o ≡ true → (w : RunningTask) × (n : ℕ) × (o ≡ Some w) × (w.task ≡ task.Stream n)
stream_in None h = absurd (true≢false (sym h))
stream_in (Some w) h = let t = by w.task h in (w, t.0, refl, t.1)
  where
    by : (t : Task) → is_stream t ≡ true → (n : ℕ) × (t ≡ task.Stream n)
    by task.Rest k = absurd (true≢false (sym k))
    by (task.Stream n) k = (n, refl)
    by (task.Fill n) k = absurd (true≢false (sym k))

pub has_stream_task : (s : ServerState) (seat : ℕ) → streams seat s ≡ true → (n : ℕ) × HasTask seat s.tasks.items (task.Stream n)
has_stream_task s seat is = let t = stream_in (find (is_of seat) s.tasks.items) is in (t.1, record { work = t.0; at = t.2; task = t.3 })

pub may_sweep : (m : Moment) (names : List Named) (words : List ℕ) (s : ServerState) (seat : ℕ) → IsWhole m names words s → streams seat s ≡ true → MayStrike seat s
may_sweep m names words s seat h is = let t = has_stream_task s seat is in may_strike m names words s seat h t.0 t.1

pub may_rest_swept : (m : Moment) (names : List Named) (words : List ℕ) (s : ServerState) (seat : ℕ) → IsWhole m names words s → streams seat s ≡ true → MayRest seat s
may_rest_swept m names words s seat h is = record { once = once_each m names words s h; task = inr (may_sweep m names words s seat h is) }

-- ---- one seat

pub record Swept (h k : Held ServerState Event ghosts) (seat : ℕ) : Type 0 where
  pub stands : MayRelease k
  pub swept : (found : List FoundWord) × Finds h k found × IsSwept (holder h).number h.value k.value found × ReadsOne (holder h).number seat h.value found

pub not_read : (h : Held ServerState Event ghosts) (x : ServerState) (seat : ℕ) → MayRelease h → x ≡ h.value → (seat ≢ (holder h).number → streams seat h.value ≡ true → ⊥) → Swept h (with_value h x) seat
not_read h x seat st same none =
    subst (λ y. Swept h (with_value h y) seat) (sym same)
    (record { stands = st; swept = ([], finds_nothing h h.value st.held, swept_none (holder h).number h.value, record { each = tt; all = λ ne is. absurd (none ne is) }) })

pub goes_on : (h k : Held ServerState Event ghosts) (seat : ℕ) → MayRelease h → seat ≢ (holder h).number → streams seat h.value ≡ true → Reads h k seat true → Swept h k seat
goes_on h k seat st ne is r =
    record {
      stands = reads_stands h k seat true st r;
      swept = (
        found_word seat true ∷ [],
        reads_finds h k seat true st.held r,
        subst (λ x. IsSwept (holder h).number h.value x (found_word seat true ∷ [])) (sym r.value) (swept_goes_on (holder h).number seat h.value),
        record { each = ((refl, ne, is), tt); all = λ _ _. ap (λ b. b || false) (eq-eqb seat seat refl) },
      );
    }

pub has_ended : (h k : Held ServerState Event ghosts) (seat : ℕ) (x : ServerState) → MayRelease h → seat ≢ (holder h).number → streams seat h.value ≡ true → Reads h k seat false → x ≡ rested seat k.value → IsDirectory x.dir → Swept h (with_value k x) seat
has_ended h k seat x st ne is r rests valid =
    let s = h.value in
    let stands = reads_stands h k seat false st r in
    let is_k : streams seat k.value ≡ true = ap (streams seat) r.value ∙ is in
    let sound = stands.sound in
    let u = may_sweep (at_rest hash) sound.0 (words k) k.value seat sound.1 is_k in
    let may = may_rest_swept (at_rest hash) sound.0 (words k) k.value seat sound.1 is_k in
    let rs = rested_sound (words k) k.value seat sound may (subst (λ (y : ServerState). IsDirectory y.dir) rests valid) in
    let own = has_stream_task k.value seat is_k in
    let ended = ended_listed (at_rest hash) sound.0 (words k) k.value seat own.0 sound.1 own.1 in
    let idle : FoundIdle (idle_of (holder k).found) seat = subst (λ l. FoundIdle l seat) (sym (ap (λ v. idle_of v.found) r.found)) (λ m. m.0 refl) in
    let new = value_stands k (rested seat k.value) stands rs.1 (ended_follows (at_rest hash) (words k) (holder k).number seat k.value (rested seat k.value) (idle_of (holder k).found) idle ended rs.0) in
    let done : IsSwept (holder h).number k.value (rested seat k.value) (found_word seat false ∷ []) = swept_ended (at_rest hash) (words k) (holder h).number seat k.value u ne rs.0 in
    record {
      stands = subst (λ y. MayRelease (with_value k y)) (sym rests) new.0;
      swept = (
        found_word seat false ∷ [],
        finds_value h k (found_word seat false ∷ []) x (reads_finds h k seat false st.held r),
        subst (λ (p : ServerState × ServerState). IsSwept (holder h).number p.0 p.1 (found_word seat false ∷ [])) (λ i. (r.value i, sym rests i)) done,
        record { each = ((refl, ne, is), tt); all = λ _ _. ap (λ b. b || false) (eq-eqb seat seat refl) },
      );
    }

-- ---- the task at one place

abbrev seat_of : RunningTask → ℕ
seat_of w = w.seat

-- where it is taken out, those in front of it stay
take_others : (n i : ℕ) (ws : List RunningTask) (w : RunningTask) → are_distinct (map seat_of ws) ≡ true → slice_get ws i ≡ Some w → w.seat ≡ n → take i (others n ws) ≡ take i ws
take_others n i [] w d h e = absurd (none-some w h)
take_others n zero (x ∷ xs) w d h e = refl
take_others n (suc i) (x ∷ xs) w d h e =
    let parts = distinct_parts x.seat (map seat_of xs) d in
    let ne : x.seat ≢ n = λ z. true≢false (sym (is_among seat_of n i xs w h e) ∙ subst (λ k. list_any (λ m. m == k) (map seat_of xs) ≡ false) z parts.0) in
    ap (λ b. take (suc i) (cond (not b) (x ∷ others n xs) (others n xs))) (ne_eqb x.seat n ne) ∙ ap (λ l. x ∷ l) (take_others n i xs w parts.1 h e)

front_rested : (n i : ℕ) (s : ServerState) (w : RunningTask) → MayStrike n s → are_distinct (map seat_of s.tasks.items) ≡ true → slice_get s.tasks.items i ≡ Some w → w.seat ≡ n → take i (rested n s).tasks.items ≡ take i s.tasks.items
front_rested n i s w u d h e = ap (λ (x : ServerState). take i x.tasks.items) (struck_is n s u) ∙ (ap (λ t. take i t.items) (go_tasks _ _ u.work.chain.number u.chain.held (with_user_less u.serial (without_task_of n s))) ∙ take_others n i s.tasks.items w d h e)

some_at : (i : ℕ) (ws : List RunningTask) → i < length ws → (w : RunningTask) × (slice_get ws i ≡ Some w)
some_at i [] lt = absurd (omega (arith, lt))
some_at zero (w ∷ ws) lt = (w, refl)
some_at (suc i) (w ∷ ws) lt = some_at i ws (omega (arith, lt))

stream_of : (o : Option RunningTask) (seat : ℕ) → stream_seat o ≡ Some seat → (w : RunningTask) × (o ≡ Some w) × (is_stream w.task ≡ true) × (w.seat ≡ seat)
stream_of None seat h = absurd (none-some seat h)
stream_of (Some w) seat h = elim (is_stream w.task) as (λ b. is_stream w.task ≡ b → cond b (Some w.seat) None ≡ Some seat → (x : RunningTask) × (◌≡◌ {A = Option RunningTask} (Some w) (Some x)) × (is_stream x.task ≡ true) × (x.seat ≡ seat)) [
  | true ↦ λ e f. (w, refl, e, same_Some w.seat seat f)
  | false ↦ λ e f. absurd (none-some seat f)
] refl h

no_stream : (w : RunningTask) → stream_seat (Some w) ≡ None → is_stream w.task ≡ false
no_stream w h = elim (is_stream w.task) as (λ b. cond b (Some w.seat) None ≡ None → b ≡ false) [
  | true ↦ λ f. absurd (none-some w.seat (sym f))
  | false ↦ λ f. refl
] h

pub once_in : (h : Held ServerState Event ghosts) → MayRelease h → are_distinct (map seat_of h.value.tasks.items) ≡ true
once_in h st = let sound = st.sound in once_each (at_rest hash) sound.0 (words h) h.value sound.1

-- a stream stands there
pub record HasStreamAt (index seat : ℕ) (s : ServerState) : Type 0 where
  pub work : RunningTask
  pub at : slice_get s.tasks.items index ≡ Some work
  pub named : work.seat ≡ seat
  pub is : streams seat s ≡ true

pub stream_there : (h : Held ServerState Event ghosts) (index seat : ℕ) → MayRelease h → stream_seat (slice_get h.value.tasks.items index) ≡ Some seat → HasStreamAt index seat h.value
stream_there h index seat st is =
    let t = stream_of (slice_get h.value.tasks.items index) seat is in
    record { work = t.0; at = t.1; named = t.3; is = ap has_stream (at_found seat_of seat index h.value.tasks.items t.0 (once_in h st) t.1 t.3) ∙ t.2 }

seat_in : (j : Journal) (cs : List EntryChain) (n : ℕ) (ws : List RunningTask) (w : RunningTask) → AllByRecursion (SeatTaskIsSound j cs) (map work_in ws) → find (is_of n) ws ≡ Some w → IsSeat n
seat_in j cs n [] w all h = absurd (none-some w h)
seat_in j cs n (x ∷ ws) w all h = elim (eqb x.seat n) as (λ b. eqb x.seat n ≡ b → cond b (Some x) (find (is_of n) ws) ≡ Some w → IsSeat n) [
  | true ↦ λ e f. subst IsSeat (eqb-true x.seat n e) all.0.seat
  | false ↦ λ e f. seat_in j cs n ws w all.1 f
] refl h

pub few_there : (h : Held ServerState Event ghosts) (seat : ℕ) → MayRelease h → streams seat h.value ≡ true → (0 < seat) × (seat ≤ word_seats)
few_there h seat st is =
    let sound = st.sound in
    let w = stream_in (find (is_of seat) h.value.tasks.items) is in
    let seated = seat_in h.value.journal.events (plain sound.0 h.value).chains seat h.value.tasks.items w.0 sound.1.sound.tasks.each w.2 in
    (omega (arith, seated.low), omega (arith, seated.high))

pub record SweptAt (h k : Held ServerState Event ghosts) (index : ℕ) : Type 0 where
  pub stands : MayRelease k
  pub swept : (found : List FoundWord) × Finds h k found × IsSwept (holder h).number h.value k.value found × ReadsAt (holder h).number index h.value k.value found

swept_there : (h k : Held ServerState Event ghosts) (index : ℕ) (w : RunningTask) → slice_get h.value.tasks.items index ≡ Some w → Swept h k w.seat → take index k.value.tasks.items ≡ take index h.value.tasks.items → SweptAt h k index
swept_there h k index w at s front = record { stands = s.stands; swept = (s.swept.0, s.swept.1, s.swept.2, record { work = w; at = at; reads = s.swept.3; front = front }) }

front_same : (index : ℕ) (x y : ServerState) → x ≡ y → take index x.tasks.items ≡ take index y.tasks.items
front_same index x y same = ap (λ (z : ServerState). take index z.tasks.items) same

pub none_at : (h : Held ServerState Event ghosts) (x : ServerState) (index : ℕ) → MayRelease h → x ≡ h.value → index < length h.value.tasks.items → stream_seat (slice_get h.value.tasks.items index) ≡ None → SweptAt h (with_value h x) index
none_at h x index st same within none =
    let t = some_at index h.value.tasks.items within in
    let w = t.0 in
    let still : is_stream w.task ≡ false = no_stream w (ap stream_seat (sym t.1) ∙ none) in
    let found = at_found seat_of w.seat index h.value.tasks.items w (once_in h st) t.1 refl in
    swept_there h (with_value h x) index w t.1 (not_read h x w.seat st same (λ ne is. true≢false (sym is ∙ (ap has_stream found ∙ still)))) (front_same index x h.value same)

pub own_at : (h : Held ServerState Event ghosts) (x : ServerState) (index seat : ℕ) → MayRelease h → x ≡ h.value → stream_seat (slice_get h.value.tasks.items index) ≡ Some seat → seat ≡ (holder h).number → SweptAt h (with_value h x) index
own_at h x index seat st same is own =
    let t = stream_there h index seat st is in
    swept_there h (with_value h x) index t.work t.at (not_read h x t.work.seat st same (λ ne _. absurd (ne (t.named ∙ own)))) (front_same index x h.value same)

pub goes_on_at : (h k : Held ServerState Event ghosts) (index seat : ℕ) → MayRelease h → seat ≢ (holder h).number → stream_seat (slice_get h.value.tasks.items index) ≡ Some seat → Reads h k seat true → SweptAt h k index
goes_on_at h k index seat st ne is r =
    let t = stream_there h index seat st is in
    swept_there h k index t.work t.at (subst (Swept h k) (sym t.named) (goes_on h k seat st ne t.is r)) (front_same index k.value h.value r.value)

pub ended_at : (h k : Held ServerState Event ghosts) (index seat : ℕ) (x : ServerState) → MayRelease h → seat ≢ (holder h).number → stream_seat (slice_get h.value.tasks.items index) ≡ Some seat → Reads h k seat false → x ≡ rested seat k.value → IsDirectory x.dir → SweptAt h (with_value k x) index
ended_at h k index seat x st ne is r rests valid =
    let t = stream_there h index seat st is in
    let sound = st.sound in
    let u = may_sweep (at_rest hash) sound.0 (words h) h.value seat sound.1 t.is in
    let front : take index x.tasks.items ≡ take index h.value.tasks.items =
    front_same index x (rested seat h.value) (rests ∙ ap (rested seat) r.value) ∙ front_rested seat index h.value t.work u (once_in h st) t.at t.named in
    swept_there h (with_value k x) index t.work t.at (subst (Swept h (with_value k x)) (sym t.named) (has_ended h k seat x st ne t.is r rests valid)) front

-- ---- the whole list

got : (i : ℕ) (xs : List RunningTask) → slice_get (take (suc i) xs) i ≡ slice_get xs i
got i [] = refl
got zero (x ∷ xs) = refl
got (suc i) (x ∷ xs) = got i xs

took : (i : ℕ) (xs : List RunningTask) → take i (take (suc i) xs) ≡ take i xs
took zero xs = refl
took (suc i) [] = refl
took (suc i) (x ∷ xs) = ap (λ l. x ∷ l) (took i xs)

front_within : (i : ℕ) (xs ys : List RunningTask) → take i xs ≡ take i ys → i ≤ length ys → i ≤ length xs
front_within zero xs ys same le = omega arith
front_within (suc i) [] [] same le = le
front_within (suc i) [] (y ∷ ys) same le = absurd cc
front_within (suc i) (x ∷ xs) [] same le = absurd (omega (arith, le))
front_within (suc i) (x ∷ xs) (y ∷ ys) same le = omega (arith, front_within i xs ys (ap (drop 1) same) (omega (arith, le)))

find_more : (n i : ℕ) (xs : List RunningTask) (w : RunningTask) → slice_get xs i ≡ Some w → eqb w.seat n ≡ false → find (is_of n) (take i xs) ≡ None → find (is_of n) (take (suc i) xs) ≡ None
find_more n i [] w h ne none = absurd (none-some w h)
find_more n zero (x ∷ xs) w h ne none = ap (λ b. cond b (Some x) None) (ap (λ (y : RunningTask). eqb y.seat n) (same_Some x w h) ∙ ne)
find_more n (suc i) (x ∷ xs) w h ne none = elim (eqb x.seat n) as (λ b. cond b (Some x) (find (is_of n) (take i xs)) ≡ None → cond b (Some x) (find (is_of n) (take (suc i) xs)) ≡ None) [
  | true ↦ λ f. f
  | false ↦ λ f. find_more n i xs w h ne f
] none

pub reads_start : (own index : ℕ) (s t : ServerState) → index ≡ length t.tasks.items → t ≡ s → ReadsBehind own index s t []
reads_start own index s t long same = record {
  within = omega (arith, long);
  front = front_same index t s same;
  each = tt;
  all = λ n ne is none.
      let all_of : take index s.tasks.items ≡ s.tasks.items = take_all index s.tasks.items (omega (arith, long, ap (λ (x : ServerState). length x.tasks.items) same)) in
      absurd (true≢false (sym is ∙ ap has_stream (ap (find (is_of n)) (sym all_of) ∙ none)));
}

-- one place more
pub reads_next : (own i j : ℕ) (s t m : ServerState) (f g : List FoundWord) → j ≡ suc i → are_distinct (map seat_of s.tasks.items) ≡ true → are_distinct (map seat_of t.tasks.items) ≡ true → ReadsBehind own j s t f → ReadsAt own i t m g → ReadsBehind own i s m (g ++ f)
reads_next own i j s t m f g next once_s once_t b o =
    let w = o.work in
    let front : take (suc i) t.tasks.items ≡ take (suc i) s.tasks.items = subst (λ k. take k t.tasks.items ≡ take k s.tasks.items) next b.front in
    let front_i : take i t.tasks.items ≡ take i s.tasks.items = sym (took i t.tasks.items) ∙ (ap (take i) front ∙ took i s.tasks.items) in
    let there : slice_get s.tasks.items i ≡ Some w = sym (sym (got i t.tasks.items) ∙ (ap (λ l. slice_get l i) front ∙ got i s.tasks.items)) ∙ o.at in
    let same : streams w.seat t ≡ streams w.seat s = ap has_stream (at_found seat_of w.seat i t.tasks.items w once_t o.at refl ∙ sym (at_found seat_of w.seat i s.tasks.items w once_s there refl)) in
    record {
      within = front_within i m.tasks.items t.tasks.items o.front (omega (arith, b.within, next));
      front = o.front ∙ front_i;
      each = both_all (λ f. (f.seat ≢ own) × (streams f.seat s ≡ true)) g f (each_of w same g o.reads.each) b.each;
      all = λ n ne is none. elim (eqb w.seat n) as (λ b. eqb w.seat n ≡ b → list_any (λ x. x.seat == n) (g ++ f) ≡ true) [
        | true ↦ λ e. let z : w.seat ≡ n = eqb-true w.seat n e in subst (λ k. list_any (λ x. x.seat == k) (g ++ f) ≡ true) z (any_append (λ x. x.seat == w.seat) g f (o.reads.all (subst (λ k. k ≢ own) (sym z) ne) (same ∙ subst (λ k. streams k s ≡ true) (sym z) is)))
        | false ↦ λ e. list_any-append (λ (x : FoundWord). x.seat == n) g f
            ∙ or_right (list_any (λ (x : FoundWord). x.seat == n) g) (list_any (λ (x : FoundWord). x.seat == n) f) (b.all n ne is (subst (λ k. find (is_of n) (take k s.tasks.items) ≡ None) (sym next) (find_more n i s.tasks.items w there e none)))
      ] refl;
    }
  where
    or_right : (a b : Bool) → b ≡ true → (a || b) ≡ true
    or_right true b h = refl
    or_right false b h = h

    both_all : (P : FoundWord → Type 0) (xs ys : List FoundWord) → AllByRecursion P xs → AllByRecursion P ys → AllByRecursion P (xs ++ ys)
    both_all P [] ys h k = k
    both_all P (x ∷ xs) ys h k = (h.0, both_all P xs ys h.1 k)

    each_of : (w : RunningTask) → streams w.seat t ≡ streams w.seat s → (xs : List FoundWord) → AllByRecursion (λ f. (f.seat ≡ w.seat) × (f.seat ≢ own) × (streams f.seat t ≡ true)) xs → AllByRecursion (λ f. (f.seat ≢ own) × (streams f.seat s ≡ true)) xs
    each_of w same [] h = tt
    each_of w same (x ∷ xs) h = ((h.0.1, subst (λ k. streams k s ≡ true) (sym h.0.0) (sym same ∙ subst (λ k. streams k t ≡ true) h.0.0 h.0.2)), each_of w same xs h.1)

pub reads_end : (own i : ℕ) (s t : ServerState) (found : List FoundWord) → i ≡ 0 → ReadsBehind own i s t found → ReadsStreams own s found
reads_end own i s t found none b = record { each = b.each; all = λ n ne is. b.all n ne is (ap (λ k. find (is_of n) (take k s.tasks.items)) none) }

-- ---- what a call asked before, it still has

pub next_swept : (h k : Held ServerState Event ghosts) (who : Who) (found : List FoundWord) → Finds h k found → IsSwept (holder h).number h.value k.value found → IsNext h who → IsNext k who
next_swept h k who found f sw n =
    let number = sym (finds_number h k found f) in
    record {
      session = n.session ∙ (λ i. number i - 1);
      number = n.number ∙ (λ i. event_count (sym sw.journal i).events who.session + 1);
      connected = subst (λ (p : ℕ × Reserved ℕ). list_any (λ m. m == p.0) p.1.items ≡ true) (λ i. (number i, sym sw.connected i)) n.connected;
      free = subst (λ j. listed_for j (tasks_of k.value) ≡ []) number (sw.listed ∙ n.free);
    }

pub spare_swept : (own : ℕ) (s t : ServerState) (found : List FoundWord) → IsSwept own s t found → HasSpare s → HasSpare t
spare_swept own s t found sw room = subst (λ (j : Recorded). reserved (cache j.events) < j.spare) (sym sw.journal) room
