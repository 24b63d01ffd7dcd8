-- A seat that rests: what may be struck off, and what the lock sees of it.
use Rattle.std.proofs.Common.{◌≡◌, ◌≢◌, ℕ, zero, suc, ◌-◌, ◌<◌, eq-eqb, ne_eqb, Bool, true, false, cond, List, [], ◌∷◌, map, refl, sym, ap, subst, ◌∙◌, arith, true≢false, inl, inr, ⊎_elim, append-nil}
use Rattle.std.specs.Prelude.{not, ◌==◌, Option, Some, None, IfSome, find, slice_get, count_by, IsSomeAnd}
use Rattle.std.specs.List.{list_any}
use Rattle.std.proofs.lemmas.List.Sums.{sum_by-cons}
use Rattle.std.proofs.lemmas.Option.{none-some, same_Some}
use Rattle.qc_key.specs.Hash.{hash}
use Rattle.qc_laws.specs.history.Runs.{are_distinct}
use Rattle.qc_laws.proofs.history.Serials.{neither, both_true, opposite}
use Rattle.qc_chain.specs.Chains.{Chained}
use Rattle.qc_dir.specs.declared.entries.Entry.{Entry}
use Rattle.qc_dir.specs.Directory.{IsDirectory, entry_at, after_leave}
use Rattle.qc_turn.specs.declared.task.ListedTask.{ListedTask}
use Rattle.qc_turn.specs.declared.task.Task.{Task}
use Rattle.qc_turn.specs.declared.task.Task.TheVariants as task
use Rattle.qc_turn.specs.Tasks.{listed_for, IsListed, IsEnded}
use Rattle.qc_types.specs.declared.options.Options.{Options}
use Rattle.qc_journal.specs.Room.{Recorded}
use Rattle.qc_turn.specs.Views.{of_seat}
use Rattle.qc_turn.specs.Releases.{Follows}
use Rattle.qc_sound.specs.PlainServer.{SeatTask, serial_of, is_stored}
use Rattle.qc_sound.specs.Moment.{Moment, at_rest}
use Rattle.qc_sound.specs.parts.Tasks.{is_stream_of}
use Rattle.qc_core.specs.declared.server_state.RunningTask.{RunningTask}
use Rattle.qc_core.specs.declared.server_state.ServerState.{ServerState}
use Rattle.qc_core.specs.contracts.server.ServerKept.TheImpl.{ghosts}
use Rattle.qc_core.specs.Whole.{Named, IsNamedAs, stored, work_in, listed_in, plain, tasks_of, IsWhole, Sound}
use Rattle.qc_core.specs.TaskEnd.{is_of, MayStrike, MayRest, rested_by, rested}
use Rattle.qc_core.proofs.Uses.{find_all, serial_at, stored_at}
use Rattle.qc_core.proofs.Letting.{may_let_go}
use Rattle.qc_core.proofs.Cutting.{whole_blocks}
use Rattle.qc_core.proofs.Seating.{is_among}
use Rattle.qc_core.proofs.Struck.{IsRested, once_each, struck_dir, struck_whole}

-- ---- what is listed for the seat

head_same : {A : Type 0} (a b : A) (xs ys : List A) → a ∷ xs ≡ b ∷ ys → a ≡ b
head_same a b xs ys h = cc

none_of : (cs : Chained) (n : ℕ) (ws : List RunningTask) → listed_for n (map (listed_in cs) ws) ≡ [] → find (is_of n) ws ≡ None
none_of cs n [] h = refl
none_of cs n (w ∷ ws) h = elim (w.seat == n) as (λ b. cond b (listed_in cs w ∷ listed_for n (map (listed_in cs) ws)) (listed_for n (map (listed_in cs) ws)) ≡ [] → cond b (Some w) (find (is_of n) ws) ≡ None) [
  | true ↦ λ e. absurd cc
  | false ↦ λ e. none_of cs n ws e
] h

pub none_for : (cs : Chained) (n : ℕ) (ws : List RunningTask) → find (is_of n) ws ≡ None → listed_for n (map (listed_in cs) ws) ≡ []
none_for cs n [] h = refl
none_for cs n (w ∷ ws) h = elim (w.seat == n) as (λ b. cond b (Some w) (find (is_of n) ws) ≡ None → cond b (listed_in cs w ∷ listed_for n (map (listed_in cs) ws)) (listed_for n (map (listed_in cs) ws)) ≡ []) [
  | true ↦ λ e. absurd (none-some w (sym e))
  | false ↦ λ e. none_for cs n ws e
] h

-- the one task of the seat
pub record HasTask (n : ℕ) (ws : List RunningTask) (t : Task) : Type 0 where
  pub work : RunningTask
  pub at : find (is_of n) ws ≡ Some work
  pub task : work.task ≡ t

pub one_of : (cs : Chained) (n : ℕ) (ws : List RunningTask) (t : ListedTask) → listed_for n (map (listed_in cs) ws) ≡ t ∷ [] → HasTask n ws t.task
one_of cs n [] t h = absurd cc
one_of cs n (w ∷ ws) t h = elim (w.seat == n) as (λ b. (w.seat == n) ≡ b → cond b (listed_in cs w ∷ listed_for n (map (listed_in cs) ws)) (listed_for n (map (listed_in cs) ws)) ≡ t ∷ [] → HasTask n (w ∷ ws) t.task) [
  | true ↦ λ e k. record { work = w; at = ap (λ b. cond b (Some w) (find (is_of n) ws)) e; task = ap (λ (x : ListedTask). x.task) (head_same (listed_in cs w) t (listed_for n (map (listed_in cs) ws)) [] k) }
  | false ↦ λ e k. let r = one_of cs n ws t k in record { work = r.work; at = ap (λ b. cond b (Some w) (find (is_of n) ws)) e ∙ r.at; task = r.task }
] refl h

-- a stream is one of those on its serial
some_stream : (n seat : ℕ) (ws : List RunningTask) (w : RunningTask) → find (is_of seat) ws ≡ Some w → w.task ≡ task.Stream n → 0 < count_by (λ w. is_stream_of n w.task) (map work_in ws)
some_stream n seat [] w h is = absurd (none-some w h)
some_stream n seat (x ∷ ws) w h is =
    let sum = sum_by-cons (λ (w : SeatTask). cond (is_stream_of n w.task) 1 0) (work_in x) (map work_in ws) in
    elim (x.seat == seat) as (λ b. cond b (Some x) (find (is_of seat) ws) ≡ Some w → 0 < count_by (λ w. is_stream_of n w.task) (map work_in (x ∷ ws))) [
      | true ↦ λ e. let one : ◌≡◌ {A = ℕ} (cond (is_stream_of n x.task) 1 0) 1 = ap (λ t. cond (is_stream_of n t) 1 0) (ap (λ (y : RunningTask). y.task) (same_Some x w e) ∙ is) ∙ ap (λ b. cond b 1 0) (eq-eqb n n refl) in omega (arith, sum, one)
      | false ↦ λ e. omega (arith, sum, some_stream n seat ws w e is)
    ] h

-- ---- what may be struck off

module _ (m : Moment) (names : List Named) (words : List ℕ) (s : ServerState) (seat : ℕ) (h : IsWhole m names words s) where
  has_user : (n : ℕ) (w : RunningTask) → find (is_of seat) s.tasks.items ≡ Some w → w.task ≡ task.Stream n → IfSome (entry_at n s.dir.entries) (λ e. 0 < e.users)
  has_user n w at is = by (entry_at n s.dir.entries) refl
    where
      by : (o : Option Entry) → entry_at n s.dir.entries ≡ o → IfSome o (λ e. 0 < e.users)
      by None f = tt
      by (Some e) f =
          let users = find_all _ (is_stored n) (plain names s).entries (stored s.chains e) h.sound.tasks.users (stored_at s.chains n s.dir.entries e f) in
          let many = subst (λ k. e.users ≡ count_by (λ (w : SeatTask). is_stream_of k w.task) (plain names s).tasks) (serial_at n s.dir.entries e f) users in
          omega (arith, many, some_stream n seat s.tasks.items w at is)

  pub may_strike : (n : ℕ) → HasTask seat s.tasks.items (task.Stream n) → MayStrike seat s
  may_strike n t =
      let named = subst (λ o. IfSome o (λ k. IsNamedAs names k t.work.chain.number)) (ap serial_of t.task) (find_all (λ w. IfSome (serial_of w.task) (λ k. IsNamedAs names k w.chain.number)) (is_of seat) s.tasks.items t.work h.named.tasks t.at) in
      record { work = t.work; serial = n; at = t.at; ends = inl t.task; used = has_user n t.work t.at t.task; chain = may_let_go m names s n t.work.chain.number (whole_blocks m names words s h) named }

  -- a stream of the seat that has ended is struck off
  may_strike_listed : IsEnded seat (listed_for seat (tasks_of s)) → MayStrike seat s
  may_strike_listed e = may_strike e.0 (one_of s.chains seat s.tasks.items _ e.2)

  pub may_rest : IsListed seat task.Rest [] (listed_for seat (tasks_of s)) → MayRest seat s
  may_rest listed = record {
    once = once_each m names words s h;
    task = ⊎_elim (λ (e : listed_for seat (tasks_of s) ≡ []). inl (none_of s.chains seat s.tasks.items e)) (λ (e : (task.Rest ≡ task.Rest) × IsEnded seat (listed_for seat (tasks_of s))). inr (may_strike_listed e.1)) listed;
  }

  -- the directory after the call is valid, whichever way it went
  pub rested_whole : MayRest seat s → IsDirectory (rested seat s).dir → IsRested m words seat s (rested seat s)
  rested_whole r valid = ⊎_elim
      (λ (e : find (is_of seat) s.tasks.items ≡ None). subst (IsRested m words seat s) (sym (ap (λ o. rested_by seat o s) e)) (record { under = names; whole = h; rests = none_for s.chains seat s.tasks.items e; listed = λ k ne. refl; journal = refl; options = refl; connected = refl }))
      (λ (u : MayStrike seat s). struck_whole m names words s seat h u (subst IsDirectory (struck_dir seat s u) valid))
      r.task

-- ---- for the lock

pub rested_follows : (m : Moment) (words : List ℕ) (seat : ℕ) (s t : ServerState) (idle : List ℕ) → IsRested m words seat s t → Follows ghosts seat idle s t
rested_follows m words seat s t idle r = record {
  journal = ([], ap (λ j. j.events) r.journal ∙ sym (append-nil s.journal.events));
  others = λ k ne. ap (λ (j : Recorded). of_seat ghosts k j.events) r.journal;
  fixed = ap (λ (o : Options). o.size ∷ o.limit ∷ o.unit ∷ o.kind ∷ []) r.options;
  connected = λ k ne. ap (λ c. list_any (λ m. m == k) c.items) r.connected;
  tasks = λ k ne. inl (r.listed k ne);
}

-- ---- what the code did

pub at_found : {T : Type 0} (f : T → ℕ) (n i : ℕ) (xs : List T) (x : T) → are_distinct (map f xs) ≡ true → slice_get xs i ≡ Some x → f x ≡ n → find (λ y. f y == n) xs ≡ Some x
at_found f n i [] x d h e = absurd (none-some x h)
at_found f n zero (y ∷ xs) x d h e = ap (λ b. cond b (Some y) (find (λ z. f z == n) xs)) (eq-eqb (f y) n (ap f (same_Some y x h) ∙ e)) ∙ ap Some (same_Some y x h)
at_found f n (suc i) (y ∷ xs) x d h e =
    let parts = both_true (not (list_any (λ m. m == f y) (map f xs))) (are_distinct (map f xs)) d in
    let ne : f y ≢ n = λ z. true≢false (sym (is_among f n i xs x h e) ∙ subst (λ k. list_any (λ m. m == k) (map f xs) ≡ false) z (opposite _ parts.0)) in
    ap (λ b. cond b (Some y) (find (λ z. f z == n) xs)) (ne_eqb (f y) n ne) ∙ at_found f n i xs x parts.1 h e

pub none_found : {T : Type 0} (p : T → Bool) (xs : List T) → list_any p xs ≡ false → find p xs ≡ None
none_found p [] h = refl
none_found p (x ∷ xs) h = let t = neither (p x) (list_any p xs) h in ap (λ b. cond b (Some x) (find p xs)) t.0 ∙ none_found p xs t.1

pub leave_none : (n : ℕ) (es : List Entry) → entry_at n es ≡ None → after_leave n es ≡ es
leave_none n [] h = refl
leave_none n (e ∷ es) h = elim (e.serial == n) as (λ b. cond b (Some e) (entry_at n es) ≡ None → cond b (record e { users = e.users - 1 }) e ∷ after_leave n es ≡ e ∷ es) [
  | true ↦ λ f. absurd (none-some e (sym f))
  | false ↦ λ f. ap (λ l. e ∷ l) (leave_none n es f)
] h

pub some_and : {A : Type 0} (o : Option A) (P : A → Type 0) → IsSomeAnd o P → (x : A) × (o ≡ Some x) × P x
some_and None P h = absurd h
some_and (Some x) P h = (x, refl, h)

-- the server when the own stream was struck off, at rest
pub rested_sound : (words : List ℕ) (s : ServerState) (seat : ℕ) → Sound words s → MayRest seat s → IsDirectory (rested seat s).dir → (t : IsRested (at_rest hash) words seat s (rested seat s)) × Sound words (rested seat s)
rested_sound words s seat sound r valid =
    let t = rested_whole (at_rest hash) sound.0 words s seat sound.1 r valid in
    (t, (t.under, t.whole))
