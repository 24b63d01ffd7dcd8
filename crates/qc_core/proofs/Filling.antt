-- A seat that fills an entry, and how its fill ends.
use Rattle.std.proofs.Common.{◌≡◌, ℕ, ◌<◌, Bool, true, false, cond, List, [], ◌∷◌, ◌++◌, refl, sym, ap, subst, ◌∙◌, true≢false, inl, inr, append-nil}
use Rattle.std.specs.Prelude.{◌||◌, ◌==◌, Option, Some, None, IfSome, IsSomeAnd, is_some, find, option_map}
use Rattle.std.specs.List.{list_any, AllZip}
use Rattle.std.proofs.lemmas.List.Elements.{filter-append}
use Rattle.qc_types.specs.declared.options.Options.{Options}
use Rattle.qc_laws.specs.history.Runs.{IsStarted, IsKept}
use Rattle.qc_laws.proofs.history.Events.{found_all}
use Rattle.qc_laws.proofs.history.Stays.{answers_stay, is_serial}
use Rattle.qc_model.specs.declared.events.Who.{Who}
use Rattle.qc_model.specs.declared.events.Event.{Event}
use Rattle.qc_model.specs.declared.events.Event.TheVariants as event
use Rattle.qc_model.specs.declared.events.GoneWhy.{GoneWhy}
use Rattle.qc_model.specs.Journal.{decider}
use Rattle.qc_model.specs.Cache.{cache, entry_of, is_entry}
use Rattle.qc_model.specs.Cache.{Entry as Cached}
use Rattle.qc_model.specs.Licence.{IsLicensed, MayGiveUp}
use Rattle.qc_tiles.specs.declared.blocks.Block.{Block}
use Rattle.qc_dir.specs.declared.entries.Entry.{Entry}
use Rattle.qc_dir.specs.Directory.{entry_at}
use Rattle.qc_turn.specs.declared.kept.Kept.{Ghosts}
use Rattle.qc_turn.specs.declared.task.Task.TheVariants as task
use Rattle.qc_turn.specs.Tasks.{listed_for, own}
use Rattle.qc_turn.specs.Views.{names, of_seat}
use Rattle.qc_turn.specs.Releases.{Follows}
use Rattle.qc_sound.specs.PlainServer.{StoredEntry, serial_of, is_stored}
use Rattle.qc_sound.specs.Moment.{Moment}
use Rattle.qc_sound.specs.Ended.{is_ended}
use Rattle.qc_sound.specs.parts.Directory.{IsStoredAs}
use Rattle.qc_sound.specs.parts.Memory.{ChainFits}
use Rattle.qc_sound.specs.parts.Tasks.{TaskIsSound, SeatTaskIsSound}
use Rattle.qc_sound.proofs.Laws.{completed_ended}
use Rattle.qc_core.specs.declared.server_state.ServerState.{ServerState}
use Rattle.qc_core.specs.contracts.server.ServerKept.TheImpl.{ghosts}
use Rattle.qc_core.specs.Whole.{Named, IsNamedAs, chain_in, work_in, plain, tasks_of, IsWhole}
use Rattle.qc_core.specs.TaskEnd.{is_of, MayRest}
use Rattle.qc_core.specs.FillEnd.{Fills, EndsFill}
use Rattle.qc_core.specs.OvertakenFill.{WasOvertaken}
use Rattle.qc_core.proofs.Uses.{find_all}
use Rattle.qc_core.proofs.Remaining.{chain_found}
use Rattle.qc_core.proofs.Striking.{found_in, there_in}
use Rattle.qc_core.proofs.Letting.{may_let_go}
use Rattle.qc_core.proofs.Cutting.{whole_blocks}
use Rattle.qc_core.proofs.Struck.{once_each}
use Rattle.qc_core.proofs.Resting.{one_of}

-- ---- the directory and the cache have the same serials

zip_any : (f : List ℕ → ℕ) (n : ℕ) (xs : List StoredEntry) (ys : List Cached) → AllZip (IsStoredAs f) xs ys → list_any (is_stored n) xs ≡ list_any (is_entry n) ys
zip_any f n [] [] h = refl
zip_any f n [] (y ∷ ys) h = absurd h
zip_any f n (x ∷ xs) [] h = absurd h
zip_any f n (x ∷ xs) (y ∷ ys) h = λ i. (h.0.serial i == n) || zip_any f n xs ys h.1 i

any_find : {A : Type 0} (p : A → Bool) (xs : List A) → list_any p xs ≡ is_some (find p xs)
any_find p [] = refl
any_find p (x ∷ xs) = elim (p x) as (λ b. (b || list_any p xs) ≡ is_some (cond b (Some x) (find p xs))) [ true ↦ refl | false ↦ any_find p xs ]

pub there_same : (m : Moment) (names : List Named) (words : List ℕ) (s : ServerState) (n : ℕ) → IsWhole m names words s → is_some (entry_at n s.dir.entries) ≡ is_some (entry_of n (cache s.journal.events))
there_same m names words s n h = there_in s.chains n s.dir.entries ∙ (zip_any m.hash n (plain names s).entries (cache s.journal.events) h.sound.directory ∙ any_find (is_entry n) (cache s.journal.events))

pub none_of : {A : Type 0} (o : Option A) → is_some o ≡ false → o ≡ None
none_of None h = refl
none_of (Some x) h = absurd (true≢false h)

pub some_of : {A : Type 0} (o : Option A) → is_some o ≡ true → (x : A) × (o ≡ Some x)
some_of None h = absurd (true≢false (sym h))
some_of (Some x) h = (x, refl)

-- ---- the fill that is listed

pub fills_of : (s : ServerState) (seat n : ℕ) (bs : List Block) → listed_for seat (tasks_of s) ≡ own seat (task.Fill n) bs → Fills seat n s
fills_of s seat n bs h = let t = one_of s.chains seat s.tasks.items (record { number = seat; task = task.Fill n; blocks = bs }) h in record { work = t.work; at = t.at; fill = t.task }

module _ (m : Moment) (names : List Named) (words : List ℕ) (s : ServerState) (seat n : ℕ) (h : IsWhole m names words s) (f : Fills seat n s) where
  sound_task : TaskIsSound s.journal.events f.work.seat (task.Fill n)
  sound_task = subst (TaskIsSound s.journal.events f.work.seat) f.fill (find_all (SeatTaskIsSound s.journal.events (plain names s).chains) _ (plain names s).tasks (work_in f.work) h.sound.tasks.each (found_in seat s.tasks.items f.work f.at)).task

  pub unended : is_ended n s.journal.events ≡ false
  unended = sound_task.1

  pub named_n : IsNamedAs names n f.work.chain.number
  named_n = subst (λ o. IfSome o (λ k. IsNamedAs names k f.work.chain.number)) (ap serial_of f.fill) (find_all (λ w. IfSome (serial_of w.task) (λ k. IsNamedAs names k w.chain.number)) (is_of seat) s.tasks.items f.work h.named.tasks f.at)

  pub started : IsStarted s.journal.events n
  started = (find_all (ChainFits s.options s.journal.events) (λ c. c.serial == n) (plain names s).chains (chain_in s.chains (record { serial = n; number = f.work.chain.number })) h.sound.memory.chains.fitting (chain_found s.chains n _ names named_n)).start

  -- the entry is there: it isn't complete
  pub partial : (y : Cached) → entry_of n (cache s.journal.events) ≡ Some y → y.complete ≡ false
  partial y at = by y.complete refl
    where
      by : (b : Bool) → y.complete ≡ b → y.complete ≡ false
      by false e = e
      by true e =
          let kept = found_all (IsKept s.journal.events) (is_entry n) (cache s.journal.events) y (answers_stay s.options s.journal.events h.sound.journal.lawful) at in
          let ended = subst (λ i. is_ended i s.journal.events ≡ true) (is_serial n y kept.1) (completed_ended y.serial s.journal.events (kept.0.ended e)) in
          absurd (true≢false (sym ended ∙ unended))

  pub gone_licensed : (why : GoneWhy) → is_some (entry_at n s.dir.entries) ≡ true → MayGiveUp s.options s.journal.events n why → IsLicensed s.options s.journal.events (event.Gone n why)
  gone_licensed why there may =
      let y = some_of (entry_of n (cache s.journal.events)) (sym (there_same m names words s n h) ∙ there) in
      (subst (λ o. IsSomeAnd o (λ (y : Cached). y.complete ≡ false)) (sym y.1) (partial y.0 y.1), may)

  -- the entry has left
  module _ (left : entry_at n s.dir.entries ≡ None) where
    pub was_overtaken : WasOvertaken s.journal.events n
    was_overtaken = record {
      options = s.options;
      lawful = h.sound.journal.lawful;
      start = started;
      filling = unended;
      left = none_of (entry_of n (cache s.journal.events)) (sym (there_same m names words s n h) ∙ ap is_some left);
    }

    pub may_rest_fill : MayRest seat s
    may_rest_fill = record {
      once = once_each m names words s h;
      task = inr (record {
        work = f.work;
        serial = n;
        at = f.at;
        ends = inr (f.fill, left);
        used = subst (λ (o : Option Entry). IfSome o (λ e. 0 < e.users)) (sym left) tt;
        chain = may_let_go m names s n f.work.chain.number (whole_blocks m names words s h) named_n;
      });
    }

-- ---- for the lock

module _ {V E : Type 0} (K : Ghosts V E) where
  of_seat_free : (k : ℕ) (es : List E) (e : E) → K.session e ≡ None → of_seat K k (es ++ e ∷ []) ≡ of_seat K k es
  of_seat_free k es e is =
      let off : names (K.session e) k ≡ false = ap (λ o. names o k) is in
      filter-append (λ x. names (K.session x) k) es (e ∷ []) ∙ (ap (λ b. of_seat K k es ++ cond b (e ∷ []) []) off ∙ append-nil (of_seat K k es))

pub ends_follows : (e : Event) (seat : ℕ) (words : List ℕ) (s t : ServerState) (idle : List ℕ) → decider e ≡ None → EndsFill e seat words s t → Follows ghosts seat idle s t
ends_follows e seat words s t idle free r = record {
  journal = (e ∷ [], r.events);
  others = λ k ne. ap (of_seat ghosts k) r.events ∙ of_seat_free ghosts k s.journal.events e (ap (λ o. option_map (λ (w : Who). w.session) o) free);
  fixed = ap (λ (o : Options). o.size ∷ o.limit ∷ o.unit ∷ o.kind ∷ []) r.options;
  connected = λ k ne. ap (λ c. list_any (λ m. m == k) c.items) r.connected;
  tasks = λ k ne. inl (r.listed k ne);
}
