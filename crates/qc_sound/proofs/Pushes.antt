-- One more event keeps a server sound.
use Rattle.std.proofs.Common.{◌≡◌, ℕ, ◌+◌, ◌-◌, ◌<◌, ◌≤◌, Bool, true, false, cond, List, [], ◌∷◌, ◌++◌, length, refl, sym, ap, subst, ◌∙◌, arith, append_assoc}
use Rattle.std.specs.Prelude.{◌||◌, ◌&&◌, Option, Some, None, if◌then◌else◌}
use Rattle.std.specs.List.{list_all, AllByRecursion, AllZip}
use Rattle.std.proofs.lemmas.List.Folds.{list_any-append}
use Rattle.qc_types.specs.declared.options.Options.{Options}
use Rattle.qc_sql.specs.Database.{apply}
use Rattle.qc_model.specs.declared.events.Event.{Event}
use Rattle.qc_model.specs.declared.events.Event.TheVariants as event
use Rattle.qc_model.specs.declared.events.How.TheVariants as how
use Rattle.qc_model.specs.Journal.{Journal, is_by, last_of, present, operations}
use Rattle.qc_model.specs.Cache.{cache}
use Rattle.qc_model.specs.Session.{answer}
use Rattle.qc_model.specs.Licence.{IsLawful, IsLicensed, starts_serial}
use Rattle.qc_laws.specs.sizes.Operations.{is_small_event, is_small_operation}
use Rattle.qc_laws.specs.history.Runs.{IsStarted}
use Rattle.qc_sound.specs.Ended.{is_ended, ends_fill}
use Rattle.qc_laws.proofs.history.Events.{present_push, cache_push, lawful_push, all_on}
use Rattle.qc_turn.specs.declared.task.Task.{Task}
use Rattle.qc_turn.specs.declared.task.Task.TheVariants as task
use Rattle.qc_sound.specs.PlainServer.{PlainServer, EntryChain, SeatTask, session_of}
use Rattle.qc_sound.specs.Moment.{Moment}
use Rattle.qc_sound.specs.parts.Journal.{JournalIsSound, reserved}
use Rattle.qc_sound.specs.parts.Directory.{IsStoredAs}
use Rattle.qc_sound.specs.parts.Memory.{ChainFits}
use Rattle.qc_sound.specs.parts.Contents.{IsSpelled}
use Rattle.qc_sound.specs.parts.Tasks.{TaskIsSound, SeatTaskIsSound, HitsSerial}
use Rattle.qc_sound.specs.Sound.{IsSound}
use Rattle.qc_sound.specs.steps.Events.{IsQuiet, OfNone, pushed, QuietSteps}
use Rattle.qc_sound.proofs.Lists.{zip_on, both_true}
use Rattle.qc_sound.specs.Pending.{NeedsOf}

last_push : (found : Option Event) (s : ℕ) (j : Journal) (e : Event) → is_by s e ≡ false → last_of found s (j ++ e ∷ []) ≡ last_of found s j
last_push found s [] e h = ap (λ b. cond b (Some e) found) h
last_push found s (x ∷ j) e h = last_push (if is_by s x then Some x else found) s j e h

pub ended_push : (n : ℕ) (j : Journal) (e : Event) → ends_fill n e ≡ false → is_ended n (j ++ e ∷ []) ≡ is_ended n j
ended_push n j e h = list_any-append (ends_fill n) j (e ∷ []) ∙ (ap (λ b. is_ended n j || (b || false)) h ∙ or_false (is_ended n j))
  where
    or_false : (b : Bool) → (b || (false || false)) ≡ b
    or_false true = refl
    or_false false = refl

-- the event ends no fill of the task
abbrev pub EndsNone : Event → Task → Type 0
EndsNone e t = (n : ℕ) → t ≡ task.Fill n → ends_fill n e ≡ false

task_push : (j : Journal) (e : Event) (seat : ℕ) (t : Task) → is_by (session_of seat) e ≡ false → EndsNone e t → TaskIsSound j seat t → TaskIsSound (j ++ e ∷ []) seat t
task_push j e seat task.Rest h none k = k
task_push j e seat (task.Stream n) h none k = subst (HitsSerial n) (sym (last_push None (session_of seat) j e h)) k
task_push j e seat (task.Fill n) h none k = (subst (λ z. starts_serial n z ≡ true) (sym (last_push None (session_of seat) j e h)) k.0, ended_push n j e (none n refl) ∙ k.1)

-- tasks stay sound, where no event is of their sessions and none ends their fills
pub tasks_on : (j : Journal) (e : Event) (cs : List EntryChain) (ws : List SeatTask) → OfNone e ws → AllByRecursion (λ w. EndsNone e w.task) ws → AllByRecursion (SeatTaskIsSound j cs) ws → AllByRecursion (SeatTaskIsSound (j ++ e ∷ []) cs) ws
tasks_on j e cs [] h none k = tt
tasks_on j e cs (w ∷ ws) h none k = (record { seat = k.0.seat; task = task_push j e w.seat w.task h.0 none.0 k.0.task; chained = k.0.chained }, tasks_on j e cs ws h.1 none.1 k.1)

pub each_of : {A : Type 0} (P : A → Type 0) (xs : List A) → ((x : A) → P x) → AllByRecursion P xs
each_of P [] f = tt
each_of P (x ∷ xs) f = (f x, each_of P xs f)

pub tasks_push : (j : Journal) (e : Event) (cs : List EntryChain) (ws : List SeatTask) → OfNone e ws → ((n : ℕ) → ends_fill n e ≡ false) → AllByRecursion (SeatTaskIsSound j cs) ws → AllByRecursion (SeatTaskIsSound (j ++ e ∷ []) cs) ws
tasks_push j e cs ws h none k = tasks_on j e cs ws h (each_of (λ w. EndsNone e w.task) ws (λ w n _. none n)) k

abbrev pub started_push : (j : Journal) (n : ℕ) (e : Event) → IsStarted j n → IsStarted (j ++ e ∷ []) n
started_push j n e s = record {
  who = s.who;
  key = s.key;
  tables = s.tables;
  earlier = s.earlier;
  later = s.later ++ e ∷ [];
  split = ap (λ l. l ++ e ∷ []) s.split ∙ append_assoc s.earlier (event.Run s.who (how.Start n s.key s.tables) ∷ s.later) (e ∷ []);
}

pub fits_push : (o : Options) (j : Journal) (e : Event) (c : EntryChain) → ChainFits o j c → ChainFits o (j ++ e ∷ []) c
fits_push o j e c h = record { first = h.first; small = h.small; full = h.full; start = started_push j c.serial e h.start; needed = h.needed }

small_more : (j : Journal) (e : Event) → list_all is_small_event j ≡ true → is_small_event e ≡ true → list_all is_small_event (j ++ e ∷ []) ≡ true
small_more [] e h k = ap (λ b. b && true) k
small_more (x ∷ j) e h k =
    let parts = both_true (is_small_event x) (list_all is_small_event j) h in
    ap (λ b. b && list_all is_small_event (j ++ e ∷ [])) parts.0 ∙ small_more j e parts.1 k

-- the journal part, after an event
pub journal_push : (moment : Moment) (next : Option Event) (s t : PlainServer) (e : Event) → JournalIsSound moment s → IsLicensed s.options s.journal e → is_small_event e ≡ true → NeedsOf s.options next (s.journal ++ e ∷ [])
    → t.options ≡ s.options → t.journal ≡ s.journal ++ e ∷ [] → t.database ≡ apply (operations e) s.database → reserved (cache (s.journal ++ e ∷ [])) ≤ t.spare → JournalIsSound (record moment { next = next }) t
journal_push moment next s t e h licensed small needs o j d room =
    let lawful : IsLawful s.options (s.journal ++ e ∷ []) = lawful_push s.options s.journal e h.lawful licensed in
    record {
      lawful = subst (λ z. IsLawful z t.journal) (sym o) (subst (λ z. IsLawful s.options z) (sym j) lawful);
      small = subst (λ z. list_all is_small_event z ≡ true) (sym j) (small_more s.journal e h.small small);
      needs = subst (λ z. NeedsOf z next t.journal) (sym o) (subst (λ z. NeedsOf s.options next z) (sym j) needs);
      database = d ∙ (ap (apply (operations e)) h.database ∙ (sym (present_push s.journal e) ∙ ap present (sym j)));
      room = subst (λ z. reserved (cache z) ≤ t.spare) (sym j) room;
    }

-- an event without operations is small
pub small_none : (e : Event) → operations e ≡ [] → is_small_event e ≡ true
small_none e h = ap (λ ops. list_all is_small_operation ops) h

-- chains fit by a longer journal
pub chains_push : (o : Options) (j : Journal) (e : Event) (cs : List EntryChain) → AllByRecursion (ChainFits o j) cs → AllByRecursion (ChainFits o (j ++ e ∷ [])) cs
chains_push o j e cs h = all_on (ChainFits o j) (ChainFits o (j ++ e ∷ [])) cs (λ c. fits_push o j e c) h

pub quiet_step : QuietSteps
quiet_step moment next words s e h quiet licensed needs none room =
    let cached : cache (s.journal ++ e ∷ []) ≡ cache s.journal = cache_push s.journal e ∙ quiet.same_cache (cache s.journal) in
    let now : present (s.journal ++ e ∷ []) ≡ present s.journal = present_push s.journal e ∙ ap (λ l. apply l (present s.journal)) quiet.no_operations in
    let m = h.memory in
    record {
      rounded = h.rounded;
      region = h.region;
      journal = journal_push moment next s (pushed e s) e h.journal licensed (small_none e quiet.no_operations) needs refl refl (ap (λ l. apply l s.database) (sym quiet.no_operations))
          (subst (λ c. reserved c ≤ s.spare - 1) (sym cached) (omega (arith, room)));
      directory = subst (AllZip (IsStoredAs moment.hash) s.entries) (sym cached) h.directory;
      memory = record {
        tiles = record { tiling = m.tiles.tiling; in_use = m.tiles.in_use; pinned = m.tiles.pinned };
        tables = record { named = m.tables.named; once = m.tables.once; words = m.tables.words };
        chains = record { apart = m.chains.apart; entered = m.chains.entered; wanted = m.chains.wanted; fitting = chains_push s.options s.journal e s.chains m.chains.fitting; uncut = m.chains.uncut };
        texts = m.texts;
      };
      contents = subst (AllZip (IsSpelled words s.chains (s.journal ++ e ∷ [])) s.entries) (sym cached)
          (zip_on (IsSpelled words s.chains s.journal) (IsSpelled words s.chains (s.journal ++ e ∷ [])) s.entries (cache s.journal) (λ x y p. record { key = p.key; kept_answer = λ c. ap (answer y.key) now ∙ p.kept_answer c }) h.contents);
      tasks = record { connected = h.tasks.connected; one_each = h.tasks.one_each; filled = h.tasks.filled; each = tasks_push s.journal e s.chains s.tasks none quiet.no_end h.tasks.each; users = h.tasks.users };
    }
