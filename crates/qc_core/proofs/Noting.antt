-- Events that change nothing of the cache.
use Rattle.std.proofs.Common.{◌≡◌, ◌≢◌, ℕ, ◌+◌, ◌-◌, ◌<◌, eqb, eq-eqb, ne_eqb, true≢false, Bool, true, false, cond, List, [], ◌∷◌, map, refl, sym, ap, ◌∙◌, arith, inl}
use Rattle.std.specs.Prelude.{Some, None, option_map, ◌||◌, ◌==◌}
use Rattle.std.specs.List.{AllByRecursion, list_any}
use Rattle.qc_model.specs.declared.events.Who.{Who}
use Rattle.qc_model.specs.declared.events.Event.{Event}
use Rattle.qc_model.specs.declared.events.Event.TheVariants as event
use Rattle.qc_model.specs.declared.events.How.{How}
use Rattle.qc_model.specs.declared.events.How.TheVariants as how
use Rattle.qc_model.specs.Journal.{decider, event_count}
use Rattle.qc_model.specs.Licence.{IsLicensed, MayDecide}
use Rattle.qc_turn.specs.Tasks.{listed_for}
use Rattle.qc_turn.specs.Releases.{Follows}
use Rattle.qc_turn.proofs.Holders.{of_seat_else}
use Rattle.qc_chain.specs.Chains.{Chained}
use Rattle.qc_sound.specs.PlainServer.{session_of}
use Rattle.qc_sound.specs.PlainServer.{SeatTask}
use Rattle.qc_sound.specs.Moment.{Moment, at_rest}
use Rattle.qc_sound.specs.parts.Tasks.{SeatTaskIsSound}
use Rattle.qc_sound.specs.steps.Events.{IsQuiet, OfNone}
use Rattle.qc_sound.proofs.Pushes.{quiet_step}
use Rattle.qc_sound.proofs.Needs.{needs_push}
use Rattle.qc_sound.proofs.Grounds.{has_no_fill}
use Rattle.qc_key.specs.Hash.{hash}
use Rattle.qc_core.specs.declared.server_state.RunningTask.{RunningTask}
use Rattle.qc_core.specs.declared.server_state.ServerState.{ServerState}
use Rattle.qc_core.specs.contracts.server.ServerKept.TheImpl.{ghosts}
use Rattle.qc_core.specs.Whole.{Named, plain, listed_in, work_in, tasks_of, IsWhole, Sound, with_event}
use Rattle.qc_core.specs.Calls.{IsNoted, ChangesNothing, HasSpare}

-- ---- a seat for which nothing is listed

neither : (a b : Bool) → (a || b) ≡ false → (a ≡ false) × (b ≡ false)
neither false b h = (refl, h)
neither true b h = absurd (true≢false h)

pub none_listed : (cs : Chained) (n : ℕ) (ws : List RunningTask) → listed_for n (map (listed_in cs) ws) ≡ [] → list_any (λ m. m == n) (map (λ (w : SeatTask). w.seat) (map work_in ws)) ≡ false
none_listed cs n [] h = refl
none_listed cs n (w ∷ ws) h = elim (eqb w.seat n) as (λ b. cond b (listed_in cs w ∷ listed_for n (map (listed_in cs) ws)) (listed_for n (map (listed_in cs) ws)) ≡ [] → (b || list_any (λ m. m == n) (map (λ (w : SeatTask). w.seat) (map work_in ws))) ≡ false) [
  | true ↦ λ e. absurd cc
  | false ↦ λ e. none_listed cs n ws e
] h

-- the sessions of the others are others
sessions_else : (who : Who) (seat : ℕ) (ws : List SeatTask) (j : List Event) (cs : List _) → 0 < seat → who.session ≡ seat - 1 → list_any (λ m. m == seat) (map (λ w. w.seat) ws) ≡ false → AllByRecursion (SeatTaskIsSound j cs) ws
    → AllByRecursion (λ w. session_of w.seat ≢ who.session) ws
sessions_else who seat [] j cs ps is none all = tt
sessions_else who seat (w ∷ ws) j cs ps is none all =
    let parts = neither (eqb w.seat seat) (list_any (λ m. m == seat) (map (λ w. w.seat) ws)) none in
    let low : 0 < w.seat = all.0.seat.low in
    (λ (e : w.seat - 1 ≡ who.session). let same : w.seat ≡ seat = omega (arith, low, ps, is, e) in true≢false (sym (eq-eqb w.seat seat same) ∙ parts.0), sessions_else who seat ws j cs ps is parts.1 all.1)

none_by : (who : Who) (e : Event) (ws : List SeatTask) → decider e ≡ Some who → AllByRecursion (λ w. session_of w.seat ≢ who.session) ws → OfNone e ws
none_by who e [] d h = tt
none_by who e (w ∷ ws) d h = (rw d (ne_eqb who.session (session_of w.seat) (λ z. h.0 (sym z))), none_by who e ws d h.1)

pub record Alone (who : Who) (e : Event) (names : List Named) (s : ServerState) : Type 0 where
  pub else : AllByRecursion (λ w. session_of w.seat ≢ who.session) (map work_in s.tasks.items)
  pub none : OfNone e (map work_in s.tasks.items)
  pub decides : MayDecide s.journal.events who

pub alone : (words : List ℕ) (names : List Named) (m : Moment) (s : ServerState) (who : Who) (e : Event) (seat : ℕ) → IsWhole m names words s → 0 < seat → decider e ≡ Some who → who.session ≡ seat - 1
    → who.number ≡ event_count s.journal.events who.session + 1 → listed_for seat (tasks_of s) ≡ [] → Alone who e names s
alone words names m s who e seat h ps d is number free =
    let others = sessions_else who seat (map work_in s.tasks.items) s.journal.events _ ps is (none_listed s.chains seat s.tasks.items free) h.sound.tasks.each in
    record { else = others; none = none_by who e (map work_in s.tasks.items) d others; decides = record { next = number; not_filling = has_no_fill m words (plain names s) who.session h.sound others } }

-- ---- one more event

quiet_how : (s : ServerState) (who : Who) (h : How) → ChangesNothing s h → IsQuiet (event.Run who h)
quiet_how s who how.Other q = record { same_cache = λ es. refl; no_operations = refl; no_end = λ n. refl; needs = tt }
quiet_how s who (how.Conflict t key by) q = record { same_cache = λ es. refl; no_operations = refl; no_end = λ n. refl; needs = tt }
quiet_how s who (how.Status totals) q = record { same_cache = λ es. refl; no_operations = refl; no_end = λ n. refl; needs = tt }
quiet_how s who (how.Hit n) q = absurd q
quiet_how s who (how.Start n key tables) q = absurd q
quiet_how s who (how.Plain why) q = absurd q

may_note : (s : ServerState) (who : Who) (h : How) → ChangesNothing s h → MayDecide s.journal.events who → IsLicensed s.options s.journal.events (event.Run who h)
may_note s who how.Other q d = (d, tt)
may_note s who (how.Conflict t key by) q d = (d, q)
may_note s who (how.Status totals) q d = (d, tt)
may_note s who (how.Hit n) q d = absurd q
may_note s who (how.Start n key tables) q d = absurd q
may_note s who (how.Plain why) q d = absurd q

pub note_sound : (words : List ℕ) (s : ServerState) (who : Who) (h : How) (seat : ℕ) → Sound words s → 0 < seat → who.session ≡ seat - 1 → who.number ≡ event_count s.journal.events who.session + 1
    → listed_for seat (tasks_of s) ≡ [] → ChangesNothing s h → HasSpare s → Sound words (with_event (event.Run who h) s)
note_sound words s who h seat sound ps is number free q room =
    let w = sound.1 in
    let e = event.Run who h in
    let a = alone words sound.0 _ s who e seat w ps refl is number free in
    let quiet = quiet_how s who h q in (
      sound.0,
      record {
        named = record { begun = w.named.begun; numbers = w.named.numbers; entries = w.named.entries; tasks = w.named.tasks };
        sound = quiet_step (at_rest hash) None words (plain sound.0 s) e w.sound quiet (may_note s who h q a.decides) (needs_push s.options s.journal.events e w.sound.journal.needs quiet.needs) a.none room;
        directory = w.directory;
        seats = record { once = w.seats.once; room = w.seats.room; task_room = w.seats.task_room };
        room = record { entries = w.room.entries; tables = w.room.tables; chains = w.room.chains; unpinner = w.room.unpinner };
      },
    )

-- an event of the seat's session is none of another seat's
pub event_follows : (s : ServerState) (e : Event) (who : Who) (seat : ℕ) (quiet : List ℕ) → decider e ≡ Some who → 0 < seat → who.session ≡ seat - 1 → Follows ghosts seat quiet s (with_event e s)
event_follows s e who seat quiet d ps is = record {
  journal = (e ∷ [], refl);
  others = λ k ne. of_seat_else ghosts k s.journal.events e who.session (ap (option_map (λ (w : Who). w.session)) d) (λ z. ne (omega (arith, z, ps, is)));
  fixed = refl;
  connected = λ k ne. refl;
  tasks = λ k ne. inl refl;
}

-- what may be noted changes nothing
pub noted_nothing : (s : ServerState) (h : How) → IsNoted s h → ChangesNothing s h
noted_nothing s how.Other q = q
noted_nothing s (how.Conflict t key by) q = q
noted_nothing s (how.Status totals) q = tt
noted_nothing s (how.Hit n) q = q
noted_nothing s (how.Start n key tables) q = q
noted_nothing s (how.Plain why) q = q
