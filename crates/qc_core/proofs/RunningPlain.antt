-- A SELECT runs plain, and nothing else changes.
use Rattle.std.proofs.Common.{◌≡◌, ℕ, ◌+◌, ◌-◌, ◌<◌, List, [], refl}
use Rattle.std.specs.Prelude.{None}
use Rattle.qc_key.specs.Hash.{hash}
use Rattle.qc_model.specs.declared.events.Who.{Who}
use Rattle.qc_model.specs.declared.events.Event.TheVariants as event
use Rattle.qc_model.specs.declared.events.How.TheVariants as how
use Rattle.qc_model.specs.declared.events.Reason.{Reason}
use Rattle.qc_model.specs.declared.events.Reason.TheVariants as reason
use Rattle.qc_model.specs.Journal.{event_count}
use Rattle.qc_model.specs.Licence.{MayHaveReason}
use Rattle.qc_turn.specs.Tasks.{listed_for}
use Rattle.qc_sound.specs.Moment.{at_rest}
use Rattle.qc_sound.specs.steps.Events.{IsQuiet, NeedsOwn}
use Rattle.qc_sound.proofs.Needs.{needs_push}
use Rattle.qc_sound.proofs.Pushes.{quiet_step}
use Rattle.qc_core.specs.declared.server_state.ServerState.{ServerState}
use Rattle.qc_core.specs.Whole.{plain, tasks_of, with_event, Sound}
use Rattle.qc_core.specs.Calls.{HasSpare}
use Rattle.qc_core.specs.PlainRun.{MayRunPlain}
use Rattle.qc_core.proofs.Noting.{alone}

-- any reason that is licensed, also that of a start
pub plain_sound : (words : List ℕ) (s : ServerState) (who : Who) (why : Reason) (seat : ℕ) → Sound words s → 0 < seat → who.session ≡ seat - 1 → who.number ≡ event_count s.journal.events who.session + 1
    → listed_for seat (tasks_of s) ≡ [] → MayHaveReason s.options s.journal.events who why → NeedsOwn (event.Run who (how.Plain why)) → HasSpare s → Sound words (with_event (event.Run who (how.Plain why)) s)
plain_sound words s who why seat sound ps is number free may needs room =
    let w = sound.1 in
    let e = event.Run who (how.Plain why) in
    let a = alone words sound.0 _ s who e seat w ps refl is number free in
    let quiet : IsQuiet e = record { same_cache = λ es. refl; no_operations = refl; no_end = λ n. refl; needs = needs } in (
      sound.0,
      record {
        named = record { begun = w.named.begun; numbers = w.named.numbers; entries = w.named.entries; tasks = w.named.tasks };
        sound = quiet_step (at_rest hash) None words (plain sound.0 s) e w.sound quiet (a.decides, may) (needs_push s.options s.journal.events e w.sound.journal.needs quiet.needs) a.none room;
        directory = w.directory;
        seats = record { once = w.seats.once; room = w.seats.room; task_room = w.seats.task_room };
        room = record { entries = w.room.entries; tables = w.room.tables; chains = w.room.chains; unpinner = w.room.unpinner };
      },
    )

pub licensed : (s : ServerState) (who : Who) (why : Reason) → MayRunPlain s who why → MayHaveReason s.options s.journal.events who why
licensed s who (reason.Error code) h = h
licensed s who reason.Off h = h
licensed s who reason.NotAsked h = h
licensed s who (reason.Rule why) h = h
licensed s who (reason.Written t) h = h
licensed s who (reason.NotVisible t changed snapshot) h = h
licensed s who (reason.Rival n) h = h
licensed s who (reason.NoRoom need largest) h = absurd h

pub no_need : (s : ServerState) (who : Who) (why : Reason) → MayRunPlain s who why → NeedsOwn (event.Run who (how.Plain why))
no_need s who (reason.Error code) h = tt
no_need s who reason.Off h = tt
no_need s who reason.NotAsked h = tt
no_need s who (reason.Rule why) h = tt
no_need s who (reason.Written t) h = tt
no_need s who (reason.NotVisible t changed snapshot) h = tt
no_need s who (reason.Rival n) h = tt
no_need s who (reason.NoRoom need largest) h = absurd h
