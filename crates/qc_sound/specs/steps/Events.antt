-- One more event that changes nothing of the cache or of the database.
use Rattle.std.specs.Prelude.{◌≡◌, ℕ, ◌-◌, ◌<◌, ◌≤◌, false, List, [], ◌∷◌, ◌++◌, Option}
use Rattle.std.specs.List.{AllByRecursion}
use Rattle.qc_model.specs.declared.events.Event.{Event}
use Rattle.qc_model.specs.declared.events.Event.TheVariants as event
use Rattle.qc_model.specs.declared.events.How.TheVariants as how
use Rattle.qc_model.specs.declared.events.Reason.TheVariants as reason
use Rattle.qc_model.specs.Journal.{operations, is_by}
use Rattle.qc_model.specs.Cache.{Entry, cache, after_event}
use Rattle.qc_model.specs.Licence.{IsLicensed}
use Rattle.qc_types.specs.Blocks.{least_block}
use Rattle.qc_sound.specs.PlainServer.{PlainServer, SeatTask, session_of}
use Rattle.qc_sound.specs.Moment.{Moment}
use Rattle.qc_sound.specs.Pending.{NeedsOf}
use Rattle.qc_sound.specs.Ended.{ends_fill}
use Rattle.qc_sound.specs.parts.Journal.{reserved}
use Rattle.qc_sound.specs.Sound.{IsSound}

-- what one more event asks of itself: a plain run for want of room needs a least block, and no prune is meant here
abbrev pub NeedsOwn : Event → Type 0
NeedsOwn (event.Prune n need largest) = ⊥
NeedsOwn (event.Run who (how.Plain (reason.NoRoom need largest))) = least_block ≤ need
NeedsOwn e = Unit {0}

pub record IsQuiet (e : Event) : Type 0 where
  pub same_cache : (es : List Entry) → after_event e es ≡ es
  pub no_operations : operations e ≡ []
  pub no_end : (n : ℕ) → ends_fill n e ≡ false
  pub needs : NeedsOwn e

abbrev pub pushed : Event → PlainServer → PlainServer
pushed e s = record s { journal = s.journal ++ e ∷ []; spare = s.spare - 1 }

-- none of these seats' sessions has the event
abbrev pub OfNone : Event → List SeatTask → Type 0
OfNone e tasks = AllByRecursion (λ w. is_by (session_of w.seat) e ≡ false) tasks

-- room for one event more, beside those that the entries may still have
abbrev pub HasRoom : PlainServer → Type 0
HasRoom s = reserved (cache s.journal) < s.spare

-- after the event, prunes may be meant for another one to come
abbrev pub QuietSteps : Type 0
QuietSteps = (moment : Moment) (next : Option Event) (words : List ℕ) (s : PlainServer) (e : Event) → IsSound moment words s → IsQuiet e → IsLicensed s.options s.journal e
    → NeedsOf s.options next (s.journal ++ e ∷ []) → OfNone e s.tasks → HasRoom s → IsSound (record moment { next = next }) words (pushed e s)
