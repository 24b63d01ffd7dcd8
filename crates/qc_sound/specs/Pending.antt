-- The needs of prunes while the event that they are for is still to come.
use Rattle.std.specs.Prelude.{◌≤◌, [], ◌∷◌, ◌++◌, Option, Some}
use Rattle.qc_types.specs.declared.options.Options.{Options}
use Rattle.qc_model.specs.declared.events.Event.{Event}
use Rattle.qc_model.specs.declared.events.Event.TheVariants as event
use Rattle.qc_model.specs.declared.events.How.TheVariants as how
use Rattle.qc_model.specs.declared.events.Reason.TheVariants as reason
use Rattle.qc_model.specs.Journal.{Journal}
use Rattle.qc_types.specs.Blocks.{least_block}
use Rattle.qc_model.specs.Needs.{PruneHasNeed}

-- the first event that is no prune, or else the one to come
abbrev pub next_or : Option Event → Journal → Option Event
next_or next [] = next
next_or next (event.Prune n need largest ∷ es) = next_or next es
next_or next (e ∷ es) = Some e

abbrev pub NeedsBefore : Options → Option Event → Journal → Journal → Type 0
NeedsBefore options next earlier [] = Unit {0}
NeedsBefore options next earlier (event.Prune n need largest ∷ es) = PruneHasNeed options earlier need (next_or next es) × NeedsBefore options next (earlier ++ event.Prune n need largest ∷ []) es
NeedsBefore options next earlier (event.Run who (how.Plain (reason.NoRoom need largest)) ∷ es) = (least_block ≤ need) × NeedsBefore options next (earlier ++ event.Run who (how.Plain (reason.NoRoom need largest)) ∷ []) es
NeedsBefore options next earlier (e ∷ es) = NeedsBefore options next (earlier ++ e ∷ []) es

-- with no event to come, these are the needs of a journal
abbrev pub NeedsOf : Options → Option Event → Journal → Type 0
NeedsOf options next journal = NeedsBefore options next [] journal
