-- The needs that prunes and starts without room may have.
use Rattle.std.specs.Prelude.{◌≡◌, ℕ, ◌≤◌, max, Bool, true, not, ◌||◌, List, [], ◌∷◌, ◌++◌, length, reverse, Option, Some, None, ◌==◌, IsTrue}
use Rattle.std.specs.List.{list_any, list_all}
use Rattle.qc_types.specs.declared.options.Options.{Options}
use Rattle.qc_model.specs.declared.events.Event.{Event}
use Rattle.qc_model.specs.declared.events.Event.TheVariants as event
use Rattle.qc_model.specs.declared.events.How.TheVariants as how
use Rattle.qc_model.specs.declared.events.Reason.TheVariants as reason
use Rattle.qc_model.specs.Journal.{Journal}
use Rattle.qc_model.specs.Cache.{cache}
use Rattle.qc_model.specs.Licence.{unit_words, words_of_bytes}
use Rattle.qc_types.specs.Blocks.{least_block, raised}

-- what a start with this key asks for: a table's block, a block of its result, or one for its key
abbrev pub is_need : Options → List ℕ → ℕ → Bool
is_need options key need = need == least_block || need == raised (unit_words options) || need == raised (words_of_bytes (length key))

-- the first event that is no prune
abbrev pub next_other : Journal → Option Event
next_other [] = None
next_other (event.Prune n need largest ∷ es) = next_other es
next_other (e ∷ es) = Some e

-- a prune is for the start or for the plain run that comes next, or else for a fill that is under way
abbrev pub PruneHasNeed : Options → Journal → ℕ → Option Event → Type 0
PruneHasNeed options earlier need (Some (event.Run who (how.Start n key tables))) = is_need options key need ≡ true
PruneHasNeed options earlier need (Some (event.Run who (how.Plain (reason.NoRoom wanted largest)))) = least_block ≤ need
PruneHasNeed options earlier need other = (need ≡ raised (unit_words options)) × (list_any (λ entry. not entry.complete) (cache earlier) ≡ true)

abbrev pub NeedsFrom : Options → Journal → Journal → Type 0
NeedsFrom options earlier [] = Unit {0}
NeedsFrom options earlier (event.Prune n need largest ∷ es) = PruneHasNeed options earlier need (next_other es) × NeedsFrom options (earlier ++ event.Prune n need largest ∷ []) es
NeedsFrom options earlier (event.Run who (how.Plain (reason.NoRoom need largest)) ∷ es) = (least_block ≤ need) × NeedsFrom options (earlier ++ event.Run who (how.Plain (reason.NoRoom need largest)) ∷ []) es
NeedsFrom options earlier (e ∷ es) = NeedsFrom options (earlier ++ e ∷ []) es

-- what a journal alone says of its needs
abbrev pub HasNeeds : Options → Journal → Type 0
HasNeeds options journal = NeedsFrom options [] journal

-- the needs of the prunes at the front
abbrev pub leading_needs : List Event → List ℕ
leading_needs (event.Prune n need largest ∷ es) = need ∷ leading_needs es
leading_needs _ = []

-- a plain run for want of room, after these events, asked for what its own key needs, and so did the prunes just before it
abbrev pub HasOwnNeeds : Options → Journal → List ℕ → Event → Type 0
HasOwnNeeds options earlier key (event.Run who (how.Plain (reason.NoRoom need largest))) =
    IsTrue (list_all (is_need options key) (need ∷ leading_needs (reverse earlier)))
HasOwnNeeds options earlier key e = Unit {0}
