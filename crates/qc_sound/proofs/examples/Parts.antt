-- The parts of soundness on small cases: what passes and what doesn't.
use Rattle.std.proofs.Common.{◌≡◌, ℕ, List, [], ◌∷◌, true, false, refl, arith}
use Rattle.std.specs.Prelude.{codes, Some, None}
use Rattle.qc_types.specs.declared.names.TableName.{TableName}
use Rattle.qc_types.specs.declared.options.Options.{Options}
use Rattle.qc_model.specs.declared.events.Who.{Who}
use Rattle.qc_model.specs.declared.events.Event.{Event}
use Rattle.qc_model.specs.declared.events.Event.TheVariants as event
use Rattle.qc_model.specs.declared.events.How.TheVariants as how
use Rattle.qc_model.specs.declared.events.GoneWhy.TheVariants as gone
use Rattle.qc_model.specs.Journal.{Journal}
use Rattle.qc_model.specs.Cache.{Entry}
use Rattle.qc_tiles.specs.declared.blocks.Block.{Block}
use Rattle.qc_tiles.specs.Tiles.{tile, free_tile}
use Rattle.qc_turn.specs.declared.task.Task.TheVariants as task
use Rattle.qc_sound.specs.PlainServer.{StoredEntry, EntryChain, SeatTask, blocks_at, blocks_of, has_chain, is_wanted, listed, session_of}
use Rattle.qc_sound.specs.Ended.{is_ended}
use Rattle.qc_sound.specs.Pending.{next_or}
use Rattle.qc_sound.specs.parts.Journal.{reserved}
use Rattle.qc_sound.specs.parts.Memory.{ChainFits, are_once, pinned_blocks}
use Rattle.qc_sound.specs.parts.Contents.{text_of}
use Rattle.qc_sound.specs.parts.Tasks.{IsSeat, TaskIsSound}
use Rattle.qc_sound.specs.Laws.{free_blocks, taken_blocks}

abbrev block : ℕ → Block
block first = record { first = first; words = 64 }

abbrev chains : List EntryChain
chains = record { serial = 4; blocks = block 64 ∷ block 192 ∷ [] } ∷ record { serial = 7; blocks = block 128 ∷ [] } ∷ []

abbrev entry : ℕ → StoredEntry
entry n = record { serial = n; hash = 0; text = block 0; text_bytes = 9; tables = []; bytes = 0; complete = true; users = 0 }

abbrev streams : ℕ → ℕ → SeatTask
streams seat n = record { seat = seat; task = task.Stream n }

-- ---- chains and tasks

of_four : blocks_at 4 chains ≡ block 64 ∷ block 192 ∷ []
of_four = refl

of_none : blocks_at 5 chains ≡ []
of_none = refl

fill_has_blocks : blocks_of chains (task.Fill 7) ≡ block 128 ∷ []
fill_has_blocks = refl

rest_has_none : blocks_of chains task.Rest ≡ []
rest_has_none = refl

-- the session of the second seat is session 1
second_seat : session_of 2 ≡ 1
second_seat = refl

-- an entry wants its chain, and so does a task; else nobody does
by_entry : is_wanted (entry 4 ∷ []) [] 4 ≡ true
by_entry = refl

by_task : is_wanted (entry 4 ∷ []) (streams 2 7 ∷ []) 7 ≡ true
by_task = refl

by_nobody : is_wanted (entry 4 ∷ []) (streams 2 7 ∷ []) 5 ≡ false
by_nobody = refl

-- ---- the journal

-- an entry that isn't complete may still have two events
three_events : reserved (record { serial = 1; key = []; tables = []; complete = true } ∷ record { serial = 2; key = []; tables = []; complete = false } ∷ []) ≡ 3
three_events = refl

-- the event behind the prunes, or the one to come
behind_prunes : next_or None (event.Prune 1 64 0 ∷ event.Done 3 ∷ []) ≡ Some (event.Done 3)
behind_prunes = refl

still_to_come : next_or (Some (event.Done 3)) (event.Prune 1 64 0 ∷ []) ≡ Some (event.Done 3)
still_to_come = refl

-- ---- the blocks

one_is_pinned : pinned_blocks (tile 0 64 false true ∷ tile 64 64 false false ∷ free_tile 128 64 ∷ []) ≡ block 0 ∷ []
one_is_pinned = refl

-- handed out and in no task
taken_are : taken_blocks (tile 0 64 false true ∷ tile 64 64 false false ∷ free_tile 128 64 ∷ []) (record { number = 2; task = task.Stream 1; blocks = block 0 ∷ [] } ∷ []) ≡ block 64 ∷ []
taken_are = refl

free_are : free_blocks (tile 0 64 false true ∷ free_tile 64 64 ∷ []) ≡ block 64 ∷ []
free_are = refl

abbrev t : ℕ → TableName
t n = record { db = codes "d"; name = n ∷ [] }

two_tables : are_once (t 1 ∷ t 2 ∷ []) ≡ true
two_tables = refl

one_twice : are_once (t 1 ∷ t 2 ∷ t 1 ∷ []) ≡ false
one_twice = refl

-- a chain without blocks fits no journal
no_block : (o : Options) (j : Journal) → ChainFits o j (record { serial = 1; blocks = [] }) → ⊥
no_block o j h = absurd (omega (arith, h.first))

-- ---- what words spell

-- the low byte of a word first, and no more bytes than are asked for
three_bytes : text_of (0 ∷ 513 ∷ 7 ∷ []) (record { first = 1; words = 2 } ∷ []) 3 ≡ 1 ∷ 2 ∷ 0 ∷ []
three_bytes = refl

over_two_blocks : text_of (7 ∷ 0 ∷ 9 ∷ []) (record { first = 2; words = 1 } ∷ record { first = 0; words = 1 } ∷ []) 9 ≡ 9 ∷ 0 ∷ 0 ∷ 0 ∷ 0 ∷ 0 ∷ 0 ∷ 0 ∷ 7 ∷ []
over_two_blocks = refl

-- ---- seats and tasks

last_seat : IsSeat 65
last_seat = record { low = omega arith; high = omega arith }

one_too_many : IsSeat 66 → ⊥
one_too_many h = absurd (omega (arith, h.high))

no_seat : IsSeat 0 → ⊥
no_seat h = absurd (omega (arith, h.low))

abbrev story : Journal
story = event.Run (record { session = 1; number = 1 }) (how.Start 1 [] []) ∷ event.Run (record { session = 2; number = 1 }) (how.Hit 1) ∷ []

-- session 1 has started the entry, and it hasn't ended
fills : TaskIsSound story 2 (task.Fill 1)
fills = (refl, refl)

-- another session's start is none of its own
fills_not : TaskIsSound story 3 (task.Fill 1) → ⊥
fills_not h = absurd (cc h.0)

streams_it : TaskIsSound story 3 (task.Stream 1)
streams_it = refl

not_yet : is_ended 1 story ≡ false
not_yet = refl

given_up : is_ended 1 (event.Gone 1 gone.Ended ∷ []) ≡ true
given_up = refl

no_rest : TaskIsSound story 2 task.Rest → ⊥
no_rest h = h
