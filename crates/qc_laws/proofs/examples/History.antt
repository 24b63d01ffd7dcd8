-- What a journal tells of entries: where each was started, whether it was completed, what its key answers, and which tables a session sees as they are now.
use Rattle.std.proofs.Common.{◌≡◌, ℕ, List, [], ◌∷◌, ◌++◌, Bool, refl, true, false, arith}
use Rattle.std.specs.Prelude.{codes, Some, None, Option, pos}
use Rattle.qc_types.specs.declared.names.TableName.{TableName}
use Rattle.qc_types.specs.declared.names.Value.TheVariants as value
use Rattle.qc_sql.specs.declared.tables.Column.{Column}
use Rattle.qc_sql.specs.declared.tables.Kind.TheVariants as kind
use Rattle.qc_sql.specs.declared.tables.RowOp.{RowOp}
use Rattle.qc_sql.specs.declared.tables.RowOp.TheVariants as op
use Rattle.qc_model.specs.declared.events.Who.{Who}
use Rattle.qc_model.specs.declared.events.Event.{Event}
use Rattle.qc_model.specs.declared.events.Event.TheVariants as event
use Rattle.qc_model.specs.declared.events.How.TheVariants as how
use Rattle.qc_model.specs.declared.events.GoneWhy.TheVariants as gone
use Rattle.qc_model.specs.Journal.{Journal}
use Rattle.qc_model.specs.Cache.{Entry}
use Rattle.qc_model.specs.Session.{State, starting}
use Rattle.qc_laws.specs.history.Runs.{IsStarted, Stands, completes, is_completed, are_distinct, serials, are_apart}
use Rattle.qc_laws.specs.history.Seen.{is_current, IsPlace}
use Rattle.qc_laws.specs.history.Answers.{CanBeKeyed}

abbrev t : TableName
t = record { db = codes "d"; name = codes "t" }

abbrev u : TableName
u = record { db = codes "d"; name = codes "u" }

abbrev by : ℕ → ℕ → Who
by session n = record { session = session; number = n }

abbrev begins : ℕ → ℕ → ℕ → Event
begins session number n = event.Run (by session number) (how.Start n (n ∷ []) (t ∷ []))

-- Session 1 starts the entry 1, which is done, and session 2 the entry 2, which is given up. Session 2 hits the first.
abbrev story : Journal
story = begins 1 1 1 ∷ event.Done 1 ∷ begins 2 1 2 ∷ event.Gone 2 gone.Ended ∷ event.Run (by 2 2) (how.Hit 1) ∷ []

-- ---- starts

second_start : IsStarted story 2
second_start = record { who = by 2 1; key = 2 ∷ []; tables = t ∷ []; earlier = begins 1 1 1 ∷ event.Done 1 ∷ []; later = event.Gone 2 gone.Ended ∷ event.Run (by 2 2) (how.Hit 1) ∷ []; split = refl }

first_start : IsStarted story 1
first_start = record { who = by 1 1; key = 1 ∷ []; tables = t ∷ []; earlier = []; later = event.Done 1 ∷ begins 2 1 2 ∷ event.Gone 2 gone.Ended ∷ event.Run (by 2 2) (how.Hit 1) ∷ []; split = refl }

-- a hit starts nothing
no_start : IsStarted (event.Run (by 1 1) (how.Hit 1) ∷ []) 1 → ⊥
no_start s = none s.earlier s.split
  where
    none : (earlier : Journal) → event.Run (by 1 1) (how.Hit 1) ∷ [] ≡ earlier ++ event.Run s.who (how.Start 1 s.key s.tables) ∷ s.later → ⊥
    none [] e = absurd (cc e)
    none (x ∷ []) e = absurd (cc e)
    none (x ∷ y ∷ earlier) e = absurd (cc e)

-- an event of a session
hit_stands : Stands story 2 (event.Run (by 2 2) (how.Hit 1))
hit_stands = record { earlier = begins 1 1 1 ∷ event.Done 1 ∷ begins 2 1 2 ∷ event.Gone 2 gone.Ended ∷ []; later = []; split = refl; own = refl }

-- an end of an entry is no session's event
done_is_no_sessions : (n : ℕ) → Stands story n (event.Done 1) → ⊥
done_is_no_sessions n s = absurd (cc s.own)

-- the start is of session 1, and not of session 2
start_stands : Stands story 1 (begins 1 1 1)
start_stands = record { earlier = []; later = event.Done 1 ∷ begins 2 1 2 ∷ event.Gone 2 gone.Ended ∷ event.Run (by 2 2) (how.Hit 1) ∷ []; split = refl; own = refl }

start_of_another : Stands story 2 (begins 1 1 1) → ⊥
start_of_another s = absurd (cc s.own)

-- ---- entries that were completed

by_done : completes 1 (event.Done 1) ≡ true
by_done = refl

by_another : completes 1 (event.Done 2) ≡ false
by_another = refl

-- given up isn't completed
by_gone : completes 2 (event.Gone 2 gone.Ended) ≡ false
by_gone = refl

first_is_completed : is_completed 1 story ≡ true
first_is_completed = refl

second_is_not : is_completed 2 story ≡ false
second_is_not = refl

not_yet : is_completed 1 (begins 1 1 1 ∷ []) ≡ false
not_yet = refl

-- ---- numbers and keys that stand once

once : are_distinct (3 ∷ 1 ∷ 2 ∷ []) ≡ true
once = refl

twice : are_distinct (3 ∷ 1 ∷ 3 ∷ []) ≡ false
twice = refl

none : are_distinct [] ≡ true
none = refl

abbrev entry : ℕ → List ℕ → Bool → Entry
entry n key whole = record { serial = n; key = key; tables = t ∷ []; complete = whole }

numbers_of_entries : serials (entry 4 [] true ∷ entry 2 [] false ∷ []) ≡ 4 ∷ 2 ∷ []
numbers_of_entries = refl

other_keys : are_apart (entry 1 (codes "a") true ∷ entry 2 (codes "ab") true ∷ []) ≡ true
other_keys = refl

-- one key, though one of the two is still being filled
one_key : are_apart (entry 1 (codes "a") true ∷ entry 2 (codes "b") true ∷ entry 3 (codes "a") false ∷ []) ≡ false
one_key = refl

no_entries : are_apart [] ≡ true
no_entries = refl

-- ---- tables that a session sees as they are now

abbrev id : Column
id = record { name = codes "id"; kind = kind.Int; not_null = true; primary = true }

abbrev put : TableName → ℕ → RowOp
put table n = op.Put table (value.Int (pos n) ∷ [])

-- t is written at 2, a snapshot is taken at 3, and u is written at 4
abbrev written : Journal
written = event.Commit (by 1 1) (op.CreateDb (codes "d") ∷ op.CreateTable t (id ∷ []) ∷ op.CreateTable u (id ∷ []) ∷ []) ∷ event.Commit (by 1 2) (put t 1 ∷ []) ∷ event.Run (by 2 1) how.Other ∷ event.Commit (by 1 3) (put u 1 ∷ []) ∷ []

abbrev open_with : Option ℕ → List RowOp → State
open_with place ops = record { session = 2; db = codes "d"; autocommit = true; charset = 33; ansi = false; row_limit = 9; kind = 1; transaction = Some (record { snapshot = place; operations = ops }) }

seen_t : is_current (open_with (Some 3) []) written t ≡ true
seen_t = refl

changed_u : is_current (open_with (Some 3) []) written u ≡ false
changed_u = refl

-- its own operation
written_t : is_current (open_with (Some 3) (put t 5 ∷ [])) written t ≡ false
written_t = refl

-- before there is a snapshot the present is seen, and so it is outside a transaction
before_the_snapshot : is_current (open_with None []) written u ≡ true
before_the_snapshot = refl

outside : is_current (starting 2 1) written u ≡ true
outside = refl

-- a commit at the snapshot's own place isn't later than it
at_the_place : is_current (open_with (Some 4) []) written u ≡ true
at_the_place = refl

-- ---- places of snapshots

place_of_none : IsPlace written None
place_of_none = tt

place_of_a_run : IsPlace written (Some 3)
place_of_a_run = (omega arith, refl)

-- the next event isn't there yet
place_of_the_next : IsPlace written (Some 5)
place_of_the_next = (omega arith, tt)

-- a commit stands at 4, and no event has the number 0
place_of_a_commit : IsPlace written (Some 4) → ⊥
place_of_a_commit h = absurd (cc h.1)

place_zero : IsPlace written (Some 0) → ⊥
place_zero h = absurd (omega (arith, h.0))

-- ---- values that a key can hold

abbrev session_in : List ℕ → ℕ → ℕ → State
session_in db charset limit = record { session = 1; db = db; autocommit = true; charset = charset; ansi = false; row_limit = limit; kind = 1; transaction = None }

keyed : CanBeKeyed (session_in (codes "d") 45 18446744073709551615)
keyed = record { values = refl; limit = omega arith }

large_limit : CanBeKeyed (session_in (codes "d") 45 18446744073709551616) → ⊥
large_limit h = absurd (omega (arith, h.limit))

other_charset : CanBeKeyed (session_in (codes "d") 8 1) → ⊥
other_charset h = absurd (cc h.values)
