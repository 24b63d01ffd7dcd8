-- Small journals: the database that each makes, the last change of a table, and its events by number and by session.
use Rattle.std.proofs.Common.{◌≡◌, ℕ, List, [], ◌∷◌, refl, true, false}
use Rattle.std.specs.Prelude.{codes, Some, None, pos, map}
use Rattle.qc_types.specs.declared.names.TableName.{TableName}
use Rattle.qc_types.specs.declared.names.Value.{Value}
use Rattle.qc_types.specs.declared.names.Value.TheVariants as value
use Rattle.qc_sql.specs.declared.tables.Column.{Column}
use Rattle.qc_sql.specs.declared.tables.Kind.TheVariants as kind
use Rattle.qc_sql.specs.declared.tables.RowOp.TheVariants as op
use Rattle.qc_sql.specs.Database.{Database, Table}
use Rattle.qc_model.specs.declared.events.Who.{Who}
use Rattle.qc_model.specs.declared.events.Event.{Event}
use Rattle.qc_model.specs.declared.events.Event.TheVariants as event
use Rattle.qc_model.specs.declared.events.How.TheVariants as how
use Rattle.qc_model.specs.declared.events.GoneWhy.TheVariants as gone
use Rattle.qc_model.specs.Journal.{Journal, present, touches_table, last_change, decider, event_count, events_of, event_at, before, last_event}

-- two tables of one database, and one of another
abbrev pub t : TableName
t = record { db = codes "d"; name = codes "t" }

abbrev pub u : TableName
u = record { db = codes "d"; name = codes "u" }

abbrev pub far : TableName
far = record { db = codes "e"; name = codes "t" }

-- a table's columns: its key alone
abbrev pub keys : List Column
keys = record { name = codes "k"; kind = kind.Int; not_null = true; primary = true } ∷ []

-- the row of a key
abbrev pub row : ℕ → List Value
row n = value.Int (pos n) ∷ []

abbrev pub a : ℕ → Who
a n = record { session = 1; number = n }

abbrev pub b : ℕ → Who
b n = record { session = 2; number = n }

-- Session 1 makes two tables and puts rows into t; session 2 writes u and t, and flushes; session 1 resets, empties u, and drops everything.
abbrev pub made : Event
made = event.Commit (a 1) (op.CreateDb (codes "d") ∷ [])

abbrev pub formed : Event
formed = event.Commit (a 2) (op.CreateTable t keys ∷ op.CreateTable u keys ∷ [])

abbrev pub filled : Event
filled = event.Commit (a 4) (op.Put t (row 2) ∷ op.Put t (row 1) ∷ [])

abbrev pub five : Event
five = event.Commit (b 1) (op.Put u (row 5) ∷ [])

abbrev pub lost : Event
lost = event.Commit (b 2) (op.Del t (pos 2) ∷ [])

abbrev pub emptied : Event
emptied = event.Commit (a 6) (op.DropTable u ∷ op.CreateTable u keys ∷ [])

abbrev pub dropped : Event
dropped = event.Commit (a 7) (op.DropDb (codes "d") ∷ [])

abbrev pub story : Journal
story = made ∷ formed ∷ event.Run (a 3) how.Other ∷ filled ∷ five ∷ lost ∷ event.Flush (b 3) ∷ event.Reset (a 5) ∷ emptied ∷ dropped ∷ []

-- ---- the events before a place

-- the first place has none before it
before_first : before 1 story ≡ []
before_first = refl

-- the third has the first two
before_third : before 3 story ≡ made ∷ formed ∷ []
before_third = refl

-- the place behind the last has all ten, and so has each later one
before_next : before 11 story ≡ story
before_next = refl

-- a place far behind the end has all of them too, since no more are there
before_later : before 40 story ≡ story
before_later = refl

-- ---- the database

-- a table of those rows, each under its key
abbrev pub keyed : List ℕ → Table
keyed ns = record { columns = keys; rows = map (λ n. (pos n, row n)) ns }

-- the database d alone, with these rows in t and in u
abbrev pub only : List ℕ → List ℕ → Database
only in_t in_u = (codes "d", (codes "t", keyed in_t) ∷ (codes "u", keyed in_u) ∷ []) ∷ []

-- no event has made anything yet
at_first : present [] ≡ []
at_first = refl

-- a database that was made has no tables
without_tables : present (before 2 story) ≡ (codes "d", []) ∷ []
without_tables = refl

-- the tables that one commit makes are empty, and the Run behind it changes nothing
without_rows : present (before 4 story) ≡ only [] []
without_rows = refl

-- rows stand by rising key, though the greater key was put first
by_key : present (before 5 story) ≡ only (1 ∷ 2 ∷ []) []
by_key = refl

-- the row of another session's commit is there, and the one that it deleted has gone
of_both : present (before 7 story) ≡ only (1 ∷ []) (5 ∷ [])
of_both = refl

-- a flush and a reset of the cache leave the database as it was
not_by_the_cache : present (before 9 story) ≡ only (1 ∷ []) (5 ∷ [])
not_by_the_cache = refl

-- a table that is dropped and made anew is empty
made_anew : present (before 10 story) ≡ only (1 ∷ []) []
made_anew = refl

-- without its database no table is left
nothing_left : present story ≡ []
nothing_left = refl

-- a put under a key that is there replaces the row
replaced : present (made ∷ formed ∷ filled ∷ event.Commit (a 5) (op.Put t (row 2) ∷ []) ∷ []) ≡ only (1 ∷ 2 ∷ []) []
replaced = refl

-- ---- what touches a table, and its last change

-- an event that is no commit touches no table
run_touches_none : touches_table t (event.Run (a 1) how.Other) ≡ false
run_touches_none = refl

-- a commit touches each table that one of its operations names, also where another stands first
second_is_touched : touches_table u formed ≡ true
second_is_touched = refl

-- a row of t is nothing to u
not_touched : touches_table u filled ≡ false
not_touched = refl

-- the drop of a database touches each table of its name, and none of another
drop_touches : touches_table u dropped ≡ true
drop_touches = refl

-- a table of another database isn't touched, though its own name is the same
drop_is_elsewhere : touches_table far dropped ≡ false
drop_is_elsewhere = refl

-- to make a database touches no table
never_changed : last_change (before 2 story) t ≡ 0
never_changed = refl

-- to make a table is a change of it
changed_by_form : last_change (before 4 story) t ≡ 2
changed_by_form = refl

-- the last of the puts and deletes counts, whoever did it: event 6 deletes from t
changed_by_delete : last_change (before 10 story) t ≡ 6
changed_by_delete = refl

-- t's changes are none of u's: its last one is the put at 5
changed_by_put : last_change (before 9 story) u ≡ 5
changed_by_put = refl

-- to empty a table is a change
changed_by_emptying : last_change (before 10 story) u ≡ 9
changed_by_emptying = refl

-- the drop of its database is a change of a table, and no other database's table has one
changed_by_drop : last_change story t ≡ 10
changed_by_drop = refl

-- no event touches the table of the other database
unchanged_elsewhere : last_change story far ≡ 0
unchanged_elsewhere = refl

-- ---- numbers

-- events are numbered from 1
first_event : event_at story 1 ≡ Some made
first_event = refl

-- the sixth is the second commit of session 2
sixth_event : event_at story 6 ≡ Some lost
sixth_event = refl

-- ten events have no eleventh
no_eleventh : event_at story 11 ≡ None
no_eleventh = refl

-- a flush is decided by its session, and nobody decides that an entry is done or gone
flush_is_decided : decider (event.Flush (b 3)) ≡ Some (b 3)
flush_is_decided = refl

-- that an entry is done is decided by none
done_is_not : decider (event.Done 1) ≡ None
done_is_not = refl

-- nor that a fill was given up
gone_is_not : decider (event.Gone 1 gone.Ended) ≡ None
gone_is_not = refl

-- nor that an entry was pruned
prune_is_not : decider (event.Prune 1 64 0) ≡ None
prune_is_not = refl

-- session 1 has decided seven of the ten, session 2 three, and session 3 none
seven_of_first : event_count story 1 ≡ 7
seven_of_first = refl

-- session 2 has decided the events 5, 6 and 7
three_of_second : event_count story 2 ≡ 3
three_of_second = refl

-- session 3 has decided none, since it isn't there
none_of_third : event_count story 3 ≡ 0
none_of_third = refl

-- what happens to an entry doesn't count
without_done : event_count (event.Run (a 1) how.Other ∷ event.Done 1 ∷ event.Prune 1 64 0 ∷ event.Run (a 2) how.Other ∷ []) 1 ≡ 2
without_done = refl

-- a session's events keep their order
of_second : events_of 2 story ≡ five ∷ lost ∷ event.Flush (b 3) ∷ []
of_second = refl

-- session 1 has the first four
of_first : events_of 1 (before 5 story) ≡ made ∷ formed ∷ event.Run (a 3) how.Other ∷ filled ∷ []
of_first = refl

-- a session that isn't there has none
of_third : events_of 3 story ≡ []
of_third = refl

-- the last of each session, whatever the other did later
last_of_first : last_event story 1 ≡ Some dropped
last_of_first = refl

-- session 2 flushed at last, though three events came later
last_of_second : last_event story 2 ≡ Some (event.Flush (b 3))
last_of_second = refl

-- a session without events has no last one
last_of_third : last_event story 3 ≡ None
last_of_third = refl

-- what happens to an entry is no session's last event
last_before_done : last_event (event.Run (a 1) how.Other ∷ event.Done 1 ∷ []) 1 ≡ Some (event.Run (a 1) how.Other)
last_before_done = refl
