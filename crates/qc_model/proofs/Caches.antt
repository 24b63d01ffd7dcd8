-- Small journals: the entries that the cache has after each kind of event, in their order of use, and the counters.
use Rattle.std.proofs.Common.{◌≡◌, ℕ, List, [], ◌∷◌, ◌++◌, Bool, refl, true, false}
use Rattle.std.specs.Prelude.{codes, Some, None, pos}
use Rattle.qc_types.specs.declared.names.TableName.{TableName}
use Rattle.qc_sql.specs.declared.tables.RowOp.TheVariants as op
use Rattle.qc_model.specs.declared.events.Event.{Event}
use Rattle.qc_model.specs.declared.events.Event.TheVariants as event
use Rattle.qc_model.specs.declared.events.How.TheVariants as how
use Rattle.qc_model.specs.declared.events.Reason.TheVariants as reason
use Rattle.qc_model.specs.declared.events.GoneWhy.TheVariants as gone
use Rattle.qc_model.specs.Journal.{Journal}
use Rattle.qc_model.specs.Cache.{Entry, entry_of, without, uses_touched, cache, counters}
use Rattle.qc_model.proofs.Journals.{t, u, far, row, a, b}

-- an entry with this serial, under a key of one byte
abbrev pub entry : ℕ → List TableName → Bool → Entry
entry n tables whole = record { serial = n; key = n ∷ []; tables = tables; complete = whole }

-- a select of session 1 that begins such an entry
abbrev pub begins : ℕ → ℕ → List TableName → Event
begins number n tables = event.Run (a number) (how.Start n (n ∷ []) tables)

-- Two entries that are whole, on t and on t with u, and a third on u that session 1 still fills.
abbrev pub three : Journal
three = begins 1 1 (t ∷ []) ∷ event.Done 1 ∷ begins 2 2 (t ∷ u ∷ []) ∷ event.Done 2 ∷ begins 3 3 (u ∷ []) ∷ []

abbrev pub one : Entry
one = entry 1 (t ∷ []) true

abbrev pub two : Entry
two = entry 2 (t ∷ u ∷ []) true

abbrev pub last : Entry
last = entry 3 (u ∷ []) false

-- ---- starts, ends and hits

-- nothing has begun an entry
none_yet : cache [] ≡ []
none_yet = refl

-- an entry that was begun isn't whole
begun : cache (begins 1 1 (t ∷ []) ∷ []) ≡ entry 1 (t ∷ []) false ∷ []
begun = refl

-- each new entry stands at the end
in_order : cache three ≡ one ∷ two ∷ last ∷ []
in_order = refl

-- done makes it whole
all_done : cache (three ++ event.Done 3 ∷ []) ≡ one ∷ two ∷ entry 3 (u ∷ []) true ∷ []
all_done = refl

-- the entry that is done first of two goes behind the one that was begun later
done_goes_last : cache (begins 1 1 (t ∷ []) ∷ event.Run (b 1) (how.Start 2 (2 ∷ []) (u ∷ [])) ∷ event.Done 1 ∷ [])
    ≡ entry 2 (u ∷ []) false ∷ entry 1 (t ∷ []) true ∷ []
done_goes_last = refl

-- an entry that has left isn't made by its end
done_of_none : cache (event.Done 1 ∷ []) ≡ []
done_of_none = refl

-- a hit moves its entry to the end, and changes nothing else of it
hit_goes_last : cache (three ++ event.Run (b 1) (how.Hit 1) ∷ []) ≡ two ∷ last ∷ one ∷ []
hit_goes_last = refl

-- a hit on the second takes it from between the others to the end
hit_in_the_middle : cache (three ++ event.Run (b 1) (how.Hit 2) ∷ []) ≡ one ∷ last ∷ two ∷ []
hit_in_the_middle = refl

-- of two hits the later one is the last
two_hits : cache (three ++ event.Run (b 1) (how.Hit 2) ∷ event.Run (b 2) (how.Hit 1) ∷ []) ≡ last ∷ two ∷ one ∷ []
two_hits = refl

-- ---- entries that leave

-- the fill that was given up has no entry, and those before it stay
given_up : cache (three ++ event.Gone 3 gone.Ended ∷ []) ≡ one ∷ two ∷ []
given_up = refl

-- of two fills the one that was given up leaves, whatever the reason
too_large : cache (begins 1 1 (t ∷ []) ∷ begins 2 2 (u ∷ []) ∷ event.Gone 1 (gone.TooLarge 62 61) ∷ []) ≡ entry 2 (u ∷ []) false ∷ []
too_large = refl

-- what has left can't leave once more
gone_twice : cache (three ++ event.Gone 3 gone.Ended ∷ event.Gone 3 gone.Ended ∷ []) ≡ one ∷ two ∷ []
gone_twice = refl

-- a prune removes the entry that it names
pruned_first : cache (three ++ event.Prune 1 64 0 ∷ []) ≡ two ∷ last ∷ []
pruned_first = refl

-- also where it isn't the first
pruned_second : cache (three ++ event.Prune 2 64 0 ∷ []) ≡ one ∷ last ∷ []
pruned_second = refl

-- two prunes remove two
pruned_both : cache (three ++ event.Prune 1 64 0 ∷ event.Prune 2 64 0 ∷ []) ≡ last ∷ []
pruned_both = refl

-- ---- commits

-- a put into t removes each entry that names t, also where it isn't the first of its tables
put_into_t : cache (three ++ event.Commit (b 1) (op.Put t (row 1) ∷ []) ∷ []) ≡ last ∷ []
put_into_t = refl

-- an entry that isn't whole leaves like others, and one on another table stays
delete_from_u : cache (three ++ event.Commit (b 1) (op.Del u (pos 1) ∷ []) ∷ []) ≡ one ∷ []
delete_from_u = refl

-- two operations on two tables remove all
on_both : cache (three ++ event.Commit (b 1) (op.Put u (row 1) ∷ op.Del t (pos 1) ∷ []) ∷ []) ≡ []
on_both = refl

-- a table of the same name in another database is another table
put_elsewhere : cache (three ++ event.Commit (b 1) (op.Put far (row 1) ∷ []) ∷ []) ≡ one ∷ two ∷ last ∷ []
put_elsewhere = refl

-- the drop of a table is a change of it, and so is that of its database
drop_of_u : cache (three ++ event.Commit (b 1) (op.DropTable u ∷ []) ∷ []) ≡ one ∷ []
drop_of_u = refl

-- all tables are in d, so all entries leave with it
drop_of_d : cache (three ++ event.Commit (b 1) (op.DropDb (codes "d") ∷ []) ∷ []) ≡ []
drop_of_d = refl

-- the drop of another database touches none, and to make one touches none either
drop_of_e : cache (three ++ event.Commit (b 1) (op.DropDb (codes "e") ∷ []) ∷ []) ≡ one ∷ two ∷ last ∷ []
drop_of_e = refl

-- to make a database touches no table, so none leaves
made_e : cache (three ++ event.Commit (b 1) (op.CreateDb (codes "e") ∷ []) ∷ []) ≡ one ∷ two ∷ last ∷ []
made_e = refl

-- which entries a commit removes, one by one: by a table that both name, by none, and by the database
shares_a_table : uses_touched (event.Commit (b 1) (op.Put u (row 1) ∷ [])) two ≡ true
shares_a_table = refl

-- one is on t alone, and u was changed
shares_none : uses_touched (event.Commit (b 1) (op.Put u (row 1) ∷ [])) one ≡ false
shares_none = refl

-- u is in d, and d was dropped
in_the_database : uses_touched (event.Commit (b 1) (op.DropDb (codes "d") ∷ [])) last ≡ true
in_the_database = refl

-- ---- resets, and what changes nothing

-- a reset removes all, whole or not
all_removed : cache (three ++ event.Reset (b 1) ∷ []) ≡ []
all_removed = refl

-- a second reset finds none to remove
removed_again : cache (three ++ event.Reset (b 1) ∷ event.Reset (b 2) ∷ []) ≡ []
removed_again = refl

-- behind it entries begin anew
begun_behind : cache (three ++ event.Reset (b 1) ∷ event.Run (b 2) (how.Start 4 (4 ∷ []) (t ∷ [])) ∷ []) ≡ entry 4 (t ∷ []) false ∷ []
begun_behind = refl

-- a flush removes none, and leaves the order
flushed : cache (three ++ event.Flush (b 1) ∷ []) ≡ one ∷ two ∷ last ∷ []
flushed = refl

-- a flush behind a hit leaves what the hit made
flushed_between : cache (three ++ event.Run (b 1) (how.Hit 1) ∷ event.Flush (b 2) ∷ []) ≡ two ∷ last ∷ one ∷ []
flushed_between = refl

-- a flush of an empty cache leaves it empty
flushed_empty : cache (event.Flush (b 1) ∷ []) ≡ []
flushed_empty = refl

-- and so do a plain run, another command, SHOW STATUS and a conflict
others : cache (three ++ event.Run (b 1) (how.Plain (reason.Rival 3)) ∷ event.Run (b 2) how.Other
    ∷ event.Run (b 3) (how.Status (record { blocks = 5; free_blocks = 2; free_words = 64 })) ∷ event.Run (b 4) (how.Conflict t None 1) ∷ [])
    ≡ one ∷ two ∷ last ∷ []
others = refl

-- ---- entries by their serials

-- the second is found by its serial
found_second : entry_of 2 (cache three) ≡ Some two
found_second = refl

-- one that isn't whole is found too
found_unfinished : entry_of 3 (cache three) ≡ Some last
found_unfinished = refl

-- no entry has the serial 4
not_found : entry_of 4 (cache three) ≡ None
not_found = refl

-- without the second the others keep their order
without_second : without 2 (cache three) ≡ one ∷ last ∷ []
without_second = refl

-- without the third the first two are left
without_third : without 3 (cache three) ≡ one ∷ two ∷ []
without_third = refl

-- without one that isn't there all are left
without_another : without 4 (cache three) ≡ one ∷ two ∷ last ∷ []
without_another = refl

-- ---- counters

-- nothing has happened
none_counted : counters [] ≡ record { com_select = 0; hits = 0; inserts = 0; not_cached = 0; lowmem_prunes = 0; queries_in_cache = 0 }
none_counted = refl

-- three starts are three selects and three inserts; an entry counts in the cache also while it is filled
three_counted : counters three ≡ record { com_select = 3; hits = 0; inserts = 3; not_cached = 0; lowmem_prunes = 0; queries_in_cache = 3 }
three_counted = refl

-- a hit is no select of Com_select; an error is one, and isn't among those that weren't cached; other commands count nowhere
each_counted : counters (three ++ event.Run (b 1) (how.Hit 1) ∷ event.Run (b 2) (how.Hit 1) ∷ event.Run (b 3) (how.Plain (reason.Error 1146))
    ∷ event.Run (b 4) (how.Plain reason.NotAsked) ∷ event.Prune 2 64 0 ∷ event.Run (b 5) (how.Plain (reason.NoRoom 64 0)) ∷ event.Run (b 6) how.Other
    ∷ event.Commit (b 7) (op.Put u (row 1) ∷ []) ∷ [])
    ≡ record { com_select = 6; hits = 2; inserts = 3; not_cached = 2; lowmem_prunes = 1; queries_in_cache = 1 }
each_counted = refl

-- a reset empties the cache, and leaves the other counts
reset_counted : counters (three ++ event.Reset (b 1) ∷ []) ≡ record { com_select = 3; hits = 0; inserts = 3; not_cached = 0; lowmem_prunes = 0; queries_in_cache = 0 }
reset_counted = refl
