-- What transactions see, which reason keeps a select out of the cache, which events a select may have, and which commits a transaction conflicts with.
use Rattle.std.proofs.Common.{◌≡◌, ℕ, ℤ, List, [], ◌∷◌, ◌++◌, Option, refl, true, false, inl, inr}
use Rattle.std.specs.Prelude.{codes, Some, None, pos, Ok, Result}
use Rattle.qc_types.specs.declared.names.TableName.{TableName}
use Rattle.qc_types.specs.declared.names.Value.{Value}
use Rattle.qc_types.specs.declared.names.Value.TheVariants as value
use Rattle.qc_types.specs.declared.names.Why.TheVariants as why
use Rattle.qc_types.specs.declared.options.Options.{Options}
use Rattle.qc_sql.specs.declared.tables.Kind.TheVariants as kind
use Rattle.qc_sql.specs.declared.tables.RowOp.{RowOp}
use Rattle.qc_sql.specs.declared.tables.RowOp.TheVariants as op
use Rattle.qc_sql.specs.declared.statements.Statement.{Statement}
use Rattle.qc_sql.specs.declared.statements.Statement.TheVariants as statement
use Rattle.qc_sql.specs.Tokens.{lexed, trimmed}
use Rattle.qc_sql.specs.Reading.{is_reserved, opened}
use Rattle.qc_sql.specs.Grammar.{meaning, head_of, ParseFault, alias, any_statement, any_text, at_end, cache_word, call_word, column, condition, dotted, ends_value, from, from_part, item, items, joined, limit_part, literal, lock_part, look, member_at, one_too_many, order_part, select, further_source, signed, source, table, where_part, whole, call_at, bare_literal, other_statement, one_word, is_unsupported, is_aggregate_word, is_plain_call, is_uncached_call}
use Rattle.qc_sql.specs.Rows.{rows, rows_over}
use Rattle.qc_model.specs.declared.events.Event.{Event}
use Rattle.qc_model.specs.declared.events.Event.TheVariants as event
use Rattle.qc_model.specs.declared.events.How.{How}
use Rattle.qc_model.specs.declared.events.How.TheVariants as how
use Rattle.qc_model.specs.declared.events.Reason.{Reason}
use Rattle.qc_model.specs.declared.events.Reason.TheVariants as reason
use Rattle.qc_model.specs.declared.events.GoneWhy.TheVariants as gone
use Rattle.qc_model.specs.Journal.{Journal, before, present}
use Rattle.qc_model.specs.Session.{State, Transaction, key_of_text}
use Rattle.qc_model.specs.Choice.{wrote, is_stale, is_visible, answering, rival, plain_reason, start_count, Allows}
use Rattle.qc_model.specs.Conflicts.{Conflict, Row, Form, Whole, written_by, all_written, met, conflict_of}
use Rattle.qc_model.proofs.Journals.{t, u, keys, row, a, b, made, formed, filled, five, story}
use Rattle.qc_model.proofs.Caches.{one, two, last, three}

-- a session in the database d, perhaps in a transaction
abbrev pub in_d : Option Transaction → State
in_d own = record { session = 1; db = codes "d"; autocommit = true; charset = 33; ansi = false; row_limit = 18446744073709551615; kind = 1; transaction = own }

-- without a transaction; and in one with a snapshot and own operations
abbrev pub free : State
free = in_d None

abbrev pub since : ℕ → List RowOp → State
since place ops = in_d (Some (record { snapshot = Some place; operations = ops }))

-- the story up to its ninth event: t was changed last by event 6, and u by event 9
abbrev pub told : Journal
told = before 10 story

-- ---- what was written and what has changed

-- outside a transaction nothing is written; in one a delete counts like a put, for its own table alone
free_wrote_none : wrote free t ≡ false
free_wrote_none = refl

-- a delete from t wrote t, though a put into u stands in front of it
wrote_t : wrote (since 3 (op.Put u (row 1) ∷ op.Del t (pos 1) ∷ [])) t ≡ true
wrote_t = refl

-- a put into u didn't write t
wrote_only_u : wrote (since 3 (op.Put u (row 1) ∷ [])) t ≡ false
wrote_only_u = refl

-- without a snapshot nothing is too new, also in a transaction that has just begun
free_sees_all : is_stale free told t ≡ false
free_sees_all = refl

-- a transaction without snapshot sees the present, so no table is too new
begun_sees_all : is_stale (in_d (Some (record { snapshot = None; operations = [] }))) told t ≡ false
begun_sees_all = refl

-- the change 6 is above the snapshot 5, and not above 6 or 7
changed_above : is_stale (since 5 []) told t ≡ true
changed_above = refl

-- 6 isn't above 6
changed_at_it : is_stale (since 6 []) told t ≡ false
changed_at_it = refl

-- 6 is below 7
changed_below : is_stale (since 7 []) told t ≡ false
changed_below = refl

-- ---- entries that a session sees: one is on t, two on t and u, the last on u

-- without a transaction all are visible
all_visible : is_visible free told two ≡ true
all_visible = refl

-- to the snapshot 7 t is as it was then, and u isn't, which one of two tables is enough for
t_as_then : is_visible (since 7 []) told one ≡ true
t_as_then = refl

-- u changed at 9, above the snapshot 7, and two is on t and u
u_too_new : is_visible (since 7 []) told two ≡ false
u_too_new = refl

-- own operations hide their tables' entries alone
own_table : is_visible (since 9 (op.Put u (row 1) ∷ [])) told last ≡ false
own_table = refl

-- two is on u too, which was written
one_of_two : is_visible (since 9 (op.Put u (row 1) ∷ [])) told two ≡ false
one_of_two = refl

-- one is on t alone, which wasn't written and changed below 9
not_written : is_visible (since 9 (op.Put u (row 1) ∷ [])) told one ≡ true
not_written = refl

-- ---- entries by their keys: those of one and two are whole, the last one's isn't

-- one is whole, has the key and is visible
answered_by_one : answering free three (1 ∷ []) ≡ Some one
answered_by_one = refl

-- an entry that isn't whole answers nothing, and nor does one that isn't visible, or isn't there
not_whole : answering free three (3 ∷ []) ≡ None
not_whole = refl

-- the transaction wrote t, on which one is
hidden : answering (since 1 (op.Del t (pos 1) ∷ [])) three (1 ∷ []) ≡ None
hidden = refl

-- no entry has this key, though its first byte is another's
unknown_key : answering free three (1 ∷ 1 ∷ []) ≡ None
unknown_key = refl

-- only an entry that isn't whole is a rival
filled_by_another : rival three (3 ∷ []) ≡ Some last
filled_by_another = refl

-- two is whole, so nobody fills it
whole_is_none : rival three (2 ∷ []) ≡ None
whole_is_none = refl

-- the fill was given up, so the key has no rival any more
gone_is_none : rival (three ++ event.Gone 3 gone.Ended ∷ []) (3 ∷ []) ≡ None
gone_is_none = refl

-- all starts count, also those of entries that have left
no_start : start_count story ≡ 0
no_start = refl

-- three entries were begun
three_starts : start_count three ≡ 3
three_starts = refl

-- a reset removes entries, and no starts
starts_stay : start_count (three ++ event.Reset (b 1) ∷ []) ≡ 3
starts_stay = refl

-- ---- the first reason of several

abbrev pub options : ℕ → Options
options size = record { size = size; limit = 1048576; unit = 4096; kind = 1 }

-- the reason of a text
reason_of : ℕ → State → List ℕ → Journal → Option Reason
reason_of size state text J = of_meaning (meaning text false)
  where
    of_meaning : Result Statement ParseFault → Option Reason
    of_meaning (Ok (statement.Select s)) = plain_reason (options size) state text s J
    of_meaning _ = None

-- the refusal comes first, also where there is no cache and it isn't asked
error_first : reason_of 0 free (codes "SELECT SQL_NO_CACHE x FROM t") told ≡ Some (reason.Error 1054)
unfolding reason_of meaning lexed any_text whole any_statement other_statement one_word is_unsupported select cache_word items item call_at call_word is_aggregate_word is_plain_call is_uncached_call column dotted ends_value alias from_part from source table joined where_part condition member_at order_part limit_part lock_part at_end look literal bare_literal signed one_too_many head_of trimmed rows rows_over is_reserved opened
error_first = refl

-- that there is no cache comes before that it isn't asked
off_before_not_asked : reason_of 0 free (codes "SELECT SQL_NO_CACHE k FROM t") told ≡ Some reason.Off
unfolding reason_of meaning lexed any_text whole any_statement other_statement one_word is_unsupported select cache_word items item call_at call_word is_aggregate_word is_plain_call is_uncached_call column dotted ends_value alias from_part from source table joined where_part condition member_at order_part limit_part lock_part at_end look literal bare_literal signed one_too_many head_of trimmed rows rows_over is_reserved opened
off_before_not_asked = refl

-- that it isn't asked comes before what the statement is
not_asked_before_locking : reason_of 1024 free (codes "SELECT SQL_NO_CACHE k FROM t FOR UPDATE") told ≡ Some reason.NotAsked
unfolding reason_of meaning lexed any_text whole any_statement other_statement one_word is_unsupported select cache_word items item call_at call_word is_aggregate_word is_plain_call is_uncached_call column dotted ends_value alias from_part from source table joined where_part condition member_at order_part limit_part lock_part at_end look literal bare_literal signed one_too_many head_of trimmed rows rows_over is_reserved opened
not_asked_before_locking = refl

-- a table of a database of the system, whose name may have capitals
system_table : reason_of 1024 free (codes "SELECT k FROM MySQL.t") (event.Commit (a 1) (op.CreateDb (codes "MySQL") ∷ op.CreateTable (record { db = codes "MySQL"; name = codes "t" }) keys ∷ []) ∷ [])
    ≡ Some (reason.Rule (why.SystemTable (record { db = codes "MySQL"; name = codes "t" })))
unfolding reason_of meaning lexed any_text whole any_statement other_statement one_word is_unsupported select cache_word items item call_at call_word is_aggregate_word is_plain_call is_uncached_call column dotted ends_value alias from_part from source table joined where_part condition member_at order_part limit_part lock_part at_end look literal bare_literal signed one_too_many head_of trimmed rows rows_over is_reserved opened
system_table = refl

-- t has changed since the snapshot, and u was written: that it was written comes first, though u stands second
written_before_changed : reason_of 1024 (since 5 (op.Put u (row 1) ∷ [])) (codes "SELECT t.k FROM t, u") told ≡ Some (reason.Written u)
unfolding reason_of meaning lexed any_text whole any_statement other_statement one_word is_unsupported select cache_word items item call_at call_word is_aggregate_word is_plain_call is_uncached_call column dotted ends_value alias from_part from source further_source table joined where_part condition member_at order_part limit_part lock_part at_end look literal bare_literal signed one_too_many head_of trimmed rows rows_over is_reserved opened
written_before_changed = refl

-- both have changed: the first of FROM is told
first_of_from : reason_of 1024 (since 5 []) (codes "SELECT t.k FROM u, t") told ≡ Some (reason.NotVisible u 9 5)
unfolding reason_of meaning lexed any_text whole any_statement other_statement one_word is_unsupported select cache_word items item call_at call_word is_aggregate_word is_plain_call is_uncached_call column dotted ends_value alias from_part from source further_source table joined where_part condition member_at order_part limit_part lock_part at_end look literal bare_literal signed one_too_many head_of trimmed rows rows_over is_reserved opened
first_of_from = refl

-- t hasn't changed since event 7, and u has
second_of_from : reason_of 1024 (since 7 []) (codes "SELECT t.k FROM t, u") told ≡ Some (reason.NotVisible u 9 7)
unfolding reason_of meaning lexed any_text whole any_statement other_statement one_word is_unsupported select cache_word items item call_at call_word is_aggregate_word is_plain_call is_uncached_call column dotted ends_value alias from_part from source further_source table joined where_part condition member_at order_part limit_part lock_part at_end look literal bare_literal signed one_too_many head_of trimmed rows rows_over is_reserved opened
second_of_from = refl

-- neither has changed since event 9, and none was written: no reason is left
no_reason : reason_of 1024 (since 9 []) (codes "SELECT t.k FROM t, u") told ≡ None
unfolding reason_of meaning lexed any_text whole any_statement other_statement one_word is_unsupported select cache_word items item call_at call_word is_aggregate_word is_plain_call is_uncached_call column dotted ends_value alias from_part from source further_source table joined where_part condition member_at order_part limit_part lock_part at_end look literal bare_literal signed one_too_many head_of trimmed rows rows_over is_reserved opened
no_reason = refl

-- ---- events that a select may have

abbrev pub text : List ℕ
text = codes "SELECT k FROM t"

-- a select of this text, in this state and after this journal, may have this event
MayHave : State → List ℕ → Journal → How → Type 0
MayHave state sent J h = of_meaning (meaning sent false)
  where
    of_meaning : Result Statement ParseFault → Type 0
    of_meaning (Ok (statement.Select s)) = Allows (options 1048576) state sent s J h
    of_meaning _ = ⊥

-- t has two rows, and the entry of the text in this state is whole
abbrev pub kept : State → Journal
kept state = made ∷ formed ∷ event.Run (a 3) how.Other ∷ filled ∷ event.Run (a 5) (how.Start 1 (key_of_text state text) (t ∷ [])) ∷ event.Done 1 ∷ []

-- the entry answers, and nothing else may
hit : MayHave free text (kept free) (how.Hit 1)
unfolding MayHave meaning lexed any_text whole any_statement other_statement one_word is_unsupported select cache_word items item call_at call_word is_aggregate_word is_plain_call is_uncached_call column dotted ends_value alias from_part from source table joined where_part condition member_at order_part limit_part lock_part at_end look literal bare_literal signed one_too_many head_of trimmed rows rows_over is_reserved opened
hit = refl

-- a start isn't allowed where a hit is
no_start_beside_it : MayHave free text (kept free) (how.Start 2 (key_of_text free text) (t ∷ [])) → ⊥
unfolding MayHave meaning lexed any_text whole any_statement other_statement one_word is_unsupported select cache_word items item call_at call_word is_aggregate_word is_plain_call is_uncached_call column dotted ends_value alias from_part from source table joined where_part condition member_at order_part limit_part lock_part at_end look literal bare_literal signed one_too_many head_of trimmed rows rows_over is_reserved opened
no_start_beside_it = λ h. let e : how.Start 2 (key_of_text free text) (t ∷ []) ≡ how.Hit 1 = h in cc

-- nor is want of room
no_room_beside_it : MayHave free text (kept free) (how.Plain (reason.NoRoom 64 0)) → ⊥
unfolding MayHave meaning lexed any_text whole any_statement other_statement one_word is_unsupported select cache_word items item call_at call_word is_aggregate_word is_plain_call is_uncached_call column dotted ends_value alias from_part from source table joined where_part condition member_at order_part limit_part lock_part at_end look literal bare_literal signed one_too_many head_of trimmed rows rows_over is_reserved opened
no_room_beside_it = λ h. let e : how.Plain (reason.NoRoom 64 0) ≡ how.Hit 1 = h in cc

-- another spelling has another key: it starts an entry with the next serial, or finds no room
start_of_another : MayHave free (codes "select k FROM t") (kept free) (how.Start 2 (key_of_text free (codes "select k FROM t")) (t ∷ []))
unfolding MayHave meaning lexed any_text whole any_statement other_statement one_word is_unsupported select cache_word items item call_at call_word is_aggregate_word is_plain_call is_uncached_call column dotted ends_value alias from_part from source table joined where_part condition member_at order_part limit_part lock_part at_end look literal bare_literal signed one_too_many head_of trimmed rows rows_over is_reserved opened
start_of_another = inl refl

-- want of room is allowed in place of a start, with any need
or_no_room : MayHave free (codes "select k FROM t") (kept free) (how.Plain (reason.NoRoom 512 64))
unfolding MayHave meaning lexed any_text whole any_statement other_statement one_word is_unsupported select cache_word items item call_at call_word is_aggregate_word is_plain_call is_uncached_call column dotted ends_value alias from_part from source table joined where_part condition member_at order_part limit_part lock_part at_end look literal bare_literal signed one_too_many head_of trimmed rows rows_over is_reserved opened
or_no_room = inr (512, 64, refl)

-- the entry that stands under another key is no hit for it
no_hit_of_another : MayHave free (codes "select k FROM t") (kept free) (how.Hit 1) → ⊥
unfolding MayHave meaning lexed any_text whole any_statement other_statement one_word is_unsupported select cache_word items item call_at call_word is_aggregate_word is_plain_call is_uncached_call column dotted ends_value alias from_part from source table joined where_part condition member_at order_part limit_part lock_part at_end look literal bare_literal signed one_too_many head_of trimmed rows rows_over is_reserved opened
no_hit_of_another (inl e) = let d : how.Hit 1 ≡ how.Start 2 (key_of_text free (codes "select k FROM t")) (t ∷ []) = e in cc
no_hit_of_another (inr e) = let d : how.Hit 1 ≡ how.Plain (reason.NoRoom e.0 e.1) = e.2 in cc

-- a transaction that wrote t doesn't see the entry of its own key
abbrev pub writing : State
writing = since 5 (op.Put t (row 9) ∷ [])

-- the entry of its own key is on t, which it wrote: a plain run that says so
own_write_hides : MayHave writing text (kept writing) (how.Plain (reason.Written t))
unfolding MayHave meaning lexed any_text whole any_statement other_statement one_word is_unsupported select cache_word items item call_at call_word is_aggregate_word is_plain_call is_uncached_call column dotted ends_value alias from_part from source table joined where_part condition member_at order_part limit_part lock_part at_end look literal bare_literal signed one_too_many head_of trimmed rows rows_over is_reserved opened
own_write_hides = refl

-- and no hit on it
no_hit_after_own_write : MayHave writing text (kept writing) (how.Hit 1) → ⊥
unfolding MayHave meaning lexed any_text whole any_statement other_statement one_word is_unsupported select cache_word items item call_at call_word is_aggregate_word is_plain_call is_uncached_call column dotted ends_value alias from_part from source table joined where_part condition member_at order_part limit_part lock_part at_end look literal bare_literal signed one_too_many head_of trimmed rows rows_over is_reserved opened
no_hit_after_own_write = λ h. let e : how.Hit 1 ≡ how.Plain (reason.Written t) = h in cc

-- ---- what operations write

abbrev pub at_four : Journal
at_four = made ∷ formed ∷ filled ∷ five ∷ []

-- a put writes its row, told by the key in its primary column
put_writes : written_by (op.Put t (row 1)) (present at_four) ≡ Row t (pos 1) ∷ []
put_writes = refl

-- the drop of a database writes all of it
drop_writes : written_by (op.DropDb (codes "d")) (present at_four) ≡ Whole (codes "d") ∷ []
drop_writes = refl

-- to make a database writes nothing that others could have written
make_writes : written_by (op.CreateDb (codes "e")) (present at_four) ≡ []
make_writes = refl

-- each is read on what those before it made: the key of the put is found by the new table's columns
all_write : all_written (op.DropTable t ∷ op.CreateTable t keys ∷ op.Put t (row 7) ∷ op.Del t (pos 7) ∷ []) (present at_four)
    ≡ Form t ∷ Form t ∷ Row t (pos 7) ∷ Row t (pos 7) ∷ []
all_write = refl

-- a row that is deleted and put again is written twice, in order
row_twice : all_written (op.Del u (pos 5) ∷ op.Put u (row 5) ∷ []) (present at_four) ≡ Row u (pos 5) ∷ Row u (pos 5) ∷ []
row_twice = refl

-- a new database with its table: to make the one writes nothing, and to make the other its form
new_table : all_written (op.CreateDb (codes "e") ∷ op.CreateTable (record { db = codes "e"; name = codes "t" }) keys ∷ []) (present at_four) ≡ Form (record { db = codes "e"; name = codes "t" }) ∷ []
new_table = refl

-- a row is met by its table's form, and then no key is told, also where the row itself is there
form_first : met (Row t (pos 1)) (Row t (pos 1) ∷ Form t ∷ []) ≡ Some (t, None)
form_first = refl

-- the third of the others is the same row of the same table
same_row : met (Row t (pos 1)) (Row t (pos 2) ∷ Row u (pos 1) ∷ Row t (pos 1) ∷ []) ≡ Some (t, Some (pos 1))
same_row = refl

-- another key, another table, another table's form and another database don't meet it
no_same_row : met (Row t (pos 1)) (Row t (pos 2) ∷ Row u (pos 1) ∷ Form u ∷ Whole (codes "e") ∷ []) ≡ None
no_same_row = refl

-- ---- conflicts: the transaction took its snapshot at 5, where t has the rows 1 and 2, and these commits come from 6 on

abbrev pub then_come : List Event → Journal
then_come es = at_four ++ event.Run (a 5) how.Other ∷ es

abbrev pub committed : List RowOp → Event
committed ops = event.Commit (b 9) ops

abbrev pub own : List RowOp → Transaction
own ops = record { snapshot = Some 5; operations = ops }

abbrev pub clash : Option ℤ → ℕ → Option Conflict
clash key by = Some (record { table = t; key = key; by = by })

-- both put the row of the key 1
put_and_put : conflict_of (own (op.Put t (row 1) ∷ [])) (then_come (committed (op.Put t (row 1) ∷ []) ∷ [])) ≡ clash (Some (pos 1)) 6
put_and_put = refl

-- a delete meets a put, and a put a delete
delete_and_put : conflict_of (own (op.Del t (pos 2) ∷ [])) (then_come (committed (op.Put t (row 2) ∷ []) ∷ [])) ≡ clash (Some (pos 2)) 6
delete_and_put = refl

-- the commit deleted the row that the transaction put
put_and_delete : conflict_of (own (op.Put t (row 1) ∷ [])) (then_come (committed (op.Del t (pos 1) ∷ []) ∷ [])) ≡ clash (Some (pos 1)) 6
put_and_delete = refl

-- both put a row that wasn't there
both_new : conflict_of (own (op.Put t (row 9) ∷ [])) (then_come (committed (op.Put t (row 9) ∷ []) ∷ [])) ≡ clash (Some (pos 9)) 6
both_new = refl

-- other keys, and the same key of another table, are apart
other_key : conflict_of (own (op.Put t (row 1) ∷ [])) (then_come (committed (op.Put t (row 2) ∷ op.Put t (row 3) ∷ []) ∷ [])) ≡ None
other_key = refl

-- u's row of the same key is another row
other_table : conflict_of (own (op.Put t (row 5) ∷ [])) (then_come (committed (op.Put u (row 5) ∷ []) ∷ [])) ≡ None
other_table = refl

-- the table was dropped and made anew: its form changed, so there is no key
made_anew : conflict_of (own (op.Put t (row 1) ∷ [])) (then_come (committed (op.DropTable t ∷ op.CreateTable t keys ∷ []) ∷ [])) ≡ clash None 6
made_anew = refl

-- also where the same commit puts the row
made_anew_with_row : conflict_of (own (op.Put t (row 1) ∷ [])) (then_come (committed (op.DropTable t ∷ op.CreateTable t keys ∷ op.Put t (row 1) ∷ []) ∷ [])) ≡ clash None 6
made_anew_with_row = refl

-- another table was dropped
other_dropped : conflict_of (own (op.Put t (row 1) ∷ [])) (then_come (committed (op.DropTable u ∷ []) ∷ [])) ≡ None
other_dropped = refl

-- its database was dropped, or another one
database_dropped : conflict_of (own (op.Put t (row 1) ∷ [])) (then_come (committed (op.DropDb (codes "d") ∷ []) ∷ [])) ≡ clash None 6
database_dropped = refl

-- e was dropped, and the transaction wrote d alone
other_database_dropped : conflict_of (own (op.Put t (row 1) ∷ [])) (then_come (committed (op.CreateDb (codes "e") ∷ []) ∷ committed (op.DropDb (codes "e") ∷ []) ∷ [])) ≡ None
other_database_dropped = refl

-- of two commits that meet it the first is told, with the own operation that this one meets, which is the second
first_commit : conflict_of (own (op.Put t (row 1) ∷ op.Put t (row 2) ∷ [])) (then_come (committed (op.Put t (row 2) ∷ []) ∷ committed (op.Put t (row 1) ∷ []) ∷ [])) ≡ clash (Some (pos 2)) 6
first_commit = refl

-- the first that meets it needn't be the first above the snapshot
third_commit : conflict_of (own (op.Put t (row 1) ∷ [])) (then_come (committed (op.Put t (row 2) ∷ []) ∷ event.Flush (b 8) ∷ committed (op.Del t (pos 1) ∷ []) ∷ [])) ≡ clash (Some (pos 1)) 8
third_commit = refl

-- of two own operations that one commit meets the first is told, whatever the commit's order
first_own : conflict_of (own (op.Put t (row 2) ∷ op.Put t (row 1) ∷ [])) (then_come (committed (op.Put t (row 1) ∷ op.Put t (row 2) ∷ []) ∷ [])) ≡ clash (Some (pos 2)) 6
first_own = refl

-- a row that the transaction put and deleted again counts as written
put_and_gone : conflict_of (own (op.Put t (row 9) ∷ op.Del t (pos 9) ∷ [])) (then_come (committed (op.Put t (row 9) ∷ []) ∷ [])) ≡ clash (Some (pos 9)) 6
put_and_gone = refl

-- commits below the snapshot are seen, and no conflict: event 3 put the row of the key 1
below_snapshot : conflict_of (own (op.Put t (row 1) ∷ [])) (then_come []) ≡ None
below_snapshot = refl

-- the event at the snapshot's place isn't above it
at_snapshots_place : conflict_of (record { snapshot = Some 6; operations = op.Put t (row 1) ∷ [] }) (then_come (committed (op.Put t (row 1) ∷ []) ∷ [])) ≡ None
at_snapshots_place = refl

-- without operations, or without a snapshot, nothing can be met
nothing_written : conflict_of (own []) (then_come (committed (op.DropDb (codes "d") ∷ []) ∷ [])) ≡ None
nothing_written = refl

-- a transaction without snapshot has written nothing yet
without_snapshot : conflict_of (record { snapshot = None; operations = [] }) (then_come (committed (op.DropDb (codes "d") ∷ []) ∷ [])) ≡ None
without_snapshot = refl

-- ---- a key that isn't the first column

abbrev pub w : TableName
w = record { db = codes "d"; name = codes "w" }

abbrev pub pair : ℕ → ℕ → List Value
pair x k = value.Int (pos x) ∷ value.Int (pos k) ∷ []

abbrev pub with_w : List RowOp → Journal
with_w ops = made ∷ event.Commit (a 2) (op.CreateTable w (record { name = codes "x"; kind = kind.Int; not_null = false; primary = false } ∷ keys) ∷ []) ∷ event.Run (a 3) how.Other ∷ committed ops ∷ []

abbrev pub own_w : List RowOp → Transaction
own_w ops = record { snapshot = Some 3; operations = ops }

-- one key with two values of x is one row
one_key : conflict_of (own_w (op.Put w (pair 1 7) ∷ [])) (with_w (op.Put w (pair 2 7) ∷ [])) ≡ Some (record { table = w; key = Some (pos 7); by = 4 })
one_key = refl

-- one value of x under two keys is two rows
two_keys : conflict_of (own_w (op.Put w (pair 1 7) ∷ [])) (with_w (op.Put w (pair 1 8) ∷ [])) ≡ None
two_keys = refl
