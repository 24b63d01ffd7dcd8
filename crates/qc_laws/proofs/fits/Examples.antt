-- The definitions on small examples, by computation: what the laws suppose is met, and what they refuse is refused.
use Rattle.std.proofs.Common.{◌≡◌, ℕ, ℤ, arith, Option, List, [], ◌∷◌, refl, true, false, Ok, None}
use Rattle.std.specs.Prelude.{codes, Some, pos}
use Rattle.qc_types.specs.declared.names.TableName.{TableName}
use Rattle.qc_types.specs.declared.names.Value.{Value}
use Rattle.qc_types.specs.declared.names.Value.TheVariants as value
use Rattle.qc_types.specs.declared.options.Options.{Options}
use Rattle.qc_sql.specs.declared.replies.Reply.TheVariants as reply
use Rattle.qc_sql.specs.declared.tables.Column.{Column}
use Rattle.qc_sql.specs.declared.tables.Kind.TheVariants as kind
use Rattle.qc_sql.specs.declared.tables.RowOp.{RowOp}
use Rattle.qc_sql.specs.declared.tables.RowOp.TheVariants as op
use Rattle.qc_sql.specs.declared.statements.TableRef.{TableRef}
use Rattle.qc_sql.specs.declared.statements.Statement.{Statement}
use Rattle.qc_sql.specs.declared.statements.Statement.TheVariants as statement
use Rattle.qc_sql.specs.declared.statements.Part.TheVariants as part
use Rattle.qc_sql.specs.declared.statements.PartKind.TheVariants as part_kind
use Rattle.qc_sql.specs.declared.statements.Right.TheVariants as right
use Rattle.qc_sql.specs.Database.{Database, apply, columns_of, row_of}
use Rattle.qc_sql.specs.Effects.{effect, effect_of}
use Rattle.qc_model.specs.declared.events.Who.{Who}
use Rattle.qc_model.specs.declared.events.Event.{Event}
use Rattle.qc_model.specs.declared.events.Event.TheVariants as event
use Rattle.qc_model.specs.declared.events.How.TheVariants as how
use Rattle.qc_model.specs.Journal.{Journal, present}
use Rattle.qc_model.specs.Session.{Transaction, State, at_snapshot}
use Rattle.qc_model.specs.Conflicts.{conflict_of}
use Rattle.qc_model.specs.Machine.{full_table, ExecutesStatement}
use Rattle.qc_model.specs.Licence.{ops_fit, is_within_rows, columns_fit}
use Rattle.qc_laws.specs.fits.Sound.{commits_fit}
use Rattle.qc_model.specs.Sound.{IsSoundDatabase}
use Rattle.qc_laws.specs.fits.Open.{IsFitting, IsAtRest}
use Rattle.qc_laws.proofs.fits.Stays.{sound_stays, sound_empty}

unfoldable t : TableName
t = record { db = codes "d"; name = codes "t" }

unfoldable ref : TableRef
ref = record { db = Some (codes "d"); name = codes "t" }

unfoldable id : Column
id = record { name = codes "id"; kind = kind.Int; not_null = true; primary = true }

unfoldable v : Column
v = record { name = codes "v"; kind = kind.Str 5; not_null = false; primary = false }

unfoldable row : ℤ → List ℕ → List Value
row key text = value.Int key ∷ value.Str text ∷ []

unfoldable made : List RowOp
made = op.CreateDb (codes "d") ∷ op.CreateTable t (id ∷ v ∷ []) ∷ op.Put t (row (pos 1) (codes "one")) ∷ op.Put t (row (pos 2) (codes "two")) ∷ []

unfoldable d : Database
d = apply made []

-- ---- a sound database

made_fit : ops_fit made [] ≡ true
unfolding made t id v row
made_fit = refl

d_is_sound : IsSoundDatabase d
unfolding d
d_is_sound = sound_stays made [] sound_empty made_fit

d_is_within : is_within_rows d ≡ true
unfolding d made t id v row
d_is_within = refl

-- a text of six bytes, a key that isn't there, a table that is there, and two columns of one name
too_long_text : ops_fit (op.Put t (row (pos 3) (codes "longer")) ∷ []) d ≡ false
unfolding d made t id v row
too_long_text = refl

deleted_twice : ops_fit (op.Del t (pos 1) ∷ op.Del t (pos 1) ∷ []) d ≡ false
unfolding d made t id v row
deleted_twice = refl

made_twice : ops_fit (op.CreateTable t (id ∷ []) ∷ []) d ≡ false
unfolding d made t id v row
made_twice = refl

named_twice : columns_fit (id ∷ v ∷ v ∷ []) ≡ false
unfolding id v
named_twice = refl

-- ---- statements

unfoldable insert : Statement
insert = statement.Insert (record { table = ref; names = Some (codes "v" ∷ codes "id" ∷ []); rows = (value.Str (codes "three") ∷ value.Int (pos 3) ∷ []) ∷ [] })

inserted : effect insert d [] 1 ≡ Ok (effect_of (op.Put t (row (pos 3) (codes "three")) ∷ []) 1)
unfolding effect insert d made t ref id v row
inserted = refl

unfoldable update : Statement
update = statement.Update (record { table = ref; sets = record { name = codes "v"; right = right.Literal (value.Str (codes "one")) } ∷ []; cond = None })

-- the row that stays the same isn't put
updated : effect update d [] 1 ≡ Ok (effect_of (op.Put t (row (pos 2) (codes "one")) ∷ []) 1)
unfolding effect update d made t ref id v row
updated = refl

unfoldable delete : Statement
delete = statement.Delete (record { table = ref; cond = None })

deleted : effect delete d [] 1 ≡ Ok (effect_of (op.Del t (pos 1) ∷ op.Del t (pos 2) ∷ []) 2)
unfolding effect delete d made t ref id v row
deleted = refl

deletes_fit : ops_fit (op.Del t (pos 1) ∷ op.Del t (pos 2) ∷ []) d ≡ true
unfolding d made t id v row
deletes_fit = refl

unfoldable create : Statement
create = statement.CreateTable (record { db = None; name = codes "u" }) (part.Column (codes "k") part_kind.BigInt false false ∷ part.Primary (codes "k") ∷ [])

created : effect create d (codes "d") 1 ≡ Ok (effect_of (op.CreateTable (record { db = codes "d"; name = codes "u" }) (record { name = codes "k"; kind = kind.Int; not_null = true; primary = true } ∷ []) ∷ []) 0)
unfolding effect create d made t id v row
created = refl

-- ---- a transaction that deletes a row, with its snapshot at the second event

unfoldable who : ℕ → ℕ → Who
who session n = record { session = session; number = n }

unfoldable deletes_one : Transaction
deletes_one = record { snapshot = Some 2; operations = op.Del t (pos 1) ∷ [] }

unfoldable own_event : Event
own_event = event.Run (who 2 1) how.Other

-- another session writes another row
unfoldable kept : Journal
kept = event.Commit (who 1 1) made ∷ own_event ∷ event.Commit (who 1 2) (op.Put t (row (pos 2) (codes "2")) ∷ []) ∷ []

kept_commits_fit : commits_fit [] kept ≡ true
unfolding kept own_event made t id v row who
kept_commits_fit = refl

kept_is_free : conflict_of deletes_one kept ≡ None
unfolding deletes_one kept own_event made t id v row who
kept_is_free = refl

kept_fits_before : ops_fit deletes_one.operations (at_snapshot deletes_one.snapshot kept) ≡ true
unfolding deletes_one kept own_event made t id v row who
kept_fits_before = refl

kept_fits : ops_fit deletes_one.operations (present kept) ≡ true
unfolding deletes_one kept own_event made t id v row who
kept_fits = refl

rows_are : row_of t (pos 1) (present kept) ≡ row_of t (pos 1) (at_snapshot (Some 2) kept)
unfolding kept own_event made t id v row who
rows_are = refl

columns_are : columns_of t (present kept) ≡ Some (id ∷ v ∷ [])
unfolding kept own_event made t id v row who
columns_are = refl

not_full : full_table (present kept) ≡ None
unfolding kept own_event made t id v row who
not_full = refl

kept_is_fitting : IsFitting deletes_one kept
unfolding deletes_one kept own_event made t id v row who
kept_is_fitting = record { rows = refl; fit = refl; within = refl; placed = (omega arith, omega arith, refl) }

kept_rests : IsAtRest (Some deletes_one) kept
unfolding deletes_one kept own_event made t id v row who
kept_rests = record { fitting = kept_is_fitting; settled = omega arith }

unfoldable options : Options
options = record { size = 0; limit = 0; unit = 4096; kind = 0 }

unfoldable open_in : Option Transaction → State
open_in o = record { session = 2; db = codes "d"; autocommit = true; charset = 33; ansi = false; row_limit = 1000; kind = 0; transaction = o }

-- COMMIT commits what fits
commit_is : ExecutesStatement options (who 2 2) (open_in (Some deletes_one)) (codes "COMMIT") kept statement.Commit (event.Commit (who 2 2) (op.Del t (pos 1) ∷ [])) (reply.Ok 0 2) (open_in None)
unfolding options open_in deletes_one kept own_event made t id v row who
commit_is = (refl, refl, refl)

-- another session deletes the row first
unfoldable lost : Journal
lost = event.Commit (who 1 1) made ∷ own_event ∷ event.Commit (who 1 2) (op.Del t (pos 1) ∷ []) ∷ []

lost_conflicts : conflict_of deletes_one lost ≡ Some (record { table = t; key = Some (pos 1); by = 3 })
unfolding deletes_one lost own_event made t id v row who
lost_conflicts = refl

lost_is_none : ops_fit deletes_one.operations (present lost) ≡ false
unfolding deletes_one lost own_event made t id v row who
lost_is_none = refl

-- A commit at the place of the snapshot itself would meet nothing, and still take the row away. So the law supposes that there is none.
unfoldable taken : Journal
taken = event.Commit (who 1 1) made ∷ event.Commit (who 1 2) (op.Del t (pos 1) ∷ []) ∷ []

taken_is_free : conflict_of deletes_one taken ≡ None
unfolding deletes_one taken made t id v row who
taken_is_free = refl

taken_fits_before : ops_fit deletes_one.operations (at_snapshot deletes_one.snapshot taken) ≡ true
unfolding deletes_one taken made t id v row who
taken_fits_before = refl

taken_is_none : ops_fit deletes_one.operations (present taken) ≡ false
unfolding deletes_one taken made t id v row who
taken_is_none = refl
