-- Which entries use a table that operations touch: by the table that an operation names, or by the database that it drops.
use Rattle.std.proofs.Common.{◌≡◌, ℕ, List, [], ◌∷◌, refl, true, false}
use Rattle.std.specs.Prelude.{codes, pos}
use Rattle.qc_types.specs.declared.names.TableName.{TableName}
use Rattle.qc_sql.specs.declared.tables.RowOp.{RowOp}
use Rattle.qc_sql.specs.declared.tables.RowOp.TheVariants as op
use Rattle.qc_sql.specs.Database.{Table, Database}
use Rattle.qc_dir.specs.declared.entries.Entry.{Entry}
use Rattle.qc_core.specs.Invalidation.{is_named_by, tables_dropped, uses_touched}

abbrev named : List ℕ → List ℕ → TableName
named db name = record { db = db; name = name }

abbrev empty : Table
empty = record { columns = []; rows = [] }

-- d has the tables t and u, and e has one called t
abbrev database : Database
database = (codes "d", (codes "t", empty) ∷ (codes "u", empty) ∷ []) ∷ (codes "e", (codes "t", empty) ∷ []) ∷ []

abbrev on : List TableName → Entry
on tables = record { serial = 1; hash = 0; text = record { first = 0; words = 64 }; text_bytes = 1; tables = tables; chain = record { number = 0 }; complete = true; users = 0 }

-- a row goes: the entries on its table
abbrev row_goes : List RowOp
row_goes = op.Del (named (codes "d") (codes "t")) (pos 1) ∷ []

touched_row : uses_touched row_goes (on (named (codes "d") (codes "u") ∷ named (codes "d") (codes "t") ∷ [])) ≡ true
touched_row = refl

other_table : uses_touched row_goes (on (named (codes "d") (codes "u") ∷ [])) ≡ false
other_table = refl

other_database : uses_touched row_goes (on (named (codes "e") (codes "t") ∷ [])) ≡ false
other_database = refl

-- a database goes: the entries on its tables, though the operation names none
abbrev database_goes : List RowOp
database_goes = op.CreateDb (codes "f") ∷ op.DropDb (codes "d") ∷ []

dropped : tables_dropped database_goes database ≡ named (codes "d") (codes "t") ∷ named (codes "d") (codes "u") ∷ []
dropped = refl

touched_database : uses_touched database_goes (on (named (codes "d") (codes "u") ∷ [])) ≡ true
touched_database = refl

names_none : is_named_by (op.DropDb (codes "d")) (on (named (codes "d") (codes "u") ∷ [])) ≡ false
names_none = refl

kept_database : uses_touched database_goes (on (named (codes "e") (codes "t") ∷ [])) ≡ false
kept_database = refl
