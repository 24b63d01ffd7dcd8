-- The tables of an entry are there, since it has an answer.
use Rattle.std.proofs.Common.{◌≡◌, ℕ, Bool, true, false, cond, List, [], ◌∷◌, refl, sym, subst, Result, Ok, Err}
use Rattle.std.specs.Prelude.{Option, Some, None, not, is_some, map, option_map}
use Rattle.std.specs.List.{list_any, AllByRecursion, concat}
use Rattle.qc_types.specs.declared.names.TableName.{TableName}
use Rattle.qc_types.specs.declared.names.Why.{Why}
use Rattle.qc_types.specs.declared.sql_error.SqlError.{SqlError}
use Rattle.qc_sql.specs.declared.session.Flags.{Flags}
use Rattle.qc_sql.specs.declared.statements.Select.{Select}
use Rattle.qc_sql.specs.declared.statements.Source.{Source}
use Rattle.qc_sql.specs.declared.statements.Statement.{Statement}
use Rattle.qc_sql.specs.declared.statements.Statement.TheVariants as statement
use Rattle.qc_sql.specs.Database.{Name, Database, Table, Tables, tables_of, table_of, same_table}
use Rattle.qc_sql.specs.Errors.{no_database_selected, unknown_database}
use Rattle.qc_sql.specs.Grammar.{meaning, ParseFault}
use Rattle.qc_sql.specs.Rows.{Rows, rows, rows_over, ◌>>=◌, each, refuse_if, found_table, Bound, bind}
use Rattle.qc_sql.specs.Rules.{full_name, each_once, select_tables, why_not}
use Rattle.qc_sql.proofs.Depends.{bind_ok}
use Rattle.qc_model.specs.Journal.{Journal, present}
use Rattle.qc_model.specs.Cache.{Entry, cache}
use Rattle.qc_model.specs.Session.{is_key_of, KeyParts, parts_of, packets_unless, kept_packets, answer_packets, answer}
use Rattle.qc_model.specs.Licence.{tables_of_statement, tables_of_key}
use Rattle.qc_laws.specs.history.Runs.{IsKept}
use Rattle.qc_laws.specs.history.Named.{AreThere, TablesAreThere}
use Rattle.qc_laws.proofs.history.Events.{all_on}
use Rattle.qc_laws.proofs.history.Stays.{answers_stay}

-- a bound table, by the tables of its database
abbrev bound_by : TableName → Name → Bool → Option Tables → Option Table → Result Bound SqlError
bound_by t called nameless o table =
    refuse_if nameless no_database_selected >>= λ _.
    refuse_if (not (is_some o)) (unknown_database t.db) >>= λ _.
    found_table t table >>= λ found.
    Ok (record { called = called; name = t; table = found })

bound_there : (t : TableName) (called : Name) (nameless : Bool) (o : Option Tables) (x : Option Table) (b : Bound) → bound_by t called nameless o x ≡ Ok b → is_some x ≡ true
bound_there t called true o x b h = absurd cc
bound_there t called false None x b h = absurd cc
bound_there t called false (Some ts) None b h = absurd cc
bound_there t called false (Some ts) (Some table) b h = refl

each_there : (d : Database) (db : Name) (ss : List Source) (bs : List Bound) → each (bind d db) ss ≡ Ok bs → AreThere d (map (λ source. full_name db source.table) ss)
each_there d db [] bs h = tt
each_there d db (s ∷ ss) bs h =
    let t = full_name db s.table in
    let first = bind_ok (bind d db s) (λ y. each (bind d db) ss >>= λ ys. Ok (y ∷ ys)) bs h in
    let others = bind_ok (each (bind d db) ss) (λ ys. Ok (first.0 ∷ ys)) bs first.2 in
    (bound_there t s.name _ (tables_of t.db d) (table_of t d) first.0 first.1, each_there d db ss others.0 others.1)

rows_there : (s : Select) (d : Database) (db : Name) (flags : Flags) (session : ℕ) (r : Rows) → rows s d db flags session ≡ Ok r → AreThere d (map (λ source. full_name db source.table) s.from)
unfolding rows
rows_there s d db flags session r h =
    let unlocked = bind_ok _ (λ _. each (bind d db) s.from >>= rows_over s db flags session) r h in
    let bounds = bind_ok (each (bind d db) s.from) (rows_over s db flags session) r unlocked.2 in
    each_there d db s.from bounds.0 bounds.1

once_there : (P : TableName → Type 0) (seen ts : List TableName) → AllByRecursion P ts → AllByRecursion P (each_once seen ts)
once_there P seen [] h = tt
once_there P seen (t ∷ ts) h = elim (list_any (same_table t) seen) as (λ b. AllByRecursion P (cond b (each_once seen ts) (t ∷ each_once (t ∷ seen) ts))) [
  | true ↦ once_there P seen ts h.1
  | false ↦ (h.0, once_there P (t ∷ seen) ts h.1)
]

packets_there : (parts : KeyParts) (w : Option Why) (r : Result Rows SqlError) (a : List ℕ) → option_map concat (packets_unless parts w r) ≡ Some a → (x : Rows) × (r ≡ Ok x)
packets_there parts None (Ok x) a h = (x, refl)
packets_there parts None (Err x) a h = absurd cc
packets_there parts (Some y) r a h = absurd cc

kept_there : (parts : KeyParts) (m : Result Statement ParseFault) (d : Database) (a : List ℕ) → option_map concat (kept_packets parts d m) ≡ Some a → AreThere d (tables_of_statement parts.db m)
kept_there parts (Ok (statement.Select s)) d a h =
    let r = packets_there parts (why_not parts.db s) (rows s d parts.db parts.flags 0) a h in
    once_there (λ t. is_some (table_of t d) ≡ true) [] (map (λ source. full_name parts.db source.table) s.from) (rows_there s d parts.db parts.flags 0 r.0 r.1)
kept_there parts m d a h = absurd cc

key_there : (b : Bool) (x : Option (List (List ℕ))) (a : List ℕ) → option_map concat (cond b x None) ≡ Some a → option_map concat x ≡ Some a
key_there true x a h = h
key_there false x a h = absurd cc

pub answer_there : (key : List ℕ) (d : Database) (a : List ℕ) → answer key d ≡ Some a → AreThere d (tables_of_key key)
unfolding answer_packets
answer_there key d a h =
    let parts = parts_of key in
    let m = meaning parts.text parts.flags.ansi in
    kept_there parts m d a (key_there (is_key_of parts key) (kept_packets parts d m) a h)

pub tables_are_there : TablesAreThere
tables_are_there o j h =
    all_on (IsKept j) (λ (x : Entry). AreThere (present j) x.tables) (cache j) (λ x k. subst (AreThere (present j)) (sym k.tables) (answer_there x.key (present j) k.bytes k.now)) (answers_stay o j h)
