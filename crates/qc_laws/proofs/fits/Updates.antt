-- UPDATE and DELETE: the rows that are put fit and stand under keys that are there, and those that are deleted are there.
use Rattle.std.proofs.Common.{◌≡◌, ℕ, ℤ, Bool, true, false, not, cond, List, [], ◌∷◌, map, refl, sym, ap, ◌∙◌, subst, Option, Some, Ok, true≢false}
use Rattle.std.specs.Prelude.{◌&&◌, bytes_eq, codes, filter, is_some}
use Rattle.std.specs.List.{AllByRecursion}
use Rattle.std.specs.Ordering.{int_cmp}
use Rattle.std.specs.BTreeMap.{is_at}
use Rattle.std.specs.Map.{lookup}
use Rattle.std.proofs.lemmas.Bool.{and_parts}
use Rattle.qc_types.specs.declared.names.TableName.{TableName}
use Rattle.qc_types.specs.declared.names.Value.{Value}
use Rattle.qc_sql.specs.declared.tables.Column.{Column}
use Rattle.qc_sql.specs.declared.tables.RowOp.TheVariants as op
use Rattle.qc_sql.specs.declared.statements.Assignment.{Assignment}
use Rattle.qc_sql.specs.declared.statements.Right.{Right}
use Rattle.qc_sql.specs.declared.statements.Right.TheVariants as right
use Rattle.qc_sql.specs.declared.statements.Update.{Update}
use Rattle.qc_sql.specs.declared.statements.TableRef.{TableRef}
use Rattle.qc_sql.specs.declared.statements.Cond.{Cond}
use Rattle.qc_sql.specs.Database.{Name, MapOf, Table, Database, table_of, key_of, key_value}
use Rattle.qc_sql.specs.Rules.{full_name}
use Rattle.qc_sql.specs.Rows.{◌>>=◌, condition, mixes, sort_of_kind}
use Rattle.qc_sql.specs.Effects.{Effect, is_other_sort, Set, right_side, assignment, with_value, assigned, labelled, same_values, values_in, value_named, matching, scope_of, update_effect, delete_effect}
use Rattle.qc_sql.specs.Errors.{not_supported}
use Rattle.qc_model.specs.Licence.{kind_fits, value_fits, row_fits}
use Rattle.qc_model.specs.Sound.{IsRow, IsSoundTable}
use Rattle.qc_laws.proofs.fits.Maps.{Rises, rises_filtered, key_at_itself}
use Rattle.qc_laws.proofs.fits.Given.{each_both, each_mapped, each_filtered, each_of, Given, gives, after, weaker, Anything, unless, anyway, each_given}
use Rattle.qc_laws.proofs.fits.Columns.{name_is, called, IsCalled, called_is, called_given, columns_called, same_column, stored_given, fits_sort}
use Rattle.qc_laws.proofs.fits.Tables.{puts, dels, AreThere}
use Rattle.qc_laws.proofs.fits.Inserts.{bound_given}

-- ---- cells

-- a value for each column, under its name
abbrev AreCells : List Column → List (Name × Value) → Type 0
AreCells [] [] = Unit {0}
AreCells (c ∷ cs) (g ∷ gs) = (g.0 ≡ c.name) × (value_fits c g.1 ≡ true) × AreCells cs gs
AreCells [] (g ∷ gs) = ⊥
AreCells (c ∷ cs) [] = ⊥

cells_of_row : (cs : List Column) (row : List Value) → row_fits cs row ≡ true → AreCells cs (labelled cs row)
cells_of_row [] [] h = tt
cells_of_row [] (v ∷ vs) h = absurd (true≢false (sym h))
cells_of_row (c ∷ cs) [] h = absurd (true≢false (sym h))
cells_of_row (c ∷ cs) (v ∷ vs) h = let parts = and_parts (value_fits c v) (row_fits cs vs) h in (refl, parts.0, cells_of_row cs vs parts.1)

values_of_row : (cs : List Column) (row : List Value) → row_fits cs row ≡ true → values_in (labelled cs row) ≡ row
values_of_row [] [] h = refl
values_of_row [] (v ∷ vs) h = absurd (true≢false (sym h))
values_of_row (c ∷ cs) [] h = absurd (true≢false (sym h))
values_of_row (c ∷ cs) (v ∷ vs) h = ap (λ rest. v ∷ rest) (values_of_row cs vs (and_parts (value_fits c v) (row_fits cs vs) h).1)

row_of_cells : (cs : List Column) (gs : List (Name × Value)) → AreCells cs gs → row_fits cs (values_in gs) ≡ true
row_of_cells [] [] h = refl
row_of_cells [] (g ∷ gs) h = absurd h
row_of_cells (c ∷ cs) [] h = absurd h
row_of_cells (c ∷ cs) (g ∷ gs) h = ap (λ b. b && row_fits cs (values_in gs)) h.1 ∙ row_of_cells cs gs h.2

-- the value under a column's name fits it
value_in_cells : (name : Name) (c : Column) (cs : List Column) (gs : List (Name × Value)) → called name cs ≡ Some c → AreCells cs gs → value_fits c (value_named name gs) ≡ true
value_in_cells name c [] gs is h = absurd cc
value_in_cells name c (d ∷ ds) [] is h = absurd h
value_in_cells name c (d ∷ ds) (g ∷ gs) is h =
    elim (bytes_eq g.0 name) as (λ b. bytes_eq g.0 name ≡ b → value_fits c (cond b g.1 (value_named name gs)) ≡ true) [
      | true ↦ λ p.
          let first = sym (ap (λ b. cond b (Some d) (called name ds)) (ap (λ n. bytes_eq n name) (sym h.0) ∙ p)) ∙ is in
          subst (λ (z : Column). value_fits z g.1 ≡ true) (one d c first) h.1
      | false ↦ λ p. value_in_cells name c ds gs (sym (ap (λ b. cond b (Some d) (called name ds)) (ap (λ n. bytes_eq n name) (sym h.0) ∙ p)) ∙ is) h.2
    ] refl
  where
    one : (y z : Column) → Some y ≡ Some z → y ≡ z
    one y z q = cc

-- ---- assignments

-- an assignment to a column that isn't the key, of values that may stand there
record IsSet (columns : List Column) (s : Set) : Type 0 where
  called : IsCalled columns s.column
  plain : s.column.primary ≡ false
  sort : (gs : List (Name × Value)) → AreCells columns gs → is_other_sort s.column.kind (s.value_in gs) ≡ false

right_given : (columns : List Column) (c : Column) (r : Right) → Given (λ f. (gs : List (Name × Value)) → AreCells columns gs → is_other_sort c.kind (f gs) ≡ false) (right_side columns c r)
right_given columns c (right.Literal v) = after _ (unless (is_other_sort c.kind v) (not_supported (codes "mixed value"))) (λ _ sort. gives (λ gs h. sort))
right_given columns c (right.Column name) =
    after _ (called_given name columns) (λ from is.
    after _ (unless (mixes (sort_of_kind c.kind) (sort_of_kind from.kind)) (not_supported (codes "mixed value"))) (λ _ sort.
    gives (λ gs h. fits_sort c.kind from.kind (value_named name gs) sort (and_parts (kind_fits from.kind (value_named name gs)) _ (value_in_cells name from columns gs is h)).0)))

assignment_given : (columns : List Column) (a : Assignment) → Given (IsSet columns) (assignment columns a)
assignment_given columns a =
    after _ (called_given a.name columns) (λ c is.
    after _ (unless c.primary (not_supported (codes "key change"))) (λ _ plain.
    after _ (right_given columns c a.right) (λ f sort. gives (record { called = called_is a.name columns c is; plain = plain; sort = sort }))))

-- cells of the same key
record AreCellsLike (columns : List Column) (gs hs : List (Name × Value)) : Type 0 where
  cells : AreCells columns hs
  key : key_of columns (values_in hs) ≡ key_of columns (values_in gs)

abbrev put_cell : Name → Value → Name × Value → Name × Value
put_cell name v cell = cond (bytes_eq cell.0 name) (name, v) cell

-- a value of a column that isn't the key
cells_changed : (all : List Column) (c : Column) (v : Value) (cs : List Column) (gs : List (Name × Value)) → IsCalled all c → c.primary ≡ false → value_fits c v ≡ true → AllByRecursion (IsCalled all) cs → AreCells cs gs
    → AreCellsLike cs gs (with_value c.name v gs)
cells_changed all c v [] [] is plain fits called h = record { cells = tt; key = refl }
cells_changed all c v [] (g ∷ gs) is plain fits called h = absurd h
cells_changed all c v (d ∷ ds) [] is plain fits called h = absurd h
cells_changed all c v (d ∷ ds) (g ∷ gs) is plain fits called h =
    let rest = cells_changed all c v ds gs is plain fits called.1 h.2 in
    elim (bytes_eq g.0 c.name) as (λ b. bytes_eq g.0 c.name ≡ b → AreCellsLike (d ∷ ds) (g ∷ gs) (cond b (c.name, v) g ∷ with_value c.name v gs)) [
      | true ↦ λ p.
          let same : c ≡ d = same_column all c d is called.0 (sym (name_is g.0 c.name p) ∙ h.0) in
          let later : d.primary ≡ false = subst (λ (z : Column). z.primary ≡ false) same plain in
          record {
            cells = (ap (λ (z : Column). z.name) same, subst (λ (z : Column). value_fits z v ≡ true) same fits, rest.cells);
            key = behind later v (with_value c.name v gs) ∙ rest.key ∙ sym (behind later g.1 gs);
          }
      | false ↦ λ p. record { cells = (h.0, h.1, rest.cells); key = ap (λ k. cond d.primary (key_value g.1) k) rest.key }
    ] refl
  where
    behind : d.primary ≡ false → (w : Value) (es : List (Name × Value)) → key_of (d ∷ ds) (w ∷ values_in es) ≡ key_of ds (values_in es)
    behind later w es = ap (λ b. cond b (key_value w) (key_of ds (values_in es))) later

assigned_given : (columns : List Column) → AllByRecursion (IsCalled columns) columns → (sets : List Set) (gs : List (Name × Value)) → AllByRecursion (IsSet columns) sets → AreCells columns gs → Given (AreCellsLike columns gs) (assigned sets gs)
assigned_given columns all [] gs h cells = gives (record { cells = cells; key = refl })
assigned_given columns all (s ∷ ss) gs h cells =
    after _ (stored_given s.column (s.value_in gs) (h.0.sort gs cells)) (λ v fits.
    let changed = cells_changed columns s.column v columns gs h.0.called h.0.plain fits all cells in
    weaker (λ hs k. record { cells = k.cells; key = k.key ∙ changed.key }) (assigned_given columns all ss (with_value s.column.name v gs) h.1 changed.cells))

-- ---- the rows

-- a row that fits, in the place of one that is there
abbrev pub IsReplacement : Table → List Value → Type 0
IsReplacement x row = (row_fits x.columns row ≡ true) × (is_some (lookup (is_at (int_cmp (key_of x.columns row))) x.rows) ≡ true)

-- each entry is found
found_behind : (e : ℤ × List Value) (m some : MapOf ℤ (List Value)) → AreThere m some → AreThere (e ∷ m) some
found_behind e m [] h = tt
found_behind e m (s ∷ ss) h = (
  elim (is_at (int_cmp s.0) e.0) as (λ b. is_some (cond b (Some e.1) (lookup (is_at (int_cmp s.0)) m)) ≡ true) [
    | true ↦ refl
    | false ↦ h.0
  ],
  found_behind e m ss h.1,
)

all_found : (m : MapOf ℤ (List Value)) → AreThere m m
all_found [] = tt
all_found (e ∷ m) = (ap (λ b. is_some (cond b (Some e.1) (lookup (is_at (int_cmp e.0)) m))) (key_at_itself e.0), found_behind e m m (all_found m))

-- an entry of a table
abbrev IsEntry : Table → ℤ × List Value → Type 0
IsEntry x e = IsRow x.columns e × (is_some (lookup (is_at (int_cmp e.0)) x.rows) ≡ true)

entries : (x : Table) → IsSoundTable x → AllByRecursion (IsEntry x) x.rows
entries x s = each_both (IsRow x.columns) (λ e. is_some (lookup (is_at (int_cmp e.0)) x.rows) ≡ true) x.rows s.rows (all_found x.rows)

-- ---- UPDATE

puts_of_pairs : (t : TableName) (ps : List (List Value × List Value)) → map (λ p. op.Put t p.1) ps ≡ puts t (map (λ p. p.1) ps)
puts_of_pairs t [] = refl
puts_of_pairs t (p ∷ ps) = ap (λ rest. op.Put t p.1 ∷ rest) (puts_of_pairs t ps)

-- rows of a table are put in the place of others
pub record IsUpdate (d : Database) (t : TableName) (x : Effect) : Type 0 where
  pub table : Table
  pub there : table_of t d ≡ Some table
  pub rows : List (List Value)
  pub operations : x.operations ≡ puts t rows
  pub fit : AllByRecursion (IsReplacement table) rows

replaced_given : (x : Table) → AllByRecursion (IsCalled x.columns) x.columns → (sets : List Set) → AllByRecursion (IsSet x.columns) sets → (e : ℤ × List Value) → IsEntry x e
    → Given (λ (p : List Value × List Value). IsReplacement x p.1) (assigned sets (labelled x.columns e.1) >>= λ row. Ok (e.1, values_in row))
replaced_given x all sets h e is =
    after _ (assigned_given x.columns all sets (labelled x.columns e.1) h (cells_of_row x.columns e.1 is.0.0)) (λ row k.
    let key : e.0 ≡ key_of x.columns (values_in row) = is.0.1 ∙ sym (k.key ∙ ap (key_of x.columns) (values_of_row x.columns e.1 is.0.0)) in
    gives (row_of_cells x.columns row k.cells, subst (λ j. is_some (lookup (is_at (int_cmp j)) x.rows) ≡ true) key is.1))

pub update_given : (d : Database) (db : Name) (session : ℕ) (u : Update) → ((x : Table) → table_of (full_name db u.table) d ≡ Some x → IsSoundTable x) → Given (IsUpdate d (full_name db u.table)) (update_effect d db session u)
update_given d db session u sound =
    let t = full_name db u.table in
    after _ (bound_given d t t.name) (λ b there.
    let s = sound b.table there in
    let all = columns_called b.table.columns s.columns in
    after _ (each_given Anything (IsSet b.table.columns) (assignment b.table.columns) (λ a _. assignment_given b.table.columns a) u.sets (each_of Anything (λ _. tt) u.sets)) (λ sets h.
    after _ (anyway (condition (scope_of b db session) u.cond)) (λ keeps _.
    after _ (each_given (IsEntry b.table) (λ (p : List Value × List Value). IsReplacement b.table p.1) (λ entry. assigned sets (labelled b.table.columns entry.1) >>= λ row. Ok (entry.1, values_in row))
    (replaced_given b.table all sets h) (matching b.table keeps) (each_filtered (IsEntry b.table) (λ entry. keeps (entry.1 ∷ [])) b.table.rows (entries b.table s))) (λ pairs f.
    let test : List Value × List Value → Bool = λ p. not (same_values p.0 p.1) in
    gives (record {
      table = b.table;
      there = there;
      rows = map (λ p. p.1) (filter test pairs);
      operations = puts_of_pairs t (filter test pairs);
      fit = each_mapped (λ (p : List Value × List Value). IsReplacement b.table p.1) (IsReplacement b.table) (λ p. p.1) (λ p k. k) (filter test pairs) (each_filtered (λ (p : List Value × List Value). IsReplacement b.table p.1) test pairs f);
    })))))

-- ---- DELETE

-- rows of a table are deleted that are there
pub record IsDelete (d : Database) (t : TableName) (x : Effect) : Type 0 where
  pub table : Table
  pub there : table_of t d ≡ Some table
  pub gone : MapOf ℤ (List Value)
  pub operations : x.operations ≡ dels t gone
  pub rises : Rises gone
  pub found : AreThere table.rows gone

pub delete_given : (d : Database) (db : Name) (session : ℕ) (table : TableRef) (c : Option Cond) → ((x : Table) → table_of (full_name db table) d ≡ Some x → IsSoundTable x) → Given (IsDelete d (full_name db table)) (delete_effect d db session table c)
delete_given d db session table c sound =
    let t = full_name db table in
    after _ (bound_given d t t.name) (λ b there.
    let s = sound b.table there in
    after _ (anyway (condition (scope_of b db session) c)) (λ keeps _.
    gives (record {
      table = b.table;
      there = there;
      gone = matching b.table keeps;
      operations = refl;
      rises = rises_filtered (λ entry. keeps (entry.1 ∷ [])) b.table.rows s.ordered;
      found = each_filtered (λ e. is_some (lookup (is_at (int_cmp e.0)) b.table.rows) ≡ true) (λ entry. keeps (entry.1 ∷ [])) b.table.rows (all_found b.table.rows);
    })))
