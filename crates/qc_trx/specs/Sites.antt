-- An index of the first own operation that writes each row, or a row of each table, or of each database.
use Rattle.std.specs.Prelude.{◌≡◌, ℕ, ◌≤◌, ℤ, Bool, true, false, ◌&&◌, List, drop, length, Option, is_some, bytes_eq}
use Rattle.std.specs.List.{position_from}
use Rattle.std.specs.Ordering.{int_cmp, is_eq}
use Rattle.std.specs.Map.{lookup}
use Rattle.qc_types.specs.declared.names.TableName.{TableName}
use Rattle.qc_sql.specs.Database.{Name, same_table}
use Rattle.qc_sql.specs.Words.{◌or_else◌}
use Rattle.qc_trx.specs.declared.sites.Site.{Site}
use Rattle.qc_trx.specs.declared.sites.Site.TheVariants as site
use Rattle.qc_trx.specs.declared.writes.OwnRow.{OwnRow}
use Rattle.qc_trx.specs.Writes.{is_of_database, is_of_table, is_own, is_row_of}

-- what a site stands for
pub data Scope : Type 0 where
  OfDatabase : (db : Name) → Scope
  OfTable : (table : TableName) → Scope
  OfRow : (table : TableName) → (key : ℤ) → Scope

abbrev pub scope : Site → Scope
scope (site.Database db) = OfDatabase db.items
scope (site.Table db name) = OfTable (record { db = db.items; name = name.items })
scope (site.Row key db name) = OfRow (record { db = db.items; name = name.items }) key

-- whether a row is in it
abbrev pub is_in : Scope → OwnRow → Bool
is_in (OfDatabase db) r = is_of_database db r
is_in (OfTable t) r = is_of_table t r
is_in (OfRow t key) r = is_row_of t key r

abbrev pub is_site_of : Site → OwnRow → Bool
is_site_of q r = is_in (scope q) r

abbrev pub same_scope : Scope → Scope → Bool
same_scope (OfDatabase db) (OfDatabase other) = bytes_eq db other
same_scope (OfTable t) (OfTable u) = same_table t u
same_scope (OfRow t key) (OfRow u other) = is_eq (int_cmp key other) && same_table t u
same_scope p q = false

-- the sites with the numbers that are entered for them, in order
abbrev pub Entries : Type 0
Entries = List (Site × ℕ)

-- the number that is entered for a site
abbrev pub at_site : Site → Entries → Option ℕ
at_site q entries = lookup (λ s. same_scope (scope q) (scope s)) entries

-- the number of the first row from one on that has the site
abbrev pub first_from : Site → ℕ → List (Option OwnRow) → Option ℕ
first_from q from rows = position_from (is_own (is_site_of q)) from (drop from rows)

-- The first so many operations are entered, and of the next one some sites may be. So a number that is found is the first, and else the first stands behind those.
pub record IsIndex (entries : Entries) (entered : ℕ) (rows : List (Option OwnRow)) : Type 0 where
  pub within : entered ≤ length rows
  pub finds : (q : Site) → (at_site q entries or_else first_from q entered rows) ≡ position_from (is_own (is_site_of q)) 0 rows

-- what was entered is
abbrev pub KeepsEntered : Entries → Entries → Type 0
KeepsEntered old new = (q : Site) → is_some (at_site q old) ≡ true → is_some (at_site q new) ≡ true
