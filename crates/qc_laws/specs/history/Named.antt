-- The tables of entries.
use Rattle.std.specs.Prelude.{◌≡◌, true, List, is_some}
use Rattle.std.specs.List.{AllByRecursion}
use Rattle.qc_types.specs.declared.names.TableName.{TableName}
use Rattle.qc_types.specs.declared.options.Options.{Options}
use Rattle.qc_sql.specs.Database.{Database, table_of}
use Rattle.qc_model.specs.Journal.{Journal, present}
use Rattle.qc_model.specs.Cache.{cache}
use Rattle.qc_model.specs.Licence.{IsLawful}

abbrev pub AreThere : Database → List TableName → Type 0
AreThere d tables = AllByRecursion (λ t. is_some (table_of t d) ≡ true) tables

-- an entry of the cache names only tables that are there
abbrev pub TablesAreThere : Type 0
TablesAreThere = (options : Options) (j : Journal) → IsLawful options j → AllByRecursion (λ entry. AreThere (present j) entry.tables) (cache j)
