-- Whether a database has room for what operations make of it.
use Rattle.std.proofs.Common.{◌≡◌, true, refl, sym, ◌∙◌, Option, Some, None, Ok, Err}
use Rattle.qc_types.specs.declared.names.TableName.{TableName}
use Rattle.qc_sql.specs.Database.{Database}
use Rattle.qc_laws.proofs.fits.Full.{within_is_not_full}
use Rattle.qc_model.specs.Licence.{is_within_rows}
use Rattle.qc_model.specs.Machine.{full_table}
use Rattle.qc_table.specs.Fitting.{fitting, unless}

by_room : (o : Option TableName) (d given : Database) → unless o d ≡ Ok given → (o ≡ None) × (given ≡ d)
by_room None d given h = let same : ◌≡◌ {A = Database} d given = cc in (refl, sym same)
by_room (Some t) d given h = absurd cc

pub has_room : (d given : Database) → fitting d ≡ Ok given → (full_table d ≡ None) × (given ≡ d)
has_room d given h = by_room (full_table d) d given h

by_full : (o : Option TableName) (d : Database) (t : TableName) → unless o d ≡ Err t → o ≡ Some t
by_full None d t h = absurd cc
by_full (Some u) d t h = let same : u ≡ t = cc in λ i. Some (same i)

pub is_full : (d : Database) (t : TableName) → fitting d ≡ Err t → full_table d ≡ Some t
is_full d t h = by_full (full_table d) d t h

pub never_refused : {P : Type 0} (d : Database) (t : TableName) → is_within_rows d ≡ true → fitting d ≡ Err t → P
never_refused d t h e = absurd (let both : None ≡ Some t = sym (within_is_not_full d h) ∙ is_full d t e in cc)
