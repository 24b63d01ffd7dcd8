-- What is removed leaves the others.
use Rattle.std.specs.BTreeMap.{is_at}
use Rattle.qc_sql.specs.Database.{name_cmp}
use Rattle.qc_table.specs.Fitting.{is_within}
use Rattle.qc_table.proofs.InPlace.{each, each_removed}
use Rattle.qc_table.proofs.in_place.drop_db.Goals as goal

pub returns : goal.returns
returns c =
    let left = rw c.bytes.ensures at c.remove.ensures in
    (left, rw left (each_removed (each is_within) (is_at (name_cmp c.args.name.now)) c.args.databases.now c.requires.within))
