-- No row has the key.
use Rattle.std.proofs.Common.{w64}
use Rattle.std.proofs.lemmas.Int.{to_z-of_z}
use Rattle.qc_table.proofs.table_version.TableVersion.find.Goals as goal

pub returns-in-None-clause-found : goal.returns-in-None-clause-found
returns-in-None-clause-found g c = rw (to_z-of_z w64 c.args.key c.ranges.key) at c.in-None.ensures.found
