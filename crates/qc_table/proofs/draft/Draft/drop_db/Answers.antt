-- What is removed goes.
use Rattle.std.proofs.Common.{refl}
use Rattle.qc_table.proofs.draft.Draft.drop_db.Goals as goal

pub returns : goal.returns
returns c = rw (c.remove.ensures, c.bytes.ensures, ← c.self.view_is) refl
