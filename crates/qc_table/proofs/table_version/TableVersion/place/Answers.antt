-- A search by the keys' order.
use Rattle.std.proofs.Common.{w64}
use Rattle.std.proofs.lemmas.Int.{to_z-of_z}
use Rattle.std.proofs.lemmas.Map.Entries.{length-keys_of}
use Rattle.qc_table.proofs.Places.{found}
use Rattle.qc_table.proofs.table_version.TableVersion.place.Goals as goal

pub returns-clause-found : goal.returns-clause-found
returns-clause-found c =
    let rows = c.args.self.now.rows in
    let keys = rw (c.deref.ensures, c.self.view_is) at c.keys.ensures in
    let bound = rw keys at c.binary_search.ensures.bound in
    let position = rw (keys, to_z-of_z w64 c.args.key c.ranges.key) at c.binary_search.ensures.position in
    let ordered = rw c.self.view_is at c.self.invariant.sound.ordered in
    let at = found c.args.key rows c.binary_search.result ordered bound position in
    rw (c.ok.ensures.value, ← (length-keys_of rows)) at
