-- What is written through the shared value is the version.
use Rattle.qc_table.specs.Tables.{IsStored}
use Rattle.qc_table.proofs.Placing.{dels_stored}
use Rattle.qc_table.proofs.table_version.TableVersion.remove_rows.Goals as goal
use Rattle.qc_table.proofs.table_version.TableVersion.remove_rows.Goals.{in-Some, in-None}

pub invariant_of-self : goal.invariant_of-self
invariant_of-self c =
    elim c.match-get_mut.branch [
      | in-Some w ↦
          let stored : IsStored w.in-Some.rows.now = rw w.in-Some.ensures.value c.self.invariant in
          rw w.self-inside-is (dels_stored w.in-Some.rows.now w.remove_each.new.self c.args.dels.now.keys w.remove_each.result stored w.remove_each.ensures)
      | in-None w ↦ rw w.self-inside-is c.self.invariant
    ]
