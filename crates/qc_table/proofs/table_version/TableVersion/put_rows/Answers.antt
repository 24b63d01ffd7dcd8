-- What is written through the shared value is the version.
use Rattle.qc_table.specs.Tables.{IsStored}
use Rattle.qc_table.proofs.Appending.{put_stored}
use Rattle.qc_table.proofs.table_version.TableVersion.put_rows.Goals as goal
use Rattle.qc_table.proofs.table_version.TableVersion.put_rows.Goals.{in-Some, in-None}

pub invariant_of-self : goal.invariant_of-self
invariant_of-self c =
    elim c.match-get_mut.branch [
      | in-Some w ↦
          let stored : IsStored w.in-Some.rows.now = rw w.in-Some.ensures.value c.self.invariant in
          rw w.self-inside-is (put_stored w.in-Some.rows.now w.put.new.self c.args.puts.now.rows w.put.result stored (rw (w.in-Some.ensures.value) (rw (← c.self.view_is) at c.requires)) w.put.ensures)
      | in-None w ↦ rw w.self-inside-is c.self.invariant
    ]
