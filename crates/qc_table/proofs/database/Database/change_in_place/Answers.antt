-- What is written through the shared value is the database.
use Rattle.qc_table.specs.Tables.{IsHeld}
use Rattle.qc_table.proofs.InPlace.{carried_held}
use Rattle.qc_table.proofs.database.Database.change_in_place.Goals as goal
use Rattle.qc_table.proofs.database.Database.change_in_place.Goals.{in-Some, in-None}

pub invariant_of-self : goal.invariant_of-self
invariant_of-self c =
    elim c.match-get_mut.branch [
      | in-Some w ↦
          let held : IsHeld w.in-Some.databases.now = rw w.in-Some.ensures.value c.self.invariant in
          rw w.self-inside-is (carried_held c.args.ops.now w.in-Some.databases.now w.carry_out.new.databases w.carry_out.result held w.carry_out.ensures)
      | in-None w ↦ rw w.self-inside-is c.self.invariant
    ]
