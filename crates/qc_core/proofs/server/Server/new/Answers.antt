use Rattle.std.proofs.Common.{sym, ap, subst}
use Rattle.std.proofs.lemmas.Result.{IfOk-weaker}
use Rattle.qc_dir.specs.Directory.{Directory}
use Rattle.qc_turn.specs.Releases.{IsFresh}
use Rattle.qc_core.specs.contracts.server.ServerKept.TheImpl.{ghosts}
use Rattle.qc_core.proofs.Beginning.{fresh_of}
use Rattle.qc_core.proofs.server.Server.new.Goals as goal

pub returns-clause-fresh : goal.returns-clause-fresh
returns-clause-fresh c =
    let memory = c.in_ok-dir.ensures {u = tt} in
    IfOk-weaker _ _ _ (λ s is. subst (IsFresh ghosts _) (sym is) (fresh_of _ (record {
      size = c.requires.size.0;
      unit = (c.requires.unit.0, c.requires.unit.1);
      events = c.new-journal.ensures;
      database = c.in_ok-database.ensures;
      entries = ap (λ (d : Directory). d.entries) memory.dir;
      tables = ap (λ (d : Directory). d.tables) memory.dir;
      entry_room = ap (λ (d : Directory). d.room) memory.dir;
      table_room = ap (λ (d : Directory). d.table_room) memory.dir;
      unpinner = memory.unpinner;
      chains = memory.chains;
      tiles = memory.tiles.0;
      tiling = memory.tiles.1;
      connected = ap (λ r. r.items) c.in_ok-connected.ensures;
      seats = ap (λ r. r.room) c.in_ok-connected.ensures;
      tasks = ap (λ r. r.items) c.in_ok-tasks.ensures;
      task_room = ap (λ r. r.room) c.in_ok-tasks.ensures;
    }))) c.boxed.ensures
