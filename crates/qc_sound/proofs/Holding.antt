-- What a start under way takes and gives back, and what it has in mind.
use Rattle.std.proofs.Common.{refl}
use Rattle.qc_sound.specs.steps.Holding.{HoldSteps}

pub hold_step : HoldSteps
hold_step moment next held words s tiles h needs tiled = record {
  rounded = h.rounded;
  region = h.region;
  journal = record { lawful = h.journal.lawful; small = h.journal.small; needs = needs; database = h.journal.database; room = h.journal.room };
  directory = h.directory;
  memory = record {
    tiles = tiled;
    tables = record { named = h.memory.tables.named; once = h.memory.tables.once; words = h.memory.tables.words };
    chains = record { apart = h.memory.chains.apart; entered = h.memory.chains.entered; wanted = h.memory.chains.wanted; fitting = h.memory.chains.fitting; uncut = h.memory.chains.uncut };
    texts = h.memory.texts;
  };
  contents = h.contents;
  tasks = record { connected = h.tasks.connected; one_each = h.tasks.one_each; each = h.tasks.each; filled = h.tasks.filled; users = h.tasks.users };
}
