-- A server that has done nothing yet.
use Rattle.std.specs.Prelude.{ℕ, List, [], replicate}
use Rattle.qc_types.specs.declared.options.Options.{Options}
use Rattle.qc_sql.specs.Database.{empty_database}
use Rattle.qc_model.specs.Licence.{region_words}
use Rattle.qc_tiles.specs.Tiles.{IsTiling, fresh}
use Rattle.qc_sound.specs.PlainServer.{PlainServer}
use Rattle.qc_sound.specs.Moment.{at_rest}
use Rattle.qc_sound.specs.Sound.{IsSound, AreRounded}

-- an empty journal and the empty database, no entry, no seat and no task, and one free block, or none where the region has no words
abbrev pub new_server : Options → PlainServer
new_server options = record {
  options = options;
  journal = [];
  spare = 0;
  database = empty_database;
  entries = [];
  chains = [];
  table_blocks = [];
  tiles = fresh (region_words options);
  connected = [];
  tasks = [];
}

-- With rounded options, and a region of which one block may be made, it is sound over words that are all 0.
abbrev pub NewIsSound : Type 0
NewIsSound = (hash : List ℕ → ℕ) (options : Options) → AreRounded options → IsTiling (region_words options) (fresh (region_words options))
    → IsSound (at_rest hash) (replicate (region_words options) 0) (new_server options)
