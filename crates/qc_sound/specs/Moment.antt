-- What a call has begun, while the server isn't at rest.
use Rattle.std.specs.Prelude.{ℕ, List, [], Option, None}
use Rattle.qc_model.specs.declared.events.Event.{Event}
use Rattle.qc_tiles.specs.declared.blocks.Block.{Block}

-- the hash of keys, the event that the call's prunes are for, and the blocks that its start holds and that nothing names yet
pub record Moment : Type 0 where
  pub hash : List ℕ → ℕ
  pub next : Option Event
  pub held : List Block

-- between calls
abbrev pub at_rest : (List ℕ → ℕ) → Moment
at_rest hash = record { hash = hash; next = None; held = [] }
