-- A packet that is being written behind a text.
use Rattle.std.specs.Prelude.{ℕ, List}

-- what stands in front of the packet, and its payload so far
pub record Opened : Type 0 where
  pub front : List ℕ
  pub payload : List ℕ
