-- What contracts see of a list whose memory is taken once.
use Rattle.std.specs.Prelude.{ℕ, List}

-- the items, and how many more there is room for
pub record Reserved (T : Type 0) : Type 0 where
  pub items : List T
  pub room : ℕ
