-- What is seen of bytes in memory that is taken once.
use Rattle.std.specs.Prelude.{ℕ, List}

pub record Buffered : Type 0 where
  pub bytes : List ℕ
  pub capacity : ℕ
