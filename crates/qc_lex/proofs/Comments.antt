-- Comments up to their ends.
use Rattle.std.proofs.Common.{◌≡◌, ℕ, ◌+◌, ◌<◌, List, [], ◌∷◌, length, Option, None, arith}
use Rattle.std.specs.Prelude.{option_map}
use Rattle.qc_sql.specs.Tokens.{comment_bytes}

-- fewer than two bytes end no comment
pub no_end : (bytes : ℕ) (rest : List ℕ) (total : Option ℕ) → length rest < 2 → option_map (λ n. bytes + n) (comment_bytes rest) ≡ total → None ≡ total
no_end bytes [] total h so_far = so_far
no_end bytes (b ∷ []) total h so_far = so_far
no_end bytes (b ∷ c ∷ rest) total h so_far = absurd (omega (arith, h))
