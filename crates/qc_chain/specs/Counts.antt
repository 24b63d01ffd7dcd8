-- Sums over lists.
use Rattle.std.specs.Prelude.{ℕ, ◌+◌, Bool, List, [], ◌∷◌, ◌==◌, if◌then◌else◌}

-- the sum of a number of each member
abbrev pub total : {X : Type 0} → (X → ℕ) → List X → ℕ
total w [] = 0
total w (x ∷ xs) = w x + total w xs

-- 1 where it holds
abbrev pub bit : Bool → ℕ
bit b = if b then 1 else 0

-- how often a number stands in a list
abbrev pub count : ℕ → List ℕ → ℕ
count n xs = total (λ x. bit (x == n)) xs
