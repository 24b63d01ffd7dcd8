use Rattle.std.proofs.Common.{◌≡◌, ◌<◌, ◌≤◌, ℕ, length, get_or, vec_capacity}
use Rattle.qc_chain.proofs.lists.own_places.Given as goal

abbrev pub invariant-loop-place : goal.invariant-loop-place
invariant-loop-place l = record { made : length l.numbers.items ≡ l.place; room : l.places ≤ vec_capacity l.numbers; own : (k : ℕ) → k < l.place → get_or l.numbers.items k 0 ≡ k }
