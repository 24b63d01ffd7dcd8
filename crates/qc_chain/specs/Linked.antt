-- Many lists of numbered nodes, each node in one of them at most, and the links that hold them.
use Rattle.std.specs.Prelude.{◌≡◌, ℕ, ◌<◌, ◌≤◌, ◌^◌, not, List, [], ◌∷◌, ◌++◌, map, drop, length, zero, suc, nat_lt, ◌==◌, if◌then◌else◌, slice_index, slice_index_or, slice_set}
use Rattle.std.specs.List.{filter}
use Rattle.qc_chain.specs.Counts.{total, count}

-- what contracts see: the nodes of each list in their order, and how many nodes there are
pub record Linked : Type 0 where
  pub lists : List (List ℕ)
  pub nodes : ℕ

abbrev pub nodes_of : ℕ → List (List ℕ) → List ℕ
nodes_of list lists = slice_index_or lists list []

-- the other nodes
abbrev pub without : ℕ → List ℕ → List ℕ
without node nodes = filter (λ x. not (x == node)) nodes

-- the node stands at the end, and nowhere else in the list
abbrev pub IsLast : ℕ → List ℕ → Type 0
IsLast node nodes = nodes ≡ without node nodes ++ node ∷ []

abbrev pub put_last : ℕ → ℕ → List (List ℕ) → List (List ℕ)
put_last node list lists = slice_set lists list (nodes_of list lists ++ node ∷ [])

-- a node leaves the list where it stands, and stands at the end of this one
abbrev pub moved_last : ℕ → ℕ → List (List ℕ) → List (List ℕ)
moved_last node list lists = put_last node list (map (without node) lists)

-- how often a node stands in the lists
abbrev pub standing : ℕ → List (List ℕ) → ℕ
standing node lists = total (count node) lists

-- Numbers from `nodes` on are no nodes: each list has one of them for its two ends.

-- the nodes from a place on, up to the end of their list, but no more than so many
abbrev pub walk : (ℕ → ℕ) → ℕ → ℕ → ℕ → List ℕ
walk next nodes zero place = []
walk next nodes (suc most) place = if nat_lt place nodes then place ∷ walk next nodes most (next place) else []

-- where that walk ends
abbrev pub walk_end : (ℕ → ℕ) → ℕ → ℕ → ℕ → ℕ
walk_end next nodes zero place = place
walk_end next nodes (suc most) place = if nat_lt place nodes then walk_end next nodes most (next place) else place

abbrev pub lists_of : List ℕ → ℕ → List (List ℕ)
lists_of next nodes = map (λ first. walk (slice_index next) nodes nodes first) (drop nodes next)

-- the links lead from each place to another, and back to it
pub record IsBothWays (next previous : ℕ → ℕ) (places : ℕ) : Type 0 where
  pub within : (place : ℕ) → place < places → next place < places
  pub back : (place : ℕ) → place < places → previous (next place) ≡ place

-- they do so both ways, the walk from the end of a list leads to that end, and no node stands twice
pub record IsLinked (next previous : List ℕ) (nodes : ℕ) : Type 0 where
  pub same : length previous ≡ length next
  pub fits : length next < 2 ^ 32
  pub few : nodes ≤ length next
  pub forth : IsBothWays (slice_index next) (slice_index previous) (length next)
  pub back : IsBothWays (slice_index previous) (slice_index next) (length next)
  pub closed : (end : ℕ) → nodes ≤ end → end < length next → walk_end (slice_index next) nodes nodes (slice_index next end) ≡ end
  pub once : (node : ℕ) → standing node (lists_of next nodes) ≤ 1
