-- The named chains, and the room for more.
use Rattle.std.proofs.Common.{◌≡◌, ℕ, zero, suc, ◌+◌, ◌-◌, ◌/◌, true, List, [], ◌∷◌, ◌++◌, map, length, refl, sym, ap, ◌∙◌, arith, length-append, replicate}
use Rattle.std.specs.Prelude.{not, ◌==◌, Option, Some, None, is_none, find, option_and_then, slice_get, slice_set}
use Rattle.std.specs.List.{filter, flat_map, AllByRecursion}
use Rattle.std.proofs.lemmas.List.Sorted.{length_permutation}
use Rattle.std.proofs.lemmas.Option.{none-some}
use Rattle.qc_laws.specs.history.Runs.{are_distinct}
use Rattle.qc_chain.specs.Chains.{Chained, chain_at, Begun, no_chains}
use Rattle.qc_chain.specs.Chains.{Chain as Kept}
use Rattle.qc_sound.specs.PlainServer.{EntryChain}
use Rattle.qc_sound.proofs.Handed.{permuted, times_append}
use Rattle.qc_core.specs.Whole.{Named, is_named, IsNamedAs, chain_blocks, chain_in, ChainsHaveRoom}
use Rattle.qc_core.specs.EntryRemoval.{released}
use Rattle.qc_core.proofs.Seating.{found_less}
use Rattle.qc_core.proofs.OwnBlocks.{chain_count}
use Rattle.qc_core.proofs.Remaining.{IsOther, without_name, chain_found, chains_left}

-- ---- no chains yet

all_free : (n : ℕ) → length (filter (λ (c : Option Kept). is_none c) (replicate n None)) ≡ n
all_free zero = refl
all_free (suc n) = ap suc (all_free n)

pub fresh_room : (words : ℕ) → ChainsHaveRoom [] (no_chains (words / 64)) words
fresh_room words = record { blocks = omega arith; free = omega (arith, all_free (words / 64)) }

-- ---- a chain goes

chain_length : (n : ℕ) (cs : List EntryChain) (c : EntryChain) → are_distinct (map (λ c. c.serial) cs) ≡ true → find (λ c. c.serial == n) cs ≡ Some c
    → length (flat_map (λ c. c.blocks) cs) ≡ length (flat_map (λ c. c.blocks) (filter (λ c. not (c.serial == n)) cs)) + length c.blocks
chain_length n cs c d f =
    let rest = flat_map (λ (c : EntryChain). c.blocks) (filter (λ (c : EntryChain). not (c.serial == n)) cs) in
    let perm = permuted (flat_map (λ (c : EntryChain). c.blocks) cs) (rest ++ c.blocks) (λ b. chain_count b n cs c d f ∙ sym (times_append b rest c.blocks)) in
    omega (arith, length_permutation (flat_map (λ (c : EntryChain). c.blocks) cs) (rest ++ c.blocks) perm, length-append rest c.blocks)

free_more : (l : List (Option Kept)) (k : ℕ) (held : Kept) → option_and_then (λ x. x) (slice_get l k) ≡ Some held → length (filter (λ c. is_none c) (slice_set l k None)) ≡ length (filter (λ c. is_none c) l) + 1
free_more [] k held h = absurd (none-some held h)
free_more (None ∷ l) zero held h = absurd (none-some held h)
free_more (Some c ∷ l) zero held h = omega arith
free_more (None ∷ l) (suc k) held h = omega (arith, free_more l k held h)
free_more (Some c ∷ l) (suc k) held h = free_more l k held h

serials_same : (cs : Chained) (names : List Named) → map (λ c. c.serial) (map (chain_in cs) names) ≡ map (λ x. x.serial) names
serials_same cs [] = refl
serials_same cs (x ∷ names) = ap (λ l. x.serial ∷ l) (serials_same cs names)

released_room : (names : List Named) (cs : Chained) (n k : ℕ) (held : Kept) (words : ℕ) → are_distinct (map (λ c. c.serial) (map (chain_in cs) names)) ≡ true → IsNamedAs names n k → Begun k cs held
    → find (λ c. c.serial == n) (map (chain_in cs) names) ≡ Some (chain_in cs (record { serial = n; number = k }))
    → map (chain_in (released k held cs)) (filter (λ x. not (is_named n x)) names) ≡ filter (λ c. not (c.serial == n)) (map (chain_in cs) names)
    → ChainsHaveRoom names cs words → ChainsHaveRoom (filter (λ x. not (is_named n x)) names) (released k held cs) words
released_room names cs n k held words d named begun found same h =
    let long = chain_length n (map (chain_in cs) names) _ d found in
    let own : length (chain_blocks (chain_at k cs)) ≡ length held.blocks = ap (λ o. length (chain_blocks o)) begun in
    let left = ap (λ l. length (flat_map (λ (c : EntryChain). c.blocks) l)) same in
    let fewer = found_less (λ (x : Named). x.serial) n names _ (ap are_distinct (sym (serials_same cs names)) ∙ d) named in
    record {
      blocks = omega (arith, h.blocks, long, own, left);
      free = omega (arith, h.free, fewer, free_more cs.chains k held begun);
    }

each_other : (n : ℕ) (names : List Named) → AllByRecursion (λ x. not (x.serial == n) ≡ not (x.serial == n)) names
each_other n [] = tt
each_other n (x ∷ names) = (refl, each_other n names)

-- its name and its blocks are room for more
pub room_left : (names : List Named) (cs : Chained) (n k : ℕ) (held : Kept) (words : ℕ) → are_distinct (map (λ c. c.serial) (map (chain_in cs) names)) ≡ true → IsNamedAs names n k → Begun k cs held → AllByRecursion (IsOther n k) names
    → ChainsHaveRoom names cs words → ChainsHaveRoom (without_name n names) (released k held cs) words
room_left names cs n k held words d named begun other h =
    released_room names cs n k held words d named begun (chain_found cs n _ names named) (chains_left (λ m. not (m == n)) cs n k held names (each_other n names) other) h
