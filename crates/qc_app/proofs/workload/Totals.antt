-- The numbers of all sessions together.
use Rattle.std.proofs.Common.{◌≡◌, ℕ, ◌+◌, ℤ, pos, ◌+ℤ◌, List, [], ◌∷◌, ◌++◌, map, length, refl, ap, ◌∙◌, arith, length-append}
use lib.ListN.{length-map}
use Rattle.qc_types.specs.declared.names.Value.{Value}
use Rattle.qc_model.specs.Workload.{Tally, total, value_sum}
use Rattle.qc_app.specs.workload.Tables.{row, table_of_rows}
use Rattle.qc_app.specs.workload.Counts.{second_sum}
use Rattle.qc_app.proofs.workload.Maps.{Map}
use Rattle.qc_app.proofs.workload.World.{Progress, maps_a, maps_b, commits_of, selects_of}

abbrev pub tallies_in : List Progress → List Tally
tallies_in ps = map (λ (p : Progress). p.tally) ps

pub all_commits : (ps : List Progress) → commits_of ps ≡ total (λ t. t.commits) (tallies_in ps)
all_commits [] = refl
all_commits (p ∷ ps) = ap (λ n. p.tally.commits + n) (all_commits ps)

pub all_selects : (ps : List Progress) → selects_of ps ≡ total (λ t. t.selects) (tallies_in ps)
all_selects [] = refl
all_selects (p ∷ ps) = ap (λ n. p.tally.selects + n) (all_selects ps)

pub rows_in_a : (ps : List Progress) → length (maps_a ps) ≡ total (λ t. length t.in_a) (tallies_in ps)
rows_in_a [] = refl
rows_in_a (p ∷ ps) = length-append p.tally.in_a (maps_a ps) ∙ ap (λ n. length p.tally.in_a + n) (rows_in_a ps)

pub rows_in_b : (ps : List Progress) → length (maps_b ps) ≡ total (λ t. length t.in_b) (tallies_in ps)
rows_in_b [] = refl
rows_in_b (p ∷ ps) = length-append p.tally.in_b (maps_b ps) ∙ ap (λ n. length p.tally.in_b + n) (rows_in_b ps)

sum_append : (xs ys : Map) → value_sum (xs ++ ys) ≡ value_sum xs + value_sum ys
sum_append [] ys = omega arith
sum_append (e ∷ xs) ys = let h = sum_append xs ys in omega (arith, h)

pub sum_in_a : (ps : List Progress) → value_sum (maps_a ps) ≡ total (λ t. value_sum t.in_a) (tallies_in ps)
sum_in_a [] = refl
sum_in_a (p ∷ ps) = sum_append p.tally.in_a (maps_a ps) ∙ ap (λ n. value_sum p.tally.in_a + n) (sum_in_a ps)

pub sum_in_b : (ps : List Progress) → value_sum (maps_b ps) ≡ total (λ t. value_sum t.in_b) (tallies_in ps)
sum_in_b [] = refl
sum_in_b (p ∷ ps) = sum_append p.tally.in_b (maps_b ps) ∙ ap (λ n. value_sum p.tally.in_b + n) (sum_in_b ps)

pub row_count : (m : Map) → length (table_of_rows m).rows ≡ length m
row_count m = length-map m (λ (e : ℕ × ℕ). let x : ℤ × List Value = (pos e.0, row e.0 e.1) in x)

pub row_sum : (m : Map) → second_sum (table_of_rows m) ≡ pos (value_sum m)
row_sum [] = refl
row_sum (e ∷ m) = ap (λ z. pos e.1 +ℤ z) (row_sum m)
