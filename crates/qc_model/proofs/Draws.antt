-- Worked draws of the workload, what each makes of a session's rows, and a line of the summary.
use Rattle.std.proofs.Common.{◌≡◌, ℕ, List, [], ◌∷◌, refl}
use Rattle.std.specs.Prelude.{codes, length}
use Rattle.std.specs.Fmt.{digits}
use Rattle.qc_sql.specs.Database.{MapOf}
use Rattle.qc_model.specs.ReportText.{lines}
use Rattle.qc_model.specs.Workload.{drawn, draw, drawn_often, Tally, no_tally, all_set, after_draw, after_draws, total, value_sum, table_line, tally_of, summary}

-- ---- the generator

-- behind 0 there is the number that is added
behind_zero : drawn 0 ≡ 1442695040888963407
behind_zero = refl

-- behind 1 the factor is added once more: 6364136223846793005 + 1442695040888963407
behind_one : drawn 1 ≡ 7806831264735756412
behind_one = refl

-- behind 3 the sum 20535103712429342422 is above 2^64, which is taken off
behind_three : drawn 3 ≡ 2088359638719790806
behind_three = refl

-- a draw leaves out the 33 low bits of what is behind
draw_of_zero : draw 0 ≡ 167951807
draw_of_zero = refl

-- behind 2 there is 14170967488582549417
draw_of_two : draw 2 ≡ 1649717740
draw_of_two = refl

-- behind 3 there is 2088359638719790806
draw_of_three : draw 3 ≡ 243117059
draw_of_three = refl

-- without draws the generator stays
never_drawn : drawn_often 0 5 ≡ 5
never_drawn = refl

-- what is behind what is behind 0
drawn_twice : drawn_often 2 0 ≡ 1876011003808476466
drawn_twice = refl

-- where session 2 goes on, behind the 2000 draws of session 1
drawn_by_first : drawn_often 2000 1 ≡ 5352057029478983249
drawn_by_first = refl

-- ---- one draw

abbrev pub tally : MapOf ℕ ℕ → MapOf ℕ ℕ → ℕ → ℕ → Tally
tally in_a in_b commits selects = record { in_a = in_a; in_b = in_b; commits = commits; selects = selects }

-- 1008 is 0 by 8, and 8 by 1000: a gets 8 under the key
into_a : after_draw 5 1008 no_tally ≡ tally ((5, 8) ∷ []) [] 1 0
into_a = refl

-- 1001 is 1 by 8, and 1 by 1000: b gets 1
into_b : after_draw 5 1001 (tally ((4, 8) ∷ []) [] 1 0) ≡ tally ((4, 8) ∷ []) ((5, 1) ∷ []) 2 0
into_b = refl

-- keys rise, and one key has one value
by_key : after_draw 3 1008 (tally ((1, 6) ∷ (4, 7) ∷ []) [] 2 0) ≡ tally ((1, 6) ∷ (3, 8) ∷ (4, 7) ∷ []) [] 3 0
by_key = refl

-- the key 4 is there, and its value is replaced
once : after_draw 4 1008 (tally ((1, 6) ∷ (4, 7) ∷ []) [] 2 0) ≡ tally ((1, 6) ∷ (4, 8) ∷ []) [] 3 0
once = refl

-- 1002 is 2 by 8, and 2 by 1000: all values of a become 2, in one commit, and b stays
set_all : after_draw 9 1002 (tally ((1, 6) ∷ (4, 7) ∷ []) ((2, 5) ∷ []) 3 0) ≡ tally ((1, 2) ∷ (4, 2) ∷ []) ((2, 5) ∷ []) 4 0
set_all = refl

-- one value that changes is enough
set_one : all_set 2 (tally ((1, 2) ∷ (4, 7) ∷ []) [] 2 0) ≡ tally ((1, 2) ∷ (4, 2) ∷ []) [] 3 0
set_one = refl

-- the same of b doesn't matter: its values stay
set_not_b : all_set 2 (tally ((1, 3) ∷ []) ((1, 3) ∷ []) 2 0) ≡ tally ((1, 2) ∷ []) ((1, 3) ∷ []) 3 0
set_not_b = refl

-- where none changes, or none is there, nothing is committed
set_none : all_set 2 (tally ((1, 2) ∷ (4, 2) ∷ []) [] 2 0) ≡ tally ((1, 2) ∷ (4, 2) ∷ []) [] 2 0
set_none = refl

-- a has no row, so nothing changes
set_no_row : after_draw 9 1002 no_tally ≡ no_tally
set_no_row = refl

-- the remainders 3 to 7 select
select_by_three : after_draw 9 1003 (tally ((1, 2) ∷ []) [] 1 4) ≡ tally ((1, 2) ∷ []) [] 1 5
select_by_three = refl

-- 1007 is 7 by 8
select_by_seven : after_draw 9 1007 no_tally ≡ tally [] [] 0 1
select_by_seven = refl

-- ---- several draws, worked out by another program

-- the key tells the session and the draw's number
three_of_second : after_draws 3 2 1 5 no_tally ≡ tally ((2000001, 234) ∷ []) [] 2 1
three_of_second = refl

-- the draws 1989 to 2000 of session 4, from the generator at 7: four puts and eight selects
last_of_fourth : after_draws 12 4 1989 7 no_tally ≡ tally ((4001995, 864) ∷ []) ((4001991, 753) ∷ (4001992, 673) ∷ (4001993, 545) ∷ []) 4 8
last_of_fourth = refl

-- the first ten of session 2 of the workload 1
ten_of_second : after_draws 10 2 1 5352057029478983249 no_tally ≡ tally ((2000005, 696) ∷ []) ((2000004, 857) ∷ (2000008, 121) ∷ []) 3 7
ten_of_second = refl

-- no draw leaves all as it was
no_draws : after_draws 0 1 1 5 (tally [] [] 3 4) ≡ tally [] [] 3 4
no_draws = refl

-- all 2000 draws of a session, of which each case that isn't a commit or a select changed nothing
first_commits : (tally_of 1 1).commits ≡ 777
first_commits = refl

-- session 2 goes on where session 1 left the generator
second_selects : (tally_of 1 2).selects ≡ 1258
second_selects = refl

-- each draw whose rest by 8 is 0 put a row of its own
third_rows : length (tally_of 1 3).in_a ≡ 270
third_rows = refl

-- ---- the summary

abbrev pub two_tallies : List Tally
two_tallies = tally ((1, 6) ∷ (4, 7) ∷ []) [] 2 5 ∷ tally ((11, 30) ∷ []) ((12, 9) ∷ []) 4 1 ∷ []

-- no value has the sum 0
no_sum : value_sum [] ≡ 0
no_sum = refl

-- 6 + 7, and not the keys
sum_of_values : value_sum ((1, 6) ∷ (4, 7) ∷ []) ≡ 13
sum_of_values = refl

-- equal values count each: 6 + 6 + 6
sum_of_same : value_sum ((1, 6) ∷ (2, 6) ∷ (3, 6) ∷ []) ≡ 18
sum_of_same = refl

-- 2 + 4
all_commits : total (λ t. t.commits) two_tallies ≡ 6
all_commits = refl

-- 5 + 1
all_selects : total (λ t. t.selects) two_tallies ≡ 6
all_selects = refl

-- without sessions all counts are 0
nothing_counted : total (λ t. t.commits) [] ≡ 0
nothing_counted = refl

-- the sizes and the sums of all sessions together
line_of_a : table_line (codes "a") (λ t. t.in_a) two_tallies ≡ codes "table a rows 3 sum 43"
unfolding digits
line_of_a = refl

-- one row of b, of the value 9
line_of_b : table_line (codes "b") (λ t. t.in_b) two_tallies ≡ codes "table b rows 1 sum 9"
unfolding digits
line_of_b = refl

-- without sessions the line has zeros
line_of_none : table_line (codes "b") (λ t. t.in_b) [] ≡ codes "table b rows 0 sum 0"
unfolding digits
line_of_none = refl

-- the whole summary of the workload 1, worked out by another program
summary_of_one : summary 1 ≡ lines (codes "workload 1" ∷ codes "commands 8008" ∷ codes "commits 3026" ∷ codes "table a rows 995 sum 707250" ∷ codes "table b rows 1015 sum 504319" ∷ codes "selects 4970" ∷ [])
unfolding summary digits
summary_of_one = refl

-- the same of the least number
summary_of_zero : summary 0 ≡ lines (codes "workload 0" ∷ codes "commands 8008" ∷ codes "commits 2980" ∷ codes "table a rows 963 sum 597922" ∷ codes "table b rows 998 sum 498702" ∷ codes "selects 5007" ∷ [])
unfolding summary digits
summary_of_zero = refl

-- the same of the greatest number that the words may give
summary_of_greatest : summary 4294967295 ≡ lines (codes "workload 4294967295" ∷ codes "commands 8008" ∷ codes "commits 3030" ∷ codes "table a rows 999 sum 450060" ∷ codes "table b rows 1014 sum 514446" ∷ codes "selects 4965" ∷ [])
unfolding summary digits
summary_of_greatest = refl
