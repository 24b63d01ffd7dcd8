-- The workload: what the lines of its summary say, from the draws of its number.
use Rattle.std.specs.Prelude.{ℕ, zero, suc, ◌+◌, ◌-◌, ◌*◌, ◌/◌, ◌%◌, ◌^◌, not, List, [], ◌∷◌, length, map, ◌==◌, codes, decimal, if◌then◌else◌}
use Rattle.std.specs.List.{list_any}
use Rattle.std.specs.Ordering.{nat_cmp}
use Rattle.std.specs.BTreeMap.{insert_entry}
use Rattle.qc_sql.specs.Database.{MapOf}
use Rattle.qc_model.specs.ReportText.{Text, fields, lines}

-- ---- draws

-- the generator behind one draw more
abbrev pub drawn : ℕ → ℕ
drawn x = (x * 6364136223846793005 + 1442695040888963407) % 2 ^ 64

-- the number that the next draw gives
abbrev pub draw : ℕ → ℕ
draw x = drawn x / 2 ^ 33

abbrev pub drawn_often : ℕ → ℕ → ℕ
drawn_often zero x = x
drawn_often (suc n) x = drawn_often n (drawn x)

-- ---- what a session's statements make of its own rows

-- the values under its keys in the tables a and b, and how many commits and selects it has had
pub record Tally : Type 0 where
  pub in_a : MapOf ℕ ℕ
  pub in_b : MapOf ℕ ℕ
  pub commits : ℕ
  pub selects : ℕ

abbrev pub no_tally : Tally
no_tally = record { in_a = []; in_b = []; commits = 0; selects = 0 }

-- every value becomes m, which is a commit where one of them was another
abbrev pub all_set : ℕ → Tally → Tally
all_set m t = record {
  in_a = map (λ entry. (entry.0, m)) t.in_a;
  in_b = t.in_b;
  commits = t.commits + (if list_any (λ entry. not (entry.1 == m)) t.in_a then 1 else 0);
  selects = t.selects;
}

-- by its draw a session puts a row into a or into b, sets all its rows of a, or selects
abbrev pub after_draw : ℕ → ℕ → Tally → Tally
after_draw key r t =
    let m = r % 1000 in
    if r % 8 == 0 then record { in_a = insert_entry nat_cmp t.in_a key m; in_b = t.in_b; commits = t.commits + 1; selects = t.selects } else
    if r % 8 == 1 then record { in_a = t.in_a; in_b = insert_entry nat_cmp t.in_b key m; commits = t.commits + 1; selects = t.selects } else
    if r % 8 == 2 then all_set m t else
    record { in_a = t.in_a; in_b = t.in_b; commits = t.commits; selects = t.selects + 1 }

-- n draws of a session, from the one with number k
abbrev pub after_draws : ℕ → ℕ → ℕ → ℕ → Tally → Tally
after_draws zero session k x t = t
after_draws (suc n) session k x t = after_draws n session (k + 1) (drawn x) (after_draw (session * 1000000 + k) (draw x) t)

abbrev pub draws_of_session : ℕ
draws_of_session = 2000

-- The sessions draw one after another from one generator, which starts as the workload's number.
abbrev pub tally_of : ℕ → ℕ → Tally
tally_of number session = after_draws draws_of_session session 1 (drawn_often (draws_of_session * (session - 1)) number) no_tally

abbrev pub tallies : ℕ → List Tally
tallies number = map (tally_of number) (1 ∷ 2 ∷ 3 ∷ 4 ∷ [])

-- ---- the summary

abbrev pub total : (Tally → ℕ) → List Tally → ℕ
total f [] = 0
total f (t ∷ ts) = f t + total f ts

abbrev pub value_sum : MapOf ℕ ℕ → ℕ
value_sum [] = 0
value_sum (entry ∷ entries) = entry.1 + value_sum entries

abbrev pub table_line : Text → (Tally → MapOf ℕ ℕ) → List Tally → Text
table_line name rows_of ts =
    fields (codes "table" ∷ name ∷ codes "rows" ∷ decimal (total (λ t. length (rows_of t)) ts) ∷ codes "sum" ∷ decimal (total (λ t. value_sum (rows_of t)) ts) ∷ [])

-- the six lines; the setup has 4 commands and 3 commits, and a session has one command before its draws
unfoldable pub summary : ℕ → Text
summary number =
    let ts = tallies number in
    lines (fields (codes "workload" ∷ decimal number ∷ [])
    ∷ fields (codes "commands" ∷ decimal (4 + 4 * (draws_of_session + 1)) ∷ [])
    ∷ fields (codes "commits" ∷ decimal (3 + total (λ t. t.commits) ts) ∷ [])
    ∷ table_line (codes "a") (λ t. t.in_a) ts
    ∷ table_line (codes "b") (λ t. t.in_b) ts
    ∷ fields (codes "selects" ∷ decimal (total (λ t. t.selects) ts) ∷ []) ∷ [])
