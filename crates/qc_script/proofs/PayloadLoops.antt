-- Cells and columns read one after another, as a loop does.
use Rattle.std.proofs.Common.{◌≡◌, ℕ, zero, suc, ◌≤◌, ◌<◌, List, [], ◌∷◌, ◌++◌, length, drop, Ok, Err, Option, refl, sym, ap, ◌∙◌, append_assoc, append-nil, arith}
use Rattle.qc_types.specs.declared.memory.Or.{Or}
use Rattle.qc_types.specs.declared.memory.Or.TheVariants as or
use Rattle.qc_types.specs.declared.names.Value.{Value}
use Rattle.qc_sql.specs.declared.tables.Column.{Column}
use Rattle.qc_sql.specs.declared.tables.Kind.{Kind}
use Rattle.qc_model.specs.ReportText.{Text}
use Rattle.qc_script.specs.declared.reading.misspelt.Misspelt.{Misspelt}
use Rattle.qc_script.specs.Told.{Told, ◌>>=◌, cell_told, value_told, first_kind, cells_told, column_told, columns_within}
use Rattle.qc_script.proofs.Loops.{Fails}

-- what was read before, and what is still read
abbrev pub with_list : {A : Type 0} → List A → Told (List A) → Told (List A)
with_list prefix read = read >>= λ others. Ok (prefix ++ others)

regroup : {A : Type 0} (prefix : List A) (x : A) (read : Told (List A)) → with_list prefix (read >>= λ others. Ok (x ∷ others)) ≡ with_list (prefix ++ x ∷ []) read
regroup {A} prefix x (Ok y) = ap (λ (xs : List A). Ok xs) (sym (append_assoc prefix (x ∷ []) y))
regroup prefix x (Err f) = refl

-- ---- columns

columns_first : (n : ℕ) (t : Text) → 0 < length t → columns_within (suc n) t ≡ (column_told t >>= λ column. columns_within n column.1 >>= λ others. Ok (column.0 ∷ others))
unfolding columns_within
columns_first n [] some = absurd (omega arith)
columns_first n (b ∷ t) some = refl

pub columns_go_on : (prefix : List Column) (n : ℕ) (t rest : Text) (c : Column) (total : Told (List Column)) → length t ≤ n → length rest < length t → column_told t ≡ Ok (c, rest)
    → with_list prefix (columns_within n t) ≡ total → (m : ℕ) × (length rest ≤ m) × (with_list (prefix ++ c ∷ []) (columns_within m rest) ≡ total)
columns_go_on prefix zero t rest c total le shorter h so_far = absurd (omega (arith, le, shorter))
columns_go_on prefix (suc n) t rest c total le shorter h so_far =
    let one : with_list prefix (columns_within (suc n) t) ≡ with_list (prefix ++ c ∷ []) (columns_within n rest) =
    rw (columns_first n t (omega (arith, shorter)), h) (regroup prefix c (columns_within n rest)) in
    (n, omega (arith, le, shorter), sym one ∙ so_far)

pub columns_fail : (e : Or Misspelt) (prefix : List Column) (n : ℕ) (t : Text) (total : Told (List Column)) → 0 < length t → length t ≤ n → Fails e (column_told t)
    → with_list prefix (columns_within n t) ≡ total → Fails e total
columns_fail or.Memory prefix n t total some le h so_far = tt
columns_fail (or.Other m) prefix zero t total some le h so_far = absurd (omega (arith, some, le))
columns_fail (or.Other m) prefix (suc n) t total some le h so_far =
    let one : with_list prefix (columns_within (suc n) t) ≡ Err m = rw (columns_first n t some, h) refl in
    sym so_far ∙ one

pub columns_done : (prefix : List Column) (n : ℕ) (t : Text) (total : Told (List Column)) → length t ≤ 0 → with_list prefix (columns_within n t) ≡ total → total ≡ Ok prefix
unfolding columns_within
columns_done prefix n (b ∷ t) total none so_far = absurd (omega (arith, none))
columns_done prefix zero [] total none so_far = sym so_far ∙ ap (λ (xs : List Column). Ok xs) (append-nil prefix)
columns_done prefix (suc n) [] total none so_far = sym so_far ∙ ap (λ (xs : List Column). Ok xs) (append-nil prefix)

-- ---- cells

cells_first : (n : ℕ) (kinds : List Kind) (t : Text) → 0 < length t
    → cells_told (suc n) kinds t ≡ (cell_told t >>= λ cell. cells_told n (drop 1 kinds) cell.1 >>= λ others. Ok (value_told (first_kind kinds) cell.0 ∷ others))
unfolding cells_told
cells_first n kinds [] some = absurd (omega arith)
cells_first n kinds (b ∷ t) some = refl

pub cells_go_on : (prefix : List Value) (n : ℕ) (kinds : List Kind) (t rest : Text) (cell : Option Text) (total : Told (List Value)) → length t ≤ n → length rest < length t → cell_told t ≡ Ok (cell, rest)
    → with_list prefix (cells_told n kinds t) ≡ total → (m : ℕ) × (length rest ≤ m) × (with_list (prefix ++ value_told (first_kind kinds) cell ∷ []) (cells_told m (drop 1 kinds) rest) ≡ total)
cells_go_on prefix zero kinds t rest cell total le shorter h so_far = absurd (omega (arith, le, shorter))
cells_go_on prefix (suc n) kinds t rest cell total le shorter h so_far =
    let v : Value = value_told (first_kind kinds) cell in
    let one : with_list prefix (cells_told (suc n) kinds t) ≡ with_list (prefix ++ v ∷ []) (cells_told n (drop 1 kinds) rest) =
    rw (cells_first n kinds t (omega (arith, shorter)), h) (regroup prefix v (cells_told n (drop 1 kinds) rest)) in
    (n, omega (arith, le, shorter), sym one ∙ so_far)

pub cells_fail : (m : Misspelt) (prefix : List Value) (n : ℕ) (kinds : List Kind) (t : Text) (total : Told (List Value)) → 0 < length t → length t ≤ n → cell_told t ≡ Err m
    → with_list prefix (cells_told n kinds t) ≡ total → total ≡ Err m
cells_fail m prefix zero kinds t total some le h so_far = absurd (omega (arith, some, le))
cells_fail m prefix (suc n) kinds t total some le h so_far =
    let one : with_list prefix (cells_told (suc n) kinds t) ≡ Err m = rw (cells_first n kinds t some, h) refl in
    sym so_far ∙ one

pub cells_done : (prefix : List Value) (n : ℕ) (kinds : List Kind) (t : Text) (total : Told (List Value)) → length t ≤ 0 → with_list prefix (cells_told n kinds t) ≡ total → total ≡ Ok prefix
unfolding cells_told
cells_done prefix n kinds (b ∷ t) total none so_far = absurd (omega (arith, none))
cells_done prefix zero kinds [] total none so_far = sym so_far ∙ ap (λ (xs : List Value). Ok xs) (append-nil prefix)
cells_done prefix (suc n) kinds [] total none so_far = sym so_far ∙ ap (λ (xs : List Value). Ok xs) (append-nil prefix)
