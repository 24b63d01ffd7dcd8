-- Loops whose steps may be refused.
use Rattle.std.proofs.Common.{◌≡◌, ℕ, ◌+◌, ◌<◌, ◌≤◌, List, [], ◌∷◌, ◌++◌, length, map, drop, get_or, refl, ap, ◌∙◌, sym, append_assoc, add-one, Result, Ok, Err, suc}
use Rattle.std.proofs.Math.Seq.{drop-cons}
use Rattle.std.proofs.lemmas.List.{append-nil, drop_all}
use Rattle.qc_types.specs.declared.sql_error.SqlError.{SqlError}
use Rattle.qc_sql.specs.Rows.{each, ◌>>=◌}
use Rattle.qc_resolve.specs.Steps.{run, push_made}

-- the rest of a list at an item
pub rest_at : {A : Type 0} (xs : List A) (i : ℕ) (x : A) → i < length xs → x ≡ get_or xs i x → drop i xs ≡ x ∷ drop (i + 1) xs
rest_at xs i x h e = drop-cons xs i x h ∙ (λ j. sym e j ∷ drop (sym (add-one i) j) xs)

pub run_on : {A S : Type 0} (step : A → S → Result S SqlError) (xs : List A) (i : ℕ) (x : A) (s t : S) → i < length xs → x ≡ get_or xs i x → step x s ≡ Ok t
    → run step (drop i xs) s ≡ run step (drop (i + 1) xs) t
run_on step xs i x s t h e k = ap (λ ys. run step ys s) (rest_at xs i x h e) ∙ ap (λ r. r >>= run step (drop (i + 1) xs)) k

pub run_refused : {A S : Type 0} (step : A → S → Result S SqlError) (xs : List A) (i : ℕ) (x : A) (s : S) (error : SqlError) → i < length xs → x ≡ get_or xs i x → step x s ≡ Err error
    → run step (drop i xs) s ≡ Err error
run_refused step xs i x s error h e k = ap (λ ys. run step ys s) (rest_at xs i x h e) ∙ ap (λ r. r >>= run step (drop (i + 1) xs)) k

pub run_ended : {A S : Type 0} (step : A → S → Result S SqlError) (xs : List A) (i : ℕ) (s : S) → length xs ≤ i → run step (drop i xs) s ≡ Ok s
run_ended step xs i s h = ap (λ ys. run step ys s) (drop_all i xs h)

-- ---- lists that are made item by item

joined_on : {B : Type 0} (ys : List B) (y : B) (r : Result (List B) SqlError) → (r >>= λ zs. Ok ((ys ++ y ∷ []) ++ zs)) ≡ ((r >>= λ zs. Ok (y ∷ zs)) >>= λ zs. Ok (ys ++ zs))
joined_on ys y (Ok zs) = ap Ok (append_assoc ys (y ∷ []) zs)
joined_on ys y (Err e) = refl

run_each_step : {A B : Type 0} (f : A → Result B SqlError) (xs : List A) (ys : List B) (r : Result B SqlError)
    → ((zs : List B) → run (push_made f) xs zs ≡ (each f xs >>= λ ws. Ok (zs ++ ws)))
    → ((r >>= λ y. Ok (ys ++ y ∷ [])) >>= run (push_made f) xs) ≡ ((r >>= λ y. each f xs >>= λ zs. Ok (y ∷ zs)) >>= λ zs. Ok (ys ++ zs))
run_each_step f xs ys (Ok y) ih = ih (ys ++ y ∷ []) ∙ joined_on ys y (each f xs)
run_each_step f xs ys (Err e) ih = refl

pub run_each : {A B : Type 0} (f : A → Result B SqlError) (xs : List A) (ys : List B) → run (push_made f) xs ys ≡ (each f xs >>= λ zs. Ok (ys ++ zs))
run_each f [] ys = ap Ok (sym (append-nil ys))
run_each f (x ∷ xs) ys = run_each_step f xs ys (f x) (run_each f xs)

made_again : {B : Type 0} (r : Result (List B) SqlError) → (r >>= λ zs. Ok zs) ≡ r
made_again (Ok zs) = refl
made_again (Err e) = refl

-- each, by steps
pub each_by_run : {A B : Type 0} (f : A → Result B SqlError) (xs : List A) → each f xs ≡ run (push_made f) xs []
each_by_run f xs = sym (run_each f xs [] ∙ made_again (each f xs))

pub each_of_map : {A B C : Type 0} (f : B → Result C SqlError) (g : A → B) (xs : List A) → each f (map g xs) ≡ each (λ x. f (g x)) xs
each_of_map f g [] = refl
each_of_map f g (x ∷ xs) = ap (λ r. f (g x) >>= λ y. r >>= λ ys. Ok (y ∷ ys)) (each_of_map f g xs)
