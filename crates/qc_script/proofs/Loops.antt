-- Reading values one after another, as a loop does.
use Rattle.std.proofs.Common.{◌≡◌, ℕ, zero, suc, ◌-◌, ◌+◌, ◌≤◌, ◌<◌, List, [], ◌∷◌, ◌++◌, map, length, drop, get_or, Result, Ok, Err, refl, sym, ap, ◌∙◌, append_assoc, append-nil, arith}
use Rattle.std.proofs.lemmas.List.{drop_more, drop_all, length-map}
use denote.Ref.{Bor}
use Rattle.qc_types.specs.declared.memory.Or.{Or}
use Rattle.qc_types.specs.declared.memory.Or.TheVariants as or
use Rattle.qc_types.specs.declared.names.TableName.{TableName}
use Rattle.qc_script.specs.declared.reading.misspelt.Misspelt.{Misspelt}
use Rattle.qc_script.specs.Told.{Told, ◌>>=◌, times, each, members, table_told, table_among, tables_told}

-- a call that didn't succeed tells the fault of what is told, unless memory lacks
abbrev pub Fails : {Y E : Type 0} → Or E → Result Y E → Type 0
Fails or.Memory told = Unit {0}
Fails (or.Other e) told = told ≡ Err e

-- what was read before, and what is still read
abbrev pub with_prefix : {A S E : Type 0} → List A → Result (List A × S) E → Result (List A × S) E
with_prefix prefix read = read >>= λ x. Ok (prefix ++ x.0, x.1)

pub regroup : {A S E : Type 0} (prefix : List A) (x : A) (read : Result (List A × S) E) → with_prefix prefix (read >>= λ y. Ok (x ∷ y.0, y.1)) ≡ with_prefix (prefix ++ x ∷ []) read
regroup {A} {S} {E} prefix x (Ok y) = ap (λ (xs : List A). Ok (xs, y.1)) (sym (append_assoc prefix (x ∷ []) y.0))
regroup prefix x (Err f) = refl

-- ---- so many

pub goes_on : {A S : Type 0} (read : S → Result (A × S) ℕ) (prefix : List A) (count i : ℕ) (s : S) (x : A) (after : S) (total : Result (List A × S) ℕ)
    → i < count → read s ≡ Ok (x, after) → with_prefix prefix (times read (count - i) s) ≡ total → with_prefix (prefix ++ x ∷ []) (times read (count - (i + 1)) after) ≡ total
unfolding times
goes_on read prefix count i s x after total lt h so_far =
    let k : count - i ≡ suc (count - (i + 1)) = omega arith in
    let one : with_prefix prefix (times read (count - i) s) ≡ with_prefix (prefix ++ x ∷ []) (times read (count - (i + 1)) after) = rw (k, h) (regroup prefix x (times read (count - (i + 1)) after)) in
    sym one ∙ so_far

pub ends : {A S : Type 0} (read : S → Result (A × S) ℕ) (e : Or ℕ) (prefix : List A) (count i : ℕ) (s : S) (total : Result (List A × S) ℕ)
    → i < count → Fails e (read s) → with_prefix prefix (times read (count - i) s) ≡ total → Fails e total
unfolding times
ends read or.Memory prefix count i s total lt h so_far = tt
ends read (or.Other f) prefix count i s total lt h so_far =
    let k : count - i ≡ suc (count - (i + 1)) = omega arith in
    let one : with_prefix prefix (times read (count - i) s) ≡ Err f = rw (k, h) refl in
    sym so_far ∙ one

pub is_done : {A S : Type 0} (read : S → Result (A × S) ℕ) (prefix : List A) (count i : ℕ) (s : S) (total : Result (List A × S) ℕ)
    → count ≤ i → with_prefix prefix (times read (count - i) s) ≡ total → total ≡ Ok (prefix, s)
unfolding times
is_done {A} {S} read prefix count i s total le so_far =
    let k : count - i ≡ 0 = omega arith in
    let one : with_prefix prefix (times read (count - i) s) ≡ Ok (prefix, s) = rw k (ap (λ (xs : List A). Ok (xs, s)) (append-nil prefix)) in
    sym so_far ∙ one

-- ---- each of a list

-- the bytes that the members of a list borrow
abbrev pub texts : List (Bor (List ℕ)) → List (List ℕ)
texts ms = map (λ m. m.now) ms

text_at : (ms : List (Bor (List ℕ))) (i : ℕ) (d : Bor (List ℕ)) → i < length ms → get_or (texts ms) i [] ≡ (get_or ms i d).now
text_at [] i d lt = absurd (omega (arith, lt))
text_at (m ∷ ms) zero d lt = refl
text_at (m ∷ ms) (suc i) d lt = text_at ms i d (omega (arith, lt))

text_more : (ms : List (Bor (List ℕ))) (i : ℕ) (d : Bor (List ℕ)) → i < length ms → drop i (texts ms) ≡ (get_or ms i d).now ∷ drop (i + 1) (texts ms)
text_more ms i d lt =
    drop_more (texts ms) i [] (omega (arith, lt, length-map ms (λ (m : Bor (List ℕ)). m.now))) ∙ ap (λ (t : List ℕ). t ∷ drop (i + 1) (texts ms)) (text_at ms i d lt)

module _ {S A : Type 0} (f : S → List ℕ → Told (A × S)) where
  pub each_goes_on : (prefix : List A) (ms : List (Bor (List ℕ))) (i : ℕ) (d : Bor (List ℕ)) (s after : S) (y : A) (total : Told (List A × S)) → i < length ms → f s ((get_or ms i d).now) ≡ Ok (y, after)
      → with_prefix prefix (each f s (drop i (texts ms))) ≡ total → with_prefix (prefix ++ y ∷ []) (each f after (drop (i + 1) (texts ms))) ≡ total
  unfolding each
  each_goes_on prefix ms i d s after y total lt h so_far =
      let one : with_prefix prefix (each f s (drop i (texts ms))) ≡ with_prefix (prefix ++ y ∷ []) (each f after (drop (i + 1) (texts ms))) =
      rw (text_more ms i d lt, h) (regroup prefix y (each f after (drop (i + 1) (texts ms)))) in
      sym one ∙ so_far

  pub each_fails : (e : Or Misspelt) (prefix : List A) (ms : List (Bor (List ℕ))) (i : ℕ) (d : Bor (List ℕ)) (s : S) (total : Told (List A × S)) → i < length ms → Fails e (f s ((get_or ms i d).now))
      → with_prefix prefix (each f s (drop i (texts ms))) ≡ total → Fails e total
  unfolding each
  each_fails or.Memory prefix ms i d s total lt h so_far = tt
  each_fails (or.Other m) prefix ms i d s total lt h so_far =
      let one : with_prefix prefix (each f s (drop i (texts ms))) ≡ Err m = rw (text_more ms i d lt, h) refl in
      sym so_far ∙ one

  pub each_done : (prefix : List A) (ms : List (Bor (List ℕ))) (i : ℕ) (s : S) (total : Told (List A × S)) → length ms ≤ i → with_prefix prefix (each f s (drop i (texts ms))) ≡ total → total ≡ Ok (prefix, s)
  unfolding each
  each_done prefix ms i s total le so_far =
      let one : with_prefix prefix (each f s (drop i (texts ms))) ≡ Ok (prefix, s) =
      rw (drop_all i (texts ms) (omega (arith, le, length-map ms (λ (m : Bor (List ℕ)). m.now)))) (ap (λ (ys : List A). Ok (ys, s)) (append-nil prefix)) in
      sym so_far ∙ one

-- ---- tables

pub table_fails : (e : Or Misspelt) (t : List ℕ) → Fails e (table_told t) → Fails e (table_among tt t)
table_fails or.Memory t h = tt
table_fails (or.Other m) t h = rw h refl

pub table_found : (t : List ℕ) (table : TableName) → table_told t ≡ Ok table → table_among tt t ≡ Ok (table, tt)
table_found t table h = rw h refl

pub tables_fail : (e : Or Misspelt) (t : List ℕ) (ms : List (List ℕ)) → ms ≡ members t → Fails e (each table_among tt ms) → Fails e (tables_told t)
unfolding tables_told
tables_fail or.Memory t ms is h = tt
tables_fail (or.Other m) t ms is h = rw (sym is, h) refl

pub tables_done : (t : List ℕ) (ms : List (List ℕ)) (tables : List TableName) → ms ≡ members t → each table_among tt ms ≡ Ok (tables, tt) → tables_told t ≡ Ok tables
unfolding tables_told
tables_done t ms tables is h = rw (sym is, h) refl
