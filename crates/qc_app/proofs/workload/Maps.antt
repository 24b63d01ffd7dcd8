-- Maps from numbers to numbers, of which the keys rise.
use Rattle.std.proofs.Common.{◌≡◌, ◌≢◌, ℕ, suc, ◌≤◌, ◌<◌, Bool, true, false, not, cond, [], ◌∷◌, ◌++◌, map, length, refl, sym, ap, ◌∙◌, arith, append_assoc, Less, Equal, Greater, filter, eqb-true, lt-ltb, le-ltb, ne_eqb, eq-eqb}
use Rattle.std.specs.Prelude.{◌==◌, ◌||◌}
use Rattle.std.specs.List.{list_any}
use Rattle.std.specs.Ordering.{nat_cmp}
use Rattle.std.specs.BTreeMap.{insert_entry}
use Rattle.qc_sql.specs.Database.{MapOf}

abbrev pub Map : Type 0
Map = MapOf ℕ ℕ

-- ---- keys

abbrev pub Below : ℕ → Map → Type 0
Below n [] = Unit {0}
Below n (e ∷ es) = (e.0 < n) × Below n es

abbrev pub Above : ℕ → Map → Type 0
Above n [] = Unit {0}
Above n (e ∷ es) = (n < e.0) × Above n es

-- they rise from above n
abbrev pub Rises : ℕ → Map → Type 0
Rises n [] = Unit {0}
Rises n (e ∷ es) = (n < e.0) × Rises e.0 es

pub below_more : (m n : ℕ) (es : Map) → m ≤ n → Below m es → Below n es
below_more m n [] h b = tt
below_more m n (e ∷ es) h b = (omega (arith, h, b.0), below_more m n es h b.1)

pub above_less : (m n : ℕ) (es : Map) → m ≤ n → Above n es → Above m es
above_less m n [] h b = tt
above_less m n (e ∷ es) h b = (omega (arith, h, b.0), above_less m n es h b.1)

pub below_append : (n : ℕ) (xs ys : Map) → Below n xs → Below n ys → Below n (xs ++ ys)
below_append n [] ys h g = g
below_append n (e ∷ xs) ys h g = (h.0, below_append n xs ys h.1 g)

pub above_append : (n : ℕ) (xs ys : Map) → Above n xs → Above n ys → Above n (xs ++ ys)
above_append n [] ys h g = g
above_append n (e ∷ xs) ys h g = (h.0, above_append n xs ys h.1 g)

pub rises_above : (m n : ℕ) (es : Map) → m ≤ n → Rises n es → Above m es
rises_above m n [] h r = tt
rises_above m n (e ∷ es) h r = let lt = r.0 in (omega (arith, h, lt), rises_above m e.0 es (omega (arith, h, lt)) r.1)

pub rises_last : (n k v : ℕ) (es : Map) → n < k → Rises n es → Below k es → Rises n (es ++ (k, v) ∷ [])
rises_last n k v [] h r b = (h, tt)
rises_last n k v (e ∷ es) h r b = (r.0, rises_last e.0 k v es b.0 r.1 b.1)

-- ---- an entry put in

pub less : (x y : ℕ) → x < y → nat_cmp x y ≡ Less
less x y h = ap (λ t. cond t Less (cond (x == y) Equal Greater)) (lt-ltb x y h)

pub greater : (x y : ℕ) → y < x → nat_cmp x y ≡ Greater
greater x y h = ap (λ t. cond t Less (cond (x == y) Equal Greater)) (le-ltb x y (omega (arith, h))) ∙ ap (λ t. cond t Equal Greater) (ne_eqb x y (λ e. absurd (omega (arith, h, e))))

pub equal : (x : ℕ) → nat_cmp x x ≡ Equal
equal x = ap (λ t. cond t Less (cond (x == x) Equal Greater)) (le-ltb x x (omega arith)) ∙ ap (λ t. cond t Equal Greater) (eq-eqb x x refl)

pub insert_new : (key m : ℕ) (xs after : Map) → Below key xs → Above key after → insert_entry nat_cmp (xs ++ after) key m ≡ xs ++ (key, m) ∷ after
insert_new key m [] [] b a = refl
insert_new key m [] (e ∷ es) b a = rw (less key e.0 a.0) refl
insert_new key m (e ∷ xs) after b a = rw (greater key e.0 b.0) (ap (λ (l : Map). e ∷ l) (insert_new key m xs after b.1 a))

pub insert_same : (key v m : ℕ) (xs after : Map) → Below key xs → insert_entry nat_cmp (xs ++ (key, v) ∷ after) key m ≡ xs ++ (key, m) ∷ after
insert_same key v m [] after b = rw (equal key) refl
insert_same key v m (e ∷ xs) after b = rw (greater key e.0 b.0) (ap (λ (l : Map). e ∷ l) (insert_same key v m xs after b.1))

pub insert_last : (key m : ℕ) (xs : Map) → Below key xs → insert_entry nat_cmp xs key m ≡ xs ++ (key, m) ∷ []
insert_last key m [] b = refl
insert_last key m (e ∷ xs) b = rw (greater key e.0 b.0) (ap (λ (l : Map). e ∷ l) (insert_last key m xs b.1))

-- ---- a value for all keys

abbrev pub set_all : ℕ → Map → Map
set_all m es = map (λ (e : ℕ × ℕ). (e.0, m)) es

pub set_below : (m n : ℕ) (es : Map) → Below n es → Below n (set_all m es)
set_below m n [] b = tt
set_below m n (e ∷ es) b = (b.0, set_below m n es b.1)

pub set_rises : (m n : ℕ) (es : Map) → Rises n es → Rises n (set_all m es)
set_rises m n [] r = tt
set_rises m n (e ∷ es) r = (r.0, set_rises m e.0 es r.1)

-- the entries whose value is another
abbrev pub others : ℕ → Map → Map
others m es = filter (λ (e : ℕ × ℕ). not (e.1 == m)) es

-- the value is put under the keys of all entries
abbrev pub put_all : ℕ → Map → Map → Map
put_all m [] whole = whole
put_all m (e ∷ es) whole = put_all m es (insert_entry nat_cmp whole e.0 m)

put_step : (m : ℕ) (before : Map) (e : ℕ × ℕ) (es after : Map) → Below e.0 before
    → put_all m (others m es) (before ++ (e.0, m) ∷ (es ++ after)) ≡ before ++ (e.0, m) ∷ (set_all m es ++ after)
    → (t : Bool) → (e.1 == m) ≡ t → put_all m (cond (not t) (e ∷ others m es) (others m es)) (before ++ e ∷ (es ++ after)) ≡ before ++ (e.0, m) ∷ (set_all m es ++ after)
put_step m before e es after low later true q = ap (λ v. put_all m (others m es) (before ++ (e.0, v) ∷ (es ++ after))) (eqb-true e.1 m q) ∙ later
put_step m before e es after low later false q = ap (put_all m (others m es)) (insert_same e.0 e.1 m before (es ++ after) low) ∙ later

pub put_own : (m n : ℕ) (before own after : Map) → Below (suc n) before → Rises n own → put_all m (others m own) (before ++ (own ++ after)) ≡ before ++ (set_all m own ++ after)
put_own m n before [] after b r = refl
put_own m n before (e ∷ es) after b r =
    let low : Below e.0 before = below_more (suc n) e.0 before r.0 b in
    let next : Below (suc e.0) (before ++ (e.0, m) ∷ []) = below_append (suc e.0) before ((e.0, m) ∷ []) (below_more e.0 (suc e.0) before (omega arith) low) (omega arith, tt) in
    let turned : (rest : Map) → (before ++ (e.0, m) ∷ []) ++ rest ≡ before ++ (e.0, m) ∷ rest = λ rest. append_assoc before ((e.0, m) ∷ []) rest in
    let later : put_all m (others m es) (before ++ (e.0, m) ∷ (es ++ after)) ≡ before ++ (e.0, m) ∷ (set_all m es ++ after) =
    ap (put_all m (others m es)) (sym (turned (es ++ after))) ∙ (put_own m e.0 (before ++ (e.0, m) ∷ []) es after next r.1 ∙ turned (set_all m es ++ after)) in
    put_step m before e es after low later (e.1 == m) refl

-- ---- filters

pub none_below : (p : ℕ × ℕ → Bool) (n : ℕ) (es : Map) → ((e : ℕ × ℕ) → e.0 < n → p e ≡ false) → Below n es → filter p es ≡ []
none_below p n [] f b = refl
none_below p n (e ∷ es) f b = ap (λ t. cond t (e ∷ filter p es) (filter p es)) (f e b.0) ∙ none_below p n es f b.1

pub none_above : (p : ℕ × ℕ → Bool) (n : ℕ) (es : Map) → ((e : ℕ × ℕ) → n < e.0 → p e ≡ false) → Above n es → filter p es ≡ []
none_above p n [] f a = refl
none_above p n (e ∷ es) f a = ap (λ t. cond t (e ∷ filter p es) (filter p es)) (f e a.0) ∙ none_above p n es f a.1

pub all_between : (p : ℕ × ℕ → Bool) (n k : ℕ) (es : Map) → ((e : ℕ × ℕ) → n < e.0 → e.0 < k → p e ≡ true) → Above n es → Below k es → filter p es ≡ es
all_between p n k [] f a b = refl
all_between p n k (e ∷ es) f a b = ap (λ t. cond t (e ∷ filter p es) (filter p es)) (f e a.0 b.0) ∙ ap (λ (l : Map). e ∷ l) (all_between p n k es f a.1 b.1)

-- whether another value is there
pub any_other : (m : ℕ) (es : Map) → list_any (λ (e : ℕ × ℕ). not (e.1 == m)) es ≡ false → others m es ≡ []
any_other m [] h = refl
any_other m (e ∷ es) h = by (not (e.1 == m)) h (any_other m es)
  where
    by : (t : Bool) → (t || list_any (λ (x : ℕ × ℕ). not (x.1 == m)) es) ≡ false → (list_any (λ (x : ℕ × ℕ). not (x.1 == m)) es ≡ false → others m es ≡ []) → cond t (e ∷ others m es) (others m es) ≡ []
    by true q later = absurd cc
    by false q later = later q

pub some_other : (m : ℕ) (es : Map) → list_any (λ (e : ℕ × ℕ). not (e.1 == m)) es ≡ true → others m es ≢ []
some_other m [] h q = absurd cc
some_other m (e ∷ es) h q = by (not (e.1 == m)) h (some_other m es) q
  where
    by : (t : Bool) → (t || list_any (λ (x : ℕ × ℕ). not (x.1 == m)) es) ≡ true → (list_any (λ (x : ℕ × ℕ). not (x.1 == m)) es ≡ true → others m es ≢ []) → cond t (e ∷ others m es) (others m es) ≡ [] → ⊥
    by true p later k = let z : suc (length (others m es)) ≡ 0 = ap length k in absurd (omega arith)
    by false p later k = later p k
