-- Walks along links, and what taking a node out and putting it in make of them.
use Rattle.std.proofs.Common.{◌≡◌, ◌≢◌, ℕ, zero, suc, ◌<◌, ◌≤◌, true, false, cond, nat_lt, [], ◌∷◌, ◌++◌, length, refl, sym, ap, ◌∙◌, subst, inl, inr, ◌==◌, arith}
use Rattle.std.specs.List.{AllByRecursion}
use Rattle.std.proofs.lemmas.Bool.{lt-ltb, le-ltb, ltb-true, eq-eqb, ne_eqb, cases_eq, cases_lt}
use Rattle.qc_chain.specs.Linked.{walk, walk_end, without}

past : (n y : ℕ) → n ≤ y → nat_lt y n ≡ false
past n y h = le-ltb y n h

-- ---- how far a walk goes

pub ended : (f : ℕ → ℕ) (n k y : ℕ) → n ≤ y → (walk f n k y ≡ []) × (walk_end f n k y ≡ y)
ended f n zero y h = (refl, refl)
ended f n (suc k) y h = rw (past n y h) (refl, refl)

pub longer : (f : ℕ → ℕ) (n k y : ℕ) → n ≤ walk_end f n k y → (walk f n (suc k) y ≡ walk f n k y) × (walk_end f n (suc k) y ≡ walk_end f n k y)
longer f n zero y h = rw (past n y h) (refl, refl)
longer f n (suc k) y h =
    elim (nat_lt y n) as (λ v. n ≤ cond v (walk_end f n k (f y)) y → (cond v (y ∷ walk f n (suc k) (f y)) [] ≡ cond v (y ∷ walk f n k (f y)) []) × (cond v (walk_end f n (suc k) (f y)) y ≡ cond v (walk_end f n k (f y)) y)) [
      | true ↦ λ q. (ap (λ zs. y ∷ zs) (longer f n k (f y) q).0, (longer f n k (f y) q).1)
      | false ↦ λ q. (refl, refl)
    ] h

-- one step of a walk
pub step : (f : ℕ → ℕ) (n m y : ℕ) → y < n → n ≤ walk_end f n m y → (walk f n m y ≡ y ∷ walk f n m (f y)) × (n ≤ walk_end f n m (f y))
step f n zero y l e = absurd (omega (arith, l, e))
step f n (suc k) y l e =
    let t : nat_lt y n ≡ true = lt-ltb y n l in
    let rest : n ≤ walk_end f n k (f y) = rw t at e in
    let more = longer f n k (f y) rest in
    (rw t (ap (λ zs. y ∷ zs) (sym more.0)), omega (arith, more.1, rest))

-- no longer than it has members
pub tight : (f : ℕ → ℕ) (n k y : ℕ) → length (walk f n (suc k) y) ≤ k → (walk f n k y ≡ walk f n (suc k) y) × (walk_end f n k y ≡ walk_end f n (suc k) y)
tight f n zero y h =
    elim (nat_lt y n) as (λ v. length (cond v (y ∷ []) []) ≤ 0 → ([] ≡ cond v (y ∷ []) []) × (y ≡ cond v (f y) y)) [
      | true ↦ λ q. absurd (omega (arith, q))
      | false ↦ λ q. (refl, refl)
    ] h
tight f n (suc k) y h =
    elim (nat_lt y n) as (λ v. length (cond v (y ∷ walk f n (suc k) (f y)) []) ≤ suc k → (cond v (y ∷ walk f n k (f y)) [] ≡ cond v (y ∷ walk f n (suc k) (f y)) []) × (cond v (walk_end f n k (f y)) y ≡ cond v (walk_end f n (suc k) (f y)) y)) [
      | true ↦ λ q. let r = tight f n k (f y) (omega (arith, q)) in (ap (λ zs. y ∷ zs) r.0, r.1)
      | false ↦ λ q. (refl, refl)
    ] h

pub below : (f : ℕ → ℕ) (n k y : ℕ) → AllByRecursion (λ z. z < n) (walk f n k y)
below f n zero y = tt
below f n (suc k) y =
    elim (nat_lt y n) as (λ v. nat_lt y n ≡ v → AllByRecursion (λ z. z < n) (cond v (y ∷ walk f n k (f y)) [])) [
      | true ↦ λ e. (ltb-true y n e, below f n k (f y))
      | false ↦ λ e. tt
    ] refl

-- a node that leads to itself leads nowhere
stuck : (f : ℕ → ℕ) (n k x : ℕ) → f x ≡ x → walk_end f n k x ≡ x
stuck f n zero x h = refl
stuck f n (suc k) x h =
    elim (nat_lt x n) as (λ v. cond v (walk_end f n k (f x)) x ≡ x) [
      | true ↦ ap (λ z. walk_end f n k z) h ∙ stuck f n k x h
      | false ↦ refl
    ]

-- ---- one node less

-- what led to the node leads to what it led to
abbrev pub IsCut : (ℕ → ℕ) → (ℕ → ℕ) → ℕ → ℕ → Type 0
IsCut f g m x = (y : ℕ) → y < m → y ≢ x → g y ≡ cond (f y == x) (f x) (f y)

abbrev Cuts : (ℕ → ℕ) → (ℕ → ℕ) → ℕ → ℕ → ℕ → ℕ → Type 0
Cuts f g n x k y = (walk g n k (cond (y == x) (f x) y) ≡ without x (walk f n k y)) × (walk_end g n k (cond (y == x) (f x) y) ≡ walk_end f n k y)

pub cut_walk : (f g : ℕ → ℕ) (n m x : ℕ) → ((y : ℕ) → y < m → f y < m) → IsCut f g m x → x < n → n ≤ m → (k y : ℕ) → y < m → n ≤ walk_end f n k y → Cuts f g n x k y
cut_walk f g n m x within cut low all zero y inside e = rw (ne_eqb y x (λ s. omega (arith, s, low, e))) (refl, refl)
cut_walk f g n m x within cut low all (suc k) y inside e =
    elim (cases_eq y x) [
      | inl same ↦ subst (λ z. Cuts f g n x (suc k) z) (sym same) (here (cut_walk f g n m x within cut low all k (f x)) (subst (λ z. n ≤ walk_end f n (suc k) z) same e))
      | inr other ↦ off (cut_walk f g n m x within cut low all k (f y)) other
    ]
  where
    here : (f x < m → n ≤ walk_end f n k (f x) → Cuts f g n x k (f x)) → n ≤ walk_end f n (suc k) x → Cuts f g n x (suc k) x
    here rec q =
        let lt : nat_lt x n ≡ true = lt-ltb x n low in
        let eq : (x == x) ≡ true = eq-eqb x x refl in
        let rest : n ≤ walk_end f n k (f x) = rw lt at q in
        let ne : (f x == x) ≡ false = ne_eqb (f x) x (λ s. omega (arith, rest, ap (λ z. walk_end f n k z) s, stuck f n k x s, low)) in
        let less : (walk g n k (f x) ≡ without x (walk f n k (f x))) × (walk_end g n k (f x) ≡ walk_end f n k (f x)) = rw ne at (rec (within x (omega (arith, low, all))) rest) in
        let more = longer g n k (f x) (omega (arith, less.1, rest)) in
        rw (lt, eq) (more.0 ∙ less.0, more.1 ∙ less.1)

    off : (f y < m → n ≤ walk_end f n k (f y) → Cuts f g n x k (f y)) → (y ≡ x → ⊥) → Cuts f g n x (suc k) y
    off rec ne =
        let t : (y == x) ≡ false = ne_eqb y x ne in
        elim (nat_lt y n) as (λ v. nat_lt y n ≡ v → Cuts f g n x (suc k) y) [
          | true ↦ λ lt. let less = rec (within y inside) (rw lt at e) in rw (t, lt, t, cut y inside ne) (ap (λ zs. y ∷ zs) less.0, less.1)
          | false ↦ λ lt. rw (t, lt) (refl, refl)
        ] refl

-- ---- one node more

-- what led to the end leads to the node
abbrev pub IsJoined : (ℕ → ℕ) → (ℕ → ℕ) → ℕ → ℕ → ℕ → Type 0
IsJoined f g m x s = (y : ℕ) → y < m → y ≢ x → g y ≡ cond (f y == s) x (f y)

abbrev Joins : (ℕ → ℕ) → (ℕ → ℕ) → ℕ → ℕ → ℕ → ℕ → ℕ → Type 0
Joins f g n x s k y = (walk g n (suc k) (cond (y == s) x y) ≡ walk f n k y ++ cond (walk_end f n k y == s) (x ∷ []) []) × (walk_end g n (suc k) (cond (y == s) x y) ≡ walk_end f n k y)

join_end : (f g : ℕ → ℕ) (n x s : ℕ) → g x ≡ s → x < n → n ≤ s → (k y : ℕ) → n ≤ y → Joins f g n x s k y
join_end f g n x s gx low end k y ge =
    let done = ended f n k y ge in
    let lt_x : nat_lt x n ≡ true = lt-ltb x n low in
    rw (done.0, done.1)
    (elim (cases_eq y s) [
      | inl same ↦ (let t : (y == s) ≡ true = eq-eqb y s same in let last = ended g n k s end in rw (t, lt_x, gx, last.0, last.1) (refl, sym same))
      | inr other ↦ (let t : (y == s) ≡ false = ne_eqb y s other in rw (t, past n y ge) (refl, refl))
    ])

pub join_walk : (f g : ℕ → ℕ) (n m x s : ℕ) → ((y : ℕ) → y < m → f y < m) → ((y : ℕ) → y < m → y ≢ x → f y ≢ x) → IsJoined f g m x s → g x ≡ s → x < n → n ≤ s → (k y : ℕ) → y < m → y ≢ x → n ≤ walk_end f n k y → Joins f g n x s k y
join_walk f g n m x s within apart join gx low end zero y inside ne e = join_end f g n x s gx low end zero y e
join_walk f g n m x s within apart join gx low end (suc j) y inside ne e =
    elim (cases_lt y n) [
      | inl lt ↦ on (join_walk f g n m x s within apart join gx low end j (f y)) lt
      | inr ge ↦ join_end f g n x s gx low end (suc j) y ge
    ]
  where
    on : (f y < m → f y ≢ x → n ≤ walk_end f n j (f y) → Joins f g n x s j (f y)) → y < n → Joins f g n x s (suc j) y
    on rec lt =
        let t : nat_lt y n ≡ true = lt-ltb y n lt in
        let u : (y == s) ≡ false = ne_eqb y s (λ h. omega (arith, h, lt, end)) in
        let more = rec (within y inside) (apart y inside ne) (rw t at e) in
        rw (u, t, join y inside ne) (ap (λ zs. y ∷ zs) more.0, more.1)
