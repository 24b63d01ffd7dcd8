-- Chains, tasks and events in their lists.
use Rattle.std.proofs.Common.{◌≡◌, ◌≢◌, ◌⊎◌, inl, inr, ⊎_elim, ℕ, ◌+◌, ◌≤◌, eqb, eqb-true, ne_eqb, Bool, true, false, cond, List, [], ◌∷◌, ◌++◌, map, refl, sym, ap, subst, ◌∙◌, arith, true≢false}
use Rattle.std.specs.Prelude.{not, ◌&&◌, ◌||◌}
use Rattle.std.specs.List.{filter, flat_map, list_any, AllByRecursion, AllZip}
use Rattle.qc_tiles.specs.declared.blocks.Block.{Block}
use Rattle.qc_turn.specs.Blocks.{places}
use Rattle.qc_turn.specs.Tasks.{listed_for}
use Rattle.qc_sound.specs.PlainServer.{PlainServer, EntryChain, SeatTask, blocks_at, listed}
use Rattle.qc_sound.specs.parts.Memory.{blocks_in_use}
use Rattle.qc_laws.specs.history.Runs.{are_distinct}
use Rattle.qc_sound.proofs.Counts.{occurs, occurs_places}

-- ---- chains

abbrev pub all_chains : List EntryChain → List Block
all_chains cs = flat_map (λ c. c.blocks) cs

pub one_chain : (k n : ℕ) (cs : List EntryChain) → occurs k (places (blocks_at n cs)) ≤ occurs k (places (all_chains cs))
one_chain k n [] = omega arith
one_chain k n (c ∷ cs) =
    let sum = occurs_places k c.blocks (all_chains cs) in
    let more = one_chain k n cs in
    elim (eqb c.serial n) as (λ b. occurs k (places (cond b c.blocks (blocks_at n cs))) ≤ occurs k (places (all_chains (c ∷ cs)))) [
      | true ↦ omega (arith, sum)
      | false ↦ omega (arith, sum, more)
    ]

-- two chains have no word in common
pub two_chains : (k n m : ℕ) (cs : List EntryChain) → n ≢ m → occurs k (places (blocks_at n cs)) + occurs k (places (blocks_at m cs)) ≤ occurs k (places (all_chains cs))
two_chains k n m [] ne = omega arith
two_chains k n m (c ∷ cs) ne =
    let sum = occurs_places k c.blocks (all_chains cs) in
    let first = one_chain k n cs in
    let second = one_chain k m cs in
    let more = two_chains k n m cs ne in
    elim (eqb c.serial n) as (λ b. eqb c.serial n ≡ b → occurs k (places (cond b c.blocks (blocks_at n cs))) + occurs k (places (cond (eqb c.serial m) c.blocks (blocks_at m cs))) ≤ occurs k (places (all_chains (c ∷ cs)))) [
      | true ↦ λ e. let other : eqb c.serial m ≡ false = ne_eqb c.serial m (λ z. ne (sym (eqb-true c.serial n e) ∙ z)) in
          subst (λ b. occurs k (places c.blocks) + occurs k (places (cond b c.blocks (blocks_at m cs))) ≤ occurs k (places (all_chains (c ∷ cs)))) (sym other) (omega (arith, sum, second))
      | false ↦ λ e. elim (eqb c.serial m) as (λ b. occurs k (places (blocks_at n cs)) + occurs k (places (cond b c.blocks (blocks_at m cs))) ≤ occurs k (places (all_chains (c ∷ cs)))) [
        | true ↦ omega (arith, sum, first)
        | false ↦ omega (arith, sum, more)
      ]
    ] refl

-- ---- tasks

-- what is listed for a seat: nothing, or one task
pub record IsOnly (P : SeatTask → Type 0) (cs : List EntryChain) (tasks : List SeatTask) (n : ℕ) : Type 0 where
  pub one : SeatTask
  pub holds : P one
  pub seat : one.seat ≡ n
  pub only : listed_for n (map (listed cs) tasks) ≡ listed cs one ∷ []

pub none_of : (cs : List EntryChain) (n : ℕ) (tasks : List SeatTask) → list_any (λ m. eqb m n) (map (λ w. w.seat) tasks) ≡ false → listed_for n (map (listed cs) tasks) ≡ []
none_of cs n [] h = refl
none_of cs n (w ∷ tasks) h = elim (eqb w.seat n) as (λ b. (b || list_any (λ m. eqb m n) (map (λ w. w.seat) tasks)) ≡ false → cond b (listed cs w ∷ listed_for n (map (listed cs) tasks)) (listed_for n (map (listed cs) tasks)) ≡ []) [
  | true ↦ λ e. absurd (true≢false e)
  | false ↦ λ e. none_of cs n tasks e
] h

pub both_true : (a b : Bool) → (a && b) ≡ true → (a ≡ true) × (b ≡ true)
both_true true b h = (refl, h)
both_true false b h = absurd (true≢false (sym h))

pub opposite : (b : Bool) → not b ≡ true → b ≡ false
opposite false h = refl
opposite true h = absurd (true≢false (sym h))

pub listed_one : (P : SeatTask → Type 0) (cs : List EntryChain) (n : ℕ) (tasks : List SeatTask) → AllByRecursion P tasks → are_distinct (map (λ w. w.seat) tasks) ≡ true
    → (listed_for n (map (listed cs) tasks) ≡ []) ⊎ IsOnly P cs tasks n
listed_one P cs n [] all apart = inl refl
listed_one P cs n (w ∷ tasks) all apart =
    let parts = both_true (not (list_any (λ m. eqb m w.seat) (map (λ w. w.seat) tasks))) (are_distinct (map (λ w. w.seat) tasks)) apart in
    let none = none_of cs w.seat tasks (opposite _ parts.0) in
    let more = listed_one P cs n tasks all.1 parts.1 in
    elim (eqb w.seat n) as (λ b. eqb w.seat n ≡ b → (cond b (listed cs w ∷ listed_for n (map (listed cs) tasks)) (listed_for n (map (listed cs) tasks)) ≡ []) ⊎ IsOnly P cs (w ∷ tasks) n) [
      | true ↦ λ e.
          let same : w.seat ≡ n = eqb-true w.seat n e in
          let rest : listed_for n (map (listed cs) tasks) ≡ [] = subst (λ m. listed_for m (map (listed cs) tasks) ≡ []) same none in
          inr (record { one = w; holds = all.0; seat = same; only = ap (λ b. cond b (listed cs w ∷ listed_for n (map (listed cs) tasks)) (listed_for n (map (listed cs) tasks))) e ∙ ap (λ l. listed cs w ∷ l) rest })
      | false ↦ λ e. ⊎_elim inl (λ t. inr (record { one = t.one; holds = t.holds; seat = t.seat; only = ap (λ b. cond b (listed cs w ∷ listed_for n (map (listed cs) tasks)) (listed_for n (map (listed cs) tasks))) e ∙ t.only })) more
    ] refl

-- ---- the parts of the region

pub in_use_sum : (k : ℕ) (s : PlainServer) → occurs k (places (blocks_in_use s)) ≡ occurs k (places (map (λ e. e.text) s.entries)) + (occurs k (places (map (λ b. b.1) s.table_blocks)) + occurs k (places (all_chains s.chains)))
in_use_sum k s =
    occurs_places k (map (λ e. e.text) s.entries) (map (λ b. b.1) s.table_blocks ++ all_chains s.chains)
    ∙ ap (λ n. occurs k (places (map (λ e. e.text) s.entries)) + n) (occurs_places k (map (λ b. b.1) s.table_blocks) (all_chains s.chains))

-- ---- pairs

module _ {A B : Type 0} where
  pub zip_on : (R S : A → B → Type 0) (xs : List A) (ys : List B) → ((x : A) (y : B) → R x y → S x y) → AllZip R xs ys → AllZip S xs ys
  zip_on R S [] [] f h = tt
  zip_on R S [] (y ∷ ys) f h = h
  zip_on R S (x ∷ xs) [] f h = h
  zip_on R S (x ∷ xs) (y ∷ ys) f h = (f x y h.0, zip_on R S xs ys f h.1)

  pub zip_both : (R S : A → B → Type 0) (xs : List A) (ys : List B) → AllZip R xs ys → AllZip S xs ys → AllZip (λ x y. R x y × S x y) xs ys
  zip_both R S [] [] h k = tt
  zip_both R S [] (y ∷ ys) h k = h
  zip_both R S (x ∷ xs) [] h k = h
  zip_both R S (x ∷ xs) (y ∷ ys) h k = ((h.0, k.0), zip_both R S xs ys h.1 k.1)

  pub zip_right : (R : A → B → Type 0) (P : B → Type 0) (xs : List A) (ys : List B) → AllZip R xs ys → AllByRecursion P ys → AllZip (λ x y. R x y × P y) xs ys
  zip_right R P [] [] h k = tt
  zip_right R P [] (y ∷ ys) h k = h
  zip_right R P (x ∷ xs) [] h k = h
  zip_right R P (x ∷ xs) (y ∷ ys) h k = ((h.0, k.0), zip_right R P xs ys h.1 k.1)

  pub zip_left : (R : A → B → Type 0) (P : A → Type 0) (xs : List A) (ys : List B) → AllZip R xs ys → AllByRecursion P xs → AllZip (λ x y. R x y × P x) xs ys
  zip_left R P [] [] h k = tt
  zip_left R P [] (y ∷ ys) h k = h
  zip_left R P (x ∷ xs) [] h k = h
  zip_left R P (x ∷ xs) (y ∷ ys) h k = ((h.0, k.0), zip_left R P xs ys h.1 k.1)

  -- pairs whose members pass alike stay pairs
  pub zip_filter : (R : A → B → Type 0) (p : A → Bool) (q : B → Bool) (xs : List A) (ys : List B) → ((x : A) (y : B) → R x y → p x ≡ q y) → AllZip R xs ys → AllZip R (filter p xs) (filter q ys)
  zip_filter R p q [] [] same h = tt
  zip_filter R p q [] (y ∷ ys) same h = absurd h
  zip_filter R p q (x ∷ xs) [] same h = absurd h
  zip_filter R p q (x ∷ xs) (y ∷ ys) same h =
      let more = zip_filter R p q xs ys same h.1 in
      subst (λ b. AllZip R (cond b (x ∷ filter p xs) (filter p xs)) (filter q (y ∷ ys))) (sym (same x y h.0))
      (elim (q y) as (λ b. AllZip R (cond b (x ∷ filter p xs) (filter p xs)) (cond b (y ∷ filter q ys) (filter q ys))) [
        | true ↦ (h.0, more)
        | false ↦ more
      ])

pub all_pair : {A : Type 0} (P Q : A → Type 0) (xs : List A) → AllByRecursion P xs → AllByRecursion Q xs → AllByRecursion (λ x. P x × Q x) xs
all_pair P Q [] h k = tt
all_pair P Q (x ∷ xs) h k = ((h.0, k.0), all_pair P Q xs h.1 k.1)

pub zip_filter_on : {A B : Type 0} (R S : A → B → Type 0) (p : A → Bool) (q : B → Bool) (xs : List A) (ys : List B) → ((x : A) (y : B) → R x y → p x ≡ q y) → ((x : A) (y : B) → q y ≡ true → R x y → S x y)
    → AllZip R xs ys → AllZip S (filter p xs) (filter q ys)
zip_filter_on R S p q [] [] same f h = tt
zip_filter_on R S p q [] (y ∷ ys) same f h = absurd h
zip_filter_on R S p q (x ∷ xs) [] same f h = absurd h
zip_filter_on R S p q (x ∷ xs) (y ∷ ys) same f h =
    let more = zip_filter_on R S p q xs ys same f h.1 in
    subst (λ b. AllZip S (cond b (x ∷ filter p xs) (filter p xs)) (filter q (y ∷ ys))) (sym (same x y h.0))
    (elim (q y) as (λ b. q y ≡ b → AllZip S (cond b (x ∷ filter p xs) (filter p xs)) (cond b (y ∷ filter q ys) (filter q ys))) [
      | true ↦ λ e. (f x y e h.0, more)
      | false ↦ λ e. more
    ] refl)

-- ---- members that are changed one by one

-- whichever it is
pub cond_keeps : {A : Type 0} (P : A → Type 0) (b : Bool) (x y : A) → P x → P y → P (cond b x y)
cond_keeps P true x y h k = h
cond_keeps P false x y h k = k

pub zip_map : {A B : Type 0} (R S : A → B → Type 0) (f : A → A) (xs : List A) (ys : List B) → ((x : A) (y : B) → R x y → S (f x) y) → AllZip R xs ys → AllZip S (map f xs) ys
zip_map R S f [] [] h k = tt
zip_map R S f [] (y ∷ ys) h k = k
zip_map R S f (x ∷ xs) [] h k = k
zip_map R S f (x ∷ xs) (y ∷ ys) h k = (h x y k.0, zip_map R S f xs ys h k.1)

pub all_map : {A B : Type 0} (P : A → Type 0) (Q : B → Type 0) (f : A → B) (xs : List A) → ((x : A) → P x → Q (f x)) → AllByRecursion P xs → AllByRecursion Q (map f xs)
all_map P Q f [] h k = tt
all_map P Q f (x ∷ xs) h k = (h x k.0, all_map P Q f xs h k.1)

pub any_map : {A B : Type 0} (p : B → Bool) (q : A → Bool) (f : A → B) (xs : List A) → ((x : A) → p (f x) ≡ q x) → list_any p (map f xs) ≡ list_any q xs
any_map p q f [] h = refl
any_map p q f (x ∷ xs) h = λ i. h x i || any_map p q f xs h i

pub map_same : {A B : Type 0} (f g : A → B) (xs : List A) → ((x : A) → f x ≡ g x) → map f xs ≡ map g xs
map_same f g [] h = refl
map_same f g (x ∷ xs) h = λ i. h x i ∷ map_same f g xs h i
