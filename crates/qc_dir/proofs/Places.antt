-- The places in which up to eight tables stand.
use Rattle.std.proofs.Common.{◌≡◌, ℕ, ◌-◌, ◌<◌, ◌≤◌, List, [], ◌∷◌, ◌++◌, map, length, get_or, set, replicate, refl, sym, ap, ◌∙◌, arith, zero, suc, Option, Some, None}
use Rattle.std.specs.List.{filter_map}
use Rattle.qc_dir.specs.declared.tables.TableBlock.{TableBlock}
use Rattle.qc_dir.specs.Blocks.{places_of}

-- the members, and then so many free places
abbrev with_free : List TableBlock → ℕ → List (Option TableBlock)
with_free members n = map (λ m. Some m) members ++ replicate n None

none_of : (n : ℕ) → filter_map (λ (x : Option TableBlock). x) (replicate n None) ≡ []
none_of zero = refl
none_of (suc n) = none_of n

members_with : (members : List TableBlock) (n : ℕ) → filter_map (λ x. x) (with_free members n) ≡ members
members_with [] n = none_of n
members_with (m ∷ ms) n = ap (λ rest. m ∷ rest) (members_with ms n)

pub members_of : (members : List TableBlock) → filter_map (λ x. x) (places_of members) ≡ members
members_of members = members_with members (8 - length members)

put_with : (members : List TableBlock) (m : TableBlock) (n : ℕ) → set (with_free members (suc n)) (length members) (Some m) ≡ with_free (members ++ m ∷ []) n
put_with [] m n = refl
put_with (x ∷ xs) m n = ap (λ rest. Some x ∷ rest) (put_with xs m n)

taken_with : (members : List TableBlock) (m : TableBlock) (n : ℕ) → set (with_free (members ++ m ∷ []) n) (length members) None ≡ with_free members (suc n)
taken_with [] m n = refl
taken_with (x ∷ xs) m n = ap (λ rest. Some x ∷ rest) (taken_with xs m n)

last_with : (members : List TableBlock) (m : TableBlock) (n : ℕ) (d : Option TableBlock) → get_or (with_free (members ++ m ∷ []) n) (length members) d ≡ Some m
last_with [] m n d = refl
last_with (x ∷ xs) m n d = last_with xs m n d

pub length_more : (xs : List TableBlock) (m : TableBlock) → length (xs ++ m ∷ []) ≡ suc (length xs)
length_more [] m = refl
length_more (x ∷ xs) m = ap suc (length_more xs m)

-- one member more
pub put : (members : List TableBlock) (m : TableBlock) → length members < 8 → set (places_of members) (length members) (Some m) ≡ places_of (members ++ m ∷ [])
put members m few =
    let e : 8 - length members ≡ suc (8 - suc (length members)) = omega arith in
    rw (e, length_more members m) (put_with members m (8 - suc (length members)))

-- one less
pub taken : (members : List TableBlock) (m : TableBlock) → length members < 8 → set (places_of (members ++ m ∷ [])) (length members) None ≡ places_of members
taken members m few =
    let e : 8 - length members ≡ suc (8 - suc (length members)) = omega arith in
    rw (e, length_more members m) (taken_with members m (8 - suc (length members)))

pub last_of : (members : List TableBlock) (m : TableBlock) (d : Option TableBlock) → get_or (places_of (members ++ m ∷ [])) (length members) d ≡ Some m
last_of members m d = last_with members m (8 - length (members ++ m ∷ [])) d

-- a list that isn't empty is a front and its last member
pub front_and_last : (xs : List TableBlock) → 0 < length xs → (front : List TableBlock) × ((last : TableBlock) × (xs ≡ front ++ last ∷ []))
front_and_last [] some = absurd (omega arith)
front_and_last (x ∷ []) some = ([], (x, refl))
front_and_last (x ∷ y ∷ ys) some =
    let rest = front_and_last (y ∷ ys) (omega arith) in
    (x ∷ rest.0, (rest.1.0, ap (λ tail. x ∷ tail) rest.1.1))

-- ---- as the calls do it

pub members_at : (members : List TableBlock) (places : List (Option TableBlock)) → places ≡ places_of members → filter_map (λ x. x) places ≡ members
members_at members places is = ap (λ ps. filter_map (λ x. x) ps) is ∙ members_of members

pub stay_in_place : (members : List TableBlock) (places : List (Option TableBlock)) (count : ℕ) → places ≡ places_of members → count ≡ length members → count ≤ 8
    → (places ≡ places_of (filter_map (λ x. x) places)) × (count ≡ length (filter_map (λ x. x) places)) × (count ≤ 8)
stay_in_place members places count is counts few =
    let e = members_at members places is in (is ∙ ap places_of (sym e), counts ∙ ap length (sym e), few)

pub pushed : (places : List (Option TableBlock)) (count : ℕ) (item : TableBlock) → places ≡ places_of (filter_map (λ x. x) places) → count ≡ length (filter_map (λ x. x) places) → count < 8
    → set places count (Some item) ≡ places_of (filter_map (λ x. x) places ++ item ∷ [])
pushed places count item is counts few =
    let members = filter_map (λ (x : Option TableBlock). x) places in
    let short : length members < 8 = omega (arith, counts) in
    ap (λ n. set places n (Some item)) counts ∙ (ap (λ ps. set ps (length members) (Some item)) is ∙ put members item short)

-- the last of them is taken out
pub record Pops (places : List (Option TableBlock)) (count : ℕ) : Type 0 where
  pub front : List TableBlock
  pub last : TableBlock
  pub members : filter_map (λ x. x) places ≡ front ++ last ∷ []
  pub counts : count - 1 ≡ length front
  pub left : set places (count - 1) None ≡ places_of front
  pub taken : (d : Option TableBlock) → get_or places (count - 1) d ≡ Some last

pub popped : (places : List (Option TableBlock)) (count : ℕ) → places ≡ places_of (filter_map (λ x. x) places) → count ≡ length (filter_map (λ x. x) places) → count ≤ 8 → (count ≡ 0 → ⊥) → Pops places count
popped places count is counts few some =
    let members = filter_map (λ (x : Option TableBlock). x) places in
    let ends = front_and_last members (omega (arith, counts, some)) in
    let front = ends.0 in
    let last = ends.1.0 in
    let e : members ≡ front ++ last ∷ [] = ends.1.1 in
    let whole : places ≡ places_of (front ++ last ∷ []) = is ∙ ap places_of e in
    let n : count - 1 ≡ length front = omega (arith, counts, ap length e, length_more front last) in
    record {
      front = front;
      last = last;
      members = e;
      counts = n;
      left = ap (λ k. set places k None) n ∙ (ap (λ ps. set ps (length front) None) whole ∙ taken front last (omega arith));
      taken = λ d. ap (λ k. get_or places k d) n ∙ (ap (λ ps. get_or ps (length front) d) whole ∙ last_of front last d);
    }
