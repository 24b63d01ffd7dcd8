-- How often keys stand in a set, and what its lists say of that.
use Rattle.std.proofs.Common.{◌≡◌, ◌≢◌, ℕ, ◌+◌, ◌*◌, ◌/◌, ◌%◌, ◌^◌, ◌<◌, true, false, cond, List, [], ◌∷◌, ◌++◌, length, set, refl, sym, ap, ◌∙◌, Option, Some, None, ◌==◌, arith}
use Rattle.std.specs.List.{AllByRecursion, slice_get}
use Rattle.std.specs.Option.{is_some, option_to_list, MatchOption}
use Rattle.std.proofs.lemmas.Bool.{eq-eqb, ne_eqb}
use Rattle.std.proofs.lemmas.Bool.Decides.{nat_tests}
use Rattle.qc_chain.specs.declared.keys.Key.{Key}
use Rattle.qc_chain.specs.Counts.{count}
use Rattle.qc_chain.specs.Linked.{Linked, nodes_of}
use Rattle.qc_chain.proofs.Counting.{total-append, total-set}
use Rattle.qc_chain.specs.Filed.{in_slot, contents, IsFiled, bucket_of}
use Rattle.qc_dir.specs.Keys.{total, bit, times, same_key, pair_of, major_home, pair_home, is_key, minor_under, minors_under, IsKeySet, IsAnyUnder}
use Rattle.qc_chain.proofs.FiledSteps.{bucket-low, bucket-some, moved, listed-all, none-counts, filed-moved, first-home, room-moved}

pub same_both : (a b : Key) → same_key a b ≡ true → a ≡ b
same_both a b h =
    let major : a.major ≡ b.major = grind (arith, nat_tests) in
    let minor : a.minor ≡ b.minor = grind (arith, nat_tests) in
    rw (major, minor) refl

pub same_itself : (a : Key) → same_key a a ≡ true
same_itself a = grind (arith, nat_tests)

-- ---- the lists

pub major-low : (mask : ℕ) (s : Option Key) → major_home mask s < mask + 2
major-low mask None = omega arith
major-low mask (Some k) = bucket-low mask k.major

pub pair-low : (mask : ℕ) (s : Option Key) → pair_home mask s < mask + 2
pair-low mask None = omega arith
pair-low mask (Some k) = bucket-low mask (pair_of k)

-- only a free slot belongs to list 0
pub major-none : (mask : ℕ) (s : Option Key) → major_home mask s ≡ 0 → s ≡ None
major-none mask None h = refl
major-none mask (Some k) h = absurd (bucket-some mask k.major h)

-- ---- how often a key stands

pub times-contents : (k : Key) (slots : List (Option Key)) → times k (contents slots) ≡ total (λ s. bit (is_key k s)) slots
times-contents k [] = refl
times-contents k (None ∷ ss) = omega (arith, times-contents k ss)
times-contents k (Some m ∷ ss) = omega (arith, times-contents k ss)

pub times-set : (k : Key) (slots : List (Option Key)) (x : ℕ) (v : Option Key) → x < length slots → times k (contents (set slots x v)) + bit (is_key k (in_slot x slots)) ≡ times k (contents slots) + bit (is_key k v)
times-set k slots x v low = omega (arith, times-contents k (set slots x v), times-contents k slots, total-set (λ s. bit (is_key k s)) slots x v None low)

-- ---- finding

-- no slot of a key's list has it
pub none-found : (k : Key) (slots : List (Option Key)) (filed : Linked) (mask : ℕ) → IsFiled (pair_home mask) (mask + 2) slots filed → AllByRecursion (λ n. is_key k (in_slot n slots) ≡ false) (nodes_of (bucket_of mask (pair_of k)) filed.lists) → times k (contents slots) ≡ 0
none-found k slots filed mask h all =
    times-contents k slots
    ∙ (sym (listed-all (pair_home mask) (mask + 2) (λ s. bit (is_key k s)) slots filed (bucket_of mask (pair_of k)) h (h.homes (Some k)) only)
    ∙ none-counts (is_key k) slots (nodes_of (bucket_of mask (pair_of k)) filed.lists) all)
  where
    only : (s : Option Key) → pair_home mask s ≢ bucket_of mask (pair_of k) → bit (is_key k s) ≡ 0
    only None ne = refl
    only (Some m) ne =
        elim (same_key k m) as (λ v. same_key k m ≡ v → bit v ≡ 0) [
          | true ↦ λ e. absurd (ne (ap (λ (j : Key). bucket_of mask (pair_of j)) (sym (same_both k m e))))
          | false ↦ λ e. refl
        ] refl

-- what a slot is found to have
pub found-key : (k : Key) (s : Option Key) → is_key k s ≡ true → s ≡ Some k
found-key k None e = absurd (cc e)
found-key k (Some m) e = ap (λ j. Some j) (sym (same_both k m e))

abbrev numbered_key : ℕ → ℕ → Key
numbered_key major n = record { major = major; minor = n }

one-minor : (major n : ℕ) (s : Option Key) → count n (minor_under major s) ≡ bit (is_key (numbered_key major n) s)
one-minor major n None = refl
one-minor major n (Some k) =
    elim (k.major == major) as (λ v. (k.major == major) ≡ v → count n (cond v (k.minor ∷ []) []) ≡ bit (same_key (numbered_key major n) k)) [
      | true ↦ λ e. let same : bit (same_key (numbered_key major n) k) ≡ bit (k.minor == n) = grind (arith, nat_tests) in omega (arith, same)
      | false ↦ λ e. let other : bit (same_key (numbered_key major n) k) ≡ 0 = grind (arith, nat_tests) in omega (arith, other)
    ] refl

total-minors : (major n : ℕ) (slots : List (Option Key)) (ns : List ℕ) → count n (minors_under major slots ns) ≡ total (λ m. bit (is_key (numbered_key major n) (in_slot m slots))) ns
total-minors major n slots [] = refl
total-minors major n slots (m ∷ ms) = omega (arith, total-append (λ y. bit (y == n)) (minor_under major (in_slot m slots)) (minors_under major slots ms), one-minor major n (in_slot m slots), total-minors major n slots ms)

-- the second numbers that a walk gives
pub minors-are : (major n : ℕ) (slots : List (Option Key)) (filed : Linked) (mask : ℕ) → IsFiled (major_home mask) (mask + 2) slots filed → count n (minors_under major slots (nodes_of (bucket_of mask major) filed.lists)) ≡ times (numbered_key major n) (contents slots)
minors-are major n slots filed mask h =
    total-minors major n slots (nodes_of (bucket_of mask major) filed.lists)
    ∙ (listed-all (major_home mask) (mask + 2) (λ s. bit (is_key (numbered_key major n) s)) slots filed (bucket_of mask major) h (h.homes (Some (numbered_key major n))) only
    ∙ sym (times-contents (numbered_key major n) slots))
  where
    only : (s : Option Key) → major_home mask s ≢ bucket_of mask major → bit (is_key (numbered_key major n) s) ≡ 0
    only None ne = refl
    only (Some m) ne =
        elim (same_key (numbered_key major n) m) as (λ v. same_key (numbered_key major n) m ≡ v → bit v ≡ 0) [
          | true ↦ λ e. absurd (ne (ap (λ (j : Key). bucket_of mask j.major) (sym (same_both (numbered_key major n) m e))))
          | false ↦ λ e. refl
        ] refl

-- none is left out
pub none-under : (major : ℕ) (keys : List Key) (minors : List ℕ) → ((n : ℕ) → count n minors ≡ times (numbered_key major n) keys) → minors ≡ [] → (n : ℕ) → times (numbered_key major n) keys ≡ 0
none-under major keys minors h is n = sym (h n) ∙ ap (count n) is

pub some-under : (major n : ℕ) (keys : List Key) (minors rest : List ℕ) → ((n : ℕ) → count n minors ≡ times (numbered_key major n) keys) → minors ≡ n ∷ rest → 0 < times (numbered_key major n) keys
some-under major n keys minors rest h is =
    let one : bit (n == n) ≡ 1 = rw (eq-eqb n n refl) refl in
    omega (arith, h n, ap (count n) is, one)

-- ---- one key more, and one less

pub record IsInserted (slots slots' : List (Option Key)) (by_major by_major' by_key' : Linked) (mask : ℕ) (k : Key) : Type 0 where
  pub kept : IsKeySet slots' by_major' by_key' mask
  pub keys : (j : Key) → times j (contents slots') ≡ times j (contents slots) + bit (same_key j k)
  pub room : length (nodes_of 0 by_major'.lists) + 1 ≡ length (nodes_of 0 by_major.lists)

pub inserted : (slots : List (Option Key)) (by_major by_key by_major' by_key' : Linked) (mask x : ℕ) (k : Key) → IsKeySet slots by_major by_key mask → x < length slots → slice_get (nodes_of 0 by_major.lists) 0 ≡ Some x
    → by_major' ≡ moved x (bucket_of mask k.major) by_major → by_key' ≡ moved x (bucket_of mask (pair_of k)) by_key → IsInserted slots (set slots x (Some k)) by_major by_major' by_key' mask k
inserted slots by_major by_key by_major' by_key' mask x k h low first one two = record {
  kept = record {
    by_major = filed-moved (major_home mask) (mask + 2) slots by_major by_major' x (bucket_of mask k.major) (Some k) h.by_major low refl one;
    by_key = filed-moved (pair_home mask) (mask + 2) slots by_key by_key' x (bucket_of mask (pair_of k)) (Some k) h.by_key low refl two;
  };
  keys = λ j. omega (arith, times-set j slots x (Some k) low, ap (λ s. bit (is_key j s)) none);
  room = let left = rw (none, ne_eqb 0 (bucket_of mask k.major) (λ e. bucket-some mask k.major (sym e))) at (room-moved (major_home mask) (mask + 2) slots by_major by_major' x (bucket_of mask k.major) h.by_major low one) in omega (arith, left);
}
  where
    none : in_slot x slots ≡ None
    none = major-none mask (in_slot x slots) (first-home (major_home mask) (mask + 2) 0 slots by_major x h.by_major (omega arith) low first)

pub record IsRemoved (slots slots' : List (Option Key)) (by_major by_major' by_key' : Linked) (mask : ℕ) (k : Key) : Type 0 where
  pub kept : IsKeySet slots' by_major' by_key' mask
  pub keys : (j : Key) → times j (contents slots') + bit (same_key j k) ≡ times j (contents slots)
  pub room : length (nodes_of 0 by_major'.lists) ≡ length (nodes_of 0 by_major.lists) + 1

pub removed : (slots : List (Option Key)) (by_major by_key by_major' by_key' : Linked) (mask x : ℕ) (k : Key) → IsKeySet slots by_major by_key mask → x < length slots → is_key k (in_slot x slots) ≡ true
    → by_major' ≡ moved x 0 by_major → by_key' ≡ moved x 0 by_key → IsRemoved slots (set slots x None) by_major by_major' by_key' mask k
removed slots by_major by_key by_major' by_key' mask x k h low is one two = record {
  kept = record {
    by_major = filed-moved (major_home mask) (mask + 2) slots by_major by_major' x 0 None h.by_major low refl one;
    by_key = filed-moved (pair_home mask) (mask + 2) slots by_key by_key' x 0 None h.by_key low refl two;
  };
  keys = λ j. omega (arith, times-set j slots x None low, ap (λ s. bit (is_key j s)) some);
  room = let left = rw (some, ne_eqb (bucket_of mask k.major) 0 (bucket-some mask k.major)) at (room-moved (major_home mask) (mask + 2) slots by_major by_major' x 0 h.by_major low one) in omega (arith, left);
}
  where
    some : in_slot x slots ≡ Some k
    some = found-key k (in_slot x slots) is

-- ---- whether one stands under a number

pub any-yes : (major : ℕ) (keys : List Key) (o : Option ℕ) → IsAnyUnder major keys o → is_some o ≡ true → (s : ℕ) × (0 < times (numbered_key major s) keys)
any-yes major keys None h e = absurd (cc e)
any-yes major keys (Some s) h e = (s, h)

pub any-no : (major : ℕ) (keys : List Key) (o : Option ℕ) → IsAnyUnder major keys o → is_some o ≡ false → (s : ℕ) → times (numbered_key major s) keys ≡ 0
any-no major keys None h e = h
any-no major keys (Some s) h e = absurd (cc e)

-- ---- one slot of a walk

pub next-minor : (major slot : ℕ) (slots : List (Option Key)) (rest old : List ℕ) (o : Option ℕ) → old ≡ minors_under major slots (slot ∷ rest) → option_to_list o ≡ minor_under major (in_slot slot slots) → is_some o ≡ true
    → MatchOption o ((old ≡ []) × (minors_under major slots rest ≡ [])) (λ n. old ≡ n ∷ minors_under major slots rest)
next-minor major slot slots rest old None was h e = absurd (cc e)
next-minor major slot slots rest old (Some n) was h e = was ∙ ap (λ xs. xs ++ minors_under major slots rest) (sym h)

pub no-minor : (major slot : ℕ) (slots : List (Option Key)) (rest : List ℕ) (o : Option ℕ) → option_to_list o ≡ minor_under major (in_slot slot slots) → is_some o ≡ false → minors_under major slots (slot ∷ rest) ≡ minors_under major slots rest
no-minor major slot slots rest None h e = ap (λ xs. xs ++ minors_under major slots rest) (sym h)
no-minor major slot slots rest (Some n) h e = absurd (cc e)
