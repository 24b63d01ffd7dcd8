-- Tables in numbered slots: what looking up finds.
use Rattle.std.proofs.Common.{◌≡◌, ℕ, ◌+◌, ◌<◌, ◌≤◌, ◌^◌, zero, suc, Bool, true, false, cond, nat_lt, List, [], ◌∷◌, ◌++◌, map, length, length-append, set, get_or, refl, sym, ap, ◌∙◌, Option, Some, None, ◌==◌, arith}
use Rattle.std.specs.List.{AllByRecursion, find, slice_get}
use Rattle.std.specs.Option.{IsSome, option_map}
use Rattle.std.proofs.lemmas.Option.{none-some, same_Some, slice_get_read}
use Rattle.std.proofs.lemmas.Bool.{false≢true, eq-eqb, ne_eqb}
use Rattle.std.proofs.lemmas.Bool.Decides.{nat_tests}
use Rattle.qc_types.specs.declared.names.TableName.{TableName}
use Rattle.qc_tiles.specs.declared.blocks.Move.{Move}
use Rattle.qc_chain.specs.declared.keys.Key.{Key}
use Rattle.qc_chain.specs.Counts.{count}
use Rattle.qc_dir.specs.declared.tables.TableBlock.{TableBlock}
use Rattle.qc_dir.specs.Directory.{block_of, is_block_of}
use Rattle.qc_dir.specs.Keys.{Keys, total, bit, times, same_key}
use Rattle.qc_dir.specs.Indexed.{holding}
use Rattle.qc_dir.specs.Slots.{Numbered, Tabled, IsSlots, IsInOrder, held_from, moved_numbered, is_of, has_number, number_of, numbered_at, name_hash, name_key, place_key, blocks_at}
use Rattle.qc_dir.proofs.KeyCounts.{same_itself, same_both}
use Rattle.qc_dir.proofs.Names.{same_is}
use Rattle.qc_dir.proofs.SlotSteps.{each_counted, each_zip, each_both, each_numbered, slot_of, slot_at, held-rising, get-within, held-take, total-permutation}
use Rattle.qc_dir.proofs.Totals.{total-append}

-- ---- the search by name

abbrev numbered_key : ℕ → ℕ → Key
numbered_key major n = record { major = major; minor = n }

named_counts : (names : Keys) (held : List Numbered) (h : Numbered) (hash : ℕ) → ((k : Key) → times k names.keys ≡ total (λ g. bit (same_key k (name_key g))) held) → ((w : Numbered → ℕ) → w h ≤ total w held) → name_hash h.table.table ≡ hash → 0 < times (numbered_key hash h.number) names.keys
named_counts names held h hash by_name counts same =
    let itself : bit (same_key (numbered_key hash h.number) (name_key h)) ≡ 1 = rw (← same, same_itself (name_key h)) refl in
    omega (arith, by_name (numbered_key hash h.number), counts (λ g. bit (same_key (numbered_key hash h.number) (name_key g))), itself)

-- a key that stands with a number, stands for a table with that number
numbered_there : (f : Numbered → ℕ) (k : Key) (held : List Numbered) → 0 < total (λ h. bit (same_key k (numbered_key (f h) h.number))) held → IsSome (numbered_at k.minor held)
numbered_there f k [] some = absurd (omega (arith, some))
numbered_there f k (h ∷ hs) some =
    elim (has_number k.minor h) as (λ v. has_number k.minor h ≡ v → IsSome (cond v (Some h) (numbered_at k.minor hs))) [
      | true ↦ λ e. refl
      | false ↦ λ e. numbered_there f k hs (omega (arith, some, none e))
    ] refl
  where
    none : has_number k.minor h ≡ false → bit (same_key k (numbered_key (f h) h.number)) ≡ 0
    none e = let test : same_key k (numbered_key (f h) h.number) ≡ false = grind (arith, nat_tests) in rw test refl

-- The numbers that are left have that of the table, if it has one, and each is a number of some table.
pub record AreLeft (t : TableName) (numbers : List ℕ) (held : List Numbered) : Type 0 where
  pub left : AllByRecursion (λ h. is_of t h ≡ true → 0 < count h.number numbers) held
  pub there : (n : ℕ) → 0 < count n numbers → IsSome (numbered_at n held)

pub all_left : (t : TableName) (hash : ℕ) (names : Keys) (held : List Numbered) (numbers : List ℕ) → hash ≡ name_hash t → ((k : Key) → times k names.keys ≡ total (λ g. bit (same_key k (name_key g))) held) → ((n : ℕ) → count n numbers ≡ times (numbered_key hash n) names.keys) → AreLeft t numbers held
all_left t hash names held numbers is by_name stands = record {
  left = each_counted (λ h. is_of t h ≡ true → 0 < count h.number numbers) held (λ h counts of. omega (arith, stands h.number, named_counts names held h hash by_name counts (ap name_hash (sym (same_is t h.table.table of)) ∙ sym is)));
  there = λ n some. numbered_there (λ h. name_hash h.table.table) (numbered_key hash n) held (omega (arith, some, stands n, by_name (numbered_key hash n)));
}

pub next_there : (t : TableName) (n : ℕ) (rest : List ℕ) (held : List Numbered) → AreLeft t (n ∷ rest) held → IsSome (numbered_at n held)
next_there t n rest held h = let one : bit (n == n) ≡ 1 = grind (arith, nat_tests) in h.there n (omega (arith, one))

pub left_without : (t : TableName) (n : ℕ) (rest : List ℕ) (held : List Numbered) → AreLeft t (n ∷ rest) held → AllByRecursion (λ h. h.number ≡ n → false ≡ is_of t h) held → AreLeft t rest held
left_without t n rest held h differs = record {
  left = each_zip (λ h. is_of t h ≡ true → 0 < count h.number (n ∷ rest)) (λ h. h.number ≡ n → false ≡ is_of t h) (λ h. is_of t h ≡ true → 0 < count h.number rest) held other h.left differs;
  there = λ m some. h.there m (omega (arith, some));
}
  where
    other : (h : Numbered) → (is_of t h ≡ true → 0 < count h.number (n ∷ rest)) → (h.number ≡ n → false ≡ is_of t h) → is_of t h ≡ true → 0 < count h.number rest
    other h p q of =
        let none : bit (n == h.number) ≡ 0 = by (n == h.number) refl in
        omega (arith, p of, none)
      where
        by : (b : Bool) → (n == h.number) ≡ b → bit b ≡ 0
        by true e = let same : h.number ≡ n = grind (arith, nat_tests) in absurd (false≢true (q same ∙ of))
        by false e = refl

-- a table that stands under a number
counted_at : (t : TableName) (n : ℕ) (hs : List Numbered) → IsSome (numbered_at n hs) → AllByRecursion (λ h. h.number ≡ n → true ≡ is_of t h) hs → 0 < holding t hs
counted_at t n [] there all = absurd (cc there)
counted_at t n (h ∷ hs) there all =
    elim (has_number n h) as (λ v. has_number n h ≡ v → IsSome (cond v (Some h) (numbered_at n hs)) → 0 < bit (is_of t h) + holding t hs) [
      | true ↦ λ e k. (let same : h.number ≡ n = grind (arith, nat_tests) in omega (arith, ap bit (sym (all.0 same))))
      | false ↦ λ e k. omega (arith, counted_at t n hs k all.1)
    ] refl there

pub found_number : (t : TableName) (n : ℕ) (hs : List Numbered) → holding t hs ≤ 1 → IsSome (numbered_at n hs) → AllByRecursion (λ h. h.number ≡ n → true ≡ is_of t h) hs → Some n ≡ number_of t hs
found_number t n [] once there all = absurd (cc there)
found_number t n (h ∷ hs) once there all =
    elim (has_number n h) as (λ v. has_number n h ≡ v → IsSome (cond v (Some h) (numbered_at n hs)) → Some n ≡ number_of t (h ∷ hs)) [
      | true ↦ λ e k. (let same : h.number ≡ n = grind (arith, nat_tests) in rw (← all.0 same) (ap (λ m. Some m) (sym same)))
      | false ↦ λ e k. off k (found_number t n hs (omega (arith, once)) k all.1)
    ] refl there
  where
    off : IsSome (numbered_at n hs) → Some n ≡ number_of t hs → Some n ≡ number_of t (h ∷ hs)
    off k rec =
        elim (is_of t h) as (λ v. bit v + holding t hs ≤ 1 → Some n ≡ option_map (λ (g : Numbered). g.number) (cond v (Some h) (find (is_of t) hs))) [
          | true ↦ λ q. absurd (omega (arith, q, counted_at t n hs k all.1))
          | false ↦ λ q. rec
        ] once

pub not_found : (t : TableName) (held : List Numbered) → AreLeft t [] held → None ≡ number_of t held
not_found t held h = sym (ap (option_map (λ (g : Numbered). g.number)) (none_of held h.left))
  where
    none_of : (hs : List Numbered) → AllByRecursion (λ h. is_of t h ≡ true → 0 < 0) hs → find (is_of t) hs ≡ None
    none_of [] all = refl
    none_of (g ∷ gs) all =
        elim (is_of t g) as (λ v. (v ≡ true → 0 < 0) → cond v (Some g) (find (is_of t) gs) ≡ None) [
          | true ↦ λ q. absurd (omega (arith, q refl))
          | false ↦ λ q. none_of gs all.1
        ] all.0

-- ---- the block of a table

block_map : (t : TableName) (held : List Numbered) → block_of t (map (λ (h : Numbered). h.table) held) ≡ option_map (λ (h : Numbered). h.table.block) (find (is_of t) held)
block_map t [] = refl
block_map t (h ∷ hs) =
    elim (is_of t h) as (λ v. option_map (λ (b : TableBlock). b.block) (cond v (Some h.table) (find (is_block_of t) (map (λ (h : Numbered). h.table) hs))) ≡ option_map (λ (h : Numbered). h.table.block) (cond v (Some h) (find (is_of t) hs))) [
      | true ↦ refl
      | false ↦ block_map t hs
    ]

pub found_at : (t : TableName) (n : ℕ) (held : List Numbered) → IsInOrder held → Some n ≡ number_of t held → (h : Numbered) × (find (is_of t) held ≡ Some h) × (numbered_at n held ≡ Some h)
found_at t n [] rising e = absurd (none-some n (sym e))
found_at t n (h ∷ hs) rising e =
    elim (is_of t h) as (λ v. Some n ≡ option_map (λ (h : Numbered). h.number) (cond v (Some h) (find (is_of t) hs)) → (g : Numbered) × (cond v (Some h) (find (is_of t) hs) ≡ Some g) × (numbered_at n (h ∷ hs) ≡ Some g)) [
      | true ↦ λ k. let same : n ≡ h.number = same_Some n h.number k in (h, refl, rw (eq-eqb h.number n (sym same)) refl)
      | false ↦ λ k. later (found_at t n hs rising.1 k)
    ] e
  where
    higher : (gs : List Numbered) (g : Numbered) → numbered_at n gs ≡ Some g → AllByRecursion (λ k. h.number < k.number) gs → h.number < n
    higher [] g f all = absurd (none-some g f)
    higher (k ∷ ks) g f all =
        elim (has_number n k) as (λ v. has_number n k ≡ v → cond v (Some k) (numbered_at n ks) ≡ Some g → h.number < n) [
          | true ↦ λ p q. let same : k.number ≡ n = grind (arith, nat_tests) in omega (arith, same, all.0)
          | false ↦ λ p q. higher ks g q all.1
        ] refl f

    later : ((g : Numbered) × (find (is_of t) hs ≡ Some g) × (numbered_at n hs ≡ Some g)) → (g : Numbered) × (find (is_of t) hs ≡ Some g) × (numbered_at n (h ∷ hs) ≡ Some g)
    later found = let test : (h.number == n) ≡ false = ne_eqb h.number n (λ q. omega (arith, q, higher hs found.0 found.2 rising.0)) in (found.0, found.1, rw test found.2)

-- ---- blocks at a place

placed_counts : (place : ℕ) (h : Numbered) (places : Keys) (held : List Numbered) → ((k : Key) → times k places.keys ≡ total (λ g. bit (same_key k (place_key g))) held) → ((w : Numbered → ℕ) → w h ≤ total w held) → h.table.block.first ≡ place → 0 < times (numbered_key place h.number) places.keys
placed_counts place h places held by_place counts same =
    let itself : bit (same_key (numbered_key place h.number) (place_key h)) ≡ 1 = rw (← same, same_itself (place_key h)) refl in
    omega (arith, by_place (numbered_key place h.number), counts (λ g. bit (same_key (numbered_key place h.number) (place_key g))), itself)

none_count : (place : ℕ) (held : List Numbered) → AllByRecursion (λ h. h.table.block.first ≡ place → ⊥) held → blocks_at place held ≡ 0
none_count place [] all = refl
none_count place (h ∷ hs) all = let test : (h.table.block.first == place) ≡ false = ne_eqb h.table.block.first place all.0 in rw test (omega (arith, none_count place hs all.1))

pub none_placed : (place : ℕ) (places : Keys) (held : List Numbered) → ((k : Key) → times k places.keys ≡ total (λ g. bit (same_key k (place_key g))) held) → ((n : ℕ) → times (numbered_key place n) places.keys ≡ 0) → blocks_at place held ≡ 0
none_placed place places held by_place none = none_count place held (each_counted (λ h. h.table.block.first ≡ place → ⊥) held (λ h counts same. omega (arith, placed_counts place h places held by_place counts same, none h.number)))

pub placed_there : (k : Key) (places : Keys) (held : List Numbered) → ((k : Key) → times k places.keys ≡ total (λ g. bit (same_key k (place_key g))) held) → 0 < times k places.keys → IsSome (numbered_at k.minor held)
placed_there k places held by_place some = numbered_there (λ h. h.table.block.first) k held (omega (arith, by_place k, some))

some_with : {A : Type 0} (w : A → ℕ) (P : A → Type 0) (xs : List A) → 0 < total w xs → AllByRecursion P xs → (x : A) × (0 < w x) × P x
some_with w P [] h all = absurd (omega (arith, h))
some_with {A = A} w P (x ∷ xs) h all =
    elim (nat_lt 0 (w x)) as (λ v. nat_lt 0 (w x) ≡ v → (y : A) × (0 < w y) × P y) [
      | true ↦ λ e. (x, (let some : 0 < w x = grind (arith, nat_tests) in some), all.0)
      | false ↦ λ e. some_with w P xs (let none : w x ≡ 0 = grind (arith, nat_tests) in omega (arith, h, none)) all.1
    ] refl

-- the slot of a number that stands with a place has its block there
pub placed_first : (k : Key) (places : Keys) (slots : List (Option TableBlock)) (t : TableBlock) → ((k : Key) → times k places.keys ≡ total (λ g. bit (same_key k (place_key g))) (held_from 0 slots)) → 0 < times k places.keys → slice_get slots k.minor ≡ Some (Some t) → place_key (record { number = k.minor; table = t }) ≡ k
placed_first k places slots t by_place some is =
    let found = some_with (λ g. bit (same_key k (place_key g))) (λ h. h.number ≡ k.minor → h.table ≡ t) (held_from 0 slots) (omega (arith, by_place k, some)) (each_numbered k.minor slots t is) in
    at found.0 (stands found.0 found.1) found.2
  where
    stands : (h : Numbered) → 0 < bit (same_key k (place_key h)) → place_key h ≡ k
    stands h p =
        elim (same_key k (place_key h)) as (λ v. same_key k (place_key h) ≡ v → 0 < bit v → place_key h ≡ k) [
          | true ↦ λ e q. sym (same_both k (place_key h) e)
          | false ↦ λ e q. absurd (omega (arith, q))
        ] refl p

    at : (h : Numbered) → place_key h ≡ k → (h.number ≡ k.minor → h.table ≡ t) → place_key (record { number = k.minor; table = t }) ≡ k
    at h e same = let table : h.table ≡ t = same (ap (λ (j : Key). j.minor) e) in rw (← table) (ap (λ m. numbered_key h.table.block.first m) (sym (ap (λ (j : Key). j.minor) e)) ∙ e)

pub moved_same : (change : Move) (t : TableBlock) (m : ℕ) → t.block.first ≡ change.from → (change.from ≡ change.to → ⊥) → moved_numbered change (record { number = m; table = record t { block = record { first = change.to; words = t.block.words } } }) ≡ moved_numbered change (record { number = m; table = t })
moved_same change t m is other =
    rw (eq-eqb t.block.first change.from is, ne_eqb change.to change.from (λ e. other (sym e))) refl

-- where no block stands, nothing is moved
pub moved_none : (change : Move) (held : List Numbered) → blocks_at change.from held ≡ 0 → map (moved_numbered change) held ≡ held
moved_none change [] h = refl
moved_none change (x ∷ xs) h =
    elim (x.table.block.first == change.from) as (λ v. (x.table.block.first == change.from) ≡ v → bit v + blocks_at change.from xs ≡ 0 → map (moved_numbered change) (x ∷ xs) ≡ x ∷ xs) [
      | true ↦ λ e k. absurd (omega (arith, k))
      | false ↦ λ e k. rw e (ap (λ ys. x ∷ ys) (moved_none change xs (omega (arith, k))))
    ] refl h

-- ---- what an access to a slot reads

pub slot_item : (n : ℕ) (xs : List (Option TableBlock)) (v r : Option TableBlock) (item : TableBlock) → IsSome (numbered_at n (held_from 0 xs)) → v ≡ get_or xs n v → r ≡ v → r ≡ Some item → slice_get xs n ≡ Some (Some item)
slot_item n xs v r item there read taken is =
    let slot = slot_of n xs there in
    slice_get_read xs (length xs) n v refl (get-within xs n (Some slot.0) slot.1) read ∙ ap (λ o. Some o) (sym taken ∙ is)

pub slot_full : (n : ℕ) (xs : List (Option TableBlock)) (v r : Option TableBlock) → IsSome (numbered_at n (held_from 0 xs)) → v ≡ get_or xs n v → r ≡ v → ((t : TableBlock) → r ≡ Some t → ⊥) → ⊥
slot_full n xs v r there read taken empty =
    let slot = slot_of n xs there in
    empty slot.0 (taken ∙ same_Some v (Some slot.0) (sym (slice_get_read xs (length xs) n v refl (get-within xs n (Some slot.0) slot.1) read) ∙ slot.1))

slot_counts : (w : Numbered → ℕ) (n : ℕ) (slots : List (Option TableBlock)) (t : TableBlock) → slice_get slots n ≡ Some (Some t) → w (record { number = n; table = t }) ≤ total w (held_from 0 slots)
slot_counts w n slots t is = omega (arith, total-permutation w (held_from 0 slots) (record { number = n; table = t } ∷ held_from 0 (set slots n None)) (held-take 0 n n slots t (omega arith) is))

pub key_counts : (k : Key) (f : Numbered → Key) (n : ℕ) (slots : List (Option TableBlock)) (t : TableBlock) (keys : Keys) → ((j : Key) → times j keys.keys ≡ total (λ h. bit (same_key j (f h))) (held_from 0 slots)) → slice_get slots n ≡ Some (Some t) → k ≡ f (record { number = n; table = t }) → 0 < times k keys.keys
key_counts k f n slots t keys stands is same =
    let itself : bit (same_key k (f (record { number = n; table = t }))) ≡ 1 = rw (← same, same_itself k) refl in
    omega (arith, stands k, slot_counts (λ h. bit (same_key k (f h))) n slots t is, itself)

-- ---- no tables yet

no_held : (j : ℕ) (slots : List (Option TableBlock)) → AllByRecursion (λ s. s ≡ None) slots → held_from j slots ≡ []
no_held j [] all = refl
no_held j (s ∷ ss) all = rw all.0 (no_held (j + 1) ss all.1)

empty_at : (slots : List (Option TableBlock)) (k : ℕ) → AllByRecursion (λ s. s ≡ None) slots → k < length slots → slice_get slots k ≡ Some None
empty_at [] k all h = absurd (omega (arith, h))
empty_at (s ∷ ss) zero all h = ap (λ o. Some o) all.0
empty_at (s ∷ ss) (suc k) all h = empty_at ss k all.1 (omega (arith, h))

all_empty : (slots : List (Option TableBlock)) (free : List ℕ) → AllByRecursion (λ s. s ≡ None) slots → AllByRecursion (λ k. k < length slots) free → AllByRecursion (λ k. slice_get slots k ≡ Some None) free
all_empty slots [] all below = tt
all_empty slots (k ∷ ks) all below = (empty_at slots k all below.0, all_empty slots ks all below.1)

pub record IsFresh (n : ℕ) (slots : List (Option TableBlock)) (free : List ℕ) : Type 0 where
  pub empty : AllByRecursion (λ s. s ≡ None) slots
  pub below : AllByRecursion (λ k. k < n) free
  pub apart : (k : ℕ) → total (λ j. bit (j == k)) free ≤ 1
  pub slots_len : length slots ≡ n
  pub free_len : length free ≡ n

pub fresh_more : (n : ℕ) (slots : List (Option TableBlock)) (free : List ℕ) → IsFresh n slots free → IsFresh (n + 1) (slots ++ None ∷ []) (free ++ n ∷ [])
fresh_more n slots free h = record {
  empty = each_both (λ s. s ≡ None) slots (None ∷ []) h.empty (refl, tt);
  below = each_both (λ k. k < n + 1) free (n ∷ []) (larger free h.below) (omega arith, tt);
  apart = λ k. omega (arith, total-append (λ j. bit (j == k)) free (n ∷ []), once k);
  slots_len = omega (arith, h.slots_len, length-append slots (None ∷ []));
  free_len = omega (arith, h.free_len, length-append free (n ∷ []));
}
  where
    larger : (ks : List ℕ) → AllByRecursion (λ k. k < n) ks → AllByRecursion (λ k. k < n + 1) ks
    larger [] all = tt
    larger (k ∷ ks) all = (omega (arith, all.0), larger ks all.1)

    none_there : (ks : List ℕ) → AllByRecursion (λ k. k < n) ks → total (λ j. bit (j == n)) ks ≡ 0
    none_there [] all = refl
    none_there (k ∷ ks) all = let test : (k == n) ≡ false = ne_eqb k n (λ e. omega (arith, e, all.0)) in rw test (omega (arith, none_there ks all.1))

    one_last : (m k : ℕ) → total (λ j. bit (j == k)) (m ∷ []) ≤ 1
    one_last m k = elim (m == k) as (λ v. bit v + 0 ≤ 1) [ true ↦ omega arith | false ↦ omega arith ]

    once : (k : ℕ) → total (λ j. bit (j == k)) free + total (λ j. bit (j == k)) (n ∷ []) ≤ 1
    once k =
        elim (n == k) as (λ v. (n == k) ≡ v → total (λ j. bit (j == k)) free + total (λ j. bit (j == k)) (n ∷ []) ≤ 1) [
          | true ↦ λ e. let same : n ≡ k = grind (arith, nat_tests) in rw (← same) (omega (arith, none_there free h.below, one_last n n))
          | false ↦ λ e. rw e (omega (arith, h.apart k))
        ] refl

pub slots-fresh : (n capacity : ℕ) (slots : List (Option TableBlock)) (free : List ℕ) (names places : Keys) → IsFresh n slots free → n ≤ capacity → n < 2 ^ 32 → names ≡ record { keys = []; room = n } → places ≡ record { keys = []; room = n } → IsSlots slots free capacity names places
slots-fresh n capacity slots free names places h fits few names_are places_are = record {
  empty = all_empty slots free h.empty (rw h.slots_len h.below);
  apart = h.apart;
  by_name = λ k. rw (names_are, no_held 0 slots h.empty) refl;
  by_place = λ k. rw (places_are, no_held 0 slots h.empty) refl;
  name_room = rw names_are (sym h.free_len);
  place_room = rw places_are (sym h.free_len);
  whole = rw (no_held 0 slots h.empty) (omega (arith, h.slots_len, h.free_len));
  few = omega (arith, few, h.slots_len);
  fits = omega (arith, fits, h.slots_len);
}

pub fresh_held : (n : ℕ) (slots : List (Option TableBlock)) (free : List ℕ) → IsFresh n slots free → ◌≡◌ {A = Tabled} record { held = held_from 0 slots; room = length free } record { held = []; room = n }
fresh_held n slots free h = rw (no_held 0 slots h.empty, h.free_len) refl

-- what a call of `block` reads
pub block_is : (t : TableName) (n : ℕ) (xs : List (Option TableBlock)) (v : Option TableBlock) (item : TableBlock) → Some n ≡ number_of t (held_from 0 xs) → v ≡ get_or xs n v → v ≡ Some item → Some item.block ≡ block_of t (map (λ (h : Numbered). h.table) (held_from 0 xs))
block_is t n xs v item is read was =
    let found = found_at t n (held_from 0 xs) (held-rising 0 xs) is in
    let slot = slot_item n xs v v item (rw found.2 refl) read refl was in
    let same : found.0 ≡ record { number = n; table = item } = same_Some found.0 (record { number = n; table = item }) (sym found.2 ∙ slot_at n xs item slot) in
    sym (block_map t (held_from 0 xs) ∙ (ap (option_map (λ (h : Numbered). h.table.block)) found.1 ∙ ap (λ (h : Numbered). Some h.table.block) same))

pub number_there : (t : TableName) (n : ℕ) (xs : List (Option TableBlock)) → Some n ≡ number_of t (held_from 0 xs) → IsSome (numbered_at n (held_from 0 xs))
number_there t n xs is = let found = found_at t n (held_from 0 xs) (held-rising 0 xs) is in rw found.2 refl

pub no_block : (t : TableName) (held : List Numbered) → None ≡ number_of t held → None ≡ block_of t (map (λ (h : Numbered). h.table) held)
no_block t held is =
    elim (find (is_of t) held) as (λ v. find (is_of t) held ≡ v → None ≡ option_map (λ (h : Numbered). h.number) v → None ≡ block_of t (map (λ (h : Numbered). h.table) held)) [
      | None ↦ λ e k. sym (block_map t held ∙ ap (option_map (λ (h : Numbered). h.table.block)) e)
      | Some h ↦ λ e k. absurd (none-some h.number k)
    ] refl is
