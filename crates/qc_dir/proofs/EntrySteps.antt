-- Slots of entries, and the lists by which they are looked up.
use Rattle.std.proofs.Common.{◌≡◌, ◌≢◌, ℕ, ◌+◌, ◌<◌, true, false, cond, ◌&&◌, List, [], ◌∷◌, ◌++◌, map, length, set, get_or, replicate, refl, sym, ap, ◌∙◌, Option, Some, None, ◌==◌, arith}
use Rattle.std.specs.List.{filter}
use Rattle.std.specs.List.Sorted.{IsPermutation}
use Rattle.std.specs.Option.{option_to_list, option_map, MatchOption, IsSome}
use Rattle.std.proofs.lemmas.List.{get_or_read}
use Rattle.std.proofs.lemmas.Bool.{eq-eqb, ne_eqb}
use Rattle.std.proofs.lemmas.Bool.Decides.{nat_tests}
use Rattle.std.proofs.lemmas.List.Sorted.{IsPermutation-refl, IsPermutation-cons, IsPermutation-trans, IsPermutation-sym, IsPermutation-middle}
use Rattle.qc_chain.specs.Linked.{Linked, nodes_of}
use Rattle.qc_chain.specs.Counts.{count}
use Rattle.qc_chain.proofs.Counting.{total-append}
use Rattle.qc_dir.specs.declared.entries.Entry.{Entry}
use Rattle.qc_dir.specs.declared.entry_slots.By.{By}
use Rattle.qc_dir.specs.declared.entry_slots.By.TheVariants.{Serial, Hash, Place}
use Rattle.qc_dir.specs.Directory.{has_serial, has_hash, serials_under}
use Rattle.qc_dir.specs.Keys.{total, bit}
use Rattle.qc_chain.specs.Filed.{in_slot, in_slots, contents, IsFiled, AreFree, bucket_of}
use Rattle.qc_dir.specs.Uses.{placed_text, number_by, number_home, is_numbered, having, IsEntrySlots}
use Rattle.qc_chain.proofs.FiledSteps.{weight, total-contents, total-in_slots, listed-all, moved, filed-moved, filed-still, free-filed, bucket-low}

-- what is read from a slot
pub read : (slots now : List (Option Entry)) {i : ℕ} → i < length now → slots ≡ now → (s : Option Entry) → s ≡ get_or slots i s → s ≡ in_slot i now
read slots now {i} low same s is = get_or_read now i s low (is ∙ ap (λ xs. get_or xs i s) same) None

-- ---- one list

other-number : (by : By) (n mask : ℕ) (s : Option Entry) → number_home by mask s ≢ bucket_of mask n → is_numbered by n s ≡ false
other-number by n mask None ne = refl
other-number by n mask (Some e) ne = ne_eqb (number_by by e) n (λ q. ne (ap (bucket_of mask) q))

count-having : (by : By) (n : ℕ) (slots : List (Option Entry)) (ns : List ℕ) → total (λ m. bit (is_numbered by n (in_slot m slots))) ns ≡ length (having by n slots ns)
count-having by n slots [] = refl
count-having by n slots (m ∷ ms) =
    elim (is_numbered by n (in_slot m slots)) as (λ v. bit v + total (λ k. bit (is_numbered by n (in_slot k slots))) ms ≡ length (cond v (m ∷ having by n slots ms) (having by n slots ms))) [
      | true ↦ omega (arith, count-having by n slots ms)
      | false ↦ omega (arith, count-having by n slots ms)
    ]

-- no slot has the number where none of its list has it
pub none-numbered : (by : By) (n mask : ℕ) (slots : List (Option Entry)) (lists : Linked) → IsFiled (number_home by mask) (mask + 2) slots lists → having by n slots (nodes_of (bucket_of mask n) lists.lists) ≡ [] → total (λ s. bit (is_numbered by n s)) slots ≡ 0
none-numbered by n mask slots lists h none =
    sym (listed-all (number_home by mask) (mask + 2) (λ s. bit (is_numbered by n s)) slots lists (bucket_of mask n) h (bucket-low mask n) (λ s ne. ap bit (other-number by n mask s ne)))
    ∙ (count-having by n slots (nodes_of (bucket_of mask n) lists.lists) ∙ ap length none)

-- ---- the serials under a hash

one-having : (h n : ℕ) (slots : List (Option Entry)) (rest ns : List ℕ) (s : Option Entry) → in_slots slots rest ≡ filter (has_hash h) (in_slots slots ns) → in_slot n slots ≡ s → in_slots slots (cond (is_numbered Hash h s) (n ∷ rest) rest) ≡ filter (has_hash h) (option_to_list s ++ in_slots slots ns)
one-having h n slots rest ns None same is = same
one-having h n slots rest ns (Some e) same is =
    elim (has_hash h e) as (λ v. in_slots slots (cond v (n ∷ rest) rest) ≡ cond v (e ∷ filter (has_hash h) (in_slots slots ns)) (filter (has_hash h) (in_slots slots ns))) [
      | true ↦ ap (λ s. option_to_list s ++ in_slots slots rest) is ∙ ap (λ es. e ∷ es) same
      | false ↦ same
    ]

having-entries : (h : ℕ) (slots : List (Option Entry)) (ns : List ℕ) → in_slots slots (having Hash h slots ns) ≡ filter (has_hash h) (in_slots slots ns)
having-entries h slots [] = refl
having-entries h slots (n ∷ ns) = one-having h n slots (having Hash h slots ns) ns (in_slot n slots) (having-entries h slots ns) refl

abbrev under : ℕ → List (Option Entry) → List ℕ → List ℕ
under h slots ns = serials_under h (in_slots slots ns)

pub next-serial : (h n : ℕ) (slots : List (Option Entry)) (old new was : List ℕ) (now : Option Entry) (o : Option ℕ) → was ≡ under h slots old → having Hash h slots old ≡ n ∷ having Hash h slots new → now ≡ in_slot n slots → is_numbered Hash h (in_slot n slots) ≡ true → o ≡ option_map (λ e. e.serial) now
    → MatchOption o ((was ≡ []) × (under h slots new ≡ [])) (λ k. was ≡ k ∷ under h slots new)
next-serial h n slots old new was now o before found read is serial = rw serial (by now read)
  where
    by : (s : Option Entry) → s ≡ in_slot n slots → MatchOption (option_map (λ (e : Entry). e.serial) s) ((was ≡ []) × (under h slots new ≡ [])) (λ k. was ≡ k ∷ under h slots new)
    by None e = absurd (cc (ap (is_numbered Hash h) e ∙ is))
    by (Some x) e =
        before ∙ (ap (map (λ (y : Entry). y.serial)) (sym (having-entries h slots old) ∙ (ap (in_slots slots) found ∙ ap (λ s. option_to_list s ++ in_slots slots (having Hash h slots new)) (sym e)))
        ∙ ap (λ es. x.serial ∷ map (λ (y : Entry). y.serial) es) (having-entries h slots new))

pub no-serial : (h : ℕ) (slots : List (Option Entry)) (ns : List ℕ) → having Hash h slots ns ≡ [] → under h slots ns ≡ []
no-serial h slots ns none = ap (map (λ (e : Entry). e.serial)) (sym (having-entries h slots ns) ∙ ap (in_slots slots) none)

occurs-cut : (n : ℕ) (ns : List ℕ) → 0 < count n ns → (low : List ℕ) × (high : List ℕ) × (ns ≡ low ++ n ∷ high)
occurs-cut n [] h = absurd (omega (arith, h))
occurs-cut n (m ∷ ms) h =
    elim (m == n) as (λ v. (m == n) ≡ v → 0 < bit v + count n ms → (low : List ℕ) × (high : List ℕ) × (m ∷ ms ≡ low ++ n ∷ high)) [
      | true ↦ λ e k. let same : m ≡ n = grind (arith, nat_tests) in ([], ms, ap (λ x. x ∷ ms) same)
      | false ↦ λ e k. later (occurs-cut n ms (omega (arith, k)))
    ] refl h
  where
    later : ((low : List ℕ) × (high : List ℕ) × (ms ≡ low ++ n ∷ high)) → (low : List ℕ) × (high : List ℕ) × (m ∷ ms ≡ low ++ n ∷ high)
    later cut = (m ∷ cut.0, cut.1, ap (λ xs. m ∷ xs) cut.2)

permutation_from_counts : (xs ys : List ℕ) → ((n : ℕ) → count n xs ≡ count n ys) → IsPermutation xs ys
permutation_from_counts [] [] same = IsPermutation-refl []
permutation_from_counts [] (y ∷ ys) same = absurd (omega (arith, same y, ap bit (eq-eqb y y refl)))
permutation_from_counts (x ∷ xs) ys same =
    let cut = occurs-cut x ys (omega (arith, same x, ap bit (eq-eqb x x refl))) in
    let rest = permutation_from_counts xs (cut.0 ++ cut.1) (λ n. omega (arith, same n, ap (λ zs. count n zs) cut.2, total-append (λ m. bit (m == n)) cut.0 (x ∷ cut.1), total-append (λ m. bit (m == n)) cut.0 cut.1)) in
    rw cut.2 (IsPermutation-trans (x ∷ xs) (x ∷ (cut.0 ++ cut.1)) (cut.0 ++ x ∷ cut.1) (IsPermutation-cons x xs (cut.0 ++ cut.1) rest) (IsPermutation-sym (cut.0 ++ x ∷ cut.1) (x ∷ (cut.0 ++ cut.1)) (IsPermutation-middle cut.0 x cut.1)))

-- 1 of an entry under the hash with the serial
abbrev pub hashed : ℕ → ℕ → Entry → ℕ
hashed h n e = bit (has_hash h e && has_serial n e)

pub count-serials : (h n : ℕ) (es : List Entry) → count n (serials_under h es) ≡ total (hashed h n) es
count-serials h n [] = refl
count-serials h n (e ∷ es) =
    elim (has_hash h e) as (λ v. count n (map (λ (x : Entry). x.serial) (cond v (e ∷ filter (has_hash h) es) (filter (has_hash h) es))) ≡ bit (v && has_serial n e) + total (hashed h n) es) [
      | true ↦ omega (arith, count-serials h n es)
      | false ↦ omega (arith, count-serials h n es)
    ]

pub under-same : (h : ℕ) (es fs : List Entry) → ((n : ℕ) → total (hashed h n) es ≡ total (hashed h n) fs) → IsPermutation (serials_under h es) (serials_under h fs)
under-same h es fs same = permutation_from_counts (serials_under h es) (serials_under h fs) (λ n. count-serials h n es ∙ (same n ∙ sym (count-serials h n fs)))

pub candidates-are : (h mask : ℕ) (slots : List (Option Entry)) (hashes : Linked) → IsFiled (number_home Hash mask) (mask + 2) slots hashes → IsPermutation (under h slots (nodes_of (bucket_of mask h) hashes.lists)) (serials_under h (contents slots))
candidates-are h mask slots hashes filed =
    let list = nodes_of (bucket_of mask h) hashes.lists in
    under-same h (in_slots slots list) (contents slots) (λ n.
    total-in_slots (hashed h n) slots list
    ∙ (listed-all (number_home Hash mask) (mask + 2) (weight (hashed h n)) slots hashes (bucket_of mask h) filed (bucket-low mask h) (only n) ∙ sym (total-contents (hashed h n) slots)))
  where
    only : (n : ℕ) (s : Option Entry) → number_home Hash mask s ≢ bucket_of mask h → weight (hashed h n) s ≡ 0
    only n None ne = refl
    only n (Some e) ne = rw (other-number Hash h mask (Some e) ne) refl

-- ---- a change of one slot

pub entries-free : (mask n : ℕ) (serials hashes places : Linked) → AreFree (mask + 2) n serials → AreFree (mask + 2) n hashes → AreFree (mask + 2) n places → IsEntrySlots (replicate n None) serials hashes places mask
entries-free mask n serials hashes places one two three = record {
  by_serial = free-filed (number_home Serial mask) (mask + 2) n serials one refl (low Serial);
  by_hash = free-filed (number_home Hash mask) (mask + 2) n hashes two refl (low Hash);
  by_place = free-filed (number_home Place mask) (mask + 2) n places three refl (low Place);
}
  where
    low : (by : By) (s : Option Entry) → number_home by mask s < mask + 2
    low by None = omega arith
    low by (Some e) = bucket-low mask (number_by by e)

pub entries-put : (v : Option Entry) (i mask : ℕ) (slots : List (Option Entry)) (serials hashes places serials' hashes' places' : Linked) → IsEntrySlots slots serials hashes places mask → i < length slots
    → serials' ≡ moved i (number_home Serial mask v) serials → hashes' ≡ moved i (number_home Hash mask v) hashes → places' ≡ moved i (number_home Place mask v) places → IsEntrySlots (set slots i v) serials' hashes' places' mask
entries-put v i mask slots serials hashes places serials' hashes' places' h low one two three = record {
  by_serial = filed-moved (number_home Serial mask) (mask + 2) slots serials serials' i (number_home Serial mask v) v h.by_serial low refl one;
  by_hash = filed-moved (number_home Hash mask) (mask + 2) slots hashes hashes' i (number_home Hash mask v) v h.by_hash low refl two;
  by_place = filed-moved (number_home Place mask) (mask + 2) slots places places' i (number_home Place mask v) v h.by_place low refl three;
}

same-home : (by : By) (mask : ℕ) (f : Entry → Entry) (s : Option Entry) → ((e : Entry) → number_by by (f e) ≡ number_by by e) → number_home by mask (option_map f s) ≡ number_home by mask s
same-home by mask f None same = refl
same-home by mask f (Some e) same = ap (bucket_of mask) (same e)

pub entries-altered : (f : Entry → Entry) (i mask : ℕ) (slots : List (Option Entry)) (serials hashes places : Linked) → IsEntrySlots slots serials hashes places mask → i < length slots
    → ((e : Entry) → (f e).serial ≡ e.serial) → ((e : Entry) → (f e).hash ≡ e.hash) → ((e : Entry) → (f e).text.first ≡ e.text.first) → IsEntrySlots (set slots i (option_map f (in_slot i slots))) serials hashes places mask
entries-altered f i mask slots serials hashes places h low serial hash place = record {
  by_serial = filed-still (number_home Serial mask) (mask + 2) slots serials i (option_map f (in_slot i slots)) h.by_serial low (same-home Serial mask f (in_slot i slots) serial);
  by_hash = filed-still (number_home Hash mask) (mask + 2) slots hashes i (option_map f (in_slot i slots)) h.by_hash low (same-home Hash mask f (in_slot i slots) hash);
  by_place = filed-still (number_home Place mask) (mask + 2) slots places i (option_map f (in_slot i slots)) h.by_place low (same-home Place mask f (in_slot i slots) place);
}

pub entries-placed : (first i mask : ℕ) (slots : List (Option Entry)) (serials hashes places places' : Linked) → IsEntrySlots slots serials hashes places mask → i < length slots → IsSome (in_slot i slots) → places' ≡ moved i (bucket_of mask first) places
    → IsEntrySlots (set slots i (option_map (placed_text first) (in_slot i slots))) serials hashes places' mask
entries-placed first i mask slots serials hashes places places' h low some is = record {
  by_serial = filed-still (number_home Serial mask) (mask + 2) slots serials i (option_map (placed_text first) (in_slot i slots)) h.by_serial low (same-home Serial mask (placed_text first) (in_slot i slots) (λ e. refl));
  by_hash = filed-still (number_home Hash mask) (mask + 2) slots hashes i (option_map (placed_text first) (in_slot i slots)) h.by_hash low (same-home Hash mask (placed_text first) (in_slot i slots) (λ e. refl));
  by_place = filed-moved (number_home Place mask) (mask + 2) slots places places' i (bucket_of mask first) (option_map (placed_text first) (in_slot i slots)) h.by_place low (home (in_slot i slots) some) is;
}
  where
    home : (s : Option Entry) → IsSome s → number_home Place mask (option_map (placed_text first) s) ≡ bucket_of mask first
    home None k = cc k
    home (Some e) k = refl
