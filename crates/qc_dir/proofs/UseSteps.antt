-- Entries in slots in the order of use: what the lists say of them, and what a change of one slot makes of both.
use Rattle.std.proofs.Common.{◌≡◌, ◌≢◌, ℕ, zero, suc, ◌+◌, ◌-◌, ◌<◌, ◌≤◌, ◌^◌, Bool, true, false, cond, not, List, [], ◌∷◌, ◌++◌, length, set, replicate, refl, sym, ap, ◌∙◌, subst, inl, inr, Option, Some, None, ◌==◌, arith}
use Rattle.std.specs.List.{filter, find, slice_get}
use Rattle.std.specs.List.Sorted.{IsPermutation}
use Rattle.std.specs.Option.{is_some, option_to_list, option_map, IsSome, IsSomeAnd, MatchOption}
use Rattle.std.proofs.lemmas.List.{length-set, set-get_or, append-nil}
use Rattle.std.proofs.lemmas.Option.{none-some, same_Some}
use Rattle.std.proofs.lemmas.Bool.{eq-eqb, ne_eqb, eqb-true, cases_eq}
use Rattle.qc_chain.specs.Counts.{count}
use Rattle.qc_chain.specs.Linked.{Linked, nodes_of, without as without_node}
use Rattle.qc_chain.proofs.Counting.{total-set, without-none, count-without, nodes-moved}
use Rattle.qc_dir.specs.declared.entries.Entry.{Entry}
use Rattle.qc_dir.specs.declared.entry_slots.By.TheVariants.{Place}
use Rattle.qc_dir.specs.Directory.{has_serial, entry_at, serials_under, is_idle, oldest_idle, incomplete, without, changed, moved_to_end, after_touch, after_complete}
use Rattle.qc_dir.specs.Keys.{total, bit}
use Rattle.qc_chain.specs.Filed.{in_slot, in_slots, contents, IsFiled, AreFree}
use Rattle.qc_dir.specs.Uses.{Used, use_home, is_entry, is_numbered, is_missing, texts_at, IsUses}
use Rattle.qc_chain.proofs.FiledSteps.{weight, total-contents, total-in_slots, listed, listed-all, slot-counts, in-set, in-set_other, moved, filed-moved, room-moved, first-home, filed-still, free-filed, total-alike, slots-append, slots-set}
use Rattle.qc_dir.proofs.EntrySteps.{hashed, under-same}
use Rattle.qc_dir.proofs.EntryTotals.{with, none-counts as none-counted}

abbrev pub used : List (Option Entry) → Linked → List Entry
used slots order = in_slots slots (nodes_of 1 order.lists)

-- ---- sums over the entries

pub entry-total : (w : Entry → ℕ) (slots : List (Option Entry)) (order : Linked) → IsFiled use_home 2 slots order → total w (used slots order) ≡ total (weight w) slots
entry-total w slots order h = total-in_slots w slots (nodes_of 1 order.lists) ∙ listed-all use_home 2 (weight w) slots order 1 h (omega arith) only
  where
    only : (s : Option Entry) → use_home s ≢ 1 → weight w s ≡ 0
    only None ne = refl
    only (Some e) ne = absurd (ne refl)

pub serial-total : (n : ℕ) (slots : List (Option Entry)) (order : Linked) → IsFiled use_home 2 slots order → with n (used slots order) ≡ total (λ s. bit (is_entry n s)) slots
serial-total n slots order h = entry-total (λ e. bit (has_serial n e)) slots order h ∙ total-alike (weight (λ e. bit (has_serial n e))) (λ s. bit (is_entry n s)) slots each
  where
    each : (s : Option Entry) → weight (λ e. bit (has_serial n e)) s ≡ bit (is_entry n s)
    each None = refl
    each (Some e) = refl

total-ones : {X : Type 0} (xs : List X) → total (λ x. 1) xs ≡ length xs
total-ones [] = refl
total-ones (x ∷ xs) = omega (arith, total-ones xs)

pub length-used : (slots : List (Option Entry)) (order : Linked) → IsFiled use_home 2 slots order → length (used slots order) ≡ total (λ s. bit (is_some s)) slots
length-used slots order h = sym (total-ones (used slots order)) ∙ (entry-total (λ e. 1) slots order h ∙ total-alike (weight (λ e. 1)) (λ s. bit (is_some s)) slots each)
  where
    each : (s : Option Entry) → weight (λ (e : Entry). 1) s ≡ bit (is_some s)
    each None = refl
    each (Some e) = refl

pub missing-used : (slots : List (Option Entry)) (order : Linked) → IsFiled use_home 2 slots order → incomplete (used slots order) ≡ total (λ s. bit (is_missing s)) slots
missing-used slots order h = filtered (used slots order) ∙ (entry-total (λ e. bit (not e.complete)) slots order h ∙ total-alike (weight (λ e. bit (not e.complete))) (λ s. bit (is_missing s)) slots each)
  where
    each : (s : Option Entry) → weight (λ e. bit (not e.complete)) s ≡ bit (is_missing s)
    each None = refl
    each (Some e) = refl

    filtered : (es : List Entry) → incomplete es ≡ total (λ e. bit (not e.complete)) es
    filtered [] = refl
    filtered (e ∷ es) =
        elim e.complete as (λ v. length (cond (not v) (e ∷ filter (λ x. not x.complete) es) (filter (λ x. not x.complete) es)) ≡ bit (not v) + total (λ x. bit (not x.complete)) es) [
          | true ↦ omega (arith, filtered es)
          | false ↦ omega (arith, filtered es)
        ]

pub room-is : (slots : List (Option Entry)) (order : Linked) → IsFiled use_home 2 slots order → length (nodes_of 0 order.lists) + total (λ s. bit (is_some s)) slots ≡ length slots
room-is slots order h =
    let free = listed use_home 2 (λ s. 1) slots order 0 h (omega arith) in
    omega (arith, total-ones (nodes_of 0 order.lists), free, both slots)
  where
    both : (ss : List (Option Entry)) → total (λ s. cond (use_home s == 0) 1 0) ss + total (λ s. bit (is_some s)) ss ≡ length ss
    both [] = refl
    both (None ∷ ss) = omega (arith, both ss)
    both (Some e ∷ ss) = omega (arith, both ss)

-- ---- the slot of a serial

counts-none : (n : ℕ) (es : List Entry) → with n es ≡ 0 → entry_at n es ≡ None
counts-none n [] h = refl
counts-none n (x ∷ xs) h =
    elim (has_serial n x) as (λ v. bit v + with n xs ≡ 0 → cond v (Some x) (entry_at n xs) ≡ None) [
      | true ↦ λ k. absurd (omega (arith, k))
      | false ↦ λ k. counts-none n xs (omega (arith, k))
    ] h

pub entry-none : (n : ℕ) (slots : List (Option Entry)) (order : Linked) → IsFiled use_home 2 slots order → total (λ s. bit (is_entry n s)) slots ≡ 0 → entry_at n (used slots order) ≡ None
entry-none n slots order h none = counts-none n (used slots order) (serial-total n slots order h ∙ none)

-- an entry that is there stands in a slot
pub serial-there : (n : ℕ) (slots : List (Option Entry)) (order : Linked) (es : List Entry) → IsFiled use_home 2 slots order → used slots order ≡ es → (entry_at n es ≡ None → ⊥) → 0 < total (λ s. bit (is_entry n s)) slots
serial-there n slots order es h is some = by (total (λ s. bit (is_entry n s)) slots) refl
  where
    by : (t : ℕ) → total (λ s. bit (is_entry n s)) slots ≡ t → 0 < t
    by zero e = absurd (some (ap (entry_at n) (sym is) ∙ entry-none n slots order h e))
    by (suc t) e = omega arith

pub is-some : (o : Option Entry) → IsSome o → o ≡ None → ⊥
is-some None h e = cc h
is-some (Some x) h e = cc e

pub is-some_and : (P : Entry → Type 0) (o : Option Entry) → IsSomeAnd o P → o ≡ None → ⊥
is-some_and P None h e = h
is-some_and P (Some x) h e = cc e

node-counts : (u : ℕ → ℕ) (i : ℕ) (ns : List ℕ) → 0 < count i ns → u i ≤ total u ns
node-counts u i [] h = absurd (omega (arith, h))
node-counts u i (m ∷ ms) h =
    elim (m == i) as (λ v. (m == i) ≡ v → 0 < bit v + count i ms → u i ≤ u m + total u ms) [
      | true ↦ λ e q. omega (arith, ap u (eqb-true m i e))
      | false ↦ λ e q. omega (arith, node-counts u i ms (omega (arith, q)))
    ] refl h

two-count : (u : ℕ → ℕ) (i k : ℕ) (ns : List ℕ) → i ≢ k → 0 < count i ns → 0 < count k ns → u i + u k ≤ total u ns
two-count u i k [] ne h g = absurd (omega (arith, h))
two-count u i k (m ∷ ms) ne h g =
    elim (cases_eq m i) [
      | inl a ↦ (let other : bit (m == k) ≡ 0 = rw (ne_eqb m k (λ e. ne (sym a ∙ e))) refl in omega (arith, ap u a, node-counts u k ms (omega (arith, g, other))))
      | inr b ↦ elim (cases_eq m k) [
        | inl a ↦ (let other : bit (m == i) ≡ 0 = rw (ne_eqb m i b) refl in omega (arith, ap u a, node-counts u i ms (omega (arith, h, other))))
        | inr c ↦ (let one : bit (m == i) ≡ 0 = rw (ne_eqb m i b) refl in let two : bit (m == k) ≡ 0 = rw (ne_eqb m k c) refl in omega (arith, two-count u i k ms ne (omega (arith, h, one)) (omega (arith, g, two))))
      ]
    ]

-- no other slot of the list has the serial
abbrev AreOthers : ℕ → ℕ → List (Option Entry) → List ℕ → Type 0
AreOthers n i slots ns = (m : ℕ) → 0 < count m ns → m ≢ i → is_entry n (in_slot m slots) ≡ false

fewer-others : (n i m : ℕ) (slots : List (Option Entry)) (ms : List ℕ) → AreOthers n i slots (m ∷ ms) → AreOthers n i slots ms
fewer-others n i m slots ms h k some ne = h k (omega (arith, some)) ne

first-other : (n i m : ℕ) (slots : List (Option Entry)) (ms : List ℕ) → AreOthers n i slots (m ∷ ms) → m ≢ i → is_entry n (in_slot m slots) ≡ false
first-other n i m slots ms h ne = let one : bit (m == m) ≡ 1 = rw (eq-eqb m m refl) refl in h m (omega (arith, one)) ne

-- the slot with a serial
pub record IsSlotOf (n i : ℕ) (slots : List (Option Entry)) (order : Linked) (e : Entry) : Type 0 where
  pub within : i < length slots
  pub holds : in_slot i slots ≡ Some e
  pub serial : e.serial ≡ n
  pub stands : count i (nodes_of 1 order.lists) ≡ 1
  pub others : AreOthers n i slots (nodes_of 1 order.lists)

pub slot-found : (n i : ℕ) (slots : List (Option Entry)) (order : Linked) (all missing : ℕ) → IsUses slots order all missing → i < length slots → is_entry n (in_slot i slots) ≡ true → (e : Entry) × IsSlotOf n i slots order e
slot-found n i slots order all missing h low is = by (in_slot i slots) refl is
  where
    by : (s : Option Entry) → in_slot i slots ≡ s → is_entry n s ≡ true → (e : Entry) × IsSlotOf n i slots order e
    by None e p = absurd (cc p)
    by (Some x) e p =
        let stands : count i (nodes_of 1 order.lists) ≡ 1 = h.ordered.placed 1 i (omega arith) low ∙ rw e refl in (
          x,
          record {
            within = low;
            holds = e;
            serial = eqb-true x.serial n p;
            stands = stands;
            others = λ m some ne.
                let here : bit (is_entry n (in_slot i slots)) ≡ 1 = rw (e, p) refl in
                let most = two-count (λ k. bit (is_entry n (in_slot k slots))) i m (nodes_of 1 order.lists) (λ q. ne (sym q)) (omega (arith, stands)) some in
                let total' = listed-all use_home 2 (λ s. bit (is_entry n s)) slots order 1 h.ordered (omega arith) only in
                none (is_entry n (in_slot m slots)) (omega (arith, most, here, total', h.once n));
          },
        )
      where
        none : (b : Bool) → bit b ≡ 0 → b ≡ false
        none true q = absurd (omega (arith, q))
        none false q = refl

        only : (s : Option Entry) → use_home s ≢ 1 → bit (is_entry n s) ≡ 0
        only None ne = refl
        only (Some x) ne = absurd (ne refl)

entry-there : (n i : ℕ) (slots : List (Option Entry)) (ns : List ℕ) (e : Entry) → AreOthers n i slots ns → 0 < count i ns → in_slot i slots ≡ Some e → e.serial ≡ n → entry_at n (in_slots slots ns) ≡ Some e
entry-there n i slots [] e others some holds is = absurd (omega (arith, some))
entry-there n i slots (m ∷ ms) e others some holds is =
    elim (cases_eq m i) [
      | inl same ↦ here same
      | inr ne ↦ (let none : bit (m == i) ≡ 0 = rw (ne_eqb m i ne) refl in off (in_slot m slots) (first-other n i m slots ms others ne) (entry-there n i slots ms e (fewer-others n i m slots ms others) (omega (arith, some, none)) holds is))
    ]
  where
    here : m ≡ i → entry_at n (option_to_list (in_slot m slots) ++ in_slots slots ms) ≡ Some e
    here same = let there : in_slot m slots ≡ Some e = ap (λ k. in_slot k slots) same ∙ holds in rw (there, eq-eqb e.serial n is) refl

    off : (s : Option Entry) → is_entry n s ≡ false → entry_at n (in_slots slots ms) ≡ Some e → entry_at n (option_to_list s ++ in_slots slots ms) ≡ Some e
    off None p rec = rec
    off (Some x) p rec = rw p rec

pub entry-some : (n i : ℕ) (slots : List (Option Entry)) (order : Linked) (e : Entry) → IsSlotOf n i slots order e → entry_at n (used slots order) ≡ Some e
entry-some n i slots order e h = entry-there n i slots (nodes_of 1 order.lists) e h.others (omega (arith, h.stands)) h.holds h.serial

-- ---- what a change makes of the entries

slots-without : (n i : ℕ) (slots : List (Option Entry)) (ns : List ℕ) (e : Entry) → AreOthers n i slots ns → in_slot i slots ≡ Some e → e.serial ≡ n → in_slots slots (without_node i ns) ≡ without n (in_slots slots ns)
slots-without n i slots [] e others holds is = refl
slots-without n i slots (m ∷ ms) e others holds is =
    elim (cases_eq m i) [
      | inl same ↦ rw (eq-eqb m i same) (here same (slots-without n i slots ms e (fewer-others n i m slots ms others) holds is))
      | inr ne ↦ rw (ne_eqb m i ne) (off (in_slot m slots) (first-other n i m slots ms others ne) (slots-without n i slots ms e (fewer-others n i m slots ms others) holds is))
    ]
  where
    here : m ≡ i → in_slots slots (without_node i ms) ≡ without n (in_slots slots ms) → in_slots slots (without_node i ms) ≡ without n (option_to_list (in_slot m slots) ++ in_slots slots ms)
    here same rec = let there : in_slot m slots ≡ Some e = ap (λ k. in_slot k slots) same ∙ holds in rw (there, eq-eqb e.serial n is) rec

    off : (s : Option Entry) → is_entry n s ≡ false → in_slots slots (without_node i ms) ≡ without n (in_slots slots ms) → option_to_list s ++ in_slots slots (without_node i ms) ≡ without n (option_to_list s ++ in_slots slots ms)
    off None p rec = rec
    off (Some x) p rec = rw p (ap (λ es. x ∷ es) rec)

slots-changed : (f : Entry → Entry) (n i : ℕ) (slots : List (Option Entry)) (ns : List ℕ) (e : Entry) → i < length slots → AreOthers n i slots ns → in_slot i slots ≡ Some e → e.serial ≡ n → in_slots (set slots i (Some (f e))) ns ≡ changed n f (in_slots slots ns)
slots-changed f n i slots [] e low others holds is = refl
slots-changed f n i slots (m ∷ ms) e low others holds is =
    elim (cases_eq m i) [
      | inl same ↦ here same (slots-changed f n i slots ms e low (fewer-others n i m slots ms others) holds is)
      | inr ne ↦ rw (in-set_other slots i m (Some (f e)) ne) (off (in_slot m slots) (first-other n i m slots ms others ne) (slots-changed f n i slots ms e low (fewer-others n i m slots ms others) holds is))
    ]
  where
    here : m ≡ i → in_slots (set slots i (Some (f e))) ms ≡ changed n f (in_slots slots ms) → option_to_list (in_slot m (set slots i (Some (f e)))) ++ in_slots (set slots i (Some (f e))) ms ≡ changed n f (option_to_list (in_slot m slots) ++ in_slots slots ms)
    here same rec =
        let there : in_slot m slots ≡ Some e = ap (λ k. in_slot k slots) same ∙ holds in
        let now : in_slot m (set slots i (Some (f e))) ≡ Some (f e) = ap (λ k. in_slot k (set slots i (Some (f e)))) same ∙ in-set slots i (Some (f e)) low in
        rw (there, now, eq-eqb e.serial n is) (ap (λ es. f e ∷ es) rec)

    off : (s : Option Entry) → is_entry n s ≡ false → in_slots (set slots i (Some (f e))) ms ≡ changed n f (in_slots slots ms) → option_to_list s ++ in_slots (set slots i (Some (f e))) ms ≡ changed n f (option_to_list s ++ in_slots slots ms)
    off None p rec = rec
    off (Some x) p rec = rw p (ap (λ es. x ∷ es) rec)

-- changed where it stands
pub used-changed : (f : Entry → Entry) (n i : ℕ) (slots : List (Option Entry)) (order : Linked) (e : Entry) → IsSlotOf n i slots order e → used (set slots i (Some (f e))) order ≡ changed n f (used slots order)
used-changed f n i slots order e h = slots-changed f n i slots (nodes_of 1 order.lists) e h.within h.others h.holds h.serial

-- changed, and moved to the end
pub used-moved : (f : Entry → Entry) (n i : ℕ) (slots : List (Option Entry)) (order order' : Linked) (e : Entry) → IsSlotOf n i slots order e → IsFiled use_home 2 slots order → order' ≡ moved i 1 order
    → used (set slots i (Some (f e))) order' ≡ moved_to_end (entry_at n (used slots order)) f (used slots order)
used-moved f n i slots order order' e h filed is =
    let less = subst (λ k. in_slots slots (without_node i (nodes_of 1 order.lists)) ≡ without k (used slots order)) (sym h.serial) (slots-without n i slots (nodes_of 1 order.lists) e h.others h.holds h.serial) in
    rw (is, nodes-moved i 1 1 order.lists (omega (arith, filed.lists)), entry-some n i slots order e h)
    (slots-append (set slots i (Some (f e))) (without_node i (nodes_of 1 order.lists)) (i ∷ [])
    ∙ rw (slots-set slots i (Some (f e)) (without_node i (nodes_of 1 order.lists)) (count-without i (nodes_of 1 order.lists)), in-set slots i (Some (f e)) h.within, less) refl)

-- taken out
pub used-removed : (n i : ℕ) (slots : List (Option Entry)) (order order' : Linked) (e : Entry) → IsSlotOf n i slots order e → IsFiled use_home 2 slots order → order' ≡ moved i 0 order → used (set slots i None) order' ≡ without n (used slots order)
used-removed n i slots order order' e h filed is =
    rw (is, nodes-moved i 0 1 order.lists (omega (arith, filed.lists)), append-nil (without_node i (nodes_of 1 order.lists)), slots-set slots i None (without_node i (nodes_of 1 order.lists)) (count-without i (nodes_of 1 order.lists)))
    (slots-without n i slots (nodes_of 1 order.lists) e h.others h.holds h.serial)

-- put in
pub used-inserted : (i : ℕ) (slots : List (Option Entry)) (order order' : Linked) (e : Entry) → IsFiled use_home 2 slots order → i < length slots → in_slot i slots ≡ None → order' ≡ moved i 1 order → used (set slots i (Some e)) order' ≡ used slots order ++ e ∷ []
used-inserted i slots order order' e h low free is =
    let none : count i (nodes_of 1 order.lists) ≡ 0 = h.placed 1 i (omega arith) low ∙ rw free refl in
    rw (is, nodes-moved i 1 1 order.lists (omega (arith, h.lists)), without-none i (nodes_of 1 order.lists) none)
    (slots-append (set slots i (Some e)) (nodes_of 1 order.lists) (i ∷ [])
    ∙ rw (slots-set slots i (Some e) (nodes_of 1 order.lists) none, in-set slots i (Some e) low) refl)

-- ---- what stays true

pub uses-changed : (i : ℕ) (v : Option Entry) (slots : List (Option Entry)) (order order' : Linked) (all all' missing missing' : ℕ) → IsUses slots order all missing → i < length slots
    → IsFiled use_home 2 (set slots i v) order'
    → ((n : ℕ) → total (λ s. bit (is_entry n s)) slots + bit (is_entry n v) ≤ 1 + bit (is_entry n (in_slot i slots)))
    → all' + bit (is_some (in_slot i slots)) ≡ all + bit (is_some v) → missing' + bit (is_missing (in_slot i slots)) ≡ missing + bit (is_missing v)
    → IsUses (set slots i v) order' all' missing'
uses-changed i v slots order order' all all' missing missing' h low ordered once counts misses = record {
  ordered = ordered;
  once = λ n. omega (arith, once n, total-set (λ s. bit (is_entry n s)) slots i v None low);
  all = omega (arith, counts, h.all, total-set (λ s. bit (is_some s)) slots i v None low);
  missing = omega (arith, misses, h.missing, total-set (λ s. bit (is_missing s)) slots i v None low);
  few = omega (arith, h.few, length-set slots i v);
}

-- one entry is changed where it stands, or moved too
pub uses-kept : (f : Entry → Entry) (n i : ℕ) (slots : List (Option Entry)) (order order' : Linked) (all missing missing' : ℕ) (e : Entry) → IsUses slots order all missing → IsSlotOf n i slots order e → (f e).serial ≡ e.serial
    → IsFiled use_home 2 (set slots i (Some (f e))) order' → missing' + bit (not e.complete) ≡ missing + bit (not (f e).complete)
    → IsUses (set slots i (Some (f e))) order' all missing'
uses-kept f n i slots order order' all missing missing' e h at same ordered misses =
    uses-changed i (Some (f e)) slots order order' all all missing missing' h at.within ordered
    (λ k. rw (at.holds, same) (omega (arith, h.once k))) (rw at.holds refl) (rw at.holds misses)

-- ---- none yet

pub uses-free : (room : ℕ) (order : Linked) → AreFree 2 room order → room ≤ 2 ^ 28 → IsUses (replicate room None) order 0 0
uses-free room order one low = record {
  ordered = free-filed use_home 2 room order one refl homes;
  once = λ n. omega (arith, none (λ s. bit (is_entry n s)) refl room);
  all = sym (none (λ s. bit (is_some s)) refl room);
  missing = sym (none (λ s. bit (is_missing s)) refl room);
  few = omega (arith, low, long room);
}
  where
    homes : (s : Option Entry) → use_home s < 2
    homes None = omega arith
    homes (Some e) = omega arith

    none : (u : Option Entry → ℕ) → u None ≡ 0 → (n : ℕ) → total u (replicate n None) ≡ 0
    none u e zero = refl
    none u e (suc n) = omega (arith, e, none u e n)

    long : (n : ℕ) → length (replicate {A = Option Entry} n None) ≡ n
    long zero = refl
    long (suc n) = omega (arith, long n)

pub nodes-none : (slots : List (Option Entry)) (ns : List ℕ) → ((n : ℕ) → count n ns ≡ 0) → in_slots slots ns ≡ []
nodes-none slots [] h = refl
nodes-none slots (n ∷ ns) h = let one : bit (n == n) ≡ 1 = rw (eq-eqb n n refl) refl in absurd (omega (arith, h n, one))

-- ---- a text at a place

abbrev text_weight : ℕ → Entry → ℕ
text_weight place e = bit (e.text.first == place)

-- an entry whose text stands at the place
pub text-is : (place i : ℕ) (slots : List (Option Entry)) (order : Linked) (all missing : ℕ) (o : Option ℕ) → IsUses slots order all missing → i < length slots → is_numbered Place place (in_slot i slots) ≡ true → o ≡ option_map (λ e. e.serial) (in_slot i slots)
    → MatchOption o (texts_at place (used slots order) ≡ 0) (λ n. IsSomeAnd (entry_at n (used slots order)) (λ e. e.text.first ≡ place))
text-is place i slots order all missing o h low that is = rw is (by (in_slot i slots) refl that)
  where
    by : (s : Option Entry) → in_slot i slots ≡ s → is_numbered Place place s ≡ true → MatchOption (option_map (λ (e : Entry). e.serial) s) (texts_at place (used slots order) ≡ 0) (λ n. IsSomeAnd (entry_at n (used slots order)) (λ e. e.text.first ≡ place))
    by None e p = absurd (cc p)
    by (Some x) e p =
        let at = slot-found x.serial i slots order all missing h low (ap (is_entry x.serial) e ∙ eq-eqb x.serial x.serial refl) in
        let same : Some at.0 ≡ Some x = sym at.1.holds ∙ e in
        subst (λ (o : Option Entry). IsSomeAnd o (λ e. e.text.first ≡ place)) (sym (entry-some x.serial i slots order at.0 at.1 ∙ same)) (eqb-true x.text.first place p)

pub text-none : (place : ℕ) (slots : List (Option Entry)) (order : Linked) → IsFiled use_home 2 slots order → total (λ s. bit (is_numbered Place place s)) slots ≡ 0 → texts_at place (used slots order) ≡ 0
text-none place slots order h none = entry-total (text_weight place) slots order h ∙ (total-alike (weight (text_weight place)) (λ s. bit (is_numbered Place place s)) slots each ∙ none)
  where
    each : (s : Option Entry) → weight (text_weight place) s ≡ bit (is_numbered Place place s)
    each None = refl
    each (Some e) = refl

-- ---- the serials under a hash

pub used-candidates : (h : ℕ) (slots : List (Option Entry)) (order : Linked) → IsFiled use_home 2 slots order → IsPermutation (serials_under h (contents slots)) (serials_under h (used slots order))
used-candidates h slots order filed = under-same h (contents slots) (used slots order) (λ n. total-contents (hashed h n) slots ∙ sym (entry-total (hashed h n) slots order filed))

-- ---- the oldest entry

-- the first slot of the list has the first entry
pub first-used : (i : ℕ) (slots : List (Option Entry)) (order : Linked) (now : Option Entry) → IsFiled use_home 2 slots order → i < length slots → slice_get (nodes_of 1 order.lists) 0 ≡ Some i → now ≡ in_slot i slots → now ≡ slice_get (used slots order) 0
first-used i slots order now h low first read = by (nodes_of 1 order.lists) first now read (ap use_home read ∙ first-home use_home 2 1 slots order i h (omega arith) low first)
  where
    by : (ns : List ℕ) → slice_get ns 0 ≡ Some i → (s : Option Entry) → s ≡ in_slot i slots → use_home s ≡ 1 → s ≡ slice_get (in_slots slots ns) 0
    by [] e s is one = absurd (none-some i e)
    by (n ∷ ns) e None is one = absurd (omega (arith, one))
    by (n ∷ ns) e (Some x) is one = let there : in_slot n slots ≡ Some x = ap (λ k. in_slot k slots) (same_Some n i e) ∙ sym is in rw there refl

-- ---- the oldest idle entry

pub idle-first : (s : Option Entry) (es : List Entry) (n : ℕ) → Some n ≡ oldest_idle (option_to_list s) → Some n ≡ oldest_idle (option_to_list s ++ es)
idle-first None es n h = absurd (none-some n (sym h))
idle-first (Some e) es n h =
    elim (is_idle e) as (λ v. Some n ≡ option_map (λ (x : Entry). x.serial) (cond v (Some e) None) → Some n ≡ option_map (λ (x : Entry). x.serial) (cond v (Some e) (find is_idle es))) [
      | true ↦ λ q. q
      | false ↦ λ q. absurd (none-some n (sym q))
    ] h

pub idle-later : (s : Option Entry) (es : List Entry) → None ≡ oldest_idle (option_to_list s) → oldest_idle (option_to_list s ++ es) ≡ oldest_idle es
idle-later None es h = refl
idle-later (Some e) es h =
    elim (is_idle e) as (λ v. None ≡ option_map (λ (x : Entry). x.serial) (cond v (Some e) None) → option_map (λ (x : Entry). x.serial) (cond v (Some e) (find is_idle es)) ≡ oldest_idle es) [
      | true ↦ λ q. absurd (none-some e.serial q)
      | false ↦ λ q. refl
    ] h

-- ---- whole calls

-- this is what stands in the slots and in the lists
pub record IsNow (slots : List (Option Entry)) (order : Linked) (all missing : ℕ) (u : Used) : Type 0 where
  pub kept : IsUses slots order all missing
  pub view : record { entries = used slots order; room = length (nodes_of 0 order.lists) } ≡ u

-- a slot with a serial has its entry
pub entry-is : (n i : ℕ) (slots : List (Option Entry)) (order : Linked) (all missing : ℕ) (d : Used) → IsNow slots order all missing d → i < length slots → is_entry n (in_slot i slots) ≡ true → in_slot i slots ≡ entry_at n d.entries
entry-is n i slots order all missing d h low that =
    let at = slot-found n i slots order all missing h.kept low that in
    at.1.holds ∙ (sym (entry-some n i slots order at.0 at.1) ∙ ap (λ (u : Used). entry_at n u.entries) h.view)

pub has-entry : (n : ℕ) (s : Option Entry) → is_entry n s ≡ true → (e : Entry) × (s ≡ Some e)
has-entry n None p = absurd (cc p)
has-entry n (Some e) p = (e, refl)

-- an entry is changed where it stands
pub altered : (f : Entry → Entry) (n i : ℕ) (slots : List (Option Entry)) (order : Linked) (all missing : ℕ) (d : Used) → IsNow slots order all missing d → i < length slots → is_entry n (in_slot i slots) ≡ true
    → ((e : Entry) → (f e).serial ≡ e.serial) → ((e : Entry) → (f e).complete ≡ e.complete) → IsNow (set slots i (option_map f (in_slot i slots))) order all missing (record { entries = changed n f d.entries; room = d.room })
altered f n i slots order all missing d h low that same complete =
    let at = slot-found n i slots order all missing h.kept low that in
    rw (at.1.holds, ← h.view) (record {
      kept = uses-kept f n i slots order order all missing missing at.0 h.kept at.1 (same at.0) (filed-still use_home 2 slots order i (Some (f at.0)) h.kept.ordered low (rw at.1.holds refl)) (rw (complete at.0) refl);
      view = rw (used-changed f n i slots order at.0 at.1) refl;
    })

-- an entry is changed, or not, and goes to the end
renewed : (f : Entry → Entry) (n i : ℕ) (slots : List (Option Entry)) (order order' : Linked) (all missing missing' : ℕ) (d : Used) (e : Entry) → IsNow slots order all missing d → IsSlotOf n i slots order e → (f e).serial ≡ e.serial → missing' + bit (not e.complete) ≡ missing + bit (not (f e).complete)
    → order' ≡ moved i 1 order → IsNow (set slots i (Some (f e))) order' all missing' (record { entries = moved_to_end (entry_at n d.entries) f d.entries; room = d.room })
renewed f n i slots order order' all missing missing' d e h at same misses is = rw (← h.view) (record {
  kept = uses-kept f n i slots order order' all missing missing' e h.kept at same (filed-moved use_home 2 slots order order' i 1 (Some (f e)) h.kept.ordered at.within refl is) misses;
  view = let left = rw at.holds at (room-moved use_home 2 slots order order' i 1 h.kept.ordered at.within is) in
      let room : length (nodes_of 0 order'.lists) ≡ length (nodes_of 0 order.lists) = omega (arith, left) in
      rw (used-moved f n i slots order order' e at h.kept.ordered is, room) refl;
})

pub touched : (n i : ℕ) (slots : List (Option Entry)) (order order' : Linked) (all missing : ℕ) (d : Used) → IsNow slots order all missing d → i < length slots → is_entry n (in_slot i slots) ≡ true → order' ≡ moved i 1 order
    → IsNow slots order' all missing (record { entries = after_touch n d.entries; room = d.room })
touched n i slots order order' all missing d h low that is =
    let at = slot-found n i slots order all missing h.kept low that in
    let same : set slots i (Some at.0) ≡ slots = ap (set slots i) (sym at.1.holds) ∙ set-get_or slots i None in
    subst (λ xs. IsNow xs order' all missing (record { entries = after_touch n d.entries; room = d.room })) same
    (renewed (λ x. x) n i slots order order' all missing missing d at.0 h at.1 refl refl is)

pub missing-fits : (i : ℕ) (slots : List (Option Entry)) (order : Linked) (all missing : ℕ) → IsUses slots order all missing → i < length slots → bit (is_missing (in_slot i slots)) ≤ missing
missing-fits i slots order all missing h low = omega (arith, h.missing, slot-counts (λ s. bit (is_missing s)) slots i low)

pub completed : (n i : ℕ) (slots : List (Option Entry)) (order order' : Linked) (all missing : ℕ) (d : Used) → IsNow slots order all missing d → i < length slots → is_entry n (in_slot i slots) ≡ true → order' ≡ moved i 1 order
    → IsNow (set slots i (option_map (λ (e : Entry). record e { complete = true }) (in_slot i slots))) order' all (missing - bit (is_missing (in_slot i slots))) (record { entries = after_complete n d.entries; room = d.room })
completed n i slots order order' all missing d h low that is =
    let at = slot-found n i slots order all missing h.kept low that in
    let enough = rw at.1.holds at (missing-fits i slots order all missing h.kept low) in
    rw at.1.holds
    (renewed (λ (e : Entry). record e { complete = true }) n i slots order order' all missing (missing - bit (not at.0.complete)) d at.0 h at.1 refl (omega (arith, enough)) is)

-- an entry is put in
pub put-in : (i : ℕ) (slots : List (Option Entry)) (order order' : Linked) (all missing : ℕ) (d : Used) (e : Entry) → IsNow slots order all missing d → i < length slots → slice_get (nodes_of 0 order.lists) 0 ≡ Some i → entry_at e.serial d.entries ≡ None
    → order' ≡ moved i 1 order → IsNow (set slots i (Some e)) order' (all + 1) (missing + bit (not e.complete)) (record { entries = d.entries ++ e ∷ []; room = d.room - 1 })
put-in i slots order order' all missing d e h low first none one = rw (← h.view) (record {
  kept = uses-changed i (Some e) slots order order' all (all + 1) missing (missing + bit (not e.complete)) h.kept low
      (filed-moved use_home 2 slots order order' i 1 (Some e) h.kept.ordered low refl one)
      once (rw empty (omega arith)) (rw empty (omega arith));
  view = let left = rw empty at (room-moved use_home 2 slots order order' i 1 h.kept.ordered low one) in
      let room : length (nodes_of 0 order'.lists) ≡ length (nodes_of 0 order.lists) - 1 = omega (arith, left) in
      rw (used-inserted i slots order order' e h.kept.ordered low empty one, room) refl;
})
  where
    empty : in_slot i slots ≡ None
    empty = by (in_slot i slots) (first-home use_home 2 0 slots order i h.kept.ordered (omega arith) low first)
      where
        by : (s : Option Entry) → use_home s ≡ 0 → s ≡ None
        by None q = refl
        by (Some x) q = absurd (omega (arith, q))

    once : (n : ℕ) → total (λ s. bit (is_entry n s)) slots + bit (has_serial n e) ≤ 1 + bit (is_entry n (in_slot i slots))
    once n =
        elim (has_serial n e) as (λ v. has_serial n e ≡ v → total (λ s. bit (is_entry n s)) slots + bit v ≤ 1 + bit (is_entry n (in_slot i slots))) [
          | true ↦ λ p. omega (arith, rw (eqb-true e.serial n p, ← h.view) at (none-counted e.serial d.entries none), serial-total n slots order h.kept.ordered)
          | false ↦ λ p. omega (arith, h.kept.once n)
        ] refl

-- an entry is taken out
pub taken-out : (n i : ℕ) (slots : List (Option Entry)) (order order' : Linked) (all missing : ℕ) (d : Used) (e : Entry) → IsNow slots order all missing d → i < length slots → is_entry n (in_slot i slots) ≡ true → in_slot i slots ≡ Some e
    → order' ≡ moved i 0 order
    → (1 ≤ all) × (bit (not e.complete) ≤ missing) × IsNow (set slots i None) order' (all - 1) (missing - bit (not e.complete)) (record { entries = without n d.entries; room = d.room + 1 })
taken-out n i slots order order' all missing d e h low that holds one = (
  some,
  some_missing,
  rw (← h.view) (record {
    kept = uses-changed i None slots order order' all (all - 1) missing (missing - bit (not e.complete)) h.kept low
        (filed-moved use_home 2 slots order order' i 0 None h.kept.ordered low refl one)
        (λ k. omega (arith, h.kept.once k)) (rw holds (omega (arith, some))) (rw holds (omega (arith, some_missing)));
    view = let left = rw holds at (room-moved use_home 2 slots order order' i 0 h.kept.ordered low one) in
        let room : length (nodes_of 0 order'.lists) ≡ length (nodes_of 0 order.lists) + 1 = omega (arith, left) in
        let at = slot-found n i slots order all missing h.kept low that in
        rw (used-removed n i slots order order' at.0 at.1 h.kept.ordered one, room) refl;
  }),
)
  where
    some : 1 ≤ all
    some = omega (arith, h.kept.all, slot-counts (λ s. bit (is_some s)) slots i low, ap (λ s. bit (is_some s)) holds)

    some_missing : bit (not e.complete) ≤ missing
    some_missing = omega (arith, h.kept.missing, slot-counts (λ s. bit (is_missing s)) slots i low, ap (λ s. bit (is_missing s)) holds)

total-most : {X : Type 0} (p : X → Bool) (xs : List X) → total (λ x. bit (p x)) xs ≤ length xs
total-most p [] = omega arith
total-most p (x ∷ xs) = omega (arith, total-most p xs, most (p x))
  where
    most : (b : Bool) → bit b ≤ 1
    most true = omega arith
    most false = omega arith

pub counts-fit : (slots : List (Option Entry)) (order : Linked) (all missing : ℕ) → IsUses slots order all missing → (all < 2 ^ 32) × (missing < 2 ^ 32)
counts-fit slots order all missing h = (omega (arith, h.all, total-most is_some slots, h.few), omega (arith, h.missing, total-most is_missing slots, h.few))

pub free-none : (slots : List (Option Entry)) (room : ℕ) (order : Linked) → AreFree 2 room order → in_slots slots (nodes_of 1 order.lists) ≡ []
free-none slots room order free = nodes-none slots (nodes_of 1 order.lists) (λ n. free.placed 1 n (omega arith))

pub first-idle : (s : Option Entry) (es : List Entry) (o : Option ℕ) → o ≡ oldest_idle (option_to_list s) → is_some o ≡ true → o ≡ oldest_idle (option_to_list s ++ es)
first-idle s es None h e = absurd (cc e)
first-idle s es (Some n) h e = idle-first s es n h

pub not-idle : (s : Option Entry) (es : List Entry) (o : Option ℕ) → o ≡ oldest_idle (option_to_list s) → is_some o ≡ false → oldest_idle (option_to_list s ++ es) ≡ oldest_idle es
not-idle s es None h e = idle-later s es h
not-idle s es (Some n) h e = absurd (cc e)
