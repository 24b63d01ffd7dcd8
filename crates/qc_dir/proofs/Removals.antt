-- One entry less, and the tables that no other entry names.
use Rattle.std.proofs.Common.{◌≡◌, ℕ, ◌+◌, ◌-◌, ◌*◌, ◌<◌, ◌≤◌, Bool, true, false, cond, nat_lt, ◌&&◌, ◌||◌, List, [], ◌∷◌, ◌++◌, length, length-append, append_assoc, refl, sym, ap, ◌∙◌, subst, Option, Some, None, ◌==◌, arith}
use Rattle.std.specs.List.{AllByRecursion, list_any}
use Rattle.std.specs.List.Sorted.{IsPermutation}
use Rattle.std.specs.Option.{option_to_list}
use Rattle.std.proofs.lemmas.List.{append-nil}
use Rattle.std.proofs.lemmas.List.Sorted.{IsPermutation-refl, IsPermutation-trans, IsPermutation-map, IsPermutation-append_right}
use Rattle.std.proofs.lemmas.Bool.Decides.{nat_tests}
use Rattle.std.proofs.lemmas.Bool.{or_parts, eq-eqb, lt-ltb, ltb-true, ltb-false}
use Rattle.qc_types.specs.declared.names.TableName.{TableName}
use Rattle.qc_sql.specs.Database.{same_table}
use Rattle.qc_chain.specs.declared.keys.Key.{Key}
use Rattle.qc_dir.specs.declared.entries.Entry.{Entry}
use Rattle.qc_dir.specs.declared.tables.TableBlock.{TableBlock}
use Rattle.qc_dir.specs.Directory.{has_serial, entry_at, names_table, without}
use Rattle.qc_dir.specs.Keys.{Keys, total, bit, times, same_key}
use Rattle.qc_dir.specs.Slots.{Numbered, Tabled, IsInOrder, has_number, is_of, number_of}
use Rattle.qc_dir.specs.Indexed.{IsDir, FreesName, numbered_as, numbers_in, named_times, entry_times, holding, naming}
use Rattle.qc_dir.proofs.KeyCounts.{same_itself}
use Rattle.qc_dir.proofs.Names.{same_is, same_itself as same_name}
use Rattle.qc_dir.proofs.SlotSteps.{each_counted, each_both, total-permutation}
use Rattle.qc_dir.proofs.EntryTotals.{total-without, entry-serial, entry_counts, any-total, some_any, any_some, none_any, some_one, bit_true}
use Rattle.qc_dir.proofs.DirSteps.{tables_in, numbered_as-is, number_some, held_counts}
use Rattle.qc_dir.proofs.DirCalls.{numbered_is}
use Rattle.qc_dir.proofs.Insertions.{named_times-cons, named_times-none}

abbrev numbered_key : ℕ → ℕ → Key
numbered_key major n = record { major = major; minor = n }

-- While the names of an entry are taken out: the tables in the slots are those that the other entries or the rest of the names name.
pub record IsRemoving (es : List Entry) (serial : ℕ) (rest : List TableName) (old now : Tabled) (named : Keys) (all_room : ℕ) (gone : List TableBlock) : Type 0 where
  pub once : (t : TableName) → holding t now.held ≤ 1
  pub kept : (t : TableName) → nat_lt 0 (holding t now.held) ≡ (nat_lt 0 (naming t es) || list_any (same_table t) rest)
  pub by_name : (k : Key) → times k named.keys ≡ total (λ e. entry_times k now.held e) es + named_times k now.held serial rest
  pub name_room : named.room + length rest ≡ all_room
  pub freed : IsPermutation (tables_in old.held) (gone ++ tables_in now.held)
  pub unnamed : AllByRecursion (λ b. list_any (names_table b.table) es ≡ false) gone
  pub room : now.room ≡ old.room + length gone
  pub few : length gone + length rest ≤ 8

-- ---- before the first name

pub removing_none : (serial : ℕ) (es : List Entry) (e : Entry) (room : ℕ) (old : Tabled) (named : Keys) → IsDir es room old.held named → entry_at serial es ≡ Some e
    → IsRemoving (without serial es) serial e.tables old old named (8 * (room + 1) + total (λ x. 8 - length x.tables) (without serial es)) []
removing_none serial es e room old named d at = record {
  once = d.once;
  kept = λ t. sym (d.blocks t) ∙ (ap (λ n. nat_lt 0 n) (sym (less (λ x. bit (names_table t x)))) ∙ either (naming t (without serial es)) (names_table t e));
  by_name = λ k. d.by_name k ∙ (sym (less (λ x. entry_times k old.held x)) ∙ ap (λ n. total (λ x. entry_times k old.held x) (without serial es) + named_times k old.held n e.tables) (entry-serial serial es e at));
  name_room = omega (arith, d.name_room, less (λ x. 8 - length x.tables), few);
  freed = IsPermutation-refl (tables_in old.held);
  unnamed = tt;
  room = omega arith;
  few = omega (arith, few);
}
  where
    less : (w : Entry → ℕ) → total w (without serial es) + w e ≡ total w es
    less w = total-without w serial es e d.serials at

    either : (n : ℕ) (b : Bool) → nat_lt 0 (n + bit b) ≡ (nat_lt 0 n || b)
    either n true = grind (arith, nat_tests)
    either n false = grind (arith, nat_tests)

    few : length e.tables ≤ 8
    few = low (length e.tables) (entry_counts serial es e (λ x. bit (nat_lt 8 (length x.tables))) at) d.few
      where
        low : (n : ℕ) → bit (nat_lt 8 n) ≤ total (λ x. bit (nat_lt 8 (length x.tables))) es → total (λ x. bit (nat_lt 8 (length x.tables))) es ≡ 0 → n ≤ 8
        low n p q = let none : bit (nat_lt 8 n) ≡ 0 = omega (arith, p, q) in grind (arith, nat_tests)

-- ---- the next name

or_last : (a b : Bool) → b ≡ true → (a || b) ≡ true
or_last true b h = refl
or_last false b h = h

-- it has a number, which stands with the serial
pub name_stands : (es : List Entry) (serial : ℕ) (t : TableName) (rest : List TableName) (old now : Tabled) (named : Keys) (name_room : ℕ) (freed : List TableBlock) → IsRemoving es serial (t ∷ rest) old now named name_room freed
    → (n : ℕ) × (number_of t now.held ≡ Some n) × (0 < times (numbered_key n serial) named.keys)
name_stands es serial t rest old now named name_room freed r =
    let m = number_some t now.held (ltb-true 0 (holding t now.held) (r.kept t ∙ or_last (nat_lt 0 (naming t es)) (list_any (same_table t) (t ∷ rest)) (ap (λ b. b || list_any (same_table t) rest) (same_name t)))) in
    (m.0, m.1, omega (arith, r.by_name (numbered_key m.0 serial), named_times-cons (numbered_key m.0 serial) m.0 serial now.held t rest (r.once t) m.1, ap bit (same_itself (numbered_key m.0 serial))))

-- what stands with a number is of the table with that number
numbers_same : (n : ℕ) (t : TableName) (held : List Numbered) (ts : List TableName) → IsInOrder held → number_of t held ≡ Some n → 0 < numbers_in n held ts → list_any (same_table t) ts ≡ true
numbers_same n t held ts rising is some =
    let u = some_one (λ u. numbered_as n u held) ts some in
    let same : t ≡ u.0 = numbered_is n t u.0 held rising is u.1 in
    some_any (same_table t) ts (omega (arith, u.2 (λ v. bit (same_table t v)), subst (λ v. bit (same_table t v) ≡ 1) same (ap bit (same_name t))))

times_same : (n s serial : ℕ) (t : TableName) (held : List Numbered) (ts : List TableName) → IsInOrder held → number_of t held ≡ Some n → 0 < named_times (numbered_key n s) held serial ts → list_any (same_table t) ts ≡ true
times_same n s serial t held ts rising is some =
    elim (serial == s) as (λ v. 0 < cond v (numbers_in n held ts) 0 → list_any (same_table t) ts ≡ true) [
      | true ↦ λ q. numbers_same n t held ts rising is q
      | false ↦ λ q. absurd (omega (arith, q))
    ] some

-- conversely, a name that is the table's stands with its number
same_times : (n serial : ℕ) (t : TableName) (held : List Numbered) (ts : List TableName) → holding t held ≤ 1 → number_of t held ≡ Some n → list_any (same_table t) ts ≡ true → 0 < named_times (numbered_key n serial) held serial ts
same_times n serial t held ts once is h =
    let u = some_one (λ u. bit (same_table t u)) ts (any_some (same_table t) ts h) in
    let same : t ≡ u.0 = same_is t u.0 (bit_true (same_table t u.0) u.1) in
    let one : numbered_as n u.0 held ≡ 1 = subst (λ v. numbered_as n v held ≡ 1) same (numbered_as-is n n t held once is ∙ ap bit (eq-eqb n n refl)) in
    rw (eq-eqb serial serial refl) (omega (arith, u.2 (λ v. numbered_as n v held), one))

-- of all names but those of this table, what is there stays so without the first name
other_rest : (u t : TableName) (rest : List TableName) → same_table u t ≡ false → list_any (same_table u) (t ∷ rest) ≡ list_any (same_table u) rest
other_rest u t rest h = ap (λ b. b || list_any (same_table u) rest) h

-- the rest without the first name
rest_name : (es : List Entry) (serial n : ℕ) (t : TableName) (rest : List TableName) (held : List Numbered) (named named' : Keys) (k : Key) → holding t held ≤ 1 → number_of t held ≡ Some n
    → times k named.keys ≡ total (λ e. entry_times k held e) es + named_times k held serial (t ∷ rest) → times k named'.keys + bit (same_key k (numbered_key n serial)) ≡ times k named.keys
    → times k named'.keys ≡ total (λ e. entry_times k held e) es + named_times k held serial rest
rest_name es serial n t rest held named named' k once is stood less = omega (arith, stood, less, named_times-cons k n serial held t rest once is)

-- the table is named still, by an entry or by the rest of the names
still_named : (es : List Entry) (serial n s : ℕ) (t : TableName) (rest : List TableName) (held : List Numbered) → IsInOrder held → number_of t held ≡ Some n → 0 < total (λ e. entry_times (numbered_key n s) held e) es + named_times (numbered_key n s) held serial rest
    → (nat_lt 0 (naming t es) || list_any (same_table t) rest) ≡ true
still_named es serial n s t rest held rising is some =
    elim (nat_lt 0 (total (λ e. entry_times (numbered_key n s) held e) es)) as (λ v. nat_lt 0 (total (λ e. entry_times (numbered_key n s) held e) es) ≡ v → (nat_lt 0 (naming t es) || list_any (same_table t) rest) ≡ true) [
      | true ↦ λ p. by_entry (some_one (λ e. entry_times (numbered_key n s) held e) es (let more : 0 < total (λ e. entry_times (numbered_key n s) held e) es = grind (arith, nat_tests) in more))
      | false ↦ λ p. or_last (nat_lt 0 (naming t es)) (list_any (same_table t) rest) (times_same n s serial t held rest rising is (let none : total (λ e. entry_times (numbered_key n s) held e) es ≡ 0 = grind (arith, nat_tests) in omega (arith, some, none)))
    ] refl
  where
    first : (a : ℕ) (b : Bool) → 0 < a → (nat_lt 0 a || b) ≡ true
    first a b h = let test : nat_lt 0 a ≡ true = grind (arith, nat_tests) in rw test refl

    by_entry : ((e : Entry) × (0 < entry_times (numbered_key n s) held e) × ((w : Entry → ℕ) → w e ≤ total w es)) → (nat_lt 0 (naming t es) || list_any (same_table t) rest) ≡ true
    by_entry e = first (naming t es) (list_any (same_table t) rest) (omega (arith, e.2 (λ x. bit (names_table t x)), ap bit (times_same n s e.0.serial t held e.0.tables rising is e.1)))

-- where the number stands no more, no entry names the table, nor does the rest of the names
none_named : (es : List Entry) (serial n : ℕ) (t : TableName) (rest : List TableName) (held : List Numbered) → holding t held ≤ 1 → number_of t held ≡ Some n → ((s : ℕ) → total (λ e. entry_times (numbered_key n s) held e) es + named_times (numbered_key n s) held serial rest ≡ 0)
    → (naming t es ≡ 0) × (list_any (same_table t) rest ≡ false)
none_named es serial n t rest held once is none = (entries (nat_lt 0 (naming t es)) refl, names (list_any (same_table t) rest) refl)
  where
    entries : (b : Bool) → nat_lt 0 (naming t es) ≡ b → naming t es ≡ 0
    entries true p =
        let e = some_one (λ x. bit (names_table t x)) es (let some : 0 < naming t es = grind (arith, nat_tests) in some) in
        let stands = same_times n e.0.serial t held e.0.tables once is (bit_true (names_table t e.0) e.1) in
        absurd (omega (arith, none e.0.serial, e.2 (λ x. entry_times (numbered_key n e.0.serial) held x), stands))
    entries false p = grind (arith, nat_tests)

    names : (b : Bool) → list_any (same_table t) rest ≡ b → b ≡ false
    names true p = absurd (omega (arith, none serial, same_times n serial t held rest once is p))
    names false p = refl

-- the table is named by others too
removing_kept : (es : List Entry) (serial n : ℕ) (t : TableName) (rest : List TableName) (old now new : Tabled) (named named' : Keys) (name_room : ℕ) (freed : List TableBlock) → IsRemoving es serial (t ∷ rest) old now named name_room freed
    → number_of t now.held ≡ Some n → FreesName n serial None now new named named' → IsRemoving es serial rest old new named' name_room freed
removing_kept es serial n t rest old now new named named' name_room freed r is f = subst (λ d. IsRemoving es serial rest old d named' name_room freed) (sym f.table.0) (record {
  once = r.once;
  kept = kept;
  by_name = by_name;
  name_room = omega (arith, r.name_room, f.room);
  freed = r.freed;
  unnamed = r.unnamed;
  room = r.room;
  few = omega (arith, r.few);
})
  where
    by_name : (k : Key) → times k named'.keys ≡ total (λ e. entry_times k now.held e) es + named_times k now.held serial rest
    by_name k = rest_name es serial n t rest now.held named named' k (r.once t) is (r.by_name k) (f.key k)

    kept : (u : TableName) → nat_lt 0 (holding u now.held) ≡ (nat_lt 0 (naming u es) || list_any (same_table u) rest)
    kept u =
        elim (same_table u t) as (λ v. same_table u t ≡ v → nat_lt 0 (holding u now.held) ≡ (nat_lt 0 (naming u es) || list_any (same_table u) rest)) [
          | true ↦ λ p. subst (λ v. nat_lt 0 (holding v now.held) ≡ (nat_lt 0 (naming v es) || list_any (same_table v) rest)) (sym (same_is u t p)) here
          | false ↦ λ p. r.kept u ∙ ap (λ b. nat_lt 0 (naming u es) || b) (other_rest u t rest p)
        ] refl
      where
        here : nat_lt 0 (holding t now.held) ≡ (nat_lt 0 (naming t es) || list_any (same_table t) rest)
        here = lt-ltb 0 (holding t now.held) (held_counts t n now.held is) ∙ sym (still_named es serial n f.table.1.0 t rest now.held f.rising is (omega (arith, by_name (numbered_key n f.table.1.0), f.table.1.1)))

-- the numbers of other tables stay
numbers_still : (m n : ℕ) (t : TableName) (item : TableBlock) (held held' : List Numbered) (ts : List TableName) → IsPermutation held (record { number = n; table = item } ∷ held') → t ≡ item.table → list_any (same_table t) ts ≡ false → numbers_in m held ts ≡ numbers_in m held' ts
numbers_still m n t item held held' [] p is h = refl
numbers_still m n t item held held' (u ∷ us) p is h =
    let parts = or_parts (same_table t u) (list_any (same_table t) us) h in
    let rest = numbers_still m n t item held held' us p is parts.1 in
    let x : Numbered = record { number = n; table = item } in
    let moved = total-permutation (λ h. bit (has_number m h && is_of u h)) held (x ∷ held') p in
    omega (arith, rest, moved, none parts.0 (has_number m x))
  where
    other : same_table t u ≡ false → same_table u item.table ≡ false
    other q =
        elim (same_table u item.table) as (λ v. same_table u item.table ≡ v → v ≡ false) [
          | true ↦ λ e. absurd (cc (sym q ∙ subst (λ w. same_table t w ≡ true) (is ∙ sym (same_is u item.table e)) (same_name t)))
          | false ↦ λ e. refl
        ] refl

    none : same_table t u ≡ false → (b : Bool) → bit (b && same_table u item.table) ≡ 0
    none q true = ap bit (other q)
    none q false = refl

entries_still : (k : Key) (n : ℕ) (t : TableName) (item : TableBlock) (held held' : List Numbered) (es : List Entry) → IsPermutation held (record { number = n; table = item } ∷ held') → t ≡ item.table → naming t es ≡ 0 → total (λ e. entry_times k held e) es ≡ total (λ e. entry_times k held' e) es
entries_still k n t item held held' [] p is h = refl
entries_still k n t item held held' (e ∷ es) p is h =
    elim (names_table t e) as (λ v. names_table t e ≡ v → bit v + naming t es ≡ 0 → total (λ e. entry_times k held e) (e ∷ es) ≡ total (λ e. entry_times k held' e) (e ∷ es)) [
      | true ↦ λ q r. absurd (omega (arith, r))
      | false ↦ λ q r. omega (arith, ap (λ m. cond (e.serial == k.minor) m 0) (numbers_still k.major n t item held held' e.tables p is q), entries_still k n t item held held' es p is (omega (arith, r)))
    ] refl h

-- the one that is freed is of the name
freed_is : (n serial : ℕ) (t : TableName) (item : TableBlock) (now new : Tabled) (named named' : Keys) → number_of t now.held ≡ Some n → FreesName n serial (Some item) now new named named' → t ≡ item.table
freed_is n serial t item now new named named' is f =
    numbered_is n t item.table now.held f.rising is (omega (arith, total-permutation (λ h. bit (has_number n h && is_of item.table h)) now.held (record { number = n; table = item } ∷ new.held) f.table.0, itself))
  where
    both : (a b : Bool) → a ≡ true → b ≡ true → bit (a && b) ≡ 1
    both a b p q = rw (p, q) refl

    itself : bit ((n == n) && same_table item.table item.table) ≡ 1
    itself = both (n == n) (same_table item.table item.table) (eq-eqb n n refl) (same_name item.table)

kept_after : (u t : TableName) (es : List Entry) (rest : List TableName) (item : TableBlock) (n : ℕ) (held held' : List Numbered) → IsPermutation held (record { number = n; table = item } ∷ held') → t ≡ item.table → holding t held ≤ 1 → naming t es ≡ 0 → list_any (same_table t) rest ≡ false
    → nat_lt 0 (holding u held) ≡ (nat_lt 0 (naming u es) || list_any (same_table u) (t ∷ rest)) → nat_lt 0 (holding u held') ≡ (nat_lt 0 (naming u es) || list_any (same_table u) rest)
kept_after u t es rest item n held held' p is once none_entry none_rest h =
    elim (same_table u t) as (λ v. same_table u t ≡ v → nat_lt 0 (holding u held') ≡ (nat_lt 0 (naming u es) || list_any (same_table u) rest)) [
      | true ↦ λ q. subst (λ v. nat_lt 0 (holding v held') ≡ (nat_lt 0 (naming v es) || list_any (same_table v) rest)) (sym (same_is u t q)) (rw (gone, none_entry, none_rest) refl)
      | false ↦ λ q. ap (λ m. nat_lt 0 m) (sym (stays q)) ∙ (h ∙ ap (λ b. nat_lt 0 (naming u es) || b) (other_rest u t rest q))
    ] refl
  where
    moved : (v : TableName) → holding v held ≡ bit (same_table v item.table) + holding v held'
    moved v = total-permutation (λ h. bit (is_of v h)) held (record { number = n; table = item } ∷ held') p

    gone : holding t held' ≡ 0
    gone = omega (arith, moved t, once, ap bit (subst (λ w. same_table t w ≡ true) is (same_name t)))

    stays : same_table u t ≡ false → holding u held ≡ holding u held'
    stays q = omega (arith, moved u, ap bit (subst (λ w. same_table u w ≡ false) is q))

-- no one names the table any more
removing_freed : (es : List Entry) (serial n : ℕ) (t : TableName) (rest : List TableName) (item : TableBlock) (old now new : Tabled) (named named' : Keys) (name_room : ℕ) (freed : List TableBlock) → IsRemoving es serial (t ∷ rest) old now named name_room freed
    → number_of t now.held ≡ Some n → FreesName n serial (Some item) now new named named' → IsRemoving es serial rest old new named' name_room (freed ++ item ∷ [])
removing_freed es serial n t rest item old now new named named' name_room freed r is f =
    let by_name = λ (k : Key). rest_name es serial n t rest now.held named named' k (r.once t) is (r.by_name k) (f.key k) in
    let no_one = none_named es serial n t rest now.held (r.once t) is (λ s. sym (by_name (numbered_key n s)) ∙ f.table.2 s) in
    let same = freed_is n serial t item now new named named' is f in
    record {
      once = λ u. omega (arith, r.once u, total-permutation (λ h. bit (is_of u h)) now.held (record { number = n; table = item } ∷ new.held) f.table.0);
      kept = λ u. kept_after u t es rest item n now.held new.held f.table.0 same (r.once t) no_one.0 no_one.1 (r.kept u);
      by_name = λ k. omega (arith, by_name k, entries_still k n t item now.held new.held es f.table.0 same no_one.0, ap (λ m. cond (serial == k.minor) m 0) (numbers_still k.major n t item now.held new.held rest f.table.0 same no_one.1));
      name_room = omega (arith, r.name_room, f.room);
      freed = IsPermutation-trans (tables_in old.held) (freed ++ tables_in now.held) ((freed ++ item ∷ []) ++ tables_in new.held) r.freed
          (rw (append_assoc freed (item ∷ []) (tables_in new.held)) (IsPermutation-append_right freed (tables_in now.held) (item ∷ tables_in new.held) (IsPermutation-map (λ (h : Numbered). h.table) now.held (record { number = n; table = item } ∷ new.held) f.table.0)));
      unnamed = each_both (λ b. list_any (names_table b.table) es ≡ false) freed (item ∷ []) r.unnamed (none_any (names_table item.table) es (subst (λ u. naming u es ≡ 0) same no_one.0), tt);
      room = omega (arith, r.room, f.table.1, length-append freed (item ∷ []));
      few = omega (arith, r.few, length-append freed (item ∷ []));
    }

pub removing_next : (es : List Entry) (serial n : ℕ) (t : TableName) (rest : List TableName) (o : Option TableBlock) (old now new : Tabled) (named named' : Keys) (name_room : ℕ) (freed freed' : List TableBlock) → IsRemoving es serial (t ∷ rest) old now named name_room freed
    → number_of t now.held ≡ Some n → FreesName n serial o now new named named' → freed' ≡ freed ++ option_to_list o → IsRemoving es serial rest old new named' name_room freed'
removing_next es serial n t rest None old now new named named' name_room freed freed' r is f same = rw (same, append-nil freed) (removing_kept es serial n t rest old now new named named' name_room freed r is f)
removing_next es serial n t rest (Some item) old now new named named' name_room freed freed' r is f same = rw same (removing_freed es serial n t rest item old now new named named' name_room freed r is f)

-- ---- behind the last name

pub dir-removed : (serial : ℕ) (es : List Entry) (e : Entry) (room room' : ℕ) (old now : Tabled) (named named' : Keys) (name_room : ℕ) (freed : List TableBlock) → IsDir es room old.held named → entry_at serial es ≡ Some e
    → IsRemoving (without serial es) serial [] old now named' name_room freed → name_room ≡ 8 * room' + total (λ x. 8 - length x.tables) (without serial es)
    → IsDir (without serial es) room' now.held named'
dir-removed serial es e room room' old now named named' name_room freed d at r name_rooms = record {
  serials = λ n. omega (arith, less (λ x. bit (has_serial n x)), d.serials n);
  once = r.once;
  few = omega (arith, less (λ x. bit (nat_lt 8 (length x.tables))), d.few);
  blocks = λ t. sym (r.kept t ∙ or_false (nat_lt 0 (naming t (without serial es))));
  by_name = λ k. omega (arith, r.by_name k, named_times-none k serial now.held);
  name_room = omega (arith, r.name_room, name_rooms);
}
  where
    less : (w : Entry → ℕ) → total w (without serial es) + w e ≡ total w es
    less w = total-without w serial es e d.serials at

    or_false : (b : Bool) → (b || false) ≡ b
    or_false true = refl
    or_false false = refl

-- each table that is left is named
pub each_named : (es : List Entry) (serial : ℕ) (old now : Tabled) (named : Keys) (name_room : ℕ) (freed : List TableBlock) → IsRemoving es serial [] old now named name_room freed → AllByRecursion (λ b. list_any (names_table b.table) es ≡ true) (tables_in now.held)
each_named es serial old now named name_room freed r = mapped now.held (each_counted (λ h. list_any (names_table h.table.table) es ≡ true) now.held (λ h counts.
    named_by h.table.table (r.kept h.table.table) (omega (arith, counts (λ g. bit (is_of h.table.table g)), ap bit (same_name h.table.table)))))
  where
    mapped : (hs : List Numbered) → AllByRecursion (λ h. list_any (names_table h.table.table) es ≡ true) hs → AllByRecursion (λ b. list_any (names_table b.table) es ≡ true) (tables_in hs)
    mapped [] all = tt
    mapped (h ∷ hs) all = (all.0, mapped hs all.1)

    named_by : (t : TableName) → nat_lt 0 (holding t now.held) ≡ (nat_lt 0 (naming t es) || false) → 0 < holding t now.held → list_any (names_table t) es ≡ true
    named_by t p some = any-total (names_table t) es ∙ test (nat_lt 0 (naming t es)) (holding t now.held) p some
      where
        test : (b : Bool) (h : ℕ) → nat_lt 0 h ≡ (b || false) → 0 < h → b ≡ true
        test true h q k = refl
        test false h q k = absurd (omega (arith, k, ltb-false 0 h q))
