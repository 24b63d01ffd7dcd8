-- One more entry, with the tables that have no block yet.
use Rattle.std.proofs.Common.{◌≡◌, ℕ, ◌+◌, ◌-◌, ◌<◌, ◌≤◌, zero, suc, Bool, true, false, cond, not, nat_lt, ◌&&◌, List, [], ◌∷◌, ◌++◌, length, drop, get_or, append_assoc, length-append, refl, sym, ap, ◌∙◌, subst, Some, None, ◌==◌, arith}
use Rattle.std.specs.List.{AllByRecursion, list_any}
use Rattle.std.specs.List.Sorted.{IsPermutation}
use Rattle.std.proofs.lemmas.List.Sorted.{IsPermutation-cons, IsPermutation-trans, IsPermutation-sym, IsPermutation-to_front, IsPermutation-map, IsPermutation-append_left}
use Rattle.std.proofs.lemmas.List.{append-nil}
use Rattle.std.proofs.lemmas.Bool.Decides.{nat_tests}
use Rattle.std.proofs.lemmas.Bool.{lt-ltb, le-ltb, ltb-true, ltb-false}
use Rattle.qc_types.specs.declared.names.TableName.{TableName}
use Rattle.qc_sql.specs.Database.{same_table}
use Rattle.qc_chain.specs.declared.keys.Key.{Key}
use Rattle.qc_dir.specs.declared.entries.Entry.{Entry}
use Rattle.qc_dir.specs.declared.tables.TableBlock.{TableBlock}
use Rattle.qc_dir.specs.Directory.{AreApart, AreFresh, has_serial, entry_at, is_block_of, names_table}
use Rattle.qc_dir.specs.Keys.{Keys, total, bit, times, same_key}
use Rattle.qc_dir.specs.Slots.{Numbered, Tabled, has_number, is_of, number_of}
use Rattle.qc_dir.specs.Indexed.{IsDir, AddsTables, numbered_as, numbers_in, named_times, entry_times, holding, naming}
use Rattle.qc_dir.proofs.Names.{same_is, same_itself as same_name}
use Rattle.qc_dir.proofs.SlotSteps.{each_counted, total-permutation}
use Rattle.qc_dir.proofs.Totals.{total-map, total-append}
use Rattle.qc_dir.proofs.EntryTotals.{none-counts, any-total, some_any, any_none, total-same}
use Rattle.qc_dir.proofs.DirSteps.{tables_in, numbered_as-le, numbered_as-is}

-- ---- putting the tables in

-- so far these were put in
pub record IsPutting (fresh rest : List TableBlock) (old now : Tabled) : Type 0 where
  pub added : List Numbered
  pub tables : IsPermutation fresh (tables_in added ++ rest)
  pub held : IsPermutation now.held (added ++ old.held)
  pub room : now.room + length fresh ≡ old.room + length rest

pub put_more : (fresh rest rest' : List TableBlock) (item : TableBlock) (n : ℕ) (old now new : Tabled) → IsPutting fresh rest old now → rest ≡ rest' ++ item ∷ [] → IsPermutation new.held (record { number = n; table = item } ∷ now.held) → new.room + 1 ≡ now.room → IsPutting fresh rest' old new
put_more fresh rest rest' item n old now new h is held room =
    let x : Numbered = record { number = n; table = item } in
    record {
      added = x ∷ h.added;
      tables = IsPermutation-trans fresh (tables_in h.added ++ rest) (item ∷ (tables_in h.added ++ rest')) h.tables (rw (is, ← append_assoc (tables_in h.added) rest' (item ∷ [])) (last (tables_in h.added ++ rest')));
      held = IsPermutation-trans new.held (x ∷ now.held) (x ∷ (h.added ++ old.held)) held (IsPermutation-cons x now.held (h.added ++ old.held) h.held);
      room = omega (arith, h.room, room, ap (λ (bs : List TableBlock). length bs) is, length-append rest' (item ∷ []));
    }
  where
    last : (bs : List TableBlock) → IsPermutation (bs ++ item ∷ []) (item ∷ bs)
    last bs = IsPermutation-to_front bs item

pub put_all : (fresh rest : List TableBlock) (old now : Tabled) → IsPutting fresh rest old now → rest ≡ [] → AddsTables fresh old now
put_all fresh rest old now h is = record {
  added = h.added;
  tables = subst (λ bs. IsPermutation fresh bs) (ap (λ bs. tables_in h.added ++ bs) is ∙ append-nil (tables_in h.added)) h.tables;
  held = h.held;
  room = omega (arith, h.room, ap (λ (bs : List TableBlock). length bs) is);
}

-- ---- the numbers of the names

pub drop_step : {A : Type 0} (xs : List A) (i : ℕ) (v : A) → i < length xs → v ≡ get_or xs i v → drop i xs ≡ v ∷ drop (i + 1) xs
drop_step [] i v h is = absurd (omega (arith, h))
drop_step (x ∷ xs) zero v h is = ap (λ y. y ∷ xs) (sym is)
drop_step (x ∷ xs) (suc i) v h is =
    let next : suc (i + 1) ≡ suc i + 1 = omega arith in
    subst (λ m. drop i xs ≡ v ∷ drop m (x ∷ xs)) next (drop_step xs i v (omega (arith, h)) is)

pub drop_all : {A : Type 0} (xs : List A) (i : ℕ) → length xs ≤ i → drop i xs ≡ []
drop_all [] zero h = refl
drop_all [] (suc i) h = refl
drop_all (x ∷ xs) zero h = absurd (omega (arith, h))
drop_all (x ∷ xs) (suc i) h = drop_all xs i (omega (arith, h))

pub each_at : {A : Type 0} (P : A → Type 0) (xs : List A) (i : ℕ) (v : A) → i < length xs → v ≡ get_or xs i v → AllByRecursion P xs → P v
each_at P [] i v h is all = absurd (omega (arith, h))
each_at P (x ∷ xs) zero v h is all = subst P (sym is) all.0
each_at P (x ∷ xs) (suc i) v h is all = each_at P xs i v (omega (arith, h)) is all.1

pub named_times-none : (k : Key) (serial : ℕ) (held : List Numbered) → named_times k held serial [] ≡ 0
named_times-none k serial held = elim (serial == k.minor) as (λ v. ◌≡◌ {A = ℕ} (cond v 0 0) 0) [ true ↦ refl | false ↦ refl ]

pub named_times-cons : (k : Key) (n serial : ℕ) (held : List Numbered) (t : TableName) (ts : List TableName) → holding t held ≤ 1 → number_of t held ≡ Some n → named_times k held serial (t ∷ ts) ≡ bit (same_key k (record { major = n; minor = serial })) + named_times k held serial ts
named_times-cons k n serial held t ts once is =
    elim (serial == k.minor) as (λ v. (serial == k.minor) ≡ v → cond v (numbered_as k.major t held + numbers_in k.major held ts) 0 ≡ bit (same_key k (record { major = n; minor = serial })) + cond v (numbers_in k.major held ts) 0) [
      | true ↦ λ e. omega (arith, numbered_as-is k.major n t held once is, here e)
      | false ↦ λ e. omega (arith, other e)
    ] refl
  where
    here : (serial == k.minor) ≡ true → bit (same_key k (record { major = n; minor = serial })) ≡ bit (n == k.major)
    here e = grind (arith, nat_tests)

    other : (serial == k.minor) ≡ false → bit (same_key k (record { major = n; minor = serial })) ≡ 0
    other e = grind (arith, nat_tests)

-- ---- the directory with one entry more

fresh_counts : (fresh : List TableBlock) → AreApart (λ b c. same_table b.table c.table) fresh → (t : TableName) → total (λ b. bit (is_block_of t b)) fresh ≤ 1
fresh_counts [] apart t = omega arith
fresh_counts (b ∷ bs) apart t =
    elim (is_block_of t b) as (λ v. is_block_of t b ≡ v → bit v + total (λ c. bit (is_block_of t c)) bs ≤ 1) [
      | true ↦ λ e. omega (arith, any_none (is_block_of t) bs (subst (λ u. list_any (λ (c : TableBlock). same_table u c.table) bs ≡ false) (sym (same_is t b.table e)) apart.0))
      | false ↦ λ e. omega (arith, fresh_counts bs apart.1 t)
    ] refl

-- what an addition makes of the tables of a name
adds_holding : (t : TableName) (fresh : List TableBlock) (old new : Tabled) → AddsTables fresh old new → holding t new.held ≡ total (λ b. bit (is_block_of t b)) fresh + holding t old.held
adds_holding t fresh old new a =
    omega (
      arith,
      total-permutation (λ h. bit (is_of t h)) new.held (a.added ++ old.held) a.held,
      total-append (λ h. bit (is_of t h)) a.added old.held,
      total-permutation (λ b. bit (is_block_of t b)) fresh (tables_in a.added) a.tables,
      total-map (λ b. bit (is_block_of t b)) (λ (h : Numbered). h.table) a.added,
    )

-- a table that has a block isn't among the fresh ones, and the others that the entry names are
fresh_or : (t : TableName) (entry : Entry) (fresh : List TableBlock) (old : Tabled) → AreFresh entry (tables_in old.held) fresh → nat_lt 0 (total (λ b. bit (is_block_of t b)) fresh) ≡ (names_table t entry && not (nat_lt 0 (holding t old.held)))
fresh_or t entry fresh old f =
    sym (any-total (is_block_of t) fresh) ∙ (f.exactly t
    ∙ ap (λ b. names_table t entry && not b) (any-total (is_block_of t) (tables_in old.held) ∙ ap (λ n. nat_lt 0 n) (total-map (λ b. bit (is_block_of t b)) (λ (h : Numbered). h.table) old.held)))

fresh_none : (t : TableName) (entry : Entry) (fresh : List TableBlock) (old : Tabled) → AreFresh entry (tables_in old.held) fresh → 0 < holding t old.held → total (λ b. bit (is_block_of t b)) fresh ≡ 0
fresh_none t entry fresh old f some =
    let stands : nat_lt 0 (holding t old.held) ≡ true = lt-ltb 0 (holding t old.held) some in
    omega (arith, ltb-false 0 (total (λ b. bit (is_block_of t b)) fresh) (fresh_or t entry fresh old f ∙ (ap (λ b. names_table t entry && not b) stands ∙ never (names_table t entry))))
  where
    never : (b : Bool) → (b && false) ≡ false
    never true = refl
    never false = refl

pub once_after : (t : TableName) (entry : Entry) (fresh : List TableBlock) (old new : Tabled) → AreFresh entry (tables_in old.held) fresh → AddsTables fresh old new → holding t old.held ≤ 1 → holding t new.held ≤ 1
once_after t entry fresh old new f a once =
    elim (nat_lt 0 (holding t old.held)) as (λ v. nat_lt 0 (holding t old.held) ≡ v → holding t new.held ≤ 1) [
      | true ↦ λ e. let some : 0 < holding t old.held = grind (arith, nat_tests) in omega (arith, adds_holding t fresh old new a, fresh_none t entry fresh old f some, once)
      | false ↦ λ e. let none : holding t old.held ≡ 0 = grind (arith, nat_tests) in omega (arith, adds_holding t fresh old new a, none, fresh_counts fresh f.once t)
    ] refl

blocks_after : (t : TableName) (entry : Entry) (fresh : List TableBlock) (es : List Entry) (old new : Tabled) → AreFresh entry (tables_in old.held) fresh → AddsTables fresh old new → nat_lt 0 (naming t es) ≡ nat_lt 0 (holding t old.held)
    → nat_lt 0 (naming t (es ++ entry ∷ [])) ≡ nat_lt 0 (holding t new.held)
blocks_after t entry fresh es old new f a blocks =
    ap (λ n. nat_lt 0 n) (total-append (λ e. bit (names_table t e)) es (entry ∷ []))
    ∙ (bits (naming t es) (names_table t entry) (holding t old.held) (total (λ b. bit (is_block_of t b)) fresh) blocks (fresh_or t entry fresh old f)
    ∙ ap (λ n. nat_lt 0 n) (sym (adds_holding t fresh old new a)))
  where
    bits : (a : ℕ) (b : Bool) (h f : ℕ) → nat_lt 0 a ≡ nat_lt 0 h → nat_lt 0 f ≡ (b && not (nat_lt 0 h)) → nat_lt 0 (a + (bit b + 0)) ≡ nat_lt 0 (f + h)
    bits a true h f p q = grind (arith, nat_tests)
    bits a false h f p q = grind (arith, nat_tests)

-- each table that the new entry names has a block now
pub each_held : (entry : Entry) (fresh : List TableBlock) (old new : Tabled) → AreFresh entry (tables_in old.held) fresh → AddsTables fresh old new → AllByRecursion (λ t. 0 < holding t new.held) entry.tables
each_held entry fresh old new f a = each_counted (λ t. 0 < holding t new.held) entry.tables (λ t counts.
    let names : names_table t entry ≡ true = some_any (same_table t) entry.tables (omega (arith, counts (λ u. bit (same_table t u)), itself t)) in
    there (holding t old.held) (total (λ b. bit (is_block_of t b)) fresh) (holding t new.held) (adds_holding t fresh old new a) (rw names at (fresh_or t entry fresh old f)))
  where
    itself : (t : TableName) → bit (same_table t t) ≡ 1
    itself t = ap bit (same_name t)

    there : (h g n : ℕ) → n ≡ g + h → nat_lt 0 g ≡ not (nat_lt 0 h) → 0 < n
    there h g n e p = by (nat_lt 0 h) refl
      where
        by : (b : Bool) → nat_lt 0 h ≡ b → 0 < n
        by true q = let some : 0 < h = grind (arith, nat_tests) in omega (arith, e, some)
        by false q = let some : 0 < g = grind (arith, nat_tests) in omega (arith, e, some)

-- the numbers of what the other entries name stay
same_numbers : (k : Key) (entry : Entry) (fresh : List TableBlock) (es : List Entry) (old new : Tabled) → AreFresh entry (tables_in old.held) fresh → AddsTables fresh old new → ((t : TableName) → nat_lt 0 (naming t es) ≡ nat_lt 0 (holding t old.held))
    → total (λ e. entry_times k new.held e) es ≡ total (λ e. entry_times k old.held e) es
same_numbers k entry fresh es old new f a blocks = total-same (λ e. entry_times k new.held e) (λ e. entry_times k old.held e) es (each_counted (λ e. entry_times k new.held e ≡ entry_times k old.held e) es (λ e counts.
    ap (λ n. cond (e.serial == k.minor) n 0) (total-same (λ t. numbered_as k.major t new.held) (λ t. numbered_as k.major t old.held) e.tables
    (each_counted (λ t. numbered_as k.major t new.held ≡ numbered_as k.major t old.held) e.tables (λ t inside. one e counts t inside)))))
  where
    itself : (t : TableName) → bit (same_table t t) ≡ 1
    itself t = ap bit (same_name t)

    stands : (t : TableName) → 0 < naming t es → 0 < holding t old.held
    stands t some = ltb-true 0 (holding t old.held) (sym (blocks t) ∙ lt-ltb 0 (naming t es) some)

    one : (e : Entry) → ((w : Entry → ℕ) → w e ≤ total w es) → (t : TableName) → ((w : TableName → ℕ) → w t ≤ total w e.tables) → numbered_as k.major t new.held ≡ numbered_as k.major t old.held
    one e counts t inside =
        let names : names_table t e ≡ true = some_any (same_table t) e.tables (omega (arith, inside (λ u. bit (same_table t u)), itself t)) in
        let some : 0 < holding t old.held = stands t (omega (arith, counts (λ x. bit (names_table t x)), ap bit names)) in
        let none = fresh_none t entry fresh old f some in
        omega (
          arith,
          total-permutation (λ h. bit (has_number k.major h && is_of t h)) new.held (a.added ++ old.held) a.held,
          total-append (λ h. bit (has_number k.major h && is_of t h)) a.added old.held,
          numbered_as-le k.major t a.added,
          none,
          total-permutation (λ b. bit (is_block_of t b)) fresh (tables_in a.added) a.tables,
          total-map (λ b. bit (is_block_of t b)) (λ (h : Numbered). h.table) a.added,
        )

pub dir-inserted : (entry : Entry) (fresh : List TableBlock) (es : List Entry) (room room' : ℕ) (old new : Tabled) (named named' : Keys) → IsDir es room old.held named → entry_at entry.serial es ≡ None → length entry.tables ≤ 8
    → AreFresh entry (tables_in old.held) fresh → AddsTables fresh old new → room' + 1 ≡ room
    → ((k : Key) → times k named'.keys ≡ times k named.keys + named_times k new.held entry.serial entry.tables) → named'.room + length entry.tables ≡ named.room
    → IsDir (es ++ entry ∷ []) room' new.held named'
dir-inserted entry fresh es room room' old new named named' d none few f a rooms names name_room = record {
  serials = λ n. omega (arith, total-append (λ e. bit (has_serial n e)) es (entry ∷ []), serial n);
  once = λ t. once_after t entry fresh old new f a (d.once t);
  few = omega (arith, total-append (λ e. bit (nat_lt 8 (length e.tables))) es (entry ∷ []), d.few, ap bit (le-ltb 8 (length entry.tables) few));
  blocks = λ t. blocks_after t entry fresh es old new f a (d.blocks t);
  by_name = λ k. omega (arith, total-append (λ e. entry_times k new.held e) es (entry ∷ []), d.by_name k, names k, same_numbers k entry fresh es old new f a d.blocks);
  name_room = omega (arith, rooms, d.name_room, name_room, few, total-append (λ e. 8 - length e.tables) es (entry ∷ []));
}
  where
    serial : (n : ℕ) → total (λ e. bit (has_serial n e)) es + bit (has_serial n entry) ≤ 1
    serial n =
        elim (has_serial n entry) as (λ v. has_serial n entry ≡ v → total (λ e. bit (has_serial n e)) es + bit v ≤ 1) [
          | true ↦ λ e. let same : entry.serial ≡ n = grind (arith, nat_tests) in omega (arith, subst (λ m. total (λ x. bit (has_serial m x)) es ≡ 0) same (none-counts entry.serial es none))
          | false ↦ λ e. omega (arith, d.serials n)
        ] refl

pub tables_after : (fresh : List TableBlock) (old new : Tabled) → AddsTables fresh old new → IsPermutation (tables_in new.held) (fresh ++ tables_in old.held)
tables_after fresh old new a =
    IsPermutation-trans (tables_in new.held) (tables_in (a.added ++ old.held)) (fresh ++ tables_in old.held) (IsPermutation-map (λ (h : Numbered). h.table) new.held (a.added ++ old.held) a.held)
    (rw (split a.added) (IsPermutation-append_left (tables_in old.held) (tables_in a.added) fresh (IsPermutation-sym fresh (tables_in a.added) a.tables)))
  where
    split : (hs : List Numbered) → tables_in (hs ++ old.held) ≡ tables_in hs ++ tables_in old.held
    split [] = refl
    split (h ∷ hs) = ap (λ bs. h.table ∷ bs) (split hs)
