-- Rows put in the place of others of a table.
use Rattle.std.proofs.Common.{◌≡◌, ℕ, ◌<◌, ◌≤◌, ◌+◌, ℤ, Bool, true, false, List, [], ◌∷◌, ◌++◌, length, length-append, get_or, drop, set, zero, suc, refl, sym, ap, ◌∙◌, arith, subst, Some, None, Option, nat_eq}
use Rattle.std.specs.Prelude.{Ok, Err, Result, nat_le}
use Rattle.std.specs.List.{list_all, slice_get}
use Rattle.std.specs.List.Sorted.{IsStrictlySortedBy}
use Rattle.std.specs.Cmp.{int_cmp_is}
use Rattle.std.specs.Map.{keys_of}
use Rattle.std.specs.BTreeMap.{insert_entry}
use Rattle.std.specs.Ordering.{int_cmp}
use Rattle.std.specs.declared.cmp.Ordering.TheVariants.{Less, Equal}
use Rattle.std.proofs.lemmas.Bool.Decides.{nat_tests}
use Rattle.std.proofs.lemmas.List.{drop_all, drop_more, get_or_push, get_or_append_left, length-set, map-set, set-get_or}
use Rattle.std.proofs.lemmas.Map.Entries.{length-keys_of}
use Rattle.std.proofs.lemmas.Map.Keys.{sorted_tail, Less-from_sorted}
use Rattle.std.proofs.lemmas.Option.{get_or_from_slice_get, slice_get_within}
use Rattle.qc_types.specs.declared.memory.NoMemory.{NoMemory}
use Rattle.qc_types.specs.declared.names.Value.{Value}
use Rattle.qc_types.specs.declared.names.Value.TheVariants as value
use Rattle.qc_sql.specs.declared.tables.Column.{Column}
use Rattle.qc_sql.specs.declared.tables.Kind.{Kind}
use Rattle.qc_sql.specs.Database.{MapOf, Table, key_of, most_rows}
use Rattle.qc_model.specs.Licence.{row_fits}
use Rattle.qc_model.specs.Sound.{IsSoundTable}
use Rattle.qc_table.specs.declared.cells.Cells.{Cells}
use Rattle.qc_table.specs.declared.cells.Cells.TheVariants as cells
use Rattle.qc_table.specs.Columns.{texts_of}
use Rattle.qc_table.specs.Puts.{put_at, values_at, with_rows}
use Rattle.qc_table.specs.Stored.{column_of, is_ints, place_at, rows_of, takes, values_of, with_one, with_values, AreFilled, AreMade, AreReplaced, CanPut, CanPutRow, HaveAt, HaveKeys, IsCells, IsColumn, IsFilled, IsMade, IsReplaced, IsStore}
use Rattle.qc_table.specs.Views.{kind_at, value_at}
use Rattle.qc_table.specs.Fitting.{is_within, IsChanged}
use Rattle.qc_table.proofs.Appending.{higher, made_from, row_taken, rows_sound, stood, stored}
use Rattle.qc_table.proofs.Putting.{value_read, values_length}
use Rattle.qc_table.proofs.Rows.{keyed}
use Rattle.qc_table.proofs.Stores.{column_full, column_ready, column_shown, keys_read}

-- ---- a key that is there

-- among rows that rise, the one with the key is replaced
pub put_there : (es : MapOf ℤ (List Value)) (at : ℕ) (k : ℤ) (v : List Value) → IsStrictlySortedBy int_cmp (keys_of es) → slice_get (keys_of es) at ≡ Some k → insert_entry int_cmp es k v ≡ set es at (k, v)
put_there [] at k v rise is = absurd cc
put_there (e ∷ es) zero k v rise is =
    let same : e.0 ≡ k = cc in
    let equal : int_cmp k k ≡ Equal = sym (int_cmp_is k k Equal refl) in
    rw (same, equal) refl
put_there (e ∷ es) (suc at) k v rise is =
    let keys = keys_of (e ∷ es) in
    let within : suc at < length keys = slice_get_within keys (suc at) k is in
    let there : get_or keys (suc at) k ≡ k = get_or_from_slice_get keys (suc at) k k is in
    let low : int_cmp e.0 k ≡ Less = rw there at (Less-from_sorted int_cmp keys 0 (suc at) k rise (omega arith) within) in
    rw (higher e.0 k low) (ap (λ (m : MapOf ℤ (List Value)). e ∷ m) (put_there es at k v (sorted_tail int_cmp e.0 (keys_of es) rise) is))

-- ---- the columns

-- each column of a table has a value of each row
full_at : (o : Option Kind) (n at : ℕ) (c : Cells) → IsColumn o n c → at < n → at < length (values_of c)
full_at o n at c h low = rw (column_full o n c h) low

pub have_at : (columns : List Column) (n at : ℕ) (cs : List Cells) → IsStore columns n cs → at < n → HaveAt at cs
have_at columns n at cs store low = λ j c is. full_at (kind_at columns j) n at c (store.1 j c is) low

-- what is put into a column fills it
pub one_filled : (o : Option Kind) (n : ℕ) (make : List Value → List Value) (vs : List Value) (b d : Cells) → IsColumn o n b → values_of b ≡ vs → IsMade make (Some b) d → IsFilled o (make vs) d
one_filled None n make vs b d h is m = absurd h
one_filled (Some kind) n make vs b d h is m = (m.0, m.1 ∙ ap make is, m.2 ∙ h.2)

-- the keys stay
pub keys_put : (es : MapOf ℤ (List Value)) (at : ℕ) (k : ℤ) (v : List Value) → slice_get (keys_of es) at ≡ Some k → keys_of (set es at (k, v)) ≡ keys_of es
keys_put [] at k v is = refl
keys_put (e ∷ es) zero k v is = let same : e.0 ≡ k = cc in ap (λ (x : ℤ). x ∷ keys_of es) (sym same)
keys_put (e ∷ es) (suc at) k v is = ap (λ (ks : List ℤ). e.0 ∷ ks) (keys_put es at k v is)

-- ---- the table

pub still_within : (n : ℕ) → n ≤ most_rows → nat_le n most_rows ≡ true
still_within n h = grind (arith, nat_tests)

-- entries in their places, the first of them put first
abbrev with_entries : List ℕ → MapOf ℤ (List Value) → MapOf ℤ (List Value) → MapOf ℤ (List Value)
with_entries [] ns es = es
with_entries (at ∷ places) [] es = es
with_entries (at ∷ places) (n ∷ ns) es = with_entries places ns (set es at n)

abbrev table : List Column → MapOf ℤ (List Value) → Table
table columns rows = record { columns = columns; rows = rows }

-- rows that are put one after another, each where its key stands
rows_put : (columns : List Column) (es : MapOf ℤ (List Value)) (places : List ℕ) (new : List (List Value)) → length places ≡ length new → IsStrictlySortedBy int_cmp (keys_of es) → HaveKeys columns (keys_of es) places new
    → (with_rows new (table columns es) ≡ table columns (with_entries places (keyed columns new) es)) × (keys_of (with_entries places (keyed columns new) es) ≡ keys_of es)
rows_put columns es [] [] count rise have = (refl, refl)
rows_put columns es [] (row ∷ new) count rise have = absurd (omega arith)
rows_put columns es (at ∷ places) [] count rise have = absurd (omega arith)
rows_put columns es (at ∷ places) (row ∷ new) count rise have =
    let key = key_of columns row in
    let here : slice_get (keys_of es) at ≡ Some key = have 0 (omega arith) in
    let one : insert_entry int_cmp es key row ≡ set es at (key, row) = put_there es at key row rise here in
    let keys : keys_of (set es at (key, row)) ≡ keys_of es = keys_put es at key row here in
    let later : HaveKeys columns (keys_of es) places new = λ k low. have (suc k) (omega (arith, low)) in
    let rest = rows_put columns (set es at (key, row)) places new (omega arith) (subst (IsStrictlySortedBy int_cmp) (sym keys) rise) (subst (λ ks. HaveKeys columns ks places new) (sym keys) later) in
    (ap (λ m. with_rows new (table columns m)) one ∙ rest.0, rest.1 ∙ keys)

-- a column has their values in these places
column_put : (columns : List Column) (j : ℕ) (es : MapOf ℤ (List Value)) (places : List ℕ) (new : List (List Value)) → column_of j (with_entries places (keyed columns new) es) ≡ with_values places (values_at j new) (column_of j es)
column_put columns j es [] new = refl
column_put columns j es (at ∷ places) [] = refl
column_put columns j es (at ∷ places) (row ∷ new) =
    let entry : ℤ × List Value = (key_of columns row, row) in
    column_put columns j (set es at entry) places new ∙ ap (with_values places (values_at j new)) (map-set (λ (e : ℤ × List Value). value_at e.1 j) es at entry)

filled_put : (columns : List Column) (keys : List ℤ) (bs ds : List Cells) (places : List ℕ) (new : List (List Value)) → IsStore columns (length keys) bs → AreMade (λ j. with_values places (values_at j new)) bs ds
    → AreFilled columns (with_entries places (keyed columns new) (rows_of (length columns) keys bs)) (length columns) ds
filled_put columns keys bs ds places new store made = (
  made.0 ∙ store.0,
  λ j d is.
      let rows = rows_of (length columns) keys bs in
      let within : j < length columns = subst (λ n. j < n) (made.0 ∙ store.0) (slice_get_within ds j d is) in
      let b = made_from (with_values places (values_at j new)) (slice_get bs j) d (made.1 j d is) in
      let shown = column_shown columns keys bs j b.0 store within b.1.0 in
      subst (λ vs. IsFilled (kind_at columns j) vs d) (sym (column_put columns j rows places new))
      (one_filled (kind_at columns j) (length keys) (with_values places (values_at j new)) (column_of j rows) b.0 d (store.1 j b.0 b.1.0) shown b.1.1),
)

pub replaced : (columns : List Column) (keys : List ℤ) (bs ds : List Cells) (places : List ℕ) (new : List (List Value)) → IsStore columns (length keys) bs → IsSoundTable (stored columns keys bs) → list_all (row_fits columns) new ≡ true
    → length (rows_of (length columns) keys bs) ≤ most_rows → length places ≡ length new → HaveKeys columns keys places new → AreMade (λ j. with_values places (values_at j new)) bs ds
    → (IsStore columns (length keys) ds × IsSoundTable (stored columns keys ds)) × ((stored columns keys ds ≡ with_rows new (stored columns keys bs)) × (is_within (stored columns keys ds) ≡ true))
replaced columns keys bs ds places new store sound fits few count have made =
    let rows = rows_of (length columns) keys bs in
    let all : MapOf ℤ (List Value) = with_entries places (keyed columns new) rows in
    let read : keys_of rows ≡ keys = keys_read (length columns) keys bs in
    let put = rows_put columns rows places new count sound.ordered (subst (λ ks. HaveKeys columns ks places new) (sym read) have) in
    let sound_all = subst IsSoundTable put.0 (rows_sound (stored columns keys bs) new sound fits) in
    let all_keys : keys_of all ≡ keys = put.1 ∙ read in
    let s = stood columns all keys ds (sym all_keys) (filled_put columns keys bs ds places new store made) sound_all in
    let as_many : length all ≡ length rows = sym (length-keys_of all) ∙ (ap (λ (ks : List ℤ). length ks) put.1 ∙ length-keys_of rows) in (
      s.0,
      (ap (table columns) s.1 ∙ sym put.0, rw (s.1, as_many) (still_within (length rows) few)),
    )

-- ---- which rows may come so

abbrev pub CanPutTo : ℕ → ℕ → List Value → List Cells → Type 0
CanPutTo i at row cs = (j : ℕ) (c : Cells) → j < i → slice_get cs j ≡ Some c → CanPut at (value_at row j) c

pub none_to : (at : ℕ) (row : List Value) (cs : List Cells) → CanPutTo 0 at row cs
none_to at row cs = λ j c low is. absurd (omega (arith, low))

pub more_to : (i at : ℕ) (row : List Value) (cs : List Cells) (x : Cells) → CanPutTo i at row cs → slice_get cs i ≡ Some x → CanPut at (value_at row i) x → CanPutTo (i + 1) at row cs
more_to i at row cs x before here one = λ j c low is.
    elim (nat_eq j i) as (λ b. nat_eq j i ≡ b → CanPut at (value_at row j) c) [
      | true ↦ λ p.
          let same : j ≡ i = grind (arith, nat_tests) in
          let its : Some c ≡ Some x = sym is ∙ (ap (slice_get cs) same ∙ here) in
          let that : c ≡ x = cc in
          rw (same, that) one
      | false ↦ λ p.
          let apart : j ≡ i → ⊥ = λ e. grind (arith, nat_tests) in
          before j c (omega (arith, apart, low)) is
    ] refl

pub all_to : (i at : ℕ) (row : List Value) (cs : List Cells) → CanPutTo i at row cs → length cs ≤ i → CanPutRow at row cs
all_to i at row cs before all = λ j c is. before j c (let low = slice_get_within cs j c is in omega (arith, all, low)) is

-- what comes to nothing leaves all as it was
pub left : (wanted before after : Table) (r : Result Bool NoMemory) → r ≡ Ok false → IsChanged wanted before r after → after ≡ before
left wanted before after (Ok true) is c = absurd cc
left wanted before after (Ok false) is c = c
left wanted before after (Err e) is c = absurd cc

-- ---- rows that are put one after another

one_stays : (at i : ℕ) (v w : Value) (b d : Cells) → IsMade (with_one at v) (Some b) d → CanPut at v b → CanPut i w b → CanPut i w d
one_stays at i v w (cells.Ints b) (cells.Ints d) made can other = tt
one_stays at i v w (cells.Ints b) (cells.Texts d) made can other = let kinds = made.2 in absurd cc
one_stays at i v w (cells.Texts b) (cells.Ints d) made can other = tt
one_stays at i v w (cells.Texts b) (cells.Texts d) made can other =
    let same : texts_of d ≡ texts_of b = made.1 ∙ (ap (set (texts_of b) at) (sym can) ∙ set-get_or (texts_of b) at value.Null) in
    ap (λ vs. value_at vs i) same ∙ other

-- where one row has come in the place of another, any other one still may
still_replaced : (at i : ℕ) (row other : List Value) (bs ds : List Cells) → AreMade (λ j. with_one at (value_at row j)) bs ds → IsReplaced at row bs → IsReplaced i other bs → IsReplaced i other ds
still_replaced at i row other bs ds made can it = record {
  takes = (
    made.0 ∙ it.takes.0,
    λ j d is.
        let b = made_from (with_one at (value_at row j)) (slice_get bs j) d (made.1 j d is) in
        (b.1.1.0, subst (λ k. takes k (value_at other j) ≡ true) (sym b.1.1.2) (it.takes.1 j b.0 b.1.0).1),
  );
  there = λ j d is.
      let b = made_from (with_one at (value_at row j)) (slice_get bs j) d (made.1 j d is) in
      let as_many : length (values_of d) ≡ length (values_of b.0) = ap (λ (vs : List Value). length vs) b.1.1.1 ∙ length-set (values_of b.0) at (value_at row j) in
      subst (λ n. i < n) (sym as_many) (it.there j b.0 b.1.0);
  fits = λ j d is.
      let b = made_from (with_one at (value_at row j)) (slice_get bs j) d (made.1 j d is) in
      one_stays at i (value_at row j) (value_at other j) b.0 d b.1.1 (can.fits j b.0 b.1.0) (it.fits j b.0 b.1.0);
}

-- a column that ends with all values once those from an index on are put
abbrev IsPutTo : ℕ → List ℕ → List Value → Option Cells → Cells → Type 0
IsPutTo i places vs None c = ⊥
IsPutTo i places vs (Some b) c = IsCells c × (with_values (drop i places) (drop i vs) (values_of c) ≡ with_values places vs (values_of b)) × (is_ints c ≡ is_ints b)

-- columns into which the rows in front of an index are put
pub record ArePutTo (i : ℕ) (places : List ℕ) (rows : List (List Value)) (bs cs : List Cells) : Type 0 where
  pub size : length cs ≡ length bs
  pub made : (j : ℕ) (c : Cells) → slice_get cs j ≡ Some c → IsPutTo i places (values_at j rows) (slice_get bs j) c
  pub each : (k : ℕ) → k < length rows → IsReplaced (place_at places k) (put_at rows k) cs

as_was : (places : List ℕ) (vs : List Value) (o : Option Cells) (c : Cells) → o ≡ Some c → IsCells c → IsPutTo 0 places vs o c
as_was places vs None c is ready = absurd cc
as_was places vs (Some b) c is ready = let same : b ≡ c = cc in (ready, ap (λ (d : Cells). with_values places vs (values_of d)) (sym same), ap is_ints (sym same))

pub none_put : (places : List ℕ) (rows : List (List Value)) (bs : List Cells) → AreReplaced places rows bs → ArePutTo 0 places rows bs bs
none_put places rows bs can = record { size = refl; made = λ j c is. as_was places (values_at j rows) (slice_get bs j) c is (can.ready j c is); each = can.each }

put_on : (i : ℕ) (places : List ℕ) (vs : List Value) (o : Option Cells) (c d : Cells) → i < length places → i < length vs → IsPutTo i places vs o c → IsMade (with_one (place_at places i) (value_at vs i)) (Some c) d → IsPutTo (i + 1) places vs o d
put_on i places vs None c d low low_value before made = absurd before
put_on i places vs (Some b) c d low low_value before made =
    let at = place_at places i in
    let v = value_at vs i in
    let now = ap (with_values (drop (i + 1) places) (drop (i + 1) vs)) made.1 in
    let places_on : drop i places ≡ at ∷ drop (i + 1) places = drop_more places i 0 low in
    let values_on : drop i vs ≡ v ∷ drop (i + 1) vs = drop_more vs i value.Null low_value in
    let on = ap (λ (ps : List ℕ). with_values ps (drop i vs) (values_of c)) places_on ∙ ap (λ (us : List Value). with_values (at ∷ drop (i + 1) places) us (values_of c)) values_on in
    (made.0, now ∙ (sym on ∙ before.1), made.2 ∙ before.2)

pub one_put : (i : ℕ) (places : List ℕ) (rows : List (List Value)) (bs cs ds : List Cells) → length places ≡ length rows → i < length rows → ArePutTo i places rows bs cs
    → AreMade (λ j. with_one (place_at places i) (value_at (put_at rows i) j)) cs ds → ArePutTo (i + 1) places rows bs ds
one_put i places rows bs cs ds count low before made = record {
  size = made.0 ∙ before.size;
  made = λ j d is.
      let c = made_from (with_one (place_at places i) (value_at (put_at rows i) j)) (slice_get cs j) d (made.1 j d is) in
      let read = value_read rows j i in
      let one = subst (λ v. IsMade (with_one (place_at places i) v) (Some c.0) d) (sym read) c.1.1 in
      put_on i places (values_at j rows) (slice_get bs j) c.0 d (omega (arith, count, low)) (omega (arith, low, values_length j rows)) (before.made j c.0 c.1.0) one;
  each = λ k within. still_replaced (place_at places i) (place_at places k) (put_at rows i) (put_at rows k) cs ds made (before.each i low) (before.each k within);
}

all_on : (i : ℕ) (places : List ℕ) (vs : List Value) (o : Option Cells) (c : Cells) → length places ≤ i → IsPutTo i places vs o c → IsMade (with_values places vs) o c
all_on i places vs None c all h = absurd h
all_on i places vs (Some b) c all h = (h.0, sym (ap (λ (ps : List ℕ). with_values ps (drop i vs) (values_of c)) (drop_all i places all)) ∙ h.1, h.2)

pub all_put : (i : ℕ) (places : List ℕ) (rows : List (List Value)) (bs cs : List Cells) → length places ≡ length rows → length rows ≤ i → ArePutTo i places rows bs cs → AreMade (λ j. with_values places (values_at j rows)) bs cs
all_put i places rows bs cs count all p = (p.size, λ j c is. all_on i places (values_at j rows) (slice_get bs j) c (omega (arith, count, all)) (p.made j c is))

-- ---- where rows are put

-- rows in front of an index have their places
pub record AreFoundTo (i : ℕ) (columns : List Column) (keys : List ℤ) (cs : List Cells) (places : List ℕ) (rows : List (List Value)) : Type 0 where
  pub count : length places ≡ i
  pub found : (k : ℕ) → k < i → slice_get keys (place_at places k) ≡ Some (key_of columns (put_at rows k))
  pub each : (k : ℕ) → k < i → IsReplaced (place_at places k) (put_at rows k) cs

more_each : (P : ℕ → ℕ → Type 0) (places : List ℕ) (i at : ℕ) → length places ≡ i → ((k : ℕ) → k < i → P k (place_at places k)) → P i at → (k : ℕ) → k < i + 1 → P k (place_at (places ++ at ∷ []) k)
more_each P places i at count before one k low =
    elim (nat_eq k i) as (λ b. nat_eq k i ≡ b → P k (place_at (places ++ at ∷ []) k)) [
      | true ↦ λ p.
          let here : k ≡ i = grind (arith, nat_tests) in
          let new : place_at (places ++ at ∷ []) k ≡ at = get_or_push places at 0 k (count ∙ sym here) in
          subst (P k) (sym new) (subst (λ m. P m at) (sym here) one)
      | false ↦ λ p.
          let apart : k ≡ i → ⊥ = λ e. grind (arith, nat_tests) in
          let below : k < i = omega (arith, apart, low) in
          let old : place_at (places ++ at ∷ []) k ≡ place_at places k = get_or_append_left places (at ∷ []) 0 k (omega (arith, below, count)) in
          subst (P k) (sym old) (before k below)
    ] refl

pub none_found : (columns : List Column) (keys : List ℤ) (cs : List Cells) (rows : List (List Value)) → AreFoundTo 0 columns keys cs [] rows
none_found columns keys cs rows = record { count = refl; found = λ k low. absurd (omega (arith, low)); each = λ k low. absurd (omega (arith, low)) }

pub one_found : (i : ℕ) (columns : List Column) (keys : List ℤ) (cs : List Cells) (places : List ℕ) (rows : List (List Value)) (at : ℕ) → AreFoundTo i columns keys cs places rows → slice_get keys at ≡ Some (key_of columns (put_at rows i))
    → IsReplaced at (put_at rows i) cs → AreFoundTo (i + 1) columns keys cs (places ++ at ∷ []) rows
one_found i columns keys cs places rows at before here can = record {
  count = length-append places (at ∷ []) ∙ omega (arith, before.count);
  found = more_each (λ k p. slice_get keys p ≡ Some (key_of columns (put_at rows k))) places i at before.count before.found here;
  each = more_each (λ k p. IsReplaced p (put_at rows k) cs) places i at before.count before.each can;
}

pub all_found : (i : ℕ) (columns : List Column) (keys : List ℤ) (cs : List Cells) (places : List ℕ) (rows : List (List Value)) → AreFoundTo i columns keys cs places rows → i ≡ length rows → IsStore columns (length keys) cs
    → HaveKeys columns keys places rows × AreReplaced places rows cs
all_found i columns keys cs places rows f all store = (
  λ k low. f.found k (omega (arith, all, low)),
  record { count = f.count ∙ all; ready = λ j c is. column_ready (kind_at columns j) (length keys) c (store.1 j c is); each = λ k low. f.each k (omega (arith, all, low)) },
)

-- a row that fits may come where its key stands, once its texts are the same
pub is_replaced : (columns : List Column) (keys : List ℤ) (cs : List Cells) (row : List Value) (key : ℤ) (at : ℕ) → IsStore columns (length keys) cs → row_fits columns row ≡ true → slice_get keys at ≡ Some key → CanPutRow at row cs → IsReplaced at row cs
is_replaced columns keys cs row key at store fits here can =
    record { takes = row_taken columns (length keys) cs row store fits; there = have_at columns (length keys) at cs store (slice_get_within keys at key here); fits = can }
