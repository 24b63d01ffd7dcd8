-- Rows that are put in their places of a table, and rows that are taken out of it.
use Rattle.std.proofs.Common.{◌≡◌, ℕ, ◌+◌, ◌<◌, ◌≤◌, ℤ, Bool, true, false, List, [], ◌∷◌, length, get_or, set, drop, zero, suc, refl, sym, ap, ◌∙◌, arith, subst, Some, None, map-id}
use Rattle.std.specs.Prelude.{Ok, Err, Result, nat_le}
use Rattle.std.specs.List.{slice_get, insert, remove, AllWithin}
use Rattle.std.specs.List.Sorted.{IsStrictlySortedBy, IsSearchInRange, IsBinarySearchResult}
use Rattle.std.specs.Map.{keys_of, remove_entry}
use Rattle.std.specs.BTreeMap.{insert_entry, is_at}
use Rattle.std.specs.Ordering.{int_cmp, is_eq, ordering_reverse}
use Rattle.std.specs.declared.cmp.Ordering.TheVariants.{Less, Equal, Greater}
use Rattle.std.proofs.lemmas.Bool.Decides.{nat_tests}
use Rattle.std.proofs.lemmas.Cmp.{int_cmp_total}
use Rattle.std.proofs.lemmas.List.{drop_all, drop_more, map-set}
use Rattle.std.proofs.lemmas.List.Edits.{length-remove}
use Rattle.std.proofs.lemmas.Map.Keys.{sorted_tail, Less-from_sorted}
use Rattle.std.proofs.lemmas.Map.Lookups.{exact_signed}
use Rattle.std.proofs.lemmas.Option.{get_or_from_slice_get, slice_get-get_or, slice_get_within}
use Rattle.qc_types.specs.declared.names.Value.{Value}
use Rattle.qc_sql.specs.declared.tables.Column.{Column}
use Rattle.qc_sql.specs.Database.{MapOf, Table, key_of, most_rows, with_row, without_row}
use Rattle.qc_model.specs.Licence.{row_fits}
use Rattle.qc_model.specs.Sound.{IsSoundTable}
use Rattle.qc_table.specs.declared.cells.Cells.{Cells}
use Rattle.qc_table.specs.Dels.{without_rows}
use Rattle.qc_table.specs.Fitting.{is_within, IsChanged}
use Rattle.qc_table.specs.Puts.{put_at, values_at, with_rows}
use Rattle.qc_table.specs.Stored.{column_of, key_in, put_in, rows_of, table_stored, without_one, AreFilled, AreMade, HasRoom, HavePlace, IsFilled, IsStore}
use Rattle.qc_table.specs.Tables.{Changes, IsStored, with_changes}
use Rattle.qc_table.specs.Views.{kind_at, value_at}
use Rattle.qc_table.proofs.Appending.{higher, made_from, put_sound, rises_one, stood}
use Rattle.qc_table.proofs.Found.{is_itself}
use Rattle.qc_table.proofs.Merges.{merged_sound}
use Rattle.qc_table.proofs.Merging.{one_more, rises_none}
use Rattle.qc_table.proofs.Moves.{length_inserted, map_insert, map_remove}
use Rattle.qc_table.proofs.Places.{answers_rise}
use Rattle.qc_table.proofs.Replacing.{keys_put, one_filled, put_there, still_within}
use Rattle.qc_table.proofs.Stores.{column_full, column_shown, keys_read, rows_length}

abbrev table : List Column → MapOf ℤ (List Value) → Table
table columns rows = record { columns = columns; rows = rows }

-- ---- where a key stands

lower_back : (j k : ℤ) → int_cmp j k ≡ Greater → int_cmp k j ≡ Less
lower_back j k p = int_cmp_total.antisymm k j ∙ ap ordering_reverse p

abbrev AreBelow : ℤ → List ℤ → ℕ → Type 0
AreBelow k ks at = AllWithin (λ y. int_cmp y k ≡ Less) ks 0 at

abbrev AreAbove : ℤ → List ℤ → ℕ → Type 0
AreAbove k ks at = AllWithin (λ y. int_cmp y k ≡ Greater) ks at (length ks)

-- a row whose key stands between others comes between them
put_gap : (es : MapOf ℤ (List Value)) (at : ℕ) (k : ℤ) (v : List Value) → at ≤ length (keys_of es) → AreBelow k (keys_of es) at → AreAbove k (keys_of es) at → insert_entry int_cmp es k v ≡ insert es at (k, v)
put_gap [] zero k v low before behind = refl
put_gap [] (suc at) k v low before behind = absurd (omega arith)
put_gap (e ∷ es) zero k v low before behind = let under = lower_back e.0 k (behind 0 e.0 (omega arith) (omega arith)) in rw under refl
put_gap (e ∷ es) (suc at) k v low before behind =
    let over = higher e.0 k (before 0 e.0 (omega arith) (omega arith)) in
    rw over (ap (λ (m : MapOf ℤ (List Value)). e ∷ m) (put_gap es at k v (omega arith) (λ j d lo hi. before (suc j) d (omega arith) (omega (arith, hi))) (λ j d lo hi. behind (suc j) d (omega (arith, lo)) (omega (arith, hi)))))

-- an entry in its place
abbrev entry_in : Result ℕ ℕ → ℤ × List Value → MapOf ℤ (List Value) → MapOf ℤ (List Value)
entry_in (Ok i) e es = set es i e
entry_in (Err i) e es = insert es i e

key_found : (ks : List ℤ) (i : ℕ) (k : ℤ) → i < length ks → int_cmp (get_or ks i k) k ≡ Equal → slice_get ks i ≡ Some k
key_found ks i k low same = slice_get-get_or ks i k low ∙ ap (λ j. Some j) (exact_signed (get_or ks i k) k same)

put_placed : (es : MapOf ℤ (List Value)) (place : Result ℕ ℕ) (k : ℤ) (v : List Value) → IsStrictlySortedBy int_cmp (keys_of es) → IsSearchInRange place (length (keys_of es)) → IsBinarySearchResult (λ y. int_cmp y k) (keys_of es) place
    → insert_entry int_cmp es k v ≡ entry_in place (k, v) es
put_placed es (Ok i) k v rise low there = put_there es i k v rise (key_found (keys_of es) i k low (there k))
put_placed es (Err i) k v rise low gap =
    let parts = gap (answers_rise int_cmp_total exact_signed (λ (j : ℤ). j) k (keys_of es) (rw map-id rise)) in
    put_gap es i k v low parts.0 parts.1

keys_placed : (es : MapOf ℤ (List Value)) (place : Result ℕ ℕ) (k : ℤ) (v : List Value) → IsSearchInRange place (length (keys_of es)) → IsBinarySearchResult (λ y. int_cmp y k) (keys_of es) place → keys_of (entry_in place (k, v) es) ≡ key_in place k (keys_of es)
keys_placed es (Ok i) k v low there = keys_put es i k v (key_found (keys_of es) i k low (there k))
keys_placed es (Err i) k v low gap = map_insert (λ (e : ℤ × List Value). e.0) es i (k, v)

column_placed : (j : ℕ) (place : Result ℕ ℕ) (k : ℤ) (v : List Value) (es : MapOf ℤ (List Value)) → column_of j (entry_in place (k, v) es) ≡ put_in place (value_at v j) (column_of j es)
column_placed j (Ok i) k v es = let entry : ℤ × List Value = (k, v) in map-set (λ (e : ℤ × List Value). value_at e.1 j) es i entry
column_placed j (Err i) k v es = let entry : ℤ × List Value = (k, v) in map_insert (λ (e : ℤ × List Value). value_at e.1 j) es i entry

filled_placed : (columns : List Column) (keys : List ℤ) (bs ds : List Cells) (place : Result ℕ ℕ) (k : ℤ) (row : List Value) → IsStore columns (length keys) bs → AreMade (λ j. put_in place (value_at row j)) bs ds
    → AreFilled columns (entry_in place (k, row) (rows_of (length columns) keys bs)) (length columns) ds
filled_placed columns keys bs ds place k row store made = (
  made.0 ∙ store.0,
  λ j d is.
      let rows = rows_of (length columns) keys bs in
      let within : j < length columns = subst (λ n. j < n) (made.0 ∙ store.0) (slice_get_within ds j d is) in
      let b = made_from (put_in place (value_at row j)) (slice_get bs j) d (made.1 j d is) in
      let shown = column_shown columns keys bs j b.0 store within b.1.0 in
      subst (λ vs. IsFilled (kind_at columns j) vs d) (sym (column_placed j place k row rows))
      (one_filled (kind_at columns j) (length keys) (put_in place (value_at row j)) (column_of j rows) b.0 d (store.1 j b.0 b.1.0) shown b.1.1),
)

-- a row in its place
pub placed : (columns : List Column) (keys keys' : List ℤ) (bs ds : List Cells) (place : Result ℕ ℕ) (row : List Value) → IsStore columns (length keys) bs → IsSoundTable (table_stored columns keys bs) → row_fits columns row ≡ true
    → IsSearchInRange place (length keys) → IsBinarySearchResult (λ y. int_cmp y (key_of columns row)) keys place → AreMade (λ j. put_in place (value_at row j)) bs ds → keys' ≡ key_in place (key_of columns row) keys
    → (IsStore columns (length keys') ds × IsSoundTable (table_stored columns keys' ds)) × (table_stored columns keys' ds ≡ with_row row (table_stored columns keys bs))
placed columns keys keys' bs ds place row store sound fits low found made is =
    let rows = rows_of (length columns) keys bs in
    let key = key_of columns row in
    let read : keys_of rows ≡ keys = keys_read (length columns) keys bs in
    let all : MapOf ℤ (List Value) = entry_in place (key, row) rows in
    let low' : IsSearchInRange place (length (keys_of rows)) = subst (λ ks. IsSearchInRange place (length ks)) (sym read) low in
    let found' : IsBinarySearchResult (λ y. int_cmp y key) (keys_of rows) place = subst (λ ks. IsBinarySearchResult (λ y. int_cmp y key) ks place) (sym read) found in
    let put : insert_entry int_cmp rows key row ≡ all = put_placed rows place key row sound.ordered low' found' in
    let sound_all : IsSoundTable (table columns all) = subst (λ (es : MapOf ℤ (List Value)). IsSoundTable (table columns es)) put (put_sound (table columns rows) row sound fits) in
    let keys_all : keys_of all ≡ key_in place key keys = keys_placed rows place key row low' found' ∙ ap (key_in place key) read in
    let s = stood columns all keys' ds (is ∙ sym keys_all) (filled_placed columns keys bs ds place key row store made) sound_all in
    (s.0, ap (table columns) (s.1 ∙ sym put))

-- a place of the keys is one of each column
pub have_place : (columns : List Column) (n : ℕ) (place : Result ℕ ℕ) (cs : List Cells) → IsStore columns n cs → IsSearchInRange place n → HavePlace place cs
have_place columns n place cs store low = λ j c is. subst (IsSearchInRange place) (sym (column_full (kind_at columns j) n c (store.1 j c is))) low

-- ---- a row that is taken out

not_equal_below : (j k : ℤ) → int_cmp j k ≡ Less → is_at (int_cmp k) j ≡ false
not_equal_below j k p = ap is_eq (higher j k p)

not_equal_above : (j k : ℤ) → int_cmp j k ≡ Greater → is_at (int_cmp k) j ≡ false
not_equal_above j k p = ap is_eq (lower_back j k p)

del_gap : (es : MapOf ℤ (List Value)) (at : ℕ) (k : ℤ) → AreBelow k (keys_of es) at → AreAbove k (keys_of es) at → remove_entry (is_at (int_cmp k)) es ≡ es
del_gap [] at k before behind = refl
del_gap (e ∷ es) zero k before behind =
    let other = not_equal_above e.0 k (behind 0 e.0 (omega arith) (omega arith)) in
    rw other (ap (λ (m : MapOf ℤ (List Value)). e ∷ m) (del_gap es zero k (λ j d lo hi. absurd (omega (arith, hi))) (λ j d lo hi. behind (suc j) d (omega arith) (omega (arith, hi)))))
del_gap (e ∷ es) (suc at) k before behind =
    let other = not_equal_below e.0 k (before 0 e.0 (omega arith) (omega arith)) in
    rw other (ap (λ (m : MapOf ℤ (List Value)). e ∷ m) (del_gap es at k (λ j d lo hi. before (suc j) d (omega arith) (omega (arith, hi))) (λ j d lo hi. behind (suc j) d (omega (arith, lo)) (omega (arith, hi)))))

del_there : (es : MapOf ℤ (List Value)) (at : ℕ) (k : ℤ) → IsStrictlySortedBy int_cmp (keys_of es) → slice_get (keys_of es) at ≡ Some k → remove_entry (is_at (int_cmp k)) es ≡ remove es at
del_there [] at k rise is = absurd cc
del_there (e ∷ es) zero k rise is =
    let same : k ≡ e.0 = cc in
    let equal : is_at (int_cmp k) e.0 ≡ true = subst (λ (j : ℤ). is_at (int_cmp k) j ≡ true) same (is_itself k) in
    rw equal refl
del_there (e ∷ es) (suc at) k rise is =
    let keys = keys_of (e ∷ es) in
    let within : suc at < length keys = slice_get_within keys (suc at) k is in
    let there : get_or keys (suc at) k ≡ k = get_or_from_slice_get keys (suc at) k k is in
    let low : int_cmp e.0 k ≡ Less = rw there at (Less-from_sorted int_cmp keys 0 (suc at) k rise (omega arith) within) in
    let other = not_equal_below e.0 k low in
    rw other (ap (λ (m : MapOf ℤ (List Value)). e ∷ m) (del_there es at k (sorted_tail int_cmp e.0 (keys_of es) rise) is))

pub del_sound : (t : Table) (key : ℤ) → IsSoundTable t → IsSoundTable (without_row key t)
del_sound t key sound =
    let one : Changes = (key, None) ∷ [] in
    let is : with_changes t one ≡ without_row key t = ap (table t.columns) (one_more key None t.rows [] sound.ordered rises_none) in
    subst IsSoundTable is (merged_sound t one sound (tt, tt) (rises_one key))

filled_without : (columns : List Column) (keys : List ℤ) (bs ds : List Cells) (at : ℕ) → IsStore columns (length keys) bs → AreMade (λ j. without_one at) bs ds
    → AreFilled columns (remove (rows_of (length columns) keys bs) at) (length columns) ds
filled_without columns keys bs ds at store made = (
  made.0 ∙ store.0,
  λ j d is.
      let rows = rows_of (length columns) keys bs in
      let within : j < length columns = subst (λ n. j < n) (made.0 ∙ store.0) (slice_get_within ds j d is) in
      let b = made_from (without_one at) (slice_get bs j) d (made.1 j d is) in
      let shown = column_shown columns keys bs j b.0 store within b.1.0 in
      subst (λ vs. IsFilled (kind_at columns j) vs d) (sym (map_remove (λ (e : ℤ × List Value). value_at e.1 j) rows at))
      (one_filled (kind_at columns j) (length keys) (without_one at) (column_of j rows) b.0 d (store.1 j b.0 b.1.0) shown b.1.1),
)

-- the row with a key is taken out
pub taken_out : (columns : List Column) (keys keys' : List ℤ) (bs ds : List Cells) (at : ℕ) (key : ℤ) → IsStore columns (length keys) bs → IsSoundTable (table_stored columns keys bs)
    → at < length keys → int_cmp (get_or keys at key) key ≡ Equal → AreMade (λ j. without_one at) bs ds → keys' ≡ remove keys at
    → (IsStore columns (length keys') ds × IsSoundTable (table_stored columns keys' ds)) × (table_stored columns keys' ds ≡ without_row key (table_stored columns keys bs))
taken_out columns keys keys' bs ds at key store sound low there made is =
    let rows = rows_of (length columns) keys bs in
    let read : keys_of rows ≡ keys = keys_read (length columns) keys bs in
    let all : MapOf ℤ (List Value) = remove rows at in
    let here : slice_get (keys_of rows) at ≡ Some key = subst (λ ks. slice_get ks at ≡ Some key) (sym read) (key_found keys at key low there) in
    let gone : remove_entry (is_at (int_cmp key)) rows ≡ all = del_there rows at key sound.ordered here in
    let sound_all : IsSoundTable (table columns all) = subst (λ (es : MapOf ℤ (List Value)). IsSoundTable (table columns es)) gone (del_sound (table columns rows) key sound) in
    let keys_all : keys_of all ≡ remove keys at = map_remove (λ (e : ℤ × List Value). e.0) rows at ∙ ap (λ (ks : List ℤ). remove ks at) read in
    let s = stood columns all keys' ds (is ∙ sym keys_all) (filled_without columns keys bs ds at store made) sound_all in
    (s.0, ap (table columns) (s.1 ∙ sym gone))

pub taken_within : (columns : List Column) (keys keys' : List ℤ) (bs ds : List Cells) (at : ℕ) → length (rows_of (length columns) keys bs) ≤ most_rows → at < length keys → keys' ≡ remove keys at → is_within (table_stored columns keys' ds) ≡ true
taken_within columns keys keys' bs ds at few low is =
    let fewer = length-remove keys at low in
    let count : length keys' ≡ length (remove keys at) = ap (λ (ks : List ℤ). length ks) is in
    rw (rows_length (length columns) keys' ds) (still_within (length keys') (omega (arith, few, fewer, count, rows_length (length columns) keys bs)))

-- a key that isn't there
pub none_taken : (columns : List Column) (keys : List ℤ) (cs : List Cells) (at : ℕ) (key : ℤ) → IsSoundTable (table_stored columns keys cs) → IsBinarySearchResult (λ y. int_cmp y key) keys (Err at)
    → table_stored columns keys cs ≡ without_row key (table_stored columns keys cs)
none_taken columns keys cs at key sound gap =
    let rows = rows_of (length columns) keys cs in
    let read : keys_of rows ≡ keys = keys_read (length columns) keys cs in
    let rise : IsStrictlySortedBy int_cmp keys = subst (IsStrictlySortedBy int_cmp) read sound.ordered in
    let parts = gap (answers_rise int_cmp_total exact_signed (λ (j : ℤ). j) key keys (rw map-id rise)) in
    let before : AreBelow key (keys_of rows) at = subst (λ ks. AreBelow key ks at) (sym read) parts.0 in
    let behind : AreAbove key (keys_of rows) at = subst (λ ks. AreAbove key ks at) (sym read) parts.1 in
    ap (table columns) (sym (del_gap rows at key before behind))

-- a key in its place makes one more at most
pub key_in_length : (place : Result ℕ ℕ) (k : ℤ) (ks : List ℤ) → length (key_in place k ks) ≤ length ks + 1
key_in_length (Ok i) k ks = omega arith
key_in_length (Err i) k ks = let n = length_inserted ks i k in omega (arith, n)

-- room for the value of a row, and those of the rows behind it
pub room_here : (rows : List (List Value)) (index j : ℕ) (v : Value) (c : Cells) → index < length rows → v ≡ value_at (put_at rows index) j → HasRoom (values_at j (drop index rows)) c → HasRoom (v ∷ values_at j (drop (index + 1) rows)) c
room_here rows index j v c low is room =
    let split : drop index rows ≡ put_at rows index ∷ drop (index + 1) rows = drop_more rows index [] low in
    subst (λ w. HasRoom (w ∷ values_at j (drop (index + 1) rows)) c) (sym is) (subst (λ (rs : List (List Value)). HasRoom (values_at j rs) c) split room)

-- one row more is put
pub next_put : (rows : List (List Value)) (index : ℕ) (t t' all : Table) → index < length rows → t' ≡ with_row (put_at rows index) t → with_rows (drop index rows) t ≡ all → with_rows (drop (index + 1) rows) t' ≡ all
next_put rows index t t' all low is before =
    let split : drop index rows ≡ put_at rows index ∷ drop (index + 1) rows = drop_more rows index [] low in
    ap (with_rows (drop (index + 1) rows)) is ∙ (sym (ap (λ (rs : List (List Value)). with_rows rs t) split) ∙ before)

pub all_put : (rows : List (List Value)) (index : ℕ) (t all : Table) → length rows ≤ index → with_rows (drop index rows) t ≡ all → t ≡ all
all_put rows index t all past before = sym (ap (λ (rs : List (List Value)). with_rows rs t) (drop_all index rows past)) ∙ before

-- ---- versions of tables

pub most : (n : ℕ) → nat_le n most_rows ≡ true → n ≤ most_rows
most n h = grind (arith, nat_tests)

all_sound : (t : Table) (keys : List ℤ) → IsSoundTable t → IsSoundTable (without_rows keys t)
all_sound t [] sound = sound
all_sound t (key ∷ keys) sound = all_sound (without_row key t) keys (del_sound t key sound)

pub dels_stored : (t t' : Table) (keys : List ℤ) (r : Bool) → IsStored t → IsChanged (without_rows keys t) t (Ok r) t' → IsStored t'
dels_stored t t' keys true s c = record { sound = subst IsSoundTable (sym c.0) (all_sound t keys s.sound); within = most (length t'.rows) c.1 }
dels_stored t t' keys false s c = subst IsStored (sym c) s
