-- Rows put behind the others of a table.
use Rattle.std.proofs.Common.{◌≡◌, ℕ, ◌+◌, ◌-◌, ◌<◌, ◌≤◌, ℤ, Bool, true, false, List, [], ◌∷◌, ◌++◌, map, length, length-append, append-nil, append_assoc, get_or, set, zero, suc, refl, sym, ap, ◌∙◌, arith, subst, Option, Some, None, nat_eq}
use Rattle.std.specs.Prelude.{IfSome, Result, Ok, Err, int_lt, nat_le}
use Rattle.std.specs.Result.{IsErrAnd}
use Rattle.std.specs.List.{list_all, slice_get}
use Rattle.std.specs.List.Sorted.{IsStrictlySortedBy}
use Rattle.std.specs.Map.{keys_of}
use Rattle.std.specs.BTreeMap.{insert_entry}
use Rattle.std.specs.Ordering.{int_cmp, ordering_reverse}
use Rattle.std.specs.declared.cmp.Ordering.TheVariants.{Less, Greater}
use Rattle.std.proofs.lemmas.Bool.Decides.{nat_tests}
use Rattle.std.proofs.lemmas.Cmp.{int_cmp_total}
use Rattle.std.proofs.lemmas.List.{get_or-set_same, get_or-set_other, length-set, map-append}
use Rattle.std.proofs.lemmas.Map.Keys.{sorted_head, sorted_tail}
use Rattle.std.proofs.lemmas.Option.{slice_get_within, get_or_from_slice_get, slice_get-get_or}
use Rattle.qc_types.specs.declared.memory.NoMemory.{NoMemory}
use Rattle.qc_types.specs.declared.names.Value.{Value}
use Rattle.qc_sql.specs.declared.tables.Column.{Column}
use Rattle.qc_sql.specs.declared.tables.Kind.{Kind}
use Rattle.qc_sql.specs.Database.{MapOf, Table, key_of, most_rows, with_row}
use Rattle.qc_model.specs.Licence.{kind_fits, row_fits}
use Rattle.qc_model.specs.Sound.{IsSoundTable}
use Rattle.qc_table.specs.declared.cells.Cells.{Cells}
use Rattle.qc_table.specs.Puts.{put_at, values_at, with_rows}
use Rattle.qc_table.specs.Stored.{and_more, column_of, is_ints, rows_of, takes, values_of, AreFilled, AreMade, HasRoom, HaveRoom, IsCells, IsColumn, IsFilled, IsMade, IsStore, TakeRow, TakeRows, TakesAll}
use Rattle.qc_table.specs.Views.{kind_at, value_at}
use Rattle.qc_table.specs.Changes.{last_from, last_of, rise_behind, stands_behind}
use Rattle.qc_table.specs.Fitting.{is_within, IsChanged}
use Rattle.qc_table.specs.Tables.{Changes, IsStored, with_changes}
use Rattle.qc_table.proofs.Merges.{kind_taken, merged_sound, rows_wide}
use Rattle.qc_table.proofs.Merging.{one_more, rises_none}
use Rattle.qc_table.proofs.Rows.{both, keyed, keyed_length, row_length, value_of_kind}
use Rattle.qc_table.proofs.Stores.{column_ready, column_shown, keys_read, rows_filled, rows_length, store_filled}

-- ---- a list of columns of which one is set

set_here : (cs : List Cells) (i : ℕ) (x c : Cells) → i < length cs → slice_get (set cs i x) i ≡ Some c → c ≡ x
set_here cs i x c low is = sym (get_or_from_slice_get (set cs i x) i c c is) ∙ get_or-set_same cs i x c low

set_there : (cs : List Cells) (i j : ℕ) (x c : Cells) → (j ≡ i → ⊥) → slice_get (set cs i x) j ≡ Some c → slice_get cs j ≡ Some c
set_there cs i j x c apart is =
    let low : j < length cs = subst (λ n. j < n) (length-set cs i x) (slice_get_within (set cs i x) j c is) in
    slice_get-get_or cs j c low ∙ ap Some (sym (get_or-set_other cs i j x c apart) ∙ get_or_from_slice_get (set cs i x) j c c is)

pub found : (cs : List Cells) (i : ℕ) (x : Cells) → i < length cs → x ≡ get_or cs i x → slice_get cs i ≡ Some x
found cs i x low is = slice_get-get_or cs i x low ∙ ap Some (sym is)

-- columns of which those in front of an index are made, and the others are as they were
pub record AreMadeTo (make : ℕ → List Value → List Value) (bs cs : List Cells) (i : ℕ) : Type 0 where
  pub size : length cs ≡ length bs
  pub front : (j : ℕ) (c : Cells) → j < i → slice_get cs j ≡ Some c → IsMade (make j) (slice_get bs j) c
  pub rest : (j : ℕ) (c : Cells) → i ≤ j → slice_get cs j ≡ Some c → slice_get bs j ≡ Some c

pub none_made : (make : ℕ → List Value → List Value) (bs : List Cells) → AreMadeTo make bs bs 0
none_made make bs = record { size = refl; front = λ j c low is. absurd (omega (arith, low)); rest = λ j c low is. is }

pub one_made : (make : ℕ → List Value → List Value) (bs cs : List Cells) (i : ℕ) (old x : Cells) → AreMadeTo make bs cs i → i < length cs → slice_get cs i ≡ Some old → IsMade (make i) (Some old) x → AreMadeTo make bs (set cs i x) (i + 1)
one_made make bs cs i old x m low at made = record {
  size = length-set cs i x ∙ m.size;
  front = λ j c below is.
      elim (nat_eq j i) as (λ b. nat_eq j i ≡ b → IsMade (make j) (slice_get bs j) c) [
        | true ↦ λ p.
            let here : j ≡ i = grind (arith, nat_tests) in
            let same : c ≡ x = set_here cs i x c low (subst (λ k. slice_get (set cs i x) k ≡ Some c) here is) in
            rw (here, m.rest i old (omega arith) at, same) made
        | false ↦ λ p.
            let apart : j ≡ i → ⊥ = λ e. grind (arith, nat_tests) in
            m.front j c (omega (arith, apart, below)) (set_there cs i j x c apart is)
      ] refl;
  rest = λ j c above is.
      let apart : j ≡ i → ⊥ = λ e. omega (arith, e, above) in
      m.rest j c (omega (arith, above)) (set_there cs i j x c apart is);
}

pub all_made : (make : ℕ → List Value → List Value) (bs cs : List Cells) (i : ℕ) → AreMadeTo make bs cs i → length cs ≤ i → AreMade make bs cs
all_made make bs cs i m all = (m.size, λ j c is. let low = slice_get_within cs j c is in m.front j c (omega (arith, all, low)) is)

-- ---- room

as_was : (o : Option Cells) (c : Cells) → o ≡ Some c → IsCells c → IsMade (λ vs. vs) o c
as_was None c is ready = absurd cc
as_was (Some b) c is ready = let same : b ≡ c = cc in (ready, ap values_of (sym same), ap is_ints (sym same))

-- columns of which some got room have the same values
pub same_values : (rows : List (List Value)) (bs cs : List Cells) (i : ℕ) → TakeRows rows bs → AreMadeTo (λ j vs. vs) bs cs i → AreMade (λ j vs. vs) bs cs
same_values rows bs cs i take m = (
  m.size,
  λ j c is.
      elim (nat_le i j) as (λ b. nat_le i j ≡ b → IsMade (λ vs. vs) (slice_get bs j) c) [
        | true ↦ λ p. let was = m.rest j c (grind (arith, nat_tests)) is in as_was (slice_get bs j) c was (take j c was).0
        | false ↦ λ p. m.front j c (grind (arith, nat_tests)) is
      ] refl,
)

-- columns of which those in front of an index have room for rows
abbrev pub RoomTo : ℕ → List (List Value) → List Cells → Type 0
RoomTo i rows cs = (j : ℕ) (c : Cells) → j < i → slice_get cs j ≡ Some c → HasRoom (values_at j rows) c

pub more_room : (rows : List (List Value)) (cs : List Cells) (i : ℕ) (x : Cells) → i < length cs → RoomTo i rows cs → HasRoom (values_at i rows) x → RoomTo (i + 1) rows (set cs i x)
more_room rows cs i x low room one j c below is =
    elim (nat_eq j i) as (λ b. nat_eq j i ≡ b → HasRoom (values_at j rows) c) [
      | true ↦ λ p.
          let here : j ≡ i = grind (arith, nat_tests) in
          let same : c ≡ x = set_here cs i x c low (subst (λ k. slice_get (set cs i x) k ≡ Some c) here is) in
          subst (λ k. HasRoom (values_at k rows) c) (sym here) (subst (HasRoom (values_at i rows)) (sym same) one)
      | false ↦ λ p.
          let apart : j ≡ i → ⊥ = λ e. grind (arith, nat_tests) in
          room j c (omega (arith, apart, below)) (set_there cs i j x c apart is)
    ] refl

pub all_room : (rows : List (List Value)) (cs : List Cells) (i : ℕ) → RoomTo i rows cs → length cs ≤ i → HaveRoom rows cs
all_room rows cs i room all j c is = let within = slice_get_within cs j c is in room j c (omega (arith, all, within)) is

-- ---- the rows of columns with more values each

pub made_from : (f : List Value → List Value) (o : Option Cells) (c : Cells) → IsMade f o c → (b : Cells) × ((o ≡ Some b) × IsMade f (Some b) c)
made_from f None c h = absurd h
made_from f (Some b) c h = (b, (refl, h))

more_filled : (o : Option Kind) (n : ℕ) (ws vs : List Value) (b c d : Cells) → IsColumn o n b → values_of b ≡ vs → IsMade (λ us. us) (Some b) c → IsMade (and_more ws) (Some c) d → IsFilled o (vs ++ ws) d
more_filled None n ws vs b c d h is m k = absurd h
more_filled (Some kind) n ws vs b c d h is m k = (k.0, k.1 ∙ ap (and_more ws) (m.1 ∙ is), k.2 ∙ (m.2 ∙ h.2))

-- the values of rows under their keys
keyed_values : (columns : List Column) (j : ℕ) (new : List (List Value)) → column_of j (keyed columns new) ≡ values_at j new
keyed_values columns j [] = refl
keyed_values columns j (row ∷ new) = ap (λ vs. value_at row j ∷ vs) (keyed_values columns j new)

column_more : (columns : List Column) (j : ℕ) (rows : MapOf ℤ (List Value)) (new : List (List Value)) → column_of j (rows ++ keyed columns new) ≡ column_of j rows ++ values_at j new
column_more columns j rows new = map-append (λ (e : ℤ × List Value). value_at e.1 j) rows (keyed columns new) ∙ ap (λ vs. column_of j rows ++ vs) (keyed_values columns j new)

pub filled_more : (columns : List Column) (keys : List ℤ) (bs cs ds : List Cells) (new : List (List Value)) → IsStore columns (length keys) bs → AreMade (λ j vs. vs) bs cs → AreMade (λ j. and_more (values_at j new)) cs ds
    → AreFilled columns (rows_of (length columns) keys bs ++ keyed columns new) (length columns) ds
filled_more columns keys bs cs ds new store same more = (
  more.0 ∙ (same.0 ∙ store.0),
  λ j d is.
      let rows = rows_of (length columns) keys bs in
      let within : j < length columns = subst (λ n. j < n) (more.0 ∙ (same.0 ∙ store.0)) (slice_get_within ds j d is) in
      let c = made_from (and_more (values_at j new)) (slice_get cs j) d (more.1 j d is) in
      let b = made_from (λ vs. vs) (slice_get bs j) c.0 (same.1 j c.0 c.1.0) in
      let shown = column_shown columns keys bs j b.0 store within b.1.0 in
      subst (λ vs. IsFilled (kind_at columns j) vs d) (sym (column_more columns j rows new))
      (more_filled (kind_at columns j) (length keys) (values_at j new) (column_of j rows) b.0 c.0 d (store.1 j b.0 b.1.0) shown b.1.1 c.1.1),
)

-- ---- a key above the others

pub lower : (x y : ℤ) → int_lt x y ≡ true → int_cmp x y ≡ Less
lower x y h = rw h refl

pub higher : (x y : ℤ) → int_cmp x y ≡ Less → int_cmp y x ≡ Greater
higher x y h = int_cmp_total.antisymm y x ∙ ap ordering_reverse h

-- among rows that rise, one whose key stands above the last stands behind all
put_behind : (e : ℤ × List Value) (es : MapOf ℤ (List Value)) (k : ℤ) (v : List Value) → IsStrictlySortedBy int_cmp (keys_of (e ∷ es)) → int_cmp (last_from e.0 (keys_of es)) k ≡ Less
    → (int_cmp e.0 k ≡ Less) × (insert_entry int_cmp (e ∷ es) k v ≡ (e ∷ es) ++ (k, v) ∷ [])
put_behind e [] k v rise last = (last, rw (higher e.0 k last) refl)
put_behind e (f ∷ es) k v rise last =
    let rest = put_behind f es k v (sorted_tail int_cmp e.0 (keys_of (f ∷ es)) rise) last in
    let low = int_cmp_total.trans e.0 f.0 k (sorted_head int_cmp e.0 (keys_of (f ∷ es)) rise).0 rest.0 in
    (low, rw (higher e.0 k low) (ap (λ m. e ∷ m) rest.1))

behind : (es : MapOf ℤ (List Value)) (k : ℤ) (v : List Value) → IsStrictlySortedBy int_cmp (keys_of es) → stands_behind (last_of (keys_of es)) k ≡ true → insert_entry int_cmp es k v ≡ es ++ (k, v) ∷ []
behind [] k v rise above = refl
behind (e ∷ es) k v rise above = (put_behind e es k v rise (lower (last_from e.0 (keys_of es)) k above)).1

last_appended : (ks : List ℤ) (k : ℤ) → last_of (ks ++ k ∷ []) ≡ Some k
last_appended [] k = refl
last_appended (j ∷ []) k = refl
last_appended (j ∷ i ∷ ks) k = last_appended (i ∷ ks) k

-- ---- the table

pub rises_one : (k : ℤ) → IsStrictlySortedBy int_cmp (k ∷ [])
unfolding IsStrictlySortedBy
rises_one k = (tt, tt)

abbrev table : List Column → MapOf ℤ (List Value) → Table
table columns rows = record { columns = columns; rows = rows }

pub put_sound : (t : Table) (row : List Value) → IsSoundTable t → row_fits t.columns row ≡ true → IsSoundTable (with_row row t)
put_sound t row sound fits =
    let key = key_of t.columns row in
    let one : Changes = (key, Some row) ∷ [] in
    let is : with_changes t one ≡ with_row row t = ap (table t.columns) (one_more key (Some row) t.rows [] sound.ordered rises_none) in
    subst IsSoundTable is (merged_sound t one sound ((fits, refl), tt) (rises_one key))

pub rows_sound : (t : Table) (new : List (List Value)) → IsSoundTable t → list_all (row_fits t.columns) new ≡ true → IsSoundTable (with_rows new t)
rows_sound t [] sound fits = sound
rows_sound t (row ∷ new) sound fits = let each = both _ _ fits in rows_sound (with_row row t) new (put_sound t row sound each.0) each.1

-- rows whose keys rise behind the others stand behind all
risen : (columns : List Column) (rows : MapOf ℤ (List Value)) (new : List (List Value)) → IsSoundTable (table columns rows) → list_all (row_fits columns) new ≡ true → rise_behind (last_of (keys_of rows)) (map (key_of columns) new) ≡ true
    → with_rows new (table columns rows) ≡ table columns (rows ++ keyed columns new)
risen columns rows [] sound fits rise = ap (table columns) (sym (append-nil rows))
risen columns rows (row ∷ new) sound fits rise =
    let key = key_of columns row in
    let each = both _ _ fits in
    let up = both _ _ rise in
    let one : insert_entry int_cmp rows key row ≡ rows ++ (key, row) ∷ [] = behind rows key row sound.ordered up.0 in
    let sound_one : IsSoundTable (table columns (rows ++ (key, row) ∷ [])) = subst (λ es. IsSoundTable (table columns es)) one (put_sound (table columns rows) row sound each.0) in
    let last : last_of (keys_of (rows ++ (key, row) ∷ [])) ≡ Some key = ap last_of (map-append (λ (e : ℤ × List Value). e.0) rows ((key, row) ∷ [])) ∙ last_appended (keys_of rows) key in
    let rest = risen columns (rows ++ (key, row) ∷ []) new sound_one each.1 (subst (λ l. rise_behind l (map (key_of columns) new) ≡ true) (sym last) up.1) in
    ap (λ es. with_rows new (table columns es)) one ∙ (rest ∙ ap (table columns) (append_assoc rows ((key, row) ∷ []) (keyed columns new)))

-- columns that are sound take a row that fits
taken_by : (columns : List Column) (n : ℕ) (c : Cells) (j : ℕ) (row : List Value) (o : Option Kind) → kind_at columns j ≡ o → IsColumn o n c → row_fits columns row ≡ true → IsCells c × (takes (is_ints c) (value_at row j) ≡ true)
taken_by columns n c j row None same h fits = absurd h
taken_by columns n c j row (Some k) same h fits =
    (h.0, kind_taken (Some k) k (is_ints c) (value_at row j) refl h.2 (subst (λ o. IfSome o (λ k. kind_fits k (value_at row j) ≡ true)) same (value_of_kind columns row j fits)))

pub row_taken : (columns : List Column) (n : ℕ) (cs : List Cells) (row : List Value) → IsStore columns n cs → row_fits columns row ≡ true → TakeRow row cs
row_taken columns n cs row store fits = (
  store.0 ∙ sym (row_length columns row fits),
  λ j c is. taken_by columns n c j row (kind_at columns j) refl (store.1 j c is) fits,
)

pub fits_at : (columns : List Column) (new : List (List Value)) (i : ℕ) → list_all (row_fits columns) new ≡ true → i < length new → row_fits columns (put_at new i) ≡ true
fits_at columns [] i fits low = absurd (omega arith)
fits_at columns (row ∷ new) zero fits low = (both _ _ fits).0
fits_at columns (row ∷ new) (suc i) fits low = fits_at columns new i (both _ _ fits).1 (omega arith)

-- columns that are sound take rows that fit
pub rows_taken : (columns : List Column) (n : ℕ) (cs : List Cells) (new : List (List Value)) → IsStore columns n cs → list_all (row_fits columns) new ≡ true → TakeRows new cs
rows_taken columns n cs new store fits = λ j c is. (
  column_ready (kind_at columns j) n c (store.1 j c is),
  λ i low. subst (λ m. j < m) (store.0 ∙ sym (row_length columns (put_at new i) (fits_at columns new i fits low))) (slice_get_within cs j c is),
  λ i low. (taken_by columns n c j (put_at new i) (kind_at columns j) refl (store.1 j c is) (fits_at columns new i fits low)).1,
)

most : (n : ℕ) → nat_le n most_rows ≡ true → n ≤ most_rows
most n h = grind (arith, nat_tests)

pub put_stored : (t t' : Table) (new : List (List Value)) (r : Result Bool NoMemory) → IsStored t → list_all (row_fits t.columns) new ≡ true → IsChanged (with_rows new t) t r t' → IsStored t'
put_stored t t' new (Ok true) s fits c = record { sound = subst IsSoundTable (sym c.0) (rows_sound t new s.sound fits); within = most (length t'.rows) c.1 }
put_stored t t' new (Ok false) s fits c = subst IsStored (sym c) s
put_stored t t' new (Err e) s fits c = subst IsStored (sym c) s

pub one_stored : (t t' : Table) (row : List Value) (r : Result Bool NoMemory) → IsStored t → row_fits t.columns row ≡ true → IsChanged (with_row row t) t r t' → IsStored t'
one_stored t t' row r s fits c = put_stored t t' (row ∷ []) r s (rw fits refl) c

-- ---- what is stored of a table

abbrev pub stored : List Column → List ℤ → List Cells → Table
stored columns keys cs = record { columns = columns; rows = rows_of (length columns) keys cs }

filled_same : (columns : List Column) (keys : List ℤ) (bs cs : List Cells) → IsStore columns (length keys) bs → AreMade (λ j vs. vs) bs cs → AreFilled columns (rows_of (length columns) keys bs) (length columns) cs
filled_same columns keys bs cs store same = (
  same.0 ∙ store.0,
  λ j c is.
      let within : j < length columns = subst (λ n. j < n) (same.0 ∙ store.0) (slice_get_within cs j c is) in
      let b = made_from (λ vs. vs) (slice_get bs j) c (same.1 j c is) in
      kept_filled (kind_at columns j) (length keys) (column_of j (rows_of (length columns) keys bs)) b.0 c (store.1 j b.0 b.1.0) (column_shown columns keys bs j b.0 store within b.1.0) b.1.1,
)
  where
    kept_filled : (o : Option Kind) (n : ℕ) (vs : List Value) (b c : Cells) → IsColumn o n b → values_of b ≡ vs → IsMade (λ ws. ws) (Some b) c → IsFilled o vs c
    kept_filled None n vs b c h is m = absurd h
    kept_filled (Some kind) n vs b c h is m = (m.0, m.1 ∙ is, m.2 ∙ h.2)

-- columns that are filled with the rows of a sound table store it
pub stood : (columns : List Column) (rows : MapOf ℤ (List Value)) (keys : List ℤ) (cs : List Cells) → keys ≡ keys_of rows → AreFilled columns rows (length columns) cs → IsSoundTable (record { columns = columns; rows = rows })
    → (IsStore columns (length keys) cs × IsSoundTable (stored columns keys cs)) × (rows_of (length columns) keys cs ≡ rows)
stood columns rows keys cs is filled sound =
    let back = rows_filled columns rows cs filled (rows_wide columns rows sound.rows) in
    let there : rows_of (length columns) keys cs ≡ rows = ap (λ ks. rows_of (length columns) ks cs) is ∙ back in
    let whole : IsSoundTable (stored columns keys cs) = rw there sound in
    let store : IsStore columns (length keys) cs = rw is (store_filled columns rows cs filled) in
    ((store, whole), there)

-- columns with more room store the same table
pub same_stored : (columns : List Column) (keys keys' : List ℤ) (bs cs : List Cells) → IsStore columns (length keys) bs → IsSoundTable (stored columns keys bs) → AreMade (λ j vs. vs) bs cs → keys' ≡ keys
    → (IsStore columns (length keys') cs × IsSoundTable (stored columns keys' cs)) × (stored columns keys' cs ≡ stored columns keys bs)
same_stored columns keys keys' bs cs store sound same is =
    let rows = rows_of (length columns) keys bs in
    let s = stood columns rows keys' cs (is ∙ sym (keys_read (length columns) keys bs)) (filled_same columns keys bs cs store same) sound in
    (s.0, ap (λ (es : MapOf ℤ (List Value)). let t : Table = record { columns = columns; rows = es } in t) s.1)

-- columns with room take rows as before
pub same_taken : (new : List (List Value)) (bs cs : List Cells) → TakeRows new bs → AreMade (λ j vs. vs) bs cs → TakeRows new cs
same_taken new bs cs take same = λ j c is.
    let b = made_from (λ vs. vs) (slice_get bs j) c (same.1 j c is) in
    let taken = take j b.0 b.1.0 in
    (b.1.1.0, taken.1, subst (TakesAll j new) (sym b.1.1.2) taken.2)

-- what a call that is refused leaves as it was
pub unchanged : (wanted before after : Table) (r : Result Bool NoMemory) (P : NoMemory → Type 0) → IsErrAnd r P → after ≡ before → IsChanged wanted before r after
unchanged wanted before after (Ok b) P h same = absurd h
unchanged wanted before after (Err e) P h same = same

more_within : (n m : ℕ) → n + m ≤ most_rows → nat_le (n + m) most_rows ≡ true
more_within n m h = grind (arith, nat_tests)

keyed_keys : (columns : List Column) (new : List (List Value)) → keys_of (keyed columns new) ≡ map (key_of columns) new
keyed_keys columns [] = refl
keyed_keys columns (row ∷ new) = ap (λ ks. key_of columns row ∷ ks) (keyed_keys columns new)

pub appended : (columns : List Column) (keys keys' : List ℤ) (bs cs ds : List Cells) (new : List (List Value)) → IsStore columns (length keys) bs → IsSoundTable (stored columns keys bs) → list_all (row_fits columns) new ≡ true → length keys + length new ≤ most_rows
    → rise_behind (last_of keys) (map (key_of columns) new) ≡ true → AreMade (λ j vs. vs) bs cs → AreMade (λ j. and_more (values_at j new)) cs ds → keys' ≡ keys ++ map (key_of columns) new
    → (IsStore columns (length keys') ds × IsSoundTable (stored columns keys' ds)) × ((stored columns keys' ds ≡ with_rows new (stored columns keys bs)) × (is_within (stored columns keys' ds) ≡ true))
appended columns keys keys' bs cs ds new store sound fits few rise same more is =
    let t = stored columns keys bs in
    let rows = rows_of (length columns) keys bs in
    let all : MapOf ℤ (List Value) = rows ++ keyed columns new in
    let read = keys_read (length columns) keys bs in
    let count : length rows ≡ length keys = rows_length (length columns) keys bs in
    let high : rise_behind (last_of (keys_of rows)) (map (key_of columns) new) ≡ true = subst (λ ks. rise_behind (last_of ks) (map (key_of columns) new) ≡ true) (sym read) rise in
    let put_all : with_rows new t ≡ table columns all = risen columns rows new sound fits high in
    let sound_all = subst IsSoundTable put_all (rows_sound t new sound fits) in
    let all_keys : keys_of all ≡ keys ++ map (key_of columns) new =
    map-append (λ (e : ℤ × List Value). e.0) rows (keyed columns new) ∙ (ap (λ ks. ks ++ keys_of (keyed columns new)) read ∙ ap (λ ks. keys ++ ks) (keyed_keys columns new)) in
    let s = stood columns all keys' ds (is ∙ sym all_keys) (filled_more columns keys bs cs ds new store same more) sound_all in
    let length_all : length all ≡ length keys + length new = length-append rows (keyed columns new) ∙ (ap (λ n. n + length (keyed columns new)) count ∙ ap (λ n. length keys + n) (keyed_length (key_of columns) new)) in (
      s.0,
      (ap (table columns) s.1 ∙ sym put_all, rw (s.1, length_all) (more_within (length keys) (length new) few)),
    )

-- ---- the last key

last_is : (j : ℤ) (js : List ℤ) (d : ℤ) → get_or (j ∷ js) (length js) d ≡ last_from j js
last_is j [] d = refl
last_is j (i ∷ js) d = last_is i js d

pub last_read : (js : List ℤ) (d : ℤ) → (length js ≡ 0 → ⊥) → Some (get_or js (length js - 1) d) ≡ last_of js
last_read [] d some = absurd (some refl)
last_read (j ∷ js) d some =
    let back : suc (length js) - 1 ≡ length js = omega arith in
    ap (λ i. Some (get_or (j ∷ js) i d)) back ∙ ap Some (last_is j js d)
