-- One more operation of a list that is walked.
use Rattle.std.proofs.Common.{◌≡◌, ℕ, ◌+◌, ◌≤◌, ◌<◌, ℤ, Bool, true, false, cond, List, [], ◌∷◌, ◌++◌, refl, sym, ap, subst, ◌∙◌, Option, append_assoc, append-nil, arith, take, drop, suc, zero, length, get_or}
use Rattle.std.specs.Prelude.{Some, None, if◌then◌else◌}
use Rattle.std.specs.List.{list_any, slice_get}
use Rattle.std.proofs.lemmas.Option.{slice_get_read}
use Rattle.qc_types.specs.declared.names.TableName.{TableName}
use Rattle.qc_sql.specs.declared.tables.Column.{Column}
use Rattle.qc_sql.specs.declared.tables.RowOp.{RowOp}
use Rattle.qc_sql.specs.declared.tables.RowOp.TheVariants as op
use Rattle.qc_sql.specs.Database.{Database, columns_of}
use Rattle.qc_model.specs.Conflicts.{Written, written_by}
use Rattle.qc_model.specs.Journal.{Journal, event_at}
use Rattle.qc_model.specs.declared.events.Event.{Event}
use Rattle.qc_trx.specs.declared.writes.OwnRow.{OwnRow}
use Rattle.qc_trx.specs.Writes.{columns_left, first_own, is_met, key_by, least, makes_table, row_left, rows_left, written_on}
use Rattle.qc_trx.proofs.Aboves.{cut_at}
use Rattle.qc_trx.proofs.Meets.{first_own_either, met_more}
use Rattle.qc_trx.proofs.Ordered.{left_more}

pub take_whole : {X : Type 0} (i : ℕ) (xs : List X) → length xs ≤ i → take i xs ≡ xs
take_whole zero [] h = refl
take_whole zero (x ∷ xs) h = absurd (omega arith)
take_whole (suc i) [] h = refl
take_whole (suc i) (x ∷ xs) h = ap (λ ys. x ∷ ys) (take_whole i xs (omega arith))

pub drop_whole : {X : Type 0} (i : ℕ) (xs : List X) → length xs ≤ i → drop i xs ≡ []
drop_whole zero [] h = refl
drop_whole zero (x ∷ xs) h = absurd (omega arith)
drop_whole (suc i) [] h = refl
drop_whole (suc i) (x ∷ xs) h = drop_whole i xs (omega arith)

pub at_index : {X : Type 0} (xs : List X) (i : ℕ) (x : X) → i < length xs → x ≡ get_or xs i x → slice_get xs i ≡ Some x
at_index xs i x within is = slice_get_read xs (length xs) i x refl within is

pub at_passed : (journal : Journal) (passed : ℕ) (e : Event) → event_at journal (passed + 1) ≡ Some e → slice_get journal passed ≡ Some e
at_passed journal passed e h = subst (λ (n : ℕ). slice_get journal n ≡ Some e) (omega arith) h

written_more : (os : List RowOp) (o : RowOp) (d : Database) → written_on (os ++ o ∷ []) d ≡ written_on os d ++ written_by o d
written_more [] o d = append-nil (written_by o d)
written_more (x ∷ os) o d =
    let assoc : (written_by x d ++ written_on os d) ++ written_by o d ≡ written_by x d ++ (written_on os d ++ written_by o d) = simp append_assoc in
    ap (λ ws. written_by x d ++ ws) (written_more os o d) ∙ sym assoc

-- the first row that one operation more meets
pub met_next : (os : List RowOp) (i : ℕ) (o : RowOp) (d : Database) (rows : List (Option OwnRow)) → slice_get os i ≡ Some o
    → first_own (is_met (written_on (take (i + 1) os) d)) rows ≡ least (first_own (is_met (written_on (take i os) d)) rows) (first_own (is_met (written_by o d)) rows)
met_next os i o d rows at =
    let parts = cut_at os i o at in
    let all : written_on (take (i + 1) os) d ≡ written_on (take i os) d ++ written_by o d = ap (λ (xs : List RowOp). written_on xs d) parts.1 ∙ written_more (take i os) o d in
    ap (λ (ws : List Written). first_own (is_met ws) rows) all
    ∙ first_own_either (is_met (written_on (take i os) d ++ written_by o d)) (is_met (written_on (take i os) d)) (is_met (written_by o d)) rows (λ r. met_more (written_on (take i os) d) (written_by o d) r)

-- ---- what operations write

left_alone : (t : TableName) (o : RowOp) (left : Option (List Column)) → makes_table o ≡ false → columns_left t (o ∷ []) left ≡ left
left_alone t (op.Put u row) left h = refl
left_alone t (op.Del u key) left h = refl
left_alone t (op.CreateTable u columns) left h = absurd cc
left_alone t (op.DropTable u) left h = refl
left_alone t (op.CreateDb name) left h = refl
left_alone t (op.DropDb name) left h = refl

row_same : (some all : List RowOp) (o : RowOp) (d : Database) → ((t : TableName) (before : Option (List Column)) → columns_left t some before ≡ columns_left t all before) → row_left some o d ≡ row_left all o d
row_same some all (op.Put t row) d h = ap (λ (cs : Option (List Column)). Some (record { table = t; key = key_by cs row })) (h t (columns_of t d))
row_same some all (op.Del t key) d h = refl
row_same some all (op.CreateTable t columns) d h = refl
row_same some all (op.DropTable t) d h = refl
row_same some all (op.CreateDb name) d h = refl
row_same some all (op.DropDb name) d h = refl

pub rows_next : (os : List RowOp) (i making : ℕ) (o : RowOp) (d : Database) (rows : List (Option OwnRow)) (row : Option OwnRow) → slice_get os i ≡ Some o
    → ((t : TableName) (before : Option (List Column)) → columns_left t (take making os) before ≡ columns_left t (take i os) before)
    → row ≡ row_left (take making os) o d → rows ++ rows_left (take i os) (drop i os) d ≡ rows_left [] os d
    → (rows ++ row ∷ []) ++ rows_left (take (i + 1) os) (drop (i + 1) os) d ≡ rows_left [] os d
rows_next os i making o d rows row at same is so_far =
    let parts = cut_at os i o at in
    let here : row ≡ row_left (take i os) o d = is ∙ row_same (take making os) (take i os) o d same in
    let left : rows_left (take i os) (drop i os) d ≡ row_left (take i os) o d ∷ rows_left (take i os ++ o ∷ []) (drop (i + 1) os) d = ap (λ (xs : List RowOp). rows_left (take i os) xs d) parts.0 in
    let more : row_left (take i os) o d ∷ rows_left (take i os ++ o ∷ []) (drop (i + 1) os) d ≡ row ∷ rows_left (take (i + 1) os) (drop (i + 1) os) d =
    subst (λ (xs : List RowOp). row_left (take i os) o d ∷ rows_left xs (drop (i + 1) os) d ≡ row ∷ rows_left (take (i + 1) os) (drop (i + 1) os) d) parts.1
    (ap (λ (r : Option OwnRow). r ∷ rows_left (take (i + 1) os) (drop (i + 1) os) d) (sym here)) in
    let assoc : (rows ++ row ∷ []) ++ rows_left (take (i + 1) os) (drop (i + 1) os) d ≡ rows ++ (row ∷ rows_left (take (i + 1) os) (drop (i + 1) os) d) = simp append_assoc in
    assoc ∙ (sym (ap (λ (xs : List (Option OwnRow)). rows ++ xs) (left ∙ more)) ∙ so_far)

pub columns_next : (os : List RowOp) (i making : ℕ) (o : RowOp) → slice_get os i ≡ Some o
    → ((t : TableName) (before : Option (List Column)) → columns_left t (take making os) before ≡ columns_left t (take i os) before)
    → (t : TableName) (before : Option (List Column)) → columns_left t (take (if makes_table o then i + 1 else making) os) before ≡ columns_left t (take (i + 1) os) before
columns_next os i making o at same t before = by (makes_table o) refl
  where
    by : (b : Bool) → makes_table o ≡ b → columns_left t (take (if makes_table o then i + 1 else making) os) before ≡ columns_left t (take (i + 1) os) before
    by true p = rw p refl
    by false p =
        let parts = cut_at os i o at in
        rw p (same t before ∙ (sym (left_alone t o (columns_left t (take i os) before) p) ∙ (sym (left_more t (take i os) o before) ∙ ap (λ (xs : List RowOp). columns_left t xs before) (sym parts.1))))
