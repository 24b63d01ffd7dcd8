-- Row operations that fit at a snapshot fit at the end of the journal, where no commit since then conflicts.
use Rattle.std.proofs.Common.{◌≡◌, ℕ, zero, suc, ◌+◌, ◌-◌, ◌<◌, ◌≤◌, ℤ, Bool, true, false, cond, List, [], ◌∷◌, ◌++◌, take, refl, sym, ap, ◌∙◌, subst, Option, Some, None, arith, true≢false}
use Rattle.std.specs.Prelude.{◌&&◌, is_some, nat_lt, option_map, IfSome, slice_get}
use Rattle.std.specs.List.{list_all, list_any, AllByRecursion}
use Rattle.std.specs.Ordering.{int_cmp, is_eq}
use Rattle.std.proofs.lemmas.Bool.{and_parts, and_from, or_from, lt-ltb}
use Rattle.qc_types.specs.declared.names.TableName.{TableName}
use Rattle.qc_types.specs.declared.names.Value.{Value}
use Rattle.qc_sql.specs.declared.tables.RowOp.{RowOp}
use Rattle.qc_sql.specs.declared.tables.RowOp.TheVariants as op
use Rattle.qc_sql.specs.Database.{Table, Database, table_of, key_of, without_row, apply, apply_one, same_table, columns_of, row_of}
use Rattle.qc_sql.specs.Words.{◌or_else◌, when}
use Rattle.qc_model.specs.Journal.{Journal, operations, database_after, present, before}
use Rattle.qc_model.specs.Session.{at_snapshot}
use Rattle.qc_model.specs.Conflicts.{Written, Row, Form, Whole, Conflict, key_in, written_by, all_written, changes_form, is_row, met, first_met, conflict_with, conflict_above, conflict_at}
use Rattle.qc_model.specs.Licence.{row_fits, has_row, takes_row, op_fits, ops_fit}
use Rattle.qc_laws.specs.fits.Sound.{commits_fit, IsNoChangeAt, is_row_op}
use Rattle.qc_model.specs.Sound.{IsSoundDatabase}
use Rattle.qc_laws.specs.fits.Laws.{KeptSnapshotsFit}
use Rattle.qc_laws.proofs.fits.Maps.{row_put, row_gone, key_is}
use Rattle.qc_laws.proofs.fits.Given.{each_weaker, each_of}
use Rattle.qc_laws.proofs.fits.Stays.{table_is_sound, taken_by, sound_one}
use Rattle.qc_laws.proofs.fits.Tables.{table_changed, table_put}
use Rattle.qc_laws.proofs.fits.Written.{same_table_is, columns_in, row_in, one_keeps_columns, one_keeps_row, forms_stay, rows_stay}
use Rattle.qc_laws.proofs.fits.Journals.{journals_are_sound}

-- ---- two databases that agree at what is written

abbrev Agrees : Database → Database → Written → Type 0
Agrees d e (Row t key) = (columns_of t d ≡ columns_of t e) × (row_of t key d ≡ row_of t key e)
Agrees d e (Form t) = Unit {0}
Agrees d e (Whole name) = Unit {0}

agrees_itself : (d : Database) (w : Written) → Agrees d d w
agrees_itself d (Row t key) = (refl, refl)
agrees_itself d (Form t) = tt
agrees_itself d (Whole name) = tt

agrees_further : (c d e : Database) (w : Written) → Agrees c d w → Agrees d e w → Agrees c e w
agrees_further c d e (Row t key) h g = (h.0 ∙ g.0, h.1 ∙ g.1)
agrees_further c d e (Form t) h g = tt
agrees_further c d e (Whole name) h g = tt

abbrev AgreeAt : List Written → Database → Database → Type 0
AgreeAt ws d e = AllByRecursion (Agrees d e) ws

-- ---- one operation

takes_too : (o p : Option Table) (row : List Value) → columns_in o ≡ columns_in p → takes_row o row ≡ true → takes_row p row ≡ true
takes_too None p row same h = absurd (true≢false (sym h))
takes_too (Some x) None row same h = absurd (true≢false (ap is_some same))
takes_too (Some x) (Some y) row same h = let columns : x.columns ≡ y.columns = cc in subst (λ cs. row_fits cs row ≡ true) columns h

same_key : (o p : Option Table) (row : List Value) → columns_in o ≡ columns_in p → key_in o row ≡ key_in p row
same_key None None row same = refl
same_key None (Some y) row same = absurd (true≢false (sym (ap is_some same)))
same_key (Some x) None row same = absurd (true≢false (ap is_some same))
same_key (Some x) (Some y) row same = let columns : x.columns ≡ y.columns = cc in ap (λ cs. key_of cs row) columns

has_row_is : (o : Option Table) (key : ℤ) → has_row o key ≡ is_some (row_in key o)
has_row_is None key = refl
has_row_is (Some x) key = refl

-- the row that is put
put_leaves : (t : TableName) (row : List Value) (d : Database) → takes_row (table_of t d) row ≡ true → row_of t (key_in (table_of t d) row) (apply_one (op.Put t row) d) ≡ Some row
put_leaves t row d h =
    let x = taken_by (table_of t d) row h in
    ap (λ k. row_of t k (apply_one (op.Put t row) d)) (ap (λ o. key_in o row) x.1) ∙ (ap (row_in (key_of x.0.columns row)) (table_put t row x.0 d x.1) ∙ row_put (key_of x.0.columns row) row x.0.rows)

-- no row where one is deleted
del_leaves : (t : TableName) (key : ℤ) (d : Database) → IsSoundDatabase d → row_of t key (apply_one (op.Del t key) d) ≡ None
del_leaves t key d s = ap (row_in key) (table_changed t (without_row key) d) ∙ by (table_of t d) refl
  where
    by : (o : Option Table) → table_of t d ≡ o → row_in key (option_map (without_row key) o) ≡ None
    by None p = refl
    by (Some x) p = row_gone key x.rows (table_is_sound t x d s p).ordered

-- a row that is written, or another
abbrev is_same : TableName → ℤ → TableName → ℤ → Bool
is_same u k t j = same_table u t && is_eq (int_cmp k j)

step_put : (t : TableName) (row : List Value) (d e : Database) → takes_row (table_of t d) row ≡ true → takes_row (table_of t e) row ≡ true → columns_of t d ≡ columns_of t e → (w : Written) → Agrees d e w
    → Agrees (apply_one (op.Put t row) d) (apply_one (op.Put t row) e) w
step_put t row d e td te same (Form u) h = tt
step_put t row d e td te same (Whole name) h = tt
step_put t row d e td te same (Row u k) h = (one_keeps_columns u o d refl ∙ (h.0 ∙ sym (one_keeps_columns u o e refl)), by (is_same u k t j) refl)
  where
    o : RowOp
    o = op.Put t row

    j : ℤ
    j = key_in (table_of t d) row

    keys : j ≡ key_in (table_of t e) row
    keys = same_key (table_of t d) (table_of t e) row same

    by : (b : Bool) → is_same u k t j ≡ b → row_of u k (apply_one o d) ≡ row_of u k (apply_one o e)
    by false p =
        let here : list_any (is_row u k) (written_by o d) ≡ false = or_from (is_same u k t j) false p refl in
        let there : list_any (is_row u k) (written_by o e) ≡ false = or_from (is_same u k t (key_in (table_of t e) row)) false (ap (is_same u k t) (sym keys) ∙ p) refl in
        one_keeps_row u k o d refl here ∙ (h.1 ∙ sym (one_keeps_row u k o e refl there))
    by true p =
        let parts = and_parts (same_table u t) (is_eq (int_cmp k j)) p in
        let table : u ≡ t = same_table_is u t parts.0 in
        let key : k ≡ j = key_is k j parts.1 in
        let both : row_of t j (apply_one o d) ≡ row_of t j (apply_one o e) = put_leaves t row d td ∙ sym (ap (λ i. row_of t i (apply_one o e)) keys ∙ put_leaves t row e te) in
        subst (λ (v : TableName). row_of v k (apply_one o d) ≡ row_of v k (apply_one o e)) (sym table) (subst (λ i. row_of t i (apply_one o d) ≡ row_of t i (apply_one o e)) (sym key) both)

step_del : (t : TableName) (j : ℤ) (d e : Database) → IsSoundDatabase d → IsSoundDatabase e → (w : Written) → Agrees d e w → Agrees (apply_one (op.Del t j) d) (apply_one (op.Del t j) e) w
step_del t j d e s r (Form u) h = tt
step_del t j d e s r (Whole name) h = tt
step_del t j d e s r (Row u k) h = (one_keeps_columns u o d refl ∙ (h.0 ∙ sym (one_keeps_columns u o e refl)), by (is_same u k t j) refl)
  where
    o : RowOp
    o = op.Del t j

    by : (b : Bool) → is_same u k t j ≡ b → row_of u k (apply_one o d) ≡ row_of u k (apply_one o e)
    by false p =
        let other = or_from (is_same u k t j) false p refl in
        one_keeps_row u k o d refl other ∙ (h.1 ∙ sym (one_keeps_row u k o e refl other))
    by true p =
        let parts = and_parts (same_table u t) (is_eq (int_cmp k j)) p in
        let table : u ≡ t = same_table_is u t parts.0 in
        let key : k ≡ j = key_is k j parts.1 in
        let both : row_of t j (apply_one o d) ≡ row_of t j (apply_one o e) = del_leaves t j d s ∙ sym (del_leaves t j e r) in
        subst (λ (v : TableName). row_of v k (apply_one o d) ≡ row_of v k (apply_one o e)) (sym table) (subst (λ i. row_of t i (apply_one o d) ≡ row_of t i (apply_one o e)) (sym key) both)

-- ---- a list of operations

all_parts : {A : Type 0} (P : A → Type 0) (xs ys : List A) → AllByRecursion P (xs ++ ys) → AllByRecursion P xs × AllByRecursion P ys
all_parts P [] ys h = (tt, h)
all_parts P (x ∷ xs) ys h = let rest = all_parts P xs ys h.1 in ((h.0, rest.0), rest.1)

-- what fits one of them fits the other
fits_too : (o : RowOp) (d e : Database) → is_row_op o ≡ true → op_fits o d ≡ true → AgreeAt (written_by o d) d e → op_fits o e ≡ true
fits_too (op.Put t row) d e r h a = takes_too (table_of t d) (table_of t e) row a.0.0 h
fits_too (op.Del t key) d e r h a = has_row_is (table_of t e) key ∙ (ap is_some (sym a.0.1) ∙ (sym (has_row_is (table_of t d) key) ∙ h))
fits_too (op.CreateTable t columns) d e r h a = absurd (true≢false (sym r))
fits_too (op.DropTable t) d e r h a = absurd (true≢false (sym r))
fits_too (op.CreateDb name) d e r h a = absurd (true≢false (sym r))
fits_too (op.DropDb name) d e r h a = absurd (true≢false (sym r))

-- and both agree after it
agree_after : (o : RowOp) (d e : Database) → IsSoundDatabase d → IsSoundDatabase e → is_row_op o ≡ true → op_fits o d ≡ true → op_fits o e ≡ true → AgreeAt (written_by o d) d e → (w : Written) → Agrees d e w → Agrees (apply_one o d) (apply_one o e) w
agree_after (op.Put t row) d e s p r h g a w k = step_put t row d e h g a.0.0 w k
agree_after (op.Del t key) d e s p r h g a w k = step_del t key d e s p w k
agree_after (op.CreateTable t columns) d e s p r h g a w k = absurd (true≢false (sym r))
agree_after (op.DropTable t) d e s p r h g a w k = absurd (true≢false (sym r))
agree_after (op.CreateDb name) d e s p r h g a w k = absurd (true≢false (sym r))
agree_after (op.DropDb name) d e s p r h g a w k = absurd (true≢false (sym r))

all_fit_too : (os : List RowOp) (d e : Database) → IsSoundDatabase d → IsSoundDatabase e → list_all is_row_op os ≡ true → ops_fit os d ≡ true → AgreeAt (all_written os d) d e → ops_fit os e ≡ true
all_fit_too [] d e s p r h a = refl
all_fit_too (o ∷ os) d e s p r h a =
    let rows = and_parts (is_row_op o) (list_all is_row_op os) r in
    let fits = and_parts (op_fits o d) (ops_fit os (apply_one o d)) h in
    let written = all_parts (Agrees d e) (written_by o d) (all_written os (apply_one o d)) a in
    let too = fits_too o d e rows.0 fits.0 written.0 in
    and_from (op_fits o e) (ops_fit os (apply_one o e)) too
    (all_fit_too os (apply_one o d) (apply_one o e) (sound_one o d s fits.0) (sound_one o e p too) rows.1 fits.1
    (each_weaker (Agrees d e) (Agrees (apply_one o d) (apply_one o e)) (agree_after o d e s p rows.0 fits.0 too written.0) (all_written os (apply_one o d)) written.1))

-- ---- commits that don't conflict

pub neither : {A : Type 0} (a b : Option A) → (a or_else b) ≡ None → (a ≡ None) × (b ≡ None)
neither None b h = (refl, h)
neither (Some a) b h = absurd (true≢false (ap is_some h))

pub not_when : {A : Type 0} (b : Bool) (a : A) → when b a ≡ None → b ≡ false
not_when false a h = refl
not_when true a h = absurd (true≢false (ap is_some h))

-- a commit that meets nothing agrees with what was before it
unmet : (own : List Written) (ops : List RowOp) (d : Database) → first_met own (all_written ops d) ≡ None → AgreeAt own d (apply ops d)
unmet [] ops d h = tt
unmet (Row t key ∷ ws) ops d h =
    let others = all_written ops d in
    let parts = neither (met (Row t key) others) (first_met ws others) h in
    let tests = neither (when (list_any (changes_form t) others) (t, None)) (when (list_any (is_row t key) others) (t, Some key)) parts.0 in
    let form = not_when (list_any (changes_form t) others) (t, None) tests.0 in
    let row = not_when (list_any (is_row t key) others) (t, Some key) tests.1 in
    ((sym (forms_stay t ops d form), sym (rows_stay t key ops d form row)), unmet ws ops d parts.1)
unmet (Form t ∷ ws) ops d h = (tt, unmet ws ops d h)
unmet (Whole name ∷ ws) ops d h = (tt, unmet ws ops d h)

abbrev told : ℕ → TableName × Option ℤ → Conflict
told n m = record { table = m.0; key = m.1; by = n }

not_met : (place n : ℕ) (own theirs : List Written) → place < n → conflict_with place n own theirs ≡ None → first_met own theirs ≡ None
not_met place n own theirs low h = by (nat_lt place n) (lt-ltb place n low) refl
  where
    none : (o : Option (TableName × Option ℤ)) → option_map (told n) o ≡ None → o ≡ None
    none None g = refl
    none (Some m) g = absurd (true≢false (ap is_some g))

    by : (b : Bool) → b ≡ true → nat_lt place n ≡ b → first_met own theirs ≡ None
    by true p q = none (first_met own theirs) (sym (ap (λ b. cond b (option_map (told n) (first_met own theirs)) None) q) ∙ h)
    by false p q = absurd (true≢false (sym p))

-- events above the snapshot
above : (place : ℕ) (own : List Written) (n : ℕ) (c d : Database) (J : Journal) → place < n → conflict_above place own n d J ≡ None → AgreeAt own c d → AgreeAt own c (database_after d J)
above place own n c d [] low h a = a
above place own n c d (e ∷ es) low h a =
    let ops = operations e in
    let parts = neither (conflict_with place n own (all_written ops d)) (conflict_above place own (n + 1) (apply ops d) es) h in
    let here = unmet own ops d (not_met place n own (all_written ops d) low parts.0) in
    above place own (n + 1) c (apply ops d) es (omega (arith, low)) parts.1 (further own a here)
  where
    further : (ws : List Written) → AgreeAt ws c d → AgreeAt ws d (apply (operations e) d) → AgreeAt ws c (apply (operations e) d)
    further [] a b = tt
    further (w ∷ ws) a b = (agrees_further c d (apply (operations e) d) w a.0 b.0, further ws a.1 b.1)

-- the events before the snapshot, the one at its place, and those above
across : (k place : ℕ) (own : List Written) (n : ℕ) (c d : Database) (J : Journal) → place ≤ n + k → conflict_above place own n d J ≡ None → IfSome (slice_get J k) (λ e. operations e ≡ [])
    → AgreeAt own c (database_after d (take k J)) → AgreeAt own c (database_after d J)
across zero place own n c d [] low h quiet a = a
across zero place own n c d (e ∷ es) low h quiet a =
    let parts = neither (conflict_with place n own (all_written (operations e) d)) (conflict_above place own (n + 1) (apply (operations e) d) es) h in
    above place own (n + 1) c (apply (operations e) d) es (omega (arith, low)) parts.1 (subst (λ ops. AgreeAt own c (apply ops d)) (sym quiet) a)
across (suc k) place own n c d [] low h quiet a = a
across (suc k) place own n c d (e ∷ es) low h quiet a =
    let parts = neither (conflict_with place n own (all_written (operations e) d)) (conflict_above place own (n + 1) (apply (operations e) d) es) h in
    across k place own (n + 1) c (apply (operations e) d) es (omega (arith, low)) parts.1 quiet a

-- ---- the whole

fit_at_the_end : (ops : List RowOp) (place : ℕ) (J : Journal) → commits_fit [] J ≡ true → IsNoChangeAt place J → list_all is_row_op ops ≡ true → ops_fit ops (present (before place J)) ≡ true
    → conflict_above place (all_written ops (present (before place J))) 1 [] J ≡ None → ops_fit ops (present J) ≡ true
fit_at_the_end ops place J fits quiet rows h none =
    let c = present (before place J) in
    let own = all_written ops c in
    all_fit_too ops c (present J) (journals_are_sound (Some place) J fits) (journals_are_sound None J fits) rows h
    (across (place - 1) place own 1 c [] J (omega arith) none quiet (each_of (Agrees c c) (agrees_itself c) own))

pub kept_snapshots_fit : KeptSnapshotsFit
kept_snapshots_fit t place J fits is quiet rows h none =
    let conflict : conflict_at (Some place) t J ≡ None = ap (λ s. conflict_at s t J) (sym is) ∙ none in
    fit_at_the_end t.operations place J fits quiet rows (subst (λ s. ops_fit t.operations (at_snapshot s J) ≡ true) is h)
    (subst (λ s. conflict_above place (all_written t.operations (at_snapshot s J)) 1 [] J ≡ None) is conflict)
