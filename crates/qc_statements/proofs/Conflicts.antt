-- A conflict names a commit of the journal, which touches the table.
use Rattle.std.proofs.Common.{◌≡◌, ℕ, suc, ◌+◌, ◌-◌, ◌<◌, ℤ, Bool, true, false, cond, List, [], ◌∷◌, ◌++◌, refl, sym, ap, ◌∙◌, subst, arith, Option, Some, None, true≢false}
use Rattle.std.specs.Prelude.{◌&&◌, ◌||◌, IsSomeAnd, nat_lt, slice_get, option_map}
use Rattle.std.specs.List.{list_any}
use Rattle.std.proofs.lemmas.Bool.{and_parts}
use Rattle.qc_types.specs.declared.names.TableName.{TableName}
use Rattle.qc_sql.specs.declared.tables.RowOp.{RowOp}
use Rattle.qc_sql.specs.declared.tables.RowOp.TheVariants as op
use Rattle.qc_sql.specs.Database.{Database, apply, apply_one, same_table, touches}
use Rattle.qc_sql.specs.Words.{◌or_else◌, when}
use Rattle.qc_model.specs.declared.events.Event.{Event}
use Rattle.qc_model.specs.Journal.{Journal, operations, touches_table}
use Rattle.qc_model.specs.Session.{State, Transaction, at_snapshot, with_transaction}
use Rattle.qc_model.specs.Conflicts.{Written, Row, Form, Whole, written_by, all_written, changes_form, is_row, met, first_met, Conflict, conflict_with, conflict_above, conflict_at}
use Rattle.qc_model.specs.Licence.{IsCommitOn}
use Rattle.qc_model.specs.Machine.{conflict_in}

-- ---- what is met is written by an operation that touches the table

either_is : (a b : Bool) → (a || b) ≡ true → (P : Type 0) → (a ≡ true → P) → (b ≡ true → P) → P
either_is true b h P f g = f refl
either_is false b h P f g = g h

or_left : (a b : Bool) → a ≡ true → (a || b) ≡ true
or_left true b h = refl
or_left false b h = absurd (true≢false (sym h))

or_right : (a b : Bool) → b ≡ true → (a || b) ≡ true
or_right true b h = refl
or_right false b h = h

or_assoc : (b c d e : Bool) → c ≡ (d || e) → (b || c) ≡ ((b || d) || e)
or_assoc true c d e h = refl
or_assoc false c d e h = h

any_append : (p : Written → Bool) (xs ys : List Written) → list_any p (xs ++ ys) ≡ (list_any p xs || list_any p ys)
any_append p [] ys = refl
any_append p (x ∷ xs) ys = or_assoc (p x) (list_any p (xs ++ ys)) (list_any p xs) (list_any p ys) (any_append p xs ys)

-- what an operation writes to a table
abbrev Marks : TableName → (Written → Bool) → Type 0
Marks t p = (o : RowOp) (d : Database) → list_any p (written_by o d) ≡ true → touches t o ≡ true

alone : (b : Bool) → (b || false) ≡ true → b ≡ true
alone true h = refl
alone false h = h

form_marks : (t : TableName) → Marks t (changes_form t)
form_marks t (op.Put u row) d h = absurd (true≢false (sym h))
form_marks t (op.Del u key) d h = absurd (true≢false (sym h))
form_marks t (op.CreateTable u columns) d h = alone (same_table t u) h
form_marks t (op.DropTable u) d h = alone (same_table t u) h
form_marks t (op.CreateDb name) d h = absurd (true≢false (sym h))
form_marks t (op.DropDb name) d h = alone _ h

row_marks : (t : TableName) (key : ℤ) → Marks t (is_row t key)
row_marks t key (op.Put u row) d h = (and_parts (same_table t u) _ (alone _ h)).0
row_marks t key (op.Del u j) d h = (and_parts (same_table t u) _ (alone _ h)).0
row_marks t key (op.CreateTable u columns) d h = absurd (true≢false (sym h))
row_marks t key (op.DropTable u) d h = absurd (true≢false (sym h))
row_marks t key (op.CreateDb name) d h = absurd (true≢false (sym h))
row_marks t key (op.DropDb name) d h = absurd (true≢false (sym h))

marked : (t : TableName) (p : Written → Bool) → Marks t p → (ops : List RowOp) (d : Database) → list_any p (all_written ops d) ≡ true → list_any (touches t) ops ≡ true
marked t p m [] d h = absurd (true≢false (sym h))
marked t p m (o ∷ os) d h =
    either_is (list_any p (written_by o d)) (list_any p (all_written os (apply_one o d))) (sym (any_append p (written_by o d) (all_written os (apply_one o d))) ∙ h) (list_any (touches t) (o ∷ os) ≡ true)
    (λ k. or_left (touches t o) (list_any (touches t) os) (m o d k))
    (λ k. or_right (touches t o) (list_any (touches t) os) (marked t p m os (apply_one o d) k))

-- ---- what is met first

some_pair : (x y : TableName × Option ℤ) → ◌≡◌ {A = Option (TableName × Option ℤ)} (Some x) (Some y) → x.0 ≡ y.0
some_pair x y e = cc

met_by : (t : TableName) (key : ℤ) (ops : List RowOp) (d : Database) (a b : Bool) (m : TableName × Option ℤ) → list_any (changes_form t) (all_written ops d) ≡ a → list_any (is_row t key) (all_written ops d) ≡ b
    → (when a (t, None) or_else when b (t, Some key)) ≡ Some m → list_any (touches m.0) ops ≡ true
met_by t key ops d true b m p q e = subst (λ (u : TableName). list_any (touches u) ops ≡ true) (some_pair (t, None) m e) (marked t (changes_form t) (form_marks t) ops d p)
met_by t key ops d false true m p q e = subst (λ (u : TableName). list_any (touches u) ops ≡ true) (some_pair (t, Some key) m e) (marked t (is_row t key) (row_marks t key) ops d q)
met_by t key ops d false false m p q e = absurd cc

met_touches : (own : Written) (ops : List RowOp) (d : Database) (m : TableName × Option ℤ) → met own (all_written ops d) ≡ Some m → list_any (touches m.0) ops ≡ true
met_touches (Row t key) ops d m e = met_by t key ops d (list_any (changes_form t) (all_written ops d)) (list_any (is_row t key) (all_written ops d)) m refl refl e
met_touches (Form t) ops d m e = absurd cc
met_touches (Whole name) ops d m e = absurd cc

either_some : {X : Type 0} (a b : Option X) (x : X) → (a or_else b) ≡ Some x → (P : Type 0) → (a ≡ Some x → P) → (b ≡ Some x → P) → P
either_some (Some y) b x e P f g = f e
either_some None b x e P f g = g e

first_touches : (owns : List Written) (ops : List RowOp) (d : Database) (m : TableName × Option ℤ) → first_met owns (all_written ops d) ≡ Some m → list_any (touches m.0) ops ≡ true
first_touches [] ops d m e = absurd cc
first_touches (own ∷ owns) ops d m e =
    either_some (met own (all_written ops d)) (first_met owns (all_written ops d)) m e _ (met_touches own ops d m) (first_touches owns ops d m)

-- ---- in the journal

-- the event of a conflict, in a journal whose first event has this number
record Found (n : ℕ) (es : Journal) (c : Conflict) : Type 0 where
  pub index : ℕ
  pub at : c.by ≡ n + index
  pub event : IsSomeAnd (slice_get es index) (λ e. touches_table c.table e ≡ true)

with_is : (n : ℕ) (ops : List RowOp) (d : Database) (o : Option (TableName × Option ℤ)) (c : Conflict) → ((m : TableName × Option ℤ) → o ≡ Some m → list_any (touches m.0) ops ≡ true)
    → option_map (λ m. record { table = m.0; key = m.1; by = n }) o ≡ Some c → (c.by ≡ n) × (list_any (touches c.table) ops ≡ true)
with_is n ops d None c f e = absurd cc
with_is n ops d (Some m) c f e =
    let same : record { table = m.0; key = m.1; by = n } ≡ c = cc in
    (sym (ap (λ (x : Conflict). x.by) same), subst (λ (x : Conflict). list_any (touches x.table) ops ≡ true) same (f m refl))

here : (place n : ℕ) (owns : List Written) (ops : List RowOp) (d : Database) (b : Bool) (c : Conflict) → nat_lt place n ≡ b
    → cond b (option_map (λ m. record { table = m.0; key = m.1; by = n }) (first_met owns (all_written ops d))) None ≡ Some c → (c.by ≡ n) × (list_any (touches c.table) ops ≡ true)
here place n owns ops d true c p e = with_is n ops d (first_met owns (all_written ops d)) c (first_touches owns ops d) e
here place n owns ops d false c p e = absurd cc

found_above : (place n : ℕ) (owns : List Written) (d : Database) (es : Journal) (c : Conflict) → conflict_above place owns n d es ≡ Some c → Found n es c
found_above place n owns d [] c e = absurd cc
found_above place n owns d (x ∷ es) c e =
    either_some (conflict_with place n owns (all_written (operations x) d)) (conflict_above place owns (n + 1) (apply (operations x) d) es) c e (Found n (x ∷ es) c)
    (λ h. let k = here place n owns (operations x) d (nat_lt place n) c refl h in record { index = 0; at = omega (arith, k.0); event = k.1 })
    (λ h. let f = found_above place (n + 1) owns (apply (operations x) d) es c h in record { index = suc f.index; at = omega (arith, f.at); event = f.event })

commit_by : (J : Journal) (c : Conflict) → Found 1 J c → IsCommitOn J c.by c.table
commit_by J c f =
    let at : c.by - 1 ≡ f.index = omega (arith, f.at) in
    let event = subst (λ n. IsSomeAnd (slice_get J n) (λ e. touches_table c.table e ≡ true)) (sym at) f.event in
    and_above (slice_get J (c.by - 1)) event (omega (arith, f.at))
  where
    and_above : (o : Option Event) → IsSomeAnd o (λ e. touches_table c.table e ≡ true) → 0 < c.by → IsSomeAnd o (λ e. (0 < c.by) × (touches_table c.table e ≡ true))
    and_above None h g = h
    and_above (Some e) h g = (g, h)

by_place : (J : Journal) (t : Transaction) (p : Option ℕ) (c : Conflict) → conflict_at p t J ≡ Some c → IsCommitOn J c.by c.table
by_place J t None c e = absurd cc
by_place J t (Some place) c e = commit_by J c (found_above place 1 (all_written t.operations (at_snapshot t.snapshot J)) [] J c e)

in_transaction : (J : Journal) (s : State) (t : Option Transaction) (c : Conflict) → conflict_in (with_transaction s t) J ≡ Some c → IsCommitOn J c.by c.table
in_transaction J s None c e = absurd cc
in_transaction J s (Some t) c e = by_place J t t.snapshot c e

pub conflict_is_commit : (J : Journal) (s : State) (c : Conflict) → conflict_in s J ≡ Some c → IsCommitOn J c.by c.table
conflict_is_commit J s c e = in_transaction J s s.transaction c e
