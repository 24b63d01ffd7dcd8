-- The events of a journal one after another, from a place on.
use Rattle.std.proofs.Common.{◌≡◌, ℕ, ◌+◌, ◌≤◌, ◌<◌, Bool, true, false, List, [], ◌∷◌, ◌++◌, refl, sym, ap, subst, ◌∙◌, arith, take, drop, length, suc, zero, add-one}
use Rattle.std.specs.Prelude.{ℤ, Option, Some, None, nat_lt, option_map, ◌-◌}
use Rattle.std.specs.List.{slice_get}
use Rattle.qc_types.specs.declared.names.TableName.{TableName}
use Rattle.qc_sql.specs.Database.{Database, apply, empty_database}
use Rattle.qc_sql.specs.Words.{◌or_else◌}
use Rattle.qc_model.specs.declared.events.Event.{Event}
use Rattle.qc_model.specs.Journal.{Journal, operations, database_after, present, event_at, before}
use Rattle.qc_model.specs.Conflicts.{Written, Conflict, all_written, first_met, conflict_with, conflict_above}
use Rattle.qc_trx.specs.declared.writes.OwnRow.{OwnRow}
use Rattle.qc_trx.specs.Endings.{IsOriginIn}
use Rattle.qc_trx.specs.Writes.{by_commit, rows_written, written_on}
use Rattle.qc_trx.proofs.Meets.{AreKept, all_kept, kept_on, same_first}

-- ---- tests of numbers

below : (a b : ℕ) → a < b → nat_lt a b ≡ true
below a b h = by (nat_lt a b) refl
  where
    by : (t : Bool) → nat_lt a b ≡ t → nat_lt a b ≡ true
    by true p = p
    by false p = absurd (grind (arith, p, h))

not_below : (a b : ℕ) → b ≤ a → nat_lt a b ≡ false
not_below a b h = by (nat_lt a b) refl
  where
    by : (t : Bool) → nat_lt a b ≡ t → nat_lt a b ≡ false
    by false p = p
    by true p = absurd (grind (arith, p, h))

-- ---- cutting a journal

cut : {X : Type 0} (xs : List X) (i : ℕ) (x : X) → slice_get xs i ≡ Some x → (drop i xs ≡ x ∷ drop (suc i) xs) × (take (suc i) xs ≡ take i xs ++ x ∷ [])
cut [] i x h = absurd cc
cut (y ∷ ys) zero x h = let e : y ≡ x = cc in (ap (λ z. z ∷ ys) e, ap (λ z. z ∷ []) e)
cut (y ∷ ys) (suc i) x h =
    let k = cut ys i x h in
    (k.0, ap (λ zs. y ∷ zs) k.1)

pub cut_at : {X : Type 0} (xs : List X) (i : ℕ) (x : X) → slice_get xs i ≡ Some x → (drop i xs ≡ x ∷ drop (i + 1) xs) × (take (i + 1) xs ≡ take i xs ++ x ∷ [])
cut_at xs i x h = rw add-one (cut xs i x h)

pub after_one : (d : Database) (es : Journal) (e : Event) → database_after d (es ++ e ∷ []) ≡ apply (operations e) (database_after d es)
after_one d [] e = refl
after_one d (f ∷ es) e = after_one (apply (operations f) d) es e

pub present_after : (journal : Journal) (e : Event) → present (journal ++ e ∷ []) ≡ apply (operations e) (present journal)
present_after journal e = after_one empty_database journal e

-- ---- the commits up to the place

skip : (place : ℕ) (own : List Written) (k n m : ℕ) (d : Database) (journal : Journal) → m ≡ n + k → m ≤ place + 1
    → conflict_above place own n d journal ≡ conflict_above place own m (database_after d (take k journal)) (drop k journal)
skip place own zero n m d journal e h = let f : n ≡ m = omega arith in subst (λ (x : ℕ). conflict_above place own n d journal ≡ conflict_above place own x d journal) f refl
skip place own (suc k) n m d [] e h = refl
skip place own (suc k) n m d (x ∷ journal) e h =
    rw (not_below place n (omega arith)) (skip place own k (n + 1) m (apply (operations x) d) journal (omega arith) h)

-- what is left behind the events that were passed
abbrev pub left_of : ℕ → List Written → ℕ → Journal → Option Conflict
left_of place own passed journal = conflict_above place own (passed + 1) (present (take passed journal)) (drop passed journal)

-- ---- one commit

next : (place : ℕ) (own : List Written) (passed : ℕ) (journal : Journal) (e : Event) → place ≤ passed → slice_get journal passed ≡ Some e
    → left_of place own passed journal ≡ (by_commit (passed + 1) (first_met own (all_written (operations e) (present (take passed journal)))) or_else left_of place own (passed + 1) journal)
next place own passed journal e h at =
    let parts = cut_at journal passed e at in
    let here : nat_lt place (passed + 1) ≡ true = below place (passed + 1) (omega arith) in
    let on : present (take (passed + 1) journal) ≡ apply (operations e) (present (take passed journal)) = ap present parts.1 ∙ after_one empty_database (take passed journal) e in
    let prefix_is : left_of place own passed journal ≡ conflict_above place own (passed + 1) (present (take passed journal)) (e ∷ drop (passed + 1) journal) = ap (conflict_above place own (passed + 1) (present (take passed journal))) parts.0 in
    let one : conflict_above place own (passed + 1) (present (take passed journal)) (e ∷ drop (passed + 1) journal) ≡ (by_commit (passed + 1) (first_met own (all_written (operations e) (present (take passed journal)))) or_else conflict_above place own (passed + 1 + 1) (apply (operations e) (present (take passed journal))) (drop (passed + 1) journal)) = rw here refl in
    prefix_is ∙ (one ∙ ap (λ (d : Database). by_commit (passed + 1) (first_met own (all_written (operations e) (present (take passed journal)))) or_else conflict_above place own (passed + 1 + 1) d (drop (passed + 1) journal)) (sym on))

-- ---- the walk

-- the conflict is among the events that are left, and the tables of the rows have the columns that they had at the snapshot
pub record IsLeft (place : ℕ) (origin : Database) (rows : List (Option OwnRow)) (passed : ℕ) (journal : Journal) : Type 0 where
  pub left : conflict_above place (rows_written rows) 1 [] journal ≡ left_of place (rows_written rows) passed journal
  pub kept : AreKept rows (present (take passed journal)) origin

pub begins : (place : ℕ) (origin : Database) (rows : List (Option OwnRow)) (journal : Journal) → IsOriginIn journal place (Some origin) → IsLeft place origin rows place journal
begins place origin rows journal o = record {
  left = skip place (rows_written rows) place 1 (place + 1) [] journal (omega arith) (omega arith);
  kept =
      let is : origin ≡ present (before place journal) = let s = o.is in cc in
      let same : present (take place journal) ≡ origin = o.quiet ∙ sym is in
      subst (λ (d : Database). AreKept rows d origin) (sym same) (all_kept rows origin);
}

-- an event that meets a row ends the walk
pub meets_one : (place : ℕ) (origin : Database) (rows : List (Option OwnRow)) (passed : ℕ) (journal : Journal) (e : Event) (c : Conflict) → IsLeft place origin rows passed journal → place ≤ passed → slice_get journal passed ≡ Some e
    → Some c ≡ by_commit (passed + 1) (first_met (rows_written rows) (written_on (operations e) origin)) → Some c ≡ conflict_above place (rows_written rows) 1 [] journal
meets_one place origin rows passed journal e c l h at found =
    let same = same_first rows (operations e) (present (take passed journal)) origin l.kept in
    let step = next place (rows_written rows) passed journal e h at in
    let here : by_commit (passed + 1) (first_met (rows_written rows) (all_written (operations e) (present (take passed journal)))) ≡ Some c = ap (by_commit (passed + 1)) same ∙ sym found in
    sym (l.left ∙ (step ∙ ap (λ o. o or_else left_of place (rows_written rows) (passed + 1) journal) here))

none_by : (n : ℕ) (o : Option (TableName × Option ℤ)) → by_commit n o ≡ None → o ≡ None
none_by n None h = refl
none_by n (Some m) h = absurd cc

-- one that meets none is passed
pub passes_one : (place : ℕ) (origin : Database) (rows : List (Option OwnRow)) (passed : ℕ) (journal : Journal) (e : Event) → IsLeft place origin rows passed journal → place ≤ passed → slice_get journal passed ≡ Some e
    → None ≡ by_commit (passed + 1) (first_met (rows_written rows) (written_on (operations e) origin)) → IsLeft place origin rows (passed + 1) journal
passes_one place origin rows passed journal e l h at none =
    let same = same_first rows (operations e) (present (take passed journal)) origin l.kept in
    let step = next place (rows_written rows) passed journal e h at in
    let here : by_commit (passed + 1) (first_met (rows_written rows) (all_written (operations e) (present (take passed journal)))) ≡ None = ap (by_commit (passed + 1)) same ∙ sym none in
    let parts = cut_at journal passed e at in
    let on : present (take (passed + 1) journal) ≡ apply (operations e) (present (take passed journal)) = ap present parts.1 ∙ after_one empty_database (take passed journal) e in
    record {
      left = l.left ∙ (step ∙ ap (λ o. o or_else left_of place (rows_written rows) (passed + 1) journal) here);
      kept = subst (λ (d : Database). AreKept rows d origin) (sym on) (kept_on rows (operations e) (present (take passed journal)) origin l.kept (none_by (passed + 1) _ here));
    }

drop_all : {X : Type 0} (i : ℕ) (xs : List X) → length xs ≤ i → drop i xs ≡ []
drop_all zero [] h = refl
drop_all zero (x ∷ xs) h = absurd (omega arith)
drop_all (suc i) [] h = refl
drop_all (suc i) (x ∷ xs) h = drop_all i xs (omega arith)

-- and at the end there is no conflict
pub ends : (place : ℕ) (origin : Database) (rows : List (Option OwnRow)) (passed : ℕ) (journal : Journal) → IsLeft place origin rows passed journal → length journal ≤ passed → None ≡ conflict_above place (rows_written rows) 1 [] journal
ends place origin rows passed journal l h = sym (l.left ∙ ap (conflict_above place (rows_written rows) (passed + 1) (present (take passed journal))) (drop_all passed journal h))

-- the conflict of operations is that of the rows that they write
pub by_rows : (place n : ℕ) (own rows : List Written) (d : Database) (journal : Journal) → ((theirs : List Written) → first_met own theirs ≡ first_met rows theirs) → conflict_above place own n d journal ≡ conflict_above place rows n d journal
by_rows place n own rows d [] h = refl
by_rows place n own rows d (e ∷ es) h = rw (h (all_written (operations e) d)) (ap (λ o. conflict_with place n rows (all_written (operations e) d) or_else o) (by_rows place (n + 1) own rows (apply (operations e) d) es h))
