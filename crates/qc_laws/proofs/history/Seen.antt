-- A table that hasn't changed since a snapshot is the same now.
use Rattle.std.proofs.Common.{◌≡◌, ◌≤◌, ◌<◌, ◌+◌, ◌-◌, ℕ, zero, suc, Bool, true, false, cond, List, [], ◌∷◌, ◌++◌, take, drop, refl, sym, ap, subst, ◌∙◌, arith, Option, Some, None}
use Rattle.std.specs.Prelude.{not, ◌||◌, nat_lt, IfSome, slice_get}
use Rattle.std.specs.List.{list_any}
use Rattle.std.proofs.lemmas.Bool.{and_parts}
use Rattle.std.proofs.lemmas.Bool.Decides.{nat_tests}
use Rattle.qc_types.specs.declared.names.TableName.{TableName}
use Rattle.qc_sql.specs.declared.tables.RowOp.{RowOp}
use Rattle.qc_sql.specs.Database.{Database, empty_database, table_of, apply, touches}
use Rattle.qc_sql.proofs.Untouched.{keeps_untouched}
use Rattle.qc_model.specs.declared.events.Event.{Event}
use Rattle.qc_model.specs.Journal.{Journal, operations, database_after, present, before, touches_table, last_number, last_change, event_at}
use Rattle.qc_model.specs.Session.{State, Transaction, at_snapshot, seen_in, base, own_operations, snapshot_of}
use Rattle.qc_model.specs.Choice.{wrote, is_stale, changed_since}
use Rattle.qc_laws.specs.history.Seen.{is_current, IsPlace, SeesPresent}
use Rattle.qc_laws.proofs.history.Events.{database_append}
use Rattle.qc_laws.proofs.history.Serials.{opposite, neither}

-- ---- the last event that passes a test

no_less : (test : Event → Bool) (found n : ℕ) (es : Journal) → found ≤ n → found ≤ last_number test found n es
no_less test found n [] h = omega arith
no_less test found n (e ∷ es) h = elim (test e) as (λ b. found ≤ last_number test (cond b n found) (n + 1) es) [
  | true ↦ let more = no_less test n (n + 1) es (omega arith) in omega (arith, h, more)
  | false ↦ no_less test found (n + 1) es (omega (arith, h))
]

-- none passes behind it
none_behind : (test : Event → Bool) (found n p : ℕ) (es : Journal) → p < n → last_number test found n es ≤ p → list_any test es ≡ false
none_behind test found n p [] h g = refl
none_behind test found n p (e ∷ es) h g = elim (test e) as (λ b. last_number test (cond b n found) (n + 1) es ≤ p → (b || list_any test es) ≡ false) [
  | true ↦ λ k. let more = no_less test n (n + 1) es (omega arith) in absurd (omega (arith, h, k, more))
  | false ↦ λ k. none_behind test found (n + 1) p es (omega (arith, h)) k
] g

-- of an event that doesn't pass and those behind it
none_from : (test : Event → Bool) (found p : ℕ) (es : Journal) → IfSome (slice_get es 0) (λ e. test e ≡ false) → last_number test found p es ≤ p → list_any test es ≡ false
none_from test found p [] h g = refl
none_from test found p (e ∷ es) h g =
    let rest : last_number test found (p + 1) es ≤ p = subst (λ b. last_number test (cond b p found) (p + 1) es ≤ p) h g in
    ap (λ b. b || list_any test es) h ∙ none_behind test found (p + 1) p es (omega arith) rest

-- and of those from a place on
none_since : (test : Event → Bool) (found n : ℕ) (k : ℕ) (es : Journal) → IfSome (slice_get es k) (λ e. test e ≡ false) → last_number test found n es ≤ n + k → list_any test (drop k es) ≡ false
none_since test found n zero es h g = none_from test found n es h (subst (λ m. last_number test found n es ≤ m) (omega arith) g)
none_since test found n (suc k) [] h g = refl
none_since test found n (suc k) (e ∷ es) h g = none_since test (cond (test e) n found) (n + 1) k es h (subst (λ m. last_number test (cond (test e) n found) (n + 1) es ≤ m) (omega arith) g)

-- ---- a table that no event touches

table_stays : (t : TableName) (d : Database) (es : Journal) → list_any (touches_table t) es ≡ false → table_of t (database_after d es) ≡ table_of t d
table_stays t d [] h = refl
table_stays t d (e ∷ es) h =
    let parts = neither (touches_table t e) (list_any (touches_table t) es) h in
    table_stays t (apply (operations e) d) es parts.1 ∙ keeps_untouched t (operations e) d parts.0

split_at : (n : ℕ) (es : Journal) → take n es ++ drop n es ≡ es
split_at zero es = refl
split_at (suc n) [] = refl
split_at (suc n) (e ∷ es) = ap (λ xs. e ∷ xs) (split_at n es)

no_touch : (t : TableName) (o : Option Event) → IfSome o (λ e. operations e ≡ []) → IfSome o (λ e. touches_table t e ≡ false)
no_touch t None h = tt
no_touch t (Some e) h = ap (λ ops. list_any (touches t) ops) h

-- the last change is no later than the place
snapshot_table : (t : TableName) (journal : Journal) (place : ℕ) → 1 ≤ place → IfSome (event_at journal place) (λ e. operations e ≡ []) → last_change journal t ≤ place
    → table_of t (present (before place journal)) ≡ table_of t (present journal)
snapshot_table t journal place least quiet h =
    let k = place - 1 in
    let within : last_number (touches_table t) 0 1 journal ≤ 1 + k = omega (arith, least, h) in
    let none = none_since (touches_table t) 0 1 k journal (no_touch t (slice_get journal k) quiet) within in
    let whole : present journal ≡ database_after (present (take k journal)) (drop k journal) = ap present (sym (split_at k journal)) ∙ database_append empty_database (take k journal) (drop k journal) in
    sym (ap (table_of t) whole ∙ table_stays t (present (take k journal)) (drop k journal) none)

not_less : (n p : ℕ) → nat_lt p n ≡ false → n ≤ p
not_less n p h = grind (arith, nat_tests)

at_place : (t : TableName) (journal : Journal) (p : Option ℕ) → IsPlace journal p → changed_since p (last_change journal t) ≡ false → table_of t (at_snapshot p journal) ≡ table_of t (present journal)
at_place t journal None place h = refl
at_place t journal (Some n) place h = snapshot_table t journal n place.0 place.1 (not_less (last_change journal t) n h)

in_transaction : (t : TableName) (journal : Journal) (o : Option Transaction) (state : State) → state.transaction ≡ o → IsPlace journal (snapshot_of state) → is_current state journal t ≡ true
    → table_of t (base state journal) ≡ table_of t (present journal)
in_transaction t journal None state is place h = ap (λ o. table_of t (seen_in o journal)) is
in_transaction t journal (Some x) state is place h =
    let parts = and_parts (not (wrote state t)) (not (is_stale state journal t)) h in
    let unwritten : list_any (touches t) x.operations ≡ false = subst (λ (ops : List RowOp). list_any (touches t) ops ≡ false) (own_is x state is) (opposite (wrote state t) parts.0) in
    let same : snapshot_of state ≡ x.snapshot = snapshot_is x state is in
    let fresh : changed_since x.snapshot (last_change journal t) ≡ false = subst (λ o. changed_since o (last_change journal t) ≡ false) same (opposite (is_stale state journal t) parts.1) in
    ap (λ o. table_of t (seen_in o journal)) is ∙ keeps_untouched t x.operations (at_snapshot x.snapshot journal) unwritten ∙ at_place t journal x.snapshot (subst (IsPlace journal) same place) fresh
  where
    own_is : (x : Transaction) (state : State) → state.transaction ≡ Some x → own_operations state ≡ x.operations
    own_is x state is = rw is refl

    snapshot_is : (x : Transaction) (state : State) → state.transaction ≡ Some x → snapshot_of state ≡ x.snapshot
    snapshot_is x state is = rw is refl

pub sees_present : SeesPresent
sees_present state journal t place h = in_transaction t journal state.transaction state refl place h
