-- The state at the place is the one that arrives there.
use Rattle.std.proofs.Common.{◌≡◌, ℕ, ◌≤◌, Bool, true, false, List, refl, ap, ◌∙◌, arith}
use Rattle.std.specs.Prelude.{Option, Some, None, IfSome, nat_lt, option_map, length, if◌then◌else◌}
use Rattle.std.proofs.lemmas.Bool.Decides.{nat_tests}
use Rattle.qc_sql.specs.declared.tables.RowOp.{RowOp}
use Rattle.qc_sql.specs.declared.statements.Select.{Select}
use Rattle.qc_sql.specs.declared.statements.Statement.TheVariants as statement
use Rattle.qc_model.specs.Journal.{Journal}
use Rattle.qc_model.specs.Session.{State, Transaction, arrived, just_opened, opened, snapshot_of, snapshot_taken, uses_rows, with_transaction}
use Rattle.qc_select.specs.Settled.{settled, state_at}

within : (end n : ℕ) → n ≤ end → nat_lt end n ≡ false
within end n h = grind (arith, nat_tests)

alike : (J : Journal) (place : ℕ) (ops : List RowOp) (p : Option ℕ) → IfSome p (λ n. n ≤ length J) → settled (length J) place (record { snapshot = p; operations = ops }) ≡ snapshot_taken place (record { snapshot = p; operations = ops })
alike J place ops None h = refl
alike J place ops (Some n) h = ap (λ b. record { snapshot = Some (if b then place else n); operations = ops }) (within (length J) n h)

taken_alike : (J : Journal) (place : ℕ) (x : Transaction) → IfSome x.snapshot (λ n. n ≤ length J) → settled (length J) place x ≡ snapshot_taken place x
taken_alike J place x h = alike J place x.operations x.snapshot h

by_transaction : (J : Journal) (place : ℕ) (autocommit : Bool) (s : State) (o : Option Transaction) → IfSome (snapshot_of (with_transaction s o)) (λ n. n ≤ length J)
    → option_map (settled (length J) place) (opened (record s { autocommit = autocommit; transaction = o })) ≡ option_map (snapshot_taken place) (opened (record s { autocommit = autocommit; transaction = o }))
by_transaction J place autocommit s (Some x) h = ap Some (taken_alike J place x h)
by_transaction J place true s None h = refl
by_transaction J place false s None h = ap Some (taken_alike J place just_opened tt)

-- A session that opens a transaction for a select that names a table, and none for another, gets the state that the machine gives it at the place.
pub arrives : (J : Journal) (place : ℕ) (select : Select) (s : State) → IfSome (snapshot_of s) (λ n. n ≤ length J)
    → state_at J place select (if uses_rows (statement.Select select) then with_transaction s (opened s) else s) ≡ arrived place (statement.Select select) s
arrives J place select s h = elim (uses_rows (statement.Select select)) as (λ b. uses_rows (statement.Select select) ≡ b → state_at J place select (if b then with_transaction s (opened s) else s) ≡ (if b then with_transaction s (option_map (snapshot_taken place) (opened s)) else s)) [
  | true ↦ λ e.
      ap (λ b. if b then with_transaction s (option_map (settled (length J) place) (opened s)) else with_transaction s (opened s)) e
      ∙ ap (with_transaction s) (by_transaction J place s.autocommit s s.transaction h)
  | false ↦ λ e. ap (λ b. if b then with_transaction s (option_map (settled (length J) place) s.transaction) else s) e
] refl
