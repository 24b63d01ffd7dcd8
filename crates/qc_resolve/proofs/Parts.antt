-- The last steps of a SELECT that is validated.
use Rattle.std.proofs.Common.{◌≡◌, ℕ, Bool, true, false, List, subst, length, map, refl, ap, sym, ◌∙◌, Result, Ok, Err, arith}
use Rattle.std.proofs.lemmas.Bool.Decides.{nat_tests}
use Rattle.std.specs.Prelude.{◌&&◌, ◌==◌, not, nat_lt, codes}
use Rattle.qc_types.specs.Answers.{Gives}
use Rattle.qc_types.specs.declared.memory.Or.{Or}
use Rattle.qc_types.specs.declared.sql_error.SqlError.{SqlError}
use Rattle.qc_sql.specs.declared.session.Flags.{Flags}
use Rattle.qc_sql.specs.declared.statements.Order.{Order}
use Rattle.qc_sql.specs.declared.statements.Select.{Select}
use Rattle.qc_sql.specs.Errors.{not_supported, too_many_columns}
use Rattle.qc_sql.specs.Rows.{Scope, has_aggregate, refuse_if, ◌>>=◌}
use Rattle.qc_resolve.specs.declared.items.Shown.{Shown}
use Rattle.qc_resolve.specs.declared.resolved.OrderKey.{OrderKey}
use Rattle.qc_resolve.specs.declared.resolved.Resolved.{Resolved}
use Rattle.qc_resolve.specs.declared.select.Selection.{Selection}
use Rattle.qc_resolve.specs.Validated.{shown_validated, condition_validated, order_allowed, order_validated, selection_validated, resolved_of, parts_validated}

then_then : {A B C : Type 0} (r : Result A SqlError) (f : A → Result B SqlError) (g : B → Result C SqlError) → ((r >>= f) >>= g) ≡ (r >>= λ x. f x >>= g)
then_then (Ok x) f g = refl
then_then (Err e) f g = refl

then_same : {A B : Type 0} (r : Result A SqlError) (f g : A → Result B SqlError) → ((x : A) → f x ≡ g x) → (r >>= f) ≡ (r >>= g)
then_same (Ok x) f g h = h x
then_same (Err e) f g h = refl

-- whether an order stands beside an aggregate
abbrev is_ordered : Select → Bool
is_ordered select = has_aggregate select && nat_lt 0 (length select.order)

some_are : (n : ℕ) → not (n == 0) ≡ nat_lt 0 n
some_are n = grind (arith, nat_tests)

module _ (select : Select) (scope : Scope) (b : Bool) (tested : b ≡ (has_aggregate select && not (length select.order == 0))) where
  abbrev ordered : Bool → Result (List OrderKey) SqlError
  ordered b = refuse_if b (not_supported (codes "ordered aggregate")) >>= λ _. order_validated scope select.order

  is_so : is_ordered select ≡ b
  is_so = sym (tested ∙ ap (λ some. has_aggregate select && some) (some_are (length select.order)))

  pub order_refused : b ≡ true → order_allowed scope select ≡ Err (not_supported (codes "ordered aggregate"))
  order_refused h = ap ordered (is_so ∙ h)

  pub order_given : (r : Result (List OrderKey) (Or SqlError)) (orders : List Order) → b ≡ false → orders ≡ select.order
      → Gives (λ ks. ks) (λ e. e) r (order_validated scope orders) → Gives (λ ks. ks) (λ e. e) r (order_allowed scope select)
  order_given r orders h same g = subst (Gives (λ ks. ks) (λ e. e) r) (ap (order_validated scope) same ∙ sym (ap ordered (is_so ∙ h))) g

module _ (select : Select) (flags : Flags) (scope : Scope) where
  abbrev whole : Shown → Selection → Result Resolved SqlError
  whole s kept = Ok (resolved_of select flags (map (λ b. b.table) scope.bounds) s kept)

  selected_by_steps : (s : Shown) → (selection_validated scope select >>= whole s)
      ≡ (condition_validated scope select.cond >>= λ t. refuse_if (is_ordered select) (not_supported (codes "ordered aggregate")) >>= λ _. order_validated scope select.order >>= λ order. whole s (record { test = t; order = order }))
  selected_by_steps s =
      then_then (condition_validated scope select.cond) _ (whole s)
      ∙ then_same (condition_validated scope select.cond) _ _
      (λ t. then_then (order_allowed scope select) _ (whole s) ∙ then_then (refuse_if (is_ordered select) (not_supported (codes "ordered aggregate"))) (λ _. order_validated scope select.order) _)

  -- one step after another
  pub parts_are : parts_validated select flags scope
      ≡ (shown_validated flags scope select >>= λ s. refuse_if (nat_lt 64 (length s.columns)) too_many_columns >>= λ _. condition_validated scope select.cond >>= λ t. refuse_if (is_ordered select) (not_supported (codes "ordered aggregate")) >>= λ _. order_validated scope select.order >>= λ order. whole s (record { test = t; order = order }))
  unfolding parts_validated
  parts_are =
      then_then (shown_validated flags scope select) _ (λ s. selection_validated scope select >>= whole s)
      ∙ then_same (shown_validated flags scope select) _ _
      (λ s. then_then (refuse_if (nat_lt 64 (length s.columns)) too_many_columns) (λ _. Ok s) (λ s. selection_validated scope select >>= whole s)
      ∙ ap (λ r. refuse_if (nat_lt 64 (length s.columns)) too_many_columns >>= λ _. r) (selected_by_steps s))
