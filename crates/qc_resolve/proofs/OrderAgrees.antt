-- The order by places is the order that `rows` has.
use Rattle.std.proofs.Common.{◌≡◌, Bool, true, false, cond, List, [], ◌∷◌, refl, ap, sym, ◌∙◌, subst, Result, Ok, Err}
use Rattle.std.specs.Ordering.{ordering_then, ordering_reverse}
use Rattle.std.specs.declared.cmp.Ordering.{Ordering}
use Rattle.qc_types.specs.declared.sql_error.SqlError.{SqlError}
use Rattle.qc_sql.specs.declared.statements.Order.{Order}
use Rattle.qc_sql.specs.Rows.{Bound, Scope, Combination, Found, find_column, order_cmp, value_cmp, each, ◌>>=◌}
use Rattle.qc_resolve.specs.declared.resolved.OrderKey.{OrderKey}
use Rattle.qc_resolve.specs.Columns.{Spot, found_at, find_spot}
use Rattle.qc_resolve.specs.Validated.{key_validated}
use Rattle.qc_resolve.specs.Meaning.{value_at, keys_cmp}
use Rattle.qc_resolve.proofs.Founds.{found_by_spot}

abbrev pub SameOrder : Result (List (Bool × Found)) SqlError → Result (List OrderKey) SqlError → Type 0
SameOrder (Ok os) (Ok ks) = (a b : Combination) → order_cmp os a b ≡ keys_cmp ks a b
SameOrder (Err e) (Err f) = e ≡ f
SameOrder (Ok os) (Err f) = ⊥
SameOrder (Err e) (Ok ks) = ⊥

module _ (scope : Scope) where
  abbrev meant_key : Order → Result (Bool × Found) SqlError
  meant_key o = find_column scope.bounds o.column >>= λ f. Ok (o.desc, f)

  abbrev by_place : Order → Spot → OrderKey
  by_place o s = record { desc = o.desc; place = s.place }

  more_case : (o : Order) (r : Result Spot SqlError) (os : Result (List (Bool × Found)) SqlError) (ks : Result (List OrderKey) SqlError) → SameOrder os ks
      → SameOrder (((r >>= λ s. Ok (found_at s)) >>= λ f. Ok (o.desc, f)) >>= λ y. os >>= λ ys. Ok (y ∷ ys)) ((r >>= λ s. Ok (by_place o s)) >>= λ k. ks >>= λ ks. Ok (k ∷ ks))
  more_case o (Ok s) (Ok os) (Ok ks) h = λ a b.
      ap (ordering_then (cond o.desc (ordering_reverse (value_cmp (value_at s.place a) (value_at s.place b))) (value_cmp (value_at s.place a) (value_at s.place b)))) (h a b)
  more_case o (Ok s) (Err e) (Err f) h = h
  more_case o (Ok s) (Ok os) (Err f) h = absurd h
  more_case o (Ok s) (Err e) (Ok ks) h = absurd h
  more_case o (Err e) os ks h = refl

  pub order_same : (orders : List Order) → SameOrder (each (λ o. find_column scope.bounds o.column >>= λ f. Ok (o.desc, f)) orders) (each (key_validated scope) orders)
  order_same [] = λ a b. refl
  order_same (o ∷ os) =
      subst (λ r. SameOrder ((r >>= λ f. Ok (o.desc, f)) >>= λ y. each meant_key os >>= λ ys. Ok (y ∷ ys)) (key_validated scope o >>= λ k. each (key_validated scope) os >>= λ ks. Ok (k ∷ ks)))
      (sym (found_by_spot scope.bounds o.column))
      (more_case o (find_spot scope.bounds o.column) (each meant_key os) (each (key_validated scope) os) (order_same os))
