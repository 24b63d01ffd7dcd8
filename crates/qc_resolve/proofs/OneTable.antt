-- A condition over one table keeps the rows that it is meant to keep.
use Rattle.std.proofs.Common.{◌≡◌, ℤ, Bool, List, [], ◌∷◌, map, filter, refl, sym, ap, ◌∙◌, subst, cond, Result, Ok, Err}
use Rattle.std.specs.Prelude.{Option}
use Rattle.std.specs.List.{AllByRecursion, flat_map}
use Rattle.qc_types.specs.Answers.{Gives}
use Rattle.qc_types.specs.declared.memory.Or.{Or}
use Rattle.qc_types.specs.declared.memory.Or.TheVariants as or
use Rattle.qc_types.specs.declared.names.Value.{Value}
use Rattle.qc_types.specs.declared.sql_error.SqlError.{SqlError}
use Rattle.qc_sql.specs.declared.statements.Cond.{Cond}
use Rattle.qc_sql.specs.Database.{Name}
use Rattle.qc_sql.specs.Effects.{matching, scope_of}
use Rattle.qc_sql.specs.Rows.{Bound, Combination, Scope, combinations, condition, ◌>>=◌}
use Rattle.qc_resolve.specs.declared.test.Test.{Test}
use Rattle.qc_resolve.specs.Fit.{IsSoundBound, IsFit, AreFit}
use Rattle.qc_resolve.specs.Validated.{condition_validated}
use Rattle.qc_resolve.specs.Meaning.{keeps}
use Rattle.qc_resolve.proofs.Fits.{combinations_fit}
use Rattle.qc_resolve.proofs.TestAgrees.{SameCondition, condition_same}

abbrev Entries : Type 0
Entries = List (ℤ × List Value)

entry_kept : (e : ℤ × List Value) (a b : Bool) (xs ys : Entries) → a ≡ b → xs ≡ ys → cond a (e ∷ xs) xs ≡ cond b (e ∷ ys) ys
entry_kept e a b xs ys h k = λ i. cond (h i) (e ∷ k i) (k i)

entries_same : (P : Combination → Type 0) (k l : Combination → Bool) (rows : Entries) → ((c : Combination) → P c → k c ≡ l c)
    → AllByRecursion P (flat_map (λ (e : ℤ × List Value). map (λ (c : Combination). e.1 ∷ c) ([] ∷ [])) rows)
    → filter (λ (e : ℤ × List Value). k (e.1 ∷ [])) rows ≡ filter (λ (e : ℤ × List Value). l (e.1 ∷ [])) rows
entries_same P k l [] h all = refl
entries_same P k l (e ∷ es) h all =
    entry_kept e (k (e.1 ∷ [])) (l (e.1 ∷ [])) (filter (λ e. k (e.1 ∷ [])) es) (filter (λ e. l (e.1 ∷ [])) es) (h (e.1 ∷ []) all.0) (entries_same P k l es h all.1)

-- the same rows of a sound table are kept
matching_same : (b : Bound) (k l : Combination → Bool) → IsSoundBound b → ((c : Combination) → IsFit (b ∷ []) c → k c ≡ l c) → matching b.table k ≡ matching b.table l
matching_same b k l sound h = entries_same (IsFit (b ∷ [])) k l b.table.rows h (combinations_fit (b ∷ []) (sound, tt))

kept_given : (b : Bound) (r : Result (Option Test) (Or SqlError)) (m : Result (Option Test) SqlError) (n : Result (Combination → Bool) SqlError) → IsSoundBound b
    → SameCondition (b ∷ []) n m → Gives (λ t. t) (λ e. e) r m → Gives (λ t. matching b.table (keeps t)) (λ e. e) r (n >>= λ k. Ok (matching b.table k))
kept_given b (Ok t) m (Ok k) sound same g = ap Ok (matching_same b k (keeps t) sound (subst (SameCondition (b ∷ []) (Ok k)) g same))
kept_given b (Ok t) m (Err e) sound same g = absurd (subst (SameCondition (b ∷ []) (Err e)) g same)
kept_given b (Err or.Memory) m n sound same g = tt
kept_given b (Err (or.Other e)) m (Ok k) sound same g = absurd (subst (SameCondition (b ∷ []) (Ok k)) g same)
kept_given b (Err (or.Other e)) m (Err f) sound same g = ap Err (subst (SameCondition (b ∷ []) (Err f)) g same)

-- a condition that is validated over one table
pub condition_kept : (b : Bound) (db : Name) (session : _) (c : Option Cond) (r : Result (Option Test) (Or SqlError)) → IsSoundBound b
    → Gives (λ t. t) (λ e. e) r (condition_validated (scope_of b db session) c)
    → Gives (λ t. matching b.table (keeps t)) (λ e. e) r (condition (scope_of b db session) c >>= λ k. Ok (matching b.table k))
condition_kept b db session c r sound g =
    let scope : Scope = scope_of b db session in
    kept_given b r (condition_validated scope c) (condition scope c) sound (condition_same scope c) g
