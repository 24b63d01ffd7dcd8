-- Names of tables as tests, and what a test says of a list.
use Rattle.std.proofs.Common.{◌≡◌, ℕ, Bool, true, false, List, refl, sym, ap, ◌∙◌}
use Rattle.std.specs.Prelude.{◌||◌, bytes_eq}
use Rattle.std.proofs.lemmas.Bool.{and_parts, and_from}
use Rattle.std.proofs.lemmas.Slice.Eq.{bytes_eq-Decides}
use Rattle.qc_types.specs.declared.names.TableName.{TableName}
use Rattle.qc_sql.specs.Database.{same_table}

abbrev named : List ℕ → List ℕ → TableName
named db name = record { db = db; name = name }

-- one test says that two names are the same
pub same_is : (t u : TableName) → same_table t u ≡ true → t ≡ u
same_is t u h =
    let both = and_parts (bytes_eq t.db u.db) (bytes_eq t.name u.name) h in
    ap (λ db. named db t.name) ((bytes_eq-Decides t.db u.db).0 both.0) ∙ ap (λ name. named u.db name) ((bytes_eq-Decides t.name u.name).0 both.1)

pub same_itself : (t : TableName) → same_table t t ≡ true
same_itself t =
    and_from (bytes_eq t.db t.db) (bytes_eq t.name t.name) ((bytes_eq-Decides t.db t.db).1 refl) ((bytes_eq-Decides t.name t.name).1 refl)

-- ---- tests

pub same_answer : (a b : Bool) → (a ≡ true → b ≡ true) → (b ≡ true → a ≡ true) → a ≡ b
same_answer true true f g = refl
same_answer true false f g = sym (f refl)
same_answer false true f g = g refl
same_answer false false f g = refl

pub or_swap : (a b c : Bool) → (a || (b || c)) ≡ (b || (a || c))
or_swap true true c = refl
or_swap true false c = refl
or_swap false true c = refl
or_swap false false c = refl
