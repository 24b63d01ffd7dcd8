-- Recursion on formulas and tests, which computes, and its laws at each variant.
use Rattle.std.specs.Prelude.{◌≡◌, List, [], ◌∷◌, map, refl}
use Rattle.std.proofs.Common.{ap, ◌∙◌}
use mathlib.Core.Former.{Count as Arity}
use denote.Hole.Carrier as carrier
use Rattle.qc_resolve.specs.declared.formula.Formula.{Formula, Row_of-Formula, end_of-Formula, more_of-Formula}
use Rattle.qc_resolve.specs.declared.formula.Formula.TheVariants.{Column, Folded, Literal, Present, Present', Length, Length', Concat, Concat'}
use Rattle.qc_resolve.specs.declared.formula.Formula.TheOpen.{Formula-F}
use Rattle.qc_resolve.specs.declared.formula.Formula.TheBlock.{shape-the_row-Formula-0, hidden-the_row-Formula-0, hidden-the_row-Formula-1, items-the_row-Formula, items_hidden-the_row-Formula-1}
use Rattle.qc_resolve.specs.declared.test.Test.{Test, Row_of-Test, end_of-Test, more_of-Test}
use Rattle.qc_resolve.specs.declared.test.Test.TheVariants.{Any, Any', All, All', Not, Not', Compare, IsNull, In, Between}
use Rattle.qc_resolve.specs.declared.test.Test.TheOpen.{Test-F}
use Rattle.qc_resolve.specs.declared.test.Test.TheBlock.{shape-the_row-Test-1, hidden-the_row-Test-1, hidden-the_row-Test-0, items-the_row-Test, items_hidden-the_row-Test-0}

-- what a step makes of a formula, once it is known of each part
abbrev mutual
  pub fold_formula : {A : Type 0} → (Formula-F A → A) → Formula → A
  fold_formula step (Column p) = step (Formula-F.Column p)
  fold_formula step (Folded k) = step (Formula-F.Folded k)
  fold_formula step (Literal v) = step (Formula-F.Literal v)
  fold_formula step (Present' _ (more_of-Formula f end_of-Formula)) = step (Formula-F.Present (fold_formula step f))
  fold_formula step (Length' _ (more_of-Formula f end_of-Formula)) = step (Formula-F.Length (fold_formula step f))
  fold_formula step (Concat' _ fs) = step (Formula-F.Concat (fold_formulas step fs))

  pub fold_formulas : {A : Type 0} → (Formula-F A → A) → {m : _} → Row_of-Formula m → List A
  fold_formulas step end_of-Formula = []
  fold_formulas step (more_of-Formula f fs) = fold_formula step f ∷ fold_formulas step fs

-- what a step makes of a test, once it is known of each part
abbrev mutual
  pub fold_test : {A : Type 0} → (Test-F A → A) → Test → A
  fold_test step (Any' _ ts) = step (Test-F.Any (fold_tests step ts))
  fold_test step (All' _ ts) = step (Test-F.All (fold_tests step ts))
  fold_test step (Not' _ (more_of-Test t end_of-Test)) = step (Test-F.Not (fold_test step t))
  fold_test step (Compare a o b) = step (Test-F.Compare a o b)
  fold_test step (IsNull a) = step (Test-F.IsNull a)
  fold_test step (In a vs) = step (Test-F.In a vs)
  fold_test step (Between a low high) = step (Test-F.Between a low high)

  pub fold_tests : {A : Type 0} → (Test-F A → A) → {m : _} → Row_of-Test m → List A
  fold_tests step end_of-Test = []
  fold_tests step (more_of-Test t ts) = fold_test step t ∷ fold_tests step ts

formulas_are : {A : Type 0} (step : Formula-F A → A) (m : Arity) (fs : Row_of-Formula m) → fold_formulas step fs ≡ map (fold_formula step) (items-the_row-Formula m fs)
formulas_are step m end_of-Formula = refl
formulas_are step m (more_of-Formula f fs) = λ i. fold_formula step f ∷ formulas_are step _ fs i

tests_are : {A : Type 0} (step : Test-F A → A) (m : Arity) (ts : Row_of-Test m) → fold_tests step ts ≡ map (fold_test step) (items-the_row-Test m ts)
tests_are step m end_of-Test = refl
tests_are step m (more_of-Test t ts) = λ i. fold_test step t ∷ tests_are step _ ts i

pub fold_formula-Present : {A : Type 0} (step : Formula-F A → A) (f : Formula) → fold_formula step (Present f) ≡ step (Formula-F.Present (fold_formula step f))
unfolding shape-the_row-Formula-0 hidden-the_row-Formula-0 carrier.hidden
fold_formula-Present step f = refl

pub fold_formula-Length : {A : Type 0} (step : Formula-F A → A) (f : Formula) → fold_formula step (Length f) ≡ step (Formula-F.Length (fold_formula step f))
unfolding shape-the_row-Formula-0 hidden-the_row-Formula-0 carrier.hidden
fold_formula-Length step f = refl

pub fold_formula-Concat : {A : Type 0} (step : Formula-F A → A) (fs : List Formula) → fold_formula step (Concat fs) ≡ step (Formula-F.Concat (map (fold_formula step) fs))
fold_formula-Concat step fs = ap (λ ys. step (Formula-F.Concat ys)) (formulas_are step _ (hidden-the_row-Formula-1 fs) ∙ ap (map (fold_formula step)) (items_hidden-the_row-Formula-1 fs))

pub fold_test-Any : {A : Type 0} (step : Test-F A → A) (ts : List Test) → fold_test step (Any ts) ≡ step (Test-F.Any (map (fold_test step) ts))
fold_test-Any step ts = ap (λ ys. step (Test-F.Any ys)) (tests_are step _ (hidden-the_row-Test-0 ts) ∙ ap (map (fold_test step)) (items_hidden-the_row-Test-0 ts))

pub fold_test-All : {A : Type 0} (step : Test-F A → A) (ts : List Test) → fold_test step (All ts) ≡ step (Test-F.All (map (fold_test step) ts))
fold_test-All step ts = ap (λ ys. step (Test-F.All ys)) (tests_are step _ (hidden-the_row-Test-0 ts) ∙ ap (map (fold_test step)) (items_hidden-the_row-Test-0 ts))

pub fold_test-Not : {A : Type 0} (step : Test-F A → A) (t : Test) → fold_test step (Not t) ≡ step (Test-F.Not (fold_test step t))
unfolding shape-the_row-Test-1 hidden-the_row-Test-1 carrier.hidden
fold_test-Not step t = refl

-- for the functions that go down a formula or a test
pub ruleset formula_laws = (fold_formula-Present, fold_formula-Length, fold_formula-Concat)

pub ruleset test_laws = (fold_test-Any, fold_test-All, fold_test-Not)
