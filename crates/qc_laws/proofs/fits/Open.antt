-- An open transaction fits: as it begins, as statements arrive and add to it, and as events come.
use Rattle.std.proofs.Common.{◌≡◌, ℕ, zero, suc, ◌+◌, ◌-◌, ◌≤◌, Bool, true, false, cond, List, [], ◌∷◌, ◌++◌, length, take, refl, sym, ap, ◌∙◌, subst, Option, Some, None, arith, true≢false}
use Rattle.std.specs.Prelude.{is_some, option_map, IfSome, slice_get}
use Rattle.std.specs.List.{list_all}
use Rattle.std.proofs.lemmas.Bool.{and_parts, and_from}
use Rattle.std.proofs.lemmas.List.{take_all, length-append}
use Rattle.qc_sql.specs.declared.tables.RowOp.{RowOp}
use Rattle.qc_sql.specs.Database.{Database, apply, apply_one}
use Rattle.qc_model.specs.declared.events.Event.{Event}
use Rattle.qc_model.specs.Journal.{Journal, operations, database_after, present}
use Rattle.qc_model.specs.Session.{Transaction, just_opened, at_snapshot, seen_in, opened, snapshot_taken, uses_rows, with_transaction}
use Rattle.qc_model.specs.Licence.{op_fits, ops_fit, is_within_rows}
use Rattle.qc_laws.specs.fits.Sound.{commits_fit, is_row_op}
use Rattle.qc_model.specs.Sound.{IsSoundDatabase}
use Rattle.qc_laws.specs.fits.Open.{IsPlacedAt, IsFitting, AreFitting}
use Rattle.qc_laws.specs.fits.Laws.{ViewsAreSound, ViewsAreWithin, NewOnesFit, ArrivedOnesFit, ArrivedHaveSnapshots, GrownOnesFit, FittingStays, EndingsFit, StatementsMayCommit, CommitsGrow}
use Rattle.qc_laws.proofs.fits.Stays.{sound_stays}
use Rattle.qc_laws.proofs.fits.Changes.{changes_fit, changes_stay_within}
use Rattle.qc_laws.proofs.fits.RowChanges.{changes_are_rows}
use Rattle.qc_laws.proofs.fits.Journals.{journals_are_sound}
use Rattle.qc_laws.proofs.fits.Kept.{kept_snapshots_fit}

-- ---- operations behind others

apply_append : (xs ys : List RowOp) (d : Database) → apply (xs ++ ys) d ≡ apply ys (apply xs d)
apply_append [] ys d = refl
apply_append (x ∷ xs) ys d = apply_append xs ys (apply_one x d)

fits_append : (xs ys : List RowOp) (d : Database) → ops_fit xs d ≡ true → ops_fit ys (apply xs d) ≡ true → ops_fit (xs ++ ys) d ≡ true
fits_append [] ys d h g = g
fits_append (x ∷ xs) ys d h g =
    let parts = and_parts (op_fits x d) (ops_fit xs (apply_one x d)) h in
    and_from (op_fits x d) (ops_fit (xs ++ ys) (apply_one x d)) parts.0 (fits_append xs ys (apply_one x d) parts.1 g)

all_append : {A : Type 0} (test : A → Bool) (xs ys : List A) → list_all test xs ≡ true → list_all test ys ≡ true → list_all test (xs ++ ys) ≡ true
all_append test [] ys h g = g
all_append test (x ∷ xs) ys h g =
    let parts = and_parts (test x) (list_all test xs) h in
    and_from (test x) (list_all test (xs ++ ys)) parts.0 (all_append test xs ys parts.1 g)

-- ---- what a session sees

view_is_sound : (t : Transaction) (J : Journal) → commits_fit [] J ≡ true → IsFitting t J → IsSoundDatabase (seen_in (Some t) J)
view_is_sound t J fits f = sound_stays t.operations (at_snapshot t.snapshot J) (journals_are_sound t.snapshot J fits) f.fit

pub views_are_sound : ViewsAreSound
views_are_sound None J fits f = journals_are_sound None J fits
views_are_sound (Some t) J fits f = view_is_sound t J fits f

pub views_are_within : ViewsAreWithin
views_are_within None J h f = h
views_are_within (Some t) J h f = f.within

pub new_ones_fit : NewOnesFit
new_ones_fit J h = record { rows = refl; fit = refl; within = h; placed = refl }

-- ---- a statement arrives

past_the_end : (P : Event → Type 0) (J : Journal) (n : ℕ) → length J ≤ n → IfSome (slice_get J n) P
past_the_end P [] n h = tt
past_the_end P (e ∷ es) zero h = absurd (omega (arith, h))
past_the_end P (e ∷ es) (suc n) h = past_the_end P es n (omega (arith, h))

-- a snapshot that is taken now
taken_now : (J : Journal) → at_snapshot (Some (length J + 1)) J ≡ present J
taken_now J = ap present (take_all (length J + 1 - 1) J (omega arith))

abbrev taken_by : ℕ → Transaction → Option ℕ → Transaction
taken_by place t (Some p) = t
taken_by place t None = record { snapshot = Some place; operations = t.operations }

taken_fits : (t : Transaction) (J : Journal) → IsFitting t J → IsFitting (snapshot_taken (length J + 1) t) J
taken_fits t J f = by t.snapshot refl
  where
    by : (o : Option ℕ) → t.snapshot ≡ o → IsFitting (taken_by (length J + 1) t o) J
    by (Some p) is = f
    by None is =
        let none : t.operations ≡ [] = subst (λ s. IsPlacedAt s t.operations J) is f.placed in
        let now : at_snapshot t.snapshot J ≡ at_snapshot (Some (length J + 1)) J = ap (λ s. at_snapshot s J) is ∙ sym (taken_now J) in
        record {
          rows = f.rows;
          fit = subst (λ d. ops_fit t.operations d ≡ true) now f.fit;
          within = subst (λ d. is_within_rows (apply t.operations d) ≡ true) now f.within;
          placed = (omega arith, omega arith, past_the_end (λ e. operations e ≡ []) J (length J + 1 - 1) (omega arith));
        }

abbrev opened_by : Bool → Option Transaction → Option Transaction
opened_by auto (Some t) = Some t
opened_by auto None = cond auto None (Some just_opened)

opened_fits : (J : Journal) (auto : Bool) (o : Option Transaction) → is_within_rows (present J) ≡ true → AreFitting o J → AreFitting (option_map (snapshot_taken (length J + 1)) (opened_by auto o)) J
opened_fits J auto (Some t) h f = taken_fits t J f
opened_fits J true None h f = tt
opened_fits J false None h f = taken_fits just_opened J (new_ones_fit J h)

pub arrived_ones_fit : ArrivedOnesFit
arrived_ones_fit s state J h f =
    elim (uses_rows s) as (λ b. AreFitting (cond b (with_transaction state (option_map (snapshot_taken (length J + 1)) (opened state))) state).transaction J) [
      | true ↦ opened_fits J state.autocommit state.transaction h f
      | false ↦ f
    ]

taken_has : (place : ℕ) (t u : Transaction) (o : Option ℕ) → t.snapshot ≡ o → taken_by place t o ≡ u → is_some u.snapshot ≡ true
taken_has place t u (Some p) is same = ap (λ (v : Transaction). is_some v.snapshot) (sym same) ∙ ap is_some is
taken_has place t u None is same = ap (λ (v : Transaction). is_some v.snapshot) (sym same)

mapped_has : (place : ℕ) (o : Option Transaction) (u : Transaction) → option_map (snapshot_taken place) o ≡ Some u → is_some u.snapshot ≡ true
mapped_has place None u same = absurd (true≢false (sym (ap is_some same)))
mapped_has place (Some t) u same = taken_has place t u t.snapshot refl (one (snapshot_taken place t) same)
  where
    one : (v : Transaction) → Some v ≡ Some u → v ≡ u
    one v q = cc

pub arrived_have_snapshots : ArrivedHaveSnapshots
arrived_have_snapshots s state place t uses same =
    mapped_has place (opened state) t (ap (λ b. (cond b (with_transaction state (option_map (snapshot_taken place) (opened state))) state).transaction) (sym uses) ∙ same)

-- ---- a statement adds to it

still_placed : (o : Option ℕ) (ops more : List RowOp) (J : Journal) → is_some o ≡ true → IsPlacedAt o ops J → IsPlacedAt o more J
still_placed None ops more J h p = absurd (true≢false (sym h))
still_placed (Some place) ops more J h p = p

pub grown_ones_fit : GrownOnesFit
grown_ones_fit s t J db session table x fits f taken changed same =
    let snap = at_snapshot t.snapshot J in
    let view = seen_in (Some t) J in
    let sound = view_is_sound t J fits f in
    record {
      rows = all_append is_row_op t.operations x.operations f.rows (changes_are_rows s view db session table x changed same);
      fit = fits_append t.operations x.operations snap f.fit (changes_fit s view db session x sound same);
      within = subst (λ d. is_within_rows d ≡ true) (sym (apply_append t.operations x.operations snap)) (changes_stay_within s view db session x sound f.within same);
      placed = still_placed t.snapshot t.operations (t.operations ++ x.operations) J taken f.placed;
    }

-- ---- an event comes

prefix_stays : (n : ℕ) (J K : Journal) → n ≤ length J → take n (J ++ K) ≡ take n J
prefix_stays zero J K h = refl
prefix_stays (suc n) [] K h = absurd (omega (arith, h))
prefix_stays (suc n) (e ∷ es) K h = ap (λ rest. e ∷ rest) (prefix_stays n es K (omega (arith, h)))

event_stays : (P : Event → Type 0) (J : Journal) (n : ℕ) (e : Event) → n ≤ length J → IfSome (slice_get J n) P → (n ≡ length J → P e) → IfSome (slice_get (J ++ e ∷ []) n) P
event_stays P [] zero e h p last = last refl
event_stays P [] (suc n) e h p last = absurd (omega (arith, h))
event_stays P (f ∷ fs) zero e h p last = p
event_stays P (f ∷ fs) (suc n) e h p last = event_stays P fs n e (omega (arith, h)) p (λ q. last (ap suc q))

pub fitting_stays : FittingStays
fitting_stays t J e h own f = by t.snapshot refl
  where
    K : Journal
    K = J ++ e ∷ []

    by : (o : Option ℕ) → t.snapshot ≡ o → IsFitting t K
    by None is =
        let none : t.operations ≡ [] = subst (λ s. IsPlacedAt s t.operations J) is f.placed in
        record {
          rows = f.rows;
          fit = subst (λ ops. ops_fit ops (at_snapshot t.snapshot K) ≡ true) (sym none) refl;
          within = subst (λ s. is_within_rows (apply t.operations (at_snapshot s K)) ≡ true) (sym is) (subst (λ ops. is_within_rows (apply ops (present K)) ≡ true) (sym none) h);
          placed = subst (λ s. IsPlacedAt s t.operations K) (sym is) none;
        }
    by (Some place) is =
        let p : IsPlacedAt (Some place) t.operations J = subst (λ s. IsPlacedAt s t.operations J) is f.placed in
        let low : place - 1 ≤ length J = omega (arith, p.1) in
        let prefix : at_snapshot (Some place) K ≡ at_snapshot (Some place) J = ap present (prefix_stays (place - 1) J (e ∷ []) low) in
        let same : at_snapshot t.snapshot J ≡ at_snapshot t.snapshot K = subst (λ s. at_snapshot s J ≡ at_snapshot s K) (sym is) (sym prefix) in
        let next : place ≤ length K + 1 = omega (arith, p.1, length-append J (e ∷ [])) in
        let last = λ (q : place - 1 ≡ length J). (let now : place ≡ length J + 1 = omega (arith, q, p.0) in own (is ∙ ap (λ n. Some n) now)) in
        record {
          rows = f.rows;
          fit = subst (λ d. ops_fit t.operations d ≡ true) same f.fit;
          within = subst (λ d. is_within_rows (apply t.operations d) ≡ true) same f.within;
          placed = subst (λ s. IsPlacedAt s t.operations K) (sym is) (p.0, next, event_stays (λ e. operations e ≡ []) J (place - 1) e low p.2 last);
        }

-- ---- what may be committed

pub endings_fit : EndingsFit
endings_fit t J fits f none = by t.snapshot refl
  where
    by : (o : Option ℕ) → t.snapshot ≡ o → ops_fit t.operations (present J) ≡ true
    by None is =
        let empty : t.operations ≡ [] = subst (λ s. IsPlacedAt s t.operations J) is f.placed in
        subst (λ ops. ops_fit ops (present J) ≡ true) (sym empty) refl
    by (Some place) is =
        let p : IsPlacedAt (Some place) t.operations J = subst (λ s. IsPlacedAt s t.operations J) is f.placed in
        kept_snapshots_fit t place J fits is p.2 f.rows f.fit none

pub statements_may_commit : StatementsMayCommit
statements_may_commit own s J db session x fits h room same some =
    let d = apply own (present J) in
    let sound = sound_stays own (present J) (journals_are_sound None J fits) h in
    record {
      some = some;
      fit = fits_append own x.operations (present J) h (changes_fit s d db session x sound same);
      not_full = subst (λ e. is_within_rows e ≡ true) (sym (apply_append own x.operations (present J))) (changes_stay_within s d db session x sound room same);
    }

more_fit : (d : Database) (J : Journal) (e : Event) → commits_fit d J ≡ true → ops_fit (operations e) (database_after d J) ≡ true → commits_fit d (J ++ e ∷ []) ≡ true
more_fit d [] e h g = and_from (ops_fit (operations e) d) true g refl
more_fit d (f ∷ fs) e h g =
    let parts = and_parts (ops_fit (operations f) d) (commits_fit (apply (operations f) d) fs) h in
    and_from (ops_fit (operations f) d) (commits_fit (apply (operations f) d) (fs ++ e ∷ [])) parts.0 (more_fit (apply (operations f) d) fs e parts.1 g)

pub commits_grow : CommitsGrow
commits_grow J e h g = more_fit [] J e h g
