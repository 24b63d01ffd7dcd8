-- SET autocommit, by the value that it has.
use Rattle.std.proofs.Common.{◌≡◌, Bool, true, false, cond, refl, sym, ap, ◌∙◌, subst, Option, None, Some, Result, Ok, Err, true≢false}
use Rattle.std.specs.Prelude.{◌&&◌, not, unwrap_or}
use Rattle.qc_types.specs.declared.sql_error.SqlError.{SqlError}
use Rattle.qc_sql.specs.declared.statements.Setting.{Setting}
use Rattle.qc_sql.specs.declared.statements.Setting.TheVariants as setting
use Rattle.qc_sql.specs.Database.{Name}
use Rattle.qc_model.specs.declared.events.Who.{Who}
use Rattle.qc_model.specs.Journal.{Journal}
use Rattle.qc_model.specs.Machine.{ended_with, ok_reply, other, set_autocommit}
use Rattle.qc_model.specs.Session.{State, with_transaction}
use Rattle.qc_model.specs.Settings.{is_autocommit, set_to, with}
use Rattle.qc_statements.specs.Statements.{switched}

name_of : Setting → Name
name_of (setting.Names w) = w
name_of (setting.Variable name v) = name

set_by : (state : State) (x : Setting) → is_autocommit x ≡ true → (name : Name) × (set_to state x ≡ with name (λ (b : Bool). record state { autocommit = b }) (switched x))
set_by state (setting.Names w) h = absurd (true≢false (sym h))
set_by state (setting.Variable name v) h = (name, rw h refl)

on_is : (o : Option Bool) → unwrap_or o false ≡ true → o ≡ Some true
on_is None h = absurd (true≢false (sym h))
on_is (Some b) h = ap (λ (x : Bool). Some x) h

-- a value that switches it on
pub on_sets : (x : Setting) → is_autocommit x ≡ true → unwrap_or (switched x) false ≡ true → (state : State) → set_to state x ≡ Ok (record state { autocommit = true })
on_sets x h on state = let by = set_by state x h in by.1 ∙ ap (with by.0 (λ (b : Bool). record state { autocommit = b })) (on_is (switched x) on)

found_is : (name : Name) (state next : State) (o : Option Bool) → with name (λ (b : Bool). record state { autocommit = b }) o ≡ Ok next → next.autocommit ≡ unwrap_or o false
found_is name state next None h = absurd cc
found_is name state next (Some b) h = let same : record state { autocommit = b } ≡ next = cc in ap (λ (s : State). s.autocommit) (sym same)

pub set_is : (x : Setting) (state next : State) → is_autocommit x ≡ true → set_to state x ≡ Ok next → next.autocommit ≡ unwrap_or (switched x) false
set_is x state next h is = let by = set_by state x h in found_is by.0 state next (switched x) (sym by.1 ∙ is)

-- it doesn't go from off to on
pub set_plain : (who : Who) (J : Journal) (x : Setting) (state next : State) → is_autocommit x ≡ true → (not state.autocommit && unwrap_or (switched x) false) ≡ false → set_to state x ≡ Ok next
    → other who next (ok_reply next 0) ≡ set_autocommit who state J (set_to state x)
set_plain who J x state next h off is =
    let stays : (not state.autocommit && next.autocommit) ≡ false = ap (λ (b : Bool). not state.autocommit && b) (set_is x state next h is) ∙ off in
    subst (λ (r : Result State SqlError). other who next (ok_reply next 0) ≡ set_autocommit who state J r) (sym is)
    (subst (λ (b : Bool). other who next (ok_reply next 0) ≡ cond b (ended_with who state J (with_transaction next None)) (other who next (ok_reply next 0))) (sym stays) refl)

-- it does
pub set_on : (who : Who) (J : Journal) (x : Setting) (state : State) → set_to state x ≡ Ok (record state { autocommit = true }) → state.autocommit ≡ false
    → ended_with who state J (with_transaction (record state { autocommit = true }) None) ≡ set_autocommit who state J (set_to state x)
set_on who J x state is off =
    let next : State = record state { autocommit = true } in
    subst (λ (r : Result State SqlError). ended_with who state J (with_transaction next None) ≡ set_autocommit who state J r) (sym is)
    (subst (λ (b : Bool). ended_with who state J (with_transaction next None) ≡ cond (not b && true) (ended_with who state J (with_transaction next None)) (other who next (ok_reply next 0))) (sym off) refl)

-- and it is refused
pub set_refused : (who : Who) (J : Journal) (x : Setting) (state : State) (e : SqlError) → set_to state x ≡ Err e → set_autocommit who state J (Err e) ≡ set_autocommit who state J (set_to state x)
set_refused who J x state e is = ap (set_autocommit who state J) (sym is)

-- ---- the test whether it goes from off to on

pub off_right : (a b : Bool) → b ≡ false → (a && b) ≡ false
off_right true b h = h
off_right false b h = refl

pub off_left : (a b : Bool) → a ≡ false → (a && b) ≡ false
off_left true b h = absurd (true≢false h)
off_left false b h = refl
