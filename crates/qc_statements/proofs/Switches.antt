-- What SET keeps.
use Rattle.std.proofs.Common.{◌≡◌, Bool, true, false, cond, refl, sym, ap, subst, ◌∙◌, Ok, Err, Result, Option, Some, None, ℕ}
use Rattle.std.specs.Prelude.{◌==◌, ◌||◌, codes, if◌then◌else◌}
use Rattle.qc_types.specs.declared.sql_error.SqlError.{SqlError}
use Rattle.qc_sql.specs.declared.statements.Setting.{Setting}
use Rattle.qc_sql.specs.declared.statements.Setting.TheVariants as setting
use Rattle.qc_sql.specs.declared.statements.SetValue.{SetValue}
use Rattle.qc_sql.specs.Database.{Name}
use Rattle.qc_sql.specs.Rules.{same_word}
use Rattle.qc_model.specs.Journal.{Journal}
use Rattle.qc_model.specs.Session.{State, own_operations}
use Rattle.qc_sql.specs.Errors.{unknown_variable}
use Rattle.qc_laws.specs.sizes.Names.{is_short}
use Rattle.qc_model.specs.Settings.{cache_kind, character_set, quotes, select_limit, set_to, switch, with}
use Rattle.qc_trx.specs.SnapshotStates.{SnapshotState}
use Rattle.qc_statements.specs.Sound.{IsFitIn, IsFitState}

-- a state whose autocommit is set keeps the operations of its transaction
pub own_kept : (state next : State) (b : Bool) (r : Result State SqlError) → Ok next ≡ r → r ≡ Ok (record state { autocommit = b }) → own_operations next ≡ own_operations state
own_kept state next b r e h = ap own_operations (ok_is next (record state { autocommit = b }) (e ∙ h))
  where
    ok_is : (x y : State) → ◌≡◌ {A = Result State SqlError} (Ok x) (Ok y) → x ≡ y
    ok_is x y q = cc

-- ---- a value is set

-- what a session's next command needs stays: its number, its database, its transaction, and a character set that keys have
pub record Keeps (old new : State) : Type 0 where
  pub session : new.session ≡ old.session
  pub db : new.db ≡ old.db
  pub transaction : new.transaction ≡ old.transaction
  pub charset : (old.charset == 33 || old.charset == 45) ≡ true → (new.charset == 33 || new.charset == 45) ≡ true

found_keeps : {A : Type 0} (name : Name) (state next : State) (f : A → State) (o : Option A) → ((a : A) → o ≡ Some a → Keeps state (f a)) → with name f o ≡ Ok next → Keeps state next
found_keeps name state next f None k h = absurd cc
found_keeps name state next f (Some a) k h = let same : f a ≡ next = cc in subst (Keeps state) same (k a refl)

character_fits : (name : Name) (a b : Bool) (n : ℕ) → cond a (Some 33) (cond b (Some 45) None) ≡ Some n → (n == 33 || n == 45) ≡ true
character_fits name true b n h = let same : 33 ≡ n = cc in subst (λ m. (m == 33 || m == 45) ≡ true) same refl
character_fits name false true n h = let same : 45 ≡ n = cc in subst (λ m. (m == 33 || m == 45) ≡ true) same refl
character_fits name false false n h = absurd cc

variable_keeps : (state next : State) (name : Name) (v : SetValue) (a b c d : Bool)
    → (if a then with name (λ x. record state { autocommit = x }) (switch v) else
    if b then with name (λ n. record state { row_limit = n }) (select_limit v) else
    if c then with name (λ x. record state { ansi = x }) (quotes v) else
    if d then with name (λ n. record state { kind = n }) (cache_kind v) else Err (unknown_variable name)) ≡ Ok next
    → Keeps state next
variable_keeps state next name v true b c d h = found_keeps name state next (λ x. record state { autocommit = x }) (switch v) (λ x e. record { session = refl; db = refl; transaction = refl; charset = λ g. g }) h
variable_keeps state next name v false true c d h = found_keeps name state next (λ n. record state { row_limit = n }) (select_limit v) (λ x e. record { session = refl; db = refl; transaction = refl; charset = λ g. g }) h
variable_keeps state next name v false false true d h = found_keeps name state next (λ x. record state { ansi = x }) (quotes v) (λ x e. record { session = refl; db = refl; transaction = refl; charset = λ g. g }) h
variable_keeps state next name v false false false true h = found_keeps name state next (λ n. record state { kind = n }) (cache_kind v) (λ x e. record { session = refl; db = refl; transaction = refl; charset = λ g. g }) h
variable_keeps state next name v false false false false h = absurd cc

pub set_keeps : (state next : State) (x : Setting) → set_to state x ≡ Ok next → Keeps state next
set_keeps state next (setting.Names w) h =
    found_keeps (codes "NAMES") state next (λ n. record state { charset = n }) (character_set w)
    (λ n e. record { session = refl; db = refl; transaction = refl; charset = λ g. character_fits w (same_word w (codes "utf8")) (same_word w (codes "utf8mb4")) n e }) h
set_keeps state next (setting.Variable name v) h =
    variable_keeps state next name v (same_word name (codes "autocommit")) (same_word name (codes "sql_select_limit")) (same_word name (codes "sql_mode")) (same_word name (codes "query_cache_type")) h

pub set_session : (state next : State) (v : Setting) → set_to state v ≡ Ok next → next.session ≡ state.session
set_session state next v is = let k = set_keeps state next v is in k.session

-- a state in which a value was set stays fit
pub set_fit : (J : Journal) (v : Setting) (x next : SnapshotState) → IsFitState J x → set_to x.state v ≡ Ok next.state → next.origin ≡ x.origin → IsFitState J next
set_fit J v x next f is origin =
    let k = set_keeps x.state next.state v is in
    record {
      db = ap is_short k.db ∙ f.db;
      charset = k.charset f.charset;
      transaction = subst (λ t. IsFitIn J next.origin t) (sym k.transaction) (subst (λ o. IsFitIn J o x.state.transaction) (sym origin) f.transaction);
    }
