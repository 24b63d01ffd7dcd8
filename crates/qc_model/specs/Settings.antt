-- What SET makes of a session.
use Rattle.std.specs.Prelude.{ℕ, Bool, true, false, ◌||◌, length, Option, Some, None, Result, Ok, Err, ◌==◌, codes, if◌then◌else◌}
use Rattle.qc_types.specs.declared.sql_error.SqlError.{SqlError}
use Rattle.qc_sql.specs.declared.statements.Setting.{Setting}
use Rattle.qc_sql.specs.declared.statements.Setting.TheVariants as setting
use Rattle.qc_sql.specs.declared.statements.SetValue.{SetValue}
use Rattle.qc_sql.specs.declared.statements.SetValue.TheVariants as to
use Rattle.qc_sql.specs.Database.{Name}
use Rattle.qc_sql.specs.Rules.{same_word}
use Rattle.qc_model.specs.Session.{State}
use Rattle.qc_sql.specs.Errors.{unknown_variable, wrong_value}

abbrev pub switch : SetValue → Option Bool
switch (to.Number n) = if n == 0 then Some false else (if n == 1 then Some true else None)
switch (to.Word w) = if same_word w (codes "OFF") then Some false else (if same_word w (codes "ON") then Some true else None)
switch (to.Str t) = None
switch to.Default = None

abbrev pub cache_kind : SetValue → Option ℕ
cache_kind (to.Number n) = if n == 0 || n == 1 || n == 2 then Some n else None
cache_kind (to.Word w) = if same_word w (codes "OFF") then Some 0 else (if same_word w (codes "ON") then Some 1 else (if same_word w (codes "DEMAND") then Some 2 else None))
cache_kind (to.Str t) = None
cache_kind to.Default = None

abbrev pub quotes : SetValue → Option Bool
quotes (to.Str t) = if length t == 0 then Some false else (if same_word t (codes "ANSI_QUOTES") then Some true else None)
quotes _ = None

abbrev pub select_limit : SetValue → Option ℕ
select_limit (to.Number n) = Some n
select_limit to.Default = Some 18446744073709551615
select_limit _ = None

abbrev pub character_set : Name → Option ℕ
character_set name = if same_word name (codes "utf8") then Some 33 else (if same_word name (codes "utf8mb4") then Some 45 else None)

-- the state with a value that was found, or 1231
abbrev pub with : {A : Type 0} → Name → (A → State) → Option A → Result State SqlError
with name f None = Err (wrong_value name)
with name f (Some a) = Ok (f a)

abbrev pub is_autocommit : Setting → Bool
is_autocommit (setting.Names w) = false
is_autocommit (setting.Variable name v) = same_word name (codes "autocommit")

abbrev pub set_to : State → Setting → Result State SqlError
set_to s (setting.Names w) = with (codes "NAMES") (λ n. record s { charset = n }) (character_set w)
set_to s (setting.Variable name v) =
    if same_word name (codes "autocommit") then with name (λ b. record s { autocommit = b }) (switch v) else
    if same_word name (codes "sql_select_limit") then with name (λ n. record s { row_limit = n }) (select_limit v) else
    if same_word name (codes "sql_mode") then with name (λ b. record s { ansi = b }) (quotes v) else
    if same_word name (codes "query_cache_type") then with name (λ n. record s { kind = n }) (cache_kind v) else
    Err (unknown_variable name)
