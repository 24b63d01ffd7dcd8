-- A value that SET gives, or its refusal.
use Rattle.std.specs.Prelude.{Option, Some, None, Result, Ok, Err}
use Rattle.qc_types.specs.declared.sql_error.SqlError.{SqlError}
use Rattle.qc_sql.specs.Database.{Name}
use Rattle.qc_sql.specs.Errors.{wrong_value}

abbrev pub found_or_wrong : {X : Type 0} → Name → Option X → Result X SqlError
found_or_wrong name None = Err (wrong_value name)
found_or_wrong name (Some x) = Ok x
