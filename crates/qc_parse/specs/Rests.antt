-- What is read behind what was read first.
use Rattle.std.specs.Prelude.{codes, ◌++◌, option_to_list, Result, Ok, Err}
use Rattle.qc_sql.specs.declared.statements.TableRef.{TableRef}
use Rattle.qc_sql.specs.declared.statements.Statement.{Statement}
use Rattle.qc_sql.specs.declared.statements.Statement.TheVariants as statement
use Rattle.qc_sql.specs.declared.statements.Expr.{Expr}
use Rattle.qc_sql.specs.declared.statements.Expr.TheVariants as expr
use Rattle.qc_sql.specs.declared.statements.Cond.{Cond}
use Rattle.qc_sql.specs.declared.statements.Cond.TheVariants as test
use Rattle.qc_sql.specs.declared.statements.Op.{Op}
use Rattle.qc_sql.specs.Reading.{Reader, pure, ◌>>=◌, word, listed, branch, passed}
use Rattle.qc_sql.specs.Grammar.{tuple, assignment, names_part, where_part, order_part, Joined, Behind, all_conds, at_literal, literal, column, list_or_range, negated}

-- what was read before, where what follows it is there too
abbrev pub followed : {A E : Type 0} → A → Result (Unit {0}) E → Result A E
followed x (Ok u) = Ok x
followed x (Err e) = Err e

-- INSERT, behind its table
abbrev pub insert_into : TableRef → Reader Statement
insert_into t = names_part >>= λ names. word (codes "VALUES") >>= λ _. listed tuple >>= λ rows. pure (statement.Insert (record { table = t; names = names; rows = rows }))

-- UPDATE, behind its table
abbrev pub update_of : TableRef → Reader Statement
update_of t = word (codes "SET") >>= λ _. listed assignment >>= λ sets. where_part >>= λ c. pure (statement.Update (record { table = t; sets = sets; cond = c }))

-- FROM, behind its sources
abbrev pub behind_sources : Joined → Reader Behind
behind_sources j = where_part >>= λ c. order_part >>= λ os. pure (record { sources = j.sources; cond = all_conds (j.conds ++ option_to_list c); order = os })

-- a value that is no call
abbrev pub literal_or_column : Reader Expr
literal_or_column = branch at_literal (literal >>= λ v. pure (expr.Literal v)) (column >>= λ c. pure (expr.Column c))

-- a comparison, behind its sign
abbrev pub compared : Reader Expr → Expr → Op → Reader Cond
compared p a o = p >>= λ b. pure (test.Compare a o b)

-- what is tested behind a value by IN or BETWEEN, with NOT in front or not
abbrev pub listed_or_ranged : Reader Expr → Expr → Reader Cond
listed_or_ranged p a = passed (codes "NOT") >>= λ n. list_or_range p a >>= λ c. pure (negated n c)
