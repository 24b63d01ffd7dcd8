-- The texts without drawn numbers, by computation.
use Rattle.std.proofs.Common.{refl}
use Rattle.std.specs.Prelude.{codes}
use Rattle.qc_sql.specs.declared.statements.Statement.TheVariants as statement
use Rattle.qc_app.specs.workload.Texts.{Means, FixedTextsMean, creation, count_of_a, sum_of_b, greatest_of_a, first_of_b}
use Rattle.qc_app.proofs.workload.Grammar.{grammar}

pub database : Means (codes "CREATE DATABASE w") (statement.CreateDb (codes "w"))
unfolding grammar
database = refl

pub a : Means (codes "CREATE TABLE a (id BIGINT PRIMARY KEY, v BIGINT NOT NULL)") (creation (codes "a"))
unfolding grammar
a = refl

pub b : Means (codes "CREATE TABLE b (id BIGINT PRIMARY KEY, v BIGINT NOT NULL)") (creation (codes "b"))
unfolding grammar
b = refl

pub count : Means (codes "SELECT COUNT(*) FROM a") (statement.Select count_of_a)
unfolding grammar
count = refl

pub sum : Means (codes "SELECT SUM(v) FROM b") (statement.Select sum_of_b)
unfolding grammar
sum = refl

pub greatest : Means (codes "SELECT MAX(v) FROM a") (statement.Select greatest_of_a)
unfolding grammar
greatest = refl

pub first : Means (codes "SELECT * FROM b ORDER BY v LIMIT 5") (statement.Select first_of_b)
unfolding grammar
first = refl

pub fixed_texts_mean : FixedTextsMean
fixed_texts_mean = record { database = database; a = a; b = b; count = count; sum = sum; greatest = greatest; first = first }
