-- The rules of the grammar give no tokens back.
use Rattle.std.proofs.Common.{ℕ, zero, suc, Bool, true, false, List, [], Option, Some, None, Ok, arith}
use Rattle.std.specs.Prelude.{◌&&◌, not, codes, nat_le, nat_lt, ◌^◌, pos, neg_ℤ, is_some}
use Rattle.qc_types.specs.declared.names.Value.{Value}
use Rattle.qc_types.specs.declared.names.Value.TheVariants as value
use Rattle.qc_sql.specs.declared.statements.Expr.{Expr}
use Rattle.qc_sql.specs.declared.statements.Expr.TheVariants as expr
use Rattle.qc_sql.specs.declared.statements.Cond.{Cond}
use Rattle.qc_sql.specs.declared.statements.Cond.TheVariants as test
use Rattle.qc_sql.specs.declared.statements.ColumnName.{ColumnName}
use Rattle.qc_sql.specs.declared.statements.Order.{Order}
use Rattle.qc_sql.specs.declared.statements.Right.TheVariants as right
use Rattle.qc_sql.specs.declared.statements.Part.TheVariants as piece
use Rattle.qc_sql.specs.declared.statements.PartKind.{PartKind}
use Rattle.qc_sql.specs.declared.statements.PartKind.TheVariants as typed
use Rattle.qc_sql.specs.Rules.{same_word, in_capitals}
use Rattle.qc_sql.specs.Database.{Name}
use Rattle.qc_sql.specs.Reading.{Reader, pure, ◌>>=◌, stop, refuse, reads, word, sign, branch, passed, separated, listed, opened, bracketed, at_word, at_sign, next_is, name, number, words, any_word, at_name, at_number, at_words}
use Rattle.qc_sql.specs.Grammar.{dotted, column, ends_value, is_arithmetic, signed, bare_literal, literal, tuple, at_literal, at_call, at_aggregate, call_word, is_known_call, column_argument, counted, arguments, call_of, value_of, too_deep, call_at, value_at, null_test, in_test, between_test, list_or_range, test_behind, test_of, op_ahead, op, negated, grouped, joined_by, like_at, all_of, any_of, brackets_or_test, member_of, member_at, most_open, condition, alias, spanned, place, span_text, item, order, assignment, right_side, primary_key, part_kind, other_type, other_kind, length_part, null_part, key_part, part, key_of_table, column_part}
use Rattle.qc_parse.specs.Shorter.{Shortens, shortens_pure, shortens_stop, shortens_refuse, shortens_then, shortens_branch, shortens_if, shortens_reads, shortens_separated, shortens_in_place}

-- a reader, and then something of what it gives
map_shortens : {A B : Type 0} (p : Reader A) (f : A → B) → Shortens p → Shortens (p >>= λ x. pure (f x))
map_shortens p f h = shortens_then p (λ x. pure (f x)) h (λ x. shortens_pure (f x))

-- a reader after another that gives nothing
after : {A : Type 0} (p : Reader (Unit {0})) (q : Reader A) → Shortens p → Shortens q → Shortens (p >>= λ _. q)
after p q h g = shortens_then p (λ _. q) h (λ _. g)

-- what is given where the reader takes what it should
then_gives : {A : Type 0} (p : Reader (Unit {0})) (x : A) → Shortens p → Shortens (p >>= λ _. pure x)
then_gives p x h = after p (pure x) h (shortens_pure x)

pub shortens_word : (w : Name) → Shortens (word w)
shortens_word w = shortens_reads _

pub shortens_sign : (s : List ℕ) → Shortens (sign s)
shortens_sign s = shortens_reads _

pub shortens_name : Shortens name
shortens_name = shortens_reads _

pub shortens_passed : (w : Name) → Shortens (passed w)
shortens_passed w = shortens_branch (at_word w) (word w >>= λ _. pure true) (pure false) (after (word w) (pure true) (shortens_word w) (shortens_pure true)) (shortens_pure false)

pub shortens_listed : {A : Type 0} (p : Reader A) → Shortens p → Shortens (listed p)
shortens_listed p h = shortens_separated (at_sign (codes ",")) (sign (codes ",")) p (shortens_sign (codes ",")) h

pub shortens_opened : Shortens opened
unfolding opened
shortens_opened = after (sign (codes "(")) (branch (at_word (codes "SELECT")) (refuse (codes "subquery")) (pure (tt {0}))) (shortens_sign (codes "("))
    (shortens_branch (at_word (codes "SELECT")) (refuse (codes "subquery")) (pure (tt {0})) (shortens_refuse (Unit {0}) (codes "subquery")) (shortens_pure (tt {0})))

pub shortens_bracketed : {A : Type 0} (p : Reader A) → Shortens p → Shortens (bracketed p)
shortens_bracketed p h =
    after opened (p >>= λ x. sign (codes ")") >>= λ _. pure x) shortens_opened
    (shortens_then p (λ x. sign (codes ")") >>= λ _. pure x) h (λ x. then_gives (sign (codes ")")) x (shortens_sign (codes ")"))))

-- ---- names and values

pub shortens_dotted : Shortens dotted
unfolding dotted
shortens_dotted =
    shortens_then name (λ a. branch (at_sign (codes ".")) (sign (codes ".") >>= λ _. name >>= λ b. pure (Some a, b)) (pure (None, a))) shortens_name
    (λ a. shortens_branch (at_sign (codes ".")) (sign (codes ".") >>= λ _. name >>= λ b. pure (Some a, b)) (pure (None, a))
    (after (sign (codes ".")) (name >>= λ b. pure (Some a, b)) (shortens_sign (codes ".")) (map_shortens name (λ b. (Some a, b)) shortens_name)) (shortens_pure {A = Option Name × Name} (None, a)))

pub shortens_ends_value : Shortens ends_value
unfolding ends_value
shortens_ends_value = shortens_branch (next_is is_arithmetic) (refuse (codes "arithmetic")) (pure (tt {0})) (shortens_refuse (Unit {0}) (codes "arithmetic")) (shortens_pure (tt {0}))

pub shortens_column : Shortens column
unfolding column
shortens_column = shortens_then dotted _ shortens_dotted (λ d. then_gives {A = ColumnName} ends_value (record { source = d.0; name = d.1 }) shortens_ends_value)

pub shortens_signed : (negative : Bool) (n : ℕ) → Shortens (signed negative n)
unfolding signed
shortens_signed negative n =
    let too_large = shortens_refuse Value (codes "unsigned") in
    shortens_if negative _ _
    (shortens_if (nat_le n (2 ^ 63)) (pure (value.Int (neg_ℤ (pos n)))) (refuse (codes "unsigned")) (shortens_pure (value.Int (neg_ℤ (pos n)))) too_large)
    (shortens_if (nat_lt n (2 ^ 63)) (pure (value.Int (pos n))) (refuse (codes "unsigned")) (shortens_pure (value.Int (pos n))) too_large)

pub shortens_bare_literal : Shortens bare_literal
unfolding bare_literal
shortens_bare_literal =
    shortens_branch at_number _ _ (shortens_then number (λ n. signed false n) (shortens_reads _) (shortens_signed false))
    (shortens_branch (at_sign (codes "-")) _ _
    (after (sign (codes "-")) (number >>= λ n. signed true n) (shortens_sign (codes "-")) (shortens_then number (λ n. signed true n) (shortens_reads _) (shortens_signed true)))
    (shortens_branch at_words _ _ (map_shortens words value.Str (shortens_reads _)) (then_gives (word (codes "NULL")) value.Null (shortens_word (codes "NULL")))))

pub shortens_literal : Shortens literal
unfolding literal
shortens_literal = shortens_then bare_literal (λ v. ends_value >>= λ _. pure v) shortens_bare_literal (λ v. then_gives ends_value v shortens_ends_value)

pub shortens_tuple : Shortens tuple
unfolding tuple
shortens_tuple = shortens_bracketed (listed literal) (shortens_listed literal shortens_literal)

-- ---- calls

shortens_call_word : (aggregates : Bool) → Shortens (call_word aggregates)
unfolding call_word
shortens_call_word aggregates =
    shortens_branch (λ u. not aggregates && at_aggregate u) stop _ (shortens_stop Name)
    (shortens_then any_word _ (shortens_reads _) (λ w. shortens_if (is_known_call w) (pure w) (refuse w) (shortens_pure w) (shortens_refuse Name w)))

shortens_call_of : (p q : Reader Expr) (w : Name) → Shortens p → Shortens q → Shortens (call_of p q w)
unfolding column_argument
shortens_call_of p q w h g =
    let of_column : (f : _) → Shortens (column_argument >>= λ c. pure {A = Expr} (f c)) = λ f. map_shortens column_argument f (shortens_bracketed column shortens_column) in
    shortens_if (same_word w (codes "LENGTH")) _ _ (map_shortens (bracketed p) expr.Length (shortens_bracketed p h))
    (shortens_if (same_word w (codes "CONCAT")) _ _ (map_shortens (bracketed (listed p)) expr.Concat (shortens_bracketed (listed p) (shortens_listed p h)))
    (shortens_if (same_word w (codes "COUNT")) _ _
    (shortens_bracketed (counted q) (shortens_branch (at_sign (codes "*")) _ _ (after (sign (codes "*")) (pure expr.CountAll) (shortens_sign (codes "*")) (shortens_pure expr.CountAll)) (map_shortens q expr.Count g)))
    (shortens_if (same_word w (codes "SUM")) _ _ (of_column expr.Sum)
    (shortens_if (same_word w (codes "MIN")) _ _ (of_column expr.Min)
    (shortens_if (same_word w (codes "MAX")) _ _ (of_column expr.Max)
    (map_shortens (bracketed (arguments p)) (expr.Call w) (shortens_bracketed (arguments p)
    (shortens_branch (at_sign (codes ")")) (pure []) (listed p) (shortens_pure {A = List Expr} []) (shortens_listed p h)))))))))

shortens_value_of : (p : Reader Expr) → Shortens p → Shortens (value_of p)
shortens_value_of p h =
    shortens_branch at_literal _ _ (map_shortens literal expr.Literal shortens_literal)
    (shortens_branch at_call _ _ (shortens_then p (λ e. ends_value >>= λ _. pure e) h (λ e. then_gives ends_value e shortens_ends_value))
    (map_shortens column expr.Column shortens_column))

shortens_call : (n : ℕ) (aggregates : Bool) → Shortens (call_at n aggregates)
unfolding call_at
shortens_call zero aggregates =
    shortens_then (call_word aggregates) (λ _. too_deep) (shortens_call_word aggregates) (λ _. after (sign (codes "(")) (refuse (codes "nesting")) (shortens_sign (codes "(")) (shortens_refuse Expr (codes "nesting")))
shortens_call (suc n) aggregates =
    shortens_then (call_word aggregates) _ (shortens_call_word aggregates)
    (λ w. shortens_call_of (value_at n aggregates) (value_at n false) w (shortens_value_of (call_at n aggregates) (shortens_call n aggregates)) (shortens_value_of (call_at n false) (shortens_call n false)))

pub shortens_value : (n : ℕ) (aggregates : Bool) → Shortens (value_at n aggregates)
shortens_value n aggregates = shortens_value_of (call_at n aggregates) (shortens_call n aggregates)

-- ---- conditions

pub shortens_joined : (w : Name) (f : List Cond → Cond) (p : Reader Cond) → Shortens p → Shortens (joined_by w f p)
shortens_joined w f p h = map_shortens (separated (at_word w) (word w) p) (grouped f) (shortens_separated (at_word w) (word w) p (shortens_word w) h)

shortens_test : (p : Reader Expr) → Shortens p → Shortens (test_of p)
unfolding null_test in_test
shortens_test p h =
    shortens_then p (test_behind p) h (λ a.
    shortens_branch (λ u. is_some (op_ahead u)) _ _
    (shortens_then op _ (shortens_reads _) (λ o. map_shortens p (λ b. test.Compare a o b) h))
    (shortens_branch (at_word (codes "IS")) _ _
    (after (word (codes "IS")) _ (shortens_word (codes "IS"))
    (shortens_then (passed (codes "NOT")) _ (shortens_passed (codes "NOT")) (λ n. then_gives (word (codes "NULL")) (negated n (test.IsNull a)) (shortens_word (codes "NULL")))))
    (shortens_then (passed (codes "NOT")) _ (shortens_passed (codes "NOT")) (λ n.
    map_shortens (list_or_range p a) (negated n)
    (shortens_branch (at_word (codes "IN")) (in_test a) (between_test p a)
    (after (word (codes "IN")) _ (shortens_word (codes "IN")) (map_shortens tuple (test.In a) shortens_tuple))
    (after (word (codes "BETWEEN")) _ (shortens_word (codes "BETWEEN"))
    (shortens_then p _ h (λ low. after (word (codes "AND")) _ (shortens_word (codes "AND")) (map_shortens p (test.Between a low) h)))))))))

shortens_member_of : (member brackets : Reader Cond) (p : Reader Expr) → Shortens member → Shortens brackets → Shortens p → Shortens (member_of member brackets p)
shortens_member_of member brackets p f g h =
    shortens_branch (at_word (codes "NOT")) _ _ (after (word (codes "NOT")) _ (shortens_word (codes "NOT")) (map_shortens member test.Not f))
    (shortens_in_place like_at (brackets_or_test brackets p) (shortens_branch (at_sign (codes "(")) brackets (test_of p) g (shortens_test p h)))

pub shortens_member : (n : ℕ) → Shortens (member_at n)
unfolding member_at
shortens_member zero =
    shortens_member_of (refuse (codes "nesting")) too_deep (value_at 0 false) (shortens_refuse Cond (codes "nesting"))
    (after (sign (codes "(")) (refuse (codes "nesting")) (shortens_sign (codes "(")) (shortens_refuse Cond (codes "nesting"))) (shortens_value 0 false)
shortens_member (suc n) =
    shortens_member_of (member_at n) (bracketed (any_of (member_at n))) (value_at (suc n) false) (shortens_member n)
    (shortens_bracketed (any_of (member_at n)) (shortens_joined (codes "OR") test.Or (all_of (member_at n)) (shortens_joined (codes "AND") test.And (member_at n) (shortens_member n))))
    (shortens_value (suc n) false)

pub shortens_all_of : (n : ℕ) → Shortens (all_of (member_at n))
shortens_all_of n = shortens_joined (codes "AND") test.And (member_at n) (shortens_member n)

pub shortens_condition : Shortens condition
unfolding condition
shortens_condition = shortens_joined (codes "OR") test.Or (all_of (member_at most_open)) (shortens_all_of most_open)

-- ---- items and orders

pub shortens_alias : Shortens alias
unfolding alias
shortens_alias =
    shortens_branch (at_word (codes "AS")) _ _ (after (word (codes "AS")) _ (shortens_word (codes "AS")) (map_shortens name Some shortens_name))
    (shortens_branch at_name _ _ (map_shortens name Some shortens_name) (shortens_pure {A = Option Name} None))

spanned_shortens : (p : Reader Expr) → Shortens p → Shortens (spanned p)
spanned_shortens p h u = shortens_then p (λ e rest. Ok ((e, place u, rest.behind), rest)) h (λ e rest. omega arith) u

pub shortens_item : Shortens item
unfolding item
shortens_item u =
    shortens_then (spanned (value_at most_open true)) _ (spanned_shortens (value_at most_open true) (shortens_value most_open true))
    (λ v. map_shortens alias (λ n. record { value = v.0; name = n; from = v.1; to = v.2; words = span_text v.1 v.2 u.text }) shortens_alias) u

pub shortens_order : Shortens order
unfolding order
shortens_order =
    shortens_then column _ shortens_column (λ c. shortens_then (passed (codes "DESC")) _ (shortens_passed (codes "DESC")) (λ down.
    then_gives {A = Order} (branch (λ u. not down && at_word (codes "ASC") u) (word (codes "ASC")) (pure (tt {0}))) (record { column = c; desc = down })
    (shortens_branch _ (word (codes "ASC")) (pure (tt {0})) (shortens_word (codes "ASC")) (shortens_pure (tt {0})))))

-- ---- statements that change rows or tables

pub shortens_assignment : Shortens assignment
unfolding assignment right_side
shortens_assignment =
    shortens_then name _ shortens_name (λ n. after (sign (codes "=")) _ (shortens_sign (codes "="))
    (map_shortens right_side (λ r. record { name = n; right = r })
    (shortens_branch at_name _ _
    (shortens_then name _ shortens_name (λ m. then_gives ends_value (right.Column m) shortens_ends_value))
    (map_shortens literal right.Literal shortens_literal))))

shortens_primary_key : Shortens primary_key
unfolding primary_key
shortens_primary_key = after (word (codes "PRIMARY")) (word (codes "KEY")) (shortens_word (codes "PRIMARY")) (shortens_word (codes "KEY"))

shortens_part_kind : Shortens part_kind
unfolding part_kind other_type length_part
shortens_part_kind =
    shortens_branch (at_word (codes "BIGINT")) _ _ (then_gives (word (codes "BIGINT")) typed.BigInt (shortens_word (codes "BIGINT")))
    (shortens_branch (at_word (codes "VARCHAR")) _ _
    (after (word (codes "VARCHAR")) _ (shortens_word (codes "VARCHAR")) (map_shortens length_part typed.VarChar (shortens_bracketed number (shortens_reads _))))
    (shortens_then (reads other_kind) _ (shortens_reads _) (λ w. shortens_refuse PartKind (in_capitals w))))

shortens_null_part : Shortens null_part
unfolding null_part
shortens_null_part =
    shortens_branch (at_word (codes "NOT")) _ _
    (after (word (codes "NOT")) _ (shortens_word (codes "NOT")) (then_gives (word (codes "NULL")) true (shortens_word (codes "NULL"))))
    (shortens_then (passed (codes "NULL")) _ (shortens_passed (codes "NULL")) (λ _. shortens_pure false))

shortens_key_part : Shortens key_part
unfolding key_part
shortens_key_part = shortens_branch (at_word (codes "PRIMARY")) _ _ (then_gives primary_key true shortens_primary_key) (shortens_pure false)

pub shortens_part : Shortens part
unfolding part key_of_table column_part
shortens_part =
    shortens_branch (at_word (codes "PRIMARY")) _ _
    (after primary_key _ shortens_primary_key (map_shortens (bracketed name) piece.Primary (shortens_bracketed name shortens_name)))
    (shortens_then name _ shortens_name (λ n. shortens_then part_kind _ shortens_part_kind (λ k. shortens_then null_part _ shortens_null_part (λ required. map_shortens key_part (piece.Column n k required) shortens_key_part))))
