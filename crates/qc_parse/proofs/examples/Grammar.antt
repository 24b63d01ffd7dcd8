-- Tokens that spell a tree by the productions, and texts whose tokens are the same.
use Rattle.std.proofs.Common.{◌≡◌, [], ◌∷◌, refl, false, Err, arith, true}
use Rattle.std.specs.Prelude.{codes, Some, None, pos, neg_ℤ}
use Rattle.qc_types.specs.declared.names.Value.TheVariants as value
use Rattle.qc_sql.specs.declared.statements.Statement.TheVariants as statement
use Rattle.qc_sql.specs.declared.statements.Expr.{Expr}
use Rattle.qc_sql.specs.declared.statements.Expr.TheVariants as expr
use Rattle.qc_sql.specs.declared.statements.Cond.{Cond}
use Rattle.qc_sql.specs.Database.{Name}
use Rattle.qc_sql.specs.declared.statements.Cond.TheVariants as condition
use Rattle.qc_sql.specs.declared.statements.Op.TheVariants as operator
use Rattle.qc_sql.specs.declared.statements.Head.TheVariants as head
use Rattle.qc_sql.specs.Tokens.{Word, Quoted, Words, Digits, Sign, lexed, BadByte, OpenQuote}
use Rattle.qc_sql.specs.Reading.{is_reserved, Syntax, Unsupported}
use Rattle.qc_parse.specs.Productions.{Named, IsLiteral, IsStatement, IsLimit, Separated, Bracketed, Dotted, IsTable, Passed, AreNames, IsSetting, IsSetValue, IsPart, IsKind, IsNull, IsKey, Keyword, Mark, IsSource, CallAt, ValueAt, IsTest, AnyOf, MemberAt, AreOrders}
use Rattle.qc_parse.specs.Productions.{keyword, mark, word, quoted, there, absent, one, more, brackets, bare, dotted, table, use_database, drop_table, truncate, insert, commit, create_table, show_status, skip_and_limit, limit_and_offset}
use Rattle.qc_parse.specs.Productions as production
use Rattle.qc_parse.specs.Laws.{kind, SameTokens, end_place, place_of, SameMeaning, Lexes, nothing, skip, token}

-- ---- statements

-- use `w`, in small letters and with a name in quotes
use_is_spelled : IsStatement (statement.UseDb (codes "w")) (Word (codes "use") ∷ Quoted (codes "w") ∷ [])
use_is_spelled = use_database (keyword refl) quoted

-- DROP TABLE d.t
drop_is_spelled : IsStatement (statement.DropTable (record { db = Some (codes "d"); name = codes "t" })) (Word (codes "DROP") ∷ Word (codes "TABLE") ∷ Word (codes "d") ∷ Sign (codes ".") ∷ Word (codes "t") ∷ [])
unfolding is_reserved
drop_is_spelled = drop_table (keyword refl) (keyword refl) (table (dotted (word refl) mark (word refl)))

-- TRUNCATE t, and TRUNCATE TABLE t
truncate_is_spelled : IsStatement (statement.Truncate (record { db = None; name = codes "t" })) (Word (codes "TRUNCATE") ∷ Word (codes "t") ∷ [])
unfolding is_reserved
truncate_is_spelled = truncate (keyword refl) absent (table (bare (word refl)))

truncate_table_is_spelled : IsStatement (statement.Truncate (record { db = None; name = codes "t" })) (Word (codes "TRUNCATE") ∷ Word (codes "TABLE") ∷ Word (codes "t") ∷ [])
unfolding is_reserved
truncate_table_is_spelled = truncate (keyword refl) (there (keyword refl)) (table (bare (word refl)))

-- INSERT INTO t VALUES (-5, NULL)
insert_is_spelled : IsStatement (statement.Insert (record { table = record { db = None; name = codes "t" }; names = None; rows = (value.Int (neg_ℤ (pos 5)) ∷ value.Null ∷ []) ∷ [] }))
    (Word (codes "INSERT") ∷ Word (codes "INTO") ∷ Word (codes "t") ∷ Word (codes "VALUES") ∷ Sign (codes "(") ∷ Sign (codes "-") ∷ Digits 5 ∷ Sign (codes ",") ∷ Word (codes "null") ∷ Sign (codes ")") ∷ [])
unfolding is_reserved
insert_is_spelled = insert (keyword refl) (keyword refl) (table (bare (word refl))) production.AreNames.none (keyword refl) (one (brackets mark (more (production.IsLiteral.negative (omega arith) mark) mark (one (production.IsLiteral.null (keyword refl)))) mark))

commit_is_spelled : IsStatement statement.Commit (Word (codes "Commit") ∷ [])
commit_is_spelled = commit (keyword refl)

-- SHOW GLOBAL STATUS LIKE 'Qcache%'
show_is_spelled : IsStatement statement.ShowStatus (Word (codes "SHOW") ∷ Word (codes "GLOBAL") ∷ Word (codes "STATUS") ∷ Word (codes "LIKE") ∷ Words (codes "Qcache%") ∷ [])
show_is_spelled = show_status (keyword refl) (there (keyword refl)) (keyword refl) (keyword refl)

-- ---- parts

-- LIMIT 2, 3 skips two rows, and so does LIMIT 3 OFFSET 2
limit_is_spelled : IsLimit (Some (record { offset = 2; count = 3 })) (Word (codes "LIMIT") ∷ Digits 2 ∷ Sign (codes ",") ∷ Digits 3 ∷ [])
limit_is_spelled = skip_and_limit (keyword refl) mark

offset_is_spelled : IsLimit (Some (record { offset = 2; count = 3 })) (Word (codes "LIMIT") ∷ Digits 3 ∷ Word (codes "OFFSET") ∷ Digits 2 ∷ [])
offset_is_spelled = limit_and_offset (keyword refl) (keyword refl)

-- a reserved word is a name in quotes alone
reserved_in_quotes : Named (codes "TABLE") (Quoted (codes "TABLE"))
reserved_in_quotes = quoted

reserved_bare : Named (codes "TABLE") (Word (codes "TABLE")) → ⊥
unfolding is_reserved
reserved_bare (word h) = absurd (cc h)

-- the least number of 64 bits has a sign
least_is_spelled : IsLiteral (value.Int (neg_ℤ (pos 9223372036854775808))) (Sign (codes "-") ∷ Digits 9223372036854775808 ∷ [])
least_is_spelled = production.IsLiteral.negative (omega arith) mark

largest_is_spelled : IsLiteral (value.Int (pos 9223372036854775807)) (Digits 9223372036854775807 ∷ [])
largest_is_spelled = production.IsLiteral.number (omega arith)

-- d.t AS x
source_is_spelled : IsSource (record { table = record { db = Some (codes "d"); name = codes "t" }; name = codes "x" }) (Word (codes "d") ∷ Sign (codes ".") ∷ Word (codes "t") ∷ Word (codes "as") ∷ Word (codes "x") ∷ [])
unfolding is_reserved
source_is_spelled = production.IsSource.source (table (dotted (word refl) mark (word refl))) (production.IsAlias.behind_as (keyword refl) (word refl))

-- without an alias a source goes by the table's own name
bare_source_is_spelled : IsSource (record { table = record { db = Some (codes "d"); name = codes "t" }; name = codes "t" }) (Word (codes "d") ∷ Sign (codes ".") ∷ Word (codes "t") ∷ [])
unfolding is_reserved
bare_source_is_spelled = production.IsSource.source (table (dotted (word refl) mark (word refl))) production.IsAlias.none

-- COUNT(*), which is one open call
count_is_spelled : CallAt 1 true expr.CountAll (Word (codes "COUNT") ∷ Sign (codes "(") ∷ Sign (codes "*") ∷ Sign (codes ")") ∷ [])
count_is_spelled = production.IsCall.count_all (keyword refl) mark mark mark

-- where none may be open none is
just_opened : CallAt 0 true expr.CountAll (Word (codes "COUNT") ∷ Sign (codes "(") ∷ Sign (codes "*") ∷ Sign (codes ")") ∷ []) → ⊥
just_opened h = h

-- v = 1
test_is_spelled : IsTest (ValueAt 0 false) (condition.Compare (expr.Column (record { source = None; name = codes "v" })) operator.Eq (expr.Literal (value.Int (pos 1)))) (Word (codes "v") ∷ Sign (codes "=") ∷ Digits 1 ∷ [])
unfolding is_reserved
test_is_spelled = production.IsTest.compares (production.ValueOf.column (production.IsColumn.column (bare (word refl)))) production.Compares.equal (production.ValueOf.literal (production.IsLiteral.number (omega arith)))

-- v NOT IN ('a'), which denies the plain test
denied_is_spelled : IsTest (ValueAt 0 false) (condition.Not (condition.In (expr.Column (record { source = None; name = codes "v" })) (value.Str (codes "a") ∷ [])))
    (Word (codes "v") ∷ Word (codes "NOT") ∷ Word (codes "IN") ∷ Sign (codes "(") ∷ Words (codes "a") ∷ Sign (codes ")") ∷ [])
unfolding is_reserved
denied_is_spelled = production.IsTest.is_in (production.ValueOf.column (production.IsColumn.column (bare (word refl)))) (there (keyword refl)) (keyword refl) (brackets mark (one production.IsLiteral.text) mark)

-- SELECT * FROM t
select_is_spelled : IsStatement (statement.Select (record { cache = head.Bare; star = true; items = []; from = record { table = record { db = None; name = codes "t" }; name = codes "t" } ∷ []; cond = None; order = []; limit = None; lock = false }))
    (Word (codes "SELECT") ∷ Sign (codes "*") ∷ Word (codes "FROM") ∷ Word (codes "t") ∷ [])
unfolding is_reserved
select_is_spelled = production.IsStatement.select (keyword refl) production.IsCacheWord.none (production.IsItems.star mark)
    (production.IsFrom.from (keyword refl) (production.IsSource.source (table (bare (word refl))) production.IsAlias.none) production.AreFurther.none (omega arith) production.IsWhere.none production.AreOrders.none)
    production.IsLimit.none production.IsLock.none

-- a column's name, and a number
abbrev name : Name → Expr
name n = expr.Column (record { source = None; name = n })

abbrev is_one : Name → Cond
is_one n = condition.Compare (name n) operator.Eq (expr.Literal (value.Int (pos 1)))

-- n = 1, where nothing may be open
one_is_spelled : {n : Name} → is_reserved n ≡ false → MemberAt 0 (is_one n) (Word n ∷ Sign (codes "=") ∷ Digits 1 ∷ [])
one_is_spelled h = production.MemberOf.tested (production.IsTest.compares (production.ValueOf.column (production.IsColumn.column (bare (word h)))) production.Compares.equal (production.ValueOf.literal (production.IsLiteral.number (omega arith))))

-- a = 1 OR b = 1 AND c = 1, where AND binds first
and_binds_first : AnyOf (MemberAt 0) (condition.Or (is_one (codes "a") ∷ condition.And (is_one (codes "b") ∷ is_one (codes "c") ∷ []) ∷ []))
    (Word (codes "a") ∷ Sign (codes "=") ∷ Digits 1 ∷ Word (codes "or") ∷ Word (codes "b") ∷ Sign (codes "=") ∷ Digits 1 ∷ Word (codes "AND") ∷ Word (codes "c") ∷ Sign (codes "=") ∷ Digits 1 ∷ [])
unfolding is_reserved
and_binds_first = production.Joined.more (more (production.Joined.one (one_is_spelled refl)) (keyword refl)
    (one (production.Joined.more (more (one_is_spelled refl) (keyword refl) (one (one_is_spelled refl))))))

-- NOT (a = 1), with one NOT and one bracket open
not_of_brackets : AnyOf (MemberAt 2) (condition.Not (is_one (codes "a"))) (Word (codes "NOT") ∷ Sign (codes "(") ∷ Word (codes "a") ∷ Sign (codes "=") ∷ Digits 1 ∷ Sign (codes ")") ∷ [])
unfolding is_reserved
not_of_brackets = production.Joined.one (production.Joined.one (production.MemberOf.negated (keyword refl) (production.MemberOf.brackets (brackets mark (production.Joined.one (production.Joined.one (one_is_spelled refl))) mark))))

-- ORDER BY a DESC, b
order_is_spelled : AreOrders (record { column = record { source = None; name = codes "a" }; desc = true } ∷ record { column = record { source = None; name = codes "b" }; desc = false } ∷ [])
    (Word (codes "ORDER") ∷ Word (codes "BY") ∷ Word (codes "a") ∷ Word (codes "DESC") ∷ Sign (codes ",") ∷ Word (codes "b") ∷ [])
unfolding is_reserved
order_is_spelled = production.AreOrders.order_by (keyword refl) (keyword refl)
    (more (production.IsOrder.order (production.IsColumn.column (bare (word refl))) (production.IsDirection.down (keyword refl))) mark (one (production.IsOrder.order (production.IsColumn.column (bare (word refl))) production.IsDirection.none)))

-- SELECT v w FROM t, u LIMIT 0: an alias without AS, and two sources
two_sources_are_spelled : IsStatement (statement.Select (record {
  cache = head.Bare;
  star = false;
  items = record { value = name (codes "v"); name = Some (codes "w"); from = 7; to = 8; words = codes "v" } ∷ [];
  from = record { table = record { db = None; name = codes "t" }; name = codes "t" } ∷ record { table = record { db = None; name = codes "u" }; name = codes "u" } ∷ [];
  cond = None;
  order = [];
  limit = Some (record { offset = 0; count = 0 });
  lock = false;
}))
    (Word (codes "SELECT") ∷ Word (codes "v") ∷ Word (codes "w") ∷ Word (codes "FROM") ∷ Word (codes "t") ∷ Sign (codes ",") ∷ Word (codes "u") ∷ Word (codes "LIMIT") ∷ Digits 0 ∷ [])
unfolding is_reserved
two_sources_are_spelled = production.IsStatement.select (keyword refl) production.IsCacheWord.none
    (production.IsItems.items (one (production.IsItem.item (production.ValueOf.column (production.IsColumn.column (bare (word refl)))) (production.IsAlias.alone (word refl)))))
    (production.IsFrom.from (keyword refl) (production.IsSource.source (table (bare (word refl))) production.IsAlias.none)
    (production.AreFurther.more (production.IsFurther.comma mark (production.IsSource.source (table (bare (word refl))) production.IsAlias.none)) production.AreFurther.none)
    (omega arith) production.IsWhere.none production.AreOrders.none)
    (production.IsLimit.limit (keyword refl)) production.IsLock.none

-- ---- texts with the same tokens

comment_between : SameTokens false (codes "COMMIT x") (codes "COMMIT/**/x ")
unfolding lexed
comment_between = (refl, refl)

-- with another word it is another text, and so it is in small letters
other_case : SameTokens false (codes "COMMIT") (codes "commit") → ⊥
unfolding lexed
other_case h = absurd (cc h.0)

-- both end with a byte that begins no token
fault_in_both : SameTokens false (codes "a ?") (codes "a?")
unfolding lexed
fault_in_both = (refl, refl)

same_kind : kind (OpenQuote 12) ≡ OpenQuote 0
same_kind = refl

end_of_text : end_place 9 None ≡ 9
end_of_text = refl

end_at_fault : end_place 9 (Some (BadByte 4)) ≡ 4
end_at_fault = refl

second_place : place_of false (codes "a  b") 1 ≡ 3
unfolding lexed
second_place = refl

-- behind the last token the text ends
third_place : place_of false (codes "a  b ") 2 ≡ 5
unfolding lexed
third_place = refl

place_of_fault : place_of false (codes "a ?") 1 ≡ 2
unfolding lexed
place_of_fault = refl

-- both are refused at their second token
same_refusal : SameMeaning false (codes "a  b") (codes "a b") (Err (Syntax 3)) (Err (Syntax 2))
unfolding lexed
same_refusal = (1, refl, refl)

other_words : SameMeaning false (codes "a") (codes "a") (Err (Unsupported (codes "SET"))) (Err (Unsupported (codes "SHOW"))) → ⊥
other_words h = absurd (cc h)

other_refusals : SameMeaning false (codes "a") (codes "a") (Err (Syntax 0)) (Err (Unsupported (codes "SHOW"))) → ⊥
other_refusals h = h

-- a word and a space, with nothing behind them
word_and_space : Lexes false [] (codes "ab ") (Word (codes "ab") ∷ [])
word_and_space = token (codes "ab") (codes " ") refl (skip (codes " ") [] refl nothing)

-- in front of a dot a word is whole
word_in_front : Lexes false (codes ".") (codes "ab") (Word (codes "ab") ∷ [])
word_in_front = token (codes "ab") [] refl nothing

no_tokens : Lexes false (codes "x") (codes "  ") []
no_tokens = skip (codes " ") (codes " ") refl (skip (codes " ") [] refl nothing)
