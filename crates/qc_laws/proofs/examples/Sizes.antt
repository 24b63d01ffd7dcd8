-- Names and texts that are short enough, and what is not.
use Rattle.std.proofs.Common.{◌≡◌, ℕ, List, [], ◌∷◌, refl, true, false, arith, inl, inr}
use Rattle.std.specs.Prelude.{codes, Some, None, pos, replicate, ◌⊎◌}
use Rattle.std.specs.Fmt.{digits}
use Rattle.qc_types.specs.declared.names.Value.TheVariants as value
use Rattle.qc_sql.specs.declared.tables.Kind.TheVariants as kind
use Rattle.qc_sql.specs.declared.tables.RowOp.TheVariants as op
use Rattle.qc_sql.specs.declared.session.Flags.{Flags}
use Rattle.qc_sql.specs.declared.replies.ColumnDef.{ColumnDef}
use Rattle.qc_sql.specs.declared.statements.Expr.TheVariants as expr
use Rattle.qc_sql.specs.declared.statements.Cond.TheVariants as condition
use Rattle.qc_sql.specs.declared.statements.Expr.TheOpen.{Expr-F}
use Rattle.qc_sql.specs.declared.statements.Cond.TheOpen.{Cond-F}
use Rattle.qc_sql.specs.declared.statements.Head.TheVariants as head
use Rattle.qc_sql.specs.declared.statements.Right.TheVariants as right
use Rattle.qc_sql.specs.declared.statements.Part.TheVariants as part
use Rattle.qc_sql.specs.declared.statements.PartKind.TheVariants as part_kind
use Rattle.qc_sql.specs.declared.statements.Setting.TheVariants as setting
use Rattle.qc_sql.specs.declared.statements.SetValue.TheVariants as set
use Rattle.qc_sql.specs.declared.statements.Statement.TheVariants as statement
use Rattle.qc_sql.specs.declared.statements.Statement.{Statement}
use Rattle.qc_sql.specs.declared.statements.Select.{Select}
use Rattle.qc_sql.specs.Database.{Name}
use Rattle.qc_sql.specs.Errors.{error_of}
use Rattle.qc_sql.specs.Tokens.{Word, Quoted, Digits}
use Rattle.qc_laws.specs.sizes.Names.{is_short, is_bounded, is_short_lexeme, are_short_tokens, is_short_value_at, is_short_value, is_short_cond_at, is_short_cond, is_short_item, says_what, is_short_statement, is_short_select}
use Rattle.qc_laws.specs.sizes.Replies.{is_bounded_kind, is_bounded_column, are_bounded_columns, is_bounded_database, is_bounded_operation, FitsError, FitsColumn, FitsValue, FitsRow, FitsRows}

-- names of 64 and of 65 bytes
abbrev longest : List ℕ
longest = replicate 64 110

abbrev long : List ℕ
long = replicate 65 110

-- ---- names and texts

at_the_limit : is_short longest ≡ true
at_the_limit = refl

above_the_limit : is_short long ≡ false
above_the_limit = refl

-- no name is short too
empty_name : is_short [] ≡ true
empty_name = refl

text_at_the_limit : is_bounded (replicate 65535 0) ≡ true
text_at_the_limit = refl

text_above_the_limit : is_bounded (replicate 65536 0) ≡ false
text_above_the_limit = refl

empty_text : is_bounded [] ≡ true
empty_text = refl

-- ---- tokens

long_word : is_short_lexeme (Word long) ≡ false
long_word = refl

long_quoted_name : is_short_lexeme (Quoted long) ≡ false
long_quoted_name = refl

-- a number has no name
large_number : is_short_lexeme (Digits 18446744073709551615) ≡ true
large_number = refl

-- one long word among short ones
one_long_token : are_short_tokens (record { what = Word (codes "USE"); from = 0; to = 3 } ∷ record { what = Word long; from = 4; to = 69 } ∷ []) ≡ false
one_long_token = refl

short_tokens : are_short_tokens (record { what = Word (codes "USE"); from = 0; to = 3 } ∷ record { what = Quoted longest; from = 4; to = 70 } ∷ []) ≡ true
short_tokens = refl

no_tokens : are_short_tokens [] ≡ true
no_tokens = refl

-- ---- statements

-- a.b, of which the source's name is too long
long_source : is_short_value (expr.Column (record { source = Some long; name = codes "b" })) ≡ false
long_source = refl

short_source : is_short_value (expr.Column (record { source = Some (codes "a"); name = longest })) ≡ true
short_source = refl

-- the column of SUM is a name as well
long_sum : is_short_value (expr.Sum (record { source = None; name = long })) ≡ false
long_sum = refl

-- the word of a call, with no arguments
long_call : is_short_value (expr.Call long []) ≡ false
long_call = refl

-- LENGTH of a value that is short, and CONCAT of three of which the last isn't
short_length : is_short_value_at (Expr-F.Length true) ≡ true
short_length = refl

one_long_part : is_short_value_at (Expr-F.Concat (true ∷ true ∷ false ∷ [])) ≡ false
one_long_part = refl

-- a short word, of which an argument is long
long_argument : is_short_value_at (Expr-F.Call (codes "MIN") (false ∷ [])) ≡ false
long_argument = refl

-- n IS NULL, with a long name n
long_condition : is_short_cond (condition.IsNull (expr.Column (record { source = None; name = long }))) ≡ false
long_condition = refl

-- a BETWEEN 1 AND NULL
short_condition : is_short_cond (condition.Between (expr.Column (record { source = None; name = codes "a" })) (expr.Literal (value.Int (pos 1))) (expr.Literal value.Null)) ≡ true
short_condition = refl

-- NOT and OR are as their parts
not_of_long : is_short_cond_at (Cond-F.Not false) ≡ false
not_of_long = refl

or_of_short : is_short_cond_at (Cond-F.Or (true ∷ true ∷ [])) ≡ true
or_of_short = refl

-- everything, or an item at least
says_all : says_what true [] ≡ true
says_all = refl

says_nothing : says_what false [] ≡ false
says_nothing = refl

-- the text of an item has at most 255 bytes
longest_words : is_short_item (record { value = expr.CountAll; name = None; from = 7; to = 262; words = replicate 255 42 }) ≡ true
longest_words = refl

long_words : is_short_item (record { value = expr.CountAll; name = None; from = 7; to = 263; words = replicate 256 42 }) ≡ false
long_words = refl

-- an alias is a name
long_alias : is_short_item (record { value = expr.CountAll; name = Some long; from = 7; to = 15; words = codes "COUNT(*)" }) ≡ false
long_alias = refl

-- TRUNCATE of a table in a database with a long name
long_database : is_short_statement (statement.Truncate (record { db = Some long; name = codes "t" })) ≡ false
long_database = refl

-- UPDATE t SET v = n, with a long name n
long_right_side : is_short_statement (statement.Update (record { table = record { db = None; name = codes "t" }; sets = record { name = codes "v"; right = right.Column long } ∷ []; cond = None })) ≡ false
long_right_side = refl

-- CREATE TABLE t (id BIGINT, PRIMARY KEY (n))
long_key : is_short_statement (statement.CreateTable (record { db = None; name = codes "t" }) (part.Column (codes "id") part_kind.BigInt false false ∷ part.Primary long ∷ [])) ≡ false
long_key = refl

-- SET NAMES takes a word, which is no name; the name of a variable is one
names_of_any_length : is_short_statement (statement.Set (setting.Names long)) ≡ true
names_of_any_length = refl

long_variable : is_short_statement (statement.Set (setting.Variable long (set.Number 1))) ≡ false
long_variable = refl

no_names : is_short_statement statement.Commit ≡ true
no_names = refl

-- ---- what is stored

widest_text : is_bounded_kind (kind.Str 65535) ≡ true
widest_text = refl

wider_text : is_bounded_kind (kind.Str 65536) ≡ false
wider_text = refl

-- a table has a column at least
no_columns : are_bounded_columns [] ≡ false
no_columns = refl

one_column : are_bounded_columns (record { name = longest; kind = kind.Int; not_null = true; primary = true } ∷ []) ≡ true
one_column = refl

long_column : is_bounded_column (record { name = long; kind = kind.Int; not_null = false; primary = false }) ≡ false
long_column = refl

-- an operation that stores nothing
drop : is_bounded_operation (op.DropTable (record { db = codes "d"; name = long })) ≡ true
drop = refl

make : is_bounded_operation (op.CreateTable (record { db = codes "d"; name = codes "t" }) []) ≡ false
make = refl

put : is_bounded_operation (op.Put (record { db = codes "d"; name = codes "t" }) (value.Int (pos 1) ∷ value.Null ∷ value.Str (codes "x") ∷ [])) ≡ true
put = refl

-- no database holds nothing that is too long; a table without columns in the second database does
empty : is_bounded_database [] ≡ true
empty = refl

second_is_not : is_bounded_database ((codes "d", []) ∷ (codes "e", (codes "t", record { columns = []; rows = [] }) ∷ []) ∷ []) ≡ false
second_is_not = refl

-- ---- what is given

-- the largest code, a state of five bytes and a message of 512
largest_error : FitsError (error_of 65535 (codes "HY000") (replicate 512 120))
largest_error = record { code = omega arith; state = refl; message = omega arith }

-- a state of four bytes
no_state : FitsError (error_of 1064 (codes "4200") []) → ⊥
no_state h = absurd (cc h.state)

long_message : FitsError (error_of 1064 (codes "42000") (replicate 513 120)) → ⊥
long_message h = absurd (omega (arith, h.message))

-- a number's text, the empty text and NULL
number_fits : FitsValue (value.Int (pos 12))
unfolding digits
number_fits = omega arith

null_fits : FitsValue value.Null
null_fits = tt

-- a row has a value for each column
row_fits : FitsRow 2 (value.Null ∷ value.Str (codes "ab") ∷ [])
row_fits = record { count = refl; values = (tt, (omega arith, tt)) }

short_row : FitsRow 2 (value.Null ∷ []) → ⊥
short_row h = absurd (cc h.count)

abbrev plain : Flags
plain = record { in_trans = false; autocommit = true; charset = 45; ansi = false; row_limit = 10; protocol_form = 0; row_form = 0 }

abbrev shown : ℕ → ColumnDef
shown charset = record { schema = []; table = []; org_table = []; name = replicate 255 42; org_name = []; charset = charset; length = 65535; kind = 253; flags = 0; decimals = 0 }

-- a text has the session's character set, and a number 63
text_column : FitsColumn plain (shown 45)
text_column = record { schema = omega arith; table = omega arith; org_table = omega arith; name = omega arith; org_name = omega arith; charset = inr refl; shown = omega arith; kind = omega arith; bits = omega arith; decimals = refl }

number_column : FitsColumn plain (shown 63)
number_column = record { schema = omega arith; table = omega arith; org_table = omega arith; name = omega arith; org_name = omega arith; charset = inl refl; shown = omega arith; kind = omega arith; bits = omega arith; decimals = refl }

-- 33 is the other sessions'
other_charset : FitsColumn plain (shown 33) → ⊥
other_charset h = neither h.charset
  where
    neither : ((shown 33).charset ≡ 63) ⊎ ((shown 33).charset ≡ plain.charset) → ⊥
    neither (inl e) = absurd (omega (arith, e))
    neither (inr e) = absurd (omega (arith, e))

-- a result has a column at least
no_result : FitsRows plain (record { columns = []; rows = [] }) → ⊥
no_result h = absurd (omega (arith, h.some))

one_result : FitsRows plain (record { columns = shown 45 ∷ []; rows = (value.Null ∷ []) ∷ (value.Str [] ∷ []) ∷ [] })
one_result = record { some = omega arith; few = omega arith; columns = (text_column, tt); rows = (record { count = refl; values = (tt, tt) }, (record { count = refl; values = (omega arith, tt) }, tt)) }

-- ---- further statements

-- SELECT * FROM t AS x, with a name x
abbrev star : Name → Select
star x = record { cache = head.Bare; star = true; items = []; from = record { table = record { db = None; name = codes "t" }; name = x } ∷ []; cond = None; order = []; limit = None; lock = false }

short_star : is_short_select (star longest) ≡ true
short_star = refl

long_star : is_short_select (star long) ≡ false
long_star = refl

-- ORDER BY d.n, with a long name n
long_order : is_short_select (record (star (codes "x")) { order = record { column = record { source = Some (codes "d"); name = long }; desc = false } ∷ [] }) ≡ false
long_order = refl

-- INSERT with a text that is too long, and with one that isn't
abbrev insert : ℕ → Statement
insert n = statement.Insert (record { table = record { db = None; name = codes "t" }; names = Some (codes "v" ∷ []); rows = (value.Str (replicate n 97) ∷ []) ∷ [] })

long_text : is_short_statement (insert 65536) ≡ false
long_text = refl

longest_text : is_short_statement (insert 65535) ≡ true
longest_text = refl

-- DELETE FROM t WHERE n IS NULL
long_delete : is_short_statement (statement.Delete (record { table = record { db = None; name = codes "t" }; cond = Some (condition.IsNull (expr.Column (record { source = None; name = long }))) })) ≡ false
long_delete = refl

number_kind : is_bounded_kind kind.Int ≡ true
number_kind = refl

wide_column : is_bounded_column (record { name = codes "v"; kind = kind.Str 65536; not_null = false; primary = false }) ≡ false
wide_column = refl

short_column : is_bounded_column (record { name = longest; kind = kind.Str 65535; not_null = false; primary = false }) ≡ true
short_column = refl

one_long_column : are_bounded_columns (record { name = codes "k"; kind = kind.Int; not_null = true; primary = true } ∷ record { name = long; kind = kind.Int; not_null = false; primary = false } ∷ []) ≡ false
one_long_column = refl

long_value : FitsValue (value.Str (replicate 65536 97)) → ⊥
long_value h = absurd (omega (arith, h))

row_of_none : FitsRow 0 []
row_of_none = record { count = refl; values = tt }

-- a row of two values under one column
wide_row : FitsRows plain (record { columns = shown 45 ∷ []; rows = (value.Null ∷ value.Null ∷ []) ∷ [] }) → ⊥
wide_row h = absurd (cc h.rows.0.count)
