-- Worked examples: how texts are read as statements, or why they are none.
use Rattle.std.proofs.Common.{◌≡◌, List, ℕ, ℤ, ◌++◌, [], ◌∷◌, refl, true, false, Option, Some, None, Result, Ok, Err, pos}
use Rattle.std.specs.Prelude.{codes, neg_ℤ}
use Rattle.qc_types.specs.declared.names.Value.TheVariants as value
use Rattle.qc_sql.specs.declared.statements.Expr.TheVariants as expr
use Rattle.qc_sql.specs.declared.statements.Head.TheVariants as head
use Rattle.qc_sql.specs.declared.statements.Item.{Item}
use Rattle.qc_sql.specs.declared.statements.Part.TheVariants as piece
use Rattle.qc_sql.specs.declared.statements.PartKind.TheVariants as typed
use Rattle.qc_sql.specs.declared.statements.Source.{Source}
use Rattle.qc_sql.specs.declared.statements.Statement.{Statement}
use Rattle.qc_sql.specs.declared.statements.Statement.TheVariants as statement
use Rattle.qc_sql.specs.declared.statements.TableRef.{TableRef}
use Rattle.qc_sql.specs.Tokens.{lexed, trimmed}
use Rattle.qc_sql.specs.Reading.{is_reserved, opened}
use Rattle.qc_sql.specs.Grammar.{ParseFault, Syntax, Unsupported, TooManyTables, meaning, alias, any_statement, any_text, at_end, cache_word, call_word, column, condition, create, create_table, dotted, ends_value, from, from_part, insert, item, items, joined, key_part, limit_part, literal, lock_part, look, member_at, names_part, no_option, null_part, one_too_many, order_part, part, part_kind, primary_key, select, signed, source, table, tuple, where_part, whole, call_at, bare_literal, column_part, key_of_table, other_statement, one_word, is_unsupported, is_aggregate_word, is_plain_call, is_uncached_call, further_source, too_many}

-- a text's statement, or why it is none
read : List ℕ → Result Statement ParseFault
read text = meaning (trimmed text) false

-- a table with no database in front of it
abbrev table_named : List ℕ → TableRef
table_named name = record { db = None; name = name }

-- an INSERT of this number into a table t
abbrev row_of : ℤ → Statement
row_of n = statement.Insert (record { table = table_named (codes "t"); names = None; rows = (value.Int n ∷ []) ∷ [] })

-- a SELECT of one item
abbrev select_of : Item → List Source → Statement
select_of i sources = statement.Select (record { cache = head.Bare; star = false; items = i ∷ []; from = sources; cond = None; order = []; limit = None; lock = false })

abbrev of_table : List Source
of_table = record { table = table_named (codes "t"); name = codes "t" } ∷ []

-- the column id, in this span with these words, under a name or none
abbrev item_id : Option (List ℕ) → ℕ → List ℕ → Item
item_id name to words = record { value = expr.Column (record { source = None; name = codes "id" }); name = name; from = 7; to = to; words = words }

database : read (codes "create database e") ≡ Ok (statement.CreateDb (codes "e"))
unfolding read meaning lexed trimmed any_text whole any_statement other_statement one_word is_unsupported create at_end look is_reserved opened
database = refl

quoted_database : read (codes " CREATE DATABASE `e` ; ") ≡ Ok (statement.CreateDb (codes "e"))
unfolding read meaning lexed trimmed any_text whole any_statement other_statement one_word is_unsupported create at_end look is_reserved opened
quoted_database = refl

reserved_word : read (codes "CREATE DATABASE sELECT") ≡ Err (Syntax 16)
unfolding read meaning lexed trimmed any_text whole any_statement other_statement one_word is_unsupported create at_end look is_reserved opened
reserved_word = refl

spaced_table : read (codes "CREATE  TABLE u  (  id BIGINT PRIMARY KEY  )") ≡ Ok (statement.CreateTable (table_named (codes "u")) (piece.Column (codes "id") typed.BigInt false true ∷ []))
unfolding read meaning lexed trimmed any_text whole any_statement other_statement one_word is_unsupported create create_table table dotted part part_kind column_part key_of_table null_part key_part primary_key no_option at_end look is_reserved opened
spaced_table = refl

row : read (codes "INSERT INTO t VALUES (007)") ≡ Ok (row_of (pos 7))
unfolding read meaning lexed trimmed any_text whole any_statement other_statement one_word is_unsupported insert table dotted names_part tuple literal bare_literal signed ends_value at_end look is_reserved opened
row = refl

greatest_number : read (codes "INSERT INTO t VALUES (9223372036854775807)") ≡ Ok (row_of (pos 9223372036854775807))
unfolding read meaning lexed trimmed any_text whole any_statement other_statement one_word is_unsupported insert table dotted names_part tuple literal bare_literal signed ends_value at_end look is_reserved opened
greatest_number = refl

number_too_great : read (codes "INSERT INTO t VALUES (9223372036854775808)") ≡ Err (Unsupported (codes "unsigned"))
unfolding read meaning lexed trimmed any_text whole any_statement other_statement one_word is_unsupported insert table dotted names_part tuple literal bare_literal signed ends_value at_end look is_reserved opened
number_too_great = refl

negative : read (codes "INSERT INTO t VALUES (-7)") ≡ Ok (row_of (neg_ℤ (pos 7)))
unfolding read meaning lexed trimmed any_text whole any_statement other_statement one_word is_unsupported insert table dotted names_part tuple literal bare_literal signed ends_value at_end look is_reserved opened
negative = refl

tabbed : read (codes "SELECT" ++ 9 ∷ codes "id FROM t") ≡ Ok (select_of (item_id None 9 (codes "id")) of_table)
unfolding read meaning lexed trimmed any_text whole any_statement other_statement one_word is_unsupported select cache_word items item call_at call_word is_aggregate_word is_plain_call is_uncached_call column dotted ends_value alias from_part from source table joined where_part condition member_at order_part limit_part lock_part at_end look literal bare_literal signed one_too_many is_reserved opened
tabbed = refl

own_aliases : read (codes "select `id` AS id from t t -- x") ≡ Ok (select_of (item_id (Some (codes "id")) 11 (codes "`id`")) of_table)
unfolding read meaning lexed trimmed any_text whole any_statement other_statement one_word is_unsupported select cache_word items item call_at call_word is_aggregate_word is_plain_call is_uncached_call column dotted ends_value alias from_part from source table joined where_part condition member_at order_part limit_part lock_part at_end look literal bare_literal signed one_too_many is_reserved opened
own_aliases = refl

other_alias : read (codes "SELECT id AS x FROM t") ≡ Ok (select_of (item_id (Some (codes "x")) 9 (codes "id")) of_table)
unfolding read meaning lexed trimmed any_text whole any_statement other_statement one_word is_unsupported select cache_word items item call_at call_word is_aggregate_word is_plain_call is_uncached_call column dotted ends_value alias from_part from source table joined where_part condition member_at order_part limit_part lock_part at_end look literal bare_literal signed one_too_many is_reserved opened
other_alias = refl

number_selected : read (codes "SELECT 1") ≡ Ok (select_of (record { value = expr.Literal (value.Int (pos 1)); name = None; from = 7; to = 8; words = codes "1" }) [])
unfolding read meaning lexed trimmed any_text whole any_statement other_statement one_word is_unsupported select cache_word items item call_at call_word is_aggregate_word is_plain_call is_uncached_call column dotted ends_value alias from_part from source table joined where_part condition member_at order_part limit_part lock_part at_end look literal bare_literal signed one_too_many is_reserved opened
number_selected = refl

empty : read (codes " ;") ≡ Err (Syntax 0)
unfolding read meaning lexed trimmed any_text whole any_statement other_statement one_word is_unsupported is_reserved opened
empty = refl

misspelled : read (codes "SELEC 1") ≡ Err (Syntax 0)
unfolding read meaning lexed trimmed any_text whole any_statement other_statement one_word is_unsupported is_reserved opened
misspelled = refl

-- places are counted in the trimmed text
table_lacks : read (codes " SELECT id FROM ; ") ≡ Err (Syntax 14)
unfolding read meaning lexed trimmed any_text whole any_statement other_statement one_word is_unsupported select cache_word items item call_at call_word is_aggregate_word is_plain_call is_uncached_call column dotted ends_value alias from_part from source table joined where_part condition member_at order_part limit_part lock_part at_end look literal bare_literal signed one_too_many is_reserved opened
table_lacks = refl

union : read (codes "SELECT a FROM t UNION SELECT b FROM t") ≡ Err (Unsupported (codes "UNION"))
unfolding read meaning lexed trimmed any_text whole any_statement other_statement one_word is_unsupported select cache_word items item call_at call_word is_aggregate_word is_plain_call is_uncached_call column dotted ends_value alias from_part from source table joined where_part condition member_at order_part limit_part lock_part at_end look literal bare_literal signed one_too_many is_reserved opened
union = refl

ninth_table : read (codes "SELECT x FROM a, b, c, d, e, f, g, h, i") ≡ Err TooManyTables
unfolding read meaning lexed trimmed any_text whole any_statement other_statement one_word is_unsupported select cache_word items item call_at call_word is_aggregate_word is_plain_call is_uncached_call column dotted ends_value alias from_part from source table joined where_part condition member_at order_part limit_part lock_part at_end look literal bare_literal signed one_too_many is_reserved opened further_source too_many
ninth_table = refl
