-- Computing with the grammar.
use Rattle.std.specs.Prelude.{ℕ}
use Rattle.qc_sql.specs.Tokens.{lexed, trimmed}
use Rattle.qc_sql.specs.Reading.{is_reserved, opened}
use Rattle.qc_sql.specs.Grammar.{meaning, alias, any_statement, any_text, at_end, cache_word, call_word, column, condition, dotted, ends_value, from, from_part, item, items, joined, limit_part, limit, literal, lock_part, look, member_at, one_too_many, order_part, order, select, signed, source, table, where_part, whole, call_at, column_argument, bare_literal, other_statement, one_word, is_unsupported, is_aggregate_word, is_plain_call, is_uncached_call, create, create_table, part, column_part, part_kind, null_part, key_part, primary_key, no_option, key_of_table, insert, names_part, tuple, update, assignment, right_side}

-- the readers, but for that of a number's sign, are opened where this is
unfoldable pub readers : ℕ
unfolding any_text whole any_statement other_statement one_word is_unsupported select cache_word items item call_at call_word column_argument is_aggregate_word is_plain_call is_uncached_call column dotted ends_value alias from_part from source table joined where_part condition member_at order_part order limit_part limit lock_part at_end look literal bare_literal one_too_many is_reserved opened create create_table part column_part part_kind null_part key_part primary_key no_option key_of_table insert names_part tuple update assignment right_side
readers = 0

-- and what reads a text without drawn numbers is opened where this is
unfoldable pub grammar : ℕ
unfolding readers meaning lexed trimmed signed
grammar = 0
