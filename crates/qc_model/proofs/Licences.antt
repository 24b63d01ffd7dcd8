-- Which operations fit, which entries are busy, how crowded a region is, which events short journals may go on with, and which needs they may tell.
use Rattle.std.proofs.Common.{◌≡◌, ℕ, ℤ, ◌<◌, ◌≤◌, List, [], ◌∷◌, ◌++◌, refl, true, false, arith, ap}
use Rattle.std.specs.Prelude.{zero, suc, codes, Some, None, pos, length, replicate}
use Rattle.std.specs.List.{list_any}
use Rattle.std.specs.Fmt.{digits}
use Rattle.std.proofs.lemmas.Bool.Decides.{nat_tests}
use Rattle.qc_types.specs.declared.names.TableName.{TableName}
use Rattle.qc_types.specs.declared.names.Value.{Value}
use Rattle.qc_types.specs.declared.names.Value.TheVariants as value
use Rattle.qc_types.specs.declared.options.Options.{Options}
use Rattle.qc_sql.specs.declared.tables.Column.{Column}
use Rattle.qc_sql.specs.declared.tables.Kind.TheVariants as kind
use Rattle.qc_sql.specs.declared.tables.RowOp.TheVariants as op
use Rattle.qc_sql.specs.Database.{MapOf, Table, same_table}
use Rattle.qc_sql.specs.Packets.{packet, encoded_integer, encoded_string}
use Rattle.qc_sql.specs.Tokens.{lexed, trimmed}
use Rattle.qc_sql.specs.Reading.{is_reserved, opened}
use Rattle.qc_sql.specs.Grammar.{meaning, head_of, alias, any_statement, any_text, at_end, cache_word, call_word, column, condition, dotted, ends_value, from, from_part, item, items, joined, limit_part, literal, lock_part, look, member_at, one_too_many, order_part, select, signed, source, table, where_part, whole, call_at, bare_literal, other_statement, one_word, is_unsupported, is_aggregate_word, is_plain_call, is_uncached_call}
use Rattle.qc_sql.specs.Rows.{rows, rows_over}
use Rattle.qc_model.specs.declared.events.Who.{Who}
use Rattle.qc_model.specs.declared.events.Event.{Event}
use Rattle.qc_model.specs.declared.events.Event.TheVariants as event
use Rattle.qc_model.specs.declared.events.How.TheVariants as how
use Rattle.qc_model.specs.declared.events.Reason.TheVariants as reason
use Rattle.qc_model.specs.declared.events.GoneWhy.TheVariants as gone
use Rattle.qc_model.specs.Journal.{Journal, present}
use Rattle.qc_model.specs.Session.{answer_packets, key_of_text}
use Rattle.qc_model.specs.Licence.{words_of_bytes, region_words, unit_words, value_fits, row_fits, columns_fit, op_fits, ops_fit, is_within_rows, named_by, hit_by, last_named, is_busy, most_blocks, holders, Started, block_bound, word_bound, IsCrowded, LacksRoom, IsFilling, IsComplete, tables_of_key, MayStart, starts_serial, IsRivalOf, MayHaveReason, IsCommitOn, MayDecide, MayCommit, prefix_above, MayGiveUp, before_entry, MayPrune, IsLicensed, IsLawful}
use Rattle.qc_model.specs.Needs.{is_need, next_other, PruneHasNeed, HasNeeds, leading_needs, HasOwnNeeds}
use Rattle.qc_types.specs.Blocks.{raised}
use Rattle.qc_model.specs.Cache.{cache}
use Rattle.qc_model.proofs.Journals.{t, u, far, keys, row, a, b, made, formed, filled, story}
use Rattle.qc_model.proofs.Caches.{entry, one, two, last, three}
use Rattle.qc_model.proofs.Transactions.{free, told, text, at_four}

-- ---- words of bytes

-- no byte needs no word; one to eight bytes are one word, and one more begins another
no_byte : words_of_bytes 0 ≡ 0
no_byte = refl

-- one byte takes a word
one_byte : words_of_bytes 1 ≡ 1
one_byte = refl

-- eight bytes fill it
eight_bytes : words_of_bytes 8 ≡ 1
eight_bytes = refl

-- the ninth begins a second one
nine_bytes : words_of_bytes 9 ≡ 2
nine_bytes = refl

-- a region of a size with units of these bytes
abbrev pub sized : ℕ → ℕ → ℕ → Options
sized size unit limit = record { size = size; limit = limit; unit = unit; kind = 1 }

-- no bytes have no words
no_region : region_words (sized 0 512 62) ≡ 0
no_region = refl

-- 1024 bytes are 128 words of 8 bytes
least_region : region_words (sized 1024 512 62) ≡ 128
least_region = refl

-- 67,108,864 bytes are 8,388,608 words
greatest_region : region_words (sized 67108864 512 62) ≡ 8388608
greatest_region = refl

-- 512 bytes are 64 words
least_unit : unit_words (sized 1024 512 62) ≡ 64
least_unit = refl

-- 4096 bytes are 512 words
usual_unit : unit_words (sized 1024 4096 62) ≡ 512
usual_unit = refl

-- 520 bytes are one word more than the least unit
next_unit : unit_words (sized 1024 520 62) ≡ 65
next_unit = refl

-- ---- rows and columns that fit

-- a text of at most two bytes, which may be NULL
abbrev pub short : Column
short = record { name = codes "s"; kind = kind.Str 2; not_null = false; primary = false }

-- two bytes fit a length of two
two_bytes_fit : value_fits short (value.Str (1 ∷ 2 ∷ [])) ≡ true
two_bytes_fit = refl

-- three are longer than it
three_bytes_do_not : value_fits short (value.Str (1 ∷ 2 ∷ 3 ∷ [])) ≡ false
three_bytes_do_not = refl

-- a number is no value of a column of texts
number_is_no_text : value_fits short (value.Int (pos 1)) ≡ false
number_is_no_text = refl

-- this column may be NULL
null_fits : value_fits short value.Null ≡ true
null_fits = refl

-- a primary column takes no NULL, also where it isn't said of it
no_null_key : value_fits (record { name = codes "k"; kind = kind.Int; not_null = false; primary = true }) value.Null ≡ false
no_null_key = refl

-- a value for each column, of its kind
whole_row : row_fits (short ∷ keys) (value.Null ∷ value.Int (pos 1) ∷ []) ≡ true
whole_row = refl

-- a value lacks
row_too_short : row_fits (short ∷ keys) (value.Null ∷ []) ≡ false
row_too_short = refl

-- a value has no column
row_too_long : row_fits keys (value.Int (pos 1) ∷ value.Null ∷ []) ≡ false
row_too_long = refl

-- the number stands in the column of texts, and NULL in the key
row_in_wrong_order : row_fits (short ∷ keys) (value.Int (pos 1) ∷ value.Null ∷ []) ≡ false
row_in_wrong_order = refl

-- the key needn't be the first column
key_behind : columns_fit (short ∷ keys) ≡ true
key_behind = refl

-- there is one key, of numbers, and no name twice
no_columns : columns_fit [] ≡ false
no_columns = refl

-- no column is primary
no_key : columns_fit (short ∷ []) ≡ false
no_key = refl

-- two columns are primary
two_keys : columns_fit (record { name = codes "j"; kind = kind.Int; not_null = true; primary = true } ∷ keys) ≡ false
two_keys = refl

-- the primary column is one of texts
key_of_texts : columns_fit (record { name = codes "k"; kind = kind.Str 2; not_null = true; primary = true } ∷ []) ≡ false
key_of_texts = refl

-- two columns are called s
name_twice : columns_fit (short ∷ short ∷ keys) ≡ false
name_twice = refl

-- this many columns in front of the key
abbrev pub many : ℕ → List Column
many zero = keys
many (suc n) = record { name = n ∷ 0 ∷ []; kind = kind.Int; not_null = false; primary = false } ∷ many n

-- 64 columns are allowed
most_columns_fit : columns_fit (many 63) ≡ true
most_columns_fit = refl

-- and one more isn't
one_column_more : columns_fit (many 64) ≡ false
one_column_more = refl

-- ---- operations that fit: d has t with the rows 1 and 2, and u with 5

-- t is there, and the row is a number for its one column; that the key is there too is no matter
put_fits : op_fits (op.Put t (row 1)) (present at_four) ≡ true
put_fits = refl

-- the database e isn't there
put_without_table : op_fits (op.Put far (row 1)) (present at_four) ≡ false
put_without_table = refl

-- t's column takes no text
put_of_text : op_fits (op.Put t (value.Str (1 ∷ []) ∷ [])) (present at_four) ≡ false
put_of_text = refl

-- a delete names a row that is there
delete_fits : op_fits (op.Del u (pos 5)) (present at_four) ≡ true
delete_fits = refl

-- u has no row under 6
delete_without_row : op_fits (op.Del u (pos 6)) (present at_four) ≡ false
delete_without_row = refl

-- e has no table
delete_without_table : op_fits (op.Del far (pos 5)) (present at_four) ≡ false
delete_without_table = refl

-- a table is made where its database is there, and it isn't
create_fits : op_fits (op.CreateTable (record { db = codes "d"; name = codes "v" }) keys) (present at_four) ≡ true
create_fits = refl

-- t is there already
create_again : op_fits (op.CreateTable t keys) (present at_four) ≡ false
create_again = refl

-- e isn't there
create_without_database : op_fits (op.CreateTable far keys) (present at_four) ≡ false
create_without_database = refl

-- u is there
drop_fits : op_fits (op.DropTable u) (present at_four) ≡ true
drop_fits = refl

-- e.t isn't there
drop_without_table : op_fits (op.DropTable far) (present at_four) ≡ false
drop_without_table = refl

-- a database is made where none has its name, and dropped where one has
make_fits : op_fits (op.CreateDb (codes "e")) (present at_four) ≡ true
make_fits = refl

-- d is there already
make_again : op_fits (op.CreateDb (codes "d")) (present at_four) ≡ false
make_again = refl

-- e isn't there to be dropped
drop_without_database : op_fits (op.DropDb (codes "e")) (present at_four) ≡ false
drop_without_database = refl

-- each is validated on what those before it made
in_turn : ops_fit (op.CreateDb (codes "e") ∷ op.CreateTable far keys ∷ op.Put far (row 1) ∷ op.Del far (pos 1) ∷ []) (present at_four) ≡ true
in_turn = refl

-- behind the drop of d no table is there to put into
dropped_before : ops_fit (op.DropDb (codes "d") ∷ op.Put t (row 1) ∷ []) (present at_four) ≡ false
dropped_before = refl

-- behind the first delete the row isn't there
deleted_twice : ops_fit (op.Del t (pos 1) ∷ op.Del t (pos 1) ∷ []) (present at_four) ≡ false
deleted_twice = refl

-- ---- the most rows of a table

abbrev pub with_rows : MapOf ℤ (List Value) → List (List ℕ × MapOf (List ℕ) Table)
with_rows entries = (codes "d", (codes "t", record { columns = keys; rows = entries }) ∷ []) ∷ []

-- no table has more than two rows
none_full : is_within_rows (present at_four) ≡ true
none_full = refl

-- 1,048,576 rows are allowed, whatever they are
just_full : (entries : MapOf ℤ (List Value)) → length entries ≡ 1048576 → is_within_rows (with_rows entries) ≡ true
just_full entries h = grind (arith, nat_tests)

-- one more isn't
one_too_many_rows : (entries : MapOf ℤ (List Value)) → length entries ≡ 1048577 → is_within_rows (with_rows entries) ≡ false
one_too_many_rows entries h = grind (arith, nat_tests)

-- ---- busy entries: in three, 1 and 2 are whole and session 1 fills 3

abbrev pub c : ℕ → Who
c n = record { session = 3; number = n }

abbrev pub hits : (ℕ → Who) → ℕ → ℕ → Event
hits who number serial = event.Run (who number) (how.Hit serial)

-- whom nobody's last event hit is idle
none_busy : is_busy three 1 ≡ false
none_busy = refl

-- a hit that is its session's last event keeps its entry busy, and no other
hit_is_busy : is_busy (three ++ hits b 1 1 ∷ []) 1 ≡ true
hit_is_busy = refl

-- nobody hit 2
other_is_idle : is_busy (three ++ hits b 1 1 ∷ []) 2 ≡ false
other_is_idle = refl

-- the session went on
hit_is_over : is_busy (three ++ hits b 1 1 ∷ event.Run (b 2) how.Other ∷ []) 1 ≡ false
hit_is_over = refl

-- another session went on, or an entry was done
others_went_on : is_busy (three ++ hits b 1 1 ∷ event.Done 3 ∷ event.Run (a 4) how.Other ∷ []) 1 ≡ true
others_went_on = refl

-- a start names its entry, and keeps none busy
fill_is_not_busy : is_busy three 3 ≡ false
fill_is_not_busy = refl

-- what the last event of each session names, in the order of these events: hits, starts and rivals
named : last_named named_by (three ++ hits b 1 1 ∷ event.Run (c 1) (how.Plain (reason.Rival 3)) ∷ []) ≡ 3 ∷ 1 ∷ 3 ∷ []
named = refl

-- session 2's second hit counts and its first doesn't; session 1's start doesn't either, since another command came behind it
named_by_last_alone : last_named named_by (three ++ hits b 1 1 ∷ hits b 2 2 ∷ event.Done 3 ∷ event.Run (a 4) how.Other ∷ []) ≡ 2 ∷ []
named_by_last_alone = refl

-- of these only the hit keeps an entry busy
hit_alone : last_named hit_by (three ++ hits b 1 1 ∷ event.Run (c 1) (how.Plain (reason.Rival 3)) ∷ []) ≡ 1 ∷ []
hit_alone = refl

-- ---- a crowded region

-- Without entries at most 9 blocks are handed out. A block has at most 63 words more than the greatest of 64, the unit and the need.
no_holder : block_bound (sized 1024 512 62) at_four ≡ 9
no_holder = refl

-- 63 more than 64, which need and unit don't exceed
least_words : word_bound (sized 1024 512 62) at_four 64 ≡ 127
least_words = refl

-- a unit of 512 words is greater: 63 + 512
words_of_unit : word_bound (sized 1024 4096 62) at_four 64 ≡ 575
words_of_unit = refl

-- a need of 100 words is greater than 64: 63 + 100
words_of_need : word_bound (sized 1024 512 62) at_four 100 ≡ 163
words_of_need = refl

-- a key of 521 bytes has 66 words
words_of_key : word_bound (sized 1024 512 62) (event.Run (a 1) (how.Start 1 (replicate 521 0) (t ∷ [])) ∷ []) 64 ≡ 129
words_of_key = refl

-- 19 times 127 are 2413: a region of one word less is crowded, and one of so many isn't
crowded : IsCrowded (sized 19296 512 62) at_four 64
crowded = omega arith

-- 2413 words aren't fewer than 2413
not_crowded : IsCrowded (sized 19304 512 62) at_four 64 → ⊥
not_crowded = λ h. let e : 2413 < 2413 = h in omega (arith, e)

-- to a need of 100 words, 19 times 163 are 3097
crowded_for_more : IsCrowded (sized 24768 512 62) at_four 100
crowded_for_more = omega arith

-- an entry as it was begun, with the number of its start
abbrev pub begun : ℕ → ℕ → List TableName → Started
begun number serial tables = (number, entry serial tables false)

-- those that may hold blocks: all of the cache; one that has left, while its session's last event names it; and none that nobody names
held_by_cache : holders three ≡ begun 1 1 (t ∷ []) ∷ begun 3 2 (t ∷ u ∷ []) ∷ begun 5 3 (u ∷ []) ∷ []
held_by_cache = refl

-- behind a reset the cache is empty: session 2's hit names 2, and session 1's start names 3
held_by_stream : holders (three ++ hits b 1 2 ∷ event.Reset (c 1) ∷ []) ≡ begun 3 2 (t ∷ u ∷ []) ∷ begun 5 3 (u ∷ []) ∷ []
held_by_stream = refl

-- 1 was pruned, and the reset of session 1 removed the others and names none
held_by_none : holders (three ++ event.Prune 1 64 0 ∷ event.Done 3 ∷ event.Reset (a 4) ∷ []) ≡ []
held_by_none = refl

-- The entries of three have one, two and one tables, and no answer, since their keys are none of a select: 3, 4 and 3 blocks, and 9.
bound_of_three : block_bound (sized 1024 512 62) three ≡ 19
unfolding answer_packets
bound_of_three = refl

-- the entry 3 has left and is named by its session's last event; it counts until this session goes on
gone_is_named : block_bound (sized 1024 512 62) (three ++ event.Gone 3 gone.Ended ∷ []) ≡ 19
unfolding answer_packets
gone_is_named = refl

-- behind the next command of session 1 the 3 blocks of its fill count no more
gone_is_not_named : block_bound (sized 1024 512 62) (three ++ event.Gone 3 gone.Ended ∷ event.Run (a 4) how.Other ∷ []) ≡ 16
unfolding answer_packets
gone_is_not_named = refl

-- an entry that the cache has and two sessions name counts once
named_twice : block_bound (sized 1024 512 62) (three ++ hits b 1 1 ∷ hits c 1 1 ∷ []) ≡ 19
unfolding answer_packets
named_twice = refl

-- ---- the answer of an entry counts: that of the rows 1 and 2 has 66 bytes, in packets of 5, 31, 9, 6, 6 and 9

abbrev pub rows_key : List ℕ
rows_key = key_of_text free text

abbrev pub ready : Journal
ready = made ∷ formed ∷ event.Run (a 3) how.Other ∷ filled ∷ []

abbrev pub begins : Event
begins = event.Run (a 5) (how.Start 1 rows_key (t ∷ []))

abbrev pub filling : Journal
filling = ready ++ begins ∷ []

-- its text, the last block of its result, its table, and one for each whole unit of its answer, which here is one of 66 bytes
blocks_of_one_unit : most_blocks (sized 1024 66 66) filling (5, record { serial = 1; key = rows_key; tables = t ∷ []; complete = false }) ≡ 4
unfolding meaning lexed any_text whole any_statement other_statement one_word is_unsupported select cache_word items item call_at call_word is_aggregate_word is_plain_call is_uncached_call column dotted ends_value alias from_part from source table joined where_part condition member_at order_part limit_part lock_part at_end look literal bare_literal signed one_too_many head_of trimmed rows rows_over is_reserved opened answer_packets packet encoded_integer encoded_string digits
blocks_of_one_unit = refl

-- 66 bytes are no whole unit of 4096
blocks_of_no_unit : most_blocks (sized 1024 4096 66) filling (5, record { serial = 1; key = rows_key; tables = t ∷ []; complete = false }) ≡ 3
unfolding meaning lexed any_text whole any_statement other_statement one_word is_unsupported select cache_word items item call_at call_word is_aggregate_word is_plain_call is_uncached_call column dotted ends_value alias from_part from source table joined where_part condition member_at order_part limit_part lock_part at_end look literal bare_literal signed one_too_many head_of trimmed rows rows_over is_reserved opened answer_packets packet encoded_integer encoded_string digits
blocks_of_no_unit = refl

-- with two tables, and begun before t had rows: five times 10 bytes are in its answer of 54
blocks_of_two_tables : most_blocks (sized 1024 10 66) filling (4, record { serial = 1; key = rows_key; tables = t ∷ u ∷ []; complete = false }) ≡ 9
unfolding meaning lexed any_text whole any_statement other_statement one_word is_unsupported select cache_word items item call_at call_word is_aggregate_word is_plain_call is_uncached_call column dotted ends_value alias from_part from source table joined where_part condition member_at order_part limit_part lock_part at_end look literal bare_literal signed one_too_many head_of trimmed rows rows_over is_reserved opened answer_packets packet encoded_integer encoded_string digits
blocks_of_two_tables = refl

-- and the 9 blocks that always count
one_unit : block_bound (sized 1024 66 66) filling ≡ 13
unfolding meaning lexed any_text whole any_statement other_statement one_word is_unsupported select cache_word items item call_at call_word is_aggregate_word is_plain_call is_uncached_call column dotted ends_value alias from_part from source table joined where_part condition member_at order_part limit_part lock_part at_end look literal bare_literal signed one_too_many head_of trimmed rows rows_over is_reserved opened answer_packets packet encoded_integer encoded_string digits
one_unit = refl

-- 66 bytes are no whole unit of 67, so 3 and 9
no_unit : block_bound (sized 1024 67 66) filling ≡ 12
unfolding meaning lexed any_text whole any_statement other_statement one_word is_unsupported select cache_word items item call_at call_word is_aggregate_word is_plain_call is_uncached_call column dotted ends_value alias from_part from source table joined where_part condition member_at order_part limit_part lock_part at_end look literal bare_literal signed one_too_many head_of trimmed rows rows_over is_reserved opened answer_packets packet encoded_integer encoded_string digits
no_unit = refl

-- 66 bytes are two units of 33, so 5 and 9
two_units : block_bound (sized 1024 33 66) filling ≡ 14
unfolding meaning lexed any_text whole any_statement other_statement one_word is_unsupported select cache_word items item call_at call_word is_aggregate_word is_plain_call is_uncached_call column dotted ends_value alias from_part from source table joined where_part condition member_at order_part limit_part lock_part at_end look literal bare_literal signed one_too_many head_of trimmed rows rows_over is_reserved opened answer_packets packet encoded_integer encoded_string digits
two_units = refl

-- the rows were deleted behind the start, which made the answer shorter and removed the entry: it counts as it was at its start
as_it_was : block_bound (sized 1024 66 66) (filling ++ event.Commit (b 1) (op.Del t (pos 1) ∷ op.Del t (pos 2) ∷ []) ∷ []) ≡ 13
unfolding meaning lexed any_text whole any_statement other_statement one_word is_unsupported select cache_word items item call_at call_word is_aggregate_word is_plain_call is_uncached_call column dotted ends_value alias from_part from source table joined where_part condition member_at order_part limit_part lock_part at_end look literal bare_literal signed one_too_many head_of trimmed rows rows_over is_reserved opened answer_packets packet encoded_integer encoded_string digits
as_it_was = refl

-- 25 times 127 are 3175
crowded_by_one : IsCrowded (sized 25392 512 66) filling 64
unfolding meaning lexed any_text whole any_statement other_statement one_word is_unsupported select cache_word items item call_at call_word is_aggregate_word is_plain_call is_uncached_call column dotted ends_value alias from_part from source table joined where_part condition member_at order_part limit_part lock_part at_end look literal bare_literal signed one_too_many head_of trimmed rows rows_over is_reserved opened answer_packets packet encoded_integer encoded_string digits
crowded_by_one = omega arith

-- one word more than that isn't crowded any more
not_crowded_by_one : IsCrowded (sized 25400 512 66) filling 64 → ⊥
unfolding meaning lexed any_text whole any_statement other_statement one_word is_unsupported select cache_word items item call_at call_word is_aggregate_word is_plain_call is_uncached_call column dotted ends_value alias from_part from source table joined where_part condition member_at order_part limit_part lock_part at_end look literal bare_literal signed one_too_many head_of trimmed rows rows_over is_reserved opened answer_packets packet encoded_integer encoded_string digits
not_crowded_by_one = λ h. let e : 3175 < 3175 = h in omega (arith, e)

-- ---- no room

-- no entry is there to prune, and 128 words are crowded
no_entry : LacksRoom (sized 1024 512 62) at_four 64 0
no_entry = record { too_small = omega arith; all_busy = refl; crowded = omega arith }

-- a free block of the need is room
large_enough : LacksRoom (sized 1024 512 62) at_four 64 64 → ⊥
large_enough = λ h. let e : 64 < 64 = h.too_small in omega (arith, e)

-- an idle entry that is whole could be pruned
idle_entry : LacksRoom (sized 1024 512 62) three 64 0 → ⊥
idle_entry = λ h. let e : false ≡ true = h.all_busy in cc

-- both whole entries are busy; the third isn't whole
all_are_busy : LacksRoom (sized 3072 512 62) (three ++ hits b 1 1 ∷ hits c 1 2 ∷ []) 64 0
unfolding answer_packets
all_are_busy = record { too_small = omega arith; all_busy = refl; crowded = omega arith }

-- a wide region has room for them all
wide : LacksRoom (sized 1048576 512 62) at_four 64 0 → ⊥
wide = λ h. let e : 131072 < 2413 = h.crowded in omega (arith, e)

-- ---- entries by their state

-- 3 is in the cache and isn't whole
third_is_filled : IsFilling three 3
third_is_filled = refl

-- 1 is whole
first_is_not : IsFilling three 1 → ⊥
first_is_not = λ h. let e : true ≡ false = h in cc

-- 4 isn't in the cache
fourth_is_not : IsFilling three 4 → ⊥
fourth_is_not = λ h. h

-- 1 is done
first_is_whole : IsComplete three 1
first_is_whole = refl

-- 3 isn't done
third_is_not : IsComplete three 3 → ⊥
third_is_not = λ h. let e : false ≡ true = h in cc

-- 3 is whole behind its done
whole_when_done : IsComplete (three ++ event.Done 3 ∷ []) 3
whole_when_done = refl

-- ---- rivals

-- the event starts 3
starts_three : starts_serial 3 (Some (event.Run (a 3) (how.Start 3 (3 ∷ []) (u ∷ [])))) ≡ true
starts_three = refl

-- it doesn't start 2
starts_another : starts_serial 2 (Some (event.Run (a 3) (how.Start 3 (3 ∷ []) (u ∷ [])))) ≡ false
starts_another = refl

-- a hit on 3 doesn't start it
hit_starts_none : starts_serial 3 (Some (hits a 3 3)) ≡ false
hit_starts_none = refl

-- session 1 fills 3, which session 2 may meet; 1 is whole, and 4 isn't there
rival_of_second : IsRivalOf three (b 1) 3
rival_of_second = record { filling = refl; other = (1, (λ (e : 1 ≡ 2). omega (arith, e)), refl) }

-- 1 is whole, and so no rival
no_rival_when_whole : IsRivalOf three (b 1) 1 → ⊥
no_rival_when_whole = λ h. let e : true ≡ false = h.filling in cc

-- 4 isn't in the cache
no_rival_when_absent : IsRivalOf three (b 1) 4 → ⊥
no_rival_when_absent = λ h. h.filling

-- ---- reasons that name an event: u's last change is 9, and t's 6

-- u's change 9 is above the snapshot 7
changed_since : MayHaveReason (sized 1024 512 62) told (b 4) (reason.NotVisible u 9 7)
changed_since = (refl, omega arith)

-- 9 isn't above 9
not_above : MayHaveReason (sized 1024 512 62) told (b 4) (reason.NotVisible u 9 9) → ⊥
not_above = λ h. let e : 9 < 9 = h.1 in omega (arith, e)

-- 5 was a change of u, and isn't the last one
not_the_last : MayHaveReason (sized 1024 512 62) told (b 4) (reason.NotVisible u 5 4) → ⊥
not_the_last = λ h. let e : 5 ≡ 9 = h.0 in omega (arith, e)

-- the others name none
off_is_free : MayHaveReason (sized 1024 512 62) told (b 4) reason.Off
off_is_free = tt

-- event 6 commits to t, 5 to u alone, 7 flushes, and there is no 0 and no 11
commit_on_t : IsCommitOn story 6 t
commit_on_t = (omega arith, refl)

-- 5 is a commit, but not on t
commit_on_u : IsCommitOn story 5 t → ⊥
commit_on_u = λ h. let e : false ≡ true = h.1 in cc

-- 7 is a flush, which touches no table
no_commit : IsCommitOn story 7 t → ⊥
no_commit = λ h. let e : false ≡ true = h.1 in cc

-- no event has the number 0, though the first one touches t
no_event_zero : IsCommitOn (filled ∷ []) 0 t → ⊥
no_event_zero = λ h. let e : 0 < 0 = h.0 in omega (arith, e)

-- story has ten events
no_event_eleven : IsCommitOn story 11 t → ⊥
no_event_eleven = λ h. h

-- ---- who decides next

-- session 1 has six events of told, session 2 three, and session 3 none
seventh_of_first : MayDecide told (a 7)
seventh_of_first = record { next = refl; not_filling = refl }

-- a session's first event has the number 1
first_of_third : MayDecide told (c 1)
first_of_third = record { next = refl; not_filling = refl }

-- session 1 has six events, so another sixth isn't the next
sixth_again : MayDecide told (a 6) → ⊥
sixth_again = λ h. let e : 6 ≡ 7 = h.next in omega (arith, e)

-- session 1 has a fill under way, and goes on when this is done or its entry has left
has_a_fill : MayDecide three (a 4) → ⊥
has_a_fill = λ h. let e : true ≡ false = h.not_filling in cc

-- 3 is whole, so session 1 may go on
fill_is_done : MayDecide (three ++ event.Done 3 ∷ []) (a 4)
fill_is_done = record { next = refl; not_filling = refl }

-- a commit on u removed 3, so session 1 may go on
fill_was_overtaken : MayDecide (three ++ event.Commit (b 1) (op.Put u (row 1) ∷ []) ∷ []) (a 4)
fill_was_overtaken = record { next = refl; not_filling = refl }

-- session 2 has none
other_may_go_on : MayDecide three (b 1)
other_may_go_on = record { next = refl; not_filling = refl }

-- ---- commits

-- it has operations that fit in turn, and no table is too full
may_commit : MayCommit at_four (op.Del u (pos 5) ∷ op.Put u (row 5) ∷ [])
may_commit = record { some = omega arith; fit = refl; not_full = refl }

-- without operations there is nothing to commit
empty_commit : MayCommit at_four [] → ⊥
empty_commit = λ h. let e : 0 < 0 = h.some in omega (arith, e)

-- it drops a table that isn't there
commit_of_nothing_there : MayCommit at_four (op.DropTable far ∷ []) → ⊥
commit_of_nothing_there = λ h. let e : false ≡ true = h.fit in cc

-- ---- fills that are given up

-- packets of 3, 2 and 4 bytes: the first prefix that is longer than the limit, whole packets counted
abbrev pub lengths : List (List ℕ)
lengths = replicate 3 0 ∷ replicate 2 0 ∷ replicate 4 0 ∷ []

-- no packet isn't longer than 0, and the first is
above_none : prefix_above 0 0 lengths ≡ 3
above_none = refl

-- 3 bytes are longer than 2
above_two : prefix_above 2 0 lengths ≡ 3
above_two = refl

-- 3 aren't longer than 3, and 5 are
above_three : prefix_above 3 0 lengths ≡ 5
above_three = refl

-- 5 aren't longer than 5, and 9 are
above_five : prefix_above 5 0 lengths ≡ 9
above_five = refl

-- of 5, 36, 45, 51, 57 and 66 bytes 51 are the first above 45
too_large : MayGiveUp (sized 1024 512 45) filling 1 (gone.TooLarge 51 45)
unfolding meaning lexed any_text whole any_statement other_statement one_word is_unsupported select cache_word items item call_at call_word is_aggregate_word is_plain_call is_uncached_call column dotted ends_value alias from_part from source table joined where_part condition member_at order_part limit_part lock_part at_end look literal bare_literal signed one_too_many head_of trimmed rows rows_over is_reserved opened answer_packets packet encoded_integer encoded_string digits
too_large = (refl, omega arith, refl)

-- 57 bytes aren't above 65, and the whole answer is
whole_is_too_large : MayGiveUp (sized 1024 512 65) filling 1 (gone.TooLarge 66 65)
unfolding meaning lexed any_text whole any_statement other_statement one_word is_unsupported select cache_word items item call_at call_word is_aggregate_word is_plain_call is_uncached_call column dotted ends_value alias from_part from source table joined where_part condition member_at order_part limit_part lock_part at_end look literal bare_literal signed one_too_many head_of trimmed rows rows_over is_reserved opened answer_packets packet encoded_integer encoded_string digits
whole_is_too_large = (refl, omega arith, refl)

-- a longer prefix isn't the first, another limit isn't the option's, and the whole answer is not above its own length
not_the_first_prefix : MayGiveUp (sized 1024 512 45) filling 1 (gone.TooLarge 57 45) → ⊥
unfolding meaning lexed any_text whole any_statement other_statement one_word is_unsupported select cache_word items item call_at call_word is_aggregate_word is_plain_call is_uncached_call column dotted ends_value alias from_part from source table joined where_part condition member_at order_part limit_part lock_part at_end look literal bare_literal signed one_too_many head_of trimmed rows rows_over is_reserved opened answer_packets packet encoded_integer encoded_string digits
not_the_first_prefix = λ h. let e : 57 ≡ 51 = h.2 in omega (arith, e)

-- the limit that is told is 45, and the option's is 46
other_limit : MayGiveUp (sized 1024 512 46) filling 1 (gone.TooLarge 51 45) → ⊥
other_limit = λ h. let e : 45 ≡ 46 = h.0 in omega (arith, e)

-- 66 bytes aren't above a limit of 66
within_limit : MayGiveUp (sized 1024 512 66) filling 1 (gone.TooLarge 66 66) → ⊥
within_limit = λ h. let e : 66 < 66 = h.1 in omega (arith, e)

-- for want of room it is given up with the need of a unit
no_room_for_unit : MayGiveUp (sized 3072 512 62) (three ++ hits b 1 1 ∷ hits c 1 2 ∷ []) 3 (gone.NoRoom 64 0)
unfolding answer_packets
no_room_for_unit = (refl, record { too_small = omega arith; all_busy = refl; crowded = omega arith })

-- the unit has 64 words, and not 65
other_need : MayGiveUp (sized 3072 512 62) (three ++ hits b 1 1 ∷ hits c 1 2 ∷ []) 3 (gone.NoRoom 65 0) → ⊥
other_need = λ h. let e : 65 ≡ 64 = h.0 in omega (arith, e)

-- 1 is whole and idle, so it could be pruned for the fill
room_by_pruning : MayGiveUp (sized 3072 512 62) three 3 (gone.NoRoom 64 0) → ⊥
room_by_pruning = λ h. let e : false ≡ true = h.1.all_busy in cc

-- the end of its session asks no more
with_its_session : MayGiveUp (sized 3072 512 62) three 3 gone.Ended
with_its_session = tt

-- ---- prunes

-- none stands before the first
before_first : before_entry 1 (cache three) ≡ []
before_first = refl

-- two stand before the third
before_third : before_entry 3 (cache three) ≡ one ∷ two ∷ []
before_third = refl

-- all stand before one that isn't there
before_absent : before_entry 4 (cache three) ≡ one ∷ two ∷ last ∷ []
before_absent = refl

-- the entry that was used longest ago goes
oldest_goes : MayPrune (sized 3072 512 62) three 1 64 0
unfolding answer_packets
oldest_goes = record { whole = refl; too_small = omega arith; oldest = refl; crowded = omega arith }

-- the second stays while the first is idle, and goes while that is busy
second_stays : MayPrune (sized 3072 512 62) three 2 64 0 → ⊥
second_stays = λ h. let e : false ≡ true = h.oldest in cc

-- 3, 1 and 2 in this order: 3 isn't whole, 1 is busy by session 2, and session 3 has left 2
behind_a_busy_one : MayPrune (sized 3072 512 62) (three ++ hits b 1 1 ∷ hits c 1 2 ∷ event.Run (c 2) how.Other ∷ []) 2 64 0
unfolding answer_packets
behind_a_busy_one = record { whole = refl; too_small = omega arith; oldest = refl; crowded = omega arith }

-- an entry that isn't whole is no prune's, and nor is one where a free block is large enough
unfinished_stays : MayPrune (sized 3072 512 62) three 3 64 0 → ⊥
unfinished_stays = λ h. let e : false ≡ true = h.whole in cc

-- a free block of 64 words is large enough for 64
needless : MayPrune (sized 3072 512 62) three 1 64 64 → ⊥
needless = λ h. let e : 64 < 64 = h.too_small in omega (arith, e)

-- ---- the tables of a key

-- the select names t without a database, so it is in the key's
tables_in_d : tables_of_key rows_key ≡ t ∷ []
unfolding meaning lexed any_text whole any_statement other_statement one_word is_unsupported select cache_word items item call_at call_word is_aggregate_word is_plain_call is_uncached_call column dotted ends_value alias from_part from source table joined where_part condition member_at order_part limit_part lock_part at_end look literal bare_literal signed one_too_many head_of trimmed rows rows_over is_reserved opened
tables_in_d = refl

-- the same text in another database
tables_in_e : tables_of_key (key_of_text (record free { db = codes "e" }) text) ≡ far ∷ []
unfolding meaning lexed any_text whole any_statement other_statement one_word is_unsupported select cache_word items item call_at call_word is_aggregate_word is_plain_call is_uncached_call column dotted ends_value alias from_part from source table joined where_part condition member_at order_part limit_part lock_part at_end look literal bare_literal signed one_too_many head_of trimmed rows rows_over is_reserved opened
tables_in_e = refl

-- a text that isn't of the grammar names none
tables_of_nothing : tables_of_key (key_of_text free []) ≡ []
unfolding meaning lexed any_text whole any_statement other_statement one_word is_unsupported select cache_word items item call_at call_word is_aggregate_word is_plain_call is_uncached_call column dotted ends_value alias from_part from source table joined where_part condition member_at order_part limit_part lock_part at_end look literal bare_literal signed one_too_many head_of trimmed rows rows_over is_reserved opened
tables_of_nothing = refl

-- ---- starts

-- the next serial, a select with an answer, its table, no entry of its key, and 128 words
may_start : MayStart (sized 1024 512 62) ready 1 rows_key (t ∷ [])
unfolding meaning lexed any_text whole any_statement other_statement one_word is_unsupported select cache_word items item call_at call_word is_aggregate_word is_plain_call is_uncached_call column dotted ends_value alias from_part from source table joined where_part condition member_at order_part limit_part lock_part at_end look literal bare_literal signed one_too_many head_of trimmed rows rows_over is_reserved opened answer_packets packet encoded_integer encoded_string digits
may_start = record { next = refl; has_answer = refl; of_select = refl; no_other = refl; has_region = omega arith }

-- the two lists of tables differ: t is in one of them alone
u_is_not_t : u ∷ [] ≡ t ∷ [] → ⊥
u_is_not_t = λ h. let e : false ≡ true = ap (list_any (same_table t)) h in cc

-- the serial is the next, the tables are those of the select, and there is a region
second_serial : MayStart (sized 1024 512 62) ready 2 rows_key (t ∷ []) → ⊥
second_serial = λ h. let e : 2 ≡ 1 = h.next in omega (arith, e)

-- the select is on t, and not on u
tables_of_another : MayStart (sized 1024 512 62) ready 1 rows_key (u ∷ []) → ⊥
unfolding meaning lexed any_text whole any_statement other_statement one_word is_unsupported select cache_word items item call_at call_word is_aggregate_word is_plain_call is_uncached_call column dotted ends_value alias from_part from source table joined where_part condition member_at order_part limit_part lock_part at_end look literal bare_literal signed one_too_many head_of trimmed rows rows_over is_reserved opened answer_packets packet encoded_integer encoded_string digits
tables_of_another = λ h. u_is_not_t h.of_select

-- a cache of size 0 has no words
start_without_region : MayStart (sized 0 512 62) ready 1 rows_key (t ∷ []) → ⊥
start_without_region = λ h. let e : 0 < 0 = h.has_region in omega (arith, e)

-- an entry of the key is there, though it isn't whole
key_is_taken : MayStart (sized 1024 512 62) filling 2 rows_key (t ∷ []) → ⊥
unfolding trimmed
key_is_taken = λ h. let e : true ≡ false = h.no_other in cc

-- the table isn't there, so the select is refused and has no answer
no_table_yet : MayStart (sized 1024 512 62) (made ∷ []) 1 rows_key (t ∷ []) → ⊥
unfolding meaning lexed any_text whole any_statement other_statement one_word is_unsupported select cache_word items item call_at call_word is_aggregate_word is_plain_call is_uncached_call column dotted ends_value alias from_part from source table joined where_part condition member_at order_part limit_part lock_part at_end look literal bare_literal signed one_too_many head_of trimmed rows rows_over is_reserved opened answer_packets packet encoded_integer encoded_string digits
no_table_yet = λ h. let e : false ≡ true = h.has_answer in cc

-- ---- events behind a journal

-- its answer has 66 bytes
done_within_limit : IsLicensed (sized 1024 512 66) filling (event.Done 1)
unfolding meaning lexed any_text whole any_statement other_statement one_word is_unsupported select cache_word items item call_at call_word is_aggregate_word is_plain_call is_uncached_call column dotted ends_value alias from_part from source table joined where_part condition member_at order_part limit_part lock_part at_end look literal bare_literal signed one_too_many head_of trimmed rows rows_over is_reserved opened answer_packets packet encoded_integer encoded_string digits
done_within_limit = (refl, omega arith)

-- 66 bytes are more than 65
done_above_limit : IsLicensed (sized 1024 512 65) filling (event.Done 1) → ⊥
unfolding meaning lexed any_text whole any_statement other_statement one_word is_unsupported select cache_word items item call_at call_word is_aggregate_word is_plain_call is_uncached_call column dotted ends_value alias from_part from source table joined where_part condition member_at order_part limit_part lock_part at_end look literal bare_literal signed one_too_many head_of trimmed rows rows_over is_reserved opened answer_packets packet encoded_integer encoded_string digits
done_above_limit = λ h. let e : 66 ≤ 65 = h.1 in omega (arith, e)

-- the entry is whole already
done_twice : IsLicensed (sized 1024 512 66) (filling ++ event.Done 1 ∷ []) (event.Done 1) → ⊥
unfolding trimmed
done_twice = λ h. let e : true ≡ false = h.0 in cc

-- an entry that was overtaken has no end
done_overtaken : IsLicensed (sized 1024 512 66) (filling ++ event.Commit (b 1) (op.Put t (row 3) ∷ []) ∷ []) (event.Done 1) → ⊥
unfolding trimmed
done_overtaken = λ h. h

-- the reset removed the entry, so its fill isn't told to be given up
gone_overtaken : IsLicensed (sized 1024 512 66) (three ++ event.Reset (b 1) ∷ []) (event.Gone 3 gone.Ended) → ⊥
gone_overtaken = λ h. h.0

-- 3 is still filled, so its session may end it
gone_licensed : IsLicensed (sized 1024 512 66) three (event.Gone 3 gone.Ended)
gone_licensed = (refl, tt)

-- 1 is whole, and only fills are given up
whole_is_not_gone : IsLicensed (sized 1024 512 66) three (event.Gone 1 gone.Ended) → ⊥
whole_is_not_gone = λ h. let e : true ≡ false = h.0 in cc

-- a hit is on an entry that is whole
hit_licensed : IsLicensed (sized 1024 512 66) three (hits b 1 1)
hit_licensed = (record { next = refl; not_filling = refl }, refl)

-- 3 isn't whole
hit_on_a_fill : IsLicensed (sized 1024 512 66) three (hits b 1 3) → ⊥
hit_on_a_fill = λ h. let e : false ≡ true = h.1 in cc

-- session 1 fills 3, and can't run another command
hit_while_filling : IsLicensed (sized 1024 512 66) three (hits a 4 1) → ⊥
hit_while_filling = λ h. let e : true ≡ false = h.0.not_filling in cc

-- a flush, a reset and SHOW STATUS are licensed by their number alone
flush_licensed : IsLicensed (sized 1024 512 66) three (event.Flush (b 1))
flush_licensed = record { next = refl; not_filling = refl }

-- session 2's first event has the number 1
reset_out_of_number : IsLicensed (sized 1024 512 66) three (event.Reset (b 2)) → ⊥
reset_out_of_number = λ h. let e : 2 ≡ 1 = h.next in omega (arith, e)

-- the totals of SHOW STATUS may be any
status_licensed : IsLicensed (sized 1024 512 66) three (event.Run (b 1) (how.Status (record { blocks = 9; free_blocks = 9; free_words = 9 })))
status_licensed = (record { next = refl; not_filling = refl }, tt)

-- a conflict names a commit on its table
conflict_licensed : IsLicensed (sized 1024 512 66) at_four (event.Run (c 1) (how.Conflict t (Some (pos 1)) 3))
conflict_licensed = (record { next = refl; not_filling = refl }, (omega arith, refl))

-- event 4 commits to u, and not to t
conflict_by_another : IsLicensed (sized 1024 512 66) at_four (event.Run (c 1) (how.Conflict t (Some (pos 1)) 4)) → ⊥
conflict_by_another = λ h. let e : false ≡ true = h.1.1 in cc

-- ---- lawful journals

-- a journal without events is lawful
nothing_is_lawful : IsLawful (sized 1024 512 66) []
nothing_is_lawful = tt

-- three commits that fit and a run, numbered 1 to 4
ready_is_lawful : IsLawful (sized 1024 512 66) ready
ready_is_lawful = (
  (record { next = refl; not_filling = refl }, record { some = omega arith; fit = refl; not_full = refl }, refl),
  (
    (record { next = refl; not_filling = refl }, record { some = omega arith; fit = refl; not_full = refl }, refl),
    (
      (record { next = refl; not_filling = refl }, tt),
      ((record { next = refl; not_filling = refl }, record { some = omega arith; fit = refl; not_full = refl }, refl), tt),
    ),
  ),
)

-- two sessions count their own events; a flush of one and a reset of the other
two_sessions : IsLawful (sized 0 512 66) (event.Flush (a 1) ∷ event.Reset (b 1) ∷ event.Flush (b 2) ∷ event.Reset (a 2) ∷ [])
two_sessions = (record { next = refl; not_filling = refl }, (record { next = refl; not_filling = refl }, (record { next = refl; not_filling = refl }, (record { next = refl; not_filling = refl }, tt))))

-- the first event of a session has the number 1
from_two : IsLawful (sized 1024 512 66) (event.Flush (a 2) ∷ []) → ⊥
from_two = λ h. let e : 2 ≡ 1 = h.0.next in omega (arith, e)

-- what was never begun can't be done
done_of_none : IsLawful (sized 1024 512 66) (event.Done 1 ∷ []) → ⊥
done_of_none = λ h. h.0

-- a database is made once: the second commit doesn't fit what the first made
made_twice : IsLawful (sized 1024 512 66) (made ∷ event.Commit (a 2) (op.CreateDb (codes "d") ∷ []) ∷ []) → ⊥
made_twice = λ h. let e : false ≡ true = h.1.0.1.fit in cc

-- the entries of three have keys that are none, so three isn't lawful: its first start has no answer
three_is_not : IsLawful (sized 1024 512 66) three → ⊥
unfolding answer_packets
three_is_not = λ h. let e : false ≡ true = h.0.1.has_answer in cc

-- ---- needs

-- a need is at least 64 words
nothing_needed : raised 0 ≡ 64
nothing_needed = refl

-- 64 stays 64
least_needed : raised 64 ≡ 64
least_needed = refl

-- what is more stays as it is
more_needed : raised 65 ≡ 65
more_needed = refl

-- keys of 0, 1 and 8 bytes need 64 words; 512 bytes are 64 words, and one more are 65
need_of_none : raised (words_of_bytes 0) ≡ 64
need_of_none = refl

-- 8 bytes are one word, which is raised
need_of_eight : raised (words_of_bytes 8) ≡ 64
need_of_eight = refl

-- 512 bytes are 64 words, which is the least need
need_of_512 : raised (words_of_bytes 512) ≡ 64
need_of_512 = refl

-- one byte more begins the next word
need_of_513 : raised (words_of_bytes 513) ≡ 65
need_of_513 = refl

-- 520 bytes fill it
need_of_520 : raised (words_of_bytes 520) ≡ 65
need_of_520 = refl

-- and one more begins another
need_of_521 : raised (words_of_bytes 521) ≡ 66
need_of_521 = refl

-- a start with units of 4096 bytes needs 64 words for a table, 512 for its result, and those of its key
for_a_table : is_need (sized 1024 4096 62) [] 64 ≡ true
for_a_table = refl

-- 512 words are a unit of 4096 bytes
for_its_result : is_need (sized 1024 4096 62) [] 512 ≡ true
for_its_result = refl

-- a key of 513 bytes has 65 words
for_its_key : is_need (sized 1024 4096 62) (replicate 513 7) 65 ≡ true
for_its_key = refl

-- a key of 512 bytes has 64, so 65 is none of its needs
for_a_shorter_key : is_need (sized 1024 4096 62) (replicate 512 7) 65 ≡ false
for_a_shorter_key = refl

-- a key of one byte has one word, and asks for 64
never_raised : is_need (sized 1024 4096 62) (7 ∷ []) 1 ≡ false
never_raised = refl

-- ---- the needs of prunes

abbrev pub prune : ℕ → ℕ → Event
prune serial need = event.Prune serial need 0

abbrev pub no_room : ℕ → Event
no_room need = event.Run (b 1) (how.Plain (reason.NoRoom need 0))

-- prunes are passed over
behind_prunes : next_other (prune 1 64 ∷ prune 2 65 ∷ event.Flush (b 1) ∷ event.Reset (b 2) ∷ []) ≡ Some (event.Flush (b 1))
behind_prunes = refl

-- the first event that is no prune is the first one
at_once : next_other (event.Done 1 ∷ event.Flush (b 1) ∷ []) ≡ Some (event.Done 1)
at_once = refl

-- behind prunes alone there is none
only_prunes : next_other (prune 1 64 ∷ []) ≡ None
only_prunes = refl

-- a prune for a start has one of the start's needs; its key has 513 bytes
for_the_start : PruneHasNeed (sized 1024 4096 62) three 65 (Some (event.Run (b 1) (how.Start 4 (replicate 513 7) (t ∷ []))))
for_the_start = refl

-- 66 words are neither 64 nor 512 nor 65
not_for_the_start : PruneHasNeed (sized 1024 4096 62) three 66 (Some (event.Run (b 1) (how.Start 4 (replicate 513 7) (t ∷ [])))) → ⊥
not_for_the_start = λ h. let e : false ≡ true = h in cc

-- before a plain run for want of room 64 words or more are asked, as the journal doesn't tell the run's key
for_the_plain_run : PruneHasNeed (sized 1024 4096 62) three 99 (Some (no_room 64))
for_the_plain_run = omega arith

-- 63 words are fewer than a block has
too_little_for_it : PruneHasNeed (sized 1024 4096 62) three 63 (Some (no_room 64)) → ⊥
too_little_for_it = λ h. let e : 64 ≤ 63 = h in omega (arith, e)

-- else it is for a fill, which needs a unit and is under way
for_the_fill : PruneHasNeed (sized 1024 4096 62) three 512 (Some (event.Done 3))
for_the_fill = (refl, refl)

-- also where nothing comes behind it
for_the_fill_at_the_end : PruneHasNeed (sized 1024 4096 62) three 512 None
for_the_fill_at_the_end = (refl, refl)

-- 64 words aren't the unit's 512
not_a_unit : PruneHasNeed (sized 1024 4096 62) three 64 (Some (event.Done 3)) → ⊥
not_a_unit = λ h. let e : 64 ≡ 512 = h.0 in omega (arith, e)

-- the fill is done, so no prune is for one
no_fill : PruneHasNeed (sized 1024 4096 62) (three ++ event.Done 3 ∷ []) 512 (Some (event.Flush (b 1))) → ⊥
no_fill = λ h. let e : false ≡ true = h.1 in cc

-- a journal without prunes and without want of room has no needs
no_needs : HasNeeds (sized 1024 4096 62) story
no_needs = tt

-- two prunes for a fill; then its end, and a plain run
needs_of_fill : HasNeeds (sized 1024 4096 62) (three ++ prune 1 512 ∷ prune 2 512 ∷ event.Done 3 ∷ no_room 64 ∷ [])
needs_of_fill = ((refl, refl), ((refl, refl), (omega arith, tt)))

-- a plain run that asks for less than 64 words
needs_too_little : HasNeeds (sized 1024 4096 62) (three ++ no_room 63 ∷ []) → ⊥
needs_too_little = λ h. let e : 64 ≤ 63 = h.0 in omega (arith, e)

-- ---- the needs before a plain run, the last first

-- two prunes stand in front; the one behind another event isn't theirs
needs_of_two : leading_needs (prune 2 65 ∷ prune 1 64 ∷ event.Done 1 ∷ prune 3 512 ∷ []) ≡ 65 ∷ 64 ∷ []
needs_of_two = refl

-- another event stands in front
no_leading_needs : leading_needs (event.Done 1 ∷ prune 3 512 ∷ []) ≡ []
no_leading_needs = refl

-- a list of prunes alone is needs alone
needs_of_all : leading_needs (prune 2 65 ∷ []) ≡ 65 ∷ []
needs_of_all = refl

-- its own key has 513 bytes: 64, 512 and 65 are its needs, and those of the prunes just before it
own_needs : HasOwnNeeds (sized 1024 4096 62) (prune 9 99 ∷ event.Done 1 ∷ prune 1 64 ∷ prune 2 512 ∷ []) (replicate 513 7) (no_room 65)
own_needs = refl

-- the need of a key that isn't its own, told by itself or by a prune before it
not_its_need : HasOwnNeeds (sized 1024 4096 62) [] (replicate 513 7) (no_room 66) → ⊥
not_its_need = λ h. let e : false ≡ true = h in cc

-- the prune in front of its own need's one asked for 66 words, which its key doesn't need
not_its_prune : HasOwnNeeds (sized 1024 4096 62) (prune 1 66 ∷ prune 2 64 ∷ []) (replicate 513 7) (no_room 65) → ⊥
not_its_prune = λ h. let e : false ≡ true = h in cc

-- another event has none
another_event : HasOwnNeeds (sized 1024 4096 62) (prune 1 66 ∷ []) [] (event.Flush (b 1))
another_event = tt
