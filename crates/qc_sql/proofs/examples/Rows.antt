-- Values and truth, aggregates, order and limits, as the rows of a select have them.
use Rattle.std.proofs.Common.{◌≡◌, ℕ, List, [], ◌∷◌, refl, true, false, Err}
use Rattle.std.specs.Prelude.{codes, Some, None, pos, neg_ℤ, replicate}
use Rattle.std.specs.Fmt.{digits}
use Rattle.std.specs.Ordering.{nat_cmp, is_lt, is_gt}
use Rattle.std.specs.declared.cmp.Ordering.TheVariants.{Less, Equal, Greater}
use Rattle.qc_types.specs.declared.names.Value.{Value}
use Rattle.qc_types.specs.declared.names.Value.TheVariants as value
use Rattle.qc_sql.specs.declared.session.Flags.{Flags}
use Rattle.qc_sql.specs.declared.tables.Column.{Column}
use Rattle.qc_sql.specs.declared.tables.Kind.TheVariants as kind
use Rattle.qc_sql.specs.declared.statements.Op.TheVariants as op
use Rattle.qc_sql.specs.Errors.{unknown_column, ambiguous_column}
use Rattle.qc_sql.specs.Rows.{Bound, combinations, combination_count, find_column, first_repeated, mixes, Number, Words, Nothing, sort_of_value, value_cmp, non_null, sum_value, best, text_of, length_value, concat_texts, concat_value, both, either, negated, all_of, any_of, compared, is_true, sorted, column_flags, words_def, of_sort, cut, groups, at_first}

abbrev int : ℕ → Value
int n = value.Int (pos n)

-- ---- values in order

-- NULL is the lowest
null_first : value_cmp value.Null (value.Int (neg_ℤ (pos 9))) ≡ Less
null_first = refl

nulls_alike : value_cmp value.Null value.Null ≡ Equal
nulls_alike = refl

-- texts go by their bytes, and a text before a longer one that it begins
capital_first : value_cmp (value.Str (codes "b")) (value.Str (codes "B")) ≡ Greater
capital_first = refl

shorter_first : value_cmp (value.Str (codes "a")) (value.Str (codes "a ")) ≡ Less
shorter_first = refl

by_number : value_cmp (int 10) (int 9) ≡ Greater
by_number = refl

sort_of_null : sort_of_value value.Null ≡ Nothing
sort_of_null = refl

null_mixes_with_none : mixes Nothing Words ≡ false
null_mixes_with_none = refl

number_and_text : mixes Number Words ≡ true
number_and_text = refl

-- ---- truth

-- false and unknown is false, true and unknown is unknown
false_and_unknown : both (Some false) None ≡ Some false
false_and_unknown = refl

unknown_and_false : both None (Some false) ≡ Some false
unknown_and_false = refl

true_and_unknown : both (Some true) None ≡ None
true_and_unknown = refl

true_or_unknown : either (Some true) None ≡ Some true
true_or_unknown = refl

unknown_or_false : either None (Some false) ≡ None
unknown_or_false = refl

not_unknown : negated None ≡ None
not_unknown = refl

-- of no tests all hold, and none does
all_of_none : all_of [] ≡ Some true
all_of_none = refl

any_of_none : any_of [] ≡ Some false
any_of_none = refl

one_unknown : all_of (Some true ∷ None ∷ Some true ∷ []) ≡ None
one_unknown = refl

one_true : any_of (None ∷ Some false ∷ Some true ∷ []) ≡ Some true
one_true = refl

unknown_is_not_true : is_true None ≡ false
unknown_is_not_true = refl

with_null : compared op.Ne value.Null (int 1) ≡ None
with_null = refl

null_with_null : compared op.Eq value.Null value.Null ≡ None
null_with_null = refl

at_most_itself : compared op.Le (int 4) (int 4) ≡ Some true
at_most_itself = refl

not_above_itself : compared op.Gt (int 4) (int 4) ≡ Some false
not_above_itself = refl

-- ---- aggregates and functions

sum_of_none : sum_value [] ≡ value.Null
sum_of_none = refl

-- the sum on the way is wider than a column
wide_sum : sum_value (int 9223372036854775807 ∷ int 1 ∷ value.Int (neg_ℤ (pos 3)) ∷ []) ≡ int 9223372036854775805
wide_sum = refl

-- and so may the sum itself be
wider_sum : sum_value (int 9223372036854775807 ∷ int 1 ∷ []) ≡ int 9223372036854775808
wider_sum = refl

least : best (λ a b. is_lt (value_cmp a b)) (int 4 ∷ int 2 ∷ int 3 ∷ []) ≡ int 2
least = refl

greatest_text : best (λ a b. is_gt (value_cmp a b)) (value.Str (codes "a") ∷ value.Str (codes "b") ∷ value.Str [] ∷ []) ≡ value.Str (codes "b")
greatest_text = refl

best_of_none : best (λ a b. is_gt (value_cmp a b)) [] ≡ value.Null
best_of_none = refl

nulls_left_out : non_null (λ c. value.Null) ([] ∷ [] ∷ []) ≡ []
nulls_left_out = refl

zeros_stay : non_null (λ c. int 0) ([] ∷ [] ∷ []) ≡ int 0 ∷ int 0 ∷ []
zeros_stay = refl

first_of_group : at_first (λ c. int 7) ([] ∷ [] ∷ []) ≡ int 7
first_of_group = refl

-- of an empty group it is NULL
first_of_none : at_first (λ c. int 7) [] ≡ value.Null
first_of_none = refl

text_of_negative : text_of (value.Int (neg_ℤ (pos 12))) ≡ Some (codes "-12")
unfolding digits
text_of_negative = refl

-- LENGTH counts the sign as well, and is NULL of NULL
length_of_negative : length_value (text_of (value.Int (neg_ℤ (pos 12)))) ≡ int 3
unfolding digits
length_of_negative = refl

length_of_null : length_value (text_of value.Null) ≡ value.Null
length_of_null = refl

length_of_empty : length_value (text_of (value.Str [])) ≡ int 0
length_of_empty = refl

joined : concat_value (concat_texts (value.Str (codes "a") ∷ int 20 ∷ value.Str [] ∷ [])) ≡ value.Str (codes "a20")
unfolding digits
joined = refl

joined_with_null : concat_value (concat_texts (value.Str (codes "a") ∷ value.Null ∷ [])) ≡ value.Null
joined_with_null = refl

-- 65,536 bytes are too many
longest : concat_value (Some (replicate 65535 97)) ≡ value.Str (replicate 65535 97)
longest = refl

too_long : concat_value (Some (replicate 65536 97)) ≡ value.Null
too_long = refl

-- ---- combinations and columns

abbrev column : List ℕ → Column
column name = record { name = name; kind = kind.Int; not_null = false; primary = false }

abbrev bound : List ℕ → List ℕ → List ℕ → Bound
bound called first second = record { called = called; name = record { db = codes "d"; name = called }; table = record { columns = column first ∷ column second ∷ []; rows = (pos 1, int 1 ∷ int 2 ∷ []) ∷ (pos 3, int 3 ∷ int 4 ∷ []) ∷ [] } }

abbrev two : List Bound
two = bound (codes "t") (codes "k") (codes "v") ∷ bound (codes "u") (codes "w") (codes "v") ∷ []

-- the first table's rows change last
by_first : combinations two ≡ ((int 1 ∷ int 2 ∷ []) ∷ (int 1 ∷ int 2 ∷ []) ∷ []) ∷ ((int 1 ∷ int 2 ∷ []) ∷ (int 3 ∷ int 4 ∷ []) ∷ []) ∷ ((int 3 ∷ int 4 ∷ []) ∷ (int 1 ∷ int 2 ∷ []) ∷ []) ∷ ((int 3 ∷ int 4 ∷ []) ∷ (int 3 ∷ int 4 ∷ []) ∷ []) ∷ []
by_first = refl

-- without tables there is one, which is empty
without_tables : combinations [] ≡ [] ∷ []
without_tables = refl

four : combination_count two ≡ 4
four = refl

in_none : find_column two (record { source = None; name = codes "x" }) ≡ Err (unknown_column (codes "x"))
in_none = refl

in_both : find_column two (record { source = None; name = codes "v" }) ≡ Err (ambiguous_column (codes "v"))
in_both = refl

-- the name of a source that isn't there
in_no_source : find_column two (record { source = Some (codes "x"); name = codes "v" }) ≡ Err (unknown_column (codes "v"))
in_no_source = refl

repeated : first_repeated [] (codes "a" ∷ codes "b" ∷ codes "A" ∷ codes "b" ∷ codes "a" ∷ []) ≡ Some (codes "b")
repeated = refl

none_repeated : first_repeated [] (codes "a" ∷ codes "A" ∷ []) ≡ None
none_repeated = refl

-- ---- order and limits

rising : sorted nat_cmp (3 ∷ 1 ∷ 2 ∷ []) ≡ 1 ∷ 2 ∷ 3 ∷ []
rising = refl

-- what ties keeps its order: here by the first numbers alone
stable : sorted (λ (a b : ℕ × ℕ). nat_cmp a.0 b.0) ((2, 1) ∷ (1, 2) ∷ (2, 3) ∷ (1, 4) ∷ []) ≡ (1, 2) ∷ (1, 4) ∷ (2, 1) ∷ (2, 3) ∷ []
stable = refl

skipped : cut (Some (record { offset = 1; count = 2 })) 1 (codes "abcd") ≡ codes "bc"
skipped = refl

behind_the_end : cut (Some (record { offset = 5; count = 2 })) 9 (codes "ab") ≡ []
behind_the_end = refl

-- the row limit holds where there is no LIMIT
limited : cut None 1 (codes "ab") ≡ codes "a"
limited = refl

one_group : groups true ([] ∷ [] ∷ []) ≡ ([] ∷ [] ∷ []) ∷ []
one_group = refl

-- an aggregate has its one group also where nothing is kept
empty_group : groups true [] ≡ [] ∷ []
empty_group = refl

each_group : groups false ([] ∷ [] ∷ []) ≡ ([] ∷ []) ∷ ([] ∷ []) ∷ []
each_group = refl

-- ---- columns of the result

abbrev mb4 : Flags
mb4 = record { in_trans = false; autocommit = true; charset = 45; ansi = false; row_limit = 10; protocol_form = 0; row_form = 0 }

number_is : of_sort mb4 Number (codes "n") ≡ record { schema = []; table = []; org_table = []; name = codes "n"; org_name = []; charset = 63; length = 20; kind = 8; flags = 0; decimals = 0 }
number_is = refl

-- a literal NULL is shown as a text
null_is : of_sort mb4 Nothing (codes "NULL") ≡ record { schema = []; table = []; org_table = []; name = codes "NULL"; org_name = []; charset = 45; length = 65535; kind = 253; flags = 0; decimals = 0 }
null_is = refl

text_is : words_def mb4 7 1 (codes "v") ≡ record { schema = []; table = []; org_table = []; name = codes "v"; org_name = []; charset = 45; length = 7; kind = 253; flags = 1; decimals = 0 }
text_is = refl

primary_flags : column_flags (record { name = codes "k"; kind = kind.Int; not_null = true; primary = true }) ≡ 3
primary_flags = refl

not_null_flags : column_flags (record { name = codes "k"; kind = kind.Int; not_null = true; primary = false }) ≡ 1
not_null_flags = refl

no_flags : column_flags (column (codes "k")) ≡ 0
no_flags = refl
