-- The names of a tree are short.
use Rattle.std.proofs.Common.{◌≡◌, ℕ, zero, suc, ◌-◌, Bool, true, false, List, [], ◌∷◌, ◌++◌, length, map, refl, ◌∙◌, subst, arith, Option, Some, None, Result, Ok, Err}
use Rattle.std.specs.Prelude.{codes, ◌&&◌, not, nat_le, nat_lt, ◌^◌, is_some, unwrap_or, option_to_list, take, drop}
use Rattle.std.specs.List.{list_all}
use Rattle.std.proofs.lemmas.Bool.{and_parts, and_from, le-leb, lt-ltb}
use Rattle.std.proofs.lemmas.List.{length-take}
use Rattle.std.proofs.lemmas.List.Folds.{list_all-map, list_all-append}
use Rattle.qc_sql.specs.declared.statements.Expr.{Expr}
use Rattle.qc_sql.specs.declared.statements.Expr.TheVariants as expr
use Rattle.qc_sql.specs.declared.statements.Cond.{Cond}
use Rattle.qc_sql.specs.declared.statements.Cond.TheVariants as test
use Rattle.qc_sql.specs.declared.statements.Item.{Item}
use Rattle.qc_sql.specs.declared.statements.Source.{Source}
use Rattle.qc_sql.specs.declared.statements.TableRef.{TableRef}
use Rattle.qc_sql.specs.declared.statements.Statement.{Statement}
use Rattle.qc_sql.specs.declared.statements.Statement.TheVariants as statement
use Rattle.qc_sql.specs.Trees.{fold_expr-Count, fold_expr-Length, fold_expr-Concat, fold_expr-Call, fold_cond-Or, fold_cond-And, fold_cond-Not, fold_expr, fold_cond}
use Rattle.qc_sql.specs.Words.{when}
use Rattle.qc_sql.specs.Database.{Name}
use Rattle.qc_sql.specs.Rules.{same_word}
use Rattle.qc_sql.specs.Tokens.{lexed}
use Rattle.qc_sql.specs.Reading.{ParseFault, Unread, Stop, Refused, Reader, pure, then_read, ◌>>=◌, next_is, at_token, at_word, at_sign, at_name, at_number, at_words, is_among, name_in, word_in}
use Rattle.qc_sql.specs.Reading as reading
use Rattle.qc_sql.specs.Grammar as rule
use Rattle.qc_sql.specs.Grammar.{is_arithmetic, at_literal, at_call, at_aggregate, is_known_call, op_ahead, op_in, negated, grouped, like_at, at_further, with_source, span_text, no_from, all_conds, other_kind, is_pattern, other_show, unsupported_at}
use Rattle.qc_laws.specs.sizes.Names.{is_short, is_bounded_value, are_short_tokens, passes_if_there, is_short_column, is_short_value_at, is_short_value, is_short_cond_at, is_short_cond, is_short_table, is_short_item, is_short_source, is_short_order, says_what, is_short_right, is_short_assignment, is_short_part, is_short_setting, is_short_statement}
use Rattle.qc_laws.specs.sizes.Laws.{ParsedNamesAreShort}
use Rattle.qc_laws.proofs.sizes.Tokens.{tokens_are_short}
use Rattle.qc_laws.proofs.sizes.Readers.{anything, Gave, Passes, one, gives, stops, refuses, refuses_any, read_anything, either, chosen, in_place, then_gave, after, name_passes, any_word_passes, words_pass, number_passes, at_the_word, at_the_sign, some_all, all_from_some, separated_pass, some_listed, weaker, bracketed_passes, optional_passes, listed_pass, passed_passes}

-- both of two tests hold
both : {a b : Bool} → a ≡ true → b ≡ true → (a && b) ≡ true
both {a = a} {b = b} h g = and_from a b h g

-- ---- names and values

abbrev is_short_pair : Option Name × Name → Bool
is_short_pair d = passes_if_there is_short d.0 && is_short d.1

dotted_short : Passes is_short_pair rule.dotted
unfolding rule.dotted
dotted_short = after name_passes (λ a h. either (at_sign (codes ".")) (after (at_the_sign (codes ".")) (λ _ _. after name_passes (λ b g. gives (both h g)))) (gives h))

table_short : Passes is_short_table rule.table
unfolding rule.table
table_short = after dotted_short (λ d h. gives h)

ends_value_passes : Passes anything rule.ends_value
unfolding rule.ends_value
ends_value_passes = either (next_is is_arithmetic) refuses (gives refl)

column_short : Passes is_short_column rule.column
unfolding rule.column
column_short = after dotted_short (λ d h. after ends_value_passes (λ _ _. gives h))

signed_bounded : (negative : Bool) (n : ℕ) → Passes is_bounded_value (rule.signed negative n)
unfolding rule.signed
signed_bounded negative n = chosen negative (chosen (nat_le n (2 ^ 63)) (gives refl) refuses) (chosen (nat_lt n (2 ^ 63)) (gives refl) refuses)

bare_literal_bounded : Passes is_bounded_value rule.bare_literal
unfolding rule.bare_literal
bare_literal_bounded =
    either at_number (after number_passes (λ n _. signed_bounded false n))
    (either (at_sign (codes "-")) (after (at_the_sign (codes "-")) (λ _ _. after number_passes (λ n _. signed_bounded true n)))
    (either at_words (after words_pass (λ t h. gives h))
    (after (at_the_word (codes "NULL")) (λ _ _. gives refl))))

literal_bounded : Passes is_bounded_value rule.literal
unfolding rule.literal
literal_bounded = after bare_literal_bounded (λ v h. after ends_value_passes (λ _ _. gives h))

tuple_bounded : Passes (list_all is_bounded_value) rule.tuple
unfolding rule.tuple
tuple_bounded = bracketed_passes (listed_pass literal_bounded)

-- ---- calls

call_word_short : (aggregates : Bool) → Passes is_short (rule.call_word aggregates)
unfolding rule.call_word
call_word_short aggregates = either (λ u. not aggregates && at_aggregate u) stops (after any_word_passes (λ w h. chosen (is_known_call w) (gives h) refuses))

column_argument_short : Passes is_short_column rule.column_argument
unfolding rule.column_argument
column_argument_short = bracketed_passes column_short

each_part : (es : List Expr) → list_all is_short_value es ≡ true → list_all (λ part. part) (map (fold_expr is_short_value_at) es) ≡ true
each_part es h = list_all-map (λ part. part) (fold_expr is_short_value_at) es ∙ h

length_short : (e : Expr) → is_short_value e ≡ true → is_short_value (expr.Length e) ≡ true
length_short e h = fold_expr-Length is_short_value_at e ∙ h

count_short : (e : Expr) → is_short_value e ≡ true → is_short_value (expr.Count e) ≡ true
count_short e h = fold_expr-Count is_short_value_at e ∙ h

concat_short : (es : List Expr) → list_all is_short_value es ≡ true → is_short_value (expr.Concat es) ≡ true
concat_short es h = fold_expr-Concat is_short_value_at es ∙ each_part es h

other_short : (w : Name) (es : List Expr) → is_short w ≡ true → list_all is_short_value es ≡ true → is_short_value (expr.Call w es) ≡ true
other_short w es g h = fold_expr-Call is_short_value_at w es ∙ both g (each_part es h)

call_of_short : {p q : Reader Expr} (w : Name) → is_short w ≡ true → Passes is_short_value p → Passes is_short_value q → Passes is_short_value (rule.call_of p q w)
call_of_short w g a b =
    chosen (same_word w (codes "LENGTH")) (after (bracketed_passes a) (λ e h. gives (length_short e h)))
    (chosen (same_word w (codes "CONCAT")) (after (bracketed_passes (listed_pass a)) (λ es h. gives (concat_short es h)))
    (chosen (same_word w (codes "COUNT")) (bracketed_passes (either (at_sign (codes "*")) (after (at_the_sign (codes "*")) (λ _ _. gives refl)) (after b (λ e h. gives (count_short e h)))))
    (chosen (same_word w (codes "SUM")) (after column_argument_short (λ c h. gives h))
    (chosen (same_word w (codes "MIN")) (after column_argument_short (λ c h. gives h))
    (chosen (same_word w (codes "MAX")) (after column_argument_short (λ c h. gives h))
    (after (bracketed_passes (either (at_sign (codes ")")) (gives refl) (listed_pass a))) (λ es h. gives (other_short w es g h))))))))

value_of_short : {call : Reader Expr} → Passes is_short_value call → Passes is_short_value (rule.value_of call)
value_of_short a =
    either at_literal (after literal_bounded (λ v h. gives h))
    (either at_call (after a (λ e h. after ends_value_passes (λ _ _. gives h)))
    (after column_short (λ c h. gives h)))

too_deep_passes : {A : Type 0} (t : A → Bool) → Passes t rule.too_deep
too_deep_passes t = after (at_the_sign (codes "(")) (λ _ _. refuses)

call_short : (n : ℕ) (aggregates : Bool) → Passes is_short_value (rule.call_at n aggregates)
unfolding rule.call_at
call_short zero aggregates = after (call_word_short aggregates) (λ _ _. too_deep_passes is_short_value)
call_short (suc n) aggregates = after (call_word_short aggregates) (λ w h. call_of_short w h (value_of_short (call_short n aggregates)) (value_of_short (call_short n false)))

value_short : (n : ℕ) (aggregates : Bool) → Passes is_short_value (rule.value_at n aggregates)
value_short n aggregates = value_of_short (call_short n aggregates)

-- ---- conditions

each_cond : (cs : List Cond) → list_all is_short_cond cs ≡ true → list_all (λ part. part) (map (fold_cond is_short_cond_at) cs) ≡ true
each_cond cs h = list_all-map (λ part. part) (fold_cond is_short_cond_at) cs ∙ h

or_short : (cs : List Cond) → list_all is_short_cond cs ≡ true → is_short_cond (test.Or cs) ≡ true
or_short cs h = fold_cond-Or is_short_cond_at cs ∙ each_cond cs h

and_short : (cs : List Cond) → list_all is_short_cond cs ≡ true → is_short_cond (test.And cs) ≡ true
and_short cs h = fold_cond-And is_short_cond_at cs ∙ each_cond cs h

not_short : (c : Cond) → is_short_cond c ≡ true → is_short_cond (test.Not c) ≡ true
not_short c h = fold_cond-Not is_short_cond_at c ∙ h

negated_short : (b : Bool) (c : Cond) → is_short_cond c ≡ true → is_short_cond (negated b c) ≡ true
negated_short true c h = not_short c h
negated_short false c h = h

alone : (c : Cond) → list_all is_short_cond (c ∷ []) ≡ true → is_short_cond c ≡ true
alone c h = (and_parts (is_short_cond c) true h).0

grouped_short : (f : List Cond → Cond) → ((cs : List Cond) → list_all is_short_cond cs ≡ true → is_short_cond (f cs) ≡ true) → (cs : List Cond) → list_all is_short_cond cs ≡ true → is_short_cond (grouped f cs) ≡ true
grouped_short f k [] h = k [] h
grouped_short f k (c ∷ []) h = alone c h
grouped_short f k (c ∷ d ∷ ds) h = k (c ∷ d ∷ ds) h

null_test_short : (a : Expr) → is_short_value a ≡ true → Passes is_short_cond (rule.null_test a)
unfolding rule.null_test
null_test_short a h = after (at_the_word (codes "IS")) (λ _ _. after (passed_passes (codes "NOT")) (λ n _. after (at_the_word (codes "NULL")) (λ _ _. gives (negated_short n (test.IsNull a) h))))

in_test_short : (a : Expr) → is_short_value a ≡ true → Passes is_short_cond (rule.in_test a)
unfolding rule.in_test
in_test_short a h = after (at_the_word (codes "IN")) (λ _ _. after tuple_bounded (λ vs g. gives (both h g)))

between_test_short : {p : Reader Expr} (a : Expr) → is_short_value a ≡ true → Passes is_short_value p → Passes is_short_cond (rule.between_test p a)
between_test_short a h k = after (at_the_word (codes "BETWEEN")) (λ _ _. after k (λ low g. after (at_the_word (codes "AND")) (λ _ _. after k (λ high f. gives (both h (both g f))))))

test_behind_short : {p : Reader Expr} (a : Expr) → is_short_value a ≡ true → Passes is_short_value p → Passes is_short_cond (rule.test_behind p a)
test_behind_short a h k =
    either (λ u. is_some (op_ahead u)) (after (read_anything op_in) (λ o _. after k (λ b g. gives (both h g))))
    (either (at_word (codes "IS")) (null_test_short a h)
    (after (passed_passes (codes "NOT")) (λ n _. after (either (at_word (codes "IN")) (in_test_short a h) (between_test_short a h k)) (λ c g. gives (negated_short n c g)))))

joined_by_short : {p : Reader Cond} (w : Name) (f : List Cond → Cond) → ((cs : List Cond) → list_all is_short_cond cs ≡ true → is_short_cond (f cs) ≡ true) → Passes is_short_cond p → Passes is_short_cond (rule.joined_by w f p)
joined_by_short w f k a = after (weaker (all_from_some is_short_cond) (separated_pass (at_word w) (at_the_word w) a)) (λ cs h. gives (grouped_short f k cs h))

member_of_short : {member brackets : Reader Cond} {p : Reader Expr} → Passes is_short_cond member → Passes is_short_cond brackets → Passes is_short_value p → Passes is_short_cond (rule.member_of member brackets p)
member_of_short a b c =
    either (at_word (codes "NOT")) (after (at_the_word (codes "NOT")) (λ _ _. after a (λ d h. gives (not_short d h))))
    (in_place like_at (either (at_sign (codes "(")) b (after c (λ e h. test_behind_short e h c))))

any_of_short : {member : Reader Cond} → Passes is_short_cond member → Passes is_short_cond (rule.any_of member)
any_of_short a = joined_by_short (codes "OR") test.Or or_short (joined_by_short (codes "AND") test.And and_short a)

member_short : (n : ℕ) → Passes is_short_cond (rule.member_at n)
unfolding rule.member_at
member_short zero = member_of_short refuses (too_deep_passes is_short_cond) (value_short 0 false)
member_short (suc n) = member_of_short (member_short n) (bracketed_passes (any_of_short (member_short n))) (value_short (suc n) false)

condition_short : Passes is_short_cond rule.condition
unfolding rule.condition
condition_short = any_of_short (member_short rule.most_open)

-- ---- select

alias_short : Passes (passes_if_there is_short) rule.alias
unfolding rule.alias
alias_short = either (at_word (codes "AS")) (after (at_the_word (codes "AS")) (λ _ _. after name_passes (λ n h. gives h))) (optional_passes at_name name_passes)

span_few : (from to : ℕ) (text : List ℕ) → nat_le (length (span_text from to text)) 255 ≡ true
span_few from to text = le-leb (length (span_text from to text)) 255 (omega (arith, length-take 255 (take (to - from) (drop from text))))

spanned_short : {p : Reader Expr} → Passes is_short_value p → Passes (λ v. is_short_value v.0) (rule.spanned p)
spanned_short {p = p} a = record { at = λ u h. then_gave is_short_value (p u) _ (a.at u h) (λ e g. record { at = λ rest f. (g, f) }) }

item_short : Passes is_short_item rule.item
unfolding rule.item
item_short = record {
  at = λ u h. then_gave (λ v. is_short_value v.0) (rule.spanned (rule.value_at rule.most_open true) u) _ ((spanned_short (value_short rule.most_open true)).at u h)
      (λ v g. after alias_short (λ n f. gives (both g (both f (span_few v.1 v.2 u.text)))));
}

alias_or : (n : Option Name) (m : Name) → passes_if_there is_short n ≡ true → is_short m ≡ true → is_short (unwrap_or n m) ≡ true
alias_or None m h g = g
alias_or (Some n) m h g = h

table_name_short : (t : TableRef) → is_short_table t ≡ true → is_short t.name ≡ true
table_name_short t h = (and_parts (passes_if_there is_short t.db) (is_short t.name) h).1

source_short : Passes is_short_source rule.source
unfolding rule.source
source_short = after table_short (λ t h. after alias_short (λ n g. gives (both h (alias_or n t.name g (table_name_short t h)))))

look_passes : Passes anything rule.look
unfolding rule.look
look_passes = record { at = λ u h. one anything (is_some u.fault && nat_le (length u.tokens) 0) (reading.stop u) (pure tt u) tt (refl, h) }

one_too_many_passes : (t : rule.Joined → Bool) → Passes t rule.one_too_many
unfolding rule.one_too_many
one_too_many_passes t = after table_short (λ _ _. after look_passes (λ _ _. record { at = λ u h. tt }))

join_words_pass : Passes anything rule.join_words
unfolding rule.join_words
join_words_pass = after (passed_passes (codes "INNER")) (λ _ _. at_the_word (codes "JOIN"))

abbrev is_short_further : Source × Option Cond → Bool
is_short_further f = is_short_source f.0 && passes_if_there is_short_cond f.1

further_source_short : Passes is_short_further rule.further_source
unfolding rule.further_source
further_source_short =
    either (at_sign (codes ",")) (after (at_the_sign (codes ",")) (λ _ _. after source_short (λ s h. gives (both h refl))))
    (after join_words_pass (λ _ _. after source_short (λ s h. after (at_the_word (codes "ON")) (λ _ _. after condition_short (λ c g. gives (both h g))))))

abbrev are_short_joined : rule.Joined → Bool
are_short_joined j = list_all is_short_source j.sources && list_all is_short_cond j.conds

too_many_passes : Passes are_short_joined rule.too_many
unfolding rule.too_many
too_many_passes = after (either (at_sign (codes ",")) (at_the_sign (codes ",")) join_words_pass) (λ _ _. one_too_many_passes are_short_joined)

all_append : {A : Type 0} (t : A → Bool) (xs ys : List A) → list_all t xs ≡ true → list_all t ys ≡ true → list_all t (xs ++ ys) ≡ true
all_append t xs ys h g = list_all-append t xs ys ∙ both h g

all_of_option : {A : Type 0} (t : A → Bool) (x : Option A) → passes_if_there t x ≡ true → list_all t (option_to_list x) ≡ true
all_of_option t None h = refl
all_of_option t (Some x) h = both h refl

with_source_short : (j : rule.Joined) (f : Source × Option Cond) → are_short_joined j ≡ true → is_short_further f ≡ true → are_short_joined (with_source j f) ≡ true
with_source_short j f h g =
    let before = and_parts (list_all is_short_source j.sources) (list_all is_short_cond j.conds) h in
    let further = and_parts (is_short_source f.0) (passes_if_there is_short_cond f.1) g in
    both (all_append is_short_source j.sources (f.0 ∷ []) before.0 (both further.0 refl)) (all_append is_short_cond j.conds (option_to_list f.1) before.1 (all_of_option is_short_cond f.1 further.1))

joined_short : (n : ℕ) (j : rule.Joined) → are_short_joined j ≡ true → Passes are_short_joined (rule.joined n j)
unfolding rule.joined
joined_short zero j h = either at_further too_many_passes (gives h)
joined_short (suc n) j h = either at_further (after further_source_short (λ f g. joined_short n (with_source j f) (with_source_short j f h g))) (gives h)

order_short : Passes is_short_order rule.order
unfolding rule.order
order_short = after column_short (λ c h. after (passed_passes (codes "DESC")) (λ down _. after (either (λ u. not down && at_word (codes "ASC") u) (at_the_word (codes "ASC")) (gives refl)) (λ _ _. gives h)))

limit_passes : Passes anything rule.limit
unfolding rule.limit
limit_passes =
    after number_passes (λ a _.
    either (at_sign (codes ",")) (after (at_the_sign (codes ",")) (λ _ _. after number_passes (λ b _. gives refl)))
    (either (at_word (codes "OFFSET")) (after (at_the_word (codes "OFFSET")) (λ _ _. after number_passes (λ b _. gives refl))) (gives refl)))

cache_word_passes : Passes anything rule.cache_word
unfolding rule.cache_word
cache_word_passes =
    either (at_word (codes "SQL_CACHE")) (after (at_the_word (codes "SQL_CACHE")) (λ _ _. gives refl))
    (either (at_word (codes "SQL_NO_CACHE")) (after (at_the_word (codes "SQL_NO_CACHE")) (λ _ _. gives refl)) (gives refl))

abbrev are_short_items : Bool × List Item → Bool
are_short_items i = says_what i.0 i.1 && list_all is_short_item i.1

some_items : (is : List Item) → some_all is_short_item is ≡ true → are_short_items (false, is) ≡ true
some_items [] h = h
some_items (i ∷ is) h = both (lt-ltb 0 (length (i ∷ is)) (omega arith)) h

items_short : Passes are_short_items rule.items
unfolding rule.items
items_short = either (at_sign (codes "*")) (after (at_the_sign (codes "*")) (λ _ _. gives refl)) (after (some_listed item_short) (λ is h. gives (some_items is h)))

where_part_short : Passes (passes_if_there is_short_cond) rule.where_part
unfolding rule.where_part
where_part_short = optional_passes (at_word (codes "WHERE")) (after (at_the_word (codes "WHERE")) (λ _ _. condition_short))

order_part_short : Passes (list_all is_short_order) rule.order_part
unfolding rule.order_part
order_part_short = either (at_word (codes "ORDER")) (after (at_the_word (codes "ORDER")) (λ _ _. after (at_the_word (codes "BY")) (λ _ _. listed_pass order_short))) (gives refl)

all_conds_short : (cs : List Cond) → list_all is_short_cond cs ≡ true → passes_if_there is_short_cond (all_conds cs) ≡ true
all_conds_short [] h = refl
all_conds_short (c ∷ cs) h = grouped_short test.And and_short (c ∷ cs) h

abbrev is_short_behind : rule.Behind → Bool
is_short_behind f = list_all is_short_source f.sources && (passes_if_there is_short_cond f.cond && list_all is_short_order f.order)

behind_short : (j : rule.Joined) (c : Option Cond) → are_short_joined j ≡ true → passes_if_there is_short_cond c ≡ true
    → (list_all is_short_source j.sources ≡ true) × (passes_if_there is_short_cond (all_conds (j.conds ++ option_to_list c)) ≡ true)
behind_short j c h g =
    let parts = and_parts (list_all is_short_source j.sources) (list_all is_short_cond j.conds) h in
    (parts.0, all_conds_short (j.conds ++ option_to_list c) (all_append is_short_cond j.conds (option_to_list c) parts.1 (all_of_option is_short_cond c g)))

from_short : Passes is_short_behind rule.from
unfolding rule.from
from_short =
    after (at_the_word (codes "FROM")) (λ _ _. after source_short (λ s h. after (joined_short 7 (record { sources = s ∷ []; conds = [] }) (both (both h refl) refl)) (λ j g.
    after where_part_short (λ c f. after order_part_short (λ os e. gives (let parts = behind_short j c g f in both parts.0 (both parts.1 e)))))))

from_part_short : Passes is_short_behind rule.from_part
unfolding rule.from_part
from_part_short = either (at_word (codes "FROM")) from_short (gives refl)

limit_part_passes : Passes anything rule.limit_part
unfolding rule.limit_part
limit_part_passes = either (at_word (codes "LIMIT")) (after (after (at_the_word (codes "LIMIT")) (λ _ _. limit_passes)) (λ _ _. gives refl)) (gives refl)

lock_part_passes : Passes anything rule.lock_part
unfolding rule.lock_part
lock_part_passes =
    either (at_word (codes "FOR")) (after (at_the_word (codes "FOR")) (λ _ _. after (at_the_word (codes "UPDATE")) (λ _ _. gives refl)))
    (either (at_word (codes "LOCK")) (after (at_the_word (codes "LOCK")) (λ _ _. after (at_the_word (codes "IN")) (λ _ _. after (at_the_word (codes "SHARE")) (λ _ _. after (at_the_word (codes "MODE")) (λ _ _. gives refl))))) (gives refl))

-- the parts of a select in the order of their test
select_parts : (i : Bool × List Item) (f : rule.Behind) → are_short_items i ≡ true → is_short_behind f ≡ true
    → (says_what i.0 i.1 && (list_all is_short_item i.1 && (list_all is_short_source f.sources && (passes_if_there is_short_cond f.cond && list_all is_short_order f.order)))) ≡ true
select_parts i f h g = let parts = and_parts (says_what i.0 i.1) (list_all is_short_item i.1) h in both parts.0 (both parts.1 g)

select_short : Passes is_short_statement rule.select
unfolding rule.select
select_short =
    after (at_the_word (codes "SELECT")) (λ _ _. after cache_word_passes (λ c _. after items_short (λ i h. after from_part_short (λ f g. after limit_part_passes (λ l _.
    after lock_part_passes (λ k _. gives (select_parts i f h g)))))))

-- ---- statements that change rows

names_part_short : Passes (passes_if_there (list_all is_short)) rule.names_part
unfolding rule.names_part
names_part_short = optional_passes (at_sign (codes "(")) (bracketed_passes (listed_pass name_passes))

insert_short : Passes is_short_statement rule.insert
unfolding rule.insert
insert_short =
    after (at_the_word (codes "INSERT")) (λ _ _. after (at_the_word (codes "INTO")) (λ _ _. after table_short (λ t h. after names_part_short (λ names g. after (at_the_word (codes "VALUES")) (λ _ _.
    after (listed_pass tuple_bounded) (λ rows f. gives (both h (both g f))))))))

right_side_short : Passes is_short_right rule.right_side
unfolding rule.right_side
right_side_short = either at_name (after name_passes (λ m h. after ends_value_passes (λ _ _. gives h))) (after literal_bounded (λ v h. gives h))

assignment_short : Passes is_short_assignment rule.assignment
unfolding rule.assignment
assignment_short = after name_passes (λ n h. after (at_the_sign (codes "=")) (λ _ _. after right_side_short (λ r g. gives (both h g))))

update_short : Passes is_short_statement rule.update
unfolding rule.update
update_short =
    after (at_the_word (codes "UPDATE")) (λ _ _. after table_short (λ t h. after (at_the_word (codes "SET")) (λ _ _. after (listed_pass assignment_short) (λ sets g. after where_part_short (λ c f.
    gives (both h (both g f)))))))

delete_short : Passes is_short_statement rule.delete
unfolding rule.delete
delete_short = after (at_the_word (codes "DELETE")) (λ _ _. after (at_the_word (codes "FROM")) (λ _ _. after table_short (λ t h. after where_part_short (λ c g. gives (both h g)))))

truncate_short : Passes is_short_statement rule.truncate
unfolding rule.truncate
truncate_short = after (at_the_word (codes "TRUNCATE")) (λ _ _. after (passed_passes (codes "TABLE")) (λ _ _. after table_short (λ t h. gives h)))

-- ---- statements that change tables and databases

other_type_passes : Passes anything rule.other_type
unfolding rule.other_type
other_type_passes = after (read_anything other_kind) (λ w _. refuses)

length_part_passes : Passes anything rule.length_part
unfolding rule.length_part
length_part_passes = bracketed_passes number_passes

part_kind_passes : Passes anything rule.part_kind
unfolding rule.part_kind
part_kind_passes =
    either (at_word (codes "BIGINT")) (after (at_the_word (codes "BIGINT")) (λ _ _. gives refl))
    (either (at_word (codes "VARCHAR")) (after (at_the_word (codes "VARCHAR")) (λ _ _. after length_part_passes (λ n _. gives refl))) other_type_passes)

null_part_passes : Passes anything rule.null_part
unfolding rule.null_part
null_part_passes = either (at_word (codes "NOT")) (after (at_the_word (codes "NOT")) (λ _ _. after (at_the_word (codes "NULL")) (λ _ _. gives refl))) (after (passed_passes (codes "NULL")) (λ _ _. gives refl))

primary_key_passes : Passes anything rule.primary_key
unfolding rule.primary_key
primary_key_passes = after (at_the_word (codes "PRIMARY")) (λ _ _. at_the_word (codes "KEY"))

key_part_passes : Passes anything rule.key_part
unfolding rule.key_part
key_part_passes = either (at_word (codes "PRIMARY")) (after primary_key_passes (λ _ _. gives refl)) (gives refl)

key_of_table_short : Passes is_short_part rule.key_of_table
unfolding rule.key_of_table
key_of_table_short = after primary_key_passes (λ _ _. after (bracketed_passes name_passes) (λ n h. gives h))

column_part_short : Passes is_short_part rule.column_part
unfolding rule.column_part
column_part_short = after name_passes (λ n h. after part_kind_passes (λ k _. after null_part_passes (λ required _. after key_part_passes (λ key _. gives h))))

part_short : Passes is_short_part rule.part
unfolding rule.part
part_short = either (at_word (codes "PRIMARY")) key_of_table_short column_part_short

no_option_passes : Passes anything rule.no_option
unfolding rule.no_option
no_option_passes = either (next_is (λ l. is_some (word_in l))) refuses (gives refl)

create_table_short : Passes is_short_statement rule.create_table
unfolding rule.create_table
create_table_short = after (at_the_word (codes "TABLE")) (λ _ _. after table_short (λ t h. after (bracketed_passes (listed_pass part_short)) (λ parts g. after no_option_passes (λ _ _. gives (both h g)))))

create_short : Passes is_short_statement rule.create
unfolding rule.create
create_short =
    after (at_the_word (codes "CREATE")) (λ _ _.
    either (at_word (codes "DATABASE")) (after (at_the_word (codes "DATABASE")) (λ _ _. after name_passes (λ n h. gives h)))
    (either (at_word (codes "TABLE")) create_table_short refuses_any))

dropped_short : Passes is_short_statement rule.dropped
unfolding rule.dropped
dropped_short =
    after (at_the_word (codes "DROP")) (λ _ _.
    either (at_word (codes "DATABASE")) (after (at_the_word (codes "DATABASE")) (λ _ _. after name_passes (λ n h. gives h)))
    (either (at_word (codes "TABLE")) (after (at_the_word (codes "TABLE")) (λ _ _. after table_short (λ t h. gives h))) refuses_any))

-- ---- the others

use_short : Passes is_short_statement rule.use_database
unfolding rule.use_database
use_short = after (at_the_word (codes "USE")) (λ _ _. after name_passes (λ n h. gives h))

start_short : Passes is_short_statement rule.start_transaction
unfolding rule.start_transaction
start_short = after (at_the_word (codes "START")) (λ _ _. after (at_the_word (codes "TRANSACTION")) (λ _ _. gives refl))

simple_short : {otherwise : Reader Statement} (w : Name) (s : Statement) → is_short_statement s ≡ true → Passes is_short_statement otherwise → Passes is_short_statement (rule.simple w s otherwise)
simple_short w s h a = either (at_word w) (after (at_the_word w) (λ _ _. gives h)) a

flush_short : Passes is_short_statement rule.flush
unfolding rule.flush
flush_short =
    after (at_the_word (codes "FLUSH")) (λ _ _.
    either (at_word (codes "TABLES")) (after (at_the_word (codes "TABLES")) (λ _ _. gives refl))
    (after (at_the_word (codes "QUERY")) (λ _ _. after (at_the_word (codes "CACHE")) (λ _ _. gives refl))))

reset_short : Passes is_short_statement rule.reset
unfolding rule.reset
reset_short = after (at_the_word (codes "RESET")) (λ _ _. after (at_the_word (codes "QUERY")) (λ _ _. after (at_the_word (codes "CACHE")) (λ _ _. gives refl)))

show_status_short : Passes is_short_statement rule.show_status
unfolding rule.show_status
show_status_short =
    after (at_the_word (codes "SHOW")) (λ _ _. after (passed_passes (codes "GLOBAL")) (λ _ _. after (at_the_word (codes "STATUS")) (λ _ _. after (at_the_word (codes "LIKE")) (λ _ _.
    after (read_anything (λ l. when (is_pattern l) tt)) (λ _ _. gives refl)))))

show_short : Passes is_short_statement rule.show
unfolding rule.show
show_short = in_place other_show show_status_short

set_value_passes : Passes anything rule.set_value
unfolding rule.set_value
set_value_passes =
    either at_number (after number_passes (λ n _. gives refl))
    (either at_words (after words_pass (λ t _. gives refl))
    (either (at_word (codes "DEFAULT")) (after (at_the_word (codes "DEFAULT")) (λ _ _. gives refl))
    (after any_word_passes (λ w _. gives refl))))

set_variable_short : (n : Name) → is_short n ≡ true → Passes is_short_setting (rule.set_variable n)
unfolding rule.set_variable
set_variable_short n h = after (at_the_sign (codes "=")) (λ _ _. after set_value_passes (λ v _. gives h))

setting_short : (w : Name) → is_short w ≡ true → Passes is_short_setting (rule.setting_of w)
unfolding rule.setting_of
setting_short w h =
    either (at_sign (codes "=")) (set_variable_short w h)
    (chosen (same_word w (codes "NAMES")) (after any_word_passes (λ n _. gives refl))
    (chosen (same_word w (codes "SESSION")) (after any_word_passes set_variable_short)
    (chosen (same_word w (codes "GLOBAL")) refuses_any
    (chosen (same_word w (codes "TRANSACTION")) refuses_any stops))))

no_second_passes : Passes anything rule.no_second
unfolding rule.no_second
no_second_passes = either (at_sign (codes ",")) refuses (gives refl)

set_short : Passes is_short_statement rule.set
unfolding rule.set
set_short = after (at_the_word (codes "SET")) (λ _ _. after (after any_word_passes setting_short) (λ s h. after no_second_passes (λ _ _. gives h)))

one_word_short : Passes is_short_statement rule.one_word
unfolding rule.one_word
one_word_short = simple_short (codes "BEGIN") statement.Begin refl (simple_short (codes "COMMIT") statement.Commit refl (simple_short (codes "ROLLBACK") statement.Rollback refl stops))

other_statement_short : Passes is_short_statement rule.other_statement
unfolding rule.other_statement
other_statement_short =
    either (at_word (codes "USE")) use_short
    (either (at_word (codes "START")) start_short
    (either (at_word (codes "FLUSH")) flush_short
    (either (at_word (codes "RESET")) reset_short
    (either (at_word (codes "SHOW")) show_short
    (either (at_word (codes "SET")) set_short one_word_short)))))

any_statement_short : Passes is_short_statement rule.any_statement
unfolding rule.any_statement
any_statement_short =
    either (at_word (codes "SELECT")) select_short
    (either (at_word (codes "INSERT")) insert_short
    (either (at_word (codes "UPDATE")) update_short
    (either (at_word (codes "DELETE")) delete_short
    (either (at_word (codes "TRUNCATE")) truncate_short
    (either (at_word (codes "CREATE")) create_short
    (either (at_word (codes "DROP")) dropped_short other_statement_short))))))

-- ---- the whole

at_end_passes : Passes anything rule.at_end
unfolding rule.at_end
at_end_passes = either at_token stops look_passes

whole_short : Passes is_short_statement rule.whole
unfolding rule.whole
whole_short = after any_statement_short (λ s h. after at_end_passes (λ _ _. gives h))

text_gave : (u : Unread) → are_short_tokens u.tokens ≡ true → Gave is_short_statement (rule.any_text u)
unfolding rule.any_text
text_gave u h = (in_place (unsupported_at (at_word (codes "SELECT") u)) whole_short).at u h

result_short : (bytes : ℕ) (x : Result (Statement × Unread) Stop) (s : Statement) → Gave is_short_statement x → rule.statement_of bytes x ≡ Ok s → is_short_statement s ≡ true
result_short bytes (Ok x) s h e = let same : x.0 ≡ s = cc in subst (λ (t : Statement). is_short_statement t ≡ true) same h.0
result_short bytes (Err why) s h e = absurd cc

pub parsed_names_are_short : ParsedNamesAreShort
unfolding rule.meaning
parsed_names_are_short text ansi s e = result_short (length text) (rule.any_text (rule.from_front text (lexed text ansi))) s (text_gave _ (tokens_are_short text ansi)) e
