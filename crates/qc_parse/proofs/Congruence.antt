-- What holds of the small readers, and of whatever is put together of such, holds of each rule of the grammar.
use Rattle.std.proofs.Common.{◌≡◌, ℕ, zero, suc, Bool, true, false, cond, List, [], ◌∷◌, Option, Some, None, Err, refl, sym, subst, ap, ◌∙◌}
use Rattle.std.specs.Prelude.{◌&&◌, ◌||◌, not, map, codes, nat_le, nat_lt, ◌^◌, is_some}
use Rattle.qc_types.specs.declared.names.Value.TheVariants as value
use Rattle.qc_sql.specs.declared.statements.Expr.{Expr}
use Rattle.qc_sql.specs.declared.statements.Expr.TheVariants as expr
use Rattle.qc_sql.specs.declared.statements.Cond.{Cond}
use Rattle.qc_sql.specs.declared.statements.Cond.TheVariants as test
use Rattle.qc_sql.specs.declared.statements.Item.{Item}
use Rattle.qc_sql.specs.declared.statements.Statement.{Statement}
use Rattle.qc_sql.specs.declared.statements.Statement.TheVariants as statement
use Rattle.qc_sql.specs.Words.{when}
use Rattle.qc_sql.specs.Rules.{same_word}
use Rattle.qc_sql.specs.Database.{Name}
use Rattle.qc_sql.specs.Tokens.{Lexeme, Word, Token}
use Rattle.qc_sql.specs.Reading.{TooManyTables, Unread, Refused, Reader, refuse_any, pure, ◌>>=◌, stop, refuse, token_is, next_is, reads, next, branch, passed, separated, listed, opened, bracketed, in_place_of_syntax, is_word, is_sign, word_in, name_in}
use Rattle.qc_sql.specs.Grammar.{dotted, table, column, ends_value, signed, bare_literal, literal, tuple, at_literal, begins_call, at_call, call_word, is_known_call, column_argument, call_of, value_of, call_at, value_at, null_test, in_test, op_first, op_in, op_ahead, like_at, negated, grouped, joined_by, any_of, member_of, test_of, test_behind, member_at, most_open, condition, alias, item, source, look, one_too_many, join_words, at_further, further_source, too_many, joined, with_source, Joined, order, limit, cache_word, items, where_part, order_part, from, from_part, limit_part, lock_part, select, names_part, insert, right_side, assignment, update, delete, truncate, part_kind, null_part, primary_key, key_part, part, no_option, create_table, create, dropped, use_database, start_transaction, flush, reset, show_status, other_show, show, set_value, set_variable, setting_of, set, simple, unsupported_lexeme, unsupported_first, any_statement, at_end, whole, unsupported_at, other_type, length_part, key_of_table, column_part, no_second, one_word, other_statement}
use Rattle.qc_parse.specs.Laws.{without_span, without_spans}

-- ---- what looks at the next two tokens at most, and only at what they are

abbrev pub next_two : List Token → List Lexeme
next_two [] = []
next_two (t ∷ []) = t.what ∷ []
next_two (t ∷ s ∷ ts) = t.what ∷ s.what ∷ []

abbrev pub Sees : {X : Type 0} → (Unread → X) → Type 0
Sees f = (u v : Unread) → next_two u.tokens ≡ next_two v.tokens → f u ≡ f v

abbrev lexeme_is : (Lexeme → Bool) → List Lexeme → Bool
lexeme_is f [] = false
lexeme_is f (l ∷ ls) = f l

next_passes : (f : Lexeme → Bool) (ts : List Token) → token_is f ts ≡ lexeme_is f (next_two ts)
next_passes f [] = refl
next_passes f (t ∷ []) = refl
next_passes f (t ∷ s ∷ ts) = refl

pub sees_next : (f : Lexeme → Bool) → Sees (next_is f)
sees_next f u v e = next_passes f u.tokens ∙ ap (lexeme_is f) e ∙ sym (next_passes f v.tokens)

sees_either : (f g : Unread → Bool) → Sees f → Sees g → Sees (λ u. f u || g u)
sees_either f g h k u v e = let d = h u v e in let c = k u v e in cc

pub sees_literal : Sees at_literal
sees_literal = sees_either _ _ (sees_either _ _ (sees_either _ _ (sees_next _) (sees_next _)) (sees_next _)) (sees_next _)

abbrev call_begins : List Lexeme → Bool
call_begins [] = false
call_begins (l ∷ []) = is_word (codes "DATABASE") l
call_begins (l ∷ m ∷ ls) = is_word (codes "DATABASE") l || (is_some (word_in l) && is_some (name_in l) && is_sign (codes "(") m)

begins : (ts : List Token) → begins_call ts ≡ call_begins (next_two ts)
begins [] = refl
begins (t ∷ []) = refl
begins (t ∷ s ∷ ts) = refl

pub sees_call : Sees at_call
sees_call u v e = begins u.tokens ∙ ap call_begins e ∙ sym (begins v.tokens)

abbrev op_of : List Lexeme → Bool
op_of [] = false
op_of (l ∷ ls) = is_some (op_in l)

op_next : (ts : List Token) → is_some (op_first ts) ≡ op_of (next_two ts)
op_next [] = refl
op_next (t ∷ []) = refl
op_next (t ∷ s ∷ ts) = refl

pub sees_op : Sees (λ u. is_some (op_ahead u))
sees_op u v e = op_next u.tokens ∙ ap op_of e ∙ sym (op_next v.tokens)

pub sees_like : Sees like_at
sees_like u v e = ap (λ t. when t (codes "LIKE")) (sees_next _ u v e)

pub sees_further : Sees at_further
sees_further = sees_either _ _ (sees_next _) (sees_either _ _ (sees_next _) (sees_next _))

pub sees_other_show : Sees other_show
sees_other_show u v e = ap (λ t. when t (codes "SHOW")) (sees_next _ u v e)

abbrev unsupported_two : Bool → List Lexeme → Option (List ℕ)
unsupported_two in_select [] = None
unsupported_two in_select (l ∷ []) = unsupported_lexeme in_select l []
unsupported_two in_select (l ∷ m ∷ ls) = unsupported_lexeme in_select l (record { what = m; from = 0; to = 0 } ∷ [])

unsupported_word_next : (in_select : Bool) (l : Lexeme) (t : Token) (ts : List Token)
    → unsupported_lexeme in_select l (t ∷ ts) ≡ unsupported_lexeme in_select l (record { what = t.what; from = 0; to = 0 } ∷ [])
unsupported_word_next in_select (Word w) t ts = refl
unsupported_word_next in_select _ t ts = refl

unsupported_next : (in_select : Bool) (ts : List Token) → unsupported_first in_select ts ≡ unsupported_two in_select (next_two ts)
unsupported_next in_select [] = refl
unsupported_next in_select (t ∷ []) = refl
unsupported_next in_select (t ∷ s ∷ ts) = unsupported_word_next in_select t.what s ts

pub sees_unsupported : (in_select : Bool) → Sees (unsupported_at in_select)
sees_unsupported in_select u v e = unsupported_next in_select u.tokens ∙ ap (unsupported_two in_select) e ∙ sym (unsupported_next in_select v.tokens)

-- ---- lists whose members are related one by one

abbrev pub Each : {A : Type 0} → (A → A → Type 0) → List A → List A → Type 0
Each R [] [] = Unit {0}
Each R (x ∷ xs) (y ∷ ys) = R x y × Each R xs ys
Each R _ _ = ⊥

pub each_refl : {A : Type 0} (R : A → A → Type 0) → ((x : A) → R x x) → (xs : List A) → Each R xs xs
each_refl R h [] = tt
each_refl R h (x ∷ xs) = (h x, each_refl R h xs)

pub each_same : {A : Type 0} (xs ys : List A) → Each ◌≡◌ xs ys → xs ≡ ys
each_same [] [] h = refl
each_same (x ∷ xs) (y ∷ ys) h = let e = each_same xs ys h.1 in let d = h.0 in cc
each_same [] (y ∷ ys) h = absurd h
each_same (x ∷ xs) [] h = absurd h

-- ---- items but for their spans

abbrev pub SameItem : Item → Item → Type 0
SameItem i j = without_span i ≡ without_span j

abbrev pub SameTree : Statement → Statement → Type 0
SameTree s t = without_spans s ≡ without_spans t

pub each_item : (xs ys : List Item) → Each SameItem xs ys → map without_span xs ≡ map without_span ys
each_item [] [] h = refl
each_item (x ∷ xs) (y ∷ ys) h = let e = each_item xs ys h.1 in let d = h.0 in cc
each_item [] (y ∷ ys) h = absurd h
each_item (x ∷ xs) [] h = absurd h

abbrev SameItems : Bool × List Item → Bool × List Item → Type 0
SameItems i j = (i.0 ≡ j.0) × Each SameItem i.1 j.1

same_items : (i j : Bool × List Item) → SameItems i j → ◌≡◌ {A = Bool × List Item} (i.0, map without_span i.1) (j.0, map without_span j.1)
same_items i j h = let e = each_item i.1 j.1 h.1 in let d = h.0 in cc

-- ---- the small readers

pub record Congruence : Type 1 where
  pub Good : {A : Type 0} → (A → A → Type 0) → Reader A → Reader A → Type 0
  pub weaker : {A : Type 0} {R S : A → A → Type 0} {p q : Reader A} → ((x y : A) → R x y → S x y) → Good R p q → Good S p q
  pub gives : {A : Type 0} {R : A → A → Type 0} {x y : A} → R x y → Good R (pure x) (pure y)
  pub stops : {A : Type 0} {R : A → A → Type 0} → Good R stop stop
  pub refuses : {A : Type 0} {R : A → A → Type 0} (what : List ℕ) → Good R (refuse what) (refuse what)
  pub refuses_tables : {A : Type 0} {R : A → A → Type 0} → Good R (λ u. Err (Refused TooManyTables)) (λ u. Err (Refused TooManyTables))
  pub reads_same : {A : Type 0} (f : Lexeme → Option A) → Good ◌≡◌ (reads f) (reads f)
  pub goes_on : {A B : Type 0} {R : A → A → Type 0} {S : B → B → Type 0} {p q : Reader A} {f g : A → Reader B}
      → ((x : A) → R x x) → Good R p q → ((x y : A) → R x y → Good S (f x) (g y)) → Good S (p >>= f) (q >>= g)
  pub chooses : {A : Type 0} {R : A → A → Type 0} {test : Unread → Bool} {p p' q q' : Reader A}
      → Sees test → Good R p q → Good R p' q' → Good R (branch test p p') (branch test q q')
  pub in_place : {A : Type 0} {R : A → A → Type 0} {f : Unread → Option (List ℕ)} {p q : Reader A}
      → Sees f → Good R p q → Good R (in_place_of_syntax f p) (in_place_of_syntax f q)
  pub separates : {A : Type 0} {R : A → A → Type 0} {p q : Reader A} (f : Lexeme → Bool)
      → ((x : A) → R x x) → Good R p q → Good (Each R) (separated (next_is f) (next f) p) (separated (next_is f) (next f) q)
  pub looks : Good ◌≡◌ look look
  pub spans : Good ◌≡◌ (value_at most_open true) (value_at most_open true) → Good ◌≡◌ alias alias → Good SameItem item item

module _ (law : Congruence) where
  open law use {Good, weaker, gives, stops, refuses, refuses_tables, reads_same, goes_on, chooses, in_place, separates, looks, spans}

  abbrev Fine : {A : Type 0} → Reader A → Type 0
  Fine p = Good ◌≡◌ p p

  then_fine : {A B : Type 0} {S : B → B → Type 0} {p : Reader A} {f g : A → Reader B} → Fine p → ((x : A) → Good S (f x) (g x)) → Good S (p >>= f) (p >>= g)
  then_fine {S = S} {f = f} {g = g} h k = goes_on (λ x. refl) h (λ x y e. subst (λ z. Good S (f x) (g z)) e (k x))

  after : {A : Type 0} {S : A → A → Type 0} {p : Reader (Unit {0})} {q r : Reader A} → Fine p → Good S q r → Good S (p >>= λ _. q) (p >>= λ _. r)
  after h g = then_fine h (λ _. g)

  behind : {A : Type 0} {p : Reader (Unit {0})} (x : A) → Fine p → Fine (p >>= λ _. pure x)
  behind x h = after h (gives refl)

  maps : {A B : Type 0} {p : Reader A} (f : A → B) → Fine p → Fine (p >>= λ x. pure (f x))
  maps f h = then_fine h (λ x. gives refl)

  fine_if : {A : Type 0} {R : A → A → Type 0} {p p' q q' : Reader A} (t : Bool) → Good R p q → Good R p' q' → Good R (cond t p p') (cond t q q')
  fine_if true h g = h
  fine_if false h g = g

  takes : (f : Lexeme → Bool) → Fine (next f)
  takes f = reads_same _

  if_next : {A : Type 0} {R : A → A → Type 0} {p p' q q' : Reader A} (f : Lexeme → Bool) → Good R p q → Good R p' q' → Good R (branch (next_is f) p p') (branch (next_is f) q q')
  if_next f h g = chooses (sees_next f) h g

  fine_passed : (w : Name) → Fine (passed w)
  fine_passed w = if_next _ (behind true (takes _)) (gives refl)

  fine_separated : {A : Type 0} {p : Reader A} (f : Lexeme → Bool) → Fine p → Fine (separated (next_is f) (next f) p)
  fine_separated f h = weaker each_same (separates f (λ x. refl) h)

  fine_listed : {A : Type 0} {p : Reader A} → Fine p → Fine (listed p)
  fine_listed h = fine_separated _ h

  fine_opened : Fine opened
  unfolding opened
  fine_opened = after (takes _) (if_next _ (refuses _) (gives refl))

  fine_bracketed : {A : Type 0} {p : Reader A} → Fine p → Fine (bracketed p)
  fine_bracketed h = after fine_opened (then_fine h (λ x. behind x (takes _)))

  -- ---- names and values

  fine_dotted : Fine dotted
  unfolding dotted
  fine_dotted = then_fine (reads_same _) (λ a. if_next _ (after (takes _) (maps (λ b. (Some a, b)) (reads_same _))) (gives refl))

  fine_table : Fine table
  unfolding table
  fine_table = maps _ fine_dotted

  fine_ends_value : Fine ends_value
  unfolding ends_value
  fine_ends_value = if_next _ (refuses _) (gives refl)

  fine_column : Fine column
  unfolding column
  fine_column = then_fine fine_dotted (λ d. behind _ fine_ends_value)

  fine_signed : (negative : Bool) (n : ℕ) → Fine (signed negative n)
  unfolding signed
  fine_signed negative n = fine_if negative (fine_if (nat_le n (2 ^ 63)) (gives refl) (refuses _)) (fine_if (nat_lt n (2 ^ 63)) (gives refl) (refuses _))

  fine_bare_literal : Fine bare_literal
  unfolding bare_literal
  fine_bare_literal =
      if_next _ (then_fine (reads_same _) (fine_signed false))
      (if_next _ (after (takes _) (then_fine (reads_same _) (fine_signed true)))
      (if_next _ (maps value.Str (reads_same _)) (behind value.Null (takes _))))

  fine_literal : Fine literal
  unfolding literal
  fine_literal = then_fine fine_bare_literal (λ v. behind v fine_ends_value)

  fine_tuple : Fine tuple
  unfolding tuple
  fine_tuple = fine_bracketed (fine_listed fine_literal)

  -- ---- calls

  fine_call_word : (aggregates : Bool) → Fine (call_word aggregates)
  unfolding call_word
  fine_call_word aggregates =
      chooses (λ u v e. ap (λ t. not aggregates && t) (sees_next _ u v e)) stops (then_fine (reads_same _) (λ w. fine_if (is_known_call w) (gives refl) (refuses _)))

  fine_call_of : {p q : Reader Expr} (w : Name) → Fine p → Fine q → Fine (call_of p q w)
  unfolding column_argument
  fine_call_of w h g =
      fine_if (same_word w (codes "LENGTH")) (maps expr.Length (fine_bracketed h))
      (fine_if (same_word w (codes "CONCAT")) (maps expr.Concat (fine_bracketed (fine_listed h)))
      (fine_if (same_word w (codes "COUNT")) (fine_bracketed (if_next _ (behind expr.CountAll (takes _)) (maps expr.Count g)))
      (fine_if (same_word w (codes "SUM")) (maps expr.Sum (fine_bracketed fine_column))
      (fine_if (same_word w (codes "MIN")) (maps expr.Min (fine_bracketed fine_column))
      (fine_if (same_word w (codes "MAX")) (maps expr.Max (fine_bracketed fine_column))
      (maps (expr.Call w) (fine_bracketed (if_next _ (gives refl) (fine_listed h)))))))))

  fine_value_of : {p : Reader Expr} → Fine p → Fine (value_of p)
  fine_value_of h =
      chooses sees_literal (maps expr.Literal fine_literal)
      (chooses sees_call (then_fine h (λ e. behind e fine_ends_value)) (maps expr.Column fine_column))

  fine_call : (n : ℕ) (aggregates : Bool) → Fine (call_at n aggregates)
  unfolding call_at
  fine_call zero aggregates = then_fine (fine_call_word aggregates) (λ _. after (takes _) (refuses _))
  fine_call (suc n) aggregates = then_fine (fine_call_word aggregates) (λ w. fine_call_of w (fine_value_of (fine_call n aggregates)) (fine_value_of (fine_call n false)))

  fine_value : (n : ℕ) (aggregates : Bool) → Fine (value_at n aggregates)
  fine_value n aggregates = fine_value_of (fine_call n aggregates)

  -- ---- conditions

  fine_joined_by : {p : Reader Cond} (w : Name) (f : List Cond → Cond) → Fine p → Fine (joined_by w f p)
  fine_joined_by w f h = maps (grouped f) (fine_separated _ h)

  fine_any_of : {p : Reader Cond} → Fine p → Fine (any_of p)
  fine_any_of h = fine_joined_by (codes "OR") test.Or (fine_joined_by (codes "AND") test.And h)

  fine_test_behind : {p : Reader Expr} (a : Expr) → Fine p → Fine (test_behind p a)
  unfolding null_test in_test
  fine_test_behind a h =
      chooses sees_op (then_fine (reads_same _) (λ o. maps (test.Compare a o) h))
      (if_next _ (after (takes _) (then_fine (fine_passed (codes "NOT")) (λ n. behind (negated n (test.IsNull a)) (takes _))))
      (then_fine (fine_passed (codes "NOT")) (λ n. maps (negated n)
      (if_next _ (after (takes _) (maps (test.In a) fine_tuple))
      (after (takes _) (then_fine h (λ low. after (takes _) (maps (test.Between a low) h))))))))

  fine_test : {p : Reader Expr} → Fine p → Fine (test_of p)
  fine_test h = then_fine h (λ a. fine_test_behind a h)

  fine_member_of : {member brackets : Reader Cond} {p : Reader Expr} → Fine member → Fine brackets → Fine p → Fine (member_of member brackets p)
  fine_member_of f g h = if_next _ (after (takes _) (maps test.Not f)) (in_place sees_like (if_next _ g (fine_test h)))

  fine_member : (n : ℕ) → Fine (member_at n)
  unfolding member_at
  fine_member zero = fine_member_of (refuses _) (after (takes _) (refuses _)) (fine_value 0 false)
  fine_member (suc n) = fine_member_of (fine_member n) (fine_bracketed (fine_any_of (fine_member n))) (fine_value (suc n) false)

  fine_condition : Fine condition
  unfolding condition
  fine_condition = fine_any_of (fine_member most_open)

  -- ---- select

  fine_alias : Fine alias
  unfolding alias
  fine_alias = if_next _ (after (takes _) (maps Some (reads_same _))) (if_next _ (maps Some (reads_same _)) (gives refl))

  good_item : Good SameItem item item
  good_item = spans (fine_value most_open true) fine_alias

  fine_source : Fine source
  unfolding source
  fine_source = then_fine fine_table (λ t. maps _ fine_alias)

  fine_one_too_many : Fine one_too_many
  unfolding one_too_many
  fine_one_too_many = then_fine fine_table (λ _. then_fine looks (λ _. refuses_tables))

  fine_join_words : Fine join_words
  unfolding join_words
  fine_join_words = then_fine (fine_passed (codes "INNER")) (λ _. takes _)

  fine_further_source : Fine further_source
  unfolding further_source
  fine_further_source =
      if_next _ (after (takes _) (maps _ fine_source))
      (after fine_join_words (then_fine fine_source (λ s. after (takes _) (maps _ fine_condition))))

  fine_too_many : Fine too_many
  unfolding too_many
  fine_too_many = after (if_next _ (takes _) fine_join_words) fine_one_too_many

  fine_joined : (n : ℕ) (j : Joined) → Fine (joined n j)
  unfolding joined
  fine_joined zero j = chooses sees_further fine_too_many (gives refl)
  fine_joined (suc n) j = chooses sees_further (then_fine fine_further_source (λ f. fine_joined n (with_source j f))) (gives refl)

  fine_order : Fine order
  unfolding order
  fine_order = then_fine fine_column (λ c. then_fine (fine_passed (codes "DESC")) (λ down.
      after (chooses (λ u v e. ap (λ t. not down && t) (sees_next _ u v e)) (takes _) (gives refl)) (gives refl)))

  fine_limit : Fine limit
  unfolding limit
  fine_limit = then_fine (reads_same _) (λ a.
      if_next _ (after (takes _) (maps _ (reads_same _)))
      (if_next _ (after (takes _) (maps _ (reads_same _))) (gives refl)))

  fine_cache_word : Fine cache_word
  unfolding cache_word
  fine_cache_word = if_next _ (behind _ (takes _)) (if_next _ (behind _ (takes _)) (gives refl))

  good_items : Good SameItems items items
  unfolding items
  good_items = if_next _ (after (takes _) (gives (refl, tt))) (goes_on (each_refl SameItem (λ i. refl)) (separates _ (λ i. refl) good_item) (λ xs ys e. gives (refl, e)))

  fine_where_part : Fine where_part
  unfolding where_part
  fine_where_part = if_next _ (maps Some (after (takes _) fine_condition)) (gives refl)

  fine_order_part : Fine order_part
  unfolding order_part
  fine_order_part = if_next _ (after (takes _) (after (takes _) (fine_listed fine_order))) (gives refl)

  fine_from : Fine from
  unfolding from
  fine_from = after (takes _) (then_fine fine_source (λ s. then_fine (fine_joined 7 _) (λ j. then_fine fine_where_part (λ c. maps _ fine_order_part))))

  fine_from_part : Fine from_part
  unfolding from_part
  fine_from_part = if_next _ fine_from (gives refl)

  fine_limit_part : Fine limit_part
  unfolding limit_part
  fine_limit_part = if_next _ (maps Some (after (takes _) fine_limit)) (gives refl)

  fine_lock_part : Fine lock_part
  unfolding lock_part
  fine_lock_part =
      if_next _ (after (takes _) (behind true (takes _)))
      (if_next _ (after (takes _) (after (takes _) (after (takes _) (behind true (takes _))))) (gives refl))

  good_select : Good SameTree select select
  unfolding select
  good_select =
      after (takes _) (then_fine fine_cache_word (λ c. goes_on (λ i. (refl, each_refl SameItem (λ x. refl) i.1)) good_items (λ i j e.
      then_fine fine_from_part (λ f. then_fine fine_limit_part (λ l. then_fine fine_lock_part (λ k.
      gives (ap (λ x. statement.Select (record { cache = c; star = x.0; items = x.1; from = f.sources; cond = f.cond; order = f.order; limit = l; lock = k })) (same_items i j e))))))))

  -- ---- statements that change rows

  fine_names_part : Fine names_part
  unfolding names_part
  fine_names_part = if_next _ (maps Some (fine_bracketed (fine_listed (reads_same _)))) (gives refl)

  fine_insert : Fine insert
  unfolding insert
  fine_insert = after (takes _) (after (takes _) (then_fine fine_table (λ t. then_fine fine_names_part (λ names. after (takes _) (maps _ (fine_listed fine_tuple))))))

  fine_right_side : Fine right_side
  unfolding right_side
  fine_right_side = if_next _ (then_fine (reads_same _) (λ m. behind _ fine_ends_value)) (maps _ fine_literal)

  fine_assignment : Fine assignment
  unfolding assignment
  fine_assignment = then_fine (reads_same _) (λ n. after (takes _) (maps _ fine_right_side))

  fine_update : Fine update
  unfolding update
  fine_update = after (takes _) (then_fine fine_table (λ t. after (takes _) (then_fine (fine_listed fine_assignment) (λ sets. maps _ fine_where_part))))

  fine_delete : Fine delete
  unfolding delete
  fine_delete = after (takes _) (after (takes _) (then_fine fine_table (λ t. maps _ fine_where_part)))

  fine_truncate : Fine truncate
  unfolding truncate
  fine_truncate = after (takes _) (then_fine (fine_passed (codes "TABLE")) (λ _. maps _ fine_table))

  -- ---- statements that change tables and databases

  fine_part_kind : Fine part_kind
  unfolding part_kind other_type length_part
  fine_part_kind =
      if_next _ (behind _ (takes _))
      (if_next _ (after (takes _) (maps _ (fine_bracketed (reads_same _))))
      (then_fine (reads_same _) (λ w. refuses _)))

  fine_null_part : Fine null_part
  unfolding null_part
  fine_null_part = if_next _ (after (takes _) (behind true (takes _))) (then_fine (fine_passed (codes "NULL")) (λ _. gives refl))

  fine_primary_key : Fine primary_key
  unfolding primary_key
  fine_primary_key = after (takes _) (takes _)

  fine_key_part : Fine key_part
  unfolding key_part
  fine_key_part = if_next _ (behind true fine_primary_key) (gives refl)

  fine_part : Fine part
  unfolding part key_of_table column_part
  fine_part =
      if_next _ (after fine_primary_key (maps _ (fine_bracketed (reads_same _))))
      (then_fine (reads_same _) (λ n. then_fine fine_part_kind (λ k. then_fine fine_null_part (λ required. maps _ fine_key_part))))

  fine_no_option : Fine no_option
  unfolding no_option
  fine_no_option = if_next _ (refuses _) (gives refl)

  fine_create_table : Fine create_table
  unfolding create_table
  fine_create_table = after (takes _) (then_fine fine_table (λ t. then_fine (fine_bracketed (fine_listed fine_part)) (λ parts. behind _ fine_no_option)))

  fine_refuse_any : {A : Type 0} (what : List ℕ) → Fine (refuse_any {A = A} what)
  fine_refuse_any what = if_next _ (refuses _) stops

  fine_create : Fine create
  unfolding create
  fine_create = after (takes _) (if_next _ (after (takes _) (maps _ (reads_same _))) (if_next _ fine_create_table (fine_refuse_any _)))

  fine_dropped : Fine dropped
  unfolding dropped
  fine_dropped = after (takes _) (if_next _ (after (takes _) (maps _ (reads_same _))) (if_next _ (after (takes _) (maps _ fine_table)) (fine_refuse_any _)))

  -- ---- the others

  fine_use_database : Fine use_database
  unfolding use_database
  fine_use_database = after (takes _) (maps _ (reads_same _))

  fine_start_transaction : Fine start_transaction
  unfolding start_transaction
  fine_start_transaction = after (takes _) (behind _ (takes _))

  fine_flush : Fine flush
  unfolding flush
  fine_flush = after (takes _) (if_next _ (behind _ (takes _)) (after (takes _) (behind _ (takes _))))

  fine_reset : Fine reset
  unfolding reset
  fine_reset = after (takes _) (after (takes _) (behind _ (takes _)))

  fine_show_status : Fine show_status
  unfolding show_status
  fine_show_status = after (takes _) (then_fine (fine_passed (codes "GLOBAL")) (λ _. after (takes _) (after (takes _) (behind _ (takes _)))))

  fine_show : Fine show
  unfolding show
  fine_show = in_place sees_other_show fine_show_status

  fine_set_value : Fine set_value
  unfolding set_value
  fine_set_value =
      if_next _ (maps _ (reads_same _)) (if_next _ (maps _ (reads_same _)) (if_next _ (behind _ (takes _)) (maps _ (reads_same _))))

  fine_set_variable : (n : Name) → Fine (set_variable n)
  unfolding set_variable
  fine_set_variable n = after (takes _) (maps _ fine_set_value)

  fine_setting_of : (w : Name) → Fine (setting_of w)
  unfolding setting_of
  fine_setting_of w =
      if_next _ (fine_set_variable w)
      (fine_if (same_word w (codes "NAMES")) (maps _ (reads_same _))
      (fine_if (same_word w (codes "SESSION")) (then_fine (reads_same _) (λ n. fine_set_variable n))
      (fine_if (same_word w (codes "GLOBAL")) (fine_refuse_any _)
      (fine_if (same_word w (codes "TRANSACTION")) (fine_refuse_any _) stops))))

  fine_set : Fine set
  unfolding set no_second
  fine_set = after (takes _) (then_fine (then_fine (reads_same _) (λ w. fine_setting_of w)) (λ s. behind _ (if_next _ (refuses _) (gives refl))))

  of_tree : {p : Reader Statement} → Fine p → Good SameTree p p
  of_tree h = weaker (λ s t e. ap without_spans e) h

  simply : {p : Reader Statement} (w : Name) (s : Statement) → Good SameTree p p → Good SameTree (simple w s p) (simple w s p)
  simply w s h = if_next _ (of_tree (behind s (takes _))) h

  good_one_word : Good SameTree one_word one_word
  unfolding one_word
  good_one_word = simply (codes "BEGIN") statement.Begin (simply (codes "COMMIT") statement.Commit (simply (codes "ROLLBACK") statement.Rollback stops))

  good_other_statement : Good SameTree other_statement other_statement
  unfolding other_statement
  good_other_statement =
      if_next _ (of_tree fine_use_database)
      (if_next _ (of_tree fine_start_transaction)
      (if_next _ (of_tree fine_flush)
      (if_next _ (of_tree fine_reset)
      (if_next _ (of_tree fine_show)
      (if_next _ (of_tree fine_set) good_one_word)))))

  good_any_statement : Good SameTree any_statement any_statement
  unfolding any_statement
  good_any_statement =
      if_next _ good_select
      (if_next _ (of_tree fine_insert)
      (if_next _ (of_tree fine_update)
      (if_next _ (of_tree fine_delete)
      (if_next _ (of_tree fine_truncate)
      (if_next _ (of_tree fine_create)
      (if_next _ (of_tree fine_dropped) good_other_statement))))))

  good_whole : Good SameTree whole whole
  unfolding whole at_end
  good_whole = goes_on (λ s. refl) good_any_statement (λ s t e. after (if_next _ stops looks) (gives e))

  pub good_text : (in_select : Bool) → Good SameTree (in_place_of_syntax (unsupported_at in_select) whole) (in_place_of_syntax (unsupported_at in_select) whole)
  good_text in_select = in_place (sees_unsupported in_select) good_whole
