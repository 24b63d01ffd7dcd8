-- The statements that the productions spell are read.
use Rattle.std.proofs.Common.{◌≡◌, ℕ, zero, suc, ◌+◌, ◌≤◌, Bool, true, false, cond, List, [], ◌∷◌, ◌++◌, length, Option, Some, None, Ok, refl, sym, subst, ap, ◌∙◌, append_assoc, arith}
use Rattle.std.proofs.lemmas.List.{append-nil, length-map, length-append}
use Rattle.std.specs.Prelude.{◌&&◌, ◌||◌, not, nat_le, map, codes, is_some, option_to_list}
use Rattle.qc_types.specs.declared.names.Value.{Value}
use Rattle.qc_sql.specs.declared.statements.Expr.{Expr}
use Rattle.qc_sql.specs.declared.statements.Cond.{Cond}
use Rattle.qc_sql.specs.declared.statements.ColumnName.{ColumnName}
use Rattle.qc_sql.specs.declared.statements.TableRef.{TableRef}
use Rattle.qc_sql.specs.declared.statements.Head.{Head}
use Rattle.qc_sql.specs.declared.statements.Item.{Item}
use Rattle.qc_sql.specs.declared.statements.Source.{Source}
use Rattle.qc_sql.specs.declared.statements.Order.{Order}
use Rattle.qc_sql.specs.declared.statements.Limit.{Limit}
use Rattle.qc_sql.specs.declared.statements.Statement.{Statement}
use Rattle.qc_sql.specs.declared.statements.Statement.TheVariants as statement
use Rattle.qc_sql.specs.declared.statements.Assignment.{Assignment}
use Rattle.qc_sql.specs.declared.statements.Right.{Right}
use Rattle.qc_sql.specs.declared.statements.Right.TheVariants as right
use Rattle.qc_sql.specs.declared.statements.Part.{Part}
use Rattle.qc_sql.specs.declared.statements.PartKind.{PartKind}
use Rattle.qc_sql.specs.declared.statements.Setting.{Setting}
use Rattle.qc_sql.specs.declared.statements.SetValue.{SetValue}
use Rattle.qc_sql.specs.Database.{Name}
use Rattle.qc_sql.specs.Rules.{same_word}
use Rattle.qc_sql.specs.Tokens.{Lexeme, Word, Quoted, Words, Sign, Token, lexed, lexemes}
use Rattle.qc_sql.specs.Reading.{Unread, Reader, stop, pure, then_read, ◌>>=◌, token_is, next, next_is, is_word, at_word, is_sign, word, branch, at_most, many, listed, bracketed, reserved, is_reserved, name_in, digits_in, words_in, name, number, any_word}
use Rattle.qc_sql.specs.Grammar.{table, alias, item, items, span_text, place, most_open, cache_word, source, Joined as JoinedSo, joined, at_further, with_source, join_words, further_source, where_part, order, order_part, from, from_part, Behind, limit, limit_part, lock_part, select, names_part, insert, right_side, assignment, update, delete, truncate, part_kind, null_part, primary_key, key_part, part, no_option, create_table, create, dropped, use_database, start_transaction, flush, reset, is_pattern, show_status, show, set_value, set_variable, setting_of, set, any_statement, look, at_end, whole, any_text, unsupported_at, statement_of, from_front, meaning, length_part, key_of_table, column_part, no_second, one_word, other_statement}
use Rattle.qc_parse.specs.Laws.{without_span, without_spans}
use Rattle.qc_parse.specs.Productions.{Keyword, keyword, Mark, Named, Passed, there, absent, one, more, Listed, Bracketed, Dotted, IsTable, IsLiteral, IsTuple, IsName, IsNumber, digits, IsAlias, behind_as, IsItem, IsItems, star, IsCacheWord, cache, no_cache, IsSource, IsFurther, comma, join, AreFurther, IsWhere, where_holds, IsDirection, down, up, IsOrder, AreOrders, order_by, IsFrom, IsLimit, skip_and_limit, limit_and_offset, IsLock, for_update, in_share_mode, brackets, negative, text, null, AreNames, IsRight, IsAssignment, IsKind, big_int, var_char, IsNull, not_null, IsKey, IsPart, IsSetValue, IsSetting, IsStatement}
use Rattle.qc_parse.specs.Trees.{SpelledAreTrees, OneStatement}
use Rattle.qc_parse.proofs.Congruence.{each_item, Each, SameItem, SameTree}
use Rattle.qc_parse.proofs.Complete.{NoStart, ends_runs, literal_runs, tuple_runs, reserved_null, reserved_same, bracket_opens, Run, Stands, head_is, Free, run_pure, run_then, run_reads, run_next, chosen_yes, chosen_no, yes_next, no_next, run_if_yes, run_if_no, run_in_place, word_as, word_both, no_word, mark_as, run_word, run_sign, run_named, among_as, no_reserved, no_name, after_value, first_false, second_false, Complete, dotted_runs, complete_column, separated_runs, is_comma, Unlike, unlike_separated, bracketed_runs, sign_no_start, word_no_start, unlike_value, complete_value, passed_runs, passed_free, keyword_stops, same_as, after_any, complete_condition, is_keyword, some_text, some_stand, same_run}

-- ---- what can't stand behind a part

abbrev pub after_part : Lexeme → Bool
after_part l = after_value l || (is_word (codes "AS") l || (is_some (name_in l) || (is_word (codes "AND") l || (is_word (codes "OR") l || (is_word (codes "DESC") l || is_word (codes "ASC") l)))))

abbrev quiet_word : Name → Bool
quiet_word k = same_word (codes "AS") k || (same_word (codes "AND") k || (same_word (codes "OR") k || (same_word (codes "DESC") k || same_word (codes "ASC") k)))

quiet_keyword : {k : Name} {l : Lexeme} → Keyword k l → is_reserved k ≡ true → quiet_word k ≡ false → after_part l ≡ false
unfolding is_reserved
quiet_keyword {k = k} (keyword {bytes = b} e) r q =
    rw (same_as k b (codes "AS") e, among_as reserved k b e, r, same_as k b (codes "AND") e, same_as k b (codes "OR") e, same_as k b (codes "DESC") e, same_as k b (codes "ASC") e) q

record Quiet (ls : List Lexeme) : Type 0 where
  value : Free after_value ls
  as_word : Free (is_word (codes "AS")) ls
  named : Free (λ l. is_some (name_in l)) ls
  any : Free after_any ls
  desc : Free (is_word (codes "DESC")) ls
  asc : Free (is_word (codes "ASC")) ls

neither : (a b : Bool) → a ≡ false → b ≡ false → (a || b) ≡ false
neither true b e d = absurd cc
neither false b e d = d

quiet : (ls : List Lexeme) → Free after_part ls → Quiet ls
quiet [] e = record { value = refl; as_word = refl; named = refl; any = refl; desc = refl; asc = refl }
quiet (l ∷ ls) e =
    let v = first_false (after_value l) _ e in let e1 = second_false (after_value l) _ e in
    let a = first_false (is_word (codes "AS") l) _ e1 in let e2 = second_false (is_word (codes "AS") l) _ e1 in
    let n = first_false (is_some (name_in l)) _ e2 in let e3 = second_false (is_some (name_in l)) _ e2 in
    let b = first_false (is_word (codes "AND") l) _ e3 in let e4 = second_false (is_word (codes "AND") l) _ e3 in
    let c = first_false (is_word (codes "OR") l) _ e4 in let e5 = second_false (is_word (codes "OR") l) _ e4 in
    record { value = v; as_word = a; named = n; any = neither _ _ (neither _ _ v b) c; desc = first_false (is_word (codes "DESC") l) _ e5; asc = second_false (is_word (codes "DESC") l) _ e5 }

-- what begins with one of these, or is nothing, and what follows
alias_free : {n : Option Name} {ms : List Lexeme} (g : Lexeme → Bool) → ((l : Lexeme) → Keyword (codes "AS") l → g l ≡ false) → ((b : Name) → g (Word b) ≡ false) → ((b : Name) → g (Quoted b) ≡ false)
    → IsAlias n ms → (rest : List Lexeme) → Free g rest → Free g (ms ++ rest)
alias_free g h w q (behind_as k n) rest e = h _ k
alias_free g h w q (IsAlias.alone n) rest e = no_name n g w q
alias_free g h w q IsAlias.none rest e = e

named_some : {n : Name} {l : Lexeme} → Named n l → is_some (name_in l) ≡ true
named_some {n = n} (Named.word e) = ap (λ c. is_some (cond c None (Some n))) e
named_some Named.quoted = refl

reserved_as : is_reserved (codes "AS") ≡ true
unfolding is_reserved
reserved_as = refl

alias_runs : {n : Option Name} {ms : List Lexeme} → IsAlias n ms → (rest : List Lexeme) → Free after_part rest → (u : Unread) → Stands u (ms ++ rest) → Run alias u n rest
unfolding alias
alias_runs (behind_as k n) rest free u s = yes_next _ _ (is_keyword _ _ k) s (run_then _ (run_word k s) (λ v t. run_then _ (run_named n t) (λ w r. run_pure r)))
alias_runs (IsAlias.alone n) rest free u s = no_next _ _ (no_reserved n (codes "AS") reserved_as) s (yes_next _ _ (named_some n) s (run_then _ (run_named n s) (λ v t. run_pure t)))
alias_runs IsAlias.none rest free u s = let q = quiet rest free in no_next _ _ q.as_word s (no_next _ _ q.named s (run_pure s))

-- ---- items, but for their spans

pub record RunBy {A : Type 0} (R : A → A → Type 0) (p : Reader A) (u : Unread) (x : A) (rest : List Lexeme) : Type 0 where
  pub given : A
  pub alike : R x given
  pub run : Run p u given rest

item_runs : {i : Item} {ls : List Lexeme} → IsItem i ls → (rest : List Lexeme) → Free after_part rest → (u : Unread) → Stands u (ls ++ rest) → RunBy SameItem item u i rest
unfolding item
item_runs (IsItem.item {e = e} {n = n} {ls = ls} {ms = ms} d a) rest free u s =
    let s' = s ∙ append_assoc ls ms rest in
    let r = (complete_value most_open true).run d (ms ++ rest) (alias_free after_value keyword_stops (λ b. refl) (λ b. refl) a rest (quiet rest free).value) u s' in
    let t = alias_runs a rest free r.left r.stands in
    record {
      given = record { value = e; name = n; from = place u; to = r.left.behind; words = span_text (place u) r.left.behind u.text };
      alike = refl;
      run = record {
        left = t.left;
        runs = ap (λ x. then_read {A = Expr × ℕ × ℕ} (then_read x (λ e rest. Ok ((e, place u, rest.behind), rest))) (λ v. alias >>= λ n. pure (record { value = v.0; name = n; from = v.1; to = v.2; words = span_text v.1 v.2 u.text }))) r.runs
            ∙ ap (λ x. then_read x (λ n. pure (record { value = e; name = n; from = place u; to = r.left.behind; words = span_text (place u) r.left.behind u.text }))) t.runs;
        stands = t.stands;
        kept = t.kept ∙ r.kept;
      };
    }

run_then_by : {A B : Type 0} {R : A → A → Type 0} {S : B → B → Type 0} {p : Reader A} {u : Unread} {x : A} {y : B} {ms rest : List Lexeme} (f : A → Reader B) → RunBy R p u x ms
    → ((z : A) → R x z → (v : Unread) → Stands v ms → RunBy S (f z) v y rest) → RunBy S (p >>= f) u y rest
run_then_by f h k = let r = k h.given h.alike h.run.left h.run.stands in record {
  given = r.given;
  alike = r.alike;
  run = record { left = r.run.left; runs = ap (λ s. then_read s f) h.run.runs ∙ r.run.runs; stands = r.run.stands; kept = r.run.kept ∙ h.run.kept };
}

run_before : {A B : Type 0} {S : B → B → Type 0} {p : Reader A} {u : Unread} {x : A} {y : B} {ms rest : List Lexeme} (f : A → Reader B) → Run p u x ms
    → ((v : Unread) → Stands v ms → RunBy S (f x) v y rest) → RunBy S (p >>= f) u y rest
run_before f h k = let r = k h.left h.stands in record {
  given = r.given;
  alike = r.alike;
  run = record { left = r.run.left; runs = ap (λ s. then_read s f) h.runs ∙ r.run.runs; stands = r.run.stands; kept = r.run.kept ∙ h.kept };
}

abbrev between_items : Reader Item
between_items = next (is_sign (codes ",")) >>= λ _. item

comma_part : (l : Lexeme) → Mark (codes ",") l → after_part l ≡ false
comma_part l k = mark_as k after_part

no_more_items : (n : ℕ) (rest : List Lexeme) → Free (is_sign (codes ",")) rest → (u : Unread) → Stands u rest → RunBy (Each SameItem) (at_most n (next_is (is_sign (codes ","))) between_items) u [] rest
no_more_items zero rest free u s = record { given = []; alike = tt; run = run_pure s }
no_more_items (suc n) rest free u s = record { given = []; alike = tt; run = no_next _ _ free s (run_pure s) }

chosen_by : {A : Type 0} {R : A → A → Type 0} {p : Reader A} {u : Unread} {x : A} {ls rest : List Lexeme} (q : Reader A) (f : Lexeme → Bool) → head_is f ls ≡ true → Stands u ls → RunBy R p u x rest → RunBy R (branch (next_is f) p q) u x rest
chosen_by q f e s h = record { given = h.given; alike = h.alike; run = yes_next q f e s h.run }

passed_by : {A : Type 0} {R : A → A → Type 0} {q : Reader A} {u : Unread} {x : A} {ls rest : List Lexeme} (p : Reader A) (f : Lexeme → Bool) → head_is f ls ≡ false → Stands u ls → RunBy R q u x rest → RunBy R (branch (next_is f) p q) u x rest
passed_by p f e s h = record { given = h.given; alike = h.alike; run = no_next p f e s h.run }

item_cons : (x : Item) (xs : List Item) {z : Item} {ys : List Item} {u : Unread} {rest : List Lexeme} → SameItem x z → Each SameItem xs ys → Stands u rest → RunBy (Each SameItem) (pure (z ∷ ys)) u (x ∷ xs) rest
item_cons x xs {z = z} {ys = ys} e d s = record { given = z ∷ ys; alike = (e, d); run = run_pure s }

more_items : (n : ℕ) (l : Lexeme) {xs : List Item} {ls : List Lexeme} → Mark (codes ",") l → Listed IsItem xs ls → (rest : List Lexeme) → Free after_part rest → Free (is_sign (codes ",")) rest → (u : Unread) → Stands u (l ∷ (ls ++ rest)) → length (l ∷ (ls ++ rest)) ≤ n
    → RunBy (Each SameItem) (at_most n (next_is (is_sign (codes ","))) between_items) u xs rest
more_items zero l k d rest free away u s le = absurd (omega arith)
more_items (suc n) l k (one {x = x} d) rest free away u s le =
    chosen_by _ _ (is_comma l k) s (run_then_by {S = Each SameItem} _ (run_before {S = SameItem} _ (run_sign k s) (λ v t. item_runs d rest free v t)) (λ z e v t. run_then_by {S = Each SameItem} _ (no_more_items n rest away v t) (λ zs es w r. item_cons x [] e es r)))
more_items (suc n) l k (more {x = x} {xs = xs} {l = m} {ls = ls} {ms = ms} d j i) rest free away u s le =
    let e : (ls ++ (m ∷ ms)) ++ rest ≡ ls ++ (m ∷ (ms ++ rest)) = append_assoc ls (m ∷ ms) rest in
    let s' : Stands u (l ∷ (ls ++ (m ∷ (ms ++ rest)))) = s ∙ ap (λ ks. l ∷ ks) e in
    let c : length ((ls ++ (m ∷ ms)) ++ rest) ≡ length ls + length (m ∷ (ms ++ rest)) = ap length e ∙ length-append ls (m ∷ (ms ++ rest)) in
    chosen_by _ _ (is_comma l k) s (run_then_by {S = Each SameItem} _ (run_before {S = SameItem} _ (run_sign k s') (λ v t. item_runs d (m ∷ (ms ++ rest)) (comma_part m j) v t))
    (λ z e v t. run_then_by {S = Each SameItem} _ (more_items n m j i rest free away v t (omega (arith, le, c))) (λ zs es w r. item_cons x xs e es r)))

many_items : (n : ℕ) (rest : List Lexeme) (xs : List Item) (u : Unread) → length u.tokens ≡ n → RunBy (Each SameItem) (at_most n (next_is (is_sign (codes ","))) between_items) u xs rest → RunBy (Each SameItem) (many (next_is (is_sign (codes ","))) between_items) u xs rest
many_items n rest xs u e h = record { given = h.given; alike = h.alike; run = record { left = h.run.left; runs = ap (λ k. at_most k (next_is (is_sign (codes ","))) between_items u) e ∙ h.run.runs; stands = h.run.stands; kept = h.run.kept } }

listed_items : {xs : List Item} {ls : List Lexeme} → Listed IsItem xs ls → (rest : List Lexeme) → Free after_part rest → Free (is_sign (codes ",")) rest → (u : Unread) → Stands u (ls ++ rest) → RunBy (Each SameItem) (listed item) u xs rest
listed_items (one {x = x} d) rest free away u s =
    run_then_by {S = Each SameItem} _ (item_runs d rest free u s) (λ z e v t. run_then_by {S = Each SameItem} _ (many_items (length v.tokens) rest [] v refl (no_more_items (length v.tokens) rest away v t)) (λ zs es w r. item_cons x [] e es r))
listed_items (more {x = x} {xs = xs} {l = m} {ls = ls} {ms = ms} d j i) rest free away u s =
    let e : (ls ++ (m ∷ ms)) ++ rest ≡ ls ++ (m ∷ (ms ++ rest)) = append_assoc ls (m ∷ ms) rest in
    run_then_by {S = Each SameItem} _ (item_runs d (m ∷ (ms ++ rest)) (comma_part m j) u (s ∙ e))
    (λ z e v t. run_then_by {S = Each SameItem} _ (many_items (length v.tokens) rest xs v refl (more_items (length v.tokens) m j i rest free away v t (omega (arith, length-map v.tokens (λ t. t.what), ap length t)))) (λ zs es w r. item_cons x xs e es r))

abbrev SameItems : Bool × List Item → Bool × List Item → Type 0
SameItems i j = (i.0 ≡ j.0) × Each SameItem i.1 j.1

unlike_item : (ls : List Lexeme) (i : Item) → IsItem i ls → (rest : List Lexeme) → Free (is_sign (codes "*")) (ls ++ rest)
unlike_item _ _ (IsItem.item {ls = ls} {ms = ms} d a) rest = subst (Free (is_sign (codes "*"))) (sym (append_assoc ls ms rest)) ((unlike_value _ (sign_no_start (codes "*") refl) most_open true).away d (ms ++ rest))

items_run : {i : Bool × List Item} {ls : List Lexeme} → IsItems i ls → (rest : List Lexeme) → Free after_part rest → Free (is_sign (codes ",")) rest → (u : Unread) → Stands u (ls ++ rest) → RunBy SameItems items u i rest
unfolding items
items_run (star k) rest free away u s = record { given = (true, []); alike = (refl, tt); run = yes_next _ _ (mark_as k (is_sign (codes "*"))) s (run_then _ (run_sign k s) (λ v t. run_pure t)) }
items_run (IsItems.items {is = xs} {ls = ls} d) rest free away u s =
    passed_by _ _ ((unlike_separated (record { away = λ {x = x} {ls = ks} e r. unlike_item ks x e r })).away d rest) s
    (run_then_by {S = SameItems} _ (listed_items d rest free away u s) (λ zs es v t. record { given = (false, zs); alike = (refl, es); run = run_pure t }))

-- ---- sources

table_runs : {x : TableRef} {ls : List Lexeme} → IsTable x ls → (rest : List Lexeme) → Free (is_sign (codes ".")) rest → (u : Unread) → Stands u (ls ++ rest) → Run table u x rest
unfolding table
table_runs (IsTable.table d) rest free u s = run_then _ (dotted_runs d rest free u s) (λ v t. run_pure t)

dot_free : (ls : List Lexeme) → Free after_part ls → Free (is_sign (codes ".")) ls
dot_free [] e = refl
dot_free (l ∷ ls) e = first_false (is_sign (codes ".") l) _ (first_false (after_value l) _ e)

source_runs : {x : Source} {ls : List Lexeme} → IsSource x ls → (rest : List Lexeme) → Free after_part rest → (u : Unread) → Stands u (ls ++ rest) → Run source u x rest
unfolding source
source_runs (IsSource.source {ls = ls} {ms = ms} d a) rest free u s =
    run_then _ (table_runs d (ms ++ rest) (alias_free (is_sign (codes ".")) (λ l k. no_word k (is_sign (codes ".")) (λ b. refl)) (λ b. refl) (λ b. refl) a rest (dot_free rest free)) u (s ∙ append_assoc ls ms rest))
    (λ v t. run_then _ (alias_runs a rest free v t) (λ w r. run_pure r))

quiet_on : (l : Lexeme) → Keyword (codes "ON") l → after_part l ≡ false
unfolding is_reserved
quiet_on l k = quiet_keyword k refl refl

further_runs : {f : Source × Option Cond} {ls : List Lexeme} → IsFurther f ls → (rest : List Lexeme) → Free after_part rest → (u : Unread) → Stands u (ls ++ rest) → Run further_source u f rest
unfolding further_source join_words
further_runs (comma k d) rest free u s = yes_next _ _ (is_comma _ k) s (run_then _ (run_sign k s) (λ v t. run_then _ (source_runs d rest free v t) (λ w r. run_pure r)))
further_runs (join {l = l} {m = m} {ks = ks} {ls = ls} {ms = ms} p k d j c) rest free u s =
    let e : (ks ++ (l ∷ ls ++ m ∷ ms)) ++ rest ≡ ks ++ (l ∷ (ls ++ (m ∷ (ms ++ rest)))) = append_assoc ks (l ∷ ls ++ m ∷ ms) rest ∙ ap (λ x. ks ++ (l ∷ x)) (append_assoc ls (m ∷ ms) rest) in
    no_next _ _ (passed_free (is_sign (codes ",")) (λ l k. no_word k (is_sign (codes ",")) (λ b. refl)) p (no_word k (is_sign (codes ",")) (λ b. refl)) (ls ++ (m ∷ (ms ++ rest)))) (s ∙ e)
    (run_then _ (run_then _ (passed_runs p (l ∷ (ls ++ (m ∷ (ms ++ rest)))) (word_as k (codes "INNER")) u (s ∙ e)) (λ v t. run_word k t))
    (λ v t. run_then _ (source_runs d (m ∷ (ms ++ rest)) (quiet_on m j) v t) (λ w r. run_then _ (run_word j r) (λ z q. run_then _ (complete_condition.run c rest (quiet rest free).any z q) (λ y o. run_pure o)))))

-- none of these keywords and no comma stands in front
abbrev Away : List Lexeme → Type 0
Away ls = Free after_part ls × Free (is_sign (codes ",")) ls × Free (is_word (codes "INNER")) ls × Free (is_word (codes "JOIN")) ls

quiet_inner : (l : Lexeme) → Keyword (codes "INNER") l → after_part l ≡ false
unfolding is_reserved
quiet_inner l k = quiet_keyword k refl refl

quiet_join : (l : Lexeme) → Keyword (codes "JOIN") l → after_part l ≡ false
unfolding is_reserved
quiet_join l k = quiet_keyword k refl refl

further_quiet : {f : Source × Option Cond} {ls : List Lexeme} → IsFurther f ls → (rest : List Lexeme) → Free after_part (ls ++ rest)
further_quiet (comma k d) rest = comma_part _ k
further_quiet (join {l = l} {m = m} {ks = ks} {ls = ls} {ms = ms} p k d j c) rest = subst (Free after_part) (sym (append_assoc ks (l ∷ ls ++ m ∷ ms) rest)) (passed_free after_part quiet_inner p (quiet_join l k) ((ls ++ (m ∷ ms)) ++ rest))

all_quiet : {ss : List Source} {cs : List Cond} {ls : List Lexeme} → AreFurther ss cs ls → (rest : List Lexeme) → Free after_part rest → Free after_part (ls ++ rest)
all_quiet AreFurther.none rest e = e
all_quiet (AreFurther.more {ls = ls} {ms = ms} d r) rest e = subst (Free after_part) (sym (append_assoc ls ms rest)) (further_quiet d (ms ++ rest))

abbrev begins_further : Lexeme → Bool
begins_further l = is_sign (codes ",") l || (is_word (codes "INNER") l || is_word (codes "JOIN") l)

further_seen : (ts : List Token) → (token_is (is_sign (codes ",")) ts || (token_is (is_word (codes "INNER")) ts || token_is (is_word (codes "JOIN")) ts)) ≡ head_is begins_further (lexemes ts)
further_seen [] = refl
further_seen (t ∷ ts) = refl

or_true_right : (a b : Bool) → b ≡ true → (a || b) ≡ true
or_true_right true b e = refl
or_true_right false b e = e

or_true_left : (a b : Bool) → a ≡ true → (a || b) ≡ true
or_true_left true b e = refl
or_true_left false b e = absurd cc

further_begins : {f : Source × Option Cond} {ls : List Lexeme} → IsFurther f ls → (rest : List Lexeme) → head_is begins_further (ls ++ rest) ≡ true
further_begins (comma k d) rest = mark_as k begins_further
further_begins (join (there i) k d j c) rest = or_true_right _ _ (or_true_left _ _ (is_keyword _ _ i))
further_begins (join absent k d j c) rest = or_true_right _ _ (or_true_right _ _ (is_keyword _ _ k))

away_further : (ls : List Lexeme) → Away ls → Free begins_further ls
away_further [] a = refl
away_further (l ∷ ls) a = neither _ _ a.1 (neither _ _ a.2 a.3)

joined_run : (n : ℕ) (j : JoinedSo) {ss : List Source} {cs : List Cond} {ls : List Lexeme} → AreFurther ss cs ls → length ss ≤ n → (rest : List Lexeme) → Away rest → (u : Unread) → Stands u (ls ++ rest)
    → Run (joined n j) u (record { sources = j.sources ++ ss; conds = j.conds ++ cs }) rest
unfolding joined
joined_run zero j AreFurther.none le rest away u s =
    subst (λ x. Run (joined zero j) u x rest) (λ i. record { sources = sym (append-nil j.sources) i; conds = sym (append-nil j.conds) i })
    (chosen_no _ at_further (further_seen u.tokens ∙ ap (head_is begins_further) s ∙ away_further rest away) (run_pure s))
joined_run (suc n) j AreFurther.none le rest away u s =
    subst (λ x. Run (joined (suc n) j) u x rest) (λ i. record { sources = sym (append-nil j.sources) i; conds = sym (append-nil j.conds) i })
    (chosen_no _ at_further (further_seen u.tokens ∙ ap (head_is begins_further) s ∙ away_further rest away) (run_pure s))
joined_run zero j (AreFurther.more d r) le rest away u s = absurd (omega arith)
joined_run (suc n) j (AreFurther.more {f = f} {ss = ss} {cs = cs} {ls = ls} {ms = ms} d r) le rest away u s =
    let s' = s ∙ append_assoc ls ms rest in
    subst (λ x. Run (joined (suc n) j) u x rest) (λ i. record { sources = append_assoc j.sources (f.0 ∷ []) ss i; conds = append_assoc j.conds (option_to_list f.1) cs i })
    (chosen_yes _ at_further (further_seen u.tokens ∙ ap (head_is begins_further) s' ∙ further_begins d (ms ++ rest))
    (run_then _ (further_runs d (ms ++ rest) (all_quiet r rest away.0) u s') (λ v t. joined_run n (with_source j f) r (omega (arith, le)) rest away v t)))

-- ---- the parts behind the sources

where_runs : {c : Option Cond} {ls : List Lexeme} → IsWhere c ls → (rest : List Lexeme) → Free after_part rest → Free (is_word (codes "WHERE")) rest → (u : Unread) → Stands u (ls ++ rest) → Run where_part u c rest
unfolding where_part
where_runs (where_holds k d) rest free away u s =
    yes_next _ _ (is_keyword _ _ k) s (run_then _ (run_then _ (run_word k s) (λ v t. complete_condition.run d rest (quiet rest free).any v t)) (λ v t. run_pure t))
where_runs IsWhere.none rest free away u s = no_next _ _ away s (run_pure s)

where_free : {c : Option Cond} {ls : List Lexeme} (g : Lexeme → Bool) → ((l : Lexeme) → Keyword (codes "WHERE") l → g l ≡ false) → IsWhere c ls → (rest : List Lexeme) → Free g rest → Free g (ls ++ rest)
where_free g h (where_holds k d) rest e = h _ k
where_free g h IsWhere.none rest e = e

abbrev directed : ColumnName → Bool → Reader Order
directed c b = branch (λ u. not b && at_word (codes "ASC") u) (word (codes "ASC")) (pure (tt {0})) >>= λ _. pure (record { column = c; desc = b })

upwards : (c : ColumnName) (l : Lexeme) (rest : List Lexeme) → Keyword (codes "ASC") l → (u : Unread) → Stands u (l ∷ rest) → Run (directed c false) u (record { column = c; desc = false }) rest
upwards c l rest k u s = run_then (λ _. pure (record { column = c; desc = false })) (yes_next (pure (tt {0})) (is_word (codes "ASC")) (is_keyword _ _ k) s (run_word k s)) (λ v t. run_pure t)

unsaid : (c : ColumnName) (rest : List Lexeme) → Free (is_word (codes "ASC")) rest → (u : Unread) → Stands u rest → Run (directed c false) u (record { column = c; desc = false }) rest
unsaid c rest free u s = run_then (λ _. pure (record { column = c; desc = false })) (no_next (word (codes "ASC")) (is_word (codes "ASC")) free s (run_pure {x = tt {0}} s)) (λ v t. run_pure t)

order_runs : {o : Order} {ls : List Lexeme} → IsOrder o ls → (rest : List Lexeme) → Free after_part rest → (u : Unread) → Stands u (ls ++ rest) → Run order u o rest
unfolding order
order_runs (IsOrder.order {c = c} {ls = ls} {ms = ms} d (down k)) rest free u s =
    run_then _ (complete_column.run d (ms ++ rest) (keyword_stops _ k) u (s ∙ append_assoc ls ms rest)) (λ v t. run_then (directed c) (passed_runs {w = codes "DESC"} (there k) rest (quiet rest free).desc v t) (λ w r. run_pure r))
order_runs (IsOrder.order {c = c} {ls = ls} {ms = ms} d (up {l = l} k)) rest free u s =
    run_then _ (complete_column.run d (ms ++ rest) (keyword_stops _ k) u (s ∙ append_assoc ls ms rest)) (λ v t. run_then (directed c) (passed_runs {w = codes "DESC"} absent (l ∷ rest) (word_as k (codes "DESC")) v t) (λ w r. upwards c l rest k w r))
order_runs (IsOrder.order {c = c} {ls = ls} {ms = ms} d IsDirection.none) rest free u s =
    run_then _ (complete_column.run d rest (quiet rest free).value u (s ∙ append_assoc ls [] rest)) (λ v t. run_then (directed c) (passed_runs {w = codes "DESC"} absent rest (quiet rest free).desc v t) (λ w r. unsaid c rest (quiet rest free).asc w r))

orders_run : {os : List Order} {ls : List Lexeme} → AreOrders os ls → (rest : List Lexeme) → Free after_part rest → Free (is_sign (codes ",")) rest → Free (is_word (codes "ORDER")) rest → (u : Unread) → Stands u (ls ++ rest) → Run order_part u os rest
unfolding order_part
orders_run (order_by k j d) rest free apart away u s =
    yes_next _ _ (is_keyword _ _ k) s (run_then _ (run_word k s) (λ v t. run_then _ (run_word j t) (λ w r.
    separated_runs (is_sign (codes ",")) is_comma comma_part (record { run = λ e more free v t. order_runs e more free v t }) d rest free apart w r)))
orders_run AreOrders.none rest free apart away u s = no_next _ _ away s (run_pure s)

orders_free : {os : List Order} {ls : List Lexeme} (g : Lexeme → Bool) → ((l : Lexeme) → Keyword (codes "ORDER") l → g l ≡ false) → AreOrders os ls → (rest : List Lexeme) → Free g rest → Free g (ls ++ rest)
orders_free g h (order_by k j d) rest e = h _ k
orders_free g h AreOrders.none rest e = e

limit_runs : {x : Option Limit} {ls : List Lexeme} → IsLimit x ls → (rest : List Lexeme) → Free (is_word (codes "LIMIT")) rest → Free (is_sign (codes ",")) rest → Free (is_word (codes "OFFSET")) rest → (u : Unread) → Stands u (ls ++ rest) → Run limit_part u x rest
unfolding limit_part limit
limit_runs (IsLimit.limit k) rest away apart offset u s =
    yes_next _ _ (is_keyword _ _ k) s (run_then _ (run_then _ (run_word k s) (λ v t. run_then _ (run_reads _ refl t) (λ w r. no_next _ _ apart r (no_next _ _ offset r (run_pure r))))) (λ v t. run_pure t))
limit_runs (skip_and_limit k j) rest away apart offset u s =
    yes_next _ _ (is_keyword _ _ k) s (run_then _ (run_then _ (run_word k s) (λ v t. run_then _ (run_reads _ refl t) (λ w r. yes_next _ _ (is_comma _ j) r (run_then _ (run_sign j r) (λ z q. run_then _ (run_reads _ refl q) (λ y o. run_pure o))))))
    (λ v t. run_pure t))
limit_runs (limit_and_offset k j) rest away apart offset u s =
    yes_next _ _ (is_keyword _ _ k) s (run_then _ (run_then _ (run_word k s) (λ v t. run_then _ (run_reads _ refl t) (λ w r. no_next _ _ (no_word j (is_sign (codes ",")) (λ b. refl)) r (yes_next _ _ (is_keyword _ _ j) r (run_then _ (run_word j r) (λ z q. run_then _ (run_reads _ refl q) (λ y o. run_pure o)))))))
    (λ v t. run_pure t))
limit_runs IsLimit.none rest away apart offset u s = no_next _ _ away s (run_pure s)

limit_free : {x : Option Limit} {ls : List Lexeme} (g : Lexeme → Bool) → ((l : Lexeme) → Keyword (codes "LIMIT") l → g l ≡ false) → IsLimit x ls → (rest : List Lexeme) → Free g rest → Free g (ls ++ rest)
limit_free g h (IsLimit.limit k) rest e = h _ k
limit_free g h (skip_and_limit k j) rest e = h _ k
limit_free g h (limit_and_offset k j) rest e = h _ k
limit_free g h IsLimit.none rest e = e

lock_runs : {b : Bool} {ls : List Lexeme} → IsLock b ls → (u : Unread) → Stands u ls → Run lock_part u b []
unfolding lock_part
lock_runs (for_update k j) u s = yes_next _ _ (is_keyword _ _ k) s (run_then _ (run_word k s) (λ v t. run_then _ (run_word j t) (λ w r. run_pure r)))
lock_runs (in_share_mode k j m o) u s =
    no_next _ _ (word_as k (codes "FOR")) s (yes_next _ _ (is_keyword _ _ k) s (run_then _ (run_word k s) (λ v t. run_then _ (run_word j t) (λ w r. run_then _ (run_word m r) (λ z q. run_then _ (run_word o q) (λ y p. run_pure p))))))
lock_runs IsLock.none u s = no_next _ _ refl s (no_next _ _ refl s (run_pure s))

lock_free : {b : Bool} {ls : List Lexeme} (g : Lexeme → Bool) → ((l : Lexeme) → Keyword (codes "FOR") l → g l ≡ false) → ((l : Lexeme) → Keyword (codes "LOCK") l → g l ≡ false) → IsLock b ls → Free g ls
lock_free g h i (for_update k j) = h _ k
lock_free g h i (in_share_mode k j m o) = i _ k
lock_free g h i IsLock.none = refl

-- ---- FROM and SELECT

quiet_where : (l : Lexeme) → Keyword (codes "WHERE") l → after_part l ≡ false
unfolding is_reserved
quiet_where l k = quiet_keyword k refl refl

quiet_order : (l : Lexeme) → Keyword (codes "ORDER") l → after_part l ≡ false
unfolding is_reserved
quiet_order l k = quiet_keyword k refl refl

quiet_from : (l : Lexeme) → Keyword (codes "FROM") l → after_part l ≡ false
unfolding is_reserved
quiet_from l k = quiet_keyword k refl refl

quiet_limit : (l : Lexeme) → Keyword (codes "LIMIT") l → after_part l ≡ false
unfolding is_reserved
quiet_limit l k = quiet_keyword k refl refl

quiet_for : (l : Lexeme) → Keyword (codes "FOR") l → after_part l ≡ false
unfolding is_reserved
quiet_for l k = quiet_keyword k refl refl

quiet_lock : (l : Lexeme) → Keyword (codes "LOCK") l → after_part l ≡ false
unfolding is_reserved
quiet_lock l k = quiet_keyword k refl refl

no_comma : {k : Name} (l : Lexeme) → Keyword k l → is_sign (codes ",") l ≡ false
no_comma l k = no_word k (is_sign (codes ",")) (λ b. refl)

-- what stands behind FROM has none of its words in front
record BehindSources (ls : List Lexeme) : Type 0 where
  part : Free after_part ls
  comma : Free (is_sign (codes ",")) ls
  inner : Free (is_word (codes "INNER")) ls
  joins : Free (is_word (codes "JOIN")) ls
  wheres : Free (is_word (codes "WHERE")) ls
  orders : Free (is_word (codes "ORDER")) ls
  froms : Free (is_word (codes "FROM")) ls

from_runs : {b : Behind} {ls : List Lexeme} → IsFrom b ls → (rest : List Lexeme) → BehindSources rest → (u : Unread) → Stands u (ls ++ rest) → Run from_part u b rest
unfolding from_part from
from_runs (IsFrom.from {s = s} {ss = ss} {cs = cs} {c = c} {os = os} {l = l} {ls = ls} {ms = ms} {ns = ns} {ps = ps} k d r le g h) rest q u e =
    let t1 : Stands u (l ∷ (ls ++ (ms ++ (ns ++ (ps ++ rest))))) =
    e ∙ ap (λ x. l ∷ x) (append_assoc ls (ms ++ (ns ++ ps)) rest ∙ ap (λ x. ls ++ x) (append_assoc ms (ns ++ ps) rest ∙ ap (λ x. ms ++ x) (append_assoc ns ps rest))) in
    let f3 : (f : Lexeme → Bool) → ((l : Lexeme) → Keyword (codes "ORDER") l → f l ≡ false) → Free f rest → Free f (ps ++ rest) = λ f o x. orders_free f o h rest x in
    let f2 : (f : Lexeme → Bool) → ((l : Lexeme) → Keyword (codes "WHERE") l → f l ≡ false) → Free f (ps ++ rest) → Free f (ns ++ (ps ++ rest)) = λ f o x. where_free f o g (ps ++ rest) x in
    let parts = f3 after_part quiet_order q.part in
    let away : Away (ns ++ (ps ++ rest)) = (
      f2 after_part quiet_where parts,
      f2 (is_sign (codes ",")) no_comma (f3 (is_sign (codes ",")) no_comma q.comma),
      f2 (is_word (codes "INNER")) (λ l k. word_as k (codes "INNER")) (f3 (is_word (codes "INNER")) (λ l k. word_as k (codes "INNER")) q.inner),
      f2 (is_word (codes "JOIN")) (λ l k. word_as k (codes "JOIN")) (f3 (is_word (codes "JOIN")) (λ l k. word_as k (codes "JOIN")) q.joins),
    ) in
    yes_next _ _ (is_keyword _ _ k) e (run_then _ (run_word k t1) (λ v t. run_then _ (source_runs d (ms ++ (ns ++ (ps ++ rest))) (all_quiet r (ns ++ (ps ++ rest)) away.0) v t)
    (λ w o. run_then _ (joined_run 7 (record { sources = s ∷ []; conds = [] }) r le (ns ++ (ps ++ rest)) away w o)
    (λ z i. run_then _ (where_runs g (ps ++ rest) parts (f3 (is_word (codes "WHERE")) (λ l k. word_as k (codes "WHERE")) q.wheres) z i)
    (λ y m. run_then _ (orders_run h rest q.part q.comma q.orders y m) (λ x n. run_pure n))))))
from_runs IsFrom.none rest q u e = no_next _ _ q.froms e (run_pure e)

from_free : {b : Behind} {ls : List Lexeme} (g : Lexeme → Bool) → ((l : Lexeme) → Keyword (codes "FROM") l → g l ≡ false) → IsFrom b ls → (rest : List Lexeme) → Free g rest → Free g (ls ++ rest)
from_free g h (IsFrom.from k d r le w o) rest e = h _ k
from_free g h IsFrom.none rest e = e

no_cache_start : NoStart (is_word (codes "SQL_CACHE"))
unfolding is_reserved
no_cache_start = word_no_start (codes "SQL_CACHE") refl refl refl

no_no_cache_start : NoStart (is_word (codes "SQL_NO_CACHE"))
unfolding is_reserved
no_no_cache_start = word_no_start (codes "SQL_NO_CACHE") refl refl refl

items_free : {i : Bool × List Item} {ls : List Lexeme} (g : Lexeme → Bool) → NoStart g → g (Sign (codes "*")) ≡ false → IsItems i ls → (rest : List Lexeme) → Free g (ls ++ rest)
items_free g h e (star k) rest = mark_as k g ∙ e
items_free g h e (IsItems.items d) rest = (unlike_separated (record { away = λ {x = x} {ls = ks} d r. by x ks d r })).away d rest
  where
    by : (x : Item) (ks : List Lexeme) → IsItem x ks → (r : List Lexeme) → Free g (ks ++ r)
    by _ _ (IsItem.item {ls = ls} {ms = ms} d a) r = subst (Free g) (sym (append_assoc ls ms r)) ((unlike_value g h most_open true).away d (ms ++ r))

cache_runs : {c : Head} {ls : List Lexeme} → IsCacheWord c ls → (rest : List Lexeme) → Free (is_word (codes "SQL_CACHE")) rest → Free (is_word (codes "SQL_NO_CACHE")) rest → (u : Unread) → Stands u (ls ++ rest) → Run cache_word u c rest
unfolding cache_word
cache_runs (cache k) rest f g u s = yes_next _ _ (is_keyword _ _ k) s (run_then _ (run_word k s) (λ v t. run_pure t))
cache_runs (no_cache k) rest f g u s = no_next _ _ (word_as k (codes "SQL_CACHE")) s (yes_next _ _ (is_keyword _ _ k) s (run_then _ (run_word k s) (λ v t. run_pure t)))
cache_runs IsCacheWord.none rest f g u s = no_next _ _ f s (no_next _ _ g s (run_pure s))

-- what follows the sources in a SELECT
tail_quiet : {x : Option Limit} {b : Bool} {ns os : List Lexeme} → IsLimit x ns → IsLock b os → BehindSources (ns ++ os)
tail_quiet x k = record {
  part = limit_free after_part quiet_limit x _ (lock_free after_part quiet_for quiet_lock k);
  comma = limit_free (is_sign (codes ",")) no_comma x _ (lock_free (is_sign (codes ",")) no_comma no_comma k);
  inner = limit_free (is_word (codes "INNER")) (λ l j. word_as j (codes "INNER")) x _ (lock_free (is_word (codes "INNER")) (λ l j. word_as j (codes "INNER")) (λ l j. word_as j (codes "INNER")) k);
  joins = limit_free (is_word (codes "JOIN")) (λ l j. word_as j (codes "JOIN")) x _ (lock_free (is_word (codes "JOIN")) (λ l j. word_as j (codes "JOIN")) (λ l j. word_as j (codes "JOIN")) k);
  wheres = limit_free (is_word (codes "WHERE")) (λ l j. word_as j (codes "WHERE")) x _ (lock_free (is_word (codes "WHERE")) (λ l j. word_as j (codes "WHERE")) (λ l j. word_as j (codes "WHERE")) k);
  orders = limit_free (is_word (codes "ORDER")) (λ l j. word_as j (codes "ORDER")) x _ (lock_free (is_word (codes "ORDER")) (λ l j. word_as j (codes "ORDER")) (λ l j. word_as j (codes "ORDER")) k);
  froms = limit_free (is_word (codes "FROM")) (λ l j. word_as j (codes "FROM")) x _ (lock_free (is_word (codes "FROM")) (λ l j. word_as j (codes "FROM")) (λ l j. word_as j (codes "FROM")) k);
}

same_items : (i j : Bool × List Item) → SameItems i j → ◌≡◌ {A = Bool × List Item} (i.0, map without_span i.1) (j.0, map without_span j.1)
same_items i j h = let e = each_item i.1 j.1 h.1 in let d = h.0 in cc

select_reads : {c : Head} {i : Bool × List Item} {f : Behind} {x : Option Limit} {lock : Bool} {l : Lexeme} {ks ls ms ns os : List Lexeme}
    → Keyword (codes "SELECT") l → IsCacheWord c ks → IsItems i ls → IsFrom f ms → IsLimit x ns → IsLock lock os → (u : Unread) → Stands u (l ∷ (ks ++ (ls ++ (ms ++ (ns ++ os)))))
    → RunBy SameTree select u (statement.Select (record { cache = c; star = i.0; items = i.1; from = f.sources; cond = f.cond; order = f.order; limit = x; lock = lock })) []
unfolding select
select_reads {c = c} {i = i} {f = f} {x = x} {lock = lock} {ls = ls} {ms = ms} {ns = ns} {os = os} k d is h y z u s =
    let q = tail_quiet y z in
    run_before {S = SameTree} _ (run_word k s) (λ v1 t1. run_before {S = SameTree} _ (cache_runs d (ls ++ (ms ++ (ns ++ os))) (items_free _ no_cache_start refl is (ms ++ (ns ++ os))) (items_free _ no_no_cache_start refl is (ms ++ (ns ++ os))) v1 t1)
    (λ v2 t2. run_then_by {S = SameTree} _ (items_run is (ms ++ (ns ++ os)) (from_free after_part quiet_from h (ns ++ os) q.part) (from_free (is_sign (codes ",")) no_comma h (ns ++ os) q.comma) v2 t2)
    (λ j same v3 t3. run_before {S = SameTree} _ (from_runs h (ns ++ os) q v3 t3) (λ v4 t4. run_before {S = SameTree} _
    (limit_runs y os (lock_free (is_word (codes "LIMIT")) (λ l j. word_as j (codes "LIMIT")) (λ l j. word_as j (codes "LIMIT")) z) (lock_free (is_sign (codes ",")) no_comma no_comma z)
    (lock_free (is_word (codes "OFFSET")) (λ l j. word_as j (codes "OFFSET")) (λ l j. word_as j (codes "OFFSET")) z) v4 t4)
    (λ v5 t5. run_before {S = SameTree} _ (lock_runs z v5 t5) (λ v6 t6. record {
      given = _;
      alike = ap (λ r. statement.Select (record { cache = c; star = r.0; items = r.1; from = f.sources; cond = f.cond; order = f.order; limit = x; lock = lock })) (same_items i j same);
      run = run_pure {x = statement.Select (record { cache = c; star = j.0; items = j.1; from = f.sources; cond = f.cond; order = f.order; limit = x; lock = lock })} t6;
    }))))))

-- ---- the others

last : (ls : List Lexeme) (u : Unread) → Stands u ls → Stands u (ls ++ [])
last ls u s = s ∙ sym (append-nil ls)

complete_name : (f : Lexeme → Bool) → Complete IsName f name
complete_name f = record { run = by }
  where
    by : {n : Name} {ls : List Lexeme} → IsName n ls → (rest : List Lexeme) → Free f rest → (u : Unread) → Stands u (ls ++ rest) → Run name u n rest
    by (IsName.name h) rest free u s = run_named h s

select_reserved : is_reserved (codes "SELECT") ≡ true
unfolding is_reserved
select_reserved = refl

unlike_name : Unlike (is_word (codes "SELECT")) IsName
unlike_name = record { away = by }
  where
    by : {n : Name} {ls : List Lexeme} → IsName n ls → (rest : List Lexeme) → Free (is_word (codes "SELECT")) (ls ++ rest)
    by (IsName.name h) rest = no_reserved h (codes "SELECT") select_reserved

complete_names : {A : Type 0} {D : A → List Lexeme → Type 0} {p : Reader A} → Complete D (λ l. false) p → Complete (Listed D) (is_sign (codes ",")) (listed p)
complete_names h = record { run = λ d rest free u s. separated_runs (is_sign (codes ",")) is_comma (λ l k. refl) h d rest (none_false rest) free u s }
  where
    none_false : (ls : List Lexeme) → Free (λ l. false) ls
    none_false [] = refl
    none_false (l ∷ ls) = refl

bracketed_names : {ns : List Name} {ls : List Lexeme} → Bracketed (Listed IsName) ns ls → (rest : List Lexeme) (u : Unread) → Stands u (ls ++ rest) → Run (bracketed (listed name)) u ns rest
bracketed_names d rest u s = bracketed_runs (complete_names (complete_name (λ l. false))) refl (λ x ls e r ms k. (unlike_separated unlike_name).away e (r ∷ ms)) d rest u s

names_run : {n : Option (List Name)} {ls : List Lexeme} → AreNames n ls → (rest : List Lexeme) → Free (is_sign (codes "(")) rest → (u : Unread) → Stands u (ls ++ rest) → Run names_part u n rest
unfolding names_part
names_run (AreNames.names d) rest free u s = yes_next _ _ (bracket_opens d rest) s (run_then _ (bracketed_names d rest u s) (λ v t. run_pure t))
names_run AreNames.none rest free u s = no_next _ _ free s (run_pure s)

names_free : {n : Option (List Name)} {ls : List Lexeme} (g : Lexeme → Bool) → g (Sign (codes "(")) ≡ false → AreNames n ls → (rest : List Lexeme) → Free g rest → Free g (ls ++ rest)
names_free g h (AreNames.names (brackets {l = l} m d k)) rest e = mark_as m g ∙ h
names_free g h AreNames.none rest e = e

insert_reads : {t : TableRef} {names : Option (List Name)} {rows : List (List Value)} {l m v : Lexeme} {ls ms ns : List Lexeme}
    → Keyword (codes "INSERT") l → Keyword (codes "INTO") m → IsTable t ls → AreNames names ms → Keyword (codes "VALUES") v → Listed IsTuple rows ns → (u : Unread) → Stands u (l ∷ m ∷ (ls ++ (ms ++ (v ∷ ns))))
    → Run insert u (statement.Insert (record { table = t; names = names; rows = rows })) []
unfolding insert
insert_reads {v = v} {ls = ls} {ms = ms} {ns = ns} k j d n w r u s =
    run_then _ (run_word k s) (λ v1 t1. run_then _ (run_word j t1) (λ v2 t2. run_then _ (table_runs d (ms ++ (v ∷ ns)) (names_free (is_sign (codes ".")) refl n (v ∷ ns) (no_word w (is_sign (codes ".")) (λ b. refl))) v2 t2)
    (λ v3 t3. run_then _ (names_run n (v ∷ ns) (no_word w (is_sign (codes "(")) (λ b. refl)) v3 t3) (λ v4 t4. run_then _ (run_word w t4)
    (λ v5 t5. run_then _ ((complete_names (record { run = λ e rest free z q. tuple_runs e rest z q })).run r [] refl v5 (last ns v5 t5)) (λ v6 t6. run_pure t6))))))

column_right : {n : Name} {l : Lexeme} → Named n l → (rest : List Lexeme) → Free after_value rest → (u : Unread) → Stands u (l ∷ rest) → Run right_side u (right.Column n) rest
unfolding right_side
column_right n rest free u s = yes_next _ _ (named_some n) s (run_then _ (run_named n s) (λ v t. run_then _ (ends_runs rest free v t) (λ w r. run_pure r)))

literal_no_name : {v : Value} {ls : List Lexeme} → IsLiteral v ls → (rest : List Lexeme) → Free (λ l. is_some (name_in l)) (ls ++ rest)
literal_no_name (IsLiteral.number lt) rest = refl
literal_no_name (negative le k) rest = mark_as k (λ l. is_some (name_in l))
literal_no_name text rest = refl
literal_no_name (null (keyword {bytes = b} e)) rest = ap (λ c. is_some (cond c None (Some b))) (reserved_same (codes "NULL") b e ∙ reserved_null)

right_runs : {r : Right} {ls : List Lexeme} → IsRight r ls → (rest : List Lexeme) → Free after_value rest → (u : Unread) → Stands u (ls ++ rest) → Run right_side u r rest
unfolding right_side
right_runs (IsRight.column n) rest free u s = column_right n rest free u s
right_runs (IsRight.literal d) rest free u s = no_next _ _ (literal_no_name d rest) s (run_then _ (literal_runs d rest free u s) (λ v t. run_pure t))

complete_assignment : Complete IsAssignment after_value assignment
unfolding assignment
complete_assignment = record { run = by }
  where
    by : {a : Assignment} {ls : List Lexeme} → IsAssignment a ls → (rest : List Lexeme) → Free after_value rest → (u : Unread) → Stands u (ls ++ rest) → Run assignment u a rest
    by (IsAssignment.assignment n k r) rest free u s = run_then _ (run_named n s) (λ v t. run_then _ (run_sign k t) (λ w q. run_then _ (right_runs r rest free w q) (λ z o. run_pure o)))

update_reads : {t : TableRef} {sets : List Assignment} {c : Option Cond} {l m : Lexeme} {ls ms ns : List Lexeme}
    → Keyword (codes "UPDATE") l → IsTable t ls → Keyword (codes "SET") m → Listed IsAssignment sets ms → IsWhere c ns → (u : Unread) → Stands u (l ∷ (ls ++ (m ∷ (ms ++ ns))))
    → Run update u (statement.Update (record { table = t; sets = sets; cond = c })) []
unfolding update
update_reads {m = m} {ls = ls} {ms = ms} {ns = ns} k d j a w u s =
    run_then _ (run_word k s) (λ v1 t1. run_then _ (table_runs d (m ∷ (ms ++ ns)) (no_word j (is_sign (codes ".")) (λ b. refl)) v1 t1) (λ v2 t2. run_then _ (run_word j t2)
    (λ v3 t3. run_then _ (separated_runs (is_sign (codes ",")) is_comma (λ l k. mark_as k after_value) complete_assignment a ns (subst (Free after_value) (append-nil ns) (where_free after_value keyword_stops w [] refl)) (subst (Free (is_sign (codes ","))) (append-nil ns) (where_free (is_sign (codes ",")) no_comma w [] refl)) v3 t3)
    (λ v4 t4. run_then _ (where_runs w [] refl refl v4 (last ns v4 t4)) (λ v5 t5. run_pure t5)))))

delete_reads : {t : TableRef} {c : Option Cond} {l m : Lexeme} {ls ns : List Lexeme} → Keyword (codes "DELETE") l → Keyword (codes "FROM") m → IsTable t ls → IsWhere c ns → (u : Unread) → Stands u (l ∷ m ∷ (ls ++ ns))
    → Run delete u (statement.Delete (record { table = t; cond = c })) []
unfolding delete
delete_reads {ls = ls} {ns = ns} k j d w u s =
    run_then _ (run_word k s) (λ v1 t1. run_then _ (run_word j t1) (λ v2 t2. run_then _ (table_runs d ns (subst (Free (is_sign (codes "."))) (append-nil ns) (where_free (is_sign (codes ".")) (λ l k. no_word k (is_sign (codes ".")) (λ b. refl)) w [] refl)) v2 t2)
    (λ v3 t3. run_then _ (where_runs w [] refl refl v3 (last ns v3 t3)) (λ v4 t4. run_pure t4))))

plain_table : {t : TableRef} {ls : List Lexeme} → IsTable t ls → (u : Unread) → Stands u ls → Run table u t []
plain_table {ls = ls} d u s = table_runs d [] refl u (last ls u s)

reserved_table : is_reserved (codes "TABLE") ≡ true
unfolding is_reserved
reserved_table = refl

reserved_primary : is_reserved (codes "PRIMARY") ≡ true
unfolding is_reserved
reserved_primary = refl

dotted_no_word : (w : Name) → is_reserved w ≡ true → {t : TableRef} {ls : List Lexeme} → IsTable t ls → (rest : List Lexeme) → Free (is_word w) (ls ++ rest)
dotted_no_word w r (IsTable.table (Dotted.bare n)) rest = no_reserved n w r
dotted_no_word w r (IsTable.table (Dotted.dotted n m o)) rest = no_reserved n w r

truncate_reads : {t : TableRef} {said : Bool} {l : Lexeme} {ks ls : List Lexeme} → Keyword (codes "TRUNCATE") l → Passed (codes "TABLE") said ks → IsTable t ls → (u : Unread) → Stands u (l ∷ (ks ++ ls))
    → Run truncate u (statement.Truncate t) []
unfolding truncate
truncate_reads {ks = ks} {ls = ls} k p d u s =
    run_then _ (run_word k s) (λ v1 t1. run_then _ (passed_runs p ls (subst (Free (is_word (codes "TABLE"))) (append-nil ls) (dotted_no_word (codes "TABLE") reserved_table d [])) v1 t1)
    (λ v2 t2. run_then _ (plain_table d v2 t2) (λ v3 t3. run_pure t3)))

-- ---- CREATE TABLE

complete_number : (f : Lexeme → Bool) → Complete IsNumber f number
complete_number f = record { run = by }
  where
    by : {n : ℕ} {ls : List Lexeme} → IsNumber n ls → (rest : List Lexeme) → Free f rest → (u : Unread) → Stands u (ls ++ rest) → Run number u n rest
    by digits rest free u s = run_reads _ refl s

number_away : (n : ℕ) (ls : List Lexeme) → IsNumber n ls → (r : Lexeme) (ms : List Lexeme) → Mark (codes ")") r → Free (is_word (codes "SELECT")) (ls ++ (r ∷ ms))
number_away n ls digits r ms k = refl

name_away : (n : Name) (ls : List Lexeme) → IsName n ls → (r : Lexeme) (ms : List Lexeme) → Mark (codes ")") r → Free (is_word (codes "SELECT")) (ls ++ (r ∷ ms))
name_away n ls d r ms k = unlike_name.away d (r ∷ ms)

kind_runs : {x : PartKind} {ls : List Lexeme} → IsKind x ls → (rest : List Lexeme) (u : Unread) → Stands u (ls ++ rest) → Run part_kind u x rest
unfolding part_kind length_part
kind_runs (big_int k) rest u s = yes_next _ _ (is_keyword _ _ k) s (run_then _ (run_word k s) (λ v t. run_pure t))
kind_runs (var_char k d) rest u s =
    no_next _ _ (word_as k (codes "BIGINT")) s (yes_next _ _ (is_keyword _ _ k) s (run_then _ (run_word k s) (λ v t. run_then _ (bracketed_runs (complete_number (λ l. false)) refl number_away d rest v t) (λ w r. run_pure r))))

-- what stands behind a column of CREATE TABLE
abbrev after_column : Lexeme → Bool
after_column l = is_word (codes "NOT") l || (is_word (codes "NULL") l || is_word (codes "PRIMARY") l)

record Done (ls : List Lexeme) : Type 0 where
  not_next : Free (is_word (codes "NOT")) ls
  null_next : Free (is_word (codes "NULL")) ls
  key_next : Free (is_word (codes "PRIMARY")) ls

done : (ls : List Lexeme) → Free after_column ls → Done ls
done [] e = record { not_next = refl; null_next = refl; key_next = refl }
done (l ∷ ls) e = let r = second_false (is_word (codes "NOT") l) _ e in
    record { not_next = first_false (is_word (codes "NOT") l) _ e; null_next = first_false (is_word (codes "NULL") l) _ r; key_next = second_false (is_word (codes "NULL") l) _ r }

null_runs : {b : Bool} {ls : List Lexeme} → IsNull b ls → (rest : List Lexeme) → Free (is_word (codes "NOT")) rest → Free (is_word (codes "NULL")) rest → (u : Unread) → Stands u (ls ++ rest) → Run null_part u b rest
unfolding null_part
null_runs (not_null k j) rest f g u s = yes_next _ _ (is_keyword _ _ k) s (run_then _ (run_word k s) (λ v t. run_then _ (run_word j t) (λ w r. run_pure r)))
null_runs (IsNull.null k) rest f g u s = no_next _ _ (word_as k (codes "NOT")) s (run_then (λ _. pure false) (passed_runs {w = codes "NULL"} (there k) rest g u s) (λ v t. run_pure t))
null_runs IsNull.none rest f g u s = no_next _ _ f s (run_then (λ _. pure false) (passed_runs {w = codes "NULL"} absent rest g u s) (λ v t. run_pure t))

key_runs : {b : Bool} {ls : List Lexeme} → IsKey b ls → (rest : List Lexeme) → Free (is_word (codes "PRIMARY")) rest → (u : Unread) → Stands u (ls ++ rest) → Run key_part u b rest
unfolding key_part primary_key
key_runs (IsKey.primary_key k j) rest f u s = yes_next _ _ (is_keyword _ _ k) s (run_then _ (run_then _ (run_word k s) (λ v t. run_word j t)) (λ v t. run_pure t))
key_runs IsKey.none rest f u s = no_next _ _ f s (run_pure s)

key_free : {b : Bool} {ls : List Lexeme} (g : Lexeme → Bool) → ((l : Lexeme) → Keyword (codes "PRIMARY") l → g l ≡ false) → IsKey b ls → (rest : List Lexeme) → Free g rest → Free g (ls ++ rest)
key_free g h (IsKey.primary_key k j) rest e = h _ k
key_free g h IsKey.none rest e = e

complete_part : Complete IsPart after_column part
unfolding part primary_key key_of_table column_part
complete_part = record { run = by }
  where
    by : {x : Part} {ls : List Lexeme} → IsPart x ls → (rest : List Lexeme) → Free after_column rest → (u : Unread) → Stands u (ls ++ rest) → Run part u x rest
    by (IsPart.column {l = l} {ks = ks} {ls = ls} {ms = ms} n d r g) rest free u s =
        let q = done rest free in
        let s' = s ∙ ap (λ x. l ∷ x) (append_assoc ks (ls ++ ms) rest ∙ ap (λ x. ks ++ x) (append_assoc ls ms rest)) in
        no_next _ _ (no_reserved n (codes "PRIMARY") reserved_primary) s (run_then _ (run_named n s') (λ v t. run_then _ (kind_runs d (ls ++ (ms ++ rest)) v t)
        (λ w o. run_then _ (null_runs r (ms ++ rest) (key_free (is_word (codes "NOT")) (λ l k. word_as k (codes "NOT")) g rest q.not_next) (key_free (is_word (codes "NULL")) (λ l k. word_as k (codes "NULL")) g rest q.null_next) w o)
        (λ z p. run_then _ (key_runs g rest q.key_next z p) (λ y m. run_pure m)))))
    by (IsPart.primary k j d) rest free u s =
        yes_next _ _ (is_keyword _ _ k) s (run_then _ (run_then _ (run_word k s) (λ v t. run_word j t)) (λ v t. run_then _ (bracketed_runs (complete_name (λ l. false)) refl name_away d rest v t) (λ w r. run_pure r)))

unlike_part : Unlike (is_word (codes "SELECT")) IsPart
unlike_part = record { away = by }
  where
    by : {x : Part} {ls : List Lexeme} → IsPart x ls → (rest : List Lexeme) → Free (is_word (codes "SELECT")) (ls ++ rest)
    by (IsPart.column n d r g) rest = no_reserved n (codes "SELECT") select_reserved
    by (IsPart.primary k j d) rest = word_as k (codes "SELECT")

abbrev after_parts : Lexeme → Bool
after_parts l = after_column l || is_sign (codes ",") l

complete_parts : Complete (Listed IsPart) after_parts (listed part)
complete_parts = record { run = λ d rest free u s. let f = both rest free in separated_runs (is_sign (codes ",")) is_comma (λ l k. mark_as k after_column) complete_part d rest f.0 f.1 u s }
  where
    both : (ls : List Lexeme) → Free after_parts ls → Free after_column ls × Free (is_sign (codes ",")) ls
    both [] e = (refl, refl)
    both (l ∷ ls) e = (first_false (after_column l) _ e, second_false (after_column l) _ e)

create_table_reads : {t : TableRef} {ps : List Part} {m : Lexeme} {ls ms : List Lexeme} → Keyword (codes "TABLE") m → IsTable t ls → Bracketed (Listed IsPart) ps ms → (u : Unread) → Stands u (m ∷ (ls ++ ms))
    → Run create_table u (statement.CreateTable t ps) []
unfolding create_table no_option
create_table_reads {ls = ls} {ms = ms} j d b u s =
    run_then _ (run_word j s) (λ v1 t1. run_then _ (table_runs d ms (opened_free b) v1 t1) (λ v2 t2. run_then _ (bracketed_runs complete_parts refl (λ x ls e r ms k. (unlike_separated unlike_part).away e (r ∷ ms)) b [] v2 (last ms v2 t2))
    (λ v3 t3. run_then _ (no_next _ _ refl t3 (run_pure t3)) (λ v4 t4. run_pure t4))))
  where
    opened_free : {x : List Part} {ks : List Lexeme} → Bracketed (Listed IsPart) x ks → Free (is_sign (codes ".")) ks
    opened_free (brackets m d k) = mark_as m (is_sign (codes "."))

create_table_all : {t : TableRef} {ps : List Part} {l m : Lexeme} {ls ms : List Lexeme} → Keyword (codes "CREATE") l → Keyword (codes "TABLE") m → IsTable t ls → Bracketed (Listed IsPart) ps ms → (u : Unread) → Stands u (l ∷ m ∷ (ls ++ ms))
    → Run create u (statement.CreateTable t ps) []
unfolding create
create_table_all k j d b u s = run_then _ (run_word k s) (λ v t. no_next _ _ (word_as j (codes "DATABASE")) t (yes_next _ _ (is_keyword _ _ j) t (create_table_reads j d b v t)))

create_database_reads : {n : Name} {l m o : Lexeme} → Keyword (codes "CREATE") l → Keyword (codes "DATABASE") m → Named n o → (u : Unread) → Stands u (l ∷ m ∷ o ∷ []) → Run create u (statement.CreateDb n) []
unfolding create
create_database_reads k j n u s = run_then _ (run_word k s) (λ v t. yes_next _ _ (is_keyword _ _ j) t (run_then _ (run_word j t) (λ w r. run_then _ (run_named n r) (λ z q. run_pure q))))

drop_database_reads : {n : Name} {l m o : Lexeme} → Keyword (codes "DROP") l → Keyword (codes "DATABASE") m → Named n o → (u : Unread) → Stands u (l ∷ m ∷ o ∷ []) → Run dropped u (statement.DropDb n) []
unfolding dropped
drop_database_reads k j n u s = run_then _ (run_word k s) (λ v t. yes_next _ _ (is_keyword _ _ j) t (run_then _ (run_word j t) (λ w r. run_then _ (run_named n r) (λ z q. run_pure q))))

drop_table_reads : {t : TableRef} {l m : Lexeme} {ls : List Lexeme} → Keyword (codes "DROP") l → Keyword (codes "TABLE") m → IsTable t ls → (u : Unread) → Stands u (l ∷ m ∷ ls) → Run dropped u (statement.DropTable t) []
unfolding dropped
drop_table_reads k j d u s =
    run_then _ (run_word k s) (λ v t. no_next _ _ (word_as j (codes "DATABASE")) t (yes_next _ _ (is_keyword _ _ j) t (run_then _ (run_word j t) (λ w r. run_then _ (plain_table d w r) (λ z q. run_pure q)))))

use_reads : {n : Name} {l o : Lexeme} → Keyword (codes "USE") l → Named n o → (u : Unread) → Stands u (l ∷ o ∷ []) → Run use_database u (statement.UseDb n) []
unfolding use_database
use_reads k n u s = run_then _ (run_word k s) (λ v t. run_then _ (run_named n t) (λ w r. run_pure r))

start_reads : {l m : Lexeme} → Keyword (codes "START") l → Keyword (codes "TRANSACTION") m → (u : Unread) → Stands u (l ∷ m ∷ []) → Run start_transaction u statement.Begin []
unfolding start_transaction
start_reads k j u s = run_then _ (run_word k s) (λ v t. run_then _ (run_word j t) (λ w r. run_pure r))

flush_tables_reads : {l m : Lexeme} → Keyword (codes "FLUSH") l → Keyword (codes "TABLES") m → (u : Unread) → Stands u (l ∷ m ∷ []) → Run flush u statement.FlushTables []
unfolding flush
flush_tables_reads k j u s = run_then _ (run_word k s) (λ v t. yes_next _ _ (is_keyword _ _ j) t (run_then _ (run_word j t) (λ w r. run_pure r)))

flush_cache_reads : {l m n : Lexeme} → Keyword (codes "FLUSH") l → Keyword (codes "QUERY") m → Keyword (codes "CACHE") n → (u : Unread) → Stands u (l ∷ m ∷ n ∷ []) → Run flush u statement.FlushCache []
unfolding flush
flush_cache_reads k j i u s = run_then _ (run_word k s) (λ v t. no_next _ _ (word_as j (codes "TABLES")) t (run_then _ (run_word j t) (λ w r. run_then _ (run_word i r) (λ z q. run_pure q))))

reset_reads : {l m n : Lexeme} → Keyword (codes "RESET") l → Keyword (codes "QUERY") m → Keyword (codes "CACHE") n → (u : Unread) → Stands u (l ∷ m ∷ n ∷ []) → Run reset u statement.ResetCache []
unfolding reset
reset_reads k j i u s = run_then _ (run_word k s) (λ v t. run_then _ (run_word j t) (λ w r. run_then _ (run_word i r) (λ z q. run_pure q)))

show_reads : {said : Bool} {l m n : Lexeme} {ks : List Lexeme} → Keyword (codes "SHOW") l → Passed (codes "GLOBAL") said ks → Keyword (codes "STATUS") m → Keyword (codes "LIKE") n → (u : Unread)
    → Stands u (l ∷ (ks ++ (m ∷ n ∷ Words (codes "Qcache%") ∷ []))) → Run show u statement.ShowStatus []
unfolding show show_status
show_reads {m = m} {n = n} k p j i u s =
    run_in_place _ (run_then _ (run_word k s) (λ v t. run_then _ (passed_runs p (m ∷ n ∷ Words (codes "Qcache%") ∷ []) (word_as j (codes "GLOBAL")) v t) (λ w r. run_then _ (run_word j r) (λ z q. run_then _ (run_word i q)
    (λ y o. run_then _ (run_next is_pattern refl o) (λ x e. run_pure e))))))

-- ---- SET

set_value_reads : {x : SetValue} {ls : List Lexeme} → IsSetValue x ls → (u : Unread) → Stands u ls → Run set_value u x []
unfolding set_value
set_value_reads IsSetValue.number u s = yes_next _ _ refl s (run_then _ (run_reads _ refl s) (λ v t. run_pure t))
set_value_reads IsSetValue.text u s = no_next _ _ refl s (yes_next _ _ refl s (run_then _ (run_reads _ refl s) (λ v t. run_pure t)))
set_value_reads (IsSetValue.default k) u s =
    no_next _ _ (no_word k (λ l. is_some (digits_in l)) (λ b. refl)) s (no_next _ _ (no_word k (λ l. is_some (words_in l)) (λ b. refl)) s (yes_next _ _ (is_keyword _ _ k) s (run_then _ (run_word k s) (λ v t. run_pure t))))
set_value_reads (IsSetValue.word e) u s = no_next _ _ refl s (no_next _ _ refl s (no_next _ _ e s (run_then _ (run_reads _ refl s) (λ v t. run_pure t))))

setting_reads : {x : Setting} {ls : List Lexeme} → IsSetting x ls → (u : Unread) → Stands u ls → Run (any_word >>= setting_of) u x []
unfolding setting_of set_variable
setting_reads (IsSetting.variable {n = n} k d) u s =
    run_then setting_of (run_reads _ refl s) (λ v t. yes_next _ _ (mark_as k (is_sign (codes "="))) t (run_then _ (run_sign k t) (λ w r. run_then _ (set_value_reads d w r) (λ z q. run_pure q))))
setting_reads (IsSetting.session_variable (keyword {bytes = b} e) k d) u s =
    run_then setting_of (run_reads _ refl s) (λ v t. no_next _ _ refl t (run_if_no _ _ (word_both (codes "SESSION") b (codes "NAMES") e) (run_if_yes _ _ (word_both (codes "SESSION") b (codes "SESSION") e)
    (run_then set_variable (run_reads _ refl t) (λ w r. run_then _ (run_sign k r) (λ z q. run_then _ (set_value_reads d z q) (λ y o. run_pure o)))))))
setting_reads (IsSetting.names (keyword {bytes = b} e)) u s =
    run_then setting_of (run_reads _ refl s) (λ v t. no_next _ _ refl t (run_if_yes _ _ (word_both (codes "NAMES") b (codes "NAMES") e) (run_then _ (run_reads _ refl t) (λ w r. run_pure r))))

set_reads : {x : Setting} {l : Lexeme} {ls : List Lexeme} → Keyword (codes "SET") l → IsSetting x ls → (u : Unread) → Stands u (l ∷ ls) → Run set u (statement.Set x) []
unfolding set no_second
set_reads k d u s = run_then _ (run_word k s) (λ v t. run_then _ (setting_reads d v t) (λ w r. run_then _ (no_next _ _ refl r (run_pure r)) (λ y o. run_pure o)))

-- ---- any statement

exactly : {p : Reader Statement} {u : Unread} {s : Statement} {rest : List Lexeme} → Run p u s rest → RunBy SameTree p u s rest
exactly h = record { given = _; alike = refl; run = h }

statement_reads : {x : Statement} {ls : List Lexeme} → IsStatement x ls → (u : Unread) → Stands u ls → RunBy SameTree any_statement u x []
unfolding any_statement other_statement one_word
statement_reads (IsStatement.select k d i f x o) u s = chosen_by _ _ (is_keyword _ _ k) s (select_reads k d i f x o u s)
statement_reads (IsStatement.insert k j d n w r) u s = exactly (no_next _ _ (word_as k (codes "SELECT")) s (yes_next _ _ (is_keyword _ _ k) s (insert_reads k j d n w r u s)))
statement_reads (IsStatement.update k d j a w) u s = exactly (no_next _ _ (word_as k (codes "SELECT")) s (no_next _ _ (word_as k (codes "INSERT")) s (yes_next _ _ (is_keyword _ _ k) s (update_reads k d j a w u s))))
statement_reads (IsStatement.delete k j d w) u s = exactly (no_next _ _ (word_as k (codes "SELECT")) s (no_next _ _ (word_as k (codes "INSERT")) s (no_next _ _ (word_as k (codes "UPDATE")) s (yes_next _ _ (is_keyword _ _ k) s (delete_reads k j d w u s)))))
statement_reads (IsStatement.truncate k p d) u s = exactly (no_next _ _ (word_as k (codes "SELECT")) s (no_next _ _ (word_as k (codes "INSERT")) s (no_next _ _ (word_as k (codes "UPDATE")) s (no_next _ _ (word_as k (codes "DELETE")) s (yes_next _ _ (is_keyword _ _ k) s (truncate_reads k p d u s))))))
statement_reads (IsStatement.create_table k j d b) u s = exactly (no_next _ _ (word_as k (codes "SELECT")) s (no_next _ _ (word_as k (codes "INSERT")) s (no_next _ _ (word_as k (codes "UPDATE")) s (no_next _ _ (word_as k (codes "DELETE")) s (no_next _ _ (word_as k (codes "TRUNCATE")) s (yes_next _ _ (is_keyword _ _ k) s (create_table_all k j d b u s)))))))
statement_reads (IsStatement.drop_table k j d) u s = exactly (no_next _ _ (word_as k (codes "SELECT")) s (no_next _ _ (word_as k (codes "INSERT")) s (no_next _ _ (word_as k (codes "UPDATE")) s (no_next _ _ (word_as k (codes "DELETE")) s (no_next _ _ (word_as k (codes "TRUNCATE")) s (no_next _ _ (word_as k (codes "CREATE")) s (yes_next _ _ (is_keyword _ _ k) s (drop_table_reads k j d u s))))))))
statement_reads (IsStatement.create_database k j n) u s = exactly (no_next _ _ (word_as k (codes "SELECT")) s (no_next _ _ (word_as k (codes "INSERT")) s (no_next _ _ (word_as k (codes "UPDATE")) s (no_next _ _ (word_as k (codes "DELETE")) s (no_next _ _ (word_as k (codes "TRUNCATE")) s (yes_next _ _ (is_keyword _ _ k) s (create_database_reads k j n u s)))))))
statement_reads (IsStatement.drop_database k j n) u s = exactly (no_next _ _ (word_as k (codes "SELECT")) s (no_next _ _ (word_as k (codes "INSERT")) s (no_next _ _ (word_as k (codes "UPDATE")) s (no_next _ _ (word_as k (codes "DELETE")) s (no_next _ _ (word_as k (codes "TRUNCATE")) s (no_next _ _ (word_as k (codes "CREATE")) s (yes_next _ _ (is_keyword _ _ k) s (drop_database_reads k j n u s))))))))
statement_reads (IsStatement.use_database k n) u s = exactly (no_next _ _ (word_as k (codes "SELECT")) s (no_next _ _ (word_as k (codes "INSERT")) s (no_next _ _ (word_as k (codes "UPDATE")) s (no_next _ _ (word_as k (codes "DELETE")) s (no_next _ _ (word_as k (codes "TRUNCATE")) s (no_next _ _ (word_as k (codes "CREATE")) s (no_next _ _ (word_as k (codes "DROP")) s (yes_next _ _ (is_keyword _ _ k) s (use_reads k n u s)))))))))
statement_reads (IsStatement.begin k) u s = exactly (no_next _ _ (word_as k (codes "SELECT")) s (no_next _ _ (word_as k (codes "INSERT")) s (no_next _ _ (word_as k (codes "UPDATE")) s (no_next _ _ (word_as k (codes "DELETE")) s (no_next _ _ (word_as k (codes "TRUNCATE")) s (no_next _ _ (word_as k (codes "CREATE")) s (no_next _ _ (word_as k (codes "DROP")) s (no_next _ _ (word_as k (codes "USE")) s (no_next _ _ (word_as k (codes "START")) s (no_next _ _ (word_as k (codes "FLUSH")) s (no_next _ _ (word_as k (codes "RESET")) s (no_next _ _ (word_as k (codes "SHOW")) s (no_next _ _ (word_as k (codes "SET")) s (yes_next _ _ (is_keyword _ _ k) s (run_then _ (run_word k s) (λ v t. run_pure t))))))))))))))))
statement_reads (IsStatement.start_transaction k j) u s = exactly (no_next _ _ (word_as k (codes "SELECT")) s (no_next _ _ (word_as k (codes "INSERT")) s (no_next _ _ (word_as k (codes "UPDATE")) s (no_next _ _ (word_as k (codes "DELETE")) s (no_next _ _ (word_as k (codes "TRUNCATE")) s (no_next _ _ (word_as k (codes "CREATE")) s (no_next _ _ (word_as k (codes "DROP")) s (no_next _ _ (word_as k (codes "USE")) s (yes_next _ _ (is_keyword _ _ k) s (start_reads k j u s))))))))))
statement_reads (IsStatement.commit k) u s = exactly (no_next _ _ (word_as k (codes "SELECT")) s (no_next _ _ (word_as k (codes "INSERT")) s (no_next _ _ (word_as k (codes "UPDATE")) s (no_next _ _ (word_as k (codes "DELETE")) s (no_next _ _ (word_as k (codes "TRUNCATE")) s (no_next _ _ (word_as k (codes "CREATE")) s (no_next _ _ (word_as k (codes "DROP")) s (no_next _ _ (word_as k (codes "USE")) s (no_next _ _ (word_as k (codes "START")) s (no_next _ _ (word_as k (codes "FLUSH")) s (no_next _ _ (word_as k (codes "RESET")) s (no_next _ _ (word_as k (codes "SHOW")) s (no_next _ _ (word_as k (codes "SET")) s (no_next _ _ (word_as k (codes "BEGIN")) s (yes_next _ _ (is_keyword _ _ k) s (run_then _ (run_word k s) (λ v t. run_pure t)))))))))))))))))
statement_reads (IsStatement.rollback k) u s = exactly (no_next _ _ (word_as k (codes "SELECT")) s (no_next _ _ (word_as k (codes "INSERT")) s (no_next _ _ (word_as k (codes "UPDATE")) s (no_next _ _ (word_as k (codes "DELETE")) s (no_next _ _ (word_as k (codes "TRUNCATE")) s (no_next _ _ (word_as k (codes "CREATE")) s (no_next _ _ (word_as k (codes "DROP")) s (no_next _ _ (word_as k (codes "USE")) s (no_next _ _ (word_as k (codes "START")) s (no_next _ _ (word_as k (codes "FLUSH")) s (no_next _ _ (word_as k (codes "RESET")) s (no_next _ _ (word_as k (codes "SHOW")) s (no_next _ _ (word_as k (codes "SET")) s (no_next _ _ (word_as k (codes "BEGIN")) s (no_next _ _ (word_as k (codes "COMMIT")) s (yes_next _ _ (is_keyword _ _ k) s (run_then _ (run_word k s) (λ v t. run_pure t))))))))))))))))))
statement_reads (IsStatement.set k d) u s = exactly (no_next _ _ (word_as k (codes "SELECT")) s (no_next _ _ (word_as k (codes "INSERT")) s (no_next _ _ (word_as k (codes "UPDATE")) s (no_next _ _ (word_as k (codes "DELETE")) s (no_next _ _ (word_as k (codes "TRUNCATE")) s (no_next _ _ (word_as k (codes "CREATE")) s (no_next _ _ (word_as k (codes "DROP")) s (no_next _ _ (word_as k (codes "USE")) s (no_next _ _ (word_as k (codes "START")) s (no_next _ _ (word_as k (codes "FLUSH")) s (no_next _ _ (word_as k (codes "RESET")) s (no_next _ _ (word_as k (codes "SHOW")) s (yes_next _ _ (is_keyword _ _ k) s (set_reads k d u s))))))))))))))
statement_reads (IsStatement.show_status k p j i) u s = exactly (no_next _ _ (word_as k (codes "SELECT")) s (no_next _ _ (word_as k (codes "INSERT")) s (no_next _ _ (word_as k (codes "UPDATE")) s (no_next _ _ (word_as k (codes "DELETE")) s (no_next _ _ (word_as k (codes "TRUNCATE")) s (no_next _ _ (word_as k (codes "CREATE")) s (no_next _ _ (word_as k (codes "DROP")) s (no_next _ _ (word_as k (codes "USE")) s (no_next _ _ (word_as k (codes "START")) s (no_next _ _ (word_as k (codes "FLUSH")) s (no_next _ _ (word_as k (codes "RESET")) s (yes_next _ _ (is_keyword _ _ k) s (show_reads k p j i u s)))))))))))))
statement_reads (IsStatement.flush_tables k j) u s = exactly (no_next _ _ (word_as k (codes "SELECT")) s (no_next _ _ (word_as k (codes "INSERT")) s (no_next _ _ (word_as k (codes "UPDATE")) s (no_next _ _ (word_as k (codes "DELETE")) s (no_next _ _ (word_as k (codes "TRUNCATE")) s (no_next _ _ (word_as k (codes "CREATE")) s (no_next _ _ (word_as k (codes "DROP")) s (no_next _ _ (word_as k (codes "USE")) s (no_next _ _ (word_as k (codes "START")) s (yes_next _ _ (is_keyword _ _ k) s (flush_tables_reads k j u s)))))))))))
statement_reads (IsStatement.flush_cache k j i) u s = exactly (no_next _ _ (word_as k (codes "SELECT")) s (no_next _ _ (word_as k (codes "INSERT")) s (no_next _ _ (word_as k (codes "UPDATE")) s (no_next _ _ (word_as k (codes "DELETE")) s (no_next _ _ (word_as k (codes "TRUNCATE")) s (no_next _ _ (word_as k (codes "CREATE")) s (no_next _ _ (word_as k (codes "DROP")) s (no_next _ _ (word_as k (codes "USE")) s (no_next _ _ (word_as k (codes "START")) s (yes_next _ _ (is_keyword _ _ k) s (flush_cache_reads k j i u s)))))))))))
statement_reads (IsStatement.reset_cache k j i) u s = exactly (no_next _ _ (word_as k (codes "SELECT")) s (no_next _ _ (word_as k (codes "INSERT")) s (no_next _ _ (word_as k (codes "UPDATE")) s (no_next _ _ (word_as k (codes "DELETE")) s (no_next _ _ (word_as k (codes "TRUNCATE")) s (no_next _ _ (word_as k (codes "CREATE")) s (no_next _ _ (word_as k (codes "DROP")) s (no_next _ _ (word_as k (codes "USE")) s (no_next _ _ (word_as k (codes "START")) s (no_next _ _ (word_as k (codes "FLUSH")) s (yes_next _ _ (is_keyword _ _ k) s (reset_reads k j i u s))))))))))))

-- ---- whole texts

end_runs : (u : Unread) → u.fault ≡ None → Stands u [] → Run at_end u tt []
unfolding at_end look
end_runs u e s = no_next _ _ refl s (record { left = u; runs = ap (λ f. cond (is_some f && nat_le (length u.tokens) 0) (stop u) (pure (tt {0}) u)) e; stands = s; kept = refl })

whole_runs : (u : Unread) (x : Statement) → u.fault ≡ None → Run any_statement u x [] → Run whole u x []
unfolding whole
whole_runs u x e h =
    let a = end_runs h.left (h.kept ∙ e) h.stands in
    record { left = a.left; runs = ap (λ r. then_read r (λ s. at_end >>= λ _. pure s)) h.runs ∙ ap (λ r. then_read r (λ _. pure x)) a.runs; stands = a.stands; kept = a.kept ∙ h.kept }

pub spelled_are_trees : SpelledAreTrees
unfolding meaning any_text
spelled_are_trees ansi bytes s d e =
    let here = from_front bytes (lexed bytes ansi) in
    let r = statement_reads d here refl in
    let w = run_in_place (unsupported_at (at_word (codes "SELECT") here)) (whole_runs here r.given e r.run) in
    (r.given, ap (statement_of (length bytes)) w.runs, r.alike)

pub one_statement : OneStatement
one_statement ls s t d f =
    let h = statement_reads d (some_text ls) (some_stand ls ∙ append-nil ls) in
    let g = statement_reads f (some_text ls) (some_stand ls ∙ append-nil ls) in
    h.alike ∙ ap without_spans (same_run h.run g.run) ∙ sym g.alike
