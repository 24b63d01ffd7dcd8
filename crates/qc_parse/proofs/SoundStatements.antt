-- The statements that are read are spelled by the tokens that are taken.
use Rattle.std.proofs.Common.{◌≡◌, ℕ, zero, suc, ◌≤◌, Bool, true, false, cond, List, [], ◌∷◌, ◌++◌, length, Option, Some, None, Result, Ok, Err, refl, sym, subst, ap, ◌∙◌, append_assoc, arith}
use Rattle.std.proofs.lemmas.List.{append-nil}
use Rattle.std.proofs.lemmas.Slice.Eq.{bytes_eq-Decides}
use Rattle.std.specs.Prelude.{◌&&◌, not, codes, is_some, nat_le, option_to_list}
use Rattle.qc_sql.specs.declared.statements.Expr.{Expr}
use Rattle.qc_sql.specs.declared.statements.Cond.{Cond}
use Rattle.qc_sql.specs.declared.statements.ColumnName.{ColumnName}
use Rattle.qc_sql.specs.declared.statements.Item.{Item}
use Rattle.qc_sql.specs.declared.statements.Source.{Source}
use Rattle.qc_sql.specs.declared.statements.Statement.{Statement}
use Rattle.qc_sql.specs.declared.statements.Statement.TheVariants as statement
use Rattle.qc_sql.specs.Database.{Name}
use Rattle.qc_sql.specs.Rules.{same_word}
use Rattle.qc_sql.specs.Tokens.{Lexeme, Word, Quoted, Words, Digits, Sign, Token, LexFault, Lexed, lexed, lexemes}
use Rattle.qc_sql.specs.Reading.{Unread, Stop, Before, Refused, Reader, pure, then_read, ◌>>=◌, stop, refuse_any, past, read_as, read_first, token_is, is_word, at_word, word, branch, with_words, word_in, name, number, any_word}
use Rattle.qc_sql.specs.Grammar.{condition, at_further, alias, item, items, spanned, span_text, place, value_at, most_open, cache_word, source, Joined as JoinedSo, joined, with_source, too_many, one_too_many, join_words, further_source, look, where_part, order, order_part, from, from_part, all_conds, limit, limit_part, lock_part, select, names_part, insert, right_side, assignment, update, delete, truncate, part_kind, null_part, primary_key, key_part, part, no_option, create_table, create, dropped, use_database, start_transaction, flush, reset, is_pattern, show_status, show, set_value, set_variable, setting_of, set, simple, any_statement, at_end, whole, any_text, unsupported_at, statement_of, from_front, meaning, other_type, length_part, key_of_table, column_part, no_second, one_word, other_statement}
use Rattle.qc_parse.specs.Trees.{TreesAreSpelled}
use Rattle.qc_parse.specs.Productions.{Keyword, keyword, Passed, there, absent, IsColumn, ValueAt, IsName, IsNumber, digits, IsAlias, behind_as, IsItem, IsItems, star, IsCacheWord, cache, no_cache, IsSource, IsFurther, comma, join, AreFurther, IsWhere, where_holds, IsDirection, down, up, IsOrder, AreOrders, order_by, IsFrom, IsLimit, skip_and_limit, limit_and_offset, IsLock, for_update, in_share_mode, AreNames, IsRight, IsAssignment, IsKind, big_int, var_char, IsNull, not_null, IsKey, IsPart, IsSetValue, IsSetting, IsStatement}
use Rattle.qc_parse.proofs.Congruence.{SameTree}
use Rattle.qc_parse.proofs.Alike.{AlikeResult, steady_text}
use Rattle.qc_parse.proofs.Sound.{Spelled, spelled_chosen, Sound, sound_then, sound_pure, sound_stop, sound_refuse, sound_weaker, sound_map, sound_branch, sound_if, sound_reads, sound_next, sound_word, sound_sign, sound_silent, sound_passed, sound_in_place, sound_listed, sound_bracketed, sound_named, sound_number, sound_words, sound_any_word, sound_table, sound_column, sound_ends, sound_literal, sound_tuple, sound_value, sound_condition, passes, same_sym, sound_name, sound_digits, is_keyword}

-- behind the last part
ended : {A : Type 0} (D : A → List Lexeme → Type 0) {x : A} (ls : List Lexeme) → D x ls → Sound (λ y ms. D y (ls ++ ms)) (pure x)
ended D {x = x} ls h = sound_pure (subst (D x) (sym (append-nil ls)) h)

is_name : Sound IsName name
is_name = sound_weaker (λ n ls d. subst (IsName n) (sym d.1) (IsName.name d.2)) sound_name

is_number : Sound IsNumber number
is_number = sound_weaker (λ n ls d. subst (IsNumber n) (sym d) digits) sound_digits

sound_alias : Sound IsAlias alias
unfolding alias
sound_alias = sound_branch _ (sound_word (codes "AS") (λ l k. sound_named (λ n m d. sound_pure (behind_as k d)))) (sound_branch _ (sound_named (λ n l d. sound_pure (IsAlias.alone d))) (sound_pure IsAlias.none))

sound_item : Sound IsItem item
unfolding item
sound_item = record {
  at = λ u. (sound_then {E = IsItem} {p = spanned (value_at most_open true)} {f = item_of u.text} (spans (sound_value most_open true))
      (λ v ls d. sound_map (item_with u.text v) sound_alias (λ n ms g. IsItem.item d g))).at u;
}
  where
    item_with : List ℕ → Expr × ℕ × ℕ → Option Name → Item
    item_with text v n = record { value = v.0; name = n; from = v.1; to = v.2; words = span_text v.1 v.2 text }

    item_of : List ℕ → Expr × ℕ × ℕ → Reader Item
    item_of text v = alias >>= λ n. pure (item_with text v n)

    spanned_as : (u : Unread) (r : Result (Expr × Unread) Stop) → Spelled (ValueAt most_open true) u.tokens r → Spelled {A = Expr × ℕ × ℕ} (λ v ls. ValueAt most_open true v.0 ls) u.tokens (then_read r (λ e rest. Ok ((e, place u, rest.behind), rest)))
    spanned_as u (Ok x) h = h
    spanned_as u (Err e) h = tt

    spans : Sound (ValueAt most_open true) (value_at most_open true) → Sound {A = Expr × ℕ × ℕ} (λ v ls. ValueAt most_open true v.0 ls) (spanned (value_at most_open true))
    spans h = record { at = λ u. spanned_as u (value_at most_open true u) (h.at u) }

sound_items : Sound IsItems items
unfolding items
sound_items = sound_branch _ (sound_sign (codes "*") (λ l k. sound_pure (star k))) (sound_map _ (sound_listed sound_item) (λ is ls d. IsItems.items d))

sound_cache_word : Sound IsCacheWord cache_word
unfolding cache_word
sound_cache_word = sound_branch _ (sound_word (codes "SQL_CACHE") (λ l k. sound_pure (cache k))) (sound_branch _ (sound_word (codes "SQL_NO_CACHE") (λ l k. sound_pure (no_cache k))) (sound_pure IsCacheWord.none))

sound_source : Sound IsSource source
unfolding source
sound_source = sound_then sound_table (λ t ls d. sound_map _ sound_alias (λ n ms g. IsSource.source d g))

sound_further : Sound IsFurther further_source
unfolding further_source join_words
sound_further =
    sound_branch _ (sound_sign (codes ",") (λ l k. sound_map _ sound_source (λ s ls d. comma k d)))
    (sound_then {D = λ _ js. (inner : Bool) × (ks : List Lexeme) × (l : Lexeme) × (js ≡ ks ++ l ∷ []) × Passed (codes "INNER") inner ks × Keyword (codes "JOIN") l}
    (sound_passed (codes "INNER") (λ b ks d. sound_reads (λ x l e. (b, ks, l, refl, d, is_keyword (codes "JOIN") l (passes (is_word (codes "JOIN") l) x e)))))
    (λ _ js d. subst (λ is. Sound (λ y ms. IsFurther y (is ++ ms)) (source >>= λ s. word (codes "ON") >>= λ _. condition >>= λ c. pure (s, Some c))) (sym d.3)
    (sound_then sound_source (λ s ls g. sound_word (codes "ON") (λ m j. sound_map _ sound_condition (λ c ms h.
    rw append_assoc (join d.4 d.5 g j h)))))))

sound_where : Sound IsWhere where_part
unfolding where_part
sound_where = sound_branch _ (sound_map {D = λ c ls. IsWhere (Some c) ls} Some (sound_word (codes "WHERE") (λ l k. sound_weaker (λ c ls d. where_holds k d) sound_condition)) (λ c ls d. d)) (sound_pure IsWhere.none)

sound_direction : (c : ColumnName) (ls : List Lexeme) → IsColumn c ls → (b : Bool) (ks : List Lexeme) → Passed (codes "DESC") b ks
    → Sound (λ y ms. IsOrder y (ls ++ (ks ++ ms))) (branch (λ u. not b && at_word (codes "ASC") u) (word (codes "ASC")) (pure (tt {0})) >>= λ _. pure (record { column = c; desc = b }))
sound_direction c ls d true ks (there k) = sound_pure (IsOrder.order d (down k))
sound_direction c ls d false ks absent =
    sound_then {D = λ _ js. IsDirection false js} (sound_branch _ (sound_reads (λ x l e. up (is_keyword (codes "ASC") l (passes (is_word (codes "ASC") l) x e)))) (sound_pure IsDirection.none))
    (λ _ js g. ended (λ y ms. IsOrder y (ls ++ ms)) js (IsOrder.order d g))

sound_order : Sound IsOrder order
unfolding order
sound_order = sound_then sound_column (λ c ls d. sound_passed (codes "DESC") (λ b ks p. sound_direction c ls d b ks p))

sound_order_part : Sound AreOrders order_part
unfolding order_part
sound_order_part = sound_branch _ (sound_word (codes "ORDER") (λ l k. sound_word (codes "BY") (λ m j. sound_weaker (λ os ls d. order_by k j d) (sound_listed sound_order)))) (sound_pure AreOrders.none)

-- the sources so far, and what is read behind them
abbrev Reached : ℕ → JoinedSo → JoinedSo → List Lexeme → Type 0
Reached n j k ls = (ss : List Source) × (cs : List Cond) × (k ≡ record { sources = j.sources ++ ss; conds = j.conds ++ cs }) × AreFurther ss cs ls × (length ss ≤ n)

reached_none : (n : ℕ) (j : JoinedSo) → Reached n j j []
reached_none n j = ([], [], (λ i. record { sources = sym (append-nil j.sources) i; conds = sym (append-nil j.conds) i }), AreFurther.none, omega arith)

reached_more : (n : ℕ) (j k : JoinedSo) (f : Source × Option Cond) (ls ms : List Lexeme) → IsFurther f ls → Reached n (with_source j f) k ms → Reached (suc n) j k (ls ++ ms)
reached_more n j k f ls ms d r =
    (f.0 ∷ r.0, option_to_list f.1 ++ r.1, r.2 ∙ (λ i. record { sources = append_assoc j.sources (f.0 ∷ []) r.0 i; conds = append_assoc j.conds (option_to_list f.1) r.1 i }), AreFurther.more d r.3, omega (arith, r.4))

sound_look : Sound (λ _ ls. ls ≡ []) look
unfolding look
sound_look = record { at = λ u. spelled_chosen (λ _ ls. ls ≡ []) u.tokens (is_some u.fault && nat_le (length u.tokens) 0) (stop u) (pure (tt {0}) u) tt ([], refl, refl) }

-- of what is refused in the end nothing is said
sound_too_many : {D : JoinedSo → List Lexeme → Type 0} → Sound D too_many
unfolding too_many one_too_many join_words
sound_too_many =
    sound_then {D = λ _ _. Unit {0}} (sound_branch _ (sound_reads (λ x l e. tt)) (sound_passed (codes "INNER") (λ b ks d. sound_reads (λ x l e. tt))))
    (λ _ ls _. sound_then sound_table (λ t ms d. sound_then sound_look (λ x ns e. record { at = λ u. tt })))

sound_joined : (n : ℕ) (j : JoinedSo) → Sound (Reached n j) (joined n j)
unfolding joined
sound_joined zero j = sound_branch at_further sound_too_many (sound_pure (reached_none 0 j))
sound_joined (suc n) j = sound_branch at_further (sound_then sound_further (λ f ls d. sound_weaker (λ k ms r. reached_more n j k f ls ms d r) (sound_joined n (with_source j f)))) (sound_pure (reached_none (suc n) j))

sound_from : Sound IsFrom from_part
unfolding from_part from
sound_from =
    sound_branch _ (sound_word (codes "FROM") (λ l k. sound_then sound_source (λ s ls d. sound_then (sound_joined 7 (record { sources = s ∷ []; conds = [] })) (λ j ms r.
    sound_then sound_where (λ c ns g. sound_map _ sound_order_part (λ os ps h.
    subst (λ x. IsFrom (record { sources = x.sources; cond = all_conds (x.conds ++ option_to_list c); order = os }) (l ∷ ls ++ (ms ++ (ns ++ ps)))) (sym r.2) (IsFrom.from k d r.3 r.4 g h)))))))
    (sound_pure IsFrom.none)

sound_limit : Sound IsLimit limit_part
unfolding limit_part limit
sound_limit =
    sound_branch _ (sound_map {D = λ x ls. IsLimit (Some x) ls} Some (sound_word (codes "LIMIT") (λ l k. sound_number (λ a.
    sound_branch _ (sound_sign (codes ",") (λ m j. sound_number (λ b. sound_pure (skip_and_limit k j))))
    (sound_branch _ (sound_word (codes "OFFSET") (λ m j. sound_number (λ b. sound_pure (limit_and_offset k j)))) (sound_pure (IsLimit.limit k)))))) (λ x ls d. d)) (sound_pure IsLimit.none)

sound_lock : Sound IsLock lock_part
unfolding lock_part
sound_lock =
    sound_branch _ (sound_word (codes "FOR") (λ l k. sound_word (codes "UPDATE") (λ m j. sound_pure (for_update k j))))
    (sound_branch _ (sound_word (codes "LOCK") (λ l k. sound_word (codes "IN") (λ m j. sound_word (codes "SHARE") (λ n g. sound_word (codes "MODE") (λ o h. sound_pure (in_share_mode k j g h)))))) (sound_pure IsLock.none))

sound_select : Sound IsStatement select
unfolding select
sound_select =
    sound_word (codes "SELECT") (λ l k. sound_then sound_cache_word (λ c ks d. sound_then sound_items (λ i ls g. sound_then sound_from (λ f ms h. sound_then sound_limit (λ x ns y. sound_map _ sound_lock (λ b os z.
    IsStatement.select k d g h y z))))))

-- ---- the others

sound_names : Sound AreNames names_part
unfolding names_part
sound_names = sound_branch _ (sound_map _ (sound_bracketed (sound_listed is_name)) (λ ns ls d. AreNames.names d)) (sound_pure AreNames.none)

sound_insert : Sound IsStatement insert
unfolding insert
sound_insert =
    sound_word (codes "INSERT") (λ l k. sound_word (codes "INTO") (λ m j. sound_then sound_table (λ t ls d. sound_then sound_names (λ names ms g. sound_word (codes "VALUES") (λ v h.
    sound_map _ (sound_listed sound_tuple) (λ rows ns r. IsStatement.insert k j d g h r))))))

sound_right : Sound IsRight right_side
unfolding right_side
sound_right = sound_branch _ (sound_named (λ n l d. sound_silent sound_ends (sound_pure (IsRight.column d)))) (sound_map _ sound_literal (λ v ls d. IsRight.literal d))

sound_assignment : Sound IsAssignment assignment
unfolding assignment
sound_assignment = sound_named (λ n l d. sound_sign (codes "=") (λ m k. sound_map _ sound_right (λ r ls g. IsAssignment.assignment d k g)))

sound_update : Sound IsStatement update
unfolding update
sound_update =
    sound_word (codes "UPDATE") (λ l k. sound_then sound_table (λ t ls d. sound_word (codes "SET") (λ m j. sound_then (sound_listed sound_assignment) (λ sets ms g. sound_map _ sound_where (λ c ns h.
    IsStatement.update k d j g h)))))

sound_delete : Sound IsStatement delete
unfolding delete
sound_delete = sound_word (codes "DELETE") (λ l k. sound_word (codes "FROM") (λ m j. sound_then sound_table (λ t ls d. sound_map _ sound_where (λ c ns h. IsStatement.delete k j d h))))

sound_truncate : Sound IsStatement truncate
unfolding truncate
sound_truncate = sound_word (codes "TRUNCATE") (λ l k. sound_passed (codes "TABLE") (λ b ks p. sound_map _ sound_table (λ t ls d. IsStatement.truncate k p d)))

sound_kind : Sound IsKind part_kind
unfolding part_kind other_type length_part
sound_kind =
    sound_branch _ (sound_word (codes "BIGINT") (λ l k. sound_pure (big_int k)))
    (sound_branch _ (sound_word (codes "VARCHAR") (λ l k. sound_map _ (sound_bracketed is_number) (λ n ls d. var_char k d)))
    (sound_then {D = λ _ _. Unit {0}} (sound_reads (λ x l e. tt)) (λ w ls d. sound_refuse _)))

sound_null : Sound IsNull null_part
unfolding null_part
sound_null =
    sound_branch _ (sound_word (codes "NOT") (λ l k. sound_word (codes "NULL") (λ m j. sound_pure (not_null k j))))
    (sound_passed (codes "NULL") (λ b ks p. sound_pure (by b ks p)))
  where
    by : (b : Bool) (ks : List Lexeme) → Passed (codes "NULL") b ks → IsNull false (ks ++ [])
    by b ks (there k) = IsNull.null k
    by b ks absent = IsNull.none

-- PRIMARY KEY
sound_primary : {A : Type 0} {E : A → List Lexeme → Type 0} {q : Reader A} → ((l m : Lexeme) → Keyword (codes "PRIMARY") l → Keyword (codes "KEY") m → Sound (λ y ms. E y (l ∷ m ∷ ms)) q)
    → Sound E (primary_key >>= λ _. q)
unfolding primary_key
sound_primary {E = E} {q = q} h =
    sound_then {D = λ _ ls. (l : Lexeme) × (m : Lexeme) × (ls ≡ l ∷ m ∷ []) × Keyword (codes "PRIMARY") l × Keyword (codes "KEY") m}
    (sound_word (codes "PRIMARY") (λ l k. sound_reads (λ x m e. (l, m, refl, k, is_keyword (codes "KEY") m (passes (is_word (codes "KEY") m) x e)))))
    (λ _ ls d. subst (λ ks. Sound (λ y ms. E y (ks ++ ms)) q) (sym d.2) (h d.0 d.1 d.3 d.4))

sound_key : Sound IsKey key_part
unfolding key_part
sound_key = sound_branch _ (sound_primary (λ l m k j. sound_pure (IsKey.primary_key k j))) (sound_pure IsKey.none)

sound_part : Sound IsPart part
unfolding part key_of_table column_part
sound_part =
    sound_branch _ (sound_primary (λ l m k j. sound_map _ (sound_bracketed is_name) (λ n ls d. IsPart.primary k j d)))
    (sound_named (λ n l d. sound_then sound_kind (λ kind ks g. sound_then sound_null (λ required ls h. sound_map _ sound_key (λ key ms i. IsPart.column d g h i)))))

sound_no_option : Sound (λ _ ls. ls ≡ []) no_option
unfolding no_option
sound_no_option = sound_branch _ (sound_refuse _) (sound_pure refl)

sound_refuse_any : {A : Type 0} {D : A → List Lexeme → Type 0} (what : List ℕ) → Sound D (refuse_any what)
sound_refuse_any what = sound_branch _ (sound_refuse what) sound_stop

sound_create : Sound IsStatement create
unfolding create create_table
sound_create =
    sound_word (codes "CREATE") (λ l k.
    sound_branch _ (sound_word (codes "DATABASE") (λ m j. sound_named (λ n o d. sound_pure (IsStatement.create_database k j d))))
    (sound_branch _ (sound_word (codes "TABLE") (λ m j. sound_then sound_table (λ t ls d. sound_then (sound_bracketed (sound_listed sound_part)) (λ ps ms g.
    sound_silent sound_no_option (ended (λ y ns. IsStatement y (l ∷ m ∷ ls ++ ns)) ms (IsStatement.create_table k j d g))))))
    (sound_refuse_any _)))

sound_dropped : Sound IsStatement dropped
unfolding dropped
sound_dropped =
    sound_word (codes "DROP") (λ l k.
    sound_branch _ (sound_word (codes "DATABASE") (λ m j. sound_named (λ n o d. sound_pure (IsStatement.drop_database k j d))))
    (sound_branch _ (sound_word (codes "TABLE") (λ m j. sound_map _ sound_table (λ t ls d. IsStatement.drop_table k j d))) (sound_refuse_any _)))

sound_use : Sound IsStatement use_database
unfolding use_database
sound_use = sound_word (codes "USE") (λ l k. sound_named (λ n o d. sound_pure (IsStatement.use_database k d)))

sound_start : Sound IsStatement start_transaction
unfolding start_transaction
sound_start = sound_word (codes "START") (λ l k. sound_word (codes "TRANSACTION") (λ m j. sound_pure (IsStatement.start_transaction k j)))

sound_flush : Sound IsStatement flush
unfolding flush
sound_flush =
    sound_word (codes "FLUSH") (λ l k. sound_branch _ (sound_word (codes "TABLES") (λ m j. sound_pure (IsStatement.flush_tables k j)))
    (sound_word (codes "QUERY") (λ m j. sound_word (codes "CACHE") (λ n g. sound_pure (IsStatement.flush_cache k j g)))))

sound_reset : Sound IsStatement reset
unfolding reset
sound_reset = sound_word (codes "RESET") (λ l k. sound_word (codes "QUERY") (λ m j. sound_word (codes "CACHE") (λ n g. sound_pure (IsStatement.reset_cache k j g))))

pattern_is : (l : Lexeme) → is_pattern l ≡ true → l ≡ Words (codes "Qcache%")
pattern_is (Words t) e = ap Words ((bytes_eq-Decides t (codes "Qcache%")).0 e)
pattern_is (Word w) e = absurd cc
pattern_is (Quoted w) e = absurd cc
pattern_is (Digits w) e = absurd cc
pattern_is (Sign w) e = absurd cc

sound_show : Sound IsStatement show
unfolding show show_status
sound_show = sound_in_place _
    (sound_word (codes "SHOW") (λ l k. sound_passed (codes "GLOBAL") (λ b ks p. sound_word (codes "STATUS") (λ m j. sound_word (codes "LIKE") (λ n g.
    sound_next (λ x. x ≡ Words (codes "Qcache%")) pattern_is (λ x e. sound_pure (subst (λ y. IsStatement statement.ShowStatus (l ∷ ks ++ (m ∷ n ∷ y ∷ []))) (sym e) (IsStatement.show_status k p j g))))))))

-- ---- SET

-- a word that isn't the one that is looked for first
sound_other_word : {A : Type 0} {D : A → List Lexeme → Type 0} {p : Reader A} {f : Name → A} (w : Name) → Sound D p → ((v : Name) → same_word w v ≡ false → D (f v) (Word v ∷ []))
    → Sound D (branch (at_word w) p (any_word >>= λ v. pure (f v)))
sound_other_word {A = A} {D = D} {p = p} {f = f} w h k = record { at = λ u. by u u.tokens (p u) (h.at u) }
  where
    another : (u : Unread) (t : Token) (ts : List Token) (l : Lexeme) (r : Result (A × Unread) Stop) → t.what ≡ l → Spelled D (t ∷ ts) r
        → Spelled D (t ∷ ts) (cond (is_word w l) r (then_read (read_as u t ts (word_in l)) (λ v. pure (f v))))
    another u t ts (Word v) r e d = chosen (same_word w v) refl
      where
        chosen : (c : Bool) → same_word w v ≡ c → Spelled D (t ∷ ts) (cond c r (pure (f v) (past u t ts)))
        chosen true g = d
        chosen false g = (t ∷ [], refl, subst (λ l. D (f v) (l ∷ [])) (sym e) (k v g))
    another u t ts (Quoted v) r e d = tt
    another u t ts (Words v) r e d = tt
    another u t ts (Digits v) r e d = tt
    another u t ts (Sign v) r e d = tt

    by : (u : Unread) (ts : List Token) (r : Result (A × Unread) Stop) → Spelled D ts r → Spelled D ts (cond (token_is (is_word w) ts) r (then_read (read_first word_in u ts) (λ v. pure (f v))))
    by u [] r d = tt
    by u (t ∷ ts) r d = another u t ts t.what r refl d

sound_set_value : Sound IsSetValue set_value
unfolding set_value
sound_set_value =
    sound_branch _ (sound_number (λ n. sound_pure IsSetValue.number)) (sound_branch _ (sound_words (λ t. sound_pure IsSetValue.text))
    (sound_other_word (codes "DEFAULT") (sound_word (codes "DEFAULT") (λ l k. sound_pure (IsSetValue.default k))) (λ v e. IsSetValue.word e)))

sound_variable : (w : Name) → Sound (λ y ms. IsSetting y (Word w ∷ ms)) (set_variable w)
unfolding set_variable
sound_variable w = sound_sign (codes "=") (λ m k. sound_map _ sound_set_value (λ v ls d. IsSetting.variable k d))

sound_setting : (w : Name) → Sound (λ y ms. IsSetting y (Word w ∷ ms)) (setting_of w)
unfolding setting_of set_variable
sound_setting w =
    sound_branch _ (sound_variable w)
    (sound_if (same_word w (codes "NAMES")) (λ e. sound_any_word (λ n. sound_pure (IsSetting.names (keyword (same_sym w (codes "NAMES") e)))))
    (λ _. sound_if (same_word w (codes "SESSION")) (λ e. sound_any_word (λ n. sound_sign (codes "=") (λ m k. sound_map _ sound_set_value (λ v ls d. IsSetting.session_variable (keyword (same_sym w (codes "SESSION") e)) k d))))
    (λ _. sound_if (same_word w (codes "GLOBAL")) (λ _. sound_refuse_any _) (λ _. sound_if (same_word w (codes "TRANSACTION")) (λ _. sound_refuse_any _) (λ _. sound_stop)))))

sound_no_second : Sound (λ _ ls. ls ≡ []) no_second
unfolding no_second
sound_no_second = sound_branch _ (sound_refuse _) (sound_pure refl)

sound_set : Sound IsStatement set
unfolding set
sound_set = sound_word (codes "SET") (λ l k. sound_then {D = IsSetting} (sound_any_word (λ w. sound_setting w))
    (λ s ls d. sound_silent sound_no_second (ended (λ y ms. IsStatement y (l ∷ ms)) ls (IsStatement.set k d))))

-- ---- any statement

sound_simple : {p : Reader Statement} (w : Name) (s : Statement) → ((l : Lexeme) → Keyword w l → IsStatement s (l ∷ [])) → Sound IsStatement p → Sound IsStatement (simple w s p)
sound_simple w s k h = sound_branch (at_word w) (sound_word w (λ l j. sound_pure (k l j))) h

sound_one_word : Sound IsStatement one_word
unfolding one_word
sound_one_word =
    sound_simple (codes "BEGIN") statement.Begin (λ l k. IsStatement.begin k)
    (sound_simple (codes "COMMIT") statement.Commit (λ l k. IsStatement.commit k)
    (sound_simple (codes "ROLLBACK") statement.Rollback (λ l k. IsStatement.rollback k) sound_stop))

sound_other_statement : Sound IsStatement other_statement
unfolding other_statement
sound_other_statement =
    sound_branch _ sound_use
    (sound_branch _ sound_start
    (sound_branch _ sound_flush
    (sound_branch _ sound_reset
    (sound_branch _ sound_show
    (sound_branch _ sound_set sound_one_word)))))

pub sound_statement : Sound IsStatement any_statement
unfolding any_statement
sound_statement =
    sound_branch _ sound_select
    (sound_branch _ sound_insert
    (sound_branch _ sound_update
    (sound_branch _ sound_delete
    (sound_branch _ sound_truncate
    (sound_branch _ sound_create
    (sound_branch _ sound_dropped sound_other_statement))))))

-- ---- a whole text

-- nothing is left
abbrev Ended : {A : Type 0} → Result (A × Unread) Stop → Type 0
Ended (Ok x) = (x.1.tokens ≡ []) × (x.1.fault ≡ None)
Ended (Err e) = Unit {0}

none_left : (s : Statement) (u : Unread) → Ended (then_read (at_end u) (λ _. pure s))
unfolding at_end look
none_left s u = by u.tokens refl u.fault refl
  where
    by : (ts : List Token) → u.tokens ≡ ts → (f : Option LexFault) → u.fault ≡ f
        → Ended (then_read (cond (token_is (λ l. true) ts) (Err (Before u)) (cond (is_some f && nat_le (length ts) 0) (stop u) (pure (tt {0}) u))) (λ _. pure s))
    by [] e None d = (e, d)
    by [] e (Some f) d = tt
    by (t ∷ ts) e f d = tt

all_taken : (r : Result (Statement × Unread) Stop) → Ended (then_read r (λ s. at_end >>= λ _. pure s))
all_taken (Ok x) = none_left x.0 x.1
all_taken (Err e) = tt

sound_whole : Sound IsStatement whole
unfolding whole at_end
sound_whole = sound_then sound_statement (λ s ls d. sound_silent (sound_branch _ sound_stop sound_look) (ended IsStatement ls d))

ended_placed : (f : Unread → Option (List ℕ)) (r : Result (Statement × Unread) Stop) → Ended r → Ended (with_words f r)
ended_placed f (Ok x) h = h
ended_placed f (Err (Before u)) h = tt
ended_placed f (Err (Refused c)) h = tt

pub trees_are_spelled : TreesAreSpelled
unfolding meaning any_text whole
trees_are_spelled ansi text s e = by (any_text here) (steady_text text text all all here here
    (record { passed = 0; first = refl; second = refl; first_text = refl; second_text = refl; first_fault = refl; second_fault = refl; lexemes_alike = refl; faults_alike = refl }))
    ((sound_in_place (unsupported_at (at_word (codes "SELECT") here)) sound_whole).at here)
    (ended_placed (unsupported_at (at_word (codes "SELECT") here)) (whole here) (all_taken (any_statement here))) e
  where
    all : Lexed
    all = lexed text ansi

    here : Unread
    here = from_front text all

    by : (r : Result (Statement × Unread) Stop) → AlikeResult text text all all SameTree r r → Spelled IsStatement all.0 r → Ended r → statement_of (length text) r ≡ Ok s → IsStatement s (lexemes all.0) × (all.1 ≡ None)
    by (Err why) alike d end e = absurd cc
    by (Ok x) alike d end e =
        let same : x.0 ≡ s = cc in
        let taken : all.0 ≡ d.0 = d.1 ∙ ap (λ ts. d.0 ++ ts) end.0 ∙ append-nil d.0 in
        (subst (λ t. IsStatement t (lexemes all.0)) same (subst (λ ts. IsStatement x.0 (lexemes ts)) (sym taken) d.2), sym alike.1.first_fault ∙ end.1)
