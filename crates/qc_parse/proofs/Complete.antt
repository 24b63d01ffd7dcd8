-- What the productions spell is read.
use Rattle.std.proofs.Common.{◌≡◌, ℕ, zero, suc, ◌+◌, ◌≤◌, Bool, true, false, cond, List, [], ◌∷◌, ◌++◌, length, Option, Some, None, Ok, refl, sym, subst, ap, ◌∙◌, append_assoc, arith}
use Rattle.std.proofs.lemmas.List.{length-map, length-append}
use Rattle.std.proofs.lemmas.Bool.{lt-ltb}
use Rattle.std.proofs.lemmas.Bool.Decides.{nat_tests}
use Rattle.std.proofs.lemmas.Slice.Eq.{bytes_eq-Decides}
use Rattle.std.specs.Prelude.{◌&&◌, ◌||◌, not, codes, nat_le, nat_lt, ◌^◌, is_some, bytes_eq}
use Rattle.std.specs.List.{list_any, list_all}
use Rattle.qc_types.specs.declared.names.Value.{Value}
use Rattle.qc_sql.specs.declared.statements.Expr.{Expr}
use Rattle.qc_sql.specs.declared.statements.Expr.TheVariants as expr
use Rattle.qc_sql.specs.declared.statements.Cond.{Cond}
use Rattle.qc_sql.specs.declared.statements.Cond.TheVariants as test
use Rattle.qc_sql.specs.declared.statements.Op.{Op}
use Rattle.qc_sql.specs.declared.statements.ColumnName.{ColumnName}
use Rattle.qc_sql.specs.Database.{Name}
use Rattle.qc_sql.specs.Words.{when}
use Rattle.qc_sql.specs.Rules.{same_word, in_capitals, uncached_words}
use Rattle.qc_sql.specs.Tokens.{Lexeme, Word, Quoted, Words, Digits, Sign, Token, lexemes}
use Rattle.qc_sql.specs.Reading.{Unread, Reader, pure, then_read, ◌>>=◌, refuse, past, read_as, read_first, reads, next, token_is, next_is, is_word, is_sign, word, sign, branch, passed, at_most, many, separated, listed, opened, bracketed, with_words, in_place_of_syntax, reserved, is_reserved, is_among, name_in, digits_in, words_in, word_in, name}
use Rattle.qc_sql.specs.Grammar.{dotted, column, ends_value, is_arithmetic, signed, bare_literal, literal, tuple, is_known_call, is_aggregate_word, is_plain_call, is_uncached_call, is_aggregate, at_aggregate, call_word, at_literal, begins_call, at_call, column_argument, counted, arguments, call_of, call_at, value_at, too_deep, op_in, op_first, op_ahead, null_test, in_test, list_or_range, test_behind, test_of, negated, joined_by, all_of, any_of, member_of, member_at, most_open, condition}
use Rattle.qc_parse.proofs.Sound.{Counting, all_rows, of_value}
use Rattle.qc_parse.specs.Productions.{Keyword, keyword, Mark, mark, Named, Passed, there, absent, Separated, one, more, Listed, Bracketed, brackets, Dotted, bare, IsColumn, IsLiteral, negative, text, null, IsTuple, Arguments, IsCall, ValueOf, CallAt, ValueAt, Compares, equal, unequal, not_equal, less, at_most as or_less, greater, at_least, denied, IsTest, Joined, AnyOf, MemberOf, MemberAt, Nothing, IsCondition}

-- ---- a reader that gives x, and leaves these lexemes

pub record Run {A : Type 0} (p : Reader A) (u : Unread) (x : A) (rest : List Lexeme) : Type 0 where
  pub left : Unread
  pub runs : p u ≡ Ok (x, left)
  pub stands : lexemes left.tokens ≡ rest
  pub kept : left.fault ≡ u.fault

abbrev pub Stands : Unread → List Lexeme → Type 0
Stands u ls = lexemes u.tokens ≡ ls

abbrev pub head_is : (Lexeme → Bool) → List Lexeme → Bool
head_is f [] = false
head_is f (l ∷ ls) = f l

abbrev pub Free : (Lexeme → Bool) → List Lexeme → Type 0
Free f ls = head_is f ls ≡ false

pub run_pure : {A : Type 0} {x : A} {u : Unread} {rest : List Lexeme} → Stands u rest → Run (pure x) u x rest
run_pure {u = u} e = record { left = u; runs = refl; stands = e; kept = refl }

pub run_then : {A B : Type 0} {p : Reader A} {u : Unread} {x : A} {y : B} {ms rest : List Lexeme} (f : A → Reader B) → Run p u x ms
    → ((v : Unread) → Stands v ms → Run (f x) v y rest) → Run (p >>= f) u y rest
run_then f h k = let r = k h.left h.stands in record { left = r.left; runs = ap (λ s. then_read s f) h.runs ∙ r.runs; stands = r.stands; kept = r.kept ∙ h.kept }

first_read : {A : Type 0} (f : Lexeme → Option A) (u : Unread) (x : A) (l : Lexeme) (rest : List Lexeme) (ts : List Token) → u.tokens ≡ ts → f l ≡ Some x → lexemes ts ≡ l ∷ rest → Run (reads f) u x rest
first_read f u x l rest [] e h s = absurd cc
first_read f u x l rest (t ∷ ts) e h s =
    let what : t.what ≡ l = cc in
    record { left = past u t ts; runs = ap (λ us. read_first f u us) e ∙ ap (λ m. read_as u t ts (f m)) what ∙ ap (read_as u t ts) h; stands = (let d : lexemes ts ≡ rest = cc in d); kept = refl }

pub run_reads : {A : Type 0} {u : Unread} {x : A} {l : Lexeme} {rest : List Lexeme} (f : Lexeme → Option A) → f l ≡ Some x → Stands u (l ∷ rest) → Run (reads f) u x rest
run_reads {u = u} {x = x} {l = l} {rest = rest} f h s = first_read f u x l rest u.tokens refl h s

pub run_next : {u : Unread} {l : Lexeme} {rest : List Lexeme} (f : Lexeme → Bool) → f l ≡ true → Stands u (l ∷ rest) → Run (next f) u tt rest
run_next f h s = run_reads _ (ap (λ c. when c tt) h) s

pub sees : (f : Lexeme → Bool) (ts : List Token) → token_is f ts ≡ head_is f (lexemes ts)
sees f [] = refl
sees f (t ∷ ts) = refl

pub chosen_yes : {A : Type 0} {p : Reader A} {u : Unread} {x : A} {rest : List Lexeme} (q : Reader A) (c : Unread → Bool) → c u ≡ true → Run p u x rest → Run (branch c p q) u x rest
chosen_yes {p = p} {u = u} q c e h = record { left = h.left; runs = ap (λ t. cond t (p u) (q u)) e ∙ h.runs; stands = h.stands; kept = h.kept }

pub chosen_no : {A : Type 0} {q : Reader A} {u : Unread} {x : A} {rest : List Lexeme} (p : Reader A) (c : Unread → Bool) → c u ≡ false → Run q u x rest → Run (branch c p q) u x rest
chosen_no {q = q} {u = u} p c e h = record { left = h.left; runs = ap (λ t. cond t (p u) (q u)) e ∙ h.runs; stands = h.stands; kept = h.kept }

pub yes_next : {A : Type 0} {p : Reader A} {u : Unread} {x : A} {ls rest : List Lexeme} (q : Reader A) (f : Lexeme → Bool) → head_is f ls ≡ true → Stands u ls → Run p u x rest → Run (branch (next_is f) p q) u x rest
yes_next {u = u} q f e s h = chosen_yes q (next_is f) (sees f u.tokens ∙ ap (head_is f) s ∙ e) h

pub no_next : {A : Type 0} {q : Reader A} {u : Unread} {x : A} {ls rest : List Lexeme} (p : Reader A) (f : Lexeme → Bool) → head_is f ls ≡ false → Stands u ls → Run q u x rest → Run (branch (next_is f) p q) u x rest
no_next {u = u} p f e s h = chosen_no p (next_is f) (sees f u.tokens ∙ ap (head_is f) s ∙ e) h

pub run_if_yes : {A : Type 0} {p : Reader A} {u : Unread} {x : A} {rest : List Lexeme} (q : Reader A) (c : Bool) → c ≡ true → Run p u x rest → Run (cond c p q) u x rest
run_if_yes q true e h = h
run_if_yes q false e h = absurd cc

pub run_if_no : {A : Type 0} {q : Reader A} {u : Unread} {x : A} {rest : List Lexeme} (p : Reader A) (c : Bool) → c ≡ false → Run q u x rest → Run (cond c p q) u x rest
run_if_no p true e h = absurd cc
run_if_no p false e h = h

pub run_in_place : {A : Type 0} {p : Reader A} {u : Unread} {x : A} {rest : List Lexeme} (f : Unread → Option (List ℕ)) → Run p u x rest → Run (in_place_of_syntax f p) u x rest
run_in_place f h = record { left = h.left; runs = ap (with_words f) h.runs; stands = h.stands; kept = h.kept }

-- ---- words and signs

pub bytes_same : (c : List ℕ) → bytes_eq c c ≡ true
bytes_same c = (bytes_eq-Decides c c).1 refl

pub same_as : (k b w : Name) → same_word k b ≡ true → same_word w b ≡ same_word w k
same_as k b w e = ap (bytes_eq (in_capitals w)) (sym ((bytes_eq-Decides (in_capitals k) (in_capitals b)).0 e))

-- a keyword is another as it is spelled
pub word_as : {k : Name} {l : Lexeme} → Keyword k l → (w : Name) → is_word w l ≡ same_word w k
word_as {k = k} (keyword {bytes = b} e) w = same_as k b w e

pub no_word : {k : Name} {l : Lexeme} → Keyword k l → (f : Lexeme → Bool) → ((b : Name) → f (Word b) ≡ false) → f l ≡ false
no_word (keyword {bytes = b} e) f h = h b

pub mark_as : {s : List ℕ} {l : Lexeme} → Mark s l → (f : Lexeme → Bool) → f l ≡ f (Sign s)
mark_as mark f = refl

pub run_word : {w : Name} {u : Unread} {l : Lexeme} {rest : List Lexeme} → Keyword w l → Stands u (l ∷ rest) → Run (word w) u tt rest
run_word (keyword e) s = run_next _ e s

pub run_sign : {c : List ℕ} {u : Unread} {l : Lexeme} {rest : List Lexeme} → Mark c l → Stands u (l ∷ rest) → Run (sign c) u tt rest
run_sign {c = c} mark s = run_next _ (bytes_same c) s

pub run_named : {n : Name} {u : Unread} {l : Lexeme} {rest : List Lexeme} → Named n l → Stands u (l ∷ rest) → Run name u n rest
run_named {n = n} (Named.word e) s = run_reads _ (ap (λ c. cond c None (Some n)) e) s
run_named Named.quoted s = run_reads _ refl s

pub among_as : (ws : List Name) (k b : Name) → same_word k b ≡ true → is_among ws b ≡ is_among ws k
among_as ws k b e = ap (λ c. list_any (λ w. bytes_eq c (in_capitals w)) ws) (sym ((bytes_eq-Decides (in_capitals k) (in_capitals b)).0 e))

-- no name is a reserved word
pub no_reserved : {n : Name} {l : Lexeme} → Named n l → (w : Name) → is_reserved w ≡ true → is_word w l ≡ false
unfolding is_reserved
no_reserved Named.quoted w r = refl
no_reserved {n = n} (Named.word e) w r = by (same_word w n) refl
  where
    by : (c : Bool) → same_word w n ≡ c → same_word w n ≡ false
    by false d = d
    by true d = absurd (let f = among_as reserved w n d in cc)

pub no_name : {n : Name} {l : Lexeme} → Named n l → (f : Lexeme → Bool) → ((b : Name) → f (Word b) ≡ false) → ((b : Name) → f (Quoted b) ≡ false) → f l ≡ false
no_name {n = n} (Named.word e) f h g = h n
no_name {n = n} Named.quoted f h g = g n

and_left : (a b : Bool) → (a && b) ≡ true → a ≡ true
and_left true b e = refl
and_left false b e = absurd cc

and_right : (a b : Bool) → (a && b) ≡ true → b ≡ true
and_right true b e = e
and_right false b e = absurd cc

-- ---- what can't stand behind a value

abbrev pub after_value : Lexeme → Bool
after_value l = is_sign (codes ".") l || (is_sign (codes "(") l || is_arithmetic l)

pub first_false : (a b : Bool) → (a || b) ≡ false → a ≡ false
first_false false b e = refl
first_false true b e = absurd cc

pub second_false : (a b : Bool) → (a || b) ≡ false → b ≡ false
second_false false b e = e
second_false true b e = absurd cc

free_dot : (ls : List Lexeme) → Free after_value ls → Free (is_sign (codes ".")) ls
free_dot [] e = refl
free_dot (l ∷ ls) e = first_false (is_sign (codes ".") l) _ e

free_bracket : (ls : List Lexeme) → Free after_value ls → Free (is_sign (codes "(")) ls
free_bracket [] e = refl
free_bracket (l ∷ ls) e = first_false (is_sign (codes "(") l) _ (second_false (is_sign (codes ".") l) _ e)

free_arithmetic : (ls : List Lexeme) → Free after_value ls → Free is_arithmetic ls
free_arithmetic [] e = refl
free_arithmetic (l ∷ ls) e = second_false (is_sign (codes "(") l) _ (second_false (is_sign (codes ".") l) _ e)

-- each x that D spells is read by p, where what follows is free of f
pub record Complete {A : Type 0} (D : A → List Lexeme → Type 0) (f : Lexeme → Bool) (p : Reader A) : Type 0 where
  pub run : {x : A} {ls : List Lexeme} → D x ls → (rest : List Lexeme) → Free f rest → (u : Unread) → Stands u (ls ++ rest) → Run p u x rest

pub dotted_runs : {d : Option Name × Name} {ls : List Lexeme} → Dotted d ls → (rest : List Lexeme) → Free (is_sign (codes ".")) rest → (u : Unread) → Stands u (ls ++ rest) → Run dotted u d rest
unfolding dotted
dotted_runs (bare h) rest free u s = run_then _ (run_named h s) (λ v t. no_next _ _ free t (run_pure t))
dotted_runs (Dotted.dotted h k g) rest free u s =
    run_then _ (run_named h s) (λ v t. yes_next _ _ (mark_as k (is_sign (codes "."))) t (run_then _ (run_sign k t) (λ w r. run_then _ (run_named g r) (λ z q. run_pure q))))

pub ends_runs : (rest : List Lexeme) → Free after_value rest → (u : Unread) → Stands u rest → Run ends_value u tt rest
unfolding ends_value
ends_runs rest free u s = no_next _ _ (free_arithmetic rest free) s (run_pure s)

column_runs : {c : ColumnName} {ls : List Lexeme} → IsColumn c ls → (rest : List Lexeme) → Free after_value rest → (u : Unread) → Stands u (ls ++ rest) → Run column u c rest
unfolding column
column_runs (IsColumn.column h) rest free u s = run_then _ (dotted_runs h rest (free_dot rest free) u s) (λ v t. run_then _ (ends_runs rest free v t) (λ w r. run_pure r))

pub complete_column : Complete IsColumn after_value column
complete_column = record { run = column_runs }

bare_literal_runs : {v : Value} {ls : List Lexeme} → IsLiteral v ls → (rest : List Lexeme) → (u : Unread) → Stands u (ls ++ rest) → Run bare_literal u v rest
unfolding bare_literal signed
bare_literal_runs (IsLiteral.number {n = n} lt) rest u s =
    yes_next _ _ refl s (run_then _ (run_reads _ refl s) (λ v t. run_if_yes _ (nat_lt n (2 ^ 63)) (lt-ltb n (2 ^ 63) lt) (run_pure t)))
bare_literal_runs (negative {n = n} le k) rest u s =
    no_next _ _ (mark_as k (λ l. is_some (digits_in l))) s (yes_next _ _ (mark_as k (is_sign (codes "-"))) s (run_then _ (run_sign k s) (λ v t. run_then _ (run_reads _ refl t)
    (λ w r. run_if_yes _ (nat_le n (2 ^ 63)) (grind (arith, nat_tests, le)) (run_pure r)))))
bare_literal_runs text rest u s = no_next _ _ refl s (no_next _ _ refl s (yes_next _ _ refl s (run_then _ (run_reads _ refl s) (λ v t. run_pure t))))
bare_literal_runs (null k) rest u s =
    no_next _ _ (no_word k (λ l. is_some (digits_in l)) (λ b. refl)) s (no_next _ _ (no_word k (is_sign (codes "-")) (λ b. refl)) s (no_next _ _ (no_word k (λ l. is_some (words_in l)) (λ b. refl)) s
    (run_then _ (run_word k s) (λ v t. run_pure t))))

pub literal_runs : {v : Value} {ls : List Lexeme} → IsLiteral v ls → (rest : List Lexeme) → Free after_value rest → (u : Unread) → Stands u (ls ++ rest) → Run literal u v rest
unfolding literal
literal_runs h rest free u s = run_then _ (bare_literal_runs h rest u s) (λ v t. run_then _ (ends_runs rest free v t) (λ w r. run_pure r))

pub complete_literal : Complete IsLiteral after_value literal
complete_literal = record { run = literal_runs }

-- ---- lists and brackets

module _ {A : Type 0} {D : A → List Lexeme → Type 0} {K : Lexeme → Type 0} {f : Lexeme → Bool} {p : Reader A} (g : Lexeme → Bool) (is : (l : Lexeme) → K l → g l ≡ true) (stops : (l : Lexeme) → K l → f l ≡ false) (h : Complete D f p) where
  no_more : (n : ℕ) (rest : List Lexeme) → Free g rest → (u : Unread) → Stands u rest → Run (at_most n (next_is g) (next g >>= λ _. p)) u [] rest
  no_more zero rest free u s = run_pure s
  no_more (suc n) rest free u s = no_next _ g free s (run_pure s)

  more_run : (n : ℕ) (l : Lexeme) {xs : List A} {ls : List Lexeme} → K l → Separated K D xs ls → (rest : List Lexeme) → Free f rest → Free g rest → (u : Unread) → Stands u (l ∷ (ls ++ rest)) → length (l ∷ (ls ++ rest)) ≤ n
      → Run (at_most n (next_is g) (next g >>= λ _. p)) u xs rest
  more_run zero l k d rest free away u s le = absurd (omega arith)
  more_run (suc n) l k (one d) rest free away u s le =
      yes_next _ g (is l k) s (run_then _ (run_then _ (run_next g (is l k) s) (λ v t. h.run d rest free v t)) (λ v t. run_then _ (no_more n rest away v t) (λ w r. run_pure r)))
  more_run (suc n) l k (more {l = m} {ls = ls} {ms = ms} d j r) rest free away u s le =
      let e : (ls ++ (m ∷ ms)) ++ rest ≡ ls ++ (m ∷ (ms ++ rest)) = append_assoc ls (m ∷ ms) rest in
      let s' : Stands u (l ∷ (ls ++ (m ∷ (ms ++ rest)))) = s ∙ ap (λ ks. l ∷ ks) e in
      let c : length ((ls ++ (m ∷ ms)) ++ rest) ≡ length ls + length (m ∷ (ms ++ rest)) = ap length e ∙ length-append ls (m ∷ (ms ++ rest)) in
      yes_next _ g (is l k) s (run_then _ (run_then _ (run_next g (is l k) s') (λ v t. h.run d (m ∷ (ms ++ rest)) (stops m j) v t))
      (λ v t. run_then _ (more_run n m j r rest free away v t (omega (arith, le, c))) (λ w q. run_pure q)))

  many_none : (rest : List Lexeme) → Free g rest → (u : Unread) → Stands u rest → Run (many (next_is g) (next g >>= λ _. p)) u [] rest
  many_none rest free u s = let r = no_more (length u.tokens) rest free u s in record { left = r.left; runs = r.runs; stands = r.stands; kept = r.kept }

  many_more : (l : Lexeme) {xs : List A} {ls : List Lexeme} → K l → Separated K D xs ls → (rest : List Lexeme) → Free f rest → Free g rest → (u : Unread) → Stands u (l ∷ (ls ++ rest)) → Run (many (next_is g) (next g >>= λ _. p)) u xs rest
  many_more l k d rest free away u s =
      let e = length-map u.tokens (λ t. t.what) in let c = ap length s in
      let r = more_run (length u.tokens) l k d rest free away u s (omega (arith, e, c)) in record { left = r.left; runs = r.runs; stands = r.stands; kept = r.kept }

  pub separated_runs : {xs : List A} {ls : List Lexeme} → Separated K D xs ls → (rest : List Lexeme) → Free f rest → Free g rest → (u : Unread) → Stands u (ls ++ rest) → Run (separated (next_is g) (next g) p) u xs rest
  separated_runs (one d) rest free away u s = run_then _ (h.run d rest free u s) (λ v t. run_then _ (many_none rest away v t) (λ w r. run_pure r))
  separated_runs (more {l = m} {ls = ls} {ms = ms} d j r) rest free away u s =
      let e : (ls ++ (m ∷ ms)) ++ rest ≡ ls ++ (m ∷ (ms ++ rest)) = append_assoc ls (m ∷ ms) rest in
      run_then _ (h.run d (m ∷ (ms ++ rest)) (stops m j) u (s ∙ e)) (λ v t. run_then _ (many_more m j r rest free away v t) (λ w q. run_pure q))

pub is_comma : (l : Lexeme) → Mark (codes ",") l → is_sign (codes ",") l ≡ true
is_comma l k = mark_as k (is_sign (codes ","))

-- whatever D spells begins with a token that g doesn't pass
pub record Unlike {A : Type 0} (g : Lexeme → Bool) (D : A → List Lexeme → Type 0) : Type 0 where
  pub away : {x : A} {ls : List Lexeme} → D x ls → (rest : List Lexeme) → Free g (ls ++ rest)

pub unlike_separated : {A : Type 0} {D : A → List Lexeme → Type 0} {K : Lexeme → Type 0} {g : Lexeme → Bool} → Unlike g D → Unlike g (Separated K D)
unlike_separated {A = A} {D = D} {K = K} {g = g} h = record { away = by }
  where
    by : {xs : List A} {ls : List Lexeme} → Separated K D xs ls → (rest : List Lexeme) → Free g (ls ++ rest)
    by (one d) rest = h.away d rest
    by (more {l = m} {ls = ls} {ms = ms} d j r) rest = subst (Free g) (sym (append_assoc ls (m ∷ ms) rest)) (h.away d (m ∷ (ms ++ rest)))

pub bracketed_runs : {A : Type 0} {x : A} {ls : List Lexeme} {D : A → List Lexeme → Type 0} {f : Lexeme → Bool} {p : Reader A} → Complete D f p → f (Sign (codes ")")) ≡ false
    → ((x : A) (ls : List Lexeme) → D x ls → (r : Lexeme) (rest : List Lexeme) → Mark (codes ")") r → Free (is_word (codes "SELECT")) (ls ++ (r ∷ rest)))
    → Bracketed D x ls → (rest : List Lexeme) (u : Unread) → Stands u (ls ++ rest) → Run (bracketed p) u x rest
unfolding opened
bracketed_runs {f = f} h close first (brackets {x = x} {l = l} {r = r} {ls = ls} m d k) rest u s =
    let s' : Stands u (l ∷ (ls ++ (r ∷ rest))) = s ∙ ap (λ ks. l ∷ ks) (append_assoc ls (r ∷ []) rest) in
    run_then _ (run_then _ (run_sign m s') (λ v t. no_next _ _ (first x ls d r rest k) t (run_pure t)))
    (λ v t. run_then _ (h.run d (r ∷ rest) (mark_as k f ∙ close) v t) (λ w q. run_then _ (run_sign k q) (λ z o. run_pure o)))

-- ---- calls

known_words : List Name
known_words = (codes "COUNT" ∷ codes "SUM" ∷ codes "MIN" ∷ codes "MAX" ∷ []) ++ ((codes "LENGTH" ∷ codes "CONCAT" ∷ codes "ENCRYPT" ∷ codes "UNIX_TIMESTAMP" ∷ []) ++ uncached_words)

-- what a test that doesn't look at the case says of each of some words
list_any_append : (w : Name) (xs ys : List Name) → (is_among xs w || is_among ys w) ≡ is_among (xs ++ ys) w
list_any_append w [] ys = refl
list_any_append w (x ∷ xs) ys = by (same_word w x) (list_any_append w xs ys)
  where
    by : (c : Bool) → (is_among xs w || is_among ys w) ≡ is_among (xs ++ ys) w → ((c || is_among xs w) || is_among ys w) ≡ (c || is_among (xs ++ ys) w)
    by true e = refl
    by false e = e

known_among : (w : Name) → is_known_call w ≡ true → is_among known_words w ≡ true
unfolding is_aggregate_word is_plain_call is_uncached_call known_words
known_among w e =
    sym (list_any_append w (codes "COUNT" ∷ codes "SUM" ∷ codes "MIN" ∷ codes "MAX" ∷ []) ((codes "LENGTH" ∷ codes "CONCAT" ∷ codes "ENCRYPT" ∷ codes "UNIX_TIMESTAMP" ∷ []) ++ uncached_words))
    ∙ ap (λ t. is_among (codes "COUNT" ∷ codes "SUM" ∷ codes "MIN" ∷ codes "MAX" ∷ []) w || t) (sym (list_any_append w (codes "LENGTH" ∷ codes "CONCAT" ∷ codes "ENCRYPT" ∷ codes "UNIX_TIMESTAMP" ∷ []) uncached_words)) ∙ e

all_of_words : (test : List ℕ → Bool) (ws : List Name) (w : Name) → list_all (λ k. test (in_capitals k)) ws ≡ true → is_among ws w ≡ true → test (in_capitals w) ≡ true
all_of_words test [] w h e = absurd cc
all_of_words test (k ∷ ks) w h e = by (same_word w k) refl (test (in_capitals k)) refl (λ x y. all_of_words test ks w x y)
  where
    by : (c : Bool) → same_word w k ≡ c → (d : Bool) → test (in_capitals k) ≡ d → (list_all (λ k. test (in_capitals k)) ks ≡ true → is_among ks w ≡ true → test (in_capitals w) ≡ true) → test (in_capitals w) ≡ true
    by true f true g again = ap test ((bytes_eq-Decides (in_capitals w) (in_capitals k)).0 f) ∙ g
    by c f false g again = absurd (let x : (test (in_capitals k) && list_all (λ k. test (in_capitals k)) ks) ≡ true = h in let y : (false && list_all (λ k. test (in_capitals k)) ks) ≡ true = subst (λ t. (t && list_all (λ k. test (in_capitals k)) ks) ≡ true) g x in cc)
    by false f true g again =
        let x : list_all (λ k. test (in_capitals k)) ks ≡ true = subst (λ t. (t && list_all (λ k. test (in_capitals k)) ks) ≡ true) g h in
        let y : is_among ks w ≡ true = subst (λ t. (t || is_among ks w) ≡ true) f e in
        again x y

-- a word of a call can be a name, but for DATABASE
call_name : List ℕ → Bool
call_name c = bytes_eq (codes "DATABASE") c || not (list_any (λ k. bytes_eq c (in_capitals k)) reserved)

known_name : (w : Name) → is_known_call w ≡ true → (same_word (codes "DATABASE") w || not (is_reserved w)) ≡ true
unfolding is_reserved call_name known_words
known_name w e = all_of_words call_name known_words w refl (known_among w e)

-- what no value begins with
pub record NoStart (g : Lexeme → Bool) : Type 0 where
  pub digits : (n : ℕ) → g (Digits n) ≡ false
  pub texts : (t : List ℕ) → g (Words t) ≡ false
  pub minus : g (Sign (codes "-")) ≡ false
  pub quoted : (n : Name) → g (Quoted n) ≡ false
  pub word : (w : Name) → (same_word (codes "NULL") w || (same_word (codes "DATABASE") w || not (is_reserved w))) ≡ true → g (Word w) ≡ false

pub sign_no_start : (c : List ℕ) → bytes_eq c (codes "-") ≡ false → NoStart (is_sign c)
sign_no_start c e = record { digits = λ n. refl; texts = λ t. refl; minus = e; quoted = λ n. refl; word = λ w h. refl }

-- a reserved word but NULL and DATABASE
pub word_no_start : (k : Name) → is_reserved k ≡ true → same_word (codes "NULL") k ≡ false → same_word (codes "DATABASE") k ≡ false → NoStart (is_word k)
unfolding is_reserved
word_no_start k r n d = record { digits = λ n. refl; texts = λ t. refl; minus = refl; quoted = λ n. refl; word = λ w h. by w (same_word k w) refl h }
  where
    by : (w : Name) (c : Bool) → same_word k w ≡ c → (same_word (codes "NULL") w || (same_word (codes "DATABASE") w || not (is_among reserved w))) ≡ true → same_word k w ≡ false
    by w false e h = e
    by w true e h = absurd (let x = same_as k w (codes "NULL") e ∙ n in let y = same_as k w (codes "DATABASE") e ∙ d in let z = among_as reserved k w e ∙ r in
        let f : (false || (false || not true)) ≡ true = rw (x, y, z) at h in cc)

pub or_right : (a b : Bool) → b ≡ true → (a || b) ≡ true
or_right true b e = refl
or_right false b e = e

pub named_away : {n : Name} {l : Lexeme} (g : Lexeme → Bool) → NoStart g → Named n l → g l ≡ false
named_away {n = n} g h (Named.word e) = h.word n (or_right _ _ (or_right _ _ (ap not e)))
named_away {n = n} g h Named.quoted = h.quoted n

pub keyword_away : {k : Name} {l : Lexeme} (g : Lexeme → Bool) → NoStart g → (same_word (codes "NULL") k || (same_word (codes "DATABASE") k || not (is_reserved k))) ≡ true → Keyword k l → g l ≡ false
unfolding is_reserved
keyword_away {k = k} g h e (keyword {bytes = b} d) = h.word b (rw (same_as k b (codes "NULL") d, same_as k b (codes "DATABASE") d, among_as reserved k b d) e)

pub dotted_unlike : (g : Lexeme → Bool) → NoStart g → {d : Option Name × Name} {ls : List Lexeme} → Dotted d ls → (rest : List Lexeme) → Free g (ls ++ rest)
dotted_unlike g h (bare n) rest = named_away g h n
dotted_unlike g h (Dotted.dotted n m o) rest = named_away g h n

pub unlike_literal : (g : Lexeme → Bool) → NoStart g → Unlike g IsLiteral
unlike_literal g h = record { away = by }
  where
    by : {v : Value} {ls : List Lexeme} → IsLiteral v ls → (rest : List Lexeme) → Free g (ls ++ rest)
    by (IsLiteral.number {n = n} lt) rest = h.digits n
    by (negative le k) rest = mark_as k g ∙ h.minus
    by (text {t = t}) rest = h.texts t
    by (null k) rest = keyword_away g h refl k

known_as : {k : Name} {l : Lexeme} → Keyword k l → is_known_call k ≡ true → (b : Name) × (l ≡ Word b) × (is_known_call b ≡ true)
unfolding is_aggregate_word is_plain_call is_uncached_call
known_as {k = k} (keyword {bytes = b} e) h = (
  b,
  refl,
  (let x = among_as (codes "COUNT" ∷ codes "SUM" ∷ codes "MIN" ∷ codes "MAX" ∷ []) k b e in let y = among_as (codes "LENGTH" ∷ codes "CONCAT" ∷ codes "ENCRYPT" ∷ codes "UNIX_TIMESTAMP" ∷ []) k b e in
      let z = among_as uncached_words k b e in rw (x, y, z) h),
)

known_word : (k b : Name) → same_word k b ≡ true → is_known_call k ≡ true → is_known_call b ≡ true
unfolding is_aggregate_word is_plain_call is_uncached_call
known_word k b e h =
    let x = among_as (codes "COUNT" ∷ codes "SUM" ∷ codes "MIN" ∷ codes "MAX" ∷ []) k b e in let y = among_as (codes "LENGTH" ∷ codes "CONCAT" ∷ codes "ENCRYPT" ∷ codes "UNIX_TIMESTAMP" ∷ []) k b e in
    let z = among_as uncached_words k b e in rw (x, y, z) h

not_true : (a : Bool) → not a ≡ true → a ≡ false
not_true true e = absurd cc
not_true false e = refl

bracket_first : {A : Type 0} {D : A → List Lexeme → Type 0} {x : A} {ls : List Lexeme} → Bracketed D x ls → (m : Lexeme) × (ks : List Lexeme) × (ls ≡ m ∷ ks) × Mark (codes "(") m
bracket_first (brackets {l = l} {r = r} {ls = ls} m d k) = (l, ls ++ (r ∷ []), refl, m)

-- a call begins with a word of the calls and a bracket
abbrev CallFirst : List Lexeme → Type 0
CallFirst ls = (w : Name) × (m : Lexeme) × (ks : List Lexeme) × (ls ≡ Word w ∷ m ∷ ks) × (is_known_call w ≡ true) × Mark (codes "(") m

first_known : {k : Name} {l : Lexeme} {ls : List Lexeme} → Keyword k l → is_known_call k ≡ true → (m : Lexeme) (ks : List Lexeme) → ls ≡ m ∷ ks → Mark (codes "(") m → CallFirst (l ∷ ls)
first_known k h m ks e j = let d = known_as k h in (d.0, m, ks, (λ i. d.1 i ∷ e i), d.2, j)

call_first : {A C : Expr → List Lexeme → Type 0} {a : Bool} {e : Expr} {ls : List Lexeme} → IsCall A C a e ls → CallFirst ls
unfolding is_aggregate_word is_plain_call is_uncached_call
call_first (IsCall.length_of k d) = let b = bracket_first d in first_known k refl b.0 b.1 b.2 b.3
call_first (IsCall.concat k d) = let b = bracket_first d in first_known k refl b.0 b.1 b.2 b.3
call_first (IsCall.count_all {m = m} {s = s} {r = r} k j t u) = first_known k refl m (s ∷ r ∷ []) refl j
call_first (IsCall.count k d) = let b = bracket_first d in first_known k refl b.0 b.1 b.2 b.3
call_first (IsCall.sum k d) = let b = bracket_first d in first_known k refl b.0 b.1 b.2 b.3
call_first (IsCall.min k d) = let b = bracket_first d in first_known k refl b.0 b.1 b.2 b.3
call_first (IsCall.max k d) = let b = bracket_first d in first_known k refl b.0 b.1 b.2 b.3
call_first (IsCall.other {w = w} h d) = let b = bracket_first d in (w, b.0, b.1, ap (λ ks. Word w ∷ ks) b.2, and_left _ _ h, b.3)

unlike_call : (g : Lexeme → Bool) → NoStart g → (n : ℕ) (a : Bool) (e : Expr) (ls : List Lexeme) → CallAt n a e ls → (rest : List Lexeme) → Free g (ls ++ rest)
unlike_call g h zero a e ls d rest = absurd d
unlike_call g h (suc n) a e ls d rest = let c = call_first d in subst (λ ks. Free g (ks ++ rest)) (sym c.3) (h.word c.0 (or_right _ _ (known_name c.0 c.4)))

pub unlike_value : (g : Lexeme → Bool) → NoStart g → (n : ℕ) (a : Bool) → Unlike g (ValueAt n a)
unlike_value g h n a = record { away = by }
  where
    by : {e : Expr} {ls : List Lexeme} → ValueAt n a e ls → (rest : List Lexeme) → Free g (ls ++ rest)
    by (ValueOf.literal d) rest = (unlike_literal g h).away d rest
    by (ValueOf.call d) rest = unlike_call g h n a _ _ d rest
    by (ValueOf.column (IsColumn.column d)) rest = dotted_unlike g h d rest

select_no_start : NoStart (is_word (codes "SELECT"))
unfolding is_reserved
select_no_start = word_no_start (codes "SELECT") refl refl refl

comma_stops : (l : Lexeme) → Mark (codes ",") l → after_value l ≡ false
comma_stops l k = mark_as k after_value

-- more than one value, up to a closing bracket
abbrev after_values : Lexeme → Bool
after_values l = after_value l || is_sign (codes ",") l

free_values : (ls : List Lexeme) → Free after_values ls → Free after_value ls × Free (is_sign (codes ",")) ls
free_values [] e = (refl, refl)
free_values (l ∷ ls) e = (first_false (after_value l) _ e, second_false (after_value l) _ e)

pub complete_listed : {A : Type 0} {D : A → List Lexeme → Type 0} {p : Reader A} → Complete D after_value p → Complete (Listed D) after_values (listed p)
complete_listed h = record { run = λ d rest free u s. let f = free_values rest free in separated_runs (is_sign (codes ",")) is_comma comma_stops h d rest f.0 f.1 u s }

pub tuple_runs : {vs : List Value} {ls : List Lexeme} → IsTuple vs ls → (rest : List Lexeme) (u : Unread) → Stands u (ls ++ rest) → Run tuple u vs rest
unfolding tuple
tuple_runs d rest u s = bracketed_runs (complete_listed complete_literal) refl (λ x ls e r more k. (unlike_separated (unlike_literal _ select_no_start)).away e (r ∷ more)) d rest u s

column_argument_runs : {c : ColumnName} {ls : List Lexeme} → Bracketed IsColumn c ls → (rest : List Lexeme) (u : Unread) → Stands u (ls ++ rest) → Run column_argument u c rest
unfolding column_argument
column_argument_runs d rest u s = bracketed_runs complete_column refl by d rest u s
  where
    by : (c : ColumnName) (ls : List Lexeme) → IsColumn c ls → (r : Lexeme) (more : List Lexeme) → Mark (codes ")") r → Free (is_word (codes "SELECT")) (ls ++ (r ∷ more))
    by c ls (IsColumn.column e) r ms k = dotted_unlike _ select_no_start e (r ∷ ms)

call_word_runs : (a : Bool) (w : Name) (rest : List Lexeme) (u : Unread) → Stands u (Word w ∷ rest) → is_known_call w ≡ true → (a ≡ false → is_aggregate_word w ≡ false) → Run (call_word a) u w rest
unfolding call_word
call_word_runs a w rest u s known aggregate =
    chosen_no _ (λ v. not a && at_aggregate v) (ap (λ c. not a && c) (sees is_aggregate u.tokens ∙ ap (head_is is_aggregate) s) ∙ by a aggregate)
    (run_then _ (run_reads _ refl s) (λ v t. run_if_yes _ (is_known_call w) known (run_pure t)))
  where
    by : (a : Bool) → (a ≡ false → is_aggregate_word w ≡ false) → (not a && is_aggregate_word w) ≡ false
    by true h = refl
    by false h = h refl

-- ---- what follows a call's word

of_values : {C : Expr → List Lexeme → Type 0} {e : Expr} {ls : List Lexeme} → Bracketed C e ls → Bracketed (Counting C) (expr.Count e) ls
of_values (brackets m d k) = brackets m (of_value d) k

pub word_both : (k b c : Name) → same_word k b ≡ true → same_word b c ≡ same_word k c
word_both k b c e = ap (λ x. bytes_eq x (in_capitals c)) (sym ((bytes_eq-Decides (in_capitals k) (in_capitals b)).0 e))

module _ {A C : Expr → List Lexeme → Type 0} {p q : Reader Expr} (h : Complete A after_value p) (g : Complete C after_value q) (away : Unlike (is_word (codes "SELECT")) A) (close : Unlike (is_sign (codes ")")) A)
    (here : Unlike (is_word (codes "SELECT")) C) (star : Unlike (is_sign (codes "*")) C) where
  counted_runs : {e : Expr} {ls : List Lexeme} → Counting C e ls → (rest : List Lexeme) → Free after_value rest → (u : Unread) → Stands u (ls ++ rest) → Run (counted q) u e rest
  counted_runs (all_rows k) rest free u s = yes_next _ _ (mark_as k (is_sign (codes "*"))) s (run_then _ (run_sign k s) (λ v t. run_pure t))
  counted_runs (of_value d) rest free u s = no_next _ _ (star.away d rest) s (run_then _ (g.run d rest free u s) (λ v t. run_pure t))

  counting_away : (e : Expr) (ls : List Lexeme) → Counting C e ls → (r : Lexeme) (ms : List Lexeme) → Mark (codes ")") r → Free (is_word (codes "SELECT")) (ls ++ (r ∷ ms))
  counting_away e ls (all_rows k) r ms j = mark_as k (is_word (codes "SELECT"))
  counting_away e ls (of_value d) r ms j = here.away d (r ∷ ms)

  arguments_run : {es : List Expr} {ls : List Lexeme} → Arguments A es ls → (rest : List Lexeme) → Free after_values rest → (u : Unread) → Stands u (ls ++ rest) → (r : Lexeme) (ms : List Lexeme) → rest ≡ r ∷ ms → Mark (codes ")") r
      → Run (arguments p) u es rest
  arguments_run Arguments.none rest free u s r ms e k = yes_next _ _ (ap (head_is (is_sign (codes ")"))) e ∙ mark_as k (is_sign (codes ")"))) s (run_pure s)
  arguments_run (Arguments.some d) rest free u s r ms e k = no_next _ _ ((unlike_separated close).away d rest) s ((complete_listed h).run d rest free u s)

  arguments_away : (es : List Expr) (ls : List Lexeme) → Arguments A es ls → (r : Lexeme) (ms : List Lexeme) → Mark (codes ")") r → Free (is_word (codes "SELECT")) (ls ++ (r ∷ ms))
  arguments_away es ls Arguments.none r ms k = mark_as k (is_word (codes "SELECT"))
  arguments_away es ls (Arguments.some d) r ms k = (unlike_separated away).away d (r ∷ ms)

  bracketed_arguments : {es : List Expr} {ls : List Lexeme} → Bracketed (Arguments A) es ls → (rest : List Lexeme) (u : Unread) → Stands u (ls ++ rest) → Run (bracketed (arguments p)) u es rest
  unfolding opened
  bracketed_arguments (brackets {x = es} {l = l} {r = r} {ls = ls} m d k) rest u s =
      let s' : Stands u (l ∷ (ls ++ (r ∷ rest))) = s ∙ ap (λ ks. l ∷ ks) (append_assoc ls (r ∷ []) rest) in
      run_then _ (run_then _ (run_sign m s') (λ v t. no_next _ _ (arguments_away es ls d r rest k) t (run_pure t)))
      (λ v t. run_then _ (arguments_run d (r ∷ rest) (mark_as k after_values) v t r rest refl k) (λ w q. run_then _ (run_sign k q) (λ z o. run_pure o)))

  bracketed_value : {e : Expr} {ls : List Lexeme} → Bracketed A e ls → (rest : List Lexeme) (u : Unread) → Stands u (ls ++ rest) → Run (bracketed p) u e rest
  bracketed_value d rest u s = bracketed_runs h refl (λ x ls e r ms k. away.away e (r ∷ ms)) d rest u s

  bracketed_count : {e : Expr} {ls : List Lexeme} → Bracketed (Counting C) e ls → (rest : List Lexeme) (u : Unread) → Stands u (ls ++ rest) → Run (bracketed (counted q)) u e rest
  bracketed_count d rest u s = bracketed_runs (record { run = counted_runs }) refl counting_away d rest u s

  bracketed_values : {es : List Expr} {ls : List Lexeme} → Bracketed (Listed A) es ls → (rest : List Lexeme) (u : Unread) → Stands u (ls ++ rest) → Run (bracketed (listed p)) u es rest
  bracketed_values d rest u s = bracketed_runs (complete_listed h) refl (λ x ls e r ms k. (unlike_separated away).away e (r ∷ ms)) d rest u s

  tail_runs : {a : Bool} {e : Expr} {ls : List Lexeme} → IsCall A C a e ls → (rest : List Lexeme) (u : Unread) → Stands u (ls ++ rest) → Run (call_word a >>= call_of p q) u e rest
  unfolding is_aggregate_word is_plain_call is_uncached_call
  tail_runs (IsCall.length_of (keyword {bytes = b} k) d) rest u s =
      run_then _ (call_word_runs _ b _ u s (known_word (codes "LENGTH") b k refl) (λ e. among_as (codes "COUNT" ∷ codes "SUM" ∷ codes "MIN" ∷ codes "MAX" ∷ []) (codes "LENGTH") b k))
      (λ v t. run_if_yes _ _ (word_both (codes "LENGTH") b (codes "LENGTH") k) (run_then _ (bracketed_value d rest v t) (λ w r. run_pure r)))
  tail_runs (IsCall.concat (keyword {bytes = b} k) d) rest u s =
      run_then _ (call_word_runs _ b _ u s (known_word (codes "CONCAT") b k refl) (λ e. among_as (codes "COUNT" ∷ codes "SUM" ∷ codes "MIN" ∷ codes "MAX" ∷ []) (codes "CONCAT") b k))
      (λ v t. run_if_no _ _ (word_both (codes "CONCAT") b (codes "LENGTH") k) (run_if_yes _ _ (word_both (codes "CONCAT") b (codes "CONCAT") k) (run_then _ (bracketed_values d rest v t) (λ w r. run_pure r))))
  tail_runs (IsCall.count_all (keyword {bytes = b} k) m n o) rest u s =
      run_then _ (call_word_runs _ b _ u s (known_word (codes "COUNT") b k refl) (λ e. absurd cc))
      (λ v t. run_if_no _ _ (word_both (codes "COUNT") b (codes "LENGTH") k) (run_if_no _ _ (word_both (codes "COUNT") b (codes "CONCAT") k) (run_if_yes _ _ (word_both (codes "COUNT") b (codes "COUNT") k) (bracketed_count (brackets m (all_rows n) o) rest v t))))
  tail_runs (IsCall.count (keyword {bytes = b} k) d) rest u s =
      run_then _ (call_word_runs _ b _ u s (known_word (codes "COUNT") b k refl) (λ e. absurd cc))
      (λ v t. run_if_no _ _ (word_both (codes "COUNT") b (codes "LENGTH") k) (run_if_no _ _ (word_both (codes "COUNT") b (codes "CONCAT") k) (run_if_yes _ _ (word_both (codes "COUNT") b (codes "COUNT") k) (bracketed_count (of_values d) rest v t))))
  tail_runs (IsCall.sum (keyword {bytes = b} k) d) rest u s =
      run_then _ (call_word_runs _ b _ u s (known_word (codes "SUM") b k refl) (λ e. absurd cc))
      (λ v t. run_if_no _ _ (word_both (codes "SUM") b (codes "LENGTH") k) (run_if_no _ _ (word_both (codes "SUM") b (codes "CONCAT") k) (run_if_no _ _ (word_both (codes "SUM") b (codes "COUNT") k) (run_if_yes _ _ (word_both (codes "SUM") b (codes "SUM") k) (run_then _ (column_argument_runs d rest v t) (λ w r. run_pure r))))))
  tail_runs (IsCall.min (keyword {bytes = b} k) d) rest u s =
      run_then _ (call_word_runs _ b _ u s (known_word (codes "MIN") b k refl) (λ e. absurd cc))
      (λ v t. run_if_no _ _ (word_both (codes "MIN") b (codes "LENGTH") k) (run_if_no _ _ (word_both (codes "MIN") b (codes "CONCAT") k) (run_if_no _ _ (word_both (codes "MIN") b (codes "COUNT") k) (run_if_no _ _ (word_both (codes "MIN") b (codes "SUM") k) (run_if_yes _ _ (word_both (codes "MIN") b (codes "MIN") k) (run_then _ (column_argument_runs d rest v t) (λ w r. run_pure r)))))))
  tail_runs (IsCall.max (keyword {bytes = b} k) d) rest u s =
      run_then _ (call_word_runs _ b _ u s (known_word (codes "MAX") b k refl) (λ e. absurd cc))
      (λ v t. run_if_no _ _ (word_both (codes "MAX") b (codes "LENGTH") k) (run_if_no _ _ (word_both (codes "MAX") b (codes "CONCAT") k) (run_if_no _ _ (word_both (codes "MAX") b (codes "COUNT") k) (run_if_no _ _ (word_both (codes "MAX") b (codes "SUM") k) (run_if_no _ _ (word_both (codes "MAX") b (codes "MIN") k) (run_if_yes _ _ (word_both (codes "MAX") b (codes "MAX") k) (run_then _ (column_argument_runs d rest v t) (λ w r. run_pure r))))))))
  tail_runs (IsCall.other {w = w} k d) rest u s =
      let known = and_left (is_known_call w) _ k in
      let r1 = not_true _ (and_right (is_known_call w) _ k) in
      let n1 = first_false (same_word w (codes "LENGTH")) _ r1 in let r2 = second_false (same_word w (codes "LENGTH")) _ r1 in
      let n2 = first_false (same_word w (codes "CONCAT")) _ r2 in let r3 = second_false (same_word w (codes "CONCAT")) _ r2 in
      let n3 = first_false (same_word w (codes "COUNT")) _ r3 in let r4 = second_false (same_word w (codes "COUNT")) _ r3 in
      let n4 = first_false (same_word w (codes "SUM")) _ r4 in let r5 = second_false (same_word w (codes "SUM")) _ r4 in
      let n5 = first_false (same_word w (codes "MIN")) _ r5 in let r6 = second_false (same_word w (codes "MIN")) _ r5 in
      let n6 = first_false (same_word w (codes "MAX")) _ r6 in
      run_then _ (call_word_runs _ w _ u s known (λ e. r3))
      (λ v t. run_if_no _ _ n1 (run_if_no _ _ n2 (run_if_no _ _ n3 (run_if_no _ _ n4 (run_if_no _ _ n5 (run_if_no _ _ n6 (run_then _ (bracketed_arguments d rest v t) (λ z r. run_pure r))))))))

-- ---- values

abbrev literal_first : Lexeme → Bool
literal_first l = is_some (digits_in l) || is_sign (codes "-") l || is_some (words_in l) || is_word (codes "NULL") l

literal_seen : (ts : List Token) → (token_is (λ l. is_some (digits_in l)) ts || token_is (is_sign (codes "-")) ts || token_is (λ l. is_some (words_in l)) ts || token_is (is_word (codes "NULL")) ts) ≡ head_is literal_first (lexemes ts)
literal_seen [] = refl
literal_seen (t ∷ ts) = refl

abbrev call_seen : List Lexeme → Bool
call_seen [] = false
call_seen (l ∷ []) = is_word (codes "DATABASE") l
call_seen (l ∷ m ∷ ls) = is_word (codes "DATABASE") l || (is_some (word_in l) && is_some (name_in l) && is_sign (codes "(") m)

call_sees : (ts : List Token) → begins_call ts ≡ call_seen (lexemes ts)
call_sees [] = refl
call_sees (t ∷ []) = refl
call_sees (t ∷ s ∷ ts) = refl

-- a literal is seen as one
literal_there : {v : Value} {ls : List Lexeme} → IsLiteral v ls → (rest : List Lexeme) → head_is literal_first (ls ++ rest) ≡ true
literal_there (IsLiteral.number lt) rest = refl
literal_there (negative le k) rest = mark_as k literal_first
literal_there text rest = refl
literal_there (null (keyword e)) rest = e

pub reserved_null : is_reserved (codes "NULL") ≡ true
unfolding is_reserved
reserved_null = refl

pub reserved_database : is_reserved (codes "DATABASE") ≡ true
unfolding is_reserved
reserved_database = refl

named_no_literal : {n : Name} {l : Lexeme} → Named n l → literal_first l ≡ false
named_no_literal {n = n} (Named.word e) = no_reserved {n = n} (Named.word e) (codes "NULL") reserved_null
named_no_literal Named.quoted = refl

dotted_no_literal : {d : Option Name × Name} {ls : List Lexeme} → Dotted d ls → (rest : List Lexeme) → Free literal_first (ls ++ rest)
dotted_no_literal (bare h) rest = named_no_literal h
dotted_no_literal (Dotted.dotted h k g) rest = named_no_literal h

both_false : (a b c : Bool) → a ≡ false → c ≡ false → (a || (b && c)) ≡ false
both_false true b c e d = absurd cc
both_false false true c e d = d
both_false false false c e d = refl

named_no_call : {n : Name} {l : Lexeme} → Named n l → (ls : List Lexeme) → Free (is_sign (codes "(")) ls → call_seen (l ∷ ls) ≡ false
named_no_call (Named.word {n = n} e) [] free = no_reserved {n = n} (Named.word e) (codes "DATABASE") reserved_database
named_no_call (Named.word {n = n} e) (m ∷ ls) free = both_false _ _ _ (no_reserved {n = n} (Named.word e) (codes "DATABASE") reserved_database) free
named_no_call Named.quoted [] free = refl
named_no_call Named.quoted (m ∷ ls) free = refl

dotted_no_call : {d : Option Name × Name} {ls : List Lexeme} → Dotted d ls → (rest : List Lexeme) → Free (is_sign (codes "(")) rest → call_seen (ls ++ rest) ≡ false
dotted_no_call (bare h) rest free = named_no_call h rest free
dotted_no_call (Dotted.dotted {m = m} {r = r} h k g) rest free = named_no_call h (m ∷ r ∷ rest) (mark_as k (is_sign (codes "(")))

no_null : (w : Name) → (same_word (codes "DATABASE") w || not (is_reserved w)) ≡ true → same_word (codes "NULL") w ≡ false
unfolding is_reserved
no_null w h = by (same_word (codes "NULL") w) refl
  where
    by : (c : Bool) → same_word (codes "NULL") w ≡ c → same_word (codes "NULL") w ≡ false
    by false e = e
    by true e = absurd (let y = same_as (codes "NULL") w (codes "DATABASE") e in let z = among_as reserved (codes "NULL") w e in let f : (false || not true) ≡ true = rw (y, z) at h in cc)

call_no_literal : {ls : List Lexeme} → CallFirst ls → (rest : List Lexeme) → Free literal_first (ls ++ rest)
call_no_literal c rest = subst (λ ks. Free literal_first (ks ++ rest)) (sym c.3) (no_null c.0 (known_name c.0 c.4))

named_or_database : (a r : Bool) (w : Name) → (a || not r) ≡ true → (a || (is_some (cond r None (Some w)) && true)) ≡ true
named_or_database true r w e = refl
named_or_database false true w e = absurd cc
named_or_database false false w e = refl

call_there : {ls : List Lexeme} → CallFirst ls → (rest : List Lexeme) → call_seen (ls ++ rest) ≡ true
call_there c rest =
    subst (λ ks. call_seen (ks ++ rest) ≡ true) (sym c.3)
    (ap (λ t. same_word (codes "DATABASE") c.0 || (is_some (name_in (Word c.0)) && t)) (mark_as c.5 (is_sign (codes "("))) ∙ named_or_database (same_word (codes "DATABASE") c.0) (is_reserved c.0) c.0 (known_name c.0 c.4))

-- a call in which at most n are open is read, and so is a value
abbrev CallRuns : ℕ → Bool → Type 0
CallRuns n a = (e : Expr) (ls : List Lexeme) → CallAt n a e ls → (rest : List Lexeme) (u : Unread) → Stands u (ls ++ rest) → Run (call_at n a) u e rest

call_starts : (n : ℕ) (a : Bool) (e : Expr) (ls : List Lexeme) → CallAt n a e ls → CallFirst ls
call_starts zero a e ls d = absurd d
call_starts (suc n) a e ls d = call_first d

value_from : (n : ℕ) (a : Bool) → CallRuns n a → Complete (ValueAt n a) after_value (value_at n a)
value_from n a h = record { run = by }
  where
    by : {e : Expr} {ls : List Lexeme} → ValueAt n a e ls → (rest : List Lexeme) → Free after_value rest → (u : Unread) → Stands u (ls ++ rest) → Run (value_at n a) u e rest
    by (ValueOf.literal d) rest free u s =
        chosen_yes _ at_literal (literal_seen u.tokens ∙ ap (head_is literal_first) s ∙ literal_there d rest) (run_then _ (literal_runs d rest free u s) (λ v t. run_pure t))
    by (ValueOf.call {e = e} {ls = ls} d) rest free u s =
        let c = call_starts n a e ls d in
        chosen_no _ at_literal (literal_seen u.tokens ∙ ap (head_is literal_first) s ∙ call_no_literal c rest)
        (chosen_yes _ at_call (call_sees u.tokens ∙ ap call_seen s ∙ call_there c rest) (run_then _ (h e ls d rest u s) (λ v t. run_then _ (ends_runs rest free v t) (λ w r. run_pure r))))
    by (ValueOf.column (IsColumn.column d)) rest free u s =
        chosen_no _ at_literal (literal_seen u.tokens ∙ ap (head_is literal_first) s ∙ dotted_no_literal d rest)
        (chosen_no _ at_call (call_sees u.tokens ∙ ap call_seen s ∙ dotted_no_call d rest (free_bracket rest free)) (run_then _ (column_runs (IsColumn.column d) rest free u s) (λ v t. run_pure t)))

call_runs : (n : ℕ) (a : Bool) → CallRuns n a
unfolding call_at
call_runs zero a e ls d rest u s = absurd d
call_runs (suc n) a e ls d rest u s =
    tail_runs (value_from n a (call_runs n a)) (value_from n false (call_runs n false)) (unlike_value _ select_no_start n a) (unlike_value _ (sign_no_start (codes ")") refl) n a)
    (unlike_value _ select_no_start n false) (unlike_value _ (sign_no_start (codes "*") refl) n false) d rest u s

pub complete_value : (n : ℕ) (a : Bool) → Complete (ValueAt n a) after_value (value_at n a)
complete_value n a = value_from n a (call_runs n a)

-- ---- conditions

op_of : {o : Op} {l : Lexeme} → Compares o l → op_in l ≡ Some o
op_of equal = refl
op_of unequal = refl
op_of not_equal = refl
op_of less = refl
op_of or_less = refl
op_of greater = refl
op_of at_least = refl

op_stops : {o : Op} {l : Lexeme} → Compares o l → after_value l ≡ false
op_stops equal = refl
op_stops unequal = refl
op_stops not_equal = refl
op_stops less = refl
op_stops or_less = refl
op_stops greater = refl
op_stops at_least = refl

op_sees : (ts : List Token) → is_some (op_first ts) ≡ head_is (λ l. is_some (op_in l)) (lexemes ts)
op_sees [] = refl
op_sees (t ∷ ts) = refl

pub passed_runs : {w : Name} {b : Bool} {ms : List Lexeme} → Passed w b ms → (rest : List Lexeme) → Free (is_word w) rest → (u : Unread) → Stands u (ms ++ rest) → Run (passed w) u b rest
passed_runs (there (keyword e)) rest free u s = yes_next _ _ e s (run_then _ (run_word (keyword e) s) (λ v t. run_pure t))
passed_runs absent rest free u s = no_next _ _ free s (run_pure s)

-- a word that may be there, and a word
pub passed_free : {w : Name} {b : Bool} {l : Lexeme} {ms : List Lexeme} (g : Lexeme → Bool) → ((l : Lexeme) → Keyword w l → g l ≡ false) → Passed w b ms → g l ≡ false → (rest : List Lexeme) → Free g (ms ++ (l ∷ rest))
passed_free g h (there k) e rest = h _ k
passed_free g h absent e rest = e

pub keyword_stops : {k : Name} (l : Lexeme) → Keyword k l → after_value l ≡ false
keyword_stops l k = no_word k after_value (λ b. refl)

keyword_no_op : {k : Name} (l : Lexeme) → Keyword k l → is_some (op_in l) ≡ false
keyword_no_op l k = no_word k (λ l. is_some (op_in l)) (λ b. refl)

as_denied : (d : Bool) (c : Cond) → negated d c ≡ denied d c
as_denied true c = refl
as_denied false c = refl

module _ {V : Expr → List Lexeme → Type 0} {p : Reader Expr} (h : Complete V after_value p) where
  behind_runs : (a : Expr) (d : Bool) (ms : List Lexeme) → Passed (codes "NOT") d ms → (l : Lexeme) (ks : List Lexeme) (k : Name) → Keyword k l → same_word (codes "NOT") k ≡ false → same_word (codes "IS") k ≡ false
      → (c : Cond) (rest : List Lexeme) → ((v : Unread) → Stands v (l ∷ ks) → Run (list_or_range p a) v c rest) → (u : Unread) → Stands u (ms ++ (l ∷ ks)) → Run (test_behind p a) u (denied d c) rest
  behind_runs a d ms q l ks k j n i c rest again u s =
      chosen_no _ (λ v. is_some (op_ahead v)) (op_sees u.tokens ∙ ap (head_is (λ l. is_some (op_in l))) s ∙ passed_free (λ l. is_some (op_in l)) keyword_no_op q (keyword_no_op l j) ks)
      (no_next _ _ (passed_free (is_word (codes "IS")) (λ m g. word_as g (codes "IS")) q (word_as j (codes "IS") ∙ i) ks) s
      (run_then _ (passed_runs q (l ∷ ks) (word_as j (codes "NOT") ∙ n) u s)
      (λ v t. run_then _ (again v t) (λ w r. subst (λ x. Run (pure (negated d c)) w x rest) (as_denied d c) (run_pure r)))))

  test_runs : {c : Cond} {ls : List Lexeme} → IsTest V c ls → (rest : List Lexeme) → Free after_value rest → (u : Unread) → Stands u (ls ++ rest) → Run (test_of p) u c rest
  unfolding null_test in_test
  test_runs (IsTest.compares {a = a} {l = l} {ls = ls} {ms = ms} x o y) rest free u s =
      run_then _ (h.run x (l ∷ (ms ++ rest)) (op_stops o) u (s ∙ append_assoc ls (l ∷ ms) rest))
      (λ v t. chosen_yes _ (λ w. is_some (op_ahead w)) (op_sees v.tokens ∙ ap (head_is (λ l. is_some (op_in l))) t ∙ ap is_some (op_of o))
      (run_then _ (run_reads _ (op_of o) t) (λ w r. run_then _ (h.run y rest free w r) (λ z q. run_pure q))))
  test_runs (IsTest.is_null {a = a} {d = d} {l = l} {r = r} {ls = ls} {ms = ms} x k q j) rest free u s =
      let e : (ls ++ (l ∷ ms ++ r ∷ [])) ++ rest ≡ ls ++ (l ∷ (ms ++ (r ∷ rest))) = append_assoc ls (l ∷ ms ++ r ∷ []) rest ∙ ap (λ ks. ls ++ (l ∷ ks)) (append_assoc ms (r ∷ []) rest) in
      run_then _ (h.run x (l ∷ (ms ++ (r ∷ rest))) (keyword_stops l k) u (s ∙ e))
      (λ v t. chosen_no _ (λ w. is_some (op_ahead w)) (op_sees v.tokens ∙ ap (head_is (λ l. is_some (op_in l))) t ∙ keyword_no_op l k)
      (yes_next _ _ (word_as k (codes "IS")) t (run_then _ (run_word k t) (λ w o. run_then _ (passed_runs q (r ∷ rest) (word_as j (codes "NOT")) w o)
      (λ y g. run_then _ (run_word j g) (λ z i. subst (λ c. Run (pure (negated d (test.IsNull a))) z c rest) (as_denied d (test.IsNull a)) (run_pure i)))))))
  test_runs (IsTest.is_in {a = a} {d = d} {vs = vs} {l = l} {ls = ls} {ms = ms} {ns = ns} x q k y) rest free u s =
      let e : (ls ++ (ms ++ l ∷ ns)) ++ rest ≡ ls ++ (ms ++ (l ∷ (ns ++ rest))) = append_assoc ls (ms ++ l ∷ ns) rest ∙ ap (λ ks. ls ++ ks) (append_assoc ms (l ∷ ns) rest) in
      run_then _ (h.run x (ms ++ (l ∷ (ns ++ rest))) (passed_free after_value keyword_stops q (keyword_stops l k) (ns ++ rest)) u (s ∙ e))
      (λ v t. behind_runs a d ms q l (ns ++ rest) (codes "IN") k refl refl (test.In a vs) rest
      (λ w o. yes_next _ _ (word_as k (codes "IN")) o (run_then _ (run_word k o) (λ z g. run_then _ (tuple_runs y rest z g) (λ y i. run_pure i)))) v t)
  test_runs (IsTest.is_between {a = a} {b = b} {c = c} {d = d} {l = l} {r = r} {ls = ls} {ms = ms} {ns = ns} {os = os} x q k y j o) rest free u s =
      let e : (ls ++ (ms ++ (l ∷ ns ++ r ∷ os))) ++ rest ≡ ls ++ (ms ++ (l ∷ (ns ++ (r ∷ (os ++ rest))))) =
      append_assoc ls (ms ++ (l ∷ ns ++ r ∷ os)) rest ∙ ap (λ ks. ls ++ ks) (append_assoc ms (l ∷ ns ++ r ∷ os) rest ∙ ap (λ ks. ms ++ (l ∷ ks)) (append_assoc ns (r ∷ os) rest)) in
      run_then _ (h.run x (ms ++ (l ∷ (ns ++ (r ∷ (os ++ rest))))) (passed_free after_value keyword_stops q (keyword_stops l k) (ns ++ (r ∷ (os ++ rest)))) u (s ∙ e))
      (λ v t. behind_runs a d ms q l (ns ++ (r ∷ (os ++ rest))) (codes "BETWEEN") k refl refl (test.Between a b c) rest
      (λ w i. no_next _ _ (word_as k (codes "IN")) i (run_then _ (run_word k i) (λ z g. run_then _ (h.run y (r ∷ (os ++ rest)) (keyword_stops r j) z g)
      (λ x f. run_then _ (run_word j f) (λ y m. run_then _ (h.run o rest free y m) (λ z n. run_pure n)))))) v t)

pub is_keyword : (w : Name) (l : Lexeme) → Keyword w l → is_word w l ≡ true
is_keyword w l (keyword e) = e

joined_runs : {D : Cond → List Lexeme → Type 0} {g : Lexeme → Bool} {p : Reader Cond} (w : Name) (f : List Cond → Cond) → Complete D g p → ((l : Lexeme) → Keyword w l → g l ≡ false)
    → {c : Cond} {ls : List Lexeme} → Joined w f D c ls → (rest : List Lexeme) → Free g rest → Free (is_word w) rest → (u : Unread) → Stands u (ls ++ rest) → Run (joined_by w f p) u c rest
joined_runs w f h stops (Joined.one d) rest free away u s = run_then _ (separated_runs (is_word w) (is_keyword w) stops h (one d) rest free away u s) (λ v t. run_pure t)
joined_runs w f h stops (Joined.more d) rest free away u s = run_then _ (separated_runs (is_word w) (is_keyword w) stops h d rest free away u s) (λ v t. run_pure t)

abbrev pub after_all : Lexeme → Bool
after_all l = after_value l || is_word (codes "AND") l

abbrev pub after_any : Lexeme → Bool
after_any l = after_all l || is_word (codes "OR") l

free_all : (ls : List Lexeme) → Free after_all ls → Free after_value ls × Free (is_word (codes "AND")) ls
free_all [] e = (refl, refl)
free_all (l ∷ ls) e = (first_false (after_value l) _ e, second_false (after_value l) _ e)

free_any : (ls : List Lexeme) → Free after_any ls → Free after_all ls × Free (is_word (codes "OR")) ls
free_any [] e = (refl, refl)
free_any (l ∷ ls) e = (first_false (after_all l) _ e, second_false (after_all l) _ e)

or_stops : (l : Lexeme) → Keyword (codes "OR") l → after_all l ≡ false
or_stops l k = neither _ _ (keyword_stops l k) (word_as k (codes "AND"))
  where
    neither : (a b : Bool) → a ≡ false → b ≡ false → (a || b) ≡ false
    neither true b e d = absurd cc
    neither false b e d = d

pub complete_all : {D : Cond → List Lexeme → Type 0} {p : Reader Cond} → Complete D after_value p → Complete (Joined (codes "AND") test.And D) after_all (all_of p)
complete_all h = record { run = λ d rest free u s. let f = free_all rest free in joined_runs (codes "AND") test.And h keyword_stops d rest f.0 f.1 u s }

pub complete_any : {D : Cond → List Lexeme → Type 0} {p : Reader Cond} → Complete D after_value p → Complete (AnyOf D) after_any (any_of p)
complete_any h = record { run = λ d rest free u s. let f = free_any rest free in joined_runs (codes "OR") test.Or (complete_all h) or_stops d rest f.0 f.1 u s }

unlike_joined : {D : Cond → List Lexeme → Type 0} {g : Lexeme → Bool} {w : Name} {f : List Cond → Cond} → Unlike g D → Unlike g (Joined w f D)
unlike_joined {D = D} {g = g} {w = w} {f = f} h = record { away = by }
  where
    by : {c : Cond} {ls : List Lexeme} → Joined w f D c ls → (rest : List Lexeme) → Free g (ls ++ rest)
    by (Joined.one d) rest = h.away d rest
    by (Joined.more d) rest = (unlike_separated h).away d rest

unlike_test : {V : Expr → List Lexeme → Type 0} {g : Lexeme → Bool} → Unlike g V → Unlike g (IsTest V)
unlike_test {V = V} {g = g} h = record { away = by }
  where
    by : {c : Cond} {ls : List Lexeme} → IsTest V c ls → (rest : List Lexeme) → Free g (ls ++ rest)
    by (IsTest.compares {l = l} {ls = ls} {ms = ms} x o y) rest = subst (Free g) (sym (append_assoc ls (l ∷ ms) rest)) (h.away x ((l ∷ ms) ++ rest))
    by (IsTest.is_null {l = l} {r = r} {ls = ls} {ms = ms} x k q j) rest = subst (Free g) (sym (append_assoc ls (l ∷ ms ++ r ∷ []) rest)) (h.away x ((l ∷ ms ++ r ∷ []) ++ rest))
    by (IsTest.is_in {l = l} {ls = ls} {ms = ms} {ns = ns} x q k y) rest = subst (Free g) (sym (append_assoc ls (ms ++ l ∷ ns) rest)) (h.away x ((ms ++ l ∷ ns) ++ rest))
    by (IsTest.is_between {l = l} {r = r} {ls = ls} {ms = ms} {ns = ns} {os = os} x q k y j o) rest =
        subst (Free g) (sym (append_assoc ls (ms ++ (l ∷ ns ++ r ∷ os)) rest)) (h.away x ((ms ++ (l ∷ ns ++ r ∷ os)) ++ rest))

not_no_start : NoStart (is_word (codes "NOT"))
unfolding is_reserved
not_no_start = word_no_start (codes "NOT") refl refl refl

abbrev Opened : (Cond → List Lexeme → Type 0) → Type 0
Opened B = (c : Cond) (ls : List Lexeme) → B c ls → (m : Lexeme) × (ks : List Lexeme) × (ls ≡ m ∷ ks) × Mark (codes "(") m

opened_is : (g : Lexeme → Bool) (b : Bool) → g (Sign (codes "(")) ≡ b → {ls : List Lexeme} → (m : Lexeme) × (ks : List Lexeme) × (ls ≡ m ∷ ks) × Mark (codes "(") m → (rest : List Lexeme) → head_is g (ls ++ rest) ≡ b
opened_is g b e d rest = subst (λ ks. head_is g (ks ++ rest) ≡ b) (sym d.2) (mark_as d.3 g ∙ e)

member_runs : {M B : Cond → List Lexeme → Type 0} {V : Expr → List Lexeme → Type 0} {inner between : Reader Cond} {p : Reader Expr}
    → Complete M after_value inner → Complete B after_value between → Opened B → Complete V after_value p → Unlike (is_word (codes "NOT")) V → Unlike (is_sign (codes "(")) V
    → Complete (MemberOf M B V) after_value (member_of inner between p)
member_runs {M = M} {B = B} {V = V} {inner = inner} {between = between} {p = p} f g first h no_not no_open = record { run = by }
  where
    by : {c : Cond} {ls : List Lexeme} → MemberOf M B V c ls → (rest : List Lexeme) → Free after_value rest → (u : Unread) → Stands u (ls ++ rest) → Run (member_of inner between p) u c rest
    by (MemberOf.negated k d) rest free u s = yes_next _ _ (is_keyword _ _ k) s (run_then _ (run_word k s) (λ v t. run_then _ (f.run d rest free v t) (λ w r. run_pure r)))
    by (MemberOf.brackets {c = c} {ls = ls} d) rest free u s =
        let m = first c ls d in
        no_next _ _ (opened_is (is_word (codes "NOT")) false refl m rest) s (run_in_place _ (yes_next _ _ (opened_is (is_sign (codes "(")) true refl m rest) s (g.run d rest free u s)))
    by (MemberOf.tested d) rest free u s =
        no_next _ _ ((unlike_test no_not).away d rest) s (run_in_place _ (no_next _ _ ((unlike_test no_open).away d rest) s (test_runs h d rest free u s)))

nothing_runs : (f : Lexeme → Bool) (p : Reader Cond) → Complete Nothing f p
nothing_runs f p = record { run = λ d rest free u s. absurd d }

no_select : (n : ℕ) → Unlike (is_word (codes "SELECT")) (MemberAt n)
no_select zero = record { away = by }
  where
    by : {c : Cond} {ls : List Lexeme} → MemberAt zero c ls → (rest : List Lexeme) → Free (is_word (codes "SELECT")) (ls ++ rest)
    by (MemberOf.negated k d) rest = word_as k (codes "SELECT")
    by (MemberOf.brackets d) rest = absurd d
    by (MemberOf.tested d) rest = (unlike_test (unlike_value _ select_no_start 0 false)).away d rest
no_select (suc n) = record { away = by }
  where
    by : {c : Cond} {ls : List Lexeme} → MemberAt (suc n) c ls → (rest : List Lexeme) → Free (is_word (codes "SELECT")) (ls ++ rest)
    by (MemberOf.negated k d) rest = word_as k (codes "SELECT")
    by (MemberOf.brackets d) rest = opened_is (is_word (codes "SELECT")) false refl (bracket_first d) rest
    by (MemberOf.tested d) rest = (unlike_test (unlike_value _ select_no_start (suc n) false)).away d rest

pub complete_member : (n : ℕ) → Complete (MemberAt n) after_value (member_at n)
unfolding member_at
complete_member zero =
    member_runs (nothing_runs _ (refuse (codes "nesting"))) (nothing_runs _ too_deep) (λ c ls d. absurd d) (complete_value 0 false) (unlike_value _ not_no_start 0 false) (unlike_value _ (sign_no_start (codes "(") refl) 0 false)
complete_member (suc n) =
    member_runs (complete_member n) (record { run = λ d rest free u s. bracketed_runs (complete_any (complete_member n)) refl (λ x ls e r ms k. (unlike_joined (unlike_joined (no_select n))).away e (r ∷ ms)) d rest u s })
    (λ c ls d. bracket_first d) (complete_value (suc n) false) (unlike_value _ not_no_start (suc n) false) (unlike_value _ (sign_no_start (codes "(") refl) (suc n) false)

condition_runs : {c : Cond} {ls : List Lexeme} → IsCondition c ls → (rest : List Lexeme) → Free after_any rest → (u : Unread) → Stands u (ls ++ rest) → Run condition u c rest
unfolding condition
condition_runs (IsCondition.condition d) rest free u s = (complete_any (complete_member most_open)).run d rest free u s

pub complete_condition : Complete IsCondition after_any condition
complete_condition = record { run = condition_runs }

-- ---- at most one tree

-- tokens that are these lexemes
some_tokens : List Lexeme → List Token
some_tokens [] = []
some_tokens (l ∷ ls) = record { what = l; from = 0; to = 0 } ∷ some_tokens ls

are_lexemes : (ls : List Lexeme) → lexemes (some_tokens ls) ≡ ls ++ []
unfolding some_tokens
are_lexemes [] = refl
are_lexemes (l ∷ ls) = ap (λ ks. l ∷ ks) (are_lexemes ls)

pub some_text : List Lexeme → Unread
some_text ls = record { text = []; behind = 0; tokens = some_tokens ls; fault = None }

pub some_stand : (ls : List Lexeme) → Stands (some_text ls) (ls ++ [])
unfolding some_text
some_stand ls = are_lexemes ls

pub same_run : {A : Type 0} {p : Reader A} {u : Unread} {x y : A} {rest : List Lexeme} → Run p u x rest → Run p u y rest → x ≡ y
same_run {A = A} {x = x} {y = y} h g = let e = sym h.runs ∙ g.runs in let d : ◌≡◌ {A = A × Unread} (x, h.left) (y, g.left) = cc in ap (λ r. r.0) d

pub one_condition : (n : ℕ) (ls : List Lexeme) (c d : Cond) → AnyOf (MemberAt n) c ls → AnyOf (MemberAt n) d ls → c ≡ d
one_condition n ls c d h g =
    same_run ((complete_any (complete_member n)).run h [] refl (some_text ls) (some_stand ls)) ((complete_any (complete_member n)).run g [] refl (some_text ls) (some_stand ls))

pub reserved_same : (k b : Name) → same_word k b ≡ true → is_reserved b ≡ is_reserved k
unfolding is_reserved
reserved_same k b e = among_as reserved k b e

pub bracket_opens : {A : Type 0} {D : A → List Lexeme → Type 0} {x : A} {ls : List Lexeme} → Bracketed D x ls → (rest : List Lexeme) → head_is (is_sign (codes "(")) (ls ++ rest) ≡ true
bracket_opens (brackets m d k) rest = mark_as m (is_sign (codes "("))
