-- What is read is spelled by the tokens that are taken.
use Rattle.std.proofs.Common.{◌≡◌, ℕ, zero, suc, Bool, true, false, cond, List, [], ◌∷◌, ◌++◌, length, Option, Some, None, Result, Ok, Err, refl, sym, subst, ap, append_assoc}
use Rattle.std.proofs.lemmas.List.{append-nil, map-append}
use Rattle.std.proofs.lemmas.Bool.{ltb-true, leb-true}
use Rattle.std.proofs.lemmas.Slice.Eq.{bytes_eq-Decides}
use Rattle.std.specs.Prelude.{◌&&◌, ◌||◌, not, codes, nat_le, nat_lt, ◌^◌, bytes_eq}
use Rattle.qc_sql.specs.declared.statements.Expr.{Expr}
use Rattle.qc_sql.specs.declared.statements.Expr.TheVariants as expr
use Rattle.qc_sql.specs.declared.statements.Cond.{Cond}
use Rattle.qc_sql.specs.declared.statements.Cond.TheVariants as test
use Rattle.qc_sql.specs.declared.statements.Op.{Op}
use Rattle.qc_sql.specs.declared.statements.Op.TheVariants as compare
use Rattle.qc_sql.specs.declared.statements.ColumnName.{ColumnName}
use Rattle.qc_sql.specs.Database.{Name}
use Rattle.qc_sql.specs.Words.{when}
use Rattle.qc_sql.specs.Rules.{same_word, in_capitals}
use Rattle.qc_sql.specs.Tokens.{Lexeme, Word, Quoted, Words, Digits, Sign, Token, lexemes}
use Rattle.qc_sql.specs.Reading.{Unread, Stop, Before, Refused, Reader, pure, then_read, ◌>>=◌, stop, refuse, past, read_as, read_first, reads, next, token_is, next_is, is_word, is_sign, word, sign, branch, passed, at_most, many, separated, listed, opened, bracketed, with_words, in_place_of_syntax, is_reserved, name_in, digits_in, words_in, word_in, name, number, words, any_word}
use Rattle.qc_sql.specs.Grammar.{dotted, table, column, ends_value, signed, bare_literal, literal, tuple, is_known_call, is_aggregate_word, is_aggregate, call_word, column_argument, counted, arguments, call_of, value_of, call_at, value_at, op_in, null_test, in_test, list_or_range, test_behind, test_of, negated, grouped, joined_by, any_of, member_of, member_at, most_open, condition}
use Rattle.qc_parse.specs.Productions.{Keyword, keyword, Mark, mark, Named, Passed, there, absent, Separated, one, more, Listed, Bracketed, brackets, Dotted, bare, IsTable, IsColumn, IsLiteral, negative, text, null, IsTuple, Arguments, is_other_call, IsCall, ValueOf, CallAt, ValueAt, Compares, equal, unequal, not_equal, less, at_most as or_less, greater, at_least, denied, IsTest, Joined, AnyOf, MemberOf, MemberAt, IsCondition}

-- what is given is spelled by the tokens in front of what is left
abbrev pub Spelled : {A : Type 0} → (A → List Lexeme → Type 0) → List Token → Result (A × Unread) Stop → Type 0
Spelled D ts (Ok x) = (taken : List Token) × (ts ≡ taken ++ x.1.tokens) × D x.0 (lexemes taken)
Spelled D ts (Err e) = Unit {0}

pub record Sound {A : Type 0} (D : A → List Lexeme → Type 0) (p : Reader A) : Type 0 where
  pub at : (u : Unread) → Spelled D u.tokens (p u)

spelled_more : {A B : Type 0} (D : A → List Lexeme → Type 0) (E : B → List Lexeme → Type 0) (ts : List Token) (r : Result (A × Unread) Stop) (f : A → Reader B) → Spelled D ts r
    → ((x : A) (ls : List Lexeme) → D x ls → Sound (λ y ms. E y (ls ++ ms)) (f x)) → Spelled E ts (then_read r f)
spelled_more D E ts (Err e) f h k = tt
spelled_more D E ts (Ok x) f h k = joined (f x.0 x.1) ((k x.0 (lexemes h.0) h.2).at x.1)
  where
    joined : (s : _) → Spelled (λ y ms. E y (lexemes h.0 ++ ms)) x.1.tokens s → Spelled E ts s
    joined (Err e) g = tt
    joined (Ok y) g = (h.0 ++ g.0, rw (append_assoc, ← g.1) h.1, rw map-append g.2)

pub sound_then : {A B : Type 0} {D : A → List Lexeme → Type 0} {E : B → List Lexeme → Type 0} {p : Reader A} {f : A → Reader B} → Sound D p
    → ((x : A) (ls : List Lexeme) → D x ls → Sound (λ y ms. E y (ls ++ ms)) (f x)) → Sound E (p >>= f)
sound_then {D = D} {E = E} {p = p} {f = f} h k = record { at = λ u. spelled_more D E u.tokens (p u) f (h.at u) k }

pub sound_pure : {A : Type 0} {D : A → List Lexeme → Type 0} {x : A} → D x [] → Sound D (pure x)
sound_pure h = record { at = λ u. ([], refl, h) }

pub sound_stop : {A : Type 0} {D : A → List Lexeme → Type 0} → Sound D stop
sound_stop = record { at = λ u. tt }

pub sound_refuse : {A : Type 0} {D : A → List Lexeme → Type 0} (what : List ℕ) → Sound D (refuse what)
sound_refuse what = record { at = λ u. tt }

spelled_weaker : {A : Type 0} (D E : A → List Lexeme → Type 0) → ((x : A) (ls : List Lexeme) → D x ls → E x ls) → (ts : List Token) (r : Result (A × Unread) Stop) → Spelled D ts r → Spelled E ts r
spelled_weaker D E k ts (Ok x) h = (h.0, h.1, k x.0 (lexemes h.0) h.2)
spelled_weaker D E k ts (Err e) h = tt

pub sound_weaker : {A : Type 0} {D E : A → List Lexeme → Type 0} {p : Reader A} → ((x : A) (ls : List Lexeme) → D x ls → E x ls) → Sound D p → Sound E p
sound_weaker {D = D} {E = E} {p = p} k h = record { at = λ u. spelled_weaker D E k u.tokens (p u) (h.at u) }

-- something of what is read
pub sound_map : {A B : Type 0} {D : A → List Lexeme → Type 0} {E : B → List Lexeme → Type 0} {p : Reader A} (f : A → B) → Sound D p
    → ((x : A) (ls : List Lexeme) → D x ls → E (f x) ls) → Sound E (p >>= λ x. pure (f x))
sound_map {E = E} f h k = sound_then h (λ x ls d. sound_pure (subst (E (f x)) (sym (append-nil ls)) (k x ls d)))

pub spelled_chosen : {A : Type 0} (D : A → List Lexeme → Type 0) (ts : List Token) (c : Bool) (r s : Result (A × Unread) Stop) → Spelled D ts r → Spelled D ts s → Spelled D ts (cond c r s)
spelled_chosen D ts true r s h g = h
spelled_chosen D ts false r s h g = g

pub sound_branch : {A : Type 0} {D : A → List Lexeme → Type 0} {p q : Reader A} (test : Unread → Bool) → Sound D p → Sound D q → Sound D (branch test p q)
sound_branch {D = D} {p = p} {q = q} test h g = record { at = λ u. spelled_chosen D u.tokens (test u) (p u) (q u) (h.at u) (g.at u) }

pub sound_if : {A : Type 0} {D : A → List Lexeme → Type 0} {p q : Reader A} (c : Bool) → (c ≡ true → Sound D p) → (c ≡ false → Sound D q) → Sound D (cond c p q)
sound_if true h g = h refl
sound_if false h g = g refl

spelled_as : {A : Type 0} (D : A → List Lexeme → Type 0) (u : Unread) (t : Token) (ts : List Token) (x : Option A) → ((y : A) → x ≡ Some y → D y (t.what ∷ [])) → Spelled D (t ∷ ts) (read_as u t ts x)
spelled_as D u t ts None k = tt
spelled_as D u t ts (Some x) k = (t ∷ [], refl, k x refl)

spelled_first : {A : Type 0} (D : A → List Lexeme → Type 0) (f : Lexeme → Option A) (u : Unread) (ts : List Token) → ((x : A) (l : Lexeme) → f l ≡ Some x → D x (l ∷ [])) → Spelled D ts (read_first f u ts)
spelled_first D f u [] k = tt
spelled_first D f u (t ∷ ts) k = spelled_as D u t ts (f t.what) (λ y e. k y t.what e)

pub sound_reads : {A : Type 0} {D : A → List Lexeme → Type 0} {f : Lexeme → Option A} → ((x : A) (l : Lexeme) → f l ≡ Some x → D x (l ∷ [])) → Sound D (reads f)
sound_reads {D = D} {f = f} k = record { at = λ u. spelled_first D f u u.tokens k }

pub passes : (c : Bool) (x : Unit {0}) → when c tt ≡ Some x → c ≡ true
passes true x e = refl
passes false x e = absurd cc

pub sound_next : {A : Type 0} {E : A → List Lexeme → Type 0} {q : Reader A} {f : Lexeme → Bool} (K : Lexeme → Type 0) → ((l : Lexeme) → f l ≡ true → K l) → ((l : Lexeme) → K l → Sound (λ y ms. E y (l ∷ ms)) q)
    → Sound E (next f >>= λ _. q)
sound_next {A = A} {E = E} {q = q} {f = f} K is k = sound_then {D = λ _ ls. (l : Lexeme) × (ls ≡ l ∷ []) × K l} (sound_reads (λ x l e. (l, refl, is l (passes (f l) x e))))
    (λ x ls d. subst (λ ks. Sound (λ y ms. E y (ks ++ ms)) q) (sym d.1) (k d.0 d.2))

pub is_keyword : (w : Name) (l : Lexeme) → is_word w l ≡ true → Keyword w l
is_keyword w (Word bytes) e = keyword e
is_keyword w (Quoted bytes) e = absurd cc
is_keyword w (Words bytes) e = absurd cc
is_keyword w (Digits n) e = absurd cc
is_keyword w (Sign s) e = absurd cc

pub is_mark : (s : List ℕ) (l : Lexeme) → is_sign s l ≡ true → Mark s l
is_mark s (Sign bytes) e = subst (λ b. Mark s (Sign b)) ((bytes_eq-Decides s bytes).0 e) mark
is_mark s (Word bytes) e = absurd cc
is_mark s (Quoted bytes) e = absurd cc
is_mark s (Words bytes) e = absurd cc
is_mark s (Digits n) e = absurd cc

pub sound_word : {A : Type 0} {E : A → List Lexeme → Type 0} {q : Reader A} (w : Name) → ((l : Lexeme) → Keyword w l → Sound (λ y ms. E y (l ∷ ms)) q) → Sound E (word w >>= λ _. q)
sound_word w k = sound_next (Keyword w) (is_keyword w) k

pub sound_sign : {A : Type 0} {E : A → List Lexeme → Type 0} {q : Reader A} (s : List ℕ) → ((l : Lexeme) → Mark s l → Sound (λ y ms. E y (l ∷ ms)) q) → Sound E (sign s >>= λ _. q)
sound_sign s k = sound_next (Mark s) (is_mark s) k

-- a reader that takes nothing
pub sound_silent : {A : Type 0} {E : A → List Lexeme → Type 0} {p : Reader (Unit {0})} {q : Reader A} → Sound (λ _ ls. ls ≡ []) p → Sound E q → Sound E (p >>= λ _. q)
sound_silent {E = E} {q = q} h g = sound_then h (λ x ls d. subst (λ ks. Sound (λ y ms. E y (ks ++ ms)) q) (sym d) g)

pub sound_passed : {A : Type 0} {E : A → List Lexeme → Type 0} {k : Bool → Reader A} (w : Name) → ((b : Bool) (ls : List Lexeme) → Passed w b ls → Sound (λ y ms. E y (ls ++ ms)) (k b)) → Sound E (passed w >>= k)
sound_passed w k = sound_then (sound_branch _ (sound_word w (λ l h. sound_pure (there h))) (sound_pure absent)) k

spelled_placed : {A : Type 0} (D : A → List Lexeme → Type 0) (f : Unread → Option (List ℕ)) (ts : List Token) (r : Result (A × Unread) Stop) → Spelled D ts r → Spelled D ts (with_words f r)
spelled_placed D f ts (Ok x) h = h
spelled_placed D f ts (Err (Before u)) h = tt
spelled_placed D f ts (Err (Refused fault)) h = tt

pub sound_in_place : {A : Type 0} {D : A → List Lexeme → Type 0} {p : Reader A} (f : Unread → Option (List ℕ)) → Sound D p → Sound D (in_place_of_syntax f p)
sound_in_place {D = D} {p = p} f h = record { at = λ u. spelled_placed D f u.tokens (p u) (h.at u) }

-- ---- lists and brackets

-- none or more, with a token in front of each
data Rest {A : Type 0} (K : Lexeme → Type 0) (D : A → List Lexeme → Type 0) : List A → List Lexeme → Type 0 where
  none : Rest K D [] []
  next_one : {x : A} {xs : List A} {l : Lexeme} {ls ms : List Lexeme} → K l → D x ls → Rest K D xs ms → Rest K D (x ∷ xs) (l ∷ ls ++ ms)

behind : {A : Type 0} {K : Lexeme → Type 0} {D : A → List Lexeme → Type 0} {x : A} {xs : List A} {ms : List Lexeme} (ls : List Lexeme) → D x ls → Rest K D xs ms → Separated K D (x ∷ xs) (ls ++ ms)
behind {K = K} {D = D} {x = x} ls d none = subst (Separated K D (x ∷ [])) (sym (append-nil ls)) (one d)
behind ls d (next_one {ls = ns} k e r) = more d k (behind ns e r)

sound_rest : {A : Type 0} {D : A → List Lexeme → Type 0} {p : Reader A} (n : ℕ) (f : Lexeme → Bool) (K : Lexeme → Type 0) → ((l : Lexeme) → f l ≡ true → K l) → Sound D p
    → Sound (Rest K D) (at_most n (next_is f) (next f >>= λ _. p))
sound_rest zero f K is h = sound_pure none
sound_rest {D = D} (suc n) f K is h =
    sound_branch _ (sound_then {D = λ x ls. (l : Lexeme) × (ms : List Lexeme) × (ls ≡ l ∷ ms) × K l × D x ms} (sound_next K is (λ l k. sound_weaker (λ x ms d. (l, ms, refl, k, d)) h))
    (λ x ls d. sound_map _ (sound_rest n f K is h) (λ xs ms r. subst (λ ks. Rest K D (x ∷ xs) (ks ++ ms)) (sym d.2) (next_one d.3 d.4 r)))) (sound_pure none)

sound_many : {A : Type 0} {D : A → List Lexeme → Type 0} {p : Reader A} (f : Lexeme → Bool) (K : Lexeme → Type 0) → ((l : Lexeme) → f l ≡ true → K l) → Sound D p
    → Sound (Rest K D) (many (next_is f) (next f >>= λ _. p))
sound_many {D = D} {p = p} f K is h = record { at = λ u. (sound_rest {D = D} {p = p} (length u.tokens) f K is h).at u }

pub sound_separated : {A : Type 0} {D : A → List Lexeme → Type 0} {p : Reader A} (f : Lexeme → Bool) (K : Lexeme → Type 0) → ((l : Lexeme) → f l ≡ true → K l) → Sound D p
    → Sound (Separated K D) (separated (next_is f) (next f) p)
sound_separated f K is h = sound_then h (λ x ls d. sound_map _ (sound_many f K is h) (λ xs ms r. behind ls d r))

pub sound_listed : {A : Type 0} {D : A → List Lexeme → Type 0} {p : Reader A} → Sound D p → Sound (Listed D) (listed p)
sound_listed h = sound_separated (is_sign (codes ",")) (Mark (codes ",")) (is_mark (codes ",")) h

pub sound_bracketed : {A : Type 0} {D : A → List Lexeme → Type 0} {p : Reader A} → Sound D p → Sound (Bracketed D) (bracketed p)
unfolding opened
sound_bracketed {D = D} {p = p} h =
    sound_then {D = λ _ ls. (l : Lexeme) × (ls ≡ l ∷ []) × Mark (codes "(") l}
    (sound_sign (codes "(") (λ l k. sound_branch _ (sound_refuse _) (sound_pure (l, refl, k))))
    (λ _ ls d. subst (λ ks. Sound (λ y ms. Bracketed D y (ks ++ ms)) (p >>= λ x. sign (codes ")") >>= λ _. pure x)) (sym d.1)
    (sound_then h (λ x ms e. sound_sign (codes ")") (λ r k. sound_pure (brackets d.2 e k)))))

-- ---- names and values

is_name : (n : Name) (l : Lexeme) → name_in l ≡ Some n → Named n l
is_name n (Word w) e = by (is_reserved w) refl
  where
    by : (c : Bool) → is_reserved w ≡ c → Named n (Word w)
    by true d = absurd (let f : cond true None (Some w) ≡ Some n = subst (λ t. cond t None (Some w) ≡ Some n) d e in cc)
    by false d = let f : cond false None (Some w) ≡ Some n = subst (λ t. cond t None (Some w) ≡ Some n) d e in let g : w ≡ n = cc in subst (λ m. Named m (Word w)) g (Named.word d)
is_name n (Quoted w) e = let g : w ≡ n = cc in subst (λ m. Named m (Quoted w)) g Named.quoted
is_name n (Words w) e = absurd cc
is_name n (Digits w) e = absurd cc
is_name n (Sign w) e = absurd cc

-- the token of a name
abbrev pub OneName : Name → List Lexeme → Type 0
OneName n ls = (l : Lexeme) × (ls ≡ l ∷ []) × Named n l

pub sound_name : Sound OneName name
sound_name = sound_reads (λ n l e. (l, refl, is_name n l e))

pub sound_named : {A : Type 0} {E : A → List Lexeme → Type 0} {k : Name → Reader A} → ((n : Name) (l : Lexeme) → Named n l → Sound (λ y ms. E y (l ∷ ms)) (k n)) → Sound E (name >>= k)
sound_named {E = E} {k = k} h = sound_then sound_name (λ n ls d. subst (λ ks. Sound (λ y ms. E y (ks ++ ms)) (k n)) (sym d.1) (h n d.0 d.2))

abbrev pub OneNumber : ℕ → List Lexeme → Type 0
OneNumber n ls = ls ≡ Digits n ∷ []

is_digits : (n : ℕ) (l : Lexeme) → digits_in l ≡ Some n → l ≡ Digits n
is_digits n (Digits m) e = cc
is_digits n (Word w) e = absurd cc
is_digits n (Quoted w) e = absurd cc
is_digits n (Words w) e = absurd cc
is_digits n (Sign w) e = absurd cc

pub sound_digits : Sound OneNumber number
sound_digits = sound_reads (λ n l e. ap (λ x. x ∷ []) (is_digits n l e))

pub sound_number : {A : Type 0} {E : A → List Lexeme → Type 0} {k : ℕ → Reader A} → ((n : ℕ) → Sound (λ y ms. E y (Digits n ∷ ms)) (k n)) → Sound E (number >>= k)
sound_number {E = E} {k = k} h =
    sound_then {D = OneNumber} (sound_reads (λ n l e. ap (λ x. x ∷ []) (is_digits n l e))) (λ n ls d. subst (λ ks. Sound (λ y ms. E y (ks ++ ms)) (k n)) (sym d) (h n))

is_words : (t : List ℕ) (l : Lexeme) → words_in l ≡ Some t → l ≡ Words t
is_words t (Words m) e = cc
is_words t (Word w) e = absurd cc
is_words t (Quoted w) e = absurd cc
is_words t (Digits w) e = absurd cc
is_words t (Sign w) e = absurd cc

pub sound_words : {A : Type 0} {E : A → List Lexeme → Type 0} {k : List ℕ → Reader A} → ((t : List ℕ) → Sound (λ y ms. E y (Words t ∷ ms)) (k t)) → Sound E (words >>= k)
sound_words {E = E} {k = k} h =
    sound_then {D = λ t ls. ls ≡ Words t ∷ []} (sound_reads (λ n l e. ap (λ x. x ∷ []) (is_words n l e))) (λ n ls d. subst (λ ks. Sound (λ y ms. E y (ks ++ ms)) (k n)) (sym d) (h n))

is_any_word : (t : Name) (l : Lexeme) → word_in l ≡ Some t → l ≡ Word t
is_any_word t (Word m) e = cc
is_any_word t (Words w) e = absurd cc
is_any_word t (Quoted w) e = absurd cc
is_any_word t (Digits w) e = absurd cc
is_any_word t (Sign w) e = absurd cc

pub sound_any_word : {A : Type 0} {E : A → List Lexeme → Type 0} {k : Name → Reader A} → ((w : Name) → Sound (λ y ms. E y (Word w ∷ ms)) (k w)) → Sound E (any_word >>= k)
sound_any_word {E = E} {k = k} h =
    sound_then {D = λ t ls. ls ≡ Word t ∷ []} (sound_reads (λ n l e. ap (λ x. x ∷ []) (is_any_word n l e))) (λ n ls d. subst (λ ks. Sound (λ y ms. E y (ks ++ ms)) (k n)) (sym d) (h n))

pub sound_dotted : Sound Dotted dotted
unfolding dotted
sound_dotted = sound_named (λ a l h. sound_branch _ (sound_sign (codes ".") (λ m k. sound_named (λ b r g. sound_pure (Dotted.dotted h k g)))) (sound_pure (bare h)))

pub sound_table : Sound IsTable table
unfolding table
sound_table = sound_map _ sound_dotted (λ d ls h. IsTable.table h)

pub sound_ends : Sound (λ _ ls. ls ≡ []) ends_value
unfolding ends_value
sound_ends = sound_branch _ (sound_refuse _) (sound_pure refl)

pub sound_column : Sound IsColumn column
unfolding column
sound_column = sound_then sound_dotted (λ d ls h. sound_silent sound_ends (sound_pure (subst (IsColumn (record { source = d.0; name = d.1 })) (sym (append-nil ls)) (IsColumn.column h))))

sound_bare_literal : Sound IsLiteral bare_literal
unfolding bare_literal signed
sound_bare_literal =
    sound_branch _ (sound_number (λ n. sound_if (nat_lt n (2 ^ 63)) (λ e. sound_pure (IsLiteral.number (ltb-true n (2 ^ 63) e))) (λ e. sound_refuse _)))
    (sound_branch _ (sound_sign (codes "-") (λ l k. sound_number (λ n. sound_if (nat_le n (2 ^ 63)) (λ e. sound_pure (negative (leb-true n (2 ^ 63) e) k)) (λ e. sound_refuse _))))
    (sound_branch _ (sound_words (λ t. sound_pure text)) (sound_word (codes "NULL") (λ l k. sound_pure (null k)))))

pub sound_literal : Sound IsLiteral literal
unfolding literal
sound_literal = sound_then sound_bare_literal (λ v ls h. sound_silent sound_ends (sound_pure (subst (IsLiteral v) (sym (append-nil ls)) h)))

pub sound_tuple : Sound IsTuple tuple
unfolding tuple
sound_tuple = sound_bracketed (sound_listed sound_literal)

-- ---- calls

-- what stands in front, when nothing is taken behind it
pub sound_ended : {A : Type 0} (D : A → List Lexeme → Type 0) {x : A} {ls : List Lexeme} → D x ls → Sound (λ y ms. D y (ls ++ ms)) (ends_value >>= λ _. pure x)
sound_ended D {x = x} {ls = ls} h = sound_silent sound_ends (sound_pure (subst (D x) (sym (append-nil ls)) h))

abbrev Called : Bool → Name → List Lexeme → Type 0
Called aggregates w ls = (ls ≡ Word w ∷ []) × (is_known_call w ≡ true) × (aggregates ≡ false → is_aggregate_word w ≡ false)

called_word : (a c d : Bool) (w : Name) (t : Token) (ts : List Token) (u v : Unread) → t.what ≡ Word w → is_known_call w ≡ c → is_aggregate_word w ≡ d → v.tokens ≡ ts
    → Spelled (Called a) (t ∷ ts) (cond (not a && d) (Err (Before u)) (cond c (pure w) (refuse w) v))
called_word true true d w t ts u v is known aggregate rest = (t ∷ [], ap (λ x. t ∷ x) (sym rest), (ap (λ l. l ∷ []) is, known, (λ h. absurd cc)))
called_word true false d w t ts u v is known aggregate rest = tt
called_word false true true w t ts u v is known aggregate rest = tt
called_word false true false w t ts u v is known aggregate rest = (t ∷ [], ap (λ x. t ∷ x) (sym rest), (ap (λ l. l ∷ []) is, known, (λ h. aggregate)))
called_word false false true w t ts u v is known aggregate rest = tt
called_word false false false w t ts u v is known aggregate rest = tt

called_first : (a : Bool) (u : Unread) (t : Token) (ts : List Token) (l : Lexeme) → t.what ≡ l
    → Spelled (Called a) (t ∷ ts) (cond (not a && is_aggregate l) (Err (Before u)) (then_read (read_as u t ts (word_in l)) (λ w. cond (is_known_call w) (pure w) (refuse w))))
called_first a u t ts (Word w) e = called_word a (is_known_call w) (is_aggregate_word w) w t ts u (past u t ts) e refl refl refl
called_first a u t ts (Quoted w) e = spelled_chosen (Called a) (t ∷ ts) (not a && false) (Err (Before u)) (Err (Before u)) tt tt
called_first a u t ts (Words w) e = spelled_chosen (Called a) (t ∷ ts) (not a && false) (Err (Before u)) (Err (Before u)) tt tt
called_first a u t ts (Digits w) e = spelled_chosen (Called a) (t ∷ ts) (not a && false) (Err (Before u)) (Err (Before u)) tt tt
called_first a u t ts (Sign w) e = spelled_chosen (Called a) (t ∷ ts) (not a && false) (Err (Before u)) (Err (Before u)) tt tt

sound_call_word : (a : Bool) → Sound (Called a) (call_word a)
unfolding call_word
sound_call_word a = record { at = λ u. by u u.tokens }
  where
    by : (u : Unread) (ts : List Token) → Spelled (Called a) ts (cond (not a && token_is is_aggregate ts) (Err (Before u)) (then_read (read_first word_in u ts) (λ w. cond (is_known_call w) (pure w) (refuse w))))
    by u [] = spelled_chosen (Called a) [] (not a && false) (Err (Before u)) (Err (Before u)) tt tt
    by u (t ∷ ts) = called_first a u t ts t.what refl

pub same_sym : (a b : Name) → same_word a b ≡ true → same_word b a ≡ true
same_sym a b h = let e = (bytes_eq-Decides (in_capitals a) (in_capitals b)).0 h in cc

-- an aggregate's word, where aggregates may stand
only_aggregates : (a : Bool) (w : Name) → (a ≡ false → is_aggregate_word w ≡ false) → is_aggregate_word w ≡ true → a ≡ true
only_aggregates true w h e = refl
only_aggregates false w h e = absurd (let f = h refl in cc)

other_word : (w : Name) → is_known_call w ≡ true → same_word w (codes "LENGTH") ≡ false → same_word w (codes "CONCAT") ≡ false → same_word w (codes "COUNT") ≡ false → same_word w (codes "SUM") ≡ false
    → same_word w (codes "MIN") ≡ false → same_word w (codes "MAX") ≡ false → is_other_call w ≡ true
other_word w k a b c d e f = rw (k, a, b, c, d, e, f) refl

-- the argument of COUNT
pub data Counting (Counted : Expr → List Lexeme → Type 0) : Expr → List Lexeme → Type 0 where
  all_rows : {l : Lexeme} → Mark (codes "*") l → Counting Counted expr.CountAll (l ∷ [])
  of_value : {e : Expr} {ls : List Lexeme} → Counted e ls → Counting Counted (expr.Count e) ls

module _ {A C : Expr → List Lexeme → Type 0} {p q : Reader Expr} (h : Sound A p) (g : Sound C q) where
  sound_counted : Sound (Counting C) (counted q)
  sound_counted = sound_branch _ (sound_sign (codes "*") (λ l k. sound_pure (all_rows k))) (sound_map _ g (λ e ls d. of_value d))

  counting : {w : Name} {e : Expr} {l r : Lexeme} {ls : List Lexeme} → Keyword (codes "COUNT") (Word w) → Mark (codes "(") l → Counting C e ls → Mark (codes ")") r → IsCall A C true e (Word w ∷ l ∷ ls ++ r ∷ [])
  counting k m (all_rows s) r = IsCall.count_all k m s r
  counting k m (of_value d) r = IsCall.count k (brackets m d r)

  bracketed_counting : {w : Name} {e : Expr} {ls : List Lexeme} → Keyword (codes "COUNT") (Word w) → Bracketed (Counting C) e ls → IsCall A C true e (Word w ∷ ls)
  bracketed_counting k (brackets m d r) = counting k m d r

  sound_arguments : Sound (Arguments A) (arguments p)
  sound_arguments = sound_branch _ (sound_pure Arguments.none) (sound_weaker (λ es ls d. Arguments.some d) (sound_listed h))

  sound_call_of : (a : Bool) (w : Name) → is_known_call w ≡ true → (a ≡ false → is_aggregate_word w ≡ false) → Sound (λ e ms. IsCall A C a e (Word w ∷ ms)) (call_of p q w)
  unfolding column_argument is_aggregate_word
  sound_call_of a w known aggregate =
      let spelled : (k : Name) → same_word w k ≡ true → Keyword k (Word w) = λ k e. keyword (same_sym w k e) in
      let aggregated : (f : ColumnName → Expr) → is_aggregate_word w ≡ true → ((c : ColumnName) (ls : List Lexeme) → Bracketed IsColumn c ls → IsCall A C true (f c) (Word w ∷ ls))
      → Sound (λ x ms. IsCall A C a x (Word w ∷ ms)) (column_argument >>= λ c. pure (f c)) =
      λ f e k. subst (λ b. Sound (λ x ms. IsCall A C b x (Word w ∷ ms)) (column_argument >>= λ c. pure (f c))) (sym (only_aggregates a w aggregate e)) (sound_map f (sound_bracketed sound_column) k) in
      sound_if (same_word w (codes "LENGTH")) (λ e. sound_map _ (sound_bracketed h) (λ x ls d. IsCall.length_of (spelled _ e) d)) (λ n1.
      sound_if (same_word w (codes "CONCAT")) (λ e. sound_map _ (sound_bracketed (sound_listed h)) (λ x ls d. IsCall.concat (spelled _ e) d)) (λ n2.
      sound_if (same_word w (codes "COUNT")) (λ e. subst (λ b. Sound (λ x ms. IsCall A C b x (Word w ∷ ms)) (bracketed (counted q))) (sym (only_aggregates a w aggregate (rw e refl))) (sound_weaker (λ x ls d. bracketed_counting (spelled _ e) d) (sound_bracketed sound_counted))) (λ n3.
      sound_if (same_word w (codes "SUM")) (λ e. aggregated expr.Sum (rw (n3, e) refl) (λ c ls d. IsCall.sum (spelled _ e) d)) (λ n4.
      sound_if (same_word w (codes "MIN")) (λ e. aggregated expr.Min (rw (n3, n4, e) refl) (λ c ls d. IsCall.min (spelled _ e) d)) (λ n5.
      sound_if (same_word w (codes "MAX")) (λ e. aggregated expr.Max (rw (n3, n4, n5, e) refl) (λ c ls d. IsCall.max (spelled _ e) d)) (λ n6.
      sound_map _ (sound_bracketed sound_arguments) (λ x ls d. IsCall.other (other_word w known n1 n2 n3 n4 n5 n6) d)))))))

sound_value_of : {C : Expr → List Lexeme → Type 0} {p : Reader Expr} → Sound C p → Sound (ValueOf C) (value_of p)
sound_value_of {C = C} h =
    sound_branch _ (sound_map _ sound_literal (λ v ls d. ValueOf.literal d))
    (sound_branch _ (sound_then h (λ e ls d. sound_ended (ValueOf C) (ValueOf.call d))) (sound_map _ sound_column (λ c ls d. ValueOf.column d)))

sound_call : (n : ℕ) (a : Bool) → Sound (CallAt n a) (call_at n a)
unfolding call_at
sound_call zero a = sound_then (sound_call_word a) (λ w ls d. sound_sign (codes "(") (λ l k. sound_refuse _))
sound_call (suc n) a = sound_then (sound_call_word a) (λ w ls d.
    subst (λ ks. Sound (λ e ms. CallAt (suc n) a e (ks ++ ms)) (call_of (value_at n a) (value_at n false) w)) (sym d.0)
    (sound_call_of (sound_value_of (sound_call n a)) (sound_value_of (sound_call n false)) a w d.1 d.2))

pub sound_value : (n : ℕ) (a : Bool) → Sound (ValueAt n a) (value_at n a)
sound_value n a = sound_value_of (sound_call n a)

-- ---- conditions

sign_is : (s c : List ℕ) (o : Op) → Compares o (Sign c) → bytes_eq s c ≡ true → Compares o (Sign s)
sign_is s c o k h = subst (λ b. Compares o (Sign b)) (sym ((bytes_eq-Decides s c).0 h)) k

op_chosen : {o : Op} {l : Lexeme} {later : Option Op} (c : Bool) (x : Op) → (c ≡ true → Compares x l) → (later ≡ Some o → Compares o l) → cond c (Some x) later ≡ Some o → Compares o l
op_chosen {l = l} true x h k e = let d : x ≡ _ = cc in subst (λ y. Compares y l) d (h refl)
op_chosen false x h k e = k e

either_sign : (s c d : List ℕ) (o : Op) → Compares o (Sign c) → Compares o (Sign d) → (bytes_eq s c || bytes_eq s d) ≡ true → Compares o (Sign s)
either_sign s c d o h k e = by (bytes_eq s c) (bytes_eq s d) refl refl e
  where
    by : (a b : Bool) → bytes_eq s c ≡ a → bytes_eq s d ≡ b → (a || b) ≡ true → Compares o (Sign s)
    by true b f g e = sign_is s c o h f
    by false true f g e = sign_is s d o k g
    by false false f g e = absurd cc

is_op : (o : Op) (l : Lexeme) → op_in l ≡ Some o → Compares o l
is_op o (Sign s) e =
    op_chosen (bytes_eq s (codes "=")) compare.Eq (sign_is s (codes "=") compare.Eq equal)
    (op_chosen (bytes_eq s (codes "<>") || bytes_eq s (codes "!=")) compare.Ne (either_sign s (codes "<>") (codes "!=") compare.Ne unequal not_equal)
    (op_chosen (bytes_eq s (codes "<")) compare.Lt (sign_is s (codes "<") compare.Lt less)
    (op_chosen (bytes_eq s (codes "<=")) compare.Le (sign_is s (codes "<=") compare.Le or_less)
    (op_chosen (bytes_eq s (codes ">")) compare.Gt (sign_is s (codes ">") compare.Gt greater)
    (op_chosen (bytes_eq s (codes ">=")) compare.Ge (sign_is s (codes ">=") compare.Ge at_least) (λ f. absurd cc)))))) e
is_op o (Word w) e = absurd cc
is_op o (Quoted w) e = absurd cc
is_op o (Words w) e = absurd cc
is_op o (Digits w) e = absurd cc

module _ {V : Expr → List Lexeme → Type 0} {p : Reader Expr} (h : Sound V p) where
  as_denied : (n : Bool) (c : Cond) {ks : List Lexeme} → IsTest V (denied n c) ks → IsTest V (negated n c) ks
  as_denied true c t = t
  as_denied false c t = t

  sound_range : (n : Bool) (a : Expr) (ls ms : List Lexeme) → V a ls → Passed (codes "NOT") n ms → Sound (λ c ks. IsTest V (denied n c) (ls ++ (ms ++ ks))) (list_or_range p a)
  unfolding in_test
  sound_range n a ls ms v d =
      sound_branch _ (sound_word (codes "IN") (λ l k. sound_map (test.In a) sound_tuple (λ vs ns t. IsTest.is_in v d k t)))
      (sound_word (codes "BETWEEN") (λ l k. sound_then h (λ low ns w. sound_word (codes "AND") (λ r j. sound_map (test.Between a low) h (λ high os x. IsTest.is_between v d k w j x)))))

  sound_test_behind : (a : Expr) (ls : List Lexeme) → V a ls → Sound (λ c ms. IsTest V c (ls ++ ms)) (test_behind p a)
  unfolding null_test
  sound_test_behind a ls v =
      sound_branch _ (sound_then {D = λ o ks. (l : Lexeme) × (ks ≡ l ∷ []) × Compares o l} (sound_reads (λ o l e. (l, refl, is_op o l e)))
      (λ o ks d. sound_map (test.Compare a o) h (λ b ms w. subst (λ js. IsTest V (test.Compare a o b) (ls ++ (js ++ ms))) (sym d.1) (IsTest.compares v d.2 w))))
      (sound_branch _ (sound_word (codes "IS") (λ l is. sound_passed (codes "NOT") (λ n ms d. sound_word (codes "NULL") (λ r null. sound_pure (as_denied n (test.IsNull a) (IsTest.is_null v is d null))))))
      (sound_passed (codes "NOT") (λ n ms d. sound_map (negated n) (sound_range n a ls ms v d) (λ c ks t. as_denied n c t))))

  sound_test : Sound (IsTest V) (test_of p)
  sound_test = sound_then h sound_test_behind

sound_joined : {D : Cond → List Lexeme → Type 0} {p : Reader Cond} (w : Name) (f : List Cond → Cond) → Sound D p → Sound (Joined w f D) (joined_by w f p)
sound_joined {D = D} w f h = sound_map (grouped f) (sound_separated (is_word w) (Keyword w) (is_keyword w) h) (λ cs ls d. by cs ls d)
  where
    alone : {c : Cond} (cs : List Cond) {ls : List Lexeme} → cs ≡ [] → Separated (Keyword w) D (c ∷ cs) ls → D c ls
    alone cs e (one d) = d
    alone cs e (more d k (one g)) = absurd cc
    alone cs e (more d k (more g j r)) = absurd cc

    by : (cs : List Cond) (ls : List Lexeme) → Separated (Keyword w) D cs ls → Joined w f D (grouped f cs) ls
    by (c ∷ []) ls d = Joined.one (alone [] refl d)
    by (c ∷ e ∷ cs) ls d = Joined.more d
    by [] ls d = elim d [ ]

sound_any_of : {D : Cond → List Lexeme → Type 0} {p : Reader Cond} → Sound D p → Sound (AnyOf D) (any_of p)
sound_any_of h = sound_joined (codes "OR") test.Or (sound_joined (codes "AND") test.And h)

sound_member_of : {M B : Cond → List Lexeme → Type 0} {V : Expr → List Lexeme → Type 0} {inner between : Reader Cond} {p : Reader Expr} → Sound M inner → Sound B between → Sound V p → Sound (MemberOf M B V) (member_of inner between p)
sound_member_of f g h =
    sound_branch _ (sound_word (codes "NOT") (λ l k. sound_map test.Not f (λ c ls d. MemberOf.negated k d)))
    (sound_in_place _ (sound_branch _ (sound_weaker (λ c ls d. MemberOf.brackets d) g) (sound_weaker (λ c ls d. MemberOf.tested d) (sound_test h))))

sound_member : (n : ℕ) → Sound (MemberAt n) (member_at n)
unfolding member_at
sound_member zero = sound_member_of (sound_refuse _) (sound_sign (codes "(") (λ l k. sound_refuse _)) (sound_value 0 false)
sound_member (suc n) = sound_member_of (sound_member n) (sound_bracketed (sound_any_of (sound_member n))) (sound_value (suc n) false)

pub sound_condition : Sound IsCondition condition
unfolding condition
sound_condition = sound_weaker (λ c ls d. IsCondition.condition d) (sound_any_of (sound_member most_open))
