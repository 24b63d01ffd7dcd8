-- Two texts with the same tokens have the same meaning.
use Rattle.std.proofs.Common.{◌≡◌, ℕ, zero, suc, Bool, true, false, cond, List, [], ◌∷◌, length, drop, Option, Some, None, Result, Ok, Err, refl, sym, subst, ap, ◌∙◌}
use Rattle.std.proofs.lemmas.List.{length-map}
use Rattle.std.specs.Prelude.{◌&&◌, codes, nat_le, is_some, option_map}
use Rattle.qc_sql.specs.declared.statements.Item.{Item}
use Rattle.qc_sql.specs.declared.statements.Expr.{Expr}
use Rattle.qc_sql.specs.declared.statements.Statement.{Statement}
use Rattle.qc_sql.specs.Tokens.{Lexeme, Token, LexFault, BadByte, OpenQuote, OpenComment, NumberTooLarge, TextTooLong, LongName, Executable, Lexed, lexed, lexemes}
use Rattle.qc_sql.specs.Reading.{ParseFault, Syntax, Unsupported, TooManyTables, of_lexer, Unread, Stop, Before, Refused, Reader, pure, then_read, ◌>>=◌, stop, read_as, read_first, next, next_is, branch, at_most, many, separated, with_word, with_words, in_place_of_syntax, at_word}
use Rattle.qc_sql.specs.Grammar.{value_at, most_open, alias, item, spanned, span_text, place, token_place, look, any_text, whole, unsupported_at, fault_before, end_fault, statement_of, from_front, meaning}
use Rattle.qc_parse.specs.Laws.{kind, fault_place, end_place, place_of, SameMeaning, TokensDecide}
use Rattle.qc_parse.proofs.Congruence.{Congruence, next_two, Sees, sees_next, Each, SameItem, SameTree, good_text}

-- ---- lists

pub rest_of : {A : Type 0} (i : ℕ) (xs : List A) (y : A) (ys : List A) → drop i xs ≡ y ∷ ys → drop (suc i) xs ≡ ys
rest_of zero [] y ys e = absurd cc
rest_of zero (x ∷ xs) y ys e = cc
rest_of (suc i) [] y ys e = absurd cc
rest_of (suc i) (x ∷ xs) y ys e = rest_of i xs y ys e

two_alike : (ts us : List Token) → lexemes ts ≡ lexemes us → next_two ts ≡ next_two us
two_alike [] [] e = refl
two_alike [] (u ∷ us) e = absurd cc
two_alike (t ∷ ts) [] e = absurd cc
two_alike (t ∷ []) (u ∷ []) e = e
two_alike (t ∷ []) (u ∷ v ∷ us) e = absurd cc
two_alike (t ∷ s ∷ ts) (u ∷ []) e = absurd cc
two_alike (t ∷ s ∷ ts) (u ∷ v ∷ us) e = cc

pub length_alike : (ts us : List Token) → lexemes ts ≡ lexemes us → length ts ≡ length us
length_alike ts us e = sym (length-map ts (λ t. t.what)) ∙ ap length e ∙ length-map us (λ t. t.what)

some_alike : (f g : Option LexFault) → option_map kind f ≡ option_map kind g → is_some f ≡ is_some g
some_alike None None e = refl
some_alike None (Some g) e = absurd cc
some_alike (Some f) None e = absurd cc
some_alike (Some f) (Some g) e = refl

-- the same refusal, that has no place
abbrev pub SameRefusal : ParseFault → ParseFault → Type 0
SameRefusal (Unsupported what) (Unsupported that) = what ≡ that
SameRefusal TooManyTables TooManyTables = Unit {0}
SameRefusal _ _ = ⊥

module _ (a b : List ℕ) (all those : Lexed) where
  -- at tokens that are alike
  pub record Alike (u v : Unread) : Type 0 where
    pub passed : ℕ
    pub first : u.tokens ≡ drop passed all.0
    pub second : v.tokens ≡ drop passed those.0
    pub first_text : u.text ≡ a
    pub second_text : v.text ≡ b
    pub first_fault : u.fault ≡ all.1
    pub second_fault : v.fault ≡ those.1
    pub lexemes_alike : lexemes u.tokens ≡ lexemes v.tokens
    pub faults_alike : option_map kind u.fault ≡ option_map kind v.fault

  abbrev pub AlikeResult : {A : Type 0} → (A → A → Type 0) → Result (A × Unread) Stop → Result (A × Unread) Stop → Type 0
  AlikeResult R (Ok x) (Ok y) = R x.0 y.0 × Alike x.1 y.1
  AlikeResult R (Err (Before u)) (Err (Before v)) = Alike u v
  AlikeResult R (Err (Refused f)) (Err (Refused g)) = SameRefusal f g
  AlikeResult R _ _ = ⊥

  abbrev pub Steady : {A : Type 0} → (A → A → Type 0) → Reader A → Reader A → Type 0
  Steady R p q = (u v : Unread) → Alike u v → AlikeResult R (p u) (q v)

  weaker_result : {A : Type 0} {R S : A → A → Type 0} → ((x y : A) → R x y → S x y) → (r s : Result (A × Unread) Stop) → AlikeResult R r s → AlikeResult S r s
  weaker_result k (Ok x) (Ok y) h = (k x.0 y.0 h.0, h.1)
  weaker_result k (Ok x) (Err e) h = absurd h
  weaker_result k (Err (Before u)) (Ok y) h = absurd h
  weaker_result k (Err (Before u)) (Err (Before v)) h = h
  weaker_result k (Err (Before u)) (Err (Refused g)) h = absurd h
  weaker_result k (Err (Refused f)) (Ok y) h = absurd h
  weaker_result k (Err (Refused f)) (Err (Before v)) h = absurd h
  weaker_result k (Err (Refused f)) (Err (Refused g)) h = h

  then_result : {A B : Type 0} {R : A → A → Type 0} (S : B → B → Type 0) (r s : Result (A × Unread) Stop) (f g : A → Reader B)
      → AlikeResult R r s → ((x y : A) → R x y → Steady S (f x) (g y)) → AlikeResult S (then_read r f) (then_read s g)
  then_result S (Ok x) (Ok y) f g h k = k x.0 y.0 h.0 x.1 y.1 h.1
  then_result S (Ok x) (Err e) f g h k = absurd h
  then_result S (Err (Before u)) (Ok y) f g h k = absurd h
  then_result S (Err (Before u)) (Err (Before v)) f g h k = h
  then_result S (Err (Before u)) (Err (Refused d)) f g h k = absurd h
  then_result S (Err (Refused c)) (Ok y) f g h k = absurd h
  then_result S (Err (Refused c)) (Err (Before v)) f g h k = absurd h
  then_result S (Err (Refused c)) (Err (Refused d)) f g h k = h

  steady_then : {A B : Type 0} {R : A → A → Type 0} (S : B → B → Type 0) (p q : Reader A) (f g : A → Reader B)
      → Steady R p q → ((x y : A) → R x y → Steady S (f x) (g y)) → Steady S (p >>= f) (q >>= g)
  steady_then S p q f g h k u v near = then_result S (p u) (q v) f g (h u v near) k

  read_alike : {A : Type 0} (u v : Unread) (near : Alike u v) (t s : Token) (ts ss : List Token) → u.tokens ≡ t ∷ ts → v.tokens ≡ s ∷ ss → (x : Option A)
      → AlikeResult ◌≡◌ (read_as u t ts x) (read_as v s ss x)
  read_alike u v near t s ts ss e d None = near
  read_alike u v near t s ts ss e d (Some x) = (
    refl,
    record {
      passed = suc near.passed;
      first = sym (rest_of near.passed all.0 t ts (sym near.first ∙ e));
      second = sym (rest_of near.passed those.0 s ss (sym near.second ∙ d));
      first_text = near.first_text;
      second_text = near.second_text;
      first_fault = near.first_fault;
      second_fault = near.second_fault;
      lexemes_alike = (let k : t.what ∷ lexemes ts ≡ s.what ∷ lexemes ss = ap lexemes (sym e) ∙ near.lexemes_alike ∙ ap lexemes d in cc);
      faults_alike = near.faults_alike;
    },
  )

  first_alike : {A : Type 0} (f : Lexeme → Option A) (u v : Unread) (near : Alike u v) (ts ss : List Token) → u.tokens ≡ ts → v.tokens ≡ ss → lexemes ts ≡ lexemes ss
      → AlikeResult ◌≡◌ (read_first f u ts) (read_first f v ss)
  first_alike f u v near [] [] e d h = near
  first_alike f u v near [] (s ∷ ss) e d h = absurd cc
  first_alike f u v near (t ∷ ts) [] e d h = absurd cc
  first_alike f u v near (t ∷ ts) (s ∷ ss) e d h =
      let same : t.what ≡ s.what = cc in
      subst (λ l. AlikeResult ◌≡◌ (read_as u t ts (f t.what)) (read_as v s ss (f l))) same (read_alike u v near t s ts ss e d (f t.what))

  chosen_alike : {A : Type 0} (R : A → A → Type 0) (c : Bool) (r s r' s' : Result (A × Unread) Stop) → AlikeResult R r s → AlikeResult R r' s' → AlikeResult R (cond c r r') (cond c s s')
  chosen_alike R true r s r' s' h g = h
  chosen_alike R false r s r' s' h g = g

  steady_branch : {A : Type 0} (R : A → A → Type 0) (test : Unread → Bool) (p p' q q' : Reader A) → Sees test → Steady R p q → Steady R p' q' → Steady R (branch test p p') (branch test q q')
  steady_branch R test p p' q q' sees h g u v near =
      subst (λ c. AlikeResult R (branch test p p' u) (cond c (q v) (q' v))) (sees u v (two_alike u.tokens v.tokens near.lexemes_alike))
      (chosen_alike R (test u) (p u) (q v) (p' u) (q' v) (h u v near) (g u v near))

  worded : {A : Type 0} (R : A → A → Type 0) (u v : Unread) → Alike u v → (w : Option (List ℕ)) → AlikeResult R (Err (with_word w u)) (Err (with_word w v))
  worded R u v near None = near
  worded R u v near (Some what) = refl

  place_result : {A : Type 0} (R : A → A → Type 0) {f : Unread → Option (List ℕ)} → Sees f → (r s : Result (A × Unread) Stop) → AlikeResult R r s → AlikeResult R (with_words f r) (with_words f s)
  place_result R sees (Ok x) (Ok y) h = h
  place_result R sees (Ok x) (Err e) h = absurd h
  place_result R sees (Err (Before u)) (Ok y) h = absurd h
  place_result R {f = f} sees (Err (Before u)) (Err (Before v)) h =
      subst (λ w. AlikeResult R (Err (with_word (f u) u)) (Err (with_word w v))) (sees u v (two_alike u.tokens v.tokens h.lexemes_alike)) (worded R u v h (f u))
  place_result R sees (Err (Before u)) (Err (Refused d)) h = absurd h
  place_result R sees (Err (Refused c)) (Ok y) h = absurd h
  place_result R sees (Err (Refused c)) (Err (Before v)) h = absurd h
  place_result R sees (Err (Refused c)) (Err (Refused d)) h = h

  steady_at_most : {A : Type 0} (R : A → A → Type 0) (n : ℕ) (f : Lexeme → Bool) (p q : Reader A) → Steady R p q → Steady (Each R) (at_most n (next_is f) p) (at_most n (next_is f) q)
  steady_at_most R zero f p q h = λ u v near. (tt, near)
  steady_at_most {A = A} R (suc n) f p q h =
      steady_branch (Each R) (next_is f) (p >>= λ x. at_most n (next_is f) p >>= λ xs. pure (x ∷ xs)) (pure []) (q >>= λ x. at_most n (next_is f) q >>= λ xs. pure (x ∷ xs)) (pure []) (sees_next f)
      (steady_then (Each R) p q (λ x. at_most n (next_is f) p >>= λ xs. pure (x ∷ xs)) (λ x. at_most n (next_is f) q >>= λ xs. pure (x ∷ xs)) h (λ x y e.
      steady_then (Each R) (at_most n (next_is f) p) (at_most n (next_is f) q) (λ xs. pure (x ∷ xs)) (λ xs. pure (y ∷ xs)) (steady_at_most R n f p q h) (λ xs ys es u v near. ((e, es), near))))
      (λ u v near. (tt, near))

  steady_many : {A : Type 0} (R : A → A → Type 0) (f : Lexeme → Bool) (p q : Reader A) → Steady R p q → Steady (Each R) (many (next_is f) p) (many (next_is f) q)
  steady_many R f p q h u v near =
      subst (λ n. AlikeResult (Each R) (many (next_is f) p u) (at_most n (next_is f) q v)) (length_alike u.tokens v.tokens near.lexemes_alike)
      (steady_at_most R (length u.tokens) f p q h u v near)

  steady_next : (f : Lexeme → Bool) → Steady ◌≡◌ (next f) (next f)
  steady_next f u v near = first_alike _ u v near u.tokens v.tokens refl refl near.lexemes_alike

  steady_separated : {A : Type 0} (R : A → A → Type 0) (f : Lexeme → Bool) (p q : Reader A) → Steady R p q
      → Steady (Each R) (separated (next_is f) (next f) p) (separated (next_is f) (next f) q)
  steady_separated R f p q h =
      steady_then (Each R) p q (λ x. many (next_is f) (next f >>= λ _. p) >>= λ xs. pure (x ∷ xs)) (λ x. many (next_is f) (next f >>= λ _. q) >>= λ xs. pure (x ∷ xs)) h (λ x y e.
      steady_then (Each R) (many (next_is f) (next f >>= λ _. p)) (many (next_is f) (next f >>= λ _. q)) (λ xs. pure (x ∷ xs)) (λ xs. pure (y ∷ xs))
      (steady_many R f (next f >>= λ _. p) (next f >>= λ _. q) (steady_then R (next f) (next f) (λ _. p) (λ _. q) (steady_next f) (λ _ _ _. h))) (λ xs ys es u v near. ((e, es), near)))

  steady_look : Steady ◌≡◌ look look
  unfolding look
  steady_look u v near =
      let e : (is_some u.fault && nat_le (length u.tokens) 0) ≡ (is_some v.fault && nat_le (length v.tokens) 0) =
      (let d = some_alike u.fault v.fault near.faults_alike in let c = length_alike u.tokens v.tokens near.lexemes_alike in cc) in
      subst (λ c. AlikeResult ◌≡◌ (look u) (cond c (stop v) (pure tt v))) e
      (chosen_alike ◌≡◌ (is_some u.fault && nat_le (length u.tokens) 0) (stop u) (stop v) (pure tt u) (pure tt v) near (refl, near))

  -- an item whose value is the first of the three, from the second place to the third
  abbrev item_of : List ℕ → Expr × ℕ × ℕ → Reader Item
  item_of text v = alias >>= λ n. pure (record { value = v.0; name = n; from = v.1; to = v.2; words = span_text v.1 v.2 text })

  steady_item : Steady ◌≡◌ (value_at most_open true) (value_at most_open true) → Steady ◌≡◌ alias alias → Steady SameItem item item
  unfolding item
  steady_item h g u v near =
      then_result SameItem (spanned (value_at most_open true) u) (spanned (value_at most_open true) v) (item_of u.text) (item_of v.text)
      (then_result (λ x y. x.0 ≡ y.0) (value_at most_open true u) (value_at most_open true v)
      (λ e rest. Ok ((e, place u, rest.behind), rest)) (λ e rest. Ok ((e, place v, rest.behind), rest)) (h u v near) (λ x y e w z close. (e, close)))
      (λ x y e. steady_then SameItem alias alias
      (λ n. pure (record { value = x.0; name = n; from = x.1; to = x.2; words = span_text x.1 x.2 u.text }))
      (λ n. pure (record { value = y.0; name = n; from = y.1; to = y.2; words = span_text y.1 y.2 v.text })) g
      (λ n m d w z close. ((λ i. record { value = e i; name = d i; from = 0; to = 0; words = [] }), close)))

  steadiness : Congruence
  steadiness = record {
    Good = Steady;
    weaker = λ {p = p} {q = q} k h u v near. weaker_result k (p u) (q v) (h u v near);
    gives = λ h u v near. (h, near);
    stops = λ u v near. near;
    refuses = λ what u v near. refl;
    refuses_tables = λ u v near. tt;
    reads_same = λ f u v near. first_alike f u v near u.tokens v.tokens refl refl near.lexemes_alike;
    goes_on = λ {S = S} {p = p} {q = q} {f = f} {g = g} same h k. steady_then S p q f g h k;
    chooses = λ {R = R} {test = test} {p = p} {p' = p'} {q = q} {q' = q'} sees h g. steady_branch R test p p' q q' sees h g;
    in_place = λ {R = R} {p = p} {q = q} sees h u v near. place_result R sees (p u) (q v) (h u v near);
    separates = λ {R = R} {p = p} {q = q} f same h. steady_separated R f p q h;
    looks = steady_look;
    spans = steady_item;
  }

  pub steady_text : Steady SameTree any_text any_text
  unfolding any_text steadiness
  steady_text u v near =
      let rule = λ (t : Bool) (w : Unread). in_place_of_syntax (unsupported_at t) whole w in
      subst (λ t. AlikeResult SameTree (rule (at_word (codes "SELECT") u) u) (rule t v)) (sees_next _ u v (two_alike u.tokens v.tokens near.lexemes_alike))
      (good_text steadiness (at_word (codes "SELECT") u) u v near)

-- ---- refusals at the end

abbrev is_executable : LexFault → Bool
is_executable (Executable at) = true
is_executable _ = false

abbrev fault_at : Bool → ℕ → ParseFault
fault_at true at = Unsupported (codes "executable comment")
fault_at false at = Syntax at

as_kind : (f : LexFault) → of_lexer f ≡ fault_at (is_executable (kind f)) (fault_place f)
as_kind (BadByte at) = refl
as_kind (OpenQuote at) = refl
as_kind (OpenComment at) = refl
as_kind (NumberTooLarge at) = refl
as_kind (TextTooLong at) = refl
as_kind (LongName at) = refl
as_kind (Executable at) = refl

module _ (ansi : Bool) (a b : List ℕ) where
  at_places : (executable : Bool) (at there i : ℕ) → at ≡ place_of ansi a i → there ≡ place_of ansi b i → SameMeaning ansi a b (Err (fault_at executable at)) (Err (fault_at executable there))
  at_places true at there i e d = refl
  at_places false at there i e d = (i, e, d)

  ended : (i m n : ℕ) (f g : Option LexFault) → option_map kind f ≡ option_map kind g → end_place m f ≡ place_of ansi a i → end_place n g ≡ place_of ansi b i
      → SameMeaning ansi a b (Err (end_fault m f)) (Err (end_fault n g))
  ended i m n None None h e d = (i, e, d)
  ended i m n None (Some g) h e d = absurd cc
  ended i m n (Some f) None h e d = absurd cc
  ended i m n (Some f) (Some g) h e d =
      let same : kind f ≡ kind g = cc in
      rw (as_kind f, as_kind g, same) (at_places (is_executable (kind g)) (fault_place f) (fault_place g) i e d)

  abbrev Near : Unread → Unread → Type 0
  Near = Alike a b (lexed a ansi) (lexed b ansi)

  at_fronts : (u v : Unread) → Near u v → (ts ss : List Token) → u.tokens ≡ ts → v.tokens ≡ ss → SameMeaning ansi a b (Err (fault_before (length a) ts u.fault)) (Err (fault_before (length b) ss v.fault))
  at_fronts u v near [] [] e d =
      ended near.passed (length a) (length b) u.fault v.fault near.faults_alike
      (rw near.first_fault (ap (token_place (end_place (length a) (lexed a ansi).1)) (sym e ∙ near.first)))
      (rw near.second_fault (ap (token_place (end_place (length b) (lexed b ansi).1)) (sym d ∙ near.second)))
  at_fronts u v near [] (s ∷ ss) e d = absurd (let h : [] ≡ s.what ∷ lexemes ss = ap lexemes (sym e) ∙ near.lexemes_alike ∙ ap lexemes d in cc)
  at_fronts u v near (t ∷ ts) [] e d = absurd (let h : t.what ∷ lexemes ts ≡ [] = ap lexemes (sym e) ∙ near.lexemes_alike ∙ ap lexemes d in cc)
  at_fronts u v near (t ∷ ts) (s ∷ ss) e d = (
    near.passed,
    ap (token_place (end_place (length a) (lexed a ansi).1)) (sym e ∙ near.first),
    ap (token_place (end_place (length b) (lexed b ansi).1)) (sym d ∙ near.second),
  )

  same_refusal : (c d : ParseFault) → SameRefusal c d → SameMeaning ansi a b (Err c) (Err d)
  same_refusal (Unsupported what) (Unsupported that) h = h
  same_refusal TooManyTables TooManyTables h = h
  same_refusal (Syntax at) d h = absurd h
  same_refusal (Unsupported what) (Syntax at) h = absurd h
  same_refusal (Unsupported what) TooManyTables h = absurd h
  same_refusal TooManyTables (Syntax at) h = absurd h
  same_refusal TooManyTables (Unsupported what) h = absurd h

  same_meaning : (r s : Result (Statement × Unread) Stop) → AlikeResult a b (lexed a ansi) (lexed b ansi) SameTree r s → SameMeaning ansi a b (statement_of (length a) r) (statement_of (length b) s)
  same_meaning (Ok x) (Ok y) h = h.0
  same_meaning (Ok x) (Err e) h = absurd h
  same_meaning (Err (Before u)) (Ok y) h = absurd h
  same_meaning (Err (Before u)) (Err (Before v)) h = at_fronts u v h u.tokens v.tokens refl refl
  same_meaning (Err (Before u)) (Err (Refused d)) h = absurd h
  same_meaning (Err (Refused c)) (Ok y) h = absurd h
  same_meaning (Err (Refused c)) (Err (Before v)) h = absurd h
  same_meaning (Err (Refused c)) (Err (Refused d)) h = same_refusal c d h

pub tokens_decide : TokensDecide
unfolding meaning
tokens_decide ansi a b h = same_meaning ansi a b _ _
    (steady_text a b (lexed a ansi) (lexed b ansi) (from_front a (lexed a ansi)) (from_front b (lexed b ansi))
    (record { passed = 0; first = refl; second = refl; first_text = refl; second_text = refl; first_fault = refl; second_fault = refl; lexemes_alike = h.0; faults_alike = h.1 }))
