-- Reading tokens from the left: where a reader stands, what it gives or why it stops, and the small readers that the grammar's rules are made of.
use Rattle.std.specs.Prelude.{ℕ, zero, suc, Bool, true, false, List, [], ◌∷◌, length, Option, Some, None, Result, Ok, Err, bytes_eq, codes, if◌then◌else◌, is_some}
use Rattle.std.specs.List.{list_any}
use Rattle.qc_sql.specs.Words.{when}
use Rattle.qc_sql.specs.Database.{Name}
use Rattle.qc_sql.specs.Rules.{same_word}
use Rattle.qc_sql.specs.Tokens.{Lexeme, Word, Quoted, Words, Digits, Sign, Token, LexFault, BadByte, OpenQuote, OpenComment, NumberTooLarge, TextTooLong, LongName, Executable}

-- why a text has no tree
pub data ParseFault : Type 0 where
  Syntax : (at : ℕ) → ParseFault
  Unsupported : (what : List ℕ) → ParseFault
  TooManyTables : ParseFault

abbrev pub of_lexer : LexFault → ParseFault
of_lexer (BadByte at) = Syntax at
of_lexer (OpenQuote at) = Syntax at
of_lexer (OpenComment at) = Syntax at
of_lexer (NumberTooLarge at) = Syntax at
of_lexer (TextTooLong at) = Syntax at
of_lexer (LongName at) = Syntax at
of_lexer (Executable at) = Unsupported (codes "executable comment")

-- where a reader stands in a text: where the token before it ends, the tokens that follow, and the fault at which they end, if they do
pub record Unread : Type 0 where
  pub text : List ℕ
  pub behind : ℕ
  pub tokens : List Token
  pub fault : Option LexFault

-- Why a reader stops: no text of the grammar goes on with the token that is next (or with the end), or something is refused.
pub data Stop : Type 0 where
  Before : (u : Unread) → Stop
  Refused : (fault : ParseFault) → Stop

-- a reader takes tokens and gives what they mean, or stops
abbrev pub Reader : Type 0 → Type 0
Reader A = Unread → Result (A × Unread) Stop

abbrev pub pure : {A : Type 0} → A → Reader A
pure x u = Ok (x, u)

abbrev pub then_read : {A B : Type 0} → Result (A × Unread) Stop → (A → Reader B) → Result (B × Unread) Stop
then_read (Ok x) f = f x.0 x.1
then_read (Err e) f = Err e

infixl 10 ◌>>=◌
abbrev pub ◌>>=◌ : {A B : Type 0} → Reader A → (A → Reader B) → Reader B
(p >>= f) u = then_read (p u) f

abbrev pub stop : {A : Type 0} → Reader A
stop u = Err (Before u)

abbrev pub refuse : {A : Type 0} → List ℕ → Reader A
refuse what u = Err (Refused (Unsupported what))

-- ---- the next token

-- whether there is one that passes
abbrev pub token_is : (Lexeme → Bool) → List Token → Bool
token_is f [] = false
token_is f (t ∷ ts) = f t.what

abbrev pub next_is : (Lexeme → Bool) → Unread → Bool
next_is f u = token_is f u.tokens

-- behind a token
abbrev pub past : Unread → Token → List Token → Unread
past u t ts = record { text = u.text; behind = t.to; tokens = ts; fault = u.fault }

-- a token that is something, read as that
abbrev pub read_as : {A : Type 0} → Unread → Token → List Token → Option A → Result (A × Unread) Stop
read_as u t ts None = Err (Before u)
read_as u t ts (Some x) = Ok (x, past u t ts)

abbrev pub read_first : {A : Type 0} → (Lexeme → Option A) → Unread → List Token → Result (A × Unread) Stop
read_first f u [] = Err (Before u)
read_first f u (t ∷ ts) = read_as u t ts (f t.what)

abbrev pub reads : {A : Type 0} → (Lexeme → Option A) → Reader A
reads f u = read_first f u u.tokens

-- whether there is one, whatever it is
abbrev pub at_token : Unread → Bool
at_token u = next_is (λ l. true) u

-- whatever token is next
abbrev pub refuse_any : {A : Type 0} → List ℕ → Reader A
refuse_any what u = if at_token u then refuse what u else stop u

abbrev pub is_word : Name → Lexeme → Bool
is_word w (Word bytes) = same_word w bytes
is_word w _ = false

abbrev pub is_sign : List ℕ → Lexeme → Bool
is_sign s (Sign bytes) = bytes_eq s bytes
is_sign s _ = false

abbrev pub next : (Lexeme → Bool) → Reader (Unit {0})
next f = reads (λ l. when (f l) tt)

abbrev pub at_word : Name → Unread → Bool
at_word w u = next_is (is_word w) u

abbrev pub at_sign : List ℕ → Unread → Bool
at_sign s u = next_is (is_sign s) u

abbrev pub word : Name → Reader (Unit {0})
word w = next (is_word w)

abbrev pub sign : List ℕ → Reader (Unit {0})
sign s = next (is_sign s)

-- ---- choices and lists

-- one reader where a test holds, and else the other
abbrev pub branch : {A : Type 0} → (Unread → Bool) → Reader A → Reader A → Reader A
branch test p q u = if test u then p u else q u

abbrev pub optional : {A : Type 0} → (Unread → Bool) → Reader A → Reader (Option A)
optional test p = branch test (p >>= λ x. pure (Some x)) (pure None)

-- whether the word was there, which is then passed
abbrev pub passed : Name → Reader Bool
passed w = branch (at_word w) (word w >>= λ _. pure true) (pure false)

-- one after another as long as the test holds, at most n
abbrev pub at_most : {A : Type 0} → ℕ → (Unread → Bool) → Reader A → Reader (List A)
at_most zero test p = pure []
at_most (suc n) test p = branch test (p >>= λ x. at_most n test p >>= λ xs. pure (x ∷ xs)) (pure [])

-- One after another as long as the test holds. Each takes a token at least, so there are no more of them than tokens.
abbrev pub many : {A : Type 0} → (Unread → Bool) → Reader A → Reader (List A)
many test p u = at_most (length u.tokens) test p u

-- one or more, with something between each two by which the test tells that another follows
abbrev pub separated : {A : Type 0} → (Unread → Bool) → Reader (Unit {0}) → Reader A → Reader (List A)
separated test between p = p >>= λ x. many test (between >>= λ _. p) >>= λ xs. pure (x ∷ xs)

abbrev pub listed : {A : Type 0} → Reader A → Reader (List A)
listed p = separated (at_sign (codes ",")) (sign (codes ",")) p

-- an opening bracket, with no SELECT behind it
unfoldable pub opened : Reader (Unit {0})
opened = sign (codes "(") >>= λ _. branch (at_word (codes "SELECT")) (refuse (codes "subquery")) (pure tt)

-- what stands in brackets, when the closing one is taken
abbrev pub closes : {A : Type 0} → A → Reader A
closes x = sign (codes ")") >>= λ _. pure x

abbrev pub bracketed : {A : Type 0} → Reader A → Reader A
bracketed p = opened >>= λ _. p >>= closes

-- ---- what isn't supported, in place of a syntax error

abbrev pub with_word : Option (List ℕ) → Unread → Stop
with_word None u = Before u
with_word (Some what) u = Refused (Unsupported what)

-- a stop before tokens for which f has a word is Unsupported with that word
abbrev pub with_words : {A : Type 0} → (Unread → Option (List ℕ)) → Result A Stop → Result A Stop
with_words f (Ok x) = Ok x
with_words f (Err (Before u)) = Err (with_word (f u) u)
with_words f (Err (Refused fault)) = Err (Refused fault)

abbrev pub in_place_of_syntax : {A : Type 0} → (Unread → Option (List ℕ)) → Reader A → Reader A
in_place_of_syntax f p u = with_words f (p u)

-- ---- names, numbers and texts

-- the words that can't be names
abbrev pub reserved : List Name
reserved =
    codes "SELECT" ∷ codes "SQL_CACHE" ∷ codes "SQL_NO_CACHE" ∷ codes "FROM" ∷ codes "WHERE" ∷ codes "ORDER" ∷ codes "BY" ∷ codes "LIMIT" ∷ codes "OFFSET"
    ∷ codes "AS" ∷ codes "AND" ∷ codes "OR" ∷ codes "NOT" ∷ codes "IS" ∷ codes "NULL" ∷ codes "IN" ∷ codes "BETWEEN" ∷ codes "ASC" ∷ codes "DESC" ∷ codes "FOR"
    ∷ codes "LOCK" ∷ codes "JOIN" ∷ codes "INNER" ∷ codes "LEFT" ∷ codes "RIGHT" ∷ codes "CROSS" ∷ codes "NATURAL" ∷ codes "ON" ∷ codes "INSERT" ∷ codes "INTO"
    ∷ codes "VALUES" ∷ codes "UPDATE" ∷ codes "SET" ∷ codes "DELETE" ∷ codes "TRUNCATE" ∷ codes "CREATE" ∷ codes "DROP" ∷ codes "TABLE" ∷ codes "DATABASE"
    ∷ codes "PRIMARY" ∷ codes "KEY" ∷ codes "UNION" ∷ codes "GROUP" ∷ codes "HAVING" ∷ codes "DISTINCT" ∷ codes "EXISTS" ∷ codes "LIKE" ∷ codes "ALTER"
    ∷ codes "USE" ∷ codes "SHOW" ∷ []

abbrev pub is_among : List Name → Name → Bool
is_among words w = list_any (same_word w) words

unfoldable pub is_reserved : Name → Bool
is_reserved w = is_among reserved w

abbrev pub name_in : Lexeme → Option Name
name_in (Word w) = if is_reserved w then None else Some w
name_in (Quoted w) = Some w
name_in _ = None

abbrev pub digits_in : Lexeme → Option ℕ
digits_in (Digits n) = Some n
digits_in _ = None

abbrev pub words_in : Lexeme → Option (List ℕ)
words_in (Words t) = Some t
words_in _ = None

abbrev pub word_in : Lexeme → Option Name
word_in (Word w) = Some w
word_in _ = None

abbrev pub name : Reader Name
name = reads name_in

abbrev pub number : Reader ℕ
number = reads digits_in

abbrev pub words : Reader (List ℕ)
words = reads words_in

abbrev pub any_word : Reader Name
any_word = reads word_in

abbrev pub at_name : Unread → Bool
at_name = next_is (λ l. is_some (name_in l))

abbrev pub at_number : Unread → Bool
at_number = next_is (λ l. is_some (digits_in l))

abbrev pub at_words : Unread → Bool
at_words = next_is (λ l. is_some (words_in l))
