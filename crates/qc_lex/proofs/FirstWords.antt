-- The words in front of a text.
use Rattle.std.proofs.Common.{◌≡◌, ℕ, zero, suc, ◌+◌, ◌-◌, Bool, true, false, cond, List, [], ◌∷◌, length, take, drop, Option, Some, None, refl, sym, ap, subst, ◌∙◌}
use Rattle.std.specs.Prelude.{map, codes, not}
use Rattle.std.proofs.lemmas.List.{take_rest}
use Rattle.qc_sql.specs.Database.{Name}
use Rattle.qc_sql.specs.Rules.{same_word}
use Rattle.qc_sql.specs.Tokens.{Front, Lexeme, Word, Quoted, Words, Digits, Sign, Token, Lexed, front, goes_on, lexed, lexed_from}
use Rattle.qc_sql.specs.Tokens as meaning
use Rattle.qc_sql.specs.declared.statements.Head.{Head}
use Rattle.qc_sql.specs.declared.statements.Head.TheVariants as head
use Rattle.qc_sql.specs.Grammar.{head_in, head_of}
use Rattle.qc_lex.specs.declared.token.TokenKind.{TokenKind}
use Rattle.qc_lex.specs.declared.token.TokenKind.TheVariants as kind
use Rattle.qc_lex.specs.Seen.{kind_of}
use Rattle.qc_lex.specs.Fronts.{Shown, Skips, Gives, shown}
use Rattle.qc_lex.specs.Heads.{lexemes_in, leading}
use Rattle.qc_lex.proofs.Meanings.{Reads, front_reads}
use Rattle.qc_lex.proofs.LexLoop.{lexed_at, lexed_first}

-- ---- what tokens are, wherever they stand

abbrev whats : Lexed → List Lexeme
whats all = map (λ t. t.what) all.0

abbrev on_front : Front → (ℕ → List Lexeme) → List Lexeme
on_front meaning.Ends later = []
on_front (meaning.Skips k) later = later k
on_front (meaning.Gives k what) later = what ∷ later k
on_front (meaning.Faults f) later = []

whats_on : (f : Front) (at : ℕ) (later : ℕ → Lexed) → whats (goes_on f at later) ≡ on_front f (λ k. whats (later k))
whats_on meaning.Ends at later = refl
whats_on (meaning.Skips k) at later = refl
whats_on (meaning.Gives k what) at later = refl
whats_on (meaning.Faults f) at later = refl

on_same : (f : Front) (later other : ℕ → List Lexeme) → ((k : ℕ) → later k ≡ other k) → on_front f later ≡ on_front f other
on_same meaning.Ends later other same = refl
on_same (meaning.Skips k) later other same = same k
on_same (meaning.Gives k what) later other same = ap (λ ls. what ∷ ls) (same k)
on_same (meaning.Faults f) later other same = refl

anywhere : (n : ℕ) (ansi : Bool) (at place : ℕ) (text : List ℕ) → whats (lexed_from n ansi at text) ≡ whats (lexed_from n ansi place text)
anywhere zero ansi at place text = refl
anywhere (suc n) ansi at place text =
    whats_on (front ansi text) at (λ k. lexed_from n ansi (at + k) (drop k text))
    ∙ on_same (front ansi text) (λ k. whats (lexed_from n ansi (at + k) (drop k text))) (λ k. whats (lexed_from n ansi (place + k) (drop k text)))
    (λ k. anywhere n ansi (at + k) (place + k) (drop k text))
    ∙ sym (whats_on (front ansi text) place (λ k. lexed_from n ansi (place + k) (drop k text)))

pub lexemes_first : (text : List ℕ) → lexemes_in text ≡ on_front (front false text) (λ k. lexemes_in (drop k text))
unfolding lexed
lexemes_first text =
    ap whats (lexed_first false 0 text)
    ∙ whats_on (front false text) 0 (λ k. lexed_at false (0 + k) (drop k text))
    ∙ on_same (front false text) (λ k. whats (lexed_at false (0 + k) (drop k text))) (λ k. lexemes_in (drop k text))
    (λ k. anywhere (length (drop k text) + 1) false (0 + k) 0 (drop k text))

-- ---- the first word

abbrev Skipped : Shown → List ℕ → List Lexeme → Type 0
Skipped (Skips k) text ls = ls ≡ lexemes_in (drop k text)
Skipped f text ls = Unit {0}

skipped_by : (f : Front) (text : List ℕ) → Skipped (shown f) text (on_front f (λ k. lexemes_in (drop k text)))
skipped_by meaning.Ends text = tt
skipped_by (meaning.Skips k) text = refl
skipped_by (meaning.Gives k what) text = tt
skipped_by (meaning.Faults f) text = tt

pub skipped : (k : ℕ) (rest : List ℕ) (total : List Lexeme) → Skips k ≡ shown (front false rest) → lexemes_in rest ≡ total → lexemes_in (take (length rest - k) (drop k rest)) ≡ total
skipped k rest total e so_far =
    let there : Skipped (Skips k) rest (on_front (front false rest) (λ j. lexemes_in (drop j rest))) = subst (λ f. Skipped f rest (on_front (front false rest) (λ j. lexemes_in (drop j rest)))) (sym e) (skipped_by (front false rest) rest) in
    rw (take_rest rest k) (sym there ∙ sym (lexemes_first rest) ∙ so_far)

-- what a front gives, by its kind
abbrev pub ByKind : TokenKind → ℕ → List ℕ → List Lexeme → Type 0
ByKind kind.Word k text ls = ls ≡ Word (take k text) ∷ lexemes_in (drop k text)
ByKind other k text ls = leading ls ≡ None

abbrev pub Led : Shown → List ℕ → List Lexeme → Type 0
Led (Gives k kind) text ls = ByKind kind k text ls
Led (Skips k) text ls = Unit {0}
Led f text ls = leading ls ≡ None

led_token : (what : Lexeme) (k : ℕ) (text : List ℕ) → Reads (meaning.Gives k what) text → ByKind (kind_of what) k text (what ∷ lexemes_in (drop k text))
led_token (Word w) k text h = ap (λ w. Word w ∷ lexemes_in (drop k text)) h
led_token (Quoted w) k text h = refl
led_token (Words w) k text h = refl
led_token (Digits n) k text h = refl
led_token (Sign s) k text h = refl

led_by : (f : Front) (text : List ℕ) → Reads f text → Led (shown f) text (on_front f (λ k. lexemes_in (drop k text)))
led_by meaning.Ends text h = refl
led_by (meaning.Skips k) text h = tt
led_by (meaning.Gives k what) text h = led_token what k text h
led_by (meaning.Faults f) text h = refl

pub led : (f : Shown) (rest : List ℕ) → f ≡ shown (front false rest) → Led f rest (lexemes_in rest)
led f rest e =
    subst (Led f rest) (sym (lexemes_first rest))
    (subst (λ f. Led f rest (on_front (front false rest) (λ j. lexemes_in (drop j rest)))) (sym e) (led_by (front false rest) rest (front_reads false rest)))

-- ---- the head

abbrev pub second_of : Option Name → Head
second_of None = head.Bare
second_of (Some w) = cond (same_word (codes "SQL_CACHE") w) head.Cache (cond (same_word (codes "SQL_NO_CACHE") w) head.NoCache head.Bare)

abbrev pub first_of_two : Option Name → Option Name → Head
first_of_two None second = head.NotSelect
first_of_two (Some w) second = cond (not (same_word (codes "SELECT") w)) head.NotSelect (second_of second)

abbrev behind : List Lexeme → List Lexeme
behind [] = []
behind (l ∷ ls) = ls

abbrev is_select : Name → Bool
is_select w = same_word (codes "SELECT") w

head_by : (ts : List Token) → head_in ts ≡ first_of_two (leading (map (λ t. t.what) ts)) (leading (behind (map (λ t. t.what) ts)))
head_by [] = refl
head_by (t ∷ ts) = by t.what ts
  where
    by : (l : Lexeme) (ts : List Token) → head_in (record { what = l; from = t.from; to = t.to } ∷ ts) ≡ first_of_two (leading (l ∷ map (λ t. t.what) ts)) (leading (map (λ t. t.what) ts))
    by (Word w) [] = refl
    by (Word w) (u ∷ us) = next u.what us
      where
        next : (l : Lexeme) (us : List Token)
            → head_in (record { what = Word w; from = t.from; to = t.to } ∷ record { what = l; from = u.from; to = u.to } ∷ us) ≡ first_of_two (Some w) (leading (l ∷ map (λ t. t.what) us))
        next (Word v) us = refl
        next (Quoted v) us = refl
        next (Words v) us = refl
        next (Digits n) us = refl
        next (Sign v) us = refl
    by (Quoted w) ts = refl
    by (Words w) ts = refl
    by (Digits n) ts = refl
    by (Sign w) ts = refl

pub head_is : (text : List ℕ) → head_of text ≡ first_of_two (leading (lexemes_in text)) (leading (behind (lexemes_in text)))
unfolding head_of
head_is text = head_by (lexed text false).0

pub not_word : (text : List ℕ) → leading (lexemes_in text) ≡ None → head.NotSelect ≡ head_of text
not_word text e = sym (head_is text ∙ ap (λ w. first_of_two w (leading (behind (lexemes_in text)))) e)

module _ (text first later : List ℕ) (e : lexemes_in text ≡ Word first ∷ lexemes_in later) where
  word_first : head_of text ≡ first_of_two (Some first) (leading (lexemes_in later))
  word_first = head_is text ∙ ap (λ ls. first_of_two (leading ls) (leading (behind ls))) e

  pub not_select : false ≡ same_word (codes "SELECT") first → head.NotSelect ≡ head_of text
  not_select h = sym (word_first ∙ ap (λ t. cond (not t) head.NotSelect (second_of (leading (lexemes_in later)))) (sym h))

  pub select : true ≡ same_word (codes "SELECT") first → head_of text ≡ second_of (leading (lexemes_in later))
  select h = word_first ∙ ap (λ t. cond (not t) head.NotSelect (second_of (leading (lexemes_in later)))) (sym h)

pub second_word : (text word later : List ℕ) → lexemes_in text ≡ Word word ∷ lexemes_in later → second_of (leading (lexemes_in text)) ≡ second_of (Some word)
second_word text word later e = ap (λ ls. second_of (leading ls)) e

-- no kind but a word's leads
pub led_none : (other : TokenKind) (k : ℕ) (text : List ℕ) (ls : List Lexeme) → (other ≡ kind.Word → ⊥) → ByKind other k text ls → leading ls ≡ None
led_none kind.Word k text ls n h = absurd (n refl)
led_none kind.QuotedName k text ls n h = h
led_none kind.Text k text ls n h = h
led_none kind.Number k text ls n h = h
led_none kind.Sign k text ls n h = h

pub word_there : (k : ℕ) (other : TokenKind) (rest : List ℕ) (total : List Lexeme) → other ≡ kind.Word → Gives k other ≡ shown (front false rest) → lexemes_in rest ≡ total
    → total ≡ Word (take k rest) ∷ lexemes_in (take (length rest - k) (drop k rest))
word_there k other rest total is e so_far =
    rw (take_rest rest k) (sym so_far ∙ subst (λ (a : TokenKind). ByKind a k rest (lexemes_in rest)) is (led (Gives k other) rest e))
