-- The next token, by what stands in front.
use Rattle.std.proofs.Common.{◌≡◌, ℕ, ◌+◌, ◌-◌, ◌≤◌, Bool, List, [], length, take, drop, Some, None, refl, sym, ap, ◌∙◌, subst, arith}
use Rattle.std.specs.Prelude.{unwrap_or}
use Rattle.std.proofs.lemmas.List.{take_rest, drop-drop}
use Rattle.qc_sql.specs.Tokens.{Front, Lexed, LexFault, front, goes_on, with_token}
use Rattle.qc_sql.specs.Tokens as meaning
use Rattle.qc_lex.specs.declared.token.TokenKind.{TokenKind}
use Rattle.qc_lex.specs.declared.front.Fault.{Fault}
use Rattle.qc_lex.specs.declared.front.Fault.TheVariants as told
use Rattle.qc_lex.specs.Seen.{kind_of, refusal_of}
use Rattle.qc_lex.specs.Fronts.{Shown, Ends, Skips, Gives, Faults, shown, fault_of}
use Rattle.qc_lex.specs.Laws.{Means}
use Rattle.qc_lex.specs.declared.ahead.Lexeme as declared
use Rattle.qc_lex.specs.Ahead.{lexeme_of, fault, Borrows}
use Rattle.qc_lex.proofs.Meanings.{Reads, front_reads}
use Rattle.qc_lex.proofs.LexLoop.{lexed_at, lexed_first}

-- a token is what its kind says by its bytes
means_lexeme : (w : meaning.Lexeme) (bytes : List ℕ) → Means w bytes → w ≡ lexeme_of (kind_of w) bytes
means_lexeme (meaning.Word w) bytes h = ap meaning.Word h
means_lexeme (meaning.Quoted w) bytes h = ap (λ x. meaning.Quoted (unwrap_or x [])) (sym h)
means_lexeme (meaning.Words w) bytes h = ap (λ x. meaning.Words (unwrap_or x [])) (sym h)
means_lexeme (meaning.Digits n) bytes h = ap (λ x. meaning.Digits (unwrap_or x 0)) (sym h)
means_lexeme (meaning.Sign s) bytes h = ap meaning.Sign h

-- what is left where this stands in front
abbrev Goes : Shown → ℕ → List ℕ → (ℕ → Lexed) → Lexed → Type 0
Goes Ends at text later all = all ≡ ([], None)
Goes (Skips k) at text later all = all ≡ later k
Goes (Gives k kind) at text later all = all ≡ with_token (record { what = lexeme_of kind (take k text); from = at; to = at + k }) (later k)
Goes (Faults f) at text later all = all ≡ ([], Some (f at))

goes : (f : Front) (at : ℕ) (text : List ℕ) (later : ℕ → Lexed) → Reads f text → Goes (shown f) at text later (goes_on f at later)
goes meaning.Ends at text later h = refl
goes (meaning.Skips k) at text later h = refl
goes (meaning.Gives k w) at text later h = ap (λ w. with_token (record { what = w; from = at; to = at + k }) (later k)) (means_lexeme w (take k text) h)
goes (meaning.Faults f) at text later h = refl

module _ (ansi : Bool) (at : ℕ) (text : List ℕ) where
  abbrev later : ℕ → Lexed
  later k = lexed_at ansi (at + k) (take (length text - k) (drop k text))

  later_is : (k : ℕ) → lexed_at ansi (at + k) (drop k text) ≡ later k
  later_is k = ap (lexed_at ansi (at + k)) (sym (take_rest text k))

  goes_at : (f : Shown) → f ≡ shown (front ansi text) → Goes f at text (λ k. lexed_at ansi (at + k) (drop k text)) (lexed_at ansi at text)
  goes_at f e = rw (e, lexed_first ansi at text) (goes (front ansi text) at text (λ k. lexed_at ansi (at + k) (drop k text)) (front_reads ansi text))

  pub ended : Ends ≡ shown (front ansi text) → lexed_at ansi at text ≡ ([], None)
  ended e = goes_at Ends e

  pub skipped : (k : ℕ) → Skips k ≡ shown (front ansi text) → lexed_at ansi at text ≡ later k
  skipped k e = goes_at (Skips k) e ∙ later_is k

  pub given : (k : ℕ) (kind : TokenKind) (w : meaning.Lexeme) → Gives k kind ≡ shown (front ansi text) → w ≡ lexeme_of kind (take k text)
      → lexed_at ansi at text ≡ with_token (record { what = w; from = at; to = at + k }) (later k)
  given k kind w e is =
      goes_at (Gives k kind) e
      ∙ ap (λ w. with_token (record { what = w; from = at; to = at + k }) (lexed_at ansi (at + k) (drop k text))) (sym is)
      ∙ ap (with_token (record { what = w; from = at; to = at + k })) (later_is k)

  pub faulted : (f : Fault) → Faults (fault_of f) ≡ shown (front ansi text) → lexed_at ansi at text ≡ ([], Some (fault (refusal_of (fault_of f at))))
  faulted f e = goes_at (Faults (fault_of f)) e ∙ ap (λ x. ([], Some x)) (same f)
    where
      same : (f : Fault) → fault_of f at ≡ fault (refusal_of (fault_of f at))
      same told.BadByte = refl
      same told.OpenQuote = refl
      same told.OpenComment = refl
      same told.NumberTooLarge = refl
      same told.TextTooLong = refl
      same told.LongName = refl
      same told.Executable = refl

-- ---- where the bytes stand

pub from_front : (at : ℕ) (text : List ℕ) → text ≡ drop (at - at) text
from_front at text = let none : at - at ≡ 0 = omega arith in rw none refl

pub farther : (at start k : ℕ) (text rest : List ℕ) → start ≤ at → rest ≡ drop (at - start) text → take (length rest - k) (drop k rest) ≡ drop ((at + k) - start) text
farther at start k text rest on e =
    let on_by : (at + k) - start ≡ (at - start) + k = omega (arith, on) in
    take_rest rest k ∙ ap (drop k) e ∙ drop-drop k (at - start) text ∙ ap (λ n. drop n text) (sym on_by)

pub borrows : (at start k : ℕ) (text rest : List ℕ) → rest ≡ drop (at - start) text → (what : declared.Lexeme) → Borrows what (take k rest) → Borrows what (take ((at + k) - at) (drop (at - start) text))
borrows at start k text rest e what h =
    let bytes : (at + k) - at ≡ k = omega arith in
    rw bytes (subst (λ xs. Borrows what (take k xs)) e h)
