-- Tokens one after another, as a loop reads them.
use Rattle.std.proofs.Common.{◌≡◌, ℕ, zero, suc, ◌+◌, ◌-◌, ◌≤◌, ◌<◌, Bool, List, [], ◌∷◌, ◌++◌, length, take, drop, Option, Some, None, Result, Ok, Err, refl, sym, ap, subst, ◌∙◌, arith, append_assoc, append-nil, length-drop}
use Rattle.std.specs.Prelude.{map, option_map}
use Rattle.std.proofs.lemmas.List.{take_rest}
use Rattle.qc_sql.specs.Tokens.{Front, Lexed, LexFault, front, goes_on, lexed, lexed_from, with_token, without_fault, tokens}
use Rattle.qc_sql.specs.Tokens as meaning
use Rattle.qc_lex.specs.declared.token.TokenKind.{TokenKind}
use Rattle.qc_lex.specs.declared.token.Token.{Token}
use Rattle.qc_lex.specs.declared.token.LexRefusal.{LexRefusal}
use Rattle.qc_lex.specs.Seen.{token_of, refusal_of, seen, meant}
use Rattle.qc_lex.specs.Fronts.{Shown, Ends, Skips, Gives, Faults, shown}
use Rattle.qc_lex.proofs.Fronts.{Within, front_within}

-- ---- so many steps are enough

goes_same : (f : Front) (at n : ℕ) (later other : ℕ → Lexed) → Within f n → ((k : ℕ) → 1 ≤ k → k ≤ n → later k ≡ other k) → goes_on f at later ≡ goes_on f at other
goes_same meaning.Ends at n later other h same = refl
goes_same (meaning.Skips k) at n later other h same = same k h.0 h.1
goes_same (meaning.Gives k what) at n later other h same = ap (with_token (record { what = what; from = at; to = at + k })) (same k h.0 h.1)
goes_same (meaning.Faults f) at n later other h same = refl

pub enough : (n k : ℕ) (ansi : Bool) (at : ℕ) (text : List ℕ) → length text < n → length text < k → lexed_from n ansi at text ≡ lexed_from k ansi at text
enough zero k ansi at text h g = absurd (omega (arith, h))
enough (suc n) zero ansi at text h g = absurd (omega (arith, g))
enough (suc n) (suc k) ansi at text h g =
    goes_same (front ansi text) at (length text) (λ j. lexed_from n ansi (at + j) (drop j text)) (λ j. lexed_from k ansi (at + j) (drop j text)) (front_within ansi text)
    (λ j some there. enough n k ansi (at + j) (drop j text) (omega (arith, h, length-drop j text)) (omega (arith, g, length-drop j text)))

-- the tokens from a place on
abbrev pub lexed_at : Bool → ℕ → List ℕ → Lexed
lexed_at ansi at text = lexed_from (length text + 1) ansi at text

pub lexed_first : (ansi : Bool) (at : ℕ) (text : List ℕ) → lexed_at ansi at text ≡ goes_on (front ansi text) at (λ k. lexed_at ansi (at + k) (drop k text))
lexed_first ansi at text =
    enough (length text + 1) (suc (length text)) ansi at text (omega arith) (omega arith)
    ∙ goes_same (front ansi text) at (length text) (λ k. lexed_from (length text) ansi (at + k) (drop k text)) (λ k. lexed_at ansi (at + k) (drop k text)) (front_within ansi text)
    (λ k some there. enough (length text) (length (drop k text) + 1) ansi (at + k) (drop k text) (omega (arith, length-drop k text)) (omega arith))

-- ---- as kinds and spans

abbrev pub SeenTokens : Type 0
SeenTokens = List Token × Option LexRefusal

abbrev pub seen_all : Lexed → SeenTokens
seen_all all = (map token_of all.0, option_map refusal_of all.1)

abbrev pub with_tokens : List Token → SeenTokens → SeenTokens
with_tokens ts all = (ts ++ all.0, all.1)

abbrev pub seen_at : Bool → ℕ → List ℕ → SeenTokens
seen_at ansi at text = seen_all (lexed_at ansi at text)

abbrev pub seen_on : Shown → ℕ → (ℕ → SeenTokens) → SeenTokens
seen_on Ends at later = ([], None)
seen_on (Skips k) at later = later k
seen_on (Gives k kind) at later = with_tokens (record { kind = kind; from = at; to = at + k } ∷ []) (later k)
seen_on (Faults f) at later = ([], Some (refusal_of (f at)))

seen_goes : (f : Front) (at : ℕ) (later : ℕ → Lexed) → seen_all (goes_on f at later) ≡ seen_on (shown f) at (λ k. seen_all (later k))
seen_goes meaning.Ends at later = refl
seen_goes (meaning.Skips k) at later = refl
seen_goes (meaning.Gives k what) at later = refl
seen_goes (meaning.Faults f) at later = refl

pub seen_first : (ansi : Bool) (at : ℕ) (text : List ℕ) (f : Shown) → f ≡ shown (front ansi text) → seen_at ansi at text ≡ seen_on f at (λ k. seen_at ansi (at + k) (drop k text))
seen_first ansi at text f e =
    ap seen_all (lexed_first ansi at text) ∙ seen_goes (front ansi text) at (λ k. lexed_at ansi (at + k) (drop k text))
    ∙ ap (λ f. seen_on f at (λ k. seen_at ansi (at + k) (drop k text))) (sym e)

-- what is shown to stand in front is there
abbrev pub ShownWithin : Shown → ℕ → Type 0
ShownWithin Ends n = Unit {0}
ShownWithin (Skips k) n = (1 ≤ k) × (k ≤ n)
ShownWithin (Gives k kind) n = (1 ≤ k) × (k ≤ n)
ShownWithin (Faults f) n = Unit {0}

shows_within : (f : Front) (n : ℕ) → Within f n → ShownWithin (shown f) n
shows_within meaning.Ends n h = h
shows_within (meaning.Skips k) n h = h
shows_within (meaning.Gives k what) n h = h
shows_within (meaning.Faults f) n h = h

pub shown_within : (ansi : Bool) (text : List ℕ) (f : Shown) → f ≡ shown (front ansi text) → ShownWithin f (length text)
shown_within ansi text f e = subst (λ f. ShownWithin f (length text)) (sym e) (shows_within (front ansi text) (length text) (front_within ansi text))

-- ---- the answer

answered : List Token → Option LexRefusal → Result (List Token) LexRefusal
answered ts None = Ok ts
answered ts (Some fault) = Err fault

seen_answer : (ts : List meaning.Token) (f : Option LexFault) → seen (without_fault ts f) ≡ answered (map token_of ts) (option_map refusal_of f)
unfolding answered
seen_answer ts None = refl
seen_answer ts (Some fault) = refl

meant_is : (text : List ℕ) (ansi : Bool) → meant text ansi ≡ answered (seen_at ansi 0 text).0 (seen_at ansi 0 text).1
unfolding lexed
meant_is text ansi = seen_answer (lexed_at ansi 0 text).0 (lexed_at ansi 0 text).1

-- ---- the loop

module _ (ansi : Bool) (ts : List Token) (at : ℕ) (rest text : List ℕ) where
  pub goes_on_skipped : (k : ℕ) → Skips k ≡ shown (front ansi rest) → with_tokens ts (seen_at ansi at rest) ≡ seen_at ansi 0 text
      → with_tokens ts (seen_at ansi (at + k) (take (length rest - k) (drop k rest))) ≡ seen_at ansi 0 text
  goes_on_skipped k e so_far = rw (take_rest rest k) (sym (ap (with_tokens ts) (seen_first ansi at rest (Skips k) e)) ∙ so_far)

  pub goes_on_token : (k : ℕ) (kind : TokenKind) → Gives k kind ≡ shown (front ansi rest) → with_tokens ts (seen_at ansi at rest) ≡ seen_at ansi 0 text
      → with_tokens (ts ++ record { kind = kind; from = at; to = at + k } ∷ []) (seen_at ansi (at + k) (take (length rest - k) (drop k rest))) ≡ seen_at ansi 0 text
  goes_on_token k kind e so_far =
      let later = seen_at ansi (at + k) (drop k rest) in
      let t : Token = record { kind = kind; from = at; to = at + k } in
      rw (take_rest rest k)
      (ap (λ (xs : List Token). (xs, later.1)) (append_assoc ts (t ∷ []) later.0)
      ∙ sym (ap (with_tokens ts) (seen_first ansi at rest (Gives k kind) e)) ∙ so_far)

  pub is_whole : Ends ≡ shown (front ansi rest) → with_tokens ts (seen_at ansi at rest) ≡ seen_at ansi 0 text → meant text ansi ≡ Ok ts
  unfolding answered
  is_whole e so_far =
      meant_is text ansi
      ∙ ap (λ (all : SeenTokens). answered all.0 all.1) (sym so_far ∙ ap (with_tokens ts) (seen_first ansi at rest Ends e))
      ∙ ap Ok (append-nil ts)

  pub is_refused : (f : ℕ → LexFault) → Faults f ≡ shown (front ansi rest) → with_tokens ts (seen_at ansi at rest) ≡ seen_at ansi 0 text → meant text ansi ≡ Err (refusal_of (f at))
  unfolding answered
  is_refused f e so_far =
      meant_is text ansi
      ∙ ap (λ (all : SeenTokens). answered all.0 all.1) (sym so_far ∙ ap (with_tokens ts) (seen_first ansi at rest (Faults f) e))
