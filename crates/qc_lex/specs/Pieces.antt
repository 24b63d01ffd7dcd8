-- What stands between quotes, piece by piece.
use Rattle.std.specs.Prelude.{◌≡◌, ℕ, ◌≤◌, Bool, List, [], ◌∷◌, length, Option, Some, None, if◌then◌else◌, option_map}
use Rattle.qc_sql.specs.Tokens.{Content, with_front, quoted, quoted_text}
use Rattle.qc_lex.specs.declared.quoted.Piece.{Piece}
use Rattle.qc_lex.specs.declared.quoted.Piece.TheVariants as piece

-- what stands up to the closing quote, with escapes or without
abbrev pub content : Bool → ℕ → List ℕ → Content
content escapes q text = if escapes then quoted_text q text else quoted q text

abbrev pub taken : Piece → ℕ
taken piece.Open = 0
taken piece.Closes = 1
taken (piece.One n b) = n
taken (piece.Both b) = 2

-- a piece, and the content behind it
abbrev pub with_piece : Piece → Content → Content
with_piece piece.Open behind = None
with_piece piece.Closes behind = Some (1, [])
with_piece (piece.One n b) behind = with_front n (b ∷ []) behind
with_piece (piece.Both b) behind = with_front 2 (92 ∷ b ∷ []) behind

-- a piece takes a byte or more of those that are there
abbrev pub TakesSome : Piece → ℕ → Type 0
TakesSome (piece.One n b) bytes = (1 ≤ n) × (n ≤ bytes)
TakesSome (piece.Both b) bytes = 2 ≤ bytes
TakesSome p bytes = Unit {0}

-- a backslash and the byte behind it, and so they go on
abbrev pub IsPair : Piece → Type 0
IsPair (piece.One n b) = n ≡ 2
IsPair (piece.Both b) = Unit {0}
IsPair p = ⊥

-- how many bytes stand up to the closing quote, and how many they mean
abbrev pub measured : Content → Option (ℕ × ℕ)
measured content = option_map (λ c. (c.0, length c.1)) content

-- the bytes that a whole token between quotes means
abbrev pub inside : Bool → List ℕ → Option (List ℕ)
inside escapes [] = None
inside escapes (q ∷ text) = option_map (λ c. c.1) (content escapes q text)
