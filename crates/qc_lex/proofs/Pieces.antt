-- Pieces of what stands between quotes.
use Rattle.std.proofs.Common.{ℕ, ◌≤◌, arith}
use Rattle.qc_lex.specs.declared.quoted.Piece.{Piece}
use Rattle.qc_lex.specs.declared.quoted.Piece.TheVariants as piece
use Rattle.qc_lex.specs.Pieces.{TakesSome, IsPair}

pub pair_takes : (p : Piece) (bytes : ℕ) → IsPair p → 2 ≤ bytes → TakesSome p bytes
pair_takes piece.Open bytes pair h = absurd pair
pair_takes piece.Closes bytes pair h = absurd pair
pair_takes (piece.One n b) bytes pair h = (omega (arith, pair), omega (arith, pair, h))
pair_takes (piece.Both b) bytes pair h = h
