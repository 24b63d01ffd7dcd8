-- Pieces that stand together.
use Rattle.std.specs.Prelude.{◌≡◌, ◌≤◌, ℕ, List, [], ◌∷◌, length, take, drop}
use Rattle.qc_serve.specs.declared.sinks.Piece.{Piece}
use Rattle.qc_serve.specs.Sent.{piece}
use Rattle.qc_app.specs.declared.reply_buffer.PieceEnd.{PieceEnd}

-- the pieces into which bytes are cut
abbrev pub pieces_of : List ℕ → List PieceEnd → List Piece
pieces_of bytes [] = []
pieces_of bytes (c ∷ cuts) = piece (take c.bytes bytes) c.task ∷ pieces_of (drop c.bytes bytes) cuts

-- the cuts reach exactly to the end of the bytes
abbrev pub AreCuts : List ℕ → List PieceEnd → Type 0
AreCuts bytes [] = bytes ≡ []
AreCuts bytes (c ∷ cuts) = (c.bytes ≤ length bytes) × AreCuts (drop c.bytes bytes) cuts
