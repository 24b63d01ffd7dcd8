-- What goes to a sink of replies.
use Rattle.std.specs.Prelude.{◌≡◌, ◌⊎◌, ℕ, ◌+◌, ◌<◌, ◌≤◌, All, length, List, [], ◌∷◌, ◌++◌, Option, Some, None, if◌then◌else◌}
use Rattle.std.specs.List.{flat_map}
use Rattle.qc_types.specs.declared.streams.PutStep.{PutStep}
use Rattle.qc_types.specs.declared.streams.PutStep.TheVariants as put
use Rattle.qc_types.specs.Streams.{BeginsWith, is_put_done}
use Rattle.qc_sql.specs.Commands.{length_at}
use Rattle.qc_turn.specs.declared.task.Task.{Task}
use Rattle.qc_serve.specs.declared.sinks.Piece.{Piece}

-- a piece, and the task that the seat had at its put
abbrev pub piece : List ℕ → Task → Piece
piece bytes at = record { bytes = bytes; task = at }

abbrev pub bytes_of : List Piece → List ℕ
bytes_of pieces = flat_map (λ p. p.bytes) pieces

-- ---- a put

-- nothing was added, or a prefix of the piece
abbrev pub PutsPart : List Piece → Option (List Piece) → List ℕ → Task → Type 0
PutsPart held out bytes at = (out ≡ Some held) ⊎ ((prefix : List ℕ) × BeginsWith bytes prefix × (out ≡ Some (held ++ piece prefix at ∷ [])))

-- no piece, or one that begins with these bytes
abbrev pub IsPartOf : List ℕ → Task → List Piece → Type 0
IsPartOf bytes at more = (more ≡ []) ⊎ ((prefix : List ℕ) × BeginsWith bytes prefix × (more ≡ piece prefix at ∷ []))

-- A put adds the piece, or where it doesn't succeed a prefix of it, or nothing.
abbrev pub PutsPiece : PutStep → Option (List Piece) → Option (List Piece) → List ℕ → Task → Type 0
PutsPiece step None out bytes at = out ≡ None
PutsPiece put.Done (Some held) out bytes at = out ≡ Some (held ++ piece bytes at ∷ [])
PutsPiece put.Failed (Some held) out bytes at = PutsPart held out bytes at
PutsPiece put.Memory (Some held) out bytes at = PutsPart held out bytes at

-- ---- a reply

-- these pieces were added, of which this is so
abbrev pub Adds : Option (List Piece) → Option (List Piece) → (List Piece → Type 0) → Type 0
Adds None out AreSo = out ≡ None
Adds (Some held) out AreSo = (more : List Piece) × (out ≡ Some (held ++ more)) × AreSo more

-- exactly these bytes went out
abbrev pub Sends : Option (List Piece) → Option (List Piece) → List ℕ → Type 0
Sends held out bytes = Adds held out (λ more. bytes_of more ≡ bytes)

-- a front of these bytes went out
abbrev pub SendsFrontOf : Option (List Piece) → Option (List Piece) → List ℕ → Type 0
SendsFrontOf held out bytes = Adds held out (λ more. BeginsWith bytes (bytes_of more))

-- ---- the sizes of pieces

-- the size of a piece of a hit
abbrev pub hit_size : List ℕ → ℕ
hit_size bytes = 512

-- the size that a packet has by its header
abbrev pub packet_size : List ℕ → ℕ
packet_size bytes = 4 + length_at bytes

abbrev pub IsPacket : List ℕ → Type 0
IsPacket bytes = length bytes ≡ packet_size bytes

-- Each piece but the last one has its size, and the last one has no more.
pub record AreCut (size : List ℕ → ℕ) (pieces : List Piece) : Type 0 where
  pub whole : List Piece
  pub last : List Piece
  pub split : pieces ≡ whole ++ last
  pub one : length last ≤ 1
  pub sized : All (λ p. length p.bytes ≡ size p.bytes) whole
  pub few : All (λ p. length p.bytes ≤ size p.bytes) last

-- each has a byte
abbrev pub NoneIsEmpty : List Piece → Type 0
NoneIsEmpty pieces = All (λ p. 0 < length p.bytes) pieces

-- ---- a sink in memory

-- what a sink in memory holds, at which calls it fails, and how often it was called and has failed
pub record KeptReplies : Type 0 where
  pub held : List Piece
  pub failing : List ℕ
  pub calls : ℕ
  pub faults : ℕ

-- the pieces after a put
abbrev pub kept_after : PutStep → List Piece → List ℕ → Task → List Piece
kept_after step held bytes at = if is_put_done step then held ++ piece bytes at ∷ [] else held
