-- Bytes at the end of the last session's input, by its place.
use Rattle.std.proofs.Common.{◌≡◌, ℕ, zero, suc, ◌+◌, ◌-◌, ◌<◌, List, [], ◌∷◌, ◌++◌, length, refl, ap, arith}
use Rattle.std.specs.Prelude.{slice_index_or, slice_set}
use Rattle.qc_model.specs.ScriptLines.{sent_last}

sent_at : (bytes : List ℕ) (sessions : List (List ℕ)) (input : List ℕ) (last : ℕ) → last + 1 ≡ length sessions
    → sent_last bytes sessions ≡ slice_set sessions last (slice_index_or sessions last input ++ bytes)
sent_at bytes [] input last is = absurd (omega arith)
sent_at bytes (s ∷ []) input zero is = refl
sent_at bytes (s ∷ []) input (suc last) is = absurd (omega arith)
sent_at bytes (s ∷ t ∷ ss) input zero is = absurd (omega arith)
sent_at bytes (s ∷ t ∷ ss) input (suc last) is = ap (λ rest. s ∷ rest) (sent_at bytes (t ∷ ss) input last (omega arith))

pub sent_at_end : (bytes : List ℕ) (sessions : List (List ℕ)) (input : List ℕ) → 0 < length sessions
    → sent_last bytes sessions ≡ slice_set sessions (length sessions - 1) (slice_index_or sessions (length sessions - 1) input ++ bytes)
sent_at_end bytes sessions input some = sent_at bytes sessions input (length sessions - 1) (omega arith)
