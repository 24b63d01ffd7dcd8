use Rattle.std.proofs.Common.{◌≡◌, [], ◌∷◌, drop, take}
use Rattle.std.specs.Prelude.{bytes_eq}
use Rattle.std.specs.List.{list_any}
use Rattle.qc_lex.proofs.front.begins_with_one_of.Given as goal

abbrev pub invariant-loop-byte : goal.invariant-loop-byte
invariant-loop-byte l = list_any (λ b. bytes_eq (take 1 l.text) (b ∷ [])) (drop l.byte-index l.bytes) ≡ list_any (λ b. bytes_eq (take 1 l.text) (b ∷ [])) l.bytes
