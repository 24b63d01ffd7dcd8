use Rattle.std.proofs.Common.{◌≡◌, map, drop}
use Rattle.std.specs.Prelude.{find}
use Rattle.qc_sql.specs.Rules.{same_word}
use Rattle.qc_lex.proofs.word.named_in.Given as goal

abbrev pub invariant-loop-name : goal.invariant-loop-name
invariant-loop-name l = find (same_word l.word) (map (λ name. name.now) (drop l.name-index l.names)) ≡ find (same_word l.word) (map (λ name. name.now) l.names)
