use Rattle.std.proofs.Common.{◌≡◌, map, drop}
use Rattle.std.specs.List.{list_any}
use Rattle.qc_sql.specs.Rules.{same_word}
use Rattle.qc_lex.proofs.word.is_one_of.Given as goal

abbrev pub invariant-loop-name : goal.invariant-loop-name
invariant-loop-name l = list_any (same_word l.word) (map (λ name. name.now) (drop l.name-index l.names)) ≡ list_any (same_word l.word) (map (λ name. name.now) l.names)
