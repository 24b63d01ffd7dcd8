use Rattle.std.proofs.Common.{◌≡◌, map, take}
use Rattle.qc_sql.specs.Rules.{capital}
use Rattle.qc_sql.proofs.words.in_capitals.Given as goal

abbrev pub invariant-loop-byte : goal.invariant-loop-byte
invariant-loop-byte l = l.capitals.items ≡ map capital (take l.byte-index l.word)
