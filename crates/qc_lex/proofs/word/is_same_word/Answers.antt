use Rattle.qc_lex.proofs.Spelling.{same_word_by_lower}
use Rattle.qc_lex.proofs.word.is_same_word.Goals as goal

pub returns : goal.returns
returns c = same_word_by_lower _ _ _ c.eq_ignore_ascii_case.ensures.test
