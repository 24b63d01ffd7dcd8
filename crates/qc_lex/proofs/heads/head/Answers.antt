use Rattle.std.proofs.Common.{sym, ap, ◌∙◌, cond}
use Rattle.std.specs.Prelude.{codes}
use Rattle.qc_sql.specs.Rules.{same_word}
use Rattle.qc_sql.specs.declared.statements.Head.TheVariants as head
use Rattle.qc_lex.proofs.FirstWords.{not_word, not_select, select, second_of, second_word}
use Rattle.qc_lex.proofs.heads.head.Goals as goal

pub returns-in_default : goal.returns-in_default
returns-in_default c = not_word c.args.text.now c.in_default.ensures

pub returns-then-not-is_same_word : goal.returns-then-not-is_same_word
returns-then-not-is_same_word c = not_select c.args.text.now c.in-Some.first.now c.in-Some.behind.now c.in-Some.ensures c.if-not-is_same_word.ensures

pub returns-in_default-first_word : goal.returns-in_default-first_word
returns-in_default-first_word c =
    sym (select c.args.text.now c.in-Some.first.now c.in-Some.behind.now c.in-Some.ensures c.if-not-is_same_word.ensures ∙ ap second_of c.in_default-first_word.ensures)

pub returns-then-is_same_word : goal.returns-then-is_same_word
returns-then-is_same_word c =
    sym (select c.args.text.now c.in-Some.first.now c.in-Some.behind.now c.in-Some.ensures c.if-not-is_same_word.ensures
    ∙ second_word c.in-Some.behind.now c.in-Some-first_word.second.now c.in-Some-first_word.field-0-1.now c.in-Some-first_word.ensures
    ∙ ap (λ t. cond t head.Cache (cond (same_word (codes "SQL_NO_CACHE") c.in-Some-first_word.second.now) head.NoCache head.Bare)) (sym c.if-is_same_word.ensures))

pub returns-then-is_same_word-2 : goal.returns-then-is_same_word-2
returns-then-is_same_word-2 c =
    sym (select c.args.text.now c.in-Some.first.now c.in-Some.behind.now c.in-Some.ensures c.if-not-is_same_word.ensures
    ∙ second_word c.in-Some.behind.now c.in-Some-first_word.second.now c.in-Some-first_word.field-0-1.now c.in-Some-first_word.ensures
    ∙ ap (λ t. cond t head.Cache (cond (same_word (codes "SQL_NO_CACHE") c.in-Some-first_word.second.now) head.NoCache head.Bare)) (sym c.if-is_same_word.ensures)
    ∙ ap (λ t. cond t head.NoCache head.Bare) (sym c.if-is_same_word-2.ensures))

pub returns : goal.returns
returns c =
    sym (select c.args.text.now c.in-Some.first.now c.in-Some.behind.now c.in-Some.ensures c.if-not-is_same_word.ensures
    ∙ second_word c.in-Some.behind.now c.in-Some-first_word.second.now c.in-Some-first_word.field-0-1.now c.in-Some-first_word.ensures
    ∙ ap (λ t. cond t head.Cache (cond (same_word (codes "SQL_NO_CACHE") c.in-Some-first_word.second.now) head.NoCache head.Bare)) (sym c.if-is_same_word.ensures)
    ∙ ap (λ t. cond t head.NoCache head.Bare) (sym c.if-is_same_word-2.ensures))
