use Rattle.std.proofs.Common.{◌≡◌, false, Option, Some, cond, List, [], ◌∷◌, Ok, refl, sym, subst, ap, ◌∙◌}
use Rattle.std.specs.Prelude.{codes, is_some}
use Rattle.qc_sql.specs.declared.statements.Expr.{Expr}
use Rattle.qc_sql.specs.declared.statements.Op.{Op}
use Rattle.qc_sql.specs.Tokens.{Token}
use Rattle.qc_sql.specs.Reading.{Unread, Reader, then_read, branch, at_word, past, read_as, read_first}
use Rattle.qc_sql.specs.Grammar.{op, op_in, op_first, op_ahead, null_test, test_behind, value_at}
use Rattle.qc_parse.specs.Cursors.{unread, beyond, beyond_first, Reads}
use Rattle.qc_parse.specs.Rests.{compared, listed_or_ranged}
use Rattle.qc_parse.proofs.conditions.test_behind.Goals as goal

-- the sign that is ahead is read
sign_is_read : (u : Unread) (o : Op) → Some o ≡ op_ahead u → op u ≡ Ok (o, beyond u)
sign_is_read u o is = by u.tokens is
  where
    by : (ts : List Token) → Some o ≡ op_first ts → read_first op_in u ts ≡ Ok (o, beyond_first u ts)
    by [] none = absurd cc
    by (t ∷ ts) some = subst (λ (x : Option Op). read_as u t ts x ≡ Ok (o, past u t ts)) some refl

chosen : {A : Type 0} (x : Option Op) (o : Op) (p q : A) → Some o ≡ x → cond (is_some x) p q ≡ p
chosen x o p q is = subst (λ (y : Option Op). cond (is_some y) p q ≡ p) is refl

-- with a sign ahead, what is tested is a comparison
compares : (p : Reader Expr) (a : Expr) (u v : Unread) (o : Op) → Some o ≡ op_ahead u → v ≡ beyond u → test_behind p a u ≡ compared p a o v
compares p a u v o is e =
    chosen (op_ahead u) o (then_read (op u) (λ s. compared p a s)) (branch (at_word (codes "IS")) (null_test a) (listed_or_ranged p a) u) is
    ∙ (ap (λ r. then_read r (λ s. compared p a s)) (sign_is_read u o is) ∙ ap (compared p a o) (sym e))

pub returns-in-Some : goal.returns-in-Some
returns-in-Some c =
    subst (Reads (λ x. x) c.comparison.result (unread c.comparison.new.cursor))
    (sym (compares (value_at c.args.depth false) c.args.tested (unread c.args.cursor.now) (unread c.pass.new.self) c.in-Some.op c.in-Some.ensures c.pass.ensures)) c.comparison.ensures
