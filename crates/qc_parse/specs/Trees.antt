-- What a text's tree has to do with its tokens.
use Rattle.std.specs.Prelude.{◌≡◌, ℕ, Bool, List, None, Ok}
use Rattle.qc_sql.specs.declared.statements.Statement.{Statement}
use Rattle.qc_sql.specs.declared.statements.Cond.{Cond}
use Rattle.qc_sql.specs.Tokens.{Lexeme, lexed, lexemes}
use Rattle.qc_sql.specs.Grammar.{meaning}
use Rattle.qc_parse.specs.Laws.{without_spans}
use Rattle.qc_parse.specs.Productions.{IsStatement, AnyOf, MemberAt}

-- a text that has a tree has no fault, and its tokens, all of them, spell the tree by the productions
abbrev pub TreesAreSpelled : Type 0
TreesAreSpelled = (ansi : Bool) (text : List ℕ) (s : Statement) → meaning text ansi ≡ Ok s → IsStatement s (lexemes (lexed text ansi).0) × ((lexed text ansi).1 ≡ None)

-- a text with no fault, whose tokens spell a tree, has that tree, but for the spans of a select's items
abbrev pub SpelledAreTrees : Type 0
SpelledAreTrees =
    (ansi : Bool) (text : List ℕ) (s : Statement) → IsStatement s (lexemes (lexed text ansi).0) → (lexed text ansi).1 ≡ None
    → (t : Statement) × (meaning text ansi ≡ Ok t) × (without_spans s ≡ without_spans t)

-- the same tokens spell no two statements, but for spans
abbrev pub OneStatement : Type 0
OneStatement = (ls : List Lexeme) (s t : Statement) → IsStatement s ls → IsStatement t ls → without_spans s ≡ without_spans t

-- the same tokens spell no two conditions, however many brackets, NOTs and calls may be open at once
abbrev pub OneCondition : Type 0
OneCondition = (n : ℕ) (ls : List Lexeme) (c d : Cond) → AnyOf (MemberAt n) c ls → AnyOf (MemberAt n) d ls → c ≡ d
