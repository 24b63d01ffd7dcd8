-- The first bad line of bytes that are no report's text.
use Rattle.std.specs.Prelude.{◌≡◌, ◌==◌, ℕ, ◌+◌, false, List, [], ◌∷◌, ◌++◌, length}
use Rattle.std.specs.List.{AllByRecursion}
use Rattle.qc_types.specs.declared.memory.Or.{Or}
use Rattle.qc_types.specs.declared.memory.Or.TheVariants as or
use Rattle.qc_model.specs.declared.reports.Report.{Report}
use Rattle.qc_model.specs.ReportText.{Text, lines, text_of_report}
use Rattle.qc_script.specs.Tellable.{IsTellable}

-- no LF stands in it
abbrev pub IsOneLine : Text → Type 0
IsOneLine t = AllByRecursion (λ b. (b == 10) ≡ false) t

-- some report that its text tells whole has a text that begins so
abbrev pub Begins : Text → Type 0
Begins t = (r : Report) × IsTellable r × (more : Text) × (text_of_report r ≡ t ++ more)

-- No report that its text tells whole has this text. With the lines in front of line n the text of one begins. With line n none does; or line n lacks its LF,
-- or is missing.
pub record IsFirstBad (bytes : Text) (n : ℕ) : Type 0 where
  pub front : List Text
  pub rest : Text
  pub each : AllByRecursion IsOneLine front
  pub parts : bytes ≡ lines front ++ rest
  pub number : n ≡ length front + 1
  pub none : (r : Report) → IsTellable r → bytes ≡ text_of_report r → ⊥
  pub begins : Begins (lines front)
  pub stops : (line more : Text) → IsOneLine line → rest ≡ line ++ 10 ∷ more → Begins (lines (front ++ line ∷ [])) → ⊥

-- a refusal of these bytes names their first bad line, but for want of memory
abbrev pub Blames : Text → Or ℕ → Type 0
Blames bytes or.Memory = Unit {0}
Blames bytes (or.Other n) = IsFirstBad bytes n
