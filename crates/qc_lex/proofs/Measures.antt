-- A token between quotes, by how much stands there and how much it means.
use Rattle.std.proofs.Common.{◌≡◌, ℕ, ◌+◌, length, Option, Some, None, Bool, true, false, cond, refl, ap, ◌∙◌}
use Rattle.std.specs.Prelude.{◌==◌, nat_lt, if◌then◌else◌}
use Rattle.qc_sql.specs.Tokens.{Front, Gives as Gives', Faults as Faults', Quoted, Words, Content, OpenQuote, BadByte, LongName, TextTooLong, name_token, text_token}
use Rattle.qc_lex.specs.declared.token.TokenKind.TheVariants as kind
use Rattle.qc_lex.specs.Fronts.{Shown, Gives, Faults, shown}
use Rattle.qc_lex.specs.Pieces.{measured}

abbrev pub name_measured : Option (ℕ × ℕ) → Shown
name_measured None = Faults OpenQuote
name_measured (Some m) = if m.1 == 0 then Faults BadByte else if nat_lt 64 m.1 then Faults LongName else Gives (m.0 + 1) kind.QuotedName

abbrev pub text_measured : Option (ℕ × ℕ) → Shown
text_measured None = Faults OpenQuote
text_measured (Some m) = if nat_lt 65535 m.1 then Faults TextTooLong else Gives (m.0 + 1) kind.Text

shown_if : (t : Bool) (x y : Front) → shown (cond t x y) ≡ cond t (shown x) (shown y)
shown_if true x y = refl
shown_if false x y = refl

pub name_by_measure : (c : Content) → shown (name_token c) ≡ name_measured (measured c)
name_by_measure None = refl
name_by_measure (Some c) =
    let given : Front = Gives' (c.0 + 1) (Quoted c.1) in
    let long : Front = cond (nat_lt 64 (length c.1)) (Faults' LongName) given in
    shown_if (length c.1 == 0) (Faults' BadByte) long
    ∙ ap (cond (length c.1 == 0) (Faults BadByte)) (shown_if (nat_lt 64 (length c.1)) (Faults' LongName) given)

pub text_by_measure : (c : Content) → shown (text_token c) ≡ text_measured (measured c)
text_by_measure None = refl
text_by_measure (Some c) = shown_if (nat_lt 65535 (length c.1)) (Faults' TextTooLong) (Gives' (c.0 + 1) (Words c.1))
