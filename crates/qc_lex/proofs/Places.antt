-- Tokens one behind the other.
use Rattle.std.proofs.Common.{◌≡◌, ℕ, zero, suc, ◌+◌, ◌-◌, ◌≤◌, Bool, List, [], ◌∷◌, length, drop, refl, sym, ap, subst, ◌∙◌, arith, length-drop, drop-drop}
use Rattle.qc_sql.specs.Tokens.{Front, Ends, Skips, Gives, Faults, Token, Lexed, front, goes_on, lexed, lexed_from}
use Rattle.qc_lex.specs.Laws.{Rise, AllMean}
use Rattle.qc_lex.proofs.Fronts.{Within, front_within}
use Rattle.qc_lex.proofs.Meanings.{Reads, front_reads}

rise_lower : (low from : ℕ) (ts : List Token) (end : ℕ) → low ≤ from → Rise from ts end → Rise low ts end
rise_lower low from [] end le h = omega (arith, h, le)
rise_lower low from (t ∷ ts) end le h = (omega (arith, h.0, le), h.1, h.2)

rise_on : (f : Front) (at n : ℕ) (later : ℕ → Lexed) → Within f n → ((k : ℕ) → k ≤ n → Rise (at + k) (later k).0 (at + n)) → Rise at (goes_on f at later).0 (at + n)
rise_on Ends at n later h rest = omega arith
rise_on (Skips k) at n later h rest = rise_lower at (at + k) (later k).0 (at + n) (omega arith) (rest k h.1)
rise_on (Gives k what) at n later h rest = (omega arith, omega (arith, h.0), rest k h.1)
rise_on (Faults f) at n later h rest = omega arith

rise_from : (n : ℕ) (ansi : Bool) (at : ℕ) (text : List ℕ) → Rise at (lexed_from n ansi at text).0 (at + length text)
rise_from zero ansi at text = omega arith
rise_from (suc n) ansi at text =
    rise_on (front ansi text) at (length text) (λ k. lexed_from n ansi (at + k) (drop k text)) (front_within ansi text)
    (λ k le. let e : at + length text ≡ at + k + length (drop k text) = omega (arith, le, length-drop k text) in rw e (rise_from n ansi (at + k) (drop k text)))

pub all_rise : (text : List ℕ) (ansi : Bool) → Rise 0 (lexed text ansi).0 (length text)
unfolding lexed
all_rise text ansi =
    let e : 0 + length text ≡ length text = omega arith in
    subst (Rise 0 (lexed_from (length text + 1) ansi 0 text).0) e (rise_from (length text + 1) ansi 0 text)

mean_on : (whole : List ℕ) (f : Front) (at : ℕ) (text : List ℕ) (later : ℕ → Lexed) → drop at whole ≡ text → Reads f text
    → ((k : ℕ) → AllMean whole (later k).0) → AllMean whole (goes_on f at later).0
mean_on whole Ends at text later e h rest = tt
mean_on whole (Skips k) at text later e h rest = rest k
mean_on whole (Gives k what) at text later e h rest =
    let d : at + k - at ≡ k = omega arith in
    (rw (d, e) h, rest k)
mean_on whole (Faults f) at text later e h rest = tt

mean_from : (whole : List ℕ) (n : ℕ) (ansi : Bool) (at : ℕ) (text : List ℕ) → drop at whole ≡ text → AllMean whole (lexed_from n ansi at text).0
mean_from whole zero ansi at text e = tt
mean_from whole (suc n) ansi at text e =
    mean_on whole (front ansi text) at text (λ k. lexed_from n ansi (at + k) (drop k text)) e (front_reads ansi text)
    (λ k. mean_from whole n ansi (at + k) (drop k text) (sym (drop-drop k at whole) ∙ ap (drop k) e))

pub all_mean : (text : List ℕ) (ansi : Bool) → AllMean text (lexed text ansi).0
unfolding lexed
all_mean text ansi = mean_from text (length text + 1) ansi 0 text refl
