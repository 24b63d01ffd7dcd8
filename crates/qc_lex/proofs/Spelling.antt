-- Words in either case.
use Rattle.std.proofs.Common.{◌≡◌, ℕ, Bool, List, [], ◌∷◌, map, IsTrue, ◌↔◌, refl, sym, ap, ◌∙◌, arith}
use Rattle.std.specs.Char.{to_ascii_lowercase}
use Rattle.std.proofs.lemmas.Bool.Decides.{nat_tests, same_from_decides}
use Rattle.std.proofs.lemmas.Slice.Eq.{bytes_eq-Decides}
use Rattle.qc_sql.specs.Rules.{capital, in_capitals, same_word}

capital-lower : (b : ℕ) → capital (to_ascii_lowercase b) ≡ capital b
capital-lower b = grind (arith, nat_tests)

lower-capital : (b : ℕ) → to_ascii_lowercase (capital b) ≡ to_ascii_lowercase b
lower-capital b = grind (arith, nat_tests)

capitals-lower : (w : List ℕ) → in_capitals (map to_ascii_lowercase w) ≡ in_capitals w
capitals-lower [] = refl
capitals-lower (b ∷ bs) = rw (capital-lower b, capitals-lower bs) refl

lower-capitals : (w : List ℕ) → map to_ascii_lowercase (in_capitals w) ≡ map to_ascii_lowercase w
lower-capitals [] = refl
lower-capitals (b ∷ bs) = rw (lower-capital b, lower-capitals bs) refl

-- words that are one in small letters are one in capitals
pub same_word_by_lower : (a b : List ℕ) (r : Bool) → IsTrue r ↔ (map to_ascii_lowercase a ≡ map to_ascii_lowercase b) → r ≡ same_word a b
same_word_by_lower a b r h =
    let forth : map to_ascii_lowercase a ≡ map to_ascii_lowercase b → in_capitals a ≡ in_capitals b = λ e. sym (capitals-lower a) ∙ ap in_capitals e ∙ capitals-lower b in
    let back : in_capitals a ≡ in_capitals b → map to_ascii_lowercase a ≡ map to_ascii_lowercase b = λ e. sym (lower-capitals a) ∙ ap (map to_ascii_lowercase) e ∙ lower-capitals b in
    same_from_decides r (same_word a b) (λ t. forth (h.0 t), λ e. h.1 (back e)) (bytes_eq-Decides (in_capitals a) (in_capitals b))
