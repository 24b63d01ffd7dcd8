-- Lists of references.
use Rattle.std.specs.Prelude.{List, map}
use Rattle.std.specs.Borrow.{Bor}

-- what they refer to
abbrev pub borrowed : {A : Type 0} → List (Bor A) → List A
borrowed xs = map (λ x. x.now) xs
