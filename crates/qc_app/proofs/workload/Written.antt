-- The texts of the draws as the workload writes them, and as they are read.
use Rattle.std.proofs.Common.{◌≡◌, ℕ, true, false, List, ◌++◌, ap, ◌∙◌, append_assoc}
use Rattle.std.specs.Prelude.{codes, decimal}
use Rattle.qc_app.proofs.workload.Inserted as inserted
use Rattle.qc_app.proofs.workload.Updated as updated

abbrev pub into_a : (key m : ℕ) → List ℕ
into_a key m = codes "INSERT INTO a VALUES (" ++ decimal key ++ codes ", " ++ decimal m ++ codes ")"

abbrev pub into_b : (key m : ℕ) → List ℕ
into_b key m = codes "INSERT INTO b VALUES (" ++ decimal key ++ codes ", " ++ decimal m ++ codes ")"

abbrev pub set : (first last m : ℕ) → List ℕ
set first last m = codes "UPDATE a SET v = " ++ decimal m ++ codes " WHERE id BETWEEN " ++ decimal first ++ codes " AND " ++ decimal last

four : (a b c d : List ℕ) → a ++ b ++ c ++ d ≡ a ++ (b ++ (c ++ d))
four a b c d = append_assoc (a ++ b) c d ∙ append_assoc a b (c ++ d)

five : (a b c d e : List ℕ) → a ++ b ++ c ++ d ++ e ≡ a ++ (b ++ (c ++ (d ++ e)))
five a b c d e = append_assoc (a ++ b ++ c) d e ∙ four a b c (d ++ e)

pub into_a_is : (key m : ℕ) → into_a key m ≡ inserted.text true key m
into_a_is key m = ap (λ (l : List ℕ). codes "INSERT INTO a VALUES (" ++ l) (four (decimal key) (codes ", ") (decimal m) (codes ")"))

pub into_b_is : (key m : ℕ) → into_b key m ≡ inserted.text false key m
into_b_is key m = ap (λ (l : List ℕ). codes "INSERT INTO b VALUES (" ++ l) (four (decimal key) (codes ", ") (decimal m) (codes ")"))

pub set_is : (first last m : ℕ) → set first last m ≡ updated.text first last m
set_is first last m = ap (λ (l : List ℕ). codes "UPDATE a SET v = " ++ l) (five (decimal m) (codes " WHERE id BETWEEN ") (decimal first) (codes " AND ") (decimal last))
