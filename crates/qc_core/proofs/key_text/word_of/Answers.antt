use Rattle.std.proofs.Common.{◌≡◌, ℕ, true, List, length, subst, ◌∙◌, arith}
use Rattle.std.proofs.lemmas.List.{take_all}
use Rattle.byteorder.specs.Endian.{little_from}
use Rattle.qc_core.specs.KeySpelling.{spells}
use Rattle.qc_core.proofs.Storing.{read_spells}
use Rattle.qc_core.proofs.key_text.word_of.Goals as goal

pub returns : goal.returns
returns c =
    let p = c.args.piece.now in
    let r = read_spells (length p) 0 p (λ k. omega (arith, c.type_inv.piece k)) (omega arith) in
    (λ i. spells (c.read_uint.ensures i) p) ∙ subst (λ (l : List ℕ). spells (little_from 0 (length p) p) l ≡ true) (take_all (length p) p (omega arith)) r
