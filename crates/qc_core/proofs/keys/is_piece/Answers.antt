use Rattle.std.proofs.Common.{◌≡◌, ℕ, true, List, sym, subst, arith}
use Rattle.std.proofs.lemmas.List.{take_all}
use Rattle.byteorder.specs.Endian.{little_from}
use Rattle.qc_core.specs.KeySpelling.{spells}
use Rattle.qc_core.proofs.Storing.{read_spells, whole_word}
use Rattle.qc_core.proofs.keys.is_piece.Goals as goal

pub returns-then-piece-eq8 : goal.returns-then-piece-eq8
returns-then-piece-eq8 c =
    let p = c.args.piece.now in
    let n = little_from 0 8 p in
    let r = read_spells 8 0 p (λ k. omega (arith, c.type_inv.piece k)) (omega arith) in
    let s : spells n p ≡ true = subst (λ (l : List ℕ). spells n l ≡ true) (take_all 8 p (omega arith)) r in
    let whole = whole_word c.args.word c.read_u64.result p (omega arith) (omega arith) (omega arith) (subst (λ (m : ℕ). spells m p ≡ true) (sym c.read_u64.ensures) s) in
    whole
