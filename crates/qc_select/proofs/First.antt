-- The first of some tables that passes a test.
use Rattle.std.proofs.Math.Seq.{drop-cons}
use Rattle.std.proofs.Common.{◌≡◌, ◌+◌, ◌<◌, ℕ, suc, drop, get_or, Bool, true, false, cond, List, ◌∷◌, length, sym, ap, subst, ◌∙◌, arith}
use Rattle.std.specs.Prelude.{Some, find}
use Rattle.qc_types.specs.declared.names.TableName.{TableName}

pub passes_on : (p : TableName → Bool) (ts : List TableName) (i : ℕ) (t : TableName) → i < length ts → t ≡ get_or ts i t → p t ≡ false → find p (drop i ts) ≡ find p ts → find p (drop (i + 1) ts) ≡ find p ts
passes_on p ts i t h is fails before =
    let next : suc i ≡ i + 1 = omega arith in
    let behind : drop i ts ≡ t ∷ drop (suc i) ts = drop-cons ts i t h ∙ ap (λ (u : TableName). u ∷ drop (suc i) ts) (sym is) in
    subst (λ n. find p (drop n ts) ≡ find p ts) next (sym (ap (find p) behind ∙ ap (λ b. cond b (Some t) (find p (drop (suc i) ts))) fails) ∙ before)

pub is_first : (p : TableName → Bool) (ts : List TableName) (i : ℕ) (t : TableName) → i < length ts → t ≡ get_or ts i t → p t ≡ true → find p (drop i ts) ≡ find p ts → find p ts ≡ Some t
is_first p ts i t h is passes before =
    let behind : drop i ts ≡ t ∷ drop (suc i) ts = drop-cons ts i t h ∙ ap (λ (u : TableName). u ∷ drop (suc i) ts) (sym is) in
    sym before ∙ ap (find p) behind ∙ ap (λ b. cond b (Some t) (find p (drop (suc i) ts))) passes
