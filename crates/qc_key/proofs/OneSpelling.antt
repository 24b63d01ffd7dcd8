-- A key determines what it is made of.
use Rattle.std.proofs.Common.{◌≡◌, ℕ, List, ◌++◌, length, get_or, take, drop, refl, sym, ap, subst, ◌∙◌, append_assoc}
use Rattle.std.proofs.lemmas.List.{take_at, append_cancel_left}
use Rattle.qc_sql.specs.Keys.{flag_bytes, key_bytes}
use Rattle.qc_sql.proofs.Keys.{charset_fits}
use Rattle.qc_key.specs.Laws.{HasOneSpelling}
use Rattle.qc_key.proofs.FlagBytes.{flag_bytes_same}

pub one_spelling : HasOneSpelling
one_spelling key f g d e t u kf kg =
    let same : key_bytes f d t ≡ key_bytes g e u = sym kf.bytes ∙ kg.bytes in
    let rest = λ (bytes : List ℕ). drop 1 bytes in
    let sizes : length d ≡ length e = ap (λ (bytes : List ℕ). get_or bytes 0 0) same in
    let behind : d ++ (flag_bytes f ++ t) ≡ e ++ (flag_bytes g ++ u) = sym (append_assoc d (flag_bytes f) t) ∙ ap rest same ∙ append_assoc e (flag_bytes g) u in
    let names : d ≡ e = sym (take_at d (flag_bytes f ++ t) (length d) refl) ∙ ap (take (length d)) behind ∙ take_at e (flag_bytes g ++ u) (length d) (sym sizes) in
    let left : flag_bytes f ++ t ≡ flag_bytes g ++ u = append_cancel_left d (flag_bytes f ++ t) (flag_bytes g ++ u) (subst (λ (n : List ℕ). d ++ (flag_bytes f ++ t) ≡ n ++ (flag_bytes g ++ u)) (sym names) behind) in
    let flags : flag_bytes f ≡ flag_bytes g = ap (take 15) left in
    let texts : t ≡ u = ap (drop 15) left in
    (flag_bytes_same f g (charset_fits f d kf.can_be) (charset_fits g e kg.can_be) kf.limit kg.limit flags, names, texts)
