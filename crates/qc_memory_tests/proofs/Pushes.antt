-- One more entry.
use Rattle.std.proofs.Common.{◌≡◌, ℕ, ◌+◌, Result, Ok, Err, OnOk, is_ok, true, true≢false, List, [], ◌∷◌, ◌++◌, length, get_or, set, sym, ap, ◌∙◌, arith, length-append, length-set, get_or-set_same}
use Rattle.qc_memory_tests.specs.Logs.{IsCounted}

pub counted_push : {E : Type 0} (ws us : List ℕ) (es fs : List E) (e : E) (n : ℕ) → IsCounted ws es → n ≡ get_or ws 0 0 → us ≡ set ws 0 (n + 1) → fs ≡ es ++ e ∷ [] → IsCounted us fs
counted_push ws us es fs e n h is us_is fs_is =
    let a = h.0 in let b = h.1 in
    let now : get_or (set ws 0 (n + 1)) 0 0 ≡ n + 1 = get_or-set_same ws 0 (n + 1) 0 (omega arith) in
    let long : length (es ++ e ∷ []) ≡ length es + 1 = length-append es (e ∷ []) in
    (ap (λ l. length l) us_is ∙ (length-set ws 0 (n + 1) ∙ a), ap (λ l. get_or l 0 0) us_is ∙ (now ∙ (ap (λ k. k + 1) (is ∙ b) ∙ (sym long ∙ sym (ap (λ l. length l) fs_is)))))

pub done : {T F : Type 0} (r : Result T F) (P : Type 0) → OnOk r P → true ≡ is_ok r → P
done (Ok x) P h e = h
done (Err x) P h e = absurd (true≢false e)
