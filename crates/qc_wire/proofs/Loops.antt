-- Reading values one after another, as a loop does.
use Rattle.std.proofs.Common.{◌≡◌, ℕ, suc, ◌-◌, ◌+◌, ◌≤◌, ◌<◌, List, [], ◌∷◌, ◌++◌, Result, Ok, Err, refl, sym, ap, ◌∙◌, append_assoc, append-nil, arith}
use Rattle.qc_types.specs.declared.memory.Or.{Or}
use Rattle.qc_types.specs.declared.memory.Or.TheVariants as or
use Rattle.qc_wire.specs.declared.refusal.WireRefusal.{WireRefusal}
use Rattle.qc_wire.specs.Reading.{◌>>=◌, times}

-- a call that didn't succeed tells the fault of what is meant, unless memory lacks
abbrev pub Fails : {Y : Type 0} → Or WireRefusal → Result Y WireRefusal → Type 0
Fails or.Memory meant = Unit {0}
Fails (or.Other e) meant = meant ≡ Err e

-- what was read before, and what is still read
abbrev pub with_prefix : {A S : Type 0} → List A → Result (List A × S) WireRefusal → Result (List A × S) WireRefusal
with_prefix prefix read = read >>= λ x. Ok (prefix ++ x.0, x.1)

pub regroup : {A S : Type 0} (prefix : List A) (x : A) (read : Result (List A × S) WireRefusal) → with_prefix prefix (read >>= λ y. Ok (x ∷ y.0, y.1)) ≡ with_prefix (prefix ++ x ∷ []) read
regroup {A} {S} prefix x (Ok y) = ap (λ (xs : List A). Ok (xs, y.1)) (sym (append_assoc prefix (x ∷ []) y.0))
regroup prefix x (Err f) = refl

pub goes_on : {A S : Type 0} (read : S → Result (A × S) WireRefusal) (prefix : List A) (count i : ℕ) (s : S) (x : A) (after : S) (total : Result (List A × S) WireRefusal)
    → i < count → read s ≡ Ok (x, after) → with_prefix prefix (times read (count - i) s) ≡ total → with_prefix (prefix ++ x ∷ []) (times read (count - (i + 1)) after) ≡ total
unfolding times
goes_on read prefix count i s x after total lt h so_far =
    let k : count - i ≡ suc (count - (i + 1)) = omega arith in
    let one : with_prefix prefix (times read (count - i) s) ≡ with_prefix (prefix ++ x ∷ []) (times read (count - (i + 1)) after) = rw (k, h) (regroup prefix x (times read (count - (i + 1)) after)) in
    sym one ∙ so_far

pub ends : {A S : Type 0} (read : S → Result (A × S) WireRefusal) (e : Or WireRefusal) (prefix : List A) (count i : ℕ) (s : S) (total : Result (List A × S) WireRefusal)
    → i < count → Fails e (read s) → with_prefix prefix (times read (count - i) s) ≡ total → Fails e total
unfolding times
ends read or.Memory prefix count i s total lt h so_far = tt
ends read (or.Other f) prefix count i s total lt h so_far =
    let k : count - i ≡ suc (count - (i + 1)) = omega arith in
    let one : with_prefix prefix (times read (count - i) s) ≡ Err f = rw (k, h) refl in
    sym so_far ∙ one

pub is_done : {A S : Type 0} (read : S → Result (A × S) WireRefusal) (prefix : List A) (count i : ℕ) (s : S) (total : Result (List A × S) WireRefusal)
    → count ≤ i → with_prefix prefix (times read (count - i) s) ≡ total → total ≡ Ok (prefix, s)
unfolding times
is_done {A} {S} read prefix count i s total le so_far =
    let k : count - i ≡ 0 = omega arith in
    let one : with_prefix prefix (times read (count - i) s) ≡ Ok (prefix, s) = rw k (ap (λ (xs : List A). Ok (xs, s)) (append-nil prefix)) in
    sym so_far ∙ one
