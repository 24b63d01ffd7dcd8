-- The texts of a column, of which one is put between others or taken out.
use Rattle.std.proofs.Common.{◌≡◌, ℕ, ◌+◌, ◌-◌, ◌<◌, ◌≤◌, Bool, List, [], ◌∷◌, ◌++◌, map, length, length-append, get_or, set, take, drop, zero, suc, refl, sym, ap, ◌∙◌, arith, subst, append_assoc}
use Rattle.std.specs.List.{insert, remove}
use Rattle.std.proofs.lemmas.List.{drop_at, drop-drop, take_at, take-append-drop, length-take-le, length-drop}
use Rattle.qc_types.specs.declared.names.Value.{Value}
use Rattle.qc_table.specs.Bits.{bit_at, HasBitAt}
use Rattle.qc_table.specs.Columns.{texts_from, Climbs}
use Rattle.qc_table.proofs.Moves.{remove_inserted}
use Rattle.qc_table.proofs.TextSteps.{climbs_up, part_kept, text_cell, texts_length}

abbrev pub raised : ℕ → List ℕ → List ℕ
raised m es = map (λ e. e + m) es

abbrev pub lowered : ℕ → List ℕ → List ℕ
lowered m es = map (λ e. e - m) es

-- ends with one more, and those behind it raised
abbrev pub with_end : ℕ → ℕ → ℕ → List ℕ → List ℕ
with_end r p m es = insert (take r es ++ raised m (drop r es)) r (p + m)

-- ends without one, and those behind it lowered
abbrev pub without_end : ℕ → ℕ → List ℕ → List ℕ
without_end r m es = take r (remove es r) ++ lowered m (drop r (remove es r))

-- ---- bytes

front_part : (xs ys zs : List ℕ) (from e : ℕ) → from ≤ e → e ≤ length xs → take (e - from) (drop from (xs ++ ys)) ≡ take (e - from) (drop from (xs ++ zs))
front_part xs ys zs from e low high = part_kept from e xs ys low high ∙ sym (part_kept from e xs zs low high)

behind_part : (xs ts ys : List ℕ) (from : ℕ) → length xs ≤ from → drop (from + length ts) (xs ++ (ts ++ ys)) ≡ drop from (xs ++ ys)
behind_part xs ts ys from high =
    let n = from - length xs in
    let all : from + length ts ≡ length xs + length ts + n = omega (arith, high) in
    let part : from ≡ length xs + n = omega (arith, high) in
    let front : drop (length xs + length ts) (xs ++ (ts ++ ys)) ≡ ys = ap (drop (length xs + length ts)) (sym (append_assoc xs ts ys)) ∙ drop_at (xs ++ ts) ys (length xs + length ts) (length-append xs ts) in
    ap (λ k. drop k (xs ++ (ts ++ ys))) all
    ∙ (sym (drop-drop n (length xs + length ts) (xs ++ (ts ++ ys)))
    ∙ (ap (drop n) (front ∙ sym (drop_at xs ys (length xs) refl))
    ∙ (drop-drop n (length xs) (xs ++ ys) ∙ ap (λ k. drop k (xs ++ ys)) (sym part))))

new_part : (xs ts ys : List ℕ) (from : ℕ) → from ≡ length xs → take (from + length ts - from) (drop from (xs ++ (ts ++ ys))) ≡ ts
new_part xs ts ys from is =
    let count : from + length ts - from ≡ length ts = omega arith in
    ap (λ k. take k (drop from (xs ++ (ts ++ ys)))) count ∙ (ap (take (length ts)) (drop_at xs (ts ++ ys) from (sym is)) ∙ take_at ts ys (length ts) refl)

pub length_inserted_bytes : (p : ℕ) (bytes ts : List ℕ) → p ≤ length bytes → length (take p bytes ++ (ts ++ drop p bytes)) ≡ length bytes + length ts
length_inserted_bytes p bytes ts low =
    let front = length-take-le p bytes low in
    omega (arith, front, length-append (take p bytes) (ts ++ drop p bytes), length-append ts (drop p bytes), length-drop p bytes)

-- ---- ends

-- where a text ends it begins, or behind that, and none ends behind the last
pub climbs_to : (from r : ℕ) (es : List ℕ) (last : ℕ) → Climbs from es last → r ≤ length es → (from ≤ get_or (from ∷ es) r 0) × (get_or (from ∷ es) r 0 ≤ last)
climbs_to from zero es last c low = (omega arith, climbs_up from es last c)
climbs_to from (suc r) [] last c low = absurd (omega arith)
climbs_to from (suc r) (e ∷ es) last c low = let rest = climbs_to e r es last c.1 (omega arith) in (omega (arith, c.0, rest.0), rest.1)

pub climbs_between : (from i j : ℕ) (es : List ℕ) (last : ℕ) → Climbs from es last → i ≤ j → j < length es → get_or es i 0 ≤ get_or es j 0
climbs_between from i j [] last c up low = absurd (omega arith)
climbs_between from zero j (e ∷ es) last c up low = (climbs_to e j es last c.1 (omega arith)).0
climbs_between from (suc i) zero (e ∷ es) last c up low = absurd (omega arith)
climbs_between from (suc i) (suc j) (e ∷ es) last c up low = climbs_between e i j es last c.1 (omega arith) (omega arith)

climbs_raised : (from m : ℕ) (es : List ℕ) (last : ℕ) → Climbs from es last → Climbs (from + m) (raised m es) (last + m)
climbs_raised from m [] last c = ap (λ n. n + m) c
climbs_raised from m (e ∷ es) last c = (omega (arith, c.0), climbs_raised e m es last c.1)

climbs_lowered : (from m : ℕ) (es : List ℕ) (last : ℕ) → m ≤ from → Climbs from es last → Climbs (from - m) (lowered m es) (last - m)
climbs_lowered from m [] last low c = ap (λ n. n - m) c
climbs_lowered from m (e ∷ es) last low c = (omega (arith, low, c.0), climbs_lowered e m es last (omega (arith, low, c.0)) c.1)

pub climbs_with : (from r p m : ℕ) (es : List ℕ) (last : ℕ) → Climbs from es last → r ≤ length es → p ≡ get_or (from ∷ es) r 0 → Climbs from (with_end r p m es) (last + m)
climbs_with from zero p m es last c low is = (omega (arith, is), subst (λ k. Climbs k (raised m es) (last + m)) (ap (λ k. k + m) (sym is)) (climbs_raised from m es last c))
climbs_with from (suc r) p m [] last c low is = absurd (omega arith)
climbs_with from (suc r) p m (e ∷ es) last c low is = (c.0, climbs_with e r p m es last c.1 (omega arith) is)

pub climbs_without : (from r m : ℕ) (es : List ℕ) (last : ℕ) → Climbs from es last → r < length es → get_or (from ∷ es) r 0 + m ≡ get_or es r 0 → Climbs from (without_end r m es) (last - m)
climbs_without from r m [] last c low is = absurd (omega arith)
climbs_without from zero m (e ∷ es) last c low is =
    let start : e - m ≡ from = omega (arith, is) in
    subst (λ k. Climbs k (lowered m es) (last - m)) start (climbs_lowered e m es last (omega (arith, is)) c.1)
climbs_without from (suc r) m (e ∷ es) last c low is = (c.0, climbs_without e r m es last c.1 (omega arith) is)

raised_back : (from m : ℕ) (es : List ℕ) (last : ℕ) → m ≤ from → Climbs from es last → raised m (lowered m es) ≡ es
raised_back from m [] last low c = refl
raised_back from m (e ∷ es) last low c =
    let one : e - m + m ≡ e = omega (arith, low, c.0) in
    ap (λ k. k ∷ raised m (lowered m es)) one ∙ ap (λ rest. e ∷ rest) (raised_back e m es last (omega (arith, low, c.0)) c.1)

-- ends of which one was taken out, with it once more
pub ends_back : (from r m : ℕ) (es : List ℕ) (last : ℕ) → Climbs from es last → r < length es → get_or (from ∷ es) r 0 + m ≡ get_or es r 0 → with_end r (get_or (from ∷ es) r 0) m (without_end r m es) ≡ es
ends_back from r m [] last c low is = absurd (omega arith)
ends_back from zero m (e ∷ es) last c low is = ap (λ k. k ∷ raised m (lowered m es)) is ∙ ap (λ rest. e ∷ rest) (raised_back e m es last (omega (arith, is)) c.1)
ends_back from (suc r) m (e ∷ es) last c low is = ap (λ rest. e ∷ rest) (ends_back e r m es last c.1 (omega arith) is)

-- the same place begins the next
pub start_without : (from r m : ℕ) (es : List ℕ) → r < length es → get_or (from ∷ without_end r m es) r 0 ≡ get_or (from ∷ es) r 0
start_without from r m [] low = absurd (omega arith)
start_without from zero m (e ∷ es) low = refl
start_without from (suc r) m (e ∷ es) low = start_without e r m es (omega arith)

length_lowered : (m : ℕ) (es : List ℕ) → length (lowered m es) ≡ length es
length_lowered m [] = refl
length_lowered m (e ∷ es) = ap suc (length_lowered m es)

length_raised : (m : ℕ) (es : List ℕ) → length (raised m es) ≡ length es
length_raised m [] = refl
length_raised m (e ∷ es) = ap suc (length_raised m es)

pub length_without : (r m : ℕ) (es : List ℕ) → r < length es → length (without_end r m es) + 1 ≡ length es
length_without r m [] low = absurd (omega arith)
length_without zero m (e ∷ es) low = let rest = length_lowered m es in omega (arith, rest)
length_without (suc r) m (e ∷ es) low = let rest = length_without r m es (omega arith) in omega (arith, rest)

pub length_with : (r p m : ℕ) (es : List ℕ) → r ≤ length es → length (with_end r p m es) ≡ length es + 1
length_with zero p m es low = let rest = length_raised m es in omega (arith, rest)
length_with (suc r) p m [] low = absurd (omega arith)
length_with (suc r) p m (e ∷ es) low = let rest = length_with r p m es (omega arith) in omega (arith, rest)

-- ---- texts

further : (at i from : ℕ) (es xs ts ys : List ℕ) (bit : Bool) (ws vs : List ℕ) → HasBitAt at bit ws vs → at ≤ i → length xs ≤ from → Climbs from es (length (xs ++ ys))
    → texts_from (i + 1) (from + length ts) (raised (length ts) es) (xs ++ (ts ++ ys)) vs ≡ texts_from i from es (xs ++ ys) ws
further at i from [] xs ts ys bit ws vs h above high c = refl
further at i from (e ∷ es) xs ts ys bit ws vs h above high c =
    let count : e + length ts - (from + length ts) ≡ e - from = omega (arith, c.0) in
    let part = ap (λ k. take k (drop (from + length ts) (xs ++ (ts ++ ys)))) count ∙ ap (take (e - from)) (behind_part xs ts ys from high) in
    rw (h.behind i above, part) (ap (λ rest. text_cell (bit_at ws i) (take (e - from) (drop from (xs ++ ys))) ∷ rest) (further at (i + 1) e es xs ts ys bit ws vs h (omega arith) (omega (arith, high, c.0)) c.1))

put_from : (at i r from : ℕ) (es xs ts ys : List ℕ) (bit : Bool) (ws vs : List ℕ) → HasBitAt at bit ws vs → at ≡ i + r → r ≤ length es → get_or (from ∷ es) r 0 ≡ length xs → Climbs from es (length (xs ++ ys))
    → texts_from i from (with_end r (length xs) (length ts) es) (xs ++ (ts ++ ys)) vs ≡ insert (texts_from i from es (xs ++ ys) ws) r (text_cell bit ts)
put_from at i zero from es xs ts ys bit ws vs h is low start c =
    let here : i ≡ at = omega (arith, is) in
    let one : bit_at vs i ≡ bit = ap (bit_at vs) here ∙ h.here in
    let part : take (length xs + length ts - from) (drop from (xs ++ (ts ++ ys))) ≡ ts = rw (← start) (new_part xs ts ys from start) in
    ap (λ b. text_cell b (take (length xs + length ts - from) (drop from (xs ++ (ts ++ ys)))) ∷ texts_from (i + 1) (length xs + length ts) (raised (length ts) es) (xs ++ (ts ++ ys)) vs) one
    ∙ (ap (λ us. text_cell bit us ∷ texts_from (i + 1) (length xs + length ts) (raised (length ts) es) (xs ++ (ts ++ ys)) vs) part
    ∙ ap (λ rest. text_cell bit ts ∷ rest) (ap (λ k. texts_from (i + 1) (k + length ts) (raised (length ts) es) (xs ++ (ts ++ ys)) vs) (sym start) ∙ further at i from es xs ts ys bit ws vs h (omega (arith, is)) (omega (arith, start)) c))
put_from at i (suc r) from [] xs ts ys bit ws vs h is low start c = absurd (omega arith)
put_from at i (suc r) from (e ∷ es) xs ts ys bit ws vs h is low start c =
    let up = climbs_to e r es (length (xs ++ ys)) c.1 (omega arith) in
    let part = front_part xs (ts ++ ys) ys from e c.0 (omega (arith, up.0, start)) in
    ap (λ b. text_cell b (take (e - from) (drop from (xs ++ (ts ++ ys)))) ∷ texts_from (i + 1) e (with_end r (length xs) (length ts) es) (xs ++ (ts ++ ys)) vs) (h.front i (omega (arith, is)))
    ∙ (ap (λ us. text_cell (bit_at ws i) us ∷ texts_from (i + 1) e (with_end r (length xs) (length ts) es) (xs ++ (ts ++ ys)) vs) part
    ∙ ap (λ rest. text_cell (bit_at ws i) (take (e - from) (drop from (xs ++ ys))) ∷ rest) (put_from at (i + 1) r e es xs ts ys bit ws vs h (omega (arith, is)) (omega arith) start c.1))

-- a text between others
pub inserted : (at p : ℕ) (es bytes ts : List ℕ) (bit : Bool) (ws vs : List ℕ) → HasBitAt at bit ws vs → at ≤ length es → p ≡ get_or (0 ∷ es) at 0 → Climbs 0 es (length bytes)
    → texts_from 0 0 (with_end at p (length ts) es) (take p bytes ++ (ts ++ drop p bytes)) vs ≡ insert (texts_from 0 0 es bytes ws) at (text_cell bit ts)
inserted at p es bytes ts bit ws vs h low is c =
    let within = (climbs_to 0 at es (length bytes) c low).1 in
    let size : length (take p bytes) ≡ p = length-take-le p bytes (omega (arith, within, is)) in
    let whole : take p bytes ++ drop p bytes ≡ bytes = take-append-drop p bytes in
    let one = put_from at 0 at 0 es (take p bytes) ts (drop p bytes) bit ws vs h (omega arith) low (sym is ∙ sym size) (subst (λ bs. Climbs 0 es (length bs)) (sym whole) c) in
    ap (λ k. texts_from 0 0 (with_end at k (length ts) es) (take p bytes ++ (ts ++ drop p bytes)) vs) (sym size) ∙ (one ∙ ap (λ bs. insert (texts_from 0 0 es bs ws) at (text_cell bit ts)) whole)

-- a text that is taken out
pub removed : (at p q : ℕ) (es bytes : List ℕ) (bit : Bool) (ws vs : List ℕ) → HasBitAt at bit vs ws → at < length es → p ≡ get_or (0 ∷ es) at 0 → q ≡ get_or es at 0 → p ≤ q → q ≤ length bytes → Climbs 0 es (length bytes)
    → (texts_from 0 0 (without_end at (q - p) es) (take p bytes ++ drop q bytes) vs ≡ remove (texts_from 0 0 es bytes ws) at) × Climbs 0 (without_end at (q - p) es) (length (take p bytes ++ drop q bytes))
removed at p q es bytes bit ws vs h low from to order high c =
    let m = q - p in
    let fs = without_end at m es in
    let xs = take p bytes in
    let ts = take m (drop p bytes) in
    let ys = drop q bytes in
    let gap : get_or (0 ∷ es) at 0 + m ≡ get_or es at 0 = omega (arith, from, to, order) in
    let size : length xs ≡ p = length-take-le p bytes (omega (arith, order, high)) in
    let count : length ts ≡ m = length-take-le m (drop p bytes) (omega (arith, order, high, length-drop p bytes)) in
    let rest : drop m (drop p bytes) ≡ ys = drop-drop m p bytes ∙ ap (λ k. drop k bytes) (let n : p + m ≡ q = omega (arith, order) in n) in
    let whole : xs ++ (ts ++ ys) ≡ bytes = ap (λ us. xs ++ (ts ++ us)) (sym rest) ∙ (ap (λ us. xs ++ us) (take-append-drop m (drop p bytes)) ∙ take-append-drop p bytes) in
    let less : length (xs ++ ys) ≡ length bytes - m = omega (arith, length-append xs ys, size, length-drop q bytes, order, high) in
    let climbs : Climbs 0 fs (length (xs ++ ys)) = subst (Climbs 0 fs) (sym less) (climbs_without 0 at m es (length bytes) c low gap) in
    let fewer = length_without at m es low in
    let start : get_or (0 ∷ fs) at 0 ≡ length xs = start_without 0 at m es low ∙ (sym from ∙ sym size) in
    let one = put_from at 0 at 0 fs xs ts ys bit vs ws h (omega arith) (omega (arith, low, fewer)) start climbs in
    let ends : with_end at (length xs) (length ts) fs ≡ es = ap (λ k. with_end at k (length ts) fs) (size ∙ from) ∙ (ap (λ k. with_end at (get_or (0 ∷ es) at 0) k fs) count ∙ ends_back 0 at m es (length bytes) c low gap) in
    let before : texts_from 0 0 es bytes ws ≡ insert (texts_from 0 0 fs (xs ++ ys) vs) at (text_cell bit ts) = sym (ap (λ gs. texts_from 0 0 gs (xs ++ (ts ++ ys)) ws) ends ∙ ap (λ bs. texts_from 0 0 es bs ws) whole) ∙ one in
    let texts = texts_length 0 0 fs (xs ++ ys) vs in
    (sym (remove_inserted (texts_from 0 0 fs (xs ++ ys) vs) at (text_cell bit ts) (omega (arith, texts, low, fewer))) ∙ ap (λ (us : List Value). remove us at) (sym before), climbs)

-- ---- numbers of which those from an index on are changed, one after another

abbrev pub partly : (ℕ → ℕ) → ℕ → ℕ → List ℕ → List ℕ
partly f zero zero xs = xs
partly f zero (suc k) [] = []
partly f zero (suc k) (x ∷ xs) = f x ∷ partly f zero k xs
partly f (suc from) k [] = []
partly f (suc from) k (x ∷ xs) = x ∷ partly f from k xs

partly_none : (f : ℕ → ℕ) (from : ℕ) (xs : List ℕ) → partly f from 0 xs ≡ xs
partly_none f zero xs = refl
partly_none f (suc from) [] = refl
partly_none f (suc from) (x ∷ xs) = ap (λ rest. x ∷ rest) (partly_none f from xs)

pub partly_begun : (f : ℕ → ℕ) (from i : ℕ) (xs : List ℕ) → i ≡ from → xs ≡ partly f from (i - from) xs
partly_begun f from i xs is =
    let none : i - from ≡ 0 = omega (arith, is) in
    sym (ap (λ k. partly f from k xs) none ∙ partly_none f from xs)

partly_read : (f : ℕ → ℕ) (from k j : ℕ) (xs : List ℕ) → j ≡ from + k → get_or (partly f from k xs) j 0 ≡ get_or xs j 0
partly_read f zero zero j xs is = refl
partly_read f zero (suc k) j [] is = refl
partly_read f zero (suc k) zero (x ∷ xs) is = absurd (omega (arith, is))
partly_read f zero (suc k) (suc j) (x ∷ xs) is = partly_read f zero k j xs (omega (arith, is))
partly_read f (suc from) k j [] is = refl
partly_read f (suc from) k zero (x ∷ xs) is = refl
partly_read f (suc from) k (suc j) (x ∷ xs) is = partly_read f from k j xs (omega (arith, is))

-- the next one is as it was
pub next_is : (f : ℕ → ℕ) (from i : ℕ) (xs ys : List ℕ) → from ≤ i → ys ≡ partly f from (i - from) xs → get_or ys i 0 ≡ get_or xs i 0
next_is f from i xs ys low is = ap (λ (zs : List ℕ). get_or zs i 0) is ∙ partly_read f from (i - from) i xs (omega (arith, low))

partly_step : (f : ℕ → ℕ) (from k j y : ℕ) (xs : List ℕ) → j ≡ from + k → j < length xs → y ≡ get_or xs j 0 → set (partly f from k xs) j (f y) ≡ partly f from (suc k) xs
partly_step f from k j y [] is low read = absurd (omega arith)
partly_step f zero zero zero y (x ∷ xs) is low read = ap (λ (z : ℕ). f z ∷ xs) read
partly_step f zero zero (suc j) y (x ∷ xs) is low read = absurd (omega (arith, is))
partly_step f zero (suc k) zero y (x ∷ xs) is low read = absurd (omega (arith, is))
partly_step f zero (suc k) (suc j) y (x ∷ xs) is low read = ap (λ (rest : List ℕ). f x ∷ rest) (partly_step f zero k j y xs (omega (arith, is)) (omega (arith, low)) read)
partly_step f (suc from) k zero y (x ∷ xs) is low read = absurd (omega (arith, is))
partly_step f (suc from) k (suc j) y (x ∷ xs) is low read = ap (λ (rest : List ℕ). x ∷ rest) (partly_step f from k j y xs (omega (arith, is)) (omega (arith, low)) read)

pub partly_more : (f : ℕ → ℕ) (from i y : ℕ) (xs ys : List ℕ) → from ≤ i → i < length xs → ys ≡ partly f from (i - from) xs → y ≡ get_or ys i 0 → set ys i (f y) ≡ partly f from (i + 1 - from) xs
partly_more f from i y xs ys low high is read =
    let up : suc (i - from) ≡ i + 1 - from = omega (arith, low) in
    let old : y ≡ get_or xs i 0 = read ∙ next_is f from i xs ys low is in
    ap (λ (zs : List ℕ). set zs i (f y)) is ∙ (partly_step f from (i - from) i y xs (omega (arith, low)) high old ∙ ap (λ k. partly f from k xs) up)

partly_whole : (f : ℕ → ℕ) (from k : ℕ) (xs : List ℕ) → length xs ≤ from + k → partly f from k xs ≡ take from xs ++ map f (drop from xs)
partly_whole f zero zero [] all = refl
partly_whole f zero zero (x ∷ xs) all = absurd (omega arith)
partly_whole f zero (suc k) [] all = refl
partly_whole f zero (suc k) (x ∷ xs) all = ap (λ rest. f x ∷ rest) (partly_whole f zero k xs (omega arith))
partly_whole f (suc from) k [] all = refl
partly_whole f (suc from) k (x ∷ xs) all = ap (λ rest. x ∷ rest) (partly_whole f from k xs (omega arith))

pub partly_done : (f : ℕ → ℕ) (from i : ℕ) (xs ys : List ℕ) → from ≤ i → length xs ≤ i → ys ≡ partly f from (i - from) xs → ys ≡ take from xs ++ map f (drop from xs)
partly_done f from i xs ys low all is = is ∙ partly_whole f from (i - from) xs (omega (arith, low, all))
