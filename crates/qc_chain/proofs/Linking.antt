-- What the links say after a node is taken out, and after it is put in.
use Rattle.std.proofs.Common.{◌≡◌, ◌≢◌, ℕ, zero, suc, ◌+◌, ◌-◌, ◌<◌, ◌≤◌, true, false, cond, List, [], ◌∷◌, ◌++◌, map, drop, length, set, replicate, Some, None, ◌^◌, refl, sym, ap, ◌∙◌, subst, inl, inr, ◌==◌, arith}
use Rattle.std.specs.List.{slice_index, slice_get}
use Rattle.std.proofs.lemmas.List.{length-map, length-drop, length-set, length-replicate, get_or-replicate, get_or-map, get_or-drop, get_or-set_same, get_or-set_other, ext_get_or}
use Rattle.std.proofs.lemmas.Bool.{eq-eqb, ne_eqb, cases_eq, cases_lt, lt-ltb}
use Rattle.qc_chain.specs.Linked.{Linked, nodes_of, without, IsLast, put_last, standing, walk, walk_end, lists_of, IsBothWays, IsLinked}
use Rattle.qc_chain.proofs.Counting.{few, standing-without, standing-without_other, standing-put, standing-le, nodes-put, nodes-without, nodes-moved}
use Rattle.qc_chain.proofs.ListWalks.{ended, step, tight, below, IsCut, cut_walk, IsJoined, join_walk}

-- ---- the links of one place

written : (xs : List ℕ) (i v y : ℕ) → i < length xs → slice_index (set xs i v) y ≡ cond (y == i) v (slice_index xs y)
written xs i v y h =
    elim (cases_eq y i) [
      | inl same ↦ rw (eq-eqb y i same) (ap (λ j. slice_index (set xs i v) j) same ∙ get_or-set_same xs i v 0 h)
      | inr other ↦ rw (ne_eqb y i other) (get_or-set_other xs i y v 0 other)
    ]

-- `next` after `unlink`, and `previous` too, with the two changed over
abbrev pub unlinked : List ℕ → List ℕ → ℕ → List ℕ
unlinked a b x = set (set a (slice_index b x) (slice_index a x)) x x

pub cut-here : (a b : List ℕ) (x : ℕ) → x < length a → slice_index (unlinked a b x) x ≡ x
cut-here a b x h = get_or-set_same (set a (slice_index b x) (slice_index a x)) x x 0 (omega (arith, h, length-set a (slice_index b x) (slice_index a x)))

pub cut-other : (a b : List ℕ) (m x : ℕ) → IsBothWays (slice_index a) (slice_index b) m → IsBothWays (slice_index b) (slice_index a) m → m ≡ length a → x < m → IsCut (slice_index a) (slice_index (unlinked a b x)) m x
cut-other a b m x forth back long low y inside ne =
    get_or-set_other (set a (slice_index b x) (slice_index a x)) x y x 0 ne
    ∙ (written a (slice_index b x) (slice_index a x) y (omega (arith, long, back.within x low))
    ∙ elim (cases_eq (slice_index a y) x) [
      | inl same ↦ (let there : y ≡ slice_index b x = sym (forth.back y inside) ∙ ap (slice_index b) same in rw (eq-eqb (slice_index a y) x same, eq-eqb y (slice_index b x) there) refl)
      | inr other ↦ rw (ne_eqb (slice_index a y) x other, ne_eqb y (slice_index b x) (λ e. other (ap (slice_index a) e ∙ back.back x low))) refl
    ])

-- ---- both ways

abbrev Both : (ℕ → ℕ) → (ℕ → ℕ) → ℕ → Type 0
Both f g m = IsBothWays f g m

pub both-cut : (f g h k : ℕ → ℕ) (m x : ℕ) → Both f g m → Both g f m → x < m → IsCut f h m x → h x ≡ x → IsCut g k m x → k x ≡ x → Both h k m
both-cut f g h k m x forth back low cut here cut' here' = record { within = within; back = return }
  where
    within : (y : ℕ) → y < m → h y < m
    within y inside =
        elim (cases_eq y x) [
          | inl same ↦ omega (arith, ap h same, here, low)
          | inr other ↦ rw (cut y inside other) (elim (f y == x) as (λ v. cond v (f x) (f y) < m) [ true ↦ forth.within x low | false ↦ forth.within y inside ])
        ]

    over : (y : ℕ) → y < m → y ≢ x → f y ≡ x → k (f x) ≡ y
    over y inside ne same =
        let apart : f x ≢ x = λ e. ne (sym (forth.back y inside) ∙ (ap g same ∙ (sym (ap g e) ∙ forth.back x low))) in
        cut' (f x) (forth.within x low) apart ∙ (rw (eq-eqb (g (f x)) x (forth.back x low)) (sym (ap g same) ∙ forth.back y inside))

    beside : (y : ℕ) → y < m → y ≢ x → f y ≢ x → k (f y) ≡ y
    beside y inside ne other = cut' (f y) (forth.within y inside) other ∙ (rw (ne_eqb (g (f y)) x (λ e. ne (sym (forth.back y inside) ∙ e))) (forth.back y inside))

    return : (y : ℕ) → y < m → k (h y) ≡ y
    return y inside =
        elim (cases_eq y x) [
          | inl same ↦ subst (λ z. k (h z) ≡ z) (sym same) (ap k here ∙ here')
          | inr other ↦ elim (cases_eq (f y) x) [
            | inl at ↦ ap k (cut y inside other ∙ rw (eq-eqb (f y) x at) refl) ∙ over y inside other at
            | inr off ↦ ap k (cut y inside other ∙ rw (ne_eqb (f y) x off) refl) ∙ beside y inside other off
          ]
        ]

-- a node that is in front of the end
pub record IsSet (f g h k : ℕ → ℕ) (m x s : ℕ) : Type 0 where
  pub next : IsJoined f h m x s
  pub next_here : h x ≡ s
  pub previous : (y : ℕ) → y < m → y ≢ x → k y ≡ cond (y == s) x (g y)
  pub previous_here : k x ≡ g s

apart : (f g : ℕ → ℕ) (m x : ℕ) → Both f g m → x < m → f x ≡ x → (y : ℕ) → y < m → y ≢ x → f y ≢ x
apart f g m x forth low loose y inside ne e = ne (sym (forth.back y inside) ∙ (ap g (e ∙ sym loose) ∙ forth.back x low))

pub both-join : (f g h k : ℕ → ℕ) (m x s : ℕ) → Both f g m → Both g f m → x < m → s < m → x ≢ s → f x ≡ x → IsSet f g h k m x s → Both h k m
both-join f g h k m x s forth back low end differ loose p = record { within = within; back = return }
  where
    within : (y : ℕ) → y < m → h y < m
    within y inside =
        elim (cases_eq y x) [
          | inl same ↦ omega (arith, ap h same, p.next_here, end)
          | inr other ↦ rw (p.next y inside other) (elim (f y == s) as (λ v. cond v x (f y) < m) [ true ↦ low | false ↦ forth.within y inside ])
        ]

    return : (y : ℕ) → y < m → k (h y) ≡ y
    return y inside =
        elim (cases_eq y x) [
          | inl same ↦ subst (λ z. k (h z) ≡ z) (sym same) (ap k p.next_here ∙ (p.previous s end (λ e. differ (sym e)) ∙ rw (eq-eqb s s refl) refl))
          | inr other ↦ elim (cases_eq (f y) s) [
            | inl at ↦ ap k (p.next y inside other ∙ rw (eq-eqb (f y) s at) refl) ∙ (p.previous_here ∙ (sym (ap g at) ∙ forth.back y inside))
            | inr off ↦ ap k (p.next y inside other ∙ rw (ne_eqb (f y) s off) refl) ∙ (p.previous (f y) (forth.within y inside) (apart f g m x forth low loose y inside other) ∙ (rw (ne_eqb (f y) s off) (forth.back y inside)))
          ]
        ]

pub both-join_back : (f g h k : ℕ → ℕ) (m x s : ℕ) → Both f g m → Both g f m → x < m → s < m → x ≢ s → f x ≡ x → g x ≡ x → IsSet f g h k m x s → Both k h m
both-join_back f g h k m x s forth back low end differ loose loose' p = record { within = within; back = return }
  where
    within : (y : ℕ) → y < m → k y < m
    within y inside =
        elim (cases_eq y x) [
          | inl same ↦ omega (arith, ap k same, p.previous_here, back.within s end)
          | inr other ↦ rw (p.previous y inside other) (elim (y == s) as (λ v. cond v x (g y) < m) [ true ↦ low | false ↦ back.within y inside ])
        ]

    last : g s ≢ x
    last = apart g f m x back low loose' s end (λ e. differ (sym e))

    return : (y : ℕ) → y < m → h (k y) ≡ y
    return y inside =
        elim (cases_eq y x) [
          | inl same ↦ subst (λ z. h (k z) ≡ z) (sym same) (ap h p.previous_here ∙ (p.next (g s) (back.within s end) last ∙ rw (eq-eqb (f (g s)) s (back.back s end)) refl))
          | inr other ↦ elim (cases_eq y s) [
            | inl at ↦ ap h (p.previous y inside other ∙ rw (eq-eqb y s at) refl) ∙ (p.next_here ∙ sym at)
            | inr off ↦ ap h (p.previous y inside other ∙ rw (ne_eqb y s off) refl) ∙ (p.next (g y) (back.within y inside) (apart g f m x back low loose' y inside other) ∙ (rw (ne_eqb (f (g y)) s (λ e. off (sym (back.back y inside) ∙ e))) (back.back y inside)))
          ]
        ]

-- ---- the lists

pub length-lists : (next : List ℕ) (n : ℕ) → length (lists_of next n) ≡ length next - n
length-lists next n = length-map (drop n next) (walk (slice_index next) n n) ∙ length-drop n next

pub list-at : (next : List ℕ) (n l : ℕ) → n + l < length next → nodes_of l (lists_of next n) ≡ walk (slice_index next) n n (slice_index next (n + l))
list-at next n l h = get_or-map (walk (slice_index next) n n) (drop n next) l 0 [] (omega (arith, h, length-drop n next)) ∙ ap (walk (slice_index next) n n) (get_or-drop n next l 0)

same_lists : (next : List ℕ) (n : ℕ) (lists : List (List ℕ)) → length lists ≡ length next - n → ((l : ℕ) → n + l < length next → walk (slice_index next) n n (slice_index next (n + l)) ≡ nodes_of l lists) → lists_of next n ≡ lists
same_lists next n lists long each = ext_get_or [] (lists_of next n) lists (length-lists next n ∙ sym long)
    (λ l h. let inside : n + l < length next = omega (arith, h, length-lists next n) in list-at next n l inside ∙ each l inside)

-- ---- one node less

pub record IsKept (next previous : List ℕ) (n : ℕ) (lists : List (List ℕ)) : Type 0 where
  pub linked : IsLinked next previous n
  pub are : lists_of next n ≡ lists

pub cut : (next previous : List ℕ) (n x : ℕ) → IsLinked next previous n → x < n → IsKept (unlinked next previous x) (unlinked previous next x) n (map (without x) (lists_of next n))
cut next previous n x h low = record {
  linked = record {
    same = long' ∙ (h.same ∙ sym long);
    fits = omega (arith, long, h.fits);
    few = omega (arith, long, h.few);
    forth = subst (λ m. IsBothWays (slice_index (unlinked next previous x)) (slice_index (unlinked previous next x)) m) (sym long) (both-cut (slice_index next) (slice_index previous) (slice_index (unlinked next previous x)) (slice_index (unlinked previous next x)) (length next) x h.forth h.back inside step here step' here');
    back = subst (λ m. IsBothWays (slice_index (unlinked previous next x)) (slice_index (unlinked next previous x)) m) (sym long) (both-cut (slice_index previous) (slice_index next) (slice_index (unlinked previous next x)) (slice_index (unlinked next previous x)) (length next) x h.back h.forth inside step' here' step here);
    closed = λ e low' high. (walked e low' (omega (arith, long, high))).1;
    once = once;
  };
  are = lists;
}
  where
    inside : x < length next
    inside = omega (arith, low, h.few)

    long : length (unlinked next previous x) ≡ length next
    long = length-set (set next ((slice_index previous) x) ((slice_index next) x)) x x ∙ length-set next ((slice_index previous) x) ((slice_index next) x)

    long' : length (unlinked previous next x) ≡ length previous
    long' = length-set (set previous ((slice_index next) x) ((slice_index previous) x)) x x ∙ length-set previous ((slice_index next) x) ((slice_index previous) x)

    step : IsCut (slice_index next) (slice_index (unlinked next previous x)) (length next) x
    step = cut-other next previous (length next) x h.forth h.back refl inside

    step' : IsCut (slice_index previous) (slice_index (unlinked previous next x)) (length next) x
    step' = cut-other previous next (length next) x h.back h.forth (sym h.same) inside

    here : (slice_index (unlinked next previous x)) x ≡ x
    here = cut-here next previous x inside

    here' : (slice_index (unlinked previous next x)) x ≡ x
    here' = cut-here previous next x (omega (arith, inside, h.same))

    walked : (e : ℕ) → n ≤ e → e < length next → (walk (slice_index (unlinked next previous x)) n n ((slice_index (unlinked next previous x)) e) ≡ without x (walk (slice_index next) n n ((slice_index next) e))) × (walk_end (slice_index (unlinked next previous x)) n n ((slice_index (unlinked next previous x)) e) ≡ e)
    walked e low' high =
        let closed = h.closed e low' high in
        let less = cut_walk (slice_index next) (slice_index (unlinked next previous x)) n (length next) x h.forth.within step low h.few n ((slice_index next) e) (h.forth.within e high) (omega (arith, closed, low')) in
        rw (step e high (λ s. omega (arith, s, low, low'))) (less.0, less.1 ∙ closed)

    lists : lists_of (unlinked next previous x) n ≡ map (without x) (lists_of next n)
    lists = same_lists (unlinked next previous x) n (map (without x) (lists_of next n)) (length-map (lists_of next n) (without x) ∙ (length-lists next n ∙ ap (λ m. m - n) (sym long)))
        (λ l high. let high' : n + l < length next = omega (arith, high, long) in
        (walked (n + l) (omega arith) high').0 ∙ (sym (ap (without x) (list-at next n l high')) ∙ sym (nodes-without x l (lists_of next n) (omega (arith, high', length-lists next n)))))

    once : (y : ℕ) → standing y (lists_of (unlinked next previous x) n) ≤ 1
    once y = rw lists
        (elim (cases_eq y x) [
          | inl same ↦ rw same (omega (arith, standing-without x (lists_of next n)))
          | inr other ↦ omega (arith, standing-without_other x y (lists_of next n) other, h.once y)
        ])

-- ---- one node more

abbrev pub linked_next : List ℕ → List ℕ → ℕ → ℕ → List ℕ
linked_next next previous x s = set (set next (slice_index previous s) x) x s

abbrev pub linked_previous : List ℕ → ℕ → ℕ → List ℕ
linked_previous previous x s = set (set previous x (slice_index previous s)) s x

pub set-links : (next previous : List ℕ) (n x s : ℕ) → IsLinked next previous n → x < n → n ≤ s → s < length next → IsSet (slice_index next) (slice_index previous) (slice_index (linked_next next previous x s)) (slice_index (linked_previous previous x s)) (length next) x s
set-links next previous n x s h low end high = record {
  next = λ y inside ne. get_or-set_other (set next ((slice_index previous) s) x) x y s 0 ne ∙ (written next ((slice_index previous) s) x y (h.back.within s high) ∙ turned y inside);
  next_here = get_or-set_same (set next ((slice_index previous) s) x) x s 0 (omega (arith, length-set next ((slice_index previous) s) x, low, h.few));
  previous = λ y inside ne. written (set previous x ((slice_index previous) s)) s x y (omega (arith, length-set previous x ((slice_index previous) s), high, h.same)) ∙ ap (λ z. cond (y == s) x z) (get_or-set_other previous x y ((slice_index previous) s) 0 ne);
  previous_here = get_or-set_other (set previous x ((slice_index previous) s)) s x x 0 (λ e. omega (arith, e, low, end)) ∙ get_or-set_same previous x ((slice_index previous) s) 0 (omega (arith, low, h.few, h.same));
}
  where
    turned : (y : ℕ) → y < length next → cond (y == (slice_index previous) s) x ((slice_index next) y) ≡ cond ((slice_index next) y == s) x ((slice_index next) y)
    turned y inside =
        elim (cases_eq ((slice_index next) y) s) [
          | inl same ↦ rw (eq-eqb ((slice_index next) y) s same, eq-eqb y ((slice_index previous) s) (sym (h.forth.back y inside) ∙ ap (slice_index previous) same)) refl
          | inr other ↦ rw (ne_eqb ((slice_index next) y) s other, ne_eqb y ((slice_index previous) s) (λ e. other (ap (slice_index next) e ∙ h.back.back s high))) refl
        ]

pub join : (next previous : List ℕ) (n x l : ℕ) → IsLinked next previous n → x < n → n + l < length next → slice_index next x ≡ x → slice_index previous x ≡ x → standing x (lists_of next n) ≡ 0
    → IsKept (linked_next next previous x (n + l)) (linked_previous previous x (n + l)) n (put_last x l (lists_of next n))
join next previous n x l h low high loose loose' alone = record {
  linked = record {
    same = long' ∙ (h.same ∙ sym long);
    fits = omega (arith, long, h.fits);
    few = omega (arith, long, h.few);
    forth = subst (λ m. IsBothWays (slice_index (linked_next next previous x (n + l))) (slice_index (linked_previous previous x (n + l))) m) (sym long) (both-join (slice_index next) (slice_index previous) (slice_index (linked_next next previous x (n + l))) (slice_index (linked_previous previous x (n + l))) (length next) x (n + l) h.forth h.back inside high differ loose links);
    back = subst (λ m. IsBothWays (slice_index (linked_previous previous x (n + l))) (slice_index (linked_next next previous x (n + l))) m) (sym long) (both-join_back (slice_index next) (slice_index previous) (slice_index (linked_next next previous x (n + l))) (slice_index (linked_previous previous x (n + l))) (length next) x (n + l) h.forth h.back inside high differ loose loose' links);
    closed = λ e low' high'. (whole e low' (omega (arith, long, high'))).1;
    once = λ y. rw lists (once y);
  };
  are = lists;
}
  where
    inside : x < length next
    inside = omega (arith, low, h.few)

    differ : x ≢ n + l
    differ e = omega (arith, e, low)

    long : length (linked_next next previous x (n + l)) ≡ length next
    long = length-set (set next ((slice_index previous) (n + l)) x) x (n + l) ∙ length-set next ((slice_index previous) (n + l)) x

    long' : length (linked_previous previous x (n + l)) ≡ length previous
    long' = length-set (set previous x ((slice_index previous) (n + l))) (n + l) x ∙ length-set previous x ((slice_index previous) (n + l))

    links : IsSet (slice_index next) (slice_index previous) (slice_index (linked_next next previous x (n + l))) (slice_index (linked_previous previous x (n + l))) (length next) x (n + l)
    links = set-links next previous n x (n + l) h low (omega arith) high

    once : (y : ℕ) → standing y (put_last x l (lists_of next n)) ≤ 1
    once y =
        let put = standing-put x y l (lists_of next n) (omega (arith, high, length-lists next n)) in
        elim (cases_eq x y) [
          | inl same ↦ omega (arith, put, rw (eq-eqb x y same) at put, ap (λ z. standing z (lists_of next n)) same, alone)
          | inr other ↦ omega (arith, rw (ne_eqb x y other) at put, h.once y)
        ]

    -- with room for one node more
    walked : (e : ℕ) → n ≤ e → e < length next → (walk (slice_index (linked_next next previous x (n + l))) n (suc n) ((slice_index (linked_next next previous x (n + l))) e) ≡ walk (slice_index next) n n ((slice_index next) e) ++ cond (e == (n + l)) (x ∷ []) []) × (walk_end (slice_index (linked_next next previous x (n + l))) n (suc n) ((slice_index (linked_next next previous x (n + l))) e) ≡ e)
    walked e low' high' =
        let closed = h.closed e low' high' in
        let ne : e ≢ x = λ q. omega (arith, q, low, low') in
        let more = join_walk (slice_index next) (slice_index (linked_next next previous x (n + l))) n (length next) x (n + l) h.forth.within (apart (slice_index next) (slice_index previous) (length next) x h.forth inside loose) links.next links.next_here low (omega arith) n ((slice_index next) e) (h.forth.within e high') (apart (slice_index next) (slice_index previous) (length next) x h.forth inside loose e high' ne) (omega (arith, closed, low')) in
        rw (links.next e high' ne) (more.0 ∙ ap (λ z. walk (slice_index next) n n ((slice_index next) e) ++ cond (z == (n + l)) (x ∷ []) []) closed, more.1 ∙ closed)

    shifted : (k : ℕ) → ((n + k) == (n + l)) ≡ (k == l)
    shifted k =
        elim (cases_eq k l) [
          | inl same ↦ eq-eqb (n + k) (n + l) (ap (λ j. n + j) same) ∙ sym (eq-eqb k l same)
          | inr other ↦ ne_eqb (n + k) (n + l) (λ e. other (omega (arith, e))) ∙ sym (ne_eqb k l other)
        ]

    of_list : (k : ℕ) → n + k < length next → walk (slice_index (linked_next next previous x (n + l))) n (suc n) ((slice_index (linked_next next previous x (n + l))) (n + k)) ≡ nodes_of k (put_last x l (lists_of next n))
    of_list k high' =
        (walked (n + k) (omega arith) high').0
        ∙ (ap (λ zs. zs ++ cond ((n + k) == (n + l)) (x ∷ []) []) (sym (list-at next n k high'))
        ∙ (ap (λ b. nodes_of k (lists_of next n) ++ cond b (x ∷ []) []) (shifted k) ∙ sym (nodes-put x l k (lists_of next n) (omega (arith, high', length-lists next n)))))

    short : (k : ℕ) → n + k < length next → length (walk (slice_index (linked_next next previous x (n + l))) n (suc n) ((slice_index (linked_next next previous x (n + l))) (n + k))) ≤ n
    short k high' =
        let in' : k < length (put_last x l (lists_of next n)) = omega (arith, high', length-lists next n, length-set (lists_of next n) l (nodes_of l (lists_of next n) ++ x ∷ [])) in
        few n (walk (slice_index (linked_next next previous x (n + l))) n (suc n) ((slice_index (linked_next next previous x (n + l))) (n + k)))
        (λ y. rw (of_list k high') (omega (arith, standing-le y k (put_last x l (lists_of next n)) in', once y)))
        (below (slice_index (linked_next next previous x (n + l))) n (suc n) ((slice_index (linked_next next previous x (n + l))) (n + k)))

    whole : (e : ℕ) → n ≤ e → e < length next → (walk (slice_index (linked_next next previous x (n + l))) n n ((slice_index (linked_next next previous x (n + l))) e) ≡ walk (slice_index (linked_next next previous x (n + l))) n (suc n) ((slice_index (linked_next next previous x (n + l))) e)) × (walk_end (slice_index (linked_next next previous x (n + l))) n n ((slice_index (linked_next next previous x (n + l))) e) ≡ e)
    whole e low' high' =
        let there : n + (e - n) ≡ e = omega (arith, low') in
        let fit : length (walk (slice_index (linked_next next previous x (n + l))) n (suc n) ((slice_index (linked_next next previous x (n + l))) e)) ≤ n = subst (λ z. length (walk (slice_index (linked_next next previous x (n + l))) n (suc n) ((slice_index (linked_next next previous x (n + l))) z)) ≤ n) there (short (e - n) (omega (arith, high', there))) in
        let tighter = tight (slice_index (linked_next next previous x (n + l))) n n ((slice_index (linked_next next previous x (n + l))) e) fit in
        (tighter.0, tighter.1 ∙ (walked e low' high').1)

    lists : lists_of (linked_next next previous x (n + l)) n ≡ put_last x l (lists_of next n)
    lists = same_lists (linked_next next previous x (n + l)) n (put_last x l (lists_of next n)) (length-set (lists_of next n) l (nodes_of l (lists_of next n) ++ x ∷ []) ∙ (length-lists next n ∙ ap (λ m. m - n) (sym long)))
        (λ k high'. let in' : n + k < length next = omega (arith, high', long) in (whole (n + k) (omega arith) in').0 ∙ of_list k in')

-- ---- no list has a node yet

pub fresh : (next previous : List ℕ) (n lists : ℕ) → n + lists < 2 ^ 32 → (length next ≡ n + lists) × ((k : ℕ) → k < n + lists → slice_index next k ≡ k) → (length previous ≡ n + lists) × ((k : ℕ) → k < n + lists → slice_index previous k ≡ k) → IsKept next previous n (replicate lists [])
fresh next previous n lists small a b = record {
  linked = record {
    same = b.0 ∙ sym a.0;
    fits = omega (arith, a.0, small);
    few = omega (arith, a.0);
    forth = record { within = λ k l. omega (arith, a.1 k (omega (arith, l, a.0)), l); back = λ k l. own (omega (arith, l, a.0)) };
    back = record { within = λ k l. omega (arith, b.1 k (omega (arith, l, a.0)), l); back = λ k l. own' (omega (arith, l, a.0)) };
    closed = λ e low high. let own : slice_index next e ≡ e = a.1 e (omega (arith, high, a.0)) in ap (walk_end (slice_index next) n n) own ∙ (ended (slice_index next) n n e low).1;
    once = λ x. rw none (empty x lists);
  };
  are = none;
}
  where
    own : {k : ℕ} → k < n + lists → slice_index previous (slice_index next k) ≡ k
    own {k} l = ap (slice_index previous) (a.1 k l) ∙ b.1 k l

    own' : {k : ℕ} → k < n + lists → slice_index next (slice_index previous k) ≡ k
    own' {k} l = ap (slice_index next) (b.1 k l) ∙ a.1 k l

    none : lists_of next n ≡ replicate lists []
    none = same_lists next n (replicate lists []) (length-replicate lists [] ∙ omega (arith, a.0))
        (λ l h. let own : slice_index next (n + l) ≡ n + l = a.1 (n + l) (omega (arith, h, a.0)) in
        ap (walk (slice_index next) n n) own ∙ ((ended (slice_index next) n n (n + l) (omega arith)).0 ∙ sym (get_or-replicate lists l [] [] (omega (arith, h, a.0)))))

    empty : (x c : ℕ) → standing x (replicate c []) ≤ 1
    empty x zero = omega arith
    empty x (suc c) = omega (arith, empty x c)

-- ---- the first of a list

pub first-some : (next previous : List ℕ) (n l : ℕ) → IsLinked next previous n → n + l < length next → slice_index next (n + l) < n → slice_get (nodes_of l (lists_of next n)) 0 ≡ Some (slice_index next (n + l))
first-some next previous n l h high low = rw (list-at next n l high, (step (slice_index next) n n (slice_index next (n + l)) low (omega (arith, h.closed (n + l) (omega arith) high))).0) refl

pub first-none : (next : List ℕ) (n l : ℕ) → n + l < length next → n ≤ slice_index next (n + l) → slice_get (nodes_of l (lists_of next n)) 0 ≡ None
first-none next n l high low = rw (list-at next n l high, (ended (slice_index next) n n (slice_index next (n + l)) low).0) refl

abbrev pub linked : List (List ℕ) → ℕ → Linked
linked lists nodes = record { lists = lists; nodes = nodes }

-- a node leaves its list and stands at the end of another
pub moved : (next previous : List ℕ) (n x l : ℕ) → IsLinked next previous n → x < n → n + l < length next
    → IsKept (linked_next (unlinked next previous x) (unlinked previous next x) x (n + l)) (linked_previous (unlinked previous next x) x (n + l)) n (put_last x l (map (without x) (lists_of next n)))
moved next previous n x l h low high =
    let first = cut next previous n x h low in
    let long : length (unlinked next previous x) ≡ length next = length-set (set next (slice_index previous x) (slice_index next x)) x x ∙ length-set next (slice_index previous x) (slice_index next x) in
    let second = join (unlinked next previous x) (unlinked previous next x) n x l first.linked low (omega (arith, high, long)) (cut-here next previous x (omega (arith, low, h.few))) (cut-here previous next x (omega (arith, low, h.few, h.same)))
    (ap (standing x) first.are ∙ standing-without x (lists_of next n)) in
    subst (λ lists. IsKept (linked_next (unlinked next previous x) (unlinked previous next x) x (n + l)) (linked_previous (unlinked previous next x) x (n + l)) n (put_last x l lists)) first.are second

-- four writes, the last two of which undo the first two
undone : (a : List ℕ) (p x e : ℕ) → p < length a → x < length a → slice_index a p ≡ x → slice_index a x ≡ e → set (set (set (set a p e) x x) p x) x e ≡ a
undone a p x e p_low x_low at_p at_x =
    ext_get_or 0 (set (set (set (set a p e) x x) p x) x e) a (long3 ∙ (long2 ∙ (long1 ∙ long0)))
    (λ y h. elim (cases_eq y x) [
      | inl same ↦ ap (λ j. slice_index (set (set (set (set a p e) x x) p x) x e) j) same ∙ (get_or-set_same (set (set (set a p e) x x) p x) x e 0 (omega (arith, x_low, long0, long1, long2)) ∙ sym (ap (λ j. slice_index a j) same ∙ at_x))
      | inr off ↦ get_or-set_other (set (set (set a p e) x x) p x) x y e 0 off ∙ elim (cases_eq y p) [
        | inl at ↦ ap (λ j. slice_index (set (set (set a p e) x x) p x) j) at ∙ (get_or-set_same (set (set a p e) x x) p x 0 (omega (arith, p_low, long0, long1)) ∙ sym (ap (λ j. slice_index a j) at ∙ at_p))
        | inr away ↦ get_or-set_other (set (set a p e) x x) p y x 0 away ∙ (get_or-set_other (set a p e) x y x 0 off ∙ get_or-set_other a p y e 0 away)
      ]
    ])
  where
    long0 : length (set a p e) ≡ length a
    long0 = length-set a p e

    long1 : length (set (set a p e) x x) ≡ length (set a p e)
    long1 = length-set (set a p e) x x

    long2 : length (set (set (set a p e) x x) p x) ≡ length (set (set a p e) x x)
    long2 = length-set (set (set a p e) x x) p x

    long3 : length (set (set (set (set a p e) x x) p x) x e) ≡ length (set (set (set a p e) x x) p x)
    long3 = length-set (set (set (set a p e) x x) p x) x e

-- a node that is the last of a list is where a move to the end of that list puts it
pub last_stays : (next previous : List ℕ) (n x l : ℕ) → IsLinked next previous n → x < n → n + l < length next → slice_index previous (n + l) ≡ x → lists_of next n ≡ put_last x l (map (without x) (lists_of next n))
last_stays next previous n x l h low high last =
    subst (λ a. lists_of a n ≡ put_last x l (map (without x) (lists_of next n))) same (moved next previous n x l h low high).are
  where
    inside : x < length next
    inside = omega (arith, low, h.few)

    after : slice_index next x ≡ n + l
    after = ap (slice_index next) (sym last) ∙ h.back.back (n + l) high

    before : slice_index (unlinked previous next x) (n + l) ≡ slice_index previous x
    before =
        get_or-set_other (set previous (slice_index next x) (slice_index previous x)) x (n + l) x 0 (λ e. omega (arith, e, low))
        ∙ (ap (λ j. slice_index (set previous j (slice_index previous x)) (n + l)) after ∙ get_or-set_same previous (n + l) (slice_index previous x) 0 (omega (arith, high, h.same)))

    same : linked_next (unlinked next previous x) (unlinked previous next x) x (n + l) ≡ next
    same =
        ap (λ j. set (set (unlinked next previous x) j x) x (n + l)) before
        ∙ (ap (λ j. set (set (set (set next (slice_index previous x) j) x x) (slice_index previous x) x) x (n + l)) after
        ∙ undone next (slice_index previous x) x (n + l) (h.back.within x inside) inside (h.back.back x inside) after)

-- ---- the last of a list

-- a walk that comes to an end comes there from a node
reaches : (f : ℕ → ℕ) (n k y : ℕ) → y < n → n ≤ walk_end f n k y → (z : ℕ) × (z < n) × (f z ≡ walk_end f n k y)
reaches f n zero y low e = absurd (omega (arith, low, e))
reaches f n (suc k) y low e =
    let t = lt-ltb y n low in
    let rest : n ≤ walk_end f n k (f y) = rw t at e in
    rw t
    (elim (cases_lt (f y) n) [
      | inl on ↦ reaches f n k (f y) on rest
      | inr done ↦ (y, low, sym (ended f n k (f y) done).1)
    ])

pub last-some : (next previous : List ℕ) (n l : ℕ) → IsLinked next previous n → n + l < length next → slice_index previous (n + l) < n → IsLast (slice_index previous (n + l)) (nodes_of l (lists_of next n))
last-some next previous n l h high low =
    let x = slice_index previous (n + l) in
    ap (nodes_of l) (last_stays next previous n x l h low high refl)
    ∙ (nodes-moved x l l (lists_of next n) (omega (arith, high, length-lists next n)) ∙ rw (eq-eqb l l refl) refl)

pub last-none : (next previous : List ℕ) (n l : ℕ) → IsLinked next previous n → n + l < length next → n ≤ slice_index previous (n + l) → nodes_of l (lists_of next n) ≡ []
last-none next previous n l h high none =
    list-at next n l high
    ∙ elim (cases_lt (slice_index next (n + l)) n) [
      | inl low ↦ (let closed = h.closed (n + l) (omega arith) high in
          let (z, inside, to) = reaches (slice_index next) n n (slice_index next (n + l)) low (omega (arith, closed)) in
          let back = h.forth.back z (omega (arith, inside, h.few)) in
          let same : slice_index previous (n + l) ≡ z = ap (slice_index previous) (sym (to ∙ closed)) ∙ back in
          absurd (omega (arith, none, same, inside)))
      | inr end ↦ (ended (slice_index next) n n (slice_index next (n + l)) end).0
    ]
