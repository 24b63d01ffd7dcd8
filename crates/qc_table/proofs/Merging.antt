-- Changes that are merged, one by one: what one more change makes of them.
use Rattle.std.proofs.Common.{◌≡◌, ℤ, [], ◌∷◌, ◌++◌, refl, sym, ap, ◌∙◌, Option, Some, None, subst}
use Rattle.std.specs.Ordering.{int_cmp, match_ordering, ordering_reverse}
use Rattle.std.specs.declared.cmp.Ordering.TheVariants.{Less, Equal, Greater}
use Rattle.std.specs.BTreeMap.{insert_entry}
use Rattle.std.specs.Map.{keys_of}
use Rattle.std.specs.List.{AllByRecursion}
use Rattle.std.specs.List.Sorted.{IsStrictlySortedBy}
use Rattle.std.proofs.lemmas.Cmp.{int_cmp_total, tied_back}
use Rattle.std.proofs.lemmas.Map.Keys.{sorted_head, sorted_tail}
use Rattle.std.proofs.lemmas.Map.Lookups.{exact_signed}
use Rattle.qc_sql.specs.Database.{MapOf}
use Rattle.qc_table.specs.Changes.{changed, left_by, below, above, merged}

-- ---- keys

less_back : (a b : ℤ) → int_cmp a b ≡ Less → int_cmp b a ≡ Greater
less_back a b p = int_cmp_total.antisymm b a ∙ ap ordering_reverse p

greater_back : (a b : ℤ) → int_cmp a b ≡ Greater → int_cmp b a ≡ Less
greater_back a b p = int_cmp_total.antisymm b a ∙ ap ordering_reverse p

-- all keys are above k
abbrev pub Above : {X : Type 0} → ℤ → MapOf ℤ X → Type 0
Above k es = AllByRecursion (λ y. int_cmp k y ≡ Less) (keys_of es)

abbrev pub Rises : {X : Type 0} → MapOf ℤ X → Type 0
Rises es = IsStrictlySortedBy int_cmp (keys_of es)

pub rises_none : IsStrictlySortedBy int_cmp []
unfolding IsStrictlySortedBy
rises_none = tt

-- what is above a key is above those below it
pub above_lower : {X : Type 0} (j k : ℤ) (es : MapOf ℤ X) → int_cmp j k ≡ Less → Above k es → Above j es
above_lower j k [] p a = tt
above_lower j k (e ∷ es) p a = (int_cmp_total.trans j k e.0 p a.0, above_lower j k es p a.1)

module _ {X : Type 0} where
  pub rises_cons : (e : ℤ × X) (es : MapOf ℤ X) → Above e.0 es → Rises es → Rises (e ∷ es)
  unfolding IsStrictlySortedBy
  rises_cons e es a s = (a, s)

  head : (e : ℤ × X) (es : MapOf ℤ X) → Rises (e ∷ es) → Above e.0 es
  head e es s = sorted_head int_cmp e.0 (keys_of es) s

  tail : (e : ℤ × X) (es : MapOf ℤ X) → Rises (e ∷ es) → Rises es
  tail e es s = sorted_tail int_cmp e.0 (keys_of es) s

  all_append : (P : ℤ → Type 0) (us bs : MapOf ℤ X) → AllByRecursion P (keys_of us) → AllByRecursion P (keys_of bs) → AllByRecursion P (keys_of (us ++ bs))
  all_append P [] bs a b = b
  all_append P (x ∷ us) bs a b = (a.0, all_append P us bs a.1 b)

  -- ---- the entries below a key, and those above it

  all_below : (P : ℤ → Type 0) (k : ℤ) (es : MapOf ℤ X) → ((x : ℤ) → int_cmp x k ≡ Less → P x) → AllByRecursion P (keys_of (below k es))
  all_below P k [] f = tt
  all_below P k (e ∷ es) f =
      elim (int_cmp e.0 k) as (λ r. int_cmp e.0 k ≡ r → AllByRecursion P (keys_of (match_ordering r (e ∷ below k es) [] []))) [
        | Less ↦ λ p. (f e.0 p, all_below P k es f)
        | Equal ↦ λ p. tt
        | Greater ↦ λ p. tt
      ] refl

  below_keeps : (P : ℤ → Type 0) (k : ℤ) (es : MapOf ℤ X) → AllByRecursion P (keys_of es) → AllByRecursion P (keys_of (below k es))
  below_keeps P k [] a = tt
  below_keeps P k (e ∷ es) a =
      elim (int_cmp e.0 k) as (λ r. AllByRecursion P (keys_of (match_ordering r (e ∷ below k es) [] []))) [
        | Less ↦ (a.0, below_keeps P k es a.1)
        | Equal ↦ tt
        | Greater ↦ tt
      ]

  above_keeps : (P : ℤ → Type 0) (k : ℤ) (es : MapOf ℤ X) → AllByRecursion P (keys_of es) → AllByRecursion P (keys_of (above k es))
  above_keeps P k [] a = tt
  above_keeps P k (e ∷ es) a =
      elim (int_cmp e.0 k) as (λ r. AllByRecursion P (keys_of (match_ordering r (above k es) es (e ∷ es)))) [
        | Less ↦ above_keeps P k es a.1
        | Equal ↦ a.1
        | Greater ↦ a
      ]

  below_rises : (k : ℤ) (es : MapOf ℤ X) → Rises es → Rises (below k es)
  below_rises k [] s = rises_none
  below_rises k (e ∷ es) s =
      elim (int_cmp e.0 k) as (λ r. Rises (match_ordering r (e ∷ below k es) [] [])) [
        | Less ↦ rises_cons e (below k es) (below_keeps (λ y. int_cmp e.0 y ≡ Less) k es (head e es s)) (below_rises k es (tail e es s))
        | Equal ↦ rises_none
        | Greater ↦ rises_none
      ]

  above_rises : (k : ℤ) (es : MapOf ℤ X) → Rises es → Rises (above k es)
  above_rises k [] s = rises_none
  above_rises k (e ∷ es) s =
      elim (int_cmp e.0 k) as (λ r. Rises (match_ordering r (above k es) es (e ∷ es))) [
        | Less ↦ above_rises k es (tail e es s)
        | Equal ↦ tail e es s
        | Greater ↦ s
      ]

  above_above : (k : ℤ) (es : MapOf ℤ X) → Rises es → Above k (above k es)
  above_above k [] s = tt
  above_above k (e ∷ es) s =
      elim (int_cmp e.0 k) as (λ r. int_cmp e.0 k ≡ r → Above k (match_ordering r (above k es) es (e ∷ es))) [
        | Less ↦ λ p. above_above k es (tail e es s)
        | Equal ↦ λ p. subst (λ j. Above j es) (exact_signed e.0 k p) (head e es s)
        | Greater ↦ λ p. (greater_back e.0 k p, above_lower k e.0 es (greater_back e.0 k p) (head e es s))
      ] refl

  all_left_by : (P : ℤ → Type 0) (k : ℤ) (c : Option X) → P k → AllByRecursion P (keys_of (left_by k c))
  all_left_by P k None h = tt
  all_left_by P k (Some v) h = (h, tt)

  pub all_merged : (P : ℤ → Type 0) (es : MapOf ℤ X) (cs : MapOf ℤ (Option X)) → AllByRecursion P (keys_of es) → AllByRecursion P (keys_of cs) → AllByRecursion P (keys_of (merged es cs))
  all_merged P es [] a b = a
  all_merged P es (c ∷ cs) a b =
      all_append P (below c.0 es) _ (below_keeps P c.0 es a)
      (all_append P (left_by c.0 c.1) _ (all_left_by P c.0 c.1 b.0)
      (all_merged P (above c.0 es) cs (above_keeps P c.0 es a) b.1))

  -- ---- one step of a merge

  pub step_below : (e : ℤ × X) (es : MapOf ℤ X) (k : ℤ) (c : Option X) (cs : MapOf ℤ (Option X)) → int_cmp e.0 k ≡ Less → merged (e ∷ es) ((k, c) ∷ cs) ≡ e ∷ merged es ((k, c) ∷ cs)
  step_below e es k c cs p = rw p refl

  pub step_at : (e : ℤ × X) (es : MapOf ℤ X) (k : ℤ) (c : Option X) (cs : MapOf ℤ (Option X)) → int_cmp e.0 k ≡ Equal → merged (e ∷ es) ((k, c) ∷ cs) ≡ left_by k c ++ merged es cs
  step_at e es k c cs p = rw p refl

  pub step_above : (e : ℤ × X) (es : MapOf ℤ X) (k : ℤ) (c : Option X) (cs : MapOf ℤ (Option X)) → int_cmp e.0 k ≡ Greater → merged (e ∷ es) ((k, c) ∷ cs) ≡ left_by k c ++ merged (e ∷ es) cs
  step_above e es k c cs p = rw p refl

  -- an entry below all changes stays in front
  lead : (e : ℤ × X) (es : MapOf ℤ X) (cs : MapOf ℤ (Option X)) → Above e.0 cs → merged (e ∷ es) cs ≡ e ∷ merged es cs
  lead e es [] a = refl
  lead e es (c ∷ cs) a = step_below e es c.0 c.1 cs a.0

  -- ---- what a change makes of entries, by where its key stands

  front : (k : ℤ) (c : Option X) (m : MapOf ℤ X) → Above k m → changed k c m ≡ left_by k c ++ m
  front k None [] a = refl
  front k None (e ∷ m) a = rw a.0 (ap (λ rest. e ∷ rest) (front k None m a.1))
  front k (Some v) [] a = refl
  front k (Some v) (e ∷ m) a = rw a.0 refl

  over : (k : ℤ) (c : Option X) (e : ℤ × X) (m : MapOf ℤ X) → int_cmp k e.0 ≡ Greater → changed k c (e ∷ m) ≡ e ∷ changed k c m
  over k None e m p = rw p refl
  over k (Some v) e m p = rw p refl

  here : (k : ℤ) (c : Option X) (e : ℤ × X) (m : MapOf ℤ X) → int_cmp k e.0 ≡ Equal → changed k c (e ∷ m) ≡ left_by k c ++ m
  here k None e m p = rw p refl
  here k (Some v) e m p = rw p (ap (λ j. (j, v) ∷ m) (sym (exact_signed k e.0 p)))

  past : (k : ℤ) (c : Option X) (us m : MapOf ℤ X) → AllByRecursion (λ y. int_cmp k y ≡ Greater) (keys_of us) → changed k c (us ++ m) ≡ us ++ changed k c m
  past k c [] m a = refl
  past k c (e ∷ us) m a = over k c e (us ++ m) a.0 ∙ ap (λ rest. e ∷ rest) (past k c us m a.1)

  -- in place of what another change left at the key
  again : (k j : ℤ) (c d : Option X) (m : MapOf ℤ X) → int_cmp k j ≡ Equal → Above k m → changed k c (left_by j d ++ m) ≡ left_by k c ++ m
  again k j c None m p a = front k c m a
  again k j c (Some v) m p a = here k c (j, v) m p

  -- a change in front of the others
  first : (k : ℤ) (c : Option X) (es : MapOf ℤ X) (cs : MapOf ℤ (Option X)) → Rises es → Above k cs → merged es ((k, c) ∷ cs) ≡ changed k c (merged es cs)
  first k c [] cs s a = sym (front k c (merged [] cs) (all_merged (λ y. int_cmp k y ≡ Less) [] cs tt a))
  first k c (e ∷ es) cs s a =
      elim (int_cmp e.0 k) as (λ r. int_cmp e.0 k ≡ r → merged (e ∷ es) ((k, c) ∷ cs) ≡ changed k c (merged (e ∷ es) cs)) [
        | Less ↦ λ p.
            step_below e es k c cs p ∙ ap (λ rest. e ∷ rest) (first k c es cs (tail e es s) a)
            ∙ sym (over k c e (merged es cs) (less_back e.0 k p)) ∙ sym (ap (changed k c) (lead e es cs (above_lower e.0 k cs p a)))
        | Equal ↦ λ p.
            step_at e es k c cs p ∙ sym (here k c e (merged es cs) (tied_back int_cmp_total e.0 k p))
            ∙ sym (ap (changed k c) (lead e es cs (subst (λ j. Above j cs) (sym (exact_signed e.0 k p)) a)))
        | Greater ↦ λ p.
            let q = greater_back e.0 k p in
            step_above e es k c cs p ∙ sym (front k c (merged (e ∷ es) cs) (all_merged (λ y. int_cmp k y ≡ Less) (e ∷ es) cs (q, above_lower k e.0 es q (head e es s)) a))
      ] refl

  -- one more change, in the place of the one that its key may have
  pub one_more : (k : ℤ) (c : Option X) (es : MapOf ℤ X) (cs : MapOf ℤ (Option X)) → Rises es → Rises cs → merged es (insert_entry int_cmp cs k c) ≡ changed k c (merged es cs)
  one_more k c es [] s t = first k c es [] s tt
  one_more k c es (d ∷ cs) s t =
      let rest = merged (above d.0 es) cs in
      let over_rest = all_merged (λ y. int_cmp d.0 y ≡ Less) (above d.0 es) cs (above_above d.0 es s) (sorted_head int_cmp d.0 (keys_of cs) t) in
      elim (int_cmp k d.0) as (λ r. int_cmp k d.0 ≡ r → merged es (match_ordering r ((k, c) ∷ d ∷ cs) ((d.0, c) ∷ cs) (d ∷ insert_entry int_cmp cs k c)) ≡ changed k c (merged es (d ∷ cs))) [
        | Less ↦ λ p. first k c es (d ∷ cs) s (p, above_lower k d.0 cs p (sorted_head int_cmp d.0 (keys_of cs) t))
        | Equal ↦ λ p.
            let same = exact_signed k d.0 p in
            let lower = all_below (λ y. int_cmp k y ≡ Greater) d.0 es (λ x q. less_back x k (subst (λ j. int_cmp x j ≡ Less) (sym same) q)) in
            let replaced = again k d.0 c d.1 rest p (subst (λ j. Above j rest) (sym same) over_rest) in
            ap (λ j. below d.0 es ++ (left_by j c ++ rest)) (sym same) ∙ sym (past k c (below d.0 es) (left_by d.0 d.1 ++ rest) lower ∙ ap (λ m. below d.0 es ++ m) replaced)
        | Greater ↦ λ p.
            let lower = all_below (λ y. int_cmp k y ≡ Greater) d.0 es (λ x q. less_back x k (int_cmp_total.trans x d.0 k q (greater_back k d.0 p))) in
            let left = all_left_by (λ y. int_cmp k y ≡ Greater) d.0 d.1 p in
            let behind = one_more k c (above d.0 es) cs (above_rises d.0 es s) (sorted_tail int_cmp d.0 (keys_of cs) t) in
            ap (λ m. below d.0 es ++ (left_by d.0 d.1 ++ m)) behind
            ∙ sym (past k c (below d.0 es) (left_by d.0 d.1 ++ rest) lower ∙ ap (λ m. below d.0 es ++ m) (past k c (left_by d.0 d.1) rest left))
      ] refl

  -- ---- the order

  join : (k : ℤ) (us bs : MapOf ℤ X) → AllByRecursion (λ x. int_cmp x k ≡ Less) (keys_of us) → Rises us → Rises bs → ((x : ℤ) → int_cmp x k ≡ Less → Above x bs) → Rises (us ++ bs)
  join k [] bs a s t f = t
  join k (x ∷ us) bs a s t f =
      rises_cons x (us ++ bs) (all_append (λ y. int_cmp x.0 y ≡ Less) us bs (head x us s) (f x.0 a.0)) (join k us bs a.1 (tail x us s) t f)

  left_rises : (k : ℤ) (c : Option X) (m : MapOf ℤ X) → Above k m → Rises m → Rises (left_by k c ++ m)
  left_rises k None m a s = s
  left_rises k (Some v) m a s = rises_cons (k, v) m a s

  left_above : (k : ℤ) (c : Option X) (m : MapOf ℤ X) → Above k m → (x : ℤ) → int_cmp x k ≡ Less → Above x (left_by k c ++ m)
  left_above k None m a x p = above_lower x k m p a
  left_above k (Some v) m a x p = (p, above_lower x k m p a)

  pub merged_rises : (es : MapOf ℤ X) (cs : MapOf ℤ (Option X)) → Rises es → Rises cs → Rises (merged es cs)
  merged_rises es [] s t = s
  merged_rises es (c ∷ cs) s t =
      let rest = merged (above c.0 es) cs in
      let over_rest = all_merged (λ y. int_cmp c.0 y ≡ Less) (above c.0 es) cs (above_above c.0 es s) (sorted_head int_cmp c.0 (keys_of cs) t) in
      let rises_rest = merged_rises (above c.0 es) cs (above_rises c.0 es s) (sorted_tail int_cmp c.0 (keys_of cs) t) in
      join c.0 (below c.0 es) (left_by c.0 c.1 ++ rest) (all_below (λ x. int_cmp x c.0 ≡ Less) c.0 es (λ x p. p)) (below_rises c.0 es s) (left_rises c.0 c.1 rest over_rest rises_rest) (left_above c.0 c.1 rest over_rest)
