-- Sums over the entries, which no other order and no change of what they don't read changes.
use Rattle.std.proofs.Common.{◌≡◌, ℕ, ◌+◌, ◌<◌, ◌≤◌, Bool, true, false, cond, not, nat_lt, List, [], ◌∷◌, ◌++◌, map, zero-add, refl, sym, ap, ◌∙◌, subst, Some, None, ◌||◌, arith}
use Rattle.std.specs.List.{AllByRecursion, list_any}
use Rattle.std.proofs.lemmas.Option.{none-some, same_Some}
use Rattle.std.proofs.lemmas.Bool.Decides.{nat_tests}
use Rattle.std.proofs.lemmas.Bool.{lt-ltb, ltb-true, ltb-false}
use Rattle.qc_dir.specs.declared.entries.Entry.{Entry}
use Rattle.qc_dir.specs.Directory.{has_serial, entry_at, without, changed, moved_to_end}
use Rattle.qc_dir.specs.Keys.{total, bit}
use Rattle.qc_dir.proofs.Totals.{total-append}

abbrev pub with : ℕ → List Entry → ℕ
with n es = total (λ e. bit (has_serial n e)) es

pub entry-serial : (n : ℕ) (es : List Entry) (e : Entry) → entry_at n es ≡ Some e → e.serial ≡ n
entry-serial n [] e h = absurd (none-some e h)
entry-serial n (x ∷ xs) e h =
    elim (has_serial n x) as (λ v. has_serial n x ≡ v → cond v (Some x) (entry_at n xs) ≡ Some e → e.serial ≡ n) [
      | true ↦ λ p k. let same : x.serial ≡ n = grind (arith, nat_tests) in ap (λ (y : Entry). y.serial) (sym (same_Some x e k)) ∙ same
      | false ↦ λ p k. entry-serial n xs e k
    ] refl h

pub entry_counts : (n : ℕ) (es : List Entry) (e : Entry) (w : Entry → ℕ) → entry_at n es ≡ Some e → w e ≤ total w es
entry_counts n [] e w h = absurd (none-some e h)
entry_counts n (x ∷ xs) e w h =
    elim (has_serial n x) as (λ v. cond v (Some x) (entry_at n xs) ≡ Some e → w e ≤ total w (x ∷ xs)) [
      | true ↦ λ k. rw (← same_Some x e k) (omega arith)
      | false ↦ λ k. omega (arith, entry_counts n xs e w k)
    ] h

pub none-counts : (n : ℕ) (es : List Entry) → entry_at n es ≡ None → with n es ≡ 0
none-counts n [] h = refl
none-counts n (x ∷ xs) h =
    elim (has_serial n x) as (λ v. cond v (Some x) (entry_at n xs) ≡ None → bit v + with n xs ≡ 0) [
      | true ↦ λ k. absurd (cc k)
      | false ↦ λ k. omega (arith, none-counts n xs k)
    ] h

without-none : (n : ℕ) (es : List Entry) → with n es ≡ 0 → without n es ≡ es
without-none n [] h = refl
without-none n (x ∷ xs) h =
    elim (has_serial n x) as (λ v. bit v + with n xs ≡ 0 → cond (not v) (x ∷ without n xs) (without n xs) ≡ x ∷ xs) [
      | true ↦ λ k. absurd (omega (arith, k))
      | false ↦ λ k. ap (λ ys. x ∷ ys) (without-none n xs (omega (arith, k)))
    ] h

-- without the entry with a serial
pub total-without : (w : Entry → ℕ) (n : ℕ) (es : List Entry) (e : Entry) → ((m : ℕ) → with m es ≤ 1) → entry_at n es ≡ Some e → total w (without n es) + w e ≡ total w es
total-without w n [] e once h = absurd (none-some e h)
total-without w n (x ∷ xs) e once h =
    elim (has_serial n x) as (λ v. has_serial n x ≡ v → cond v (Some x) (entry_at n xs) ≡ Some e → total w (cond (not v) (x ∷ without n xs) (without n xs)) + w e ≡ total w (x ∷ xs)) [
      | true ↦ λ p k. rw (← same_Some x e k, without-none n xs (omega (arith, rw p at (once n)))) (omega arith)
      | false ↦ λ p k. omega (arith, total-without w n xs e (λ m. omega (arith, once m)) k)
    ] refl h

pub total-moved : (w : Entry → ℕ) (f : Entry → Entry) (n : ℕ) (es : List Entry) → ((m : ℕ) → with m es ≤ 1) → ((e : Entry) → w (f e) ≡ w e) → total w (moved_to_end (entry_at n es) f es) ≡ total w es
total-moved w f n es once same =
    elim (entry_at n es) as (λ v. entry_at n es ≡ v → total w (moved_to_end v f es) ≡ total w es) [
      | None ↦ λ e. refl
      | Some x ↦ λ e. subst (λ k. total w (without k es ++ f x ∷ []) ≡ total w es) (sym (entry-serial n es x e)) (omega (arith, total-append w (without n es) (f x ∷ []), same x, total-without w n es x once e))
    ] refl

pub total-changed : (w : Entry → ℕ) (f : Entry → Entry) (n : ℕ) (es : List Entry) → ((e : Entry) → w (f e) ≡ w e) → total w (changed n f es) ≡ total w es
total-changed w f n [] same = refl
total-changed w f n (x ∷ xs) same =
    elim (has_serial n x) as (λ v. w (cond v (f x) x) + total w (changed n f xs) ≡ w x + total w xs) [
      | true ↦ omega (arith, same x, total-changed w f n xs same)
      | false ↦ omega (arith, total-changed w f n xs same)
    ]

changed-none : (f : Entry → Entry) (n : ℕ) (es : List Entry) → with n es ≡ 0 → changed n f es ≡ es
changed-none f n [] h = refl
changed-none f n (x ∷ xs) h =
    elim (has_serial n x) as (λ v. bit v + with n xs ≡ 0 → cond v (f x) x ∷ changed n f xs ≡ x ∷ xs) [
      | true ↦ λ k. absurd (omega (arith, k))
      | false ↦ λ k. ap (λ ys. x ∷ ys) (changed-none f n xs (omega (arith, k)))
    ] h

-- one entry changed
pub total-changed_one : (w : Entry → ℕ) (f : Entry → Entry) (n : ℕ) (es : List Entry) (e : Entry) → ((m : ℕ) → with m es ≤ 1) → entry_at n es ≡ Some e → total w (changed n f es) + w e ≡ total w es + w (f e)
total-changed_one w f n [] e once h = absurd (none-some e h)
total-changed_one w f n (x ∷ xs) e once h =
    elim (has_serial n x) as (λ v. has_serial n x ≡ v → cond v (Some x) (entry_at n xs) ≡ Some e → w (cond v (f x) x) + total w (changed n f xs) + w e ≡ w x + total w xs + w (f e)) [
      | true ↦ λ p k. rw (← same_Some x e k, changed-none f n xs (omega (arith, rw p at (once n)))) (omega arith)
      | false ↦ λ p k. omega (arith, total-changed_one w f n xs e (λ m. omega (arith, once m)) k)
    ] refl h

pub map-changed : {B : Type 0} (g : Entry → B) (f : Entry → Entry) (n : ℕ) (es : List Entry) (e : Entry) → ((m : ℕ) → with m es ≤ 1) → entry_at n es ≡ Some e → g (f e) ≡ g e → map g (changed n f es) ≡ map g es
map-changed g f n [] e once h same = refl
map-changed g f n (x ∷ xs) e once h same =
    elim (has_serial n x) as (λ v. has_serial n x ≡ v → cond v (Some x) (entry_at n xs) ≡ Some e → g (cond v (f x) x) ∷ map g (changed n f xs) ≡ g x ∷ map g xs) [
      | true ↦ λ p k. rw (changed-none f n xs (omega (arith, rw p at (once n)))) (ap (λ y. y ∷ map g xs) (ap (λ (z : Entry). g (f z)) (same_Some x e k) ∙ (same ∙ ap g (sym (same_Some x e k)))))
      | false ↦ λ p k. ap (λ ys. g x ∷ ys) (map-changed g f n xs e (λ m. omega (arith, once m)) k same)
    ] refl h

-- the only entry with a serial is the one that counts, where no other does
pub only_entry : (n : ℕ) (w : Entry → ℕ) (es : List Entry) → ((m : ℕ) → with m es ≤ 1) → ((e : Entry) → has_serial n e ≡ false → w e ≡ 0) → 0 < total w es → (e : Entry) × (entry_at n es ≡ Some e) × (0 < w e)
only_entry n w [] once other h = absurd (omega (arith, h))
only_entry n w (x ∷ xs) once other h =
    elim (has_serial n x) as (λ v. has_serial n x ≡ v → (e : Entry) × (cond v (Some x) (entry_at n xs) ≡ Some e) × (0 < w e)) [
      | true ↦ λ p. (x, refl, omega (arith, h, none xs (omega (arith, rw p at (once n)))))
      | false ↦ λ p. only_entry n w xs (λ m. omega (arith, once m)) other (omega (arith, h, other x p))
    ] refl
  where
    none : (ys : List Entry) → with n ys ≡ 0 → total w ys ≡ 0
    none [] q = refl
    none (y ∷ ys) q =
        elim (has_serial n y) as (λ v. has_serial n y ≡ v → bit v + with n ys ≡ 0 → w y + total w ys ≡ 0) [
          | true ↦ λ e r. absurd (omega (arith, r))
          | false ↦ λ e r. omega (arith, other y e, none ys (omega (arith, r)))
        ] refl q

-- ---- tests as sums

pub any-total : {X : Type 0} (p : X → Bool) (xs : List X) → list_any p xs ≡ nat_lt 0 (total (λ x. bit (p x)) xs)
any-total p [] = refl
any-total p (x ∷ xs) =
    elim (p x) as (λ v. (v || list_any p xs) ≡ nat_lt 0 (bit v + total (λ x. bit (p x)) xs)) [
      | true ↦ sym (lt-ltb 0 (1 + total (λ x. bit (p x)) xs) (omega arith))
      | false ↦ any-total p xs ∙ ap (λ n. nat_lt 0 n) (sym (zero-add (total (λ x. bit (p x)) xs)))
    ]

pub some_any : {X : Type 0} (p : X → Bool) (xs : List X) → 0 < total (λ x. bit (p x)) xs → list_any p xs ≡ true
some_any p xs h = any-total p xs ∙ lt-ltb 0 (total (λ x. bit (p x)) xs) h

pub any_some : {X : Type 0} (p : X → Bool) (xs : List X) → list_any p xs ≡ true → 0 < total (λ x. bit (p x)) xs
any_some p xs h = ltb-true 0 (total (λ x. bit (p x)) xs) (sym (any-total p xs) ∙ h)

pub none_any : {X : Type 0} (p : X → Bool) (xs : List X) → total (λ x. bit (p x)) xs ≡ 0 → list_any p xs ≡ false
none_any p xs h = any-total p xs ∙ ap (λ n. nat_lt 0 n) h

pub any_none : {X : Type 0} (p : X → Bool) (xs : List X) → list_any p xs ≡ false → total (λ x. bit (p x)) xs ≡ 0
any_none p xs h = omega (arith, ltb-false 0 (total (λ x. bit (p x)) xs) (sym (any-total p xs) ∙ h))

-- what counts for a sum, counts for one of the members
pub some_one : {X : Type 0} (w : X → ℕ) (xs : List X) → 0 < total w xs → (x : X) × (0 < w x) × ((v : X → ℕ) → v x ≤ total v xs)
some_one w [] h = absurd (omega (arith, h))
some_one {X = X} w (x ∷ xs) h =
    elim (nat_lt 0 (w x)) as (λ v. nat_lt 0 (w x) ≡ v → (y : X) × (0 < w y) × ((v : X → ℕ) → v y ≤ total v (x ∷ xs))) [
      | true ↦ λ e. (x, ltb-true 0 (w x) e, λ v. omega arith)
      | false ↦ λ e. later (some_one w xs (omega (arith, h, ltb-false 0 (w x) e)))
    ] refl
  where
    later : ((y : X) × (0 < w y) × ((v : X → ℕ) → v y ≤ total v xs)) → (y : X) × (0 < w y) × ((v : X → ℕ) → v y ≤ total v (x ∷ xs))
    later found = (found.0, found.1, λ v. omega (arith, found.2 v))

pub bit_true : (b : Bool) → 0 < bit b → b ≡ true
bit_true true h = refl
bit_true false h = absurd (omega (arith, h))

pub total-same : {X : Type 0} (w v : X → ℕ) (xs : List X) → AllByRecursion (λ x. w x ≡ v x) xs → total w xs ≡ total v xs
total-same w v [] all = refl
total-same w v (x ∷ xs) all = omega (arith, all.0, total-same w v xs all.1)

pub total-le : {X : Type 0} (w v : X → ℕ) (xs : List X) → ((x : X) → w x ≤ v x) → total w xs ≤ total v xs
total-le w v [] h = omega arith
total-le w v (x ∷ xs) h = omega (arith, h x, total-le w v xs h)
