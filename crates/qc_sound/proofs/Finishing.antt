-- The fill of an entry ends: the entry is complete, or it leaves.
use Rattle.std.proofs.Common.{◌≡◌, ◌≢◌, ℕ, ◌+◌, ◌-◌, ◌<◌, ◌≤◌, eqb, eq-eqb, eqb-true, ne_eqb, Bool, true, false, cond, List, [], ◌∷◌, ◌++◌, map, length, refl, sym, ap, subst, ◌∙◌, arith, true≢false, length-append}
use Rattle.std.specs.Prelude.{not, ◌||◌, Option, Some, IsSomeAnd, IsPermutation, count_by, ◌==◌}
use Rattle.std.specs.List.{list_any, filter, find, AllByRecursion}
use Rattle.std.proofs.lemmas.List.Folds.{list_any-append}
use Rattle.std.proofs.lemmas.List.Sums.{sum_by-cons, sum_by_push}
use Rattle.std.proofs.lemmas.List.Sorted.{list_any-IsPermutation}
use Rattle.qc_model.specs.declared.events.Event.{Event}
use Rattle.qc_model.specs.declared.events.Event.TheVariants as event
use Rattle.qc_model.specs.Journal.{Journal}
use Rattle.qc_model.specs.Cache.{Entry, completed, without}
use Rattle.qc_laws.specs.history.Runs.{are_distinct}
use Rattle.qc_turn.specs.declared.task.Task.{Task}
use Rattle.qc_turn.specs.declared.task.Task.TheVariants as task
use Rattle.qc_sound.specs.PlainServer.{StoredEntry, EntryChain, SeatTask, is_stored, is_wanted, is_task_on}
use Rattle.qc_sound.specs.Ended.{ends_fill}
use Rattle.qc_sound.specs.parts.Journal.{incomplete_count, reserved}
use Rattle.qc_sound.specs.parts.Tasks.{is_fill_of, is_stream_of}
use Rattle.qc_sound.specs.steps.Leaving.{is_of_seat, without_seat, filling}
use Rattle.qc_sound.proofs.Moved.{moved_permutes}
use Rattle.qc_sound.proofs.Pushes.{EndsNone}
use Rattle.qc_sound.proofs.Ending.{count_without, eqb_swap}

-- ---- counts that are 0

module _ {A : Type 0} (p : A → Bool) where
  pub count_none : (xs : List A) → count_by p xs ≡ 0 → AllByRecursion (λ x. p x ≡ false) xs
  count_none [] h = tt
  count_none (x ∷ xs) h =
      let sum = sum_by-cons (λ (y : A). cond (p y) 1 0) x xs in
      (none (p x) refl (omega (arith, h, sum)), count_none xs (omega (arith, h, sum)))
    where
      none : (b : Bool) → p x ≡ b → ◌≡◌ {A = ℕ} (cond (p x) 1 0) 0 → b ≡ false
      none true e s = let one : ◌≡◌ {A = ℕ} (cond (p x) 1 0) 1 = ap (λ b. cond b 1 0) e in absurd (omega (arith, s, one))
      none false e s = refl

-- ---- the fill that ends

-- no other task fills the entry
pub others_fill_none : (seat n : ℕ) (ws : List SeatTask) → are_distinct (map (λ w. w.seat) ws) ≡ true → find (is_of_seat seat) ws ≡ Some (filling seat n) → count_by (λ w. is_fill_of n w.task) ws ≡ 1
    → AllByRecursion (λ w. is_fill_of n w.task ≡ false) (without_seat seat ws)
others_fill_none seat n ws d e one =
    let sum = count_without (λ w. is_fill_of n w.task) seat ws (filling seat n) d e in
    let own : ◌≡◌ {A = ℕ} (cond (eqb n n) 1 0) 1 = ap (λ b. cond b 1 0) (eq-eqb n n refl) in
    count_none (λ w. is_fill_of n w.task) (without_seat seat ws) (omega (arith, sum, own, one))

-- so an event that ends this fill ends none of theirs
pub ends_others : (n : ℕ) (e : Event) (ws : List SeatTask) → ((m : ℕ) → ends_fill m e ≡ eqb n m) → AllByRecursion (λ w. is_fill_of n w.task ≡ false) ws → AllByRecursion (λ w. EndsNone e w.task) ws
ends_others n e [] f h = tt
ends_others n e (w ∷ ws) f h = ((λ m t. f m ∙ (eqb_swap n m ∙ subst (λ z. is_fill_of n z ≡ false) t h.0)), ends_others n e ws f h.1)

-- an entry with another serial has as many fills as before
pub fills_left : (seat n m : ℕ) (ws : List SeatTask) → are_distinct (map (λ w. w.seat) ws) ≡ true → find (is_of_seat seat) ws ≡ Some (filling seat n) → eqb n m ≡ false
    → count_by (λ w. is_fill_of m w.task) (without_seat seat ws) ≡ count_by (λ w. is_fill_of m w.task) ws
fills_left seat n m ws d e ne =
    let sum = count_without (λ w. is_fill_of m w.task) seat ws (filling seat n) d e in
    let none : ◌≡◌ {A = ℕ} (cond (eqb n m) 1 0) 0 = ap (λ b. cond b 1 0) ne in
    omega (arith, sum, none)

-- and any entry as many streams
pub streams_left : (seat n m : ℕ) (ws : List SeatTask) → are_distinct (map (λ w. w.seat) ws) ≡ true → find (is_of_seat seat) ws ≡ Some (filling seat n)
    → count_by (λ w. is_stream_of m w.task) (without_seat seat ws) ≡ count_by (λ w. is_stream_of m w.task) ws
streams_left seat n m ws d e = let sum = count_without (λ w. is_stream_of m w.task) seat ws (filling seat n) d e in omega (arith, sum)

-- a task on another serial is still there
pub tasks_left : (seat n m : ℕ) (ws : List SeatTask) → are_distinct (map (λ w. w.seat) ws) ≡ true → find (is_of_seat seat) ws ≡ Some (filling seat n) → eqb n m ≡ false → list_any (is_task_on m) ws ≡ true → list_any (is_task_on m) (without_seat seat ws) ≡ true
tasks_left seat n m ws d e ne h =
    let perm = moved_permutes (λ (w : SeatTask). w.seat) seat ws (filling seat n) d e in
    let all : (list_any (is_task_on m) (without_seat seat ws) || (eqb n m || false)) ≡ true = sym (list_any-append (is_task_on m) (without_seat seat ws) (filling seat n ∷ [])) ∙ (sym (list_any-IsPermutation (is_task_on m) ws (without_seat seat ws ++ filling seat n ∷ []) perm) ∙ h) in
    by (list_any (is_task_on m) (without_seat seat ws)) (eqb n m) ne all
  where
    by : (a b : Bool) → b ≡ false → (a || (b || false)) ≡ true → a ≡ true
    by true b f k = refl
    by false true f k = absurd (true≢false f)
    by false false f k = absurd (true≢false (sym k))

-- ---- room

pub reserved_push : (ys : List Entry) (y : Entry) → reserved (ys ++ y ∷ []) ≡ reserved ys + 1 + cond (not y.complete) 1 0
reserved_push ys y =
    let long = length-append ys (y ∷ []) in
    let sum = sum_by_push (λ (z : Entry). cond (not z.complete) 1 0) ys y in
    omega (arith, long, sum)

-- an entry that is completed has one event less before it
pub reserved_done : (ys : List Entry) (y : Entry) → y.complete ≡ false → reserved (ys ++ completed y ∷ []) + 1 ≡ reserved (ys ++ y ∷ [])
reserved_done ys y c =
    let one : ◌≡◌ {A = ℕ} (cond (not y.complete) 1 0) 1 = ap (λ b. cond (not b) 1 0) c in
    omega (arith, reserved_push ys y, reserved_push ys (completed y), one)
