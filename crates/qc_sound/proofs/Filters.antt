-- Chains and tasks of which some are left.
use Rattle.std.proofs.Common.{◌≡◌, ℕ, ◌+◌, ◌≤◌, eqb, eq-eqb, eqb-true, Bool, true, false, cond, List, [], ◌∷◌, ◌++◌, map, length, refl, sym, ap, subst, ◌∙◌, arith, true≢false}
use Rattle.std.specs.Prelude.{not, ◌&&◌, ◌||◌, IfSome, ◌==◌, unwrap_or, option_map}
use Rattle.std.specs.List.{list_any, filter, flat_map, AllByRecursion}
use Rattle.std.proofs.lemmas.List.Sums.{sum_by-cons}
use Rattle.qc_types.specs.declared.options.Options.{Options}
use Rattle.qc_model.specs.Journal.{Journal}
use Rattle.qc_model.specs.Cache.{Entry}
use Rattle.qc_laws.specs.history.Runs.{are_distinct}
use Rattle.qc_laws.proofs.history.Events.{all_on}
use Rattle.qc_turn.specs.declared.task.Task.{Task}
use Rattle.qc_turn.specs.declared.task.Task.TheVariants as task
use Rattle.qc_sound.specs.PlainServer.{StoredEntry, EntryChain, SeatTask, blocks_at, blocks_of, listed, has_chain, is_task_on, serial_of, is_stored, is_wanted}
use Rattle.qc_sound.specs.parts.Journal.{incomplete_count, reserved}
use Rattle.qc_sound.specs.parts.Memory.{IsUncut}
use Rattle.qc_sound.specs.parts.Tasks.{SeatTaskIsSound}
use Rattle.qc_sound.proofs.Lists.{both_true, opposite}

-- ---- chains that stay

module _ (q : ℕ → Bool) where
  pub at_filter : (n : ℕ) (cs : List EntryChain) → q n ≡ true → blocks_at n (filter (λ c. q c.serial) cs) ≡ blocks_at n cs
  at_filter n [] h = refl
  at_filter n (c ∷ cs) h =
      let more = at_filter n cs h in
      elim (eqb c.serial n) as (λ b. eqb c.serial n ≡ b → blocks_at n (filter (λ c. q c.serial) (c ∷ cs)) ≡ cond b c.blocks (blocks_at n cs)) [
        | true ↦ λ e. rw (ap q (eqb-true c.serial n e) ∙ h) (ap (λ b. cond b c.blocks (blocks_at n (filter (λ c. q c.serial) cs))) e)
        | false ↦ λ e. elim (q c.serial) as (λ b. blocks_at n (cond b (c ∷ filter (λ c. q c.serial) cs) (filter (λ c. q c.serial) cs)) ≡ blocks_at n cs) [
          | true ↦ ap (λ b. cond b c.blocks (blocks_at n (filter (λ c. q c.serial) cs))) e ∙ more
          | false ↦ more
        ]
      ] refl

  pub has_filter : (n : ℕ) (cs : List EntryChain) → q n ≡ true → has_chain n cs ≡ true → has_chain n (filter (λ c. q c.serial) cs) ≡ true
  has_filter n [] h k = k
  has_filter n (c ∷ cs) h k =
      elim (eqb c.serial n) as (λ b. eqb c.serial n ≡ b → (b || has_chain n cs) ≡ true → has_chain n (filter (λ c. q c.serial) (c ∷ cs)) ≡ true) [
        | true ↦ λ e f. rw (ap q (eqb-true c.serial n e) ∙ h) (ap (λ b. b || has_chain n (filter (λ c. q c.serial) cs)) e)
        | false ↦ λ e f. elim (q c.serial) as (λ b. has_chain n (cond b (c ∷ filter (λ c. q c.serial) cs) (filter (λ c. q c.serial) cs)) ≡ true) [
          | true ↦ ap (λ b. b || has_chain n (filter (λ c. q c.serial) cs)) e ∙ has_filter n cs h f
          | false ↦ has_filter n cs h f
        ]
      ] refl k

module _ {A : Type 0} (key : A → ℕ) where
  none_filter : (p : A → Bool) (n : ℕ) (xs : List A) → list_any (λ m. m == n) (map key xs) ≡ false → list_any (λ m. m == n) (map key (filter p xs)) ≡ false
  none_filter p n [] h = refl
  none_filter p n (x ∷ xs) h =
      elim (eqb (key x) n) as (λ b. eqb (key x) n ≡ b → (b || list_any (λ m. m == n) (map key xs)) ≡ false → list_any (λ m. m == n) (map key (filter p (x ∷ xs))) ≡ false) [
        | true ↦ λ e f. absurd (true≢false f)
        | false ↦ λ e f. elim (p x) as (λ b. list_any (λ m. m == n) (map key (cond b (x ∷ filter p xs) (filter p xs))) ≡ false) [
          | true ↦ ap (λ b. b || list_any (λ m. m == n) (map key (filter p xs))) e ∙ none_filter p n xs f
          | false ↦ none_filter p n xs f
        ]
      ] refl h

  pub distinct_filter : (p : A → Bool) (xs : List A) → are_distinct (map key xs) ≡ true → are_distinct (map key (filter p xs)) ≡ true
  distinct_filter p [] h = refl
  distinct_filter p (x ∷ xs) h =
      let parts = both_true (not (list_any (λ m. m == key x) (map key xs))) (are_distinct (map key xs)) h in
      let rest = distinct_filter p xs parts.1 in
      elim (p x) as (λ b. are_distinct (map key (cond b (x ∷ filter p xs) (filter p xs))) ≡ true) [
        | true ↦ (λ i. not (none_filter p (key x) xs (opposite _ parts.0) i) && are_distinct (map key (filter p xs))) ∙ rest
        | false ↦ rest
      ]

-- each entry is there itself
pub self_any : (es : List StoredEntry) → AllByRecursion (λ e. list_any (λ x. x.serial == e.serial) es ≡ true) es
self_any [] = tt
self_any (e ∷ es) = (
  ap (λ b. b || list_any (λ x. x.serial == e.serial) es) (eq-eqb e.serial e.serial refl),
  all_on (λ d. list_any (λ x. x.serial == d.serial) es ≡ true) (λ d. list_any (λ x. x.serial == d.serial) (e ∷ es) ≡ true) es (λ d h. or_right (eqb e.serial d.serial) (list_any (λ x. x.serial == d.serial) es) h) (self_any es),
)
  where
    or_right : (a b : Bool) → b ≡ true → (a || b) ≡ true
    or_right true b h = refl
    or_right false b h = h

pub or_left : (a b : Bool) → a ≡ true → (a || b) ≡ true
or_left true b h = refl
or_left false b h = absurd (true≢false (sym h))

pub or_right : (a b : Bool) → b ≡ true → (a || b) ≡ true
or_right true b h = refl
or_right false b h = h

-- each task is there itself
pub self_tasks : (ws : List SeatTask) → AllByRecursion (λ w. IfSome (serial_of w.task) (λ n. list_any (is_task_on n) ws ≡ true)) ws
self_tasks [] = tt
self_tasks (w ∷ ws) = (here w.task refl, all_on (λ d. IfSome (serial_of d.task) (λ n. list_any (is_task_on n) ws ≡ true)) _ ws (λ d. later d.task) (self_tasks ws))
  where
    here : (t : Task) → w.task ≡ t → IfSome (serial_of t) (λ n. list_any (is_task_on n) (w ∷ ws) ≡ true)
    here task.Rest e = tt
    here (task.Stream n) e = or_left (is_task_on n w) (list_any (is_task_on n) ws) (ap (λ t. unwrap_or (option_map (λ m. m == n) (serial_of t)) false) e ∙ eq-eqb n n refl)
    here (task.Fill n) e = or_left (is_task_on n w) (list_any (is_task_on n) ws) (ap (λ t. unwrap_or (option_map (λ m. m == n) (serial_of t)) false) e ∙ eq-eqb n n refl)

    later : (t : Task) → IfSome (serial_of t) (λ n. list_any (is_task_on n) ws ≡ true) → IfSome (serial_of t) (λ n. list_any (is_task_on n) (w ∷ ws) ≡ true)
    later task.Rest h = tt
    later (task.Stream n) h = or_right (is_task_on n w) (list_any (is_task_on n) ws) h
    later (task.Fill n) h = or_right (is_task_on n w) (list_any (is_task_on n) ws) h

pub room_less : (p : Entry → Bool) (es : List Entry) → reserved (filter p es) ≤ reserved es
room_less p [] = omega arith
room_less p (e ∷ es) =
    let more = room_less p es in
    let a = sum_by-cons (λ (x : Entry). cond (not x.complete) 1 0) e es in
    elim (p e) as (λ b. length (cond b (e ∷ filter p es) (filter p es)) + incomplete_count (cond b (e ∷ filter p es) (filter p es)) ≤ length (e ∷ es) + incomplete_count (e ∷ es)) [
      | true ↦ let c = sum_by-cons (λ (x : Entry). cond (not x.complete) 1 0) e (filter p es) in omega (arith, more, a, c)
      | false ↦ omega (arith, more, a)
    ]

-- a task's blocks stay
pub blocks_stay : (q : ℕ → Bool) (cs : List EntryChain) (t : Task) → IfSome (serial_of t) (λ n. q n ≡ true) → blocks_of (filter (λ c. q c.serial) cs) t ≡ blocks_of cs t
blocks_stay q cs task.Rest h = refl
blocks_stay q cs (task.Stream n) h = at_filter q n cs h
blocks_stay q cs (task.Fill n) h = at_filter q n cs h

-- a task's chain is wanted
pub tasks_wanted : (es : List StoredEntry) (ws : List SeatTask) → AllByRecursion (λ w. IfSome (serial_of w.task) (λ n. is_wanted es ws n ≡ true)) ws
tasks_wanted es ws = all_on (λ w. IfSome (serial_of w.task) (λ n. list_any (is_task_on n) ws ≡ true)) _ ws (λ w. more w.task) (self_tasks ws)
  where
    more : (t : Task) → IfSome (serial_of t) (λ n. list_any (is_task_on n) ws ≡ true) → IfSome (serial_of t) (λ n. is_wanted es ws n ≡ true)
    more task.Rest h = tt
    more (task.Stream n) h = or_right (list_any (is_stored n) es) (list_any (is_task_on n) ws) h
    more (task.Fill n) h = or_right (list_any (is_stored n) es) (list_any (is_task_on n) ws) h

-- an entry's chain is wanted
pub entries_wanted : (es : List StoredEntry) (ws : List SeatTask) → AllByRecursion (λ x. is_wanted es ws x.serial ≡ true) es
entries_wanted es ws = all_on (λ x. list_any (λ y. y.serial == x.serial) es ≡ true) (λ x. is_wanted es ws x.serial ≡ true) es (λ x. or_left (list_any (is_stored x.serial) es) (list_any (is_task_on x.serial) ws)) (self_any es)

pub tasks_stay : (q : ℕ → Bool) (cs : List EntryChain) (ws : List SeatTask) → AllByRecursion (λ w. IfSome (serial_of w.task) (λ n. q n ≡ true)) ws → map (listed (filter (λ c. q c.serial) cs)) ws ≡ map (listed cs) ws
tasks_stay q cs [] h = refl
tasks_stay q cs (w ∷ ws) h = λ i. record { number = w.seat; task = w.task; blocks = blocks_stay q cs w.task h.0 i } ∷ tasks_stay q cs ws h.1 i

pub pins_stay : (q : ℕ → Bool) (cs : List EntryChain) (ws : List SeatTask) → AllByRecursion (λ w. IfSome (serial_of w.task) (λ n. q n ≡ true)) ws
    → flat_map (λ w. blocks_of (filter (λ c. q c.serial) cs) w.task) ws ≡ flat_map (λ w. blocks_of cs w.task) ws
pins_stay q cs [] h = refl
pins_stay q cs (w ∷ ws) h = λ i. blocks_stay q cs w.task h.0 i ++ pins_stay q cs ws h.1 i

pub chained_stay : (q : ℕ → Bool) (j : Journal) (cs : List EntryChain) (ws : List SeatTask) → AllByRecursion (λ w. IfSome (serial_of w.task) (λ n. q n ≡ true)) ws → AllByRecursion (SeatTaskIsSound j cs) ws → AllByRecursion (SeatTaskIsSound j (filter (λ c. q c.serial) cs)) ws
chained_stay q j cs [] h k = tt
chained_stay q j cs (w ∷ ws) h k = (record { seat = k.0.seat; task = k.0.task; chained = by w.task h.0 k.0.chained }, chained_stay q j cs ws h.1 k.1)
  where
    by : (t : Task) → IfSome (serial_of t) (λ n. q n ≡ true) → IfSome (serial_of t) (λ n. has_chain n cs ≡ true) → IfSome (serial_of t) (λ n. has_chain n (filter (λ c. q c.serial) cs) ≡ true)
    by task.Rest a b = tt
    by (task.Stream n) a b = has_filter q n cs a b
    by (task.Fill n) a b = has_filter q n cs a b

pub entered_stay : (q : ℕ → Bool) (cs : List EntryChain) (es : List StoredEntry) → AllByRecursion (λ x. q x.serial ≡ true) es → AllByRecursion (λ x. has_chain x.serial cs ≡ true) es → AllByRecursion (λ x. has_chain x.serial (filter (λ c. q c.serial) cs) ≡ true) es
entered_stay q cs [] a b = tt
entered_stay q cs (x ∷ es) a b = (has_filter q x.serial cs a.0 b.0, entered_stay q cs es a.1 b.1)

pub uncut_stay : (o : Options) (q : ℕ → Bool) (cs : List EntryChain) (es : List StoredEntry) → AllByRecursion (λ x. q x.serial ≡ true) es → AllByRecursion (IsUncut o cs) es → AllByRecursion (IsUncut o (filter (λ c. q c.serial) cs)) es
uncut_stay o q cs [] a b = tt
uncut_stay o q cs (x ∷ es) a b = (λ c. subst (AllByRecursion _) (sym (at_filter q x.serial cs a.0)) (b.0 c), uncut_stay o q cs es a.1 b.1)

-- each chain that is left is wanted
pub wanted_stay : (q : ℕ → Bool) (cs : List EntryChain) → AllByRecursion (λ c. q c.serial ≡ true) (filter (λ c. q c.serial) cs)
wanted_stay q [] = tt
wanted_stay q (c ∷ cs) = elim (q c.serial) as (λ b. q c.serial ≡ b → AllByRecursion (λ c. q c.serial ≡ true) (cond b (c ∷ filter (λ c. q c.serial) cs) (filter (λ c. q c.serial) cs))) [
  | true ↦ λ e. (e, wanted_stay q cs)
  | false ↦ λ e. wanted_stay q cs
] refl
