-- The blocks of one chain change, and the other chains stay.
use Rattle.std.proofs.Common.{◌≡◌, ◌≢◌, ℕ, ◌≤◌, eqb, eq-eqb, eqb-true, ne_eqb, Bool, true, false, cond, List, [], ◌∷◌, ◌++◌, map, refl, sym, ap, subst, ◌∙◌, true≢false}
use Rattle.std.specs.Prelude.{not, ◌&&◌, ◌||◌, Option, Some, IfSome, ◌==◌}
use Rattle.std.specs.List.{list_any, filter, find, flat_map, AllByRecursion}
use Rattle.qc_model.specs.Journal.{Journal}
use Rattle.qc_laws.specs.history.Runs.{are_distinct}
use Rattle.qc_laws.proofs.history.Serials.{both_true, opposite, neither}
use Rattle.qc_tiles.specs.declared.blocks.Block.{Block}
use Rattle.qc_turn.specs.declared.task.Task.{Task}
use Rattle.qc_turn.specs.declared.task.Task.TheVariants as task
use Rattle.qc_turn.specs.Tasks.{listed_for}
use Rattle.qc_sound.specs.PlainServer.{EntryChain, SeatTask, blocks_at, blocks_of, has_serial, has_chain, listed, serial_of}
use Rattle.qc_sound.specs.parts.Tasks.{SeatTaskIsSound}
use Rattle.qc_sound.specs.steps.Leaving.{is_of_seat}
use Rattle.qc_sound.specs.steps.Growing.{with_blocks}
use Rattle.qc_sound.proofs.Lists.{any_map, cond_keeps}

-- ---- members with distinct keys

module _ {A : Type 0} (key : A → ℕ) where
  -- none of these has the key
  none_with : (n : ℕ) (xs : List A) → list_any (λ m. m == n) (map key xs) ≡ false → AllByRecursion (λ x. eqb (key x) n ≡ false) xs
  none_with n [] h = tt
  none_with n (x ∷ xs) h = let parts = neither (eqb (key x) n) (list_any (λ m. m == n) (map key xs)) h in (parts.0, none_with n xs parts.1)

  -- all that have the key are the one that is found
  pub only_keyed : (n : ℕ) (xs : List A) (x : A) → are_distinct (map key xs) ≡ true → find (λ e. key e == n) xs ≡ Some x → AllByRecursion (λ y. eqb (key y) n ≡ true → y ≡ x) xs
  only_keyed n [] x d e = tt
  only_keyed n (y ∷ xs) x d e =
      let parts = both_true (not (list_any (λ m. m == key y) (map key xs))) (are_distinct (map key xs)) d in
      elim (eqb (key y) n) as (λ b. eqb (key y) n ≡ b → cond b (Some y) (find (λ e. key e == n) xs) ≡ Some x → AllByRecursion (λ z. eqb (key z) n ≡ true → z ≡ x) (y ∷ xs)) [
        | true ↦ λ p f. ((λ _. some_is y x f), others xs (none_with n xs (subst (λ m. list_any (λ k. k == m) (map key xs) ≡ false) (eqb-true (key y) n p) (opposite _ parts.0))))
        | false ↦ λ p f. ((λ q. absurd (true≢false (sym q ∙ p))), only_keyed n xs x parts.1 f)
      ] refl e
    where
      some_is : (a b : A) → Some a ≡ Some b → a ≡ b
      some_is a b k = cc

      others : (zs : List A) → AllByRecursion (λ z. eqb (key z) n ≡ false) zs → AllByRecursion (λ z. eqb (key z) n ≡ true → z ≡ x) zs
      others [] h = tt
      others (z ∷ zs) h = ((λ q. absurd (true≢false (sym q ∙ h.0))), others zs h.1)

-- ---- chains

-- a chain with a serial has the blocks that are found for it
pub own_blocks : (n : ℕ) (cs : List EntryChain) → are_distinct (map (λ c. c.serial) cs) ≡ true → AllByRecursion (λ c. eqb c.serial n ≡ true → c.blocks ≡ blocks_at n cs) cs
own_blocks n [] d = tt
own_blocks n (c ∷ cs) d =
    let parts = both_true (not (list_any (λ m. m == c.serial) (map (λ c. c.serial) cs))) (are_distinct (map (λ c. c.serial) cs)) d in
    elim (eqb c.serial n) as (λ b. eqb c.serial n ≡ b → AllByRecursion (λ z. eqb z.serial n ≡ true → z.blocks ≡ cond b c.blocks (blocks_at n cs)) (c ∷ cs)) [
      | true ↦ λ p. ((λ _. refl), others cs (none_with (λ (c : EntryChain). c.serial) n cs (subst (λ m. list_any (λ k. k == m) (map (λ c. c.serial) cs) ≡ false) (eqb-true c.serial n p) (opposite _ parts.0))))
      | false ↦ λ p. ((λ q. absurd (true≢false (sym q ∙ p))), own_blocks n cs parts.1)
    ] refl
  where
    others : (zs : List EntryChain) → AllByRecursion (λ z. eqb z.serial n ≡ false) zs → AllByRecursion (λ z. eqb z.serial n ≡ true → z.blocks ≡ c.blocks) zs
    others [] h = tt
    others (z ∷ zs) h = ((λ q. absurd (true≢false (sym q ∙ h.0))), others zs h.1)

module _ (n : ℕ) (f : List Block → List Block) where
  abbrev pub changed : EntryChain → EntryChain
  changed c = cond (has_serial n c) (record c { blocks = f c.blocks }) c

  same_serial : (c : EntryChain) → (changed c).serial ≡ c.serial
  same_serial c = cond_keeps (λ z. z.serial ≡ c.serial) (has_serial n c) (record c { blocks = f c.blocks }) c refl refl

  pub serials_with : (cs : List EntryChain) → map (λ c. c.serial) (with_blocks n f cs) ≡ map (λ c. c.serial) cs
  serials_with [] = refl
  serials_with (c ∷ cs) = λ i. same_serial c i ∷ serials_with cs i

  pub has_with : (m : ℕ) (cs : List EntryChain) → has_chain m (with_blocks n f cs) ≡ has_chain m cs
  has_with m cs = any_map (has_serial m) (has_serial m) changed cs (λ c. ap (λ k. eqb k m) (same_serial c))

  pub at_other : (m : ℕ) (cs : List EntryChain) → eqb m n ≡ false → blocks_at m (with_blocks n f cs) ≡ blocks_at m cs
  at_other m [] ne = refl
  at_other m (c ∷ cs) ne =
      let more = at_other m cs ne in
      elim (eqb c.serial n) as (λ b. eqb c.serial n ≡ b → blocks_at m (cond b (record c { blocks = f c.blocks }) c ∷ with_blocks n f cs) ≡ blocks_at m (c ∷ cs)) [
        | true ↦ λ e.
            let off : eqb c.serial m ≡ false = ne_eqb c.serial m (λ z. true≢false (sym (eq-eqb m n (sym z ∙ eqb-true c.serial n e)) ∙ ne)) in
            ap (λ b. cond b (f c.blocks) (blocks_at m (with_blocks n f cs))) off ∙ (more ∙ sym (ap (λ b. cond b c.blocks (blocks_at m cs)) off))
        | false ↦ λ e. ap (λ l. cond (eqb c.serial m) c.blocks l) more
      ] refl

  pub at_same : (cs : List EntryChain) → has_chain n cs ≡ true → blocks_at n (with_blocks n f cs) ≡ f (blocks_at n cs)
  at_same [] h = absurd (true≢false (sym h))
  at_same (c ∷ cs) h = elim (eqb c.serial n) as (λ b. eqb c.serial n ≡ b → (b || has_chain n cs) ≡ true → blocks_at n (cond b (record c { blocks = f c.blocks }) c ∷ with_blocks n f cs) ≡ f (cond b c.blocks (blocks_at n cs))) [
    | true ↦ λ e k. ap (λ b. cond b (f c.blocks) (blocks_at n (with_blocks n f cs))) e
    | false ↦ λ e k. ap (λ b. cond b c.blocks (blocks_at n (with_blocks n f cs))) e ∙ at_same cs k
  ] refl h

  -- tasks stay sound, since each chain is still there
  pub tasks_with : (j : Journal) (cs : List EntryChain) (ws : List SeatTask) → AllByRecursion (SeatTaskIsSound j cs) ws → AllByRecursion (SeatTaskIsSound j (with_blocks n f cs)) ws
  tasks_with j cs [] h = tt
  tasks_with j cs (w ∷ ws) h = (record { seat = h.0.seat; task = h.0.task; chained = by w.task h.0.chained }, tasks_with j cs ws h.1)
    where
      by : (t : Task) → IfSome (serial_of t) (λ m. has_chain m cs ≡ true) → IfSome (serial_of t) (λ m. has_chain m (with_blocks n f cs) ≡ true)
      by task.Rest k = tt
      by (task.Stream m) k = has_with m cs ∙ k
      by (task.Fill m) k = has_with m cs ∙ k

  -- what is listed of a task on another serial stays
  pub listed_other : (cs : List EntryChain) (w : SeatTask) → IfSome (serial_of w.task) (λ m. eqb m n ≡ false) → listed (with_blocks n f cs) w ≡ listed cs w
  listed_other cs w h = λ i. record { number = w.seat; task = w.task; blocks = by w.task h i }
    where
      by : (t : Task) → IfSome (serial_of t) (λ m. eqb m n ≡ false) → blocks_of (with_blocks n f cs) t ≡ blocks_of cs t
      by task.Rest k = refl
      by (task.Stream m) k = at_other m cs k
      by (task.Fill m) k = at_other m cs k

  -- what is listed for the other seats stays, where their tasks are on other serials
  pub listed_with : (cs : List EntryChain) (k seat : ℕ) (ws : List SeatTask) → k ≢ seat → AllByRecursion (λ w. w.seat ≢ seat → IfSome (serial_of w.task) (λ m. eqb m n ≡ false)) ws
      → listed_for k (map (listed (with_blocks n f cs)) ws) ≡ listed_for k (map (listed cs) ws)
  listed_with cs k seat [] ne h = refl
  listed_with cs k seat (w ∷ ws) ne h =
      let more = listed_with cs k seat ws ne h.1 in
      elim (eqb w.seat k) as (λ b. eqb w.seat k ≡ b → cond b (listed (with_blocks n f cs) w ∷ listed_for k (map (listed (with_blocks n f cs)) ws)) (listed_for k (map (listed (with_blocks n f cs)) ws)) ≡ cond b (listed cs w ∷ listed_for k (map (listed cs) ws)) (listed_for k (map (listed cs) ws))) [
        | true ↦ λ e. let here = listed_other cs w (h.0 (λ z. ne (sym (eqb-true w.seat k e) ∙ z))) in λ i. here i ∷ more i
        | false ↦ λ e. more
      ] refl

-- what is listed for a seat is its one task
pub found_listed : (cs : List EntryChain) (seat : ℕ) (ws : List SeatTask) (w : SeatTask) → are_distinct (map (λ w. w.seat) ws) ≡ true → find (is_of_seat seat) ws ≡ Some w → listed_for seat (map (listed cs) ws) ≡ listed cs w ∷ []
found_listed cs seat [] w d e = absurd cc
found_listed cs seat (x ∷ ws) w d e =
    let parts = both_true (not (list_any (λ m. m == x.seat) (map (λ w. w.seat) ws))) (are_distinct (map (λ w. w.seat) ws)) d in
    elim (eqb x.seat seat) as (λ b. eqb x.seat seat ≡ b → cond b (Some x) (find (is_of_seat seat) ws) ≡ Some w → cond b (listed cs x ∷ listed_for seat (map (listed cs) ws)) (listed_for seat (map (listed cs) ws)) ≡ listed cs w ∷ []) [
      | true ↦ λ p f.
          let same : x ≡ w = some_is x w f in
          let rest : listed_for seat (map (listed cs) ws) ≡ [] = none ws (none_with (λ (w : SeatTask). w.seat) seat ws (subst (λ m. list_any (λ k. k == m) (map (λ w. w.seat) ws) ≡ false) (eqb-true x.seat seat p) (opposite _ parts.0))) in
          λ i. listed cs (same i) ∷ rest i
      | false ↦ λ p f. found_listed cs seat ws w parts.1 f
    ] refl e
  where
    some_is : (a b : SeatTask) → Some a ≡ Some b → a ≡ b
    some_is a b k = cc

    none : (zs : List SeatTask) → AllByRecursion (λ z. eqb z.seat seat ≡ false) zs → listed_for seat (map (listed cs) zs) ≡ []
    none [] h = refl
    none (z ∷ zs) h = ap (λ b. cond b (listed cs z ∷ listed_for seat (map (listed cs) zs)) (listed_for seat (map (listed cs) zs))) h.0 ∙ none zs h.1
