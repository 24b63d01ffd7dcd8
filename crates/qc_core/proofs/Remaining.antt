-- What is left of names, chains, entries and tables when an entry goes.
use Rattle.std.proofs.Common.{◌≡◌, ◌≢◌, ℕ, zero, suc, ◌≤◌, eqb, eq-eqb, eqb-true, ne_eqb, Bool, true, false, cond, List, [], ◌∷◌, ◌++◌, map, refl, sym, ap, subst, ◌∙◌, arith, true≢false, ⊎_elim}
use Rattle.std.specs.Prelude.{not, ◌&&◌, ◌||◌, ◌==◌, Option, Some, None, IfSome, Contains, IsPermutation, is_some, find, option_and_then, option_map, unwrap_or, slice_get, slice_set}
use Rattle.std.specs.List.{list_any, filter, flat_map, AllByRecursion}
use Rattle.std.proofs.lemmas.List.Elements.{Contains-append_left, Contains-append_right, Contains-append_cases, All-from_recursion, recursion_from_All}
use Rattle.std.proofs.lemmas.List.Sorted.{All-permutation}
use Rattle.std.proofs.lemmas.Option.{none-some, same_Some}
use Rattle.qc_types.specs.declared.names.TableName.{TableName}
use Rattle.qc_sql.specs.Database.{same_table}
use Rattle.qc_laws.specs.history.Runs.{are_distinct}
use Rattle.qc_laws.proofs.history.Serials.{both_true, opposite, neither}
use Rattle.qc_tiles.specs.declared.blocks.Block.{Block}
use Rattle.qc_chain.specs.Chains.{Chained, chain_at}
use Rattle.qc_chain.specs.Chains.{Chain as Kept}
use Rattle.qc_dir.specs.declared.entries.Entry.{Entry}
use Rattle.qc_dir.specs.declared.tables.TableBlock.{TableBlock}
use Rattle.qc_dir.specs.Directory.{AreApart, without, is_block_of}
use Rattle.qc_dir.specs.Directory.{names_table as dir_names}
use Rattle.qc_turn.specs.declared.task.Task.{Task}
use Rattle.qc_turn.specs.declared.task.Task.TheVariants as task
use Rattle.qc_sound.specs.PlainServer.{StoredEntry, EntryChain, SeatTask, blocks_at, blocks_of}
use Rattle.qc_sound.specs.PlainServer.{PlainServer}
use Rattle.qc_sound.specs.parts.Memory.{names_table, is_on_table, are_once}
use Rattle.qc_sound.specs.PlainServer.{serial_of, is_task_on, is_wanted}
use Rattle.qc_sound.specs.PlainServer.{is_stored}
use Rattle.qc_sound.specs.steps.Leaving.{staying}
use Rattle.qc_core.specs.declared.server_state.RunningTask.{RunningTask}
use Rattle.qc_core.specs.Whole.{Named, is_named, IsNamedAs, chain_blocks, chain_bytes, chain_in, stored, table_pair, work_in}
use Rattle.qc_core.specs.EntryRemoval.{released}
use Rattle.qc_core.proofs.Uses.{find_all}

-- ---- the other chains

pub get_else : {A : Type 0} (l : List A) (k j : ℕ) (v : A) → j ≢ k → slice_get (slice_set l k v) j ≡ slice_get l j
get_else [] k j v ne = refl
get_else (x ∷ l) zero zero v ne = absurd (ne refl)
get_else (x ∷ l) zero (suc j) v ne = refl
get_else (x ∷ l) (suc k) zero v ne = refl
get_else (x ∷ l) (suc k) (suc j) v ne = get_else l k j v (λ e. ne (ap suc e))

pub chain_else : (cs : Chained) (k j : ℕ) (held : Kept) → j ≢ k → chain_at j (released k held cs) ≡ chain_at j cs
chain_else cs k j held ne = ap (λ (o : Option (Option Kept)). option_and_then (λ x. x) o) (get_else cs.chains k j None ne)

abbrev pub IsOther : ℕ → ℕ → Named → Type 0
IsOther n k x = eqb x.serial n ≡ false → x.number ≢ k

pub all_else : (n k : ℕ) (names : List Named) → list_any (λ m. m == k) (map (λ (x : Named). x.number) names) ≡ false → AllByRecursion (IsOther n k) names
all_else n k [] h = tt
all_else n k (x ∷ names) h =
    let t = neither (x.number == k) (list_any (λ m. m == k) (map (λ (x : Named). x.number) names)) h in
    (λ _ e. true≢false (sym (eq-eqb x.number k e) ∙ t.0), all_else n k names t.1)

pub named_number : (n k : ℕ) (names : List Named) → IsNamedAs names n k → list_any (λ m. m == k) (map (λ (x : Named). x.number) names) ≡ true
named_number n k [] f = absurd (none-some _ f)
named_number n k (x ∷ names) f = elim (eqb x.serial n) as (λ b. cond b (Some x) (find (is_named n) names) ≡ Some (record { serial = n; number = k }) → (x.number == k || list_any (λ m. m == k) (map (λ (x : Named). x.number) names)) ≡ true) [
  | true ↦ λ g. ap (λ b. b || list_any (λ m. m == k) (map (λ (x : Named). x.number) names)) (eq-eqb x.number k (ap (λ (z : Named). z.number) (same_Some x _ g)))
  | false ↦ λ g. or_last (x.number == k) (list_any (λ m. m == k) (map (λ (x : Named). x.number) names)) (named_number n k names g)
] f
  where
    or_last : (a b : Bool) → b ≡ true → (a || b) ≡ true
    or_last true b h = refl
    or_last false b h = h

pub differ : (n k : ℕ) (names : List Named) → are_distinct (map (λ (x : Named). x.number) names) ≡ true → IsNamedAs names n k → AllByRecursion (IsOther n k) names
differ n k [] d f = tt
differ n k (x ∷ names) d f =
    let parts = both_true (not (list_any (λ m. m == x.number) (map (λ (x : Named). x.number) names))) (are_distinct (map (λ (x : Named). x.number) names)) d in
    elim (eqb x.serial n) as (λ b. eqb x.serial n ≡ b → cond b (Some x) (find (is_named n) names) ≡ Some (record { serial = n; number = k }) → IsOther n k x × AllByRecursion (IsOther n k) names) [
      | true ↦ λ e g.
          let is : x.number ≡ k = ap (λ (z : Named). z.number) (same_Some x _ g) in
          (λ h. absurd (true≢false (sym e ∙ h)), all_else n k names (subst (λ m. list_any (λ j. j == m) (map (λ (x : Named). x.number) names) ≡ false) is (opposite _ parts.0)))
      | false ↦ λ e g. (λ _ is. true≢false (sym (subst (λ m. list_any (λ j. j == m) (map (λ (x : Named). x.number) names) ≡ true) (sym is) (named_number n k names g)) ∙ opposite _ parts.0), differ n k names parts.1 g)
    ] refl f

-- ---- the other entries

pub entries_else : (n k : ℕ) (names : List Named) (es : List Entry) → AllByRecursion (IsOther n k) names → AllByRecursion (λ e. IsNamedAs names e.serial e.chain.number) es → AllByRecursion (λ e. e.chain.number ≢ k) (without n es)
entries_else n k names [] d h = tt
entries_else n k names (e ∷ es) d h =
    let more = entries_else n k names es d h.1 in
    elim (eqb e.serial n) as (λ b. eqb e.serial n ≡ b → AllByRecursion (λ (e : Entry). e.chain.number ≢ k) (cond (not b) (e ∷ without n es) (without n es))) [
      | true ↦ λ p. more
      | false ↦ λ p. (find_all (IsOther n k) (is_named e.serial) names _ d h.0 p, more)
    ] refl

pub stored_same : (cs : Chained) (k : ℕ) (held : Kept) (es : List Entry) → AllByRecursion (λ e. e.chain.number ≢ k) es → map (stored (released k held cs)) es ≡ map (stored cs) es
stored_same cs k held [] h = refl
stored_same cs k held (e ∷ es) h = λ i. record { serial = e.serial; hash = e.hash; text = e.text; text_bytes = e.text_bytes; tables = e.tables; bytes = chain_bytes (chain_else cs k e.chain.number held h.0 i); complete = e.complete; users = e.users } ∷ stored_same cs k held es h.1 i

-- the names that are left
abbrev pub without_name : ℕ → List Named → List Named
without_name n names = filter (λ x. not (is_named n x)) names

pub chains_left : (q : ℕ → Bool) (cs : Chained) (n k : ℕ) (held : Kept) (names : List Named) → AllByRecursion (λ x. q x.serial ≡ not (x.serial == n)) names → AllByRecursion (IsOther n k) names
    → map (chain_in (released k held cs)) (without_name n names) ≡ filter (λ c. q c.serial) (map (chain_in cs) names)
chains_left q cs n k held [] h d = refl
chains_left q cs n k held (x ∷ names) h d =
    let more = chains_left q cs n k held names h.1 d.1 in
    let rest = filter (λ (c : EntryChain). q c.serial) (map (chain_in cs) names) in
    elim (eqb x.serial n) as (λ b. eqb x.serial n ≡ b → map (chain_in (released k held cs)) (cond (not b) (x ∷ without_name n names) (without_name n names)) ≡ cond (not b) (chain_in cs x ∷ rest) rest) [
      | true ↦ λ e. more
      | false ↦ λ e. λ i. record { serial = x.serial; blocks = chain_blocks (chain_else cs k x.number held (d.0 e) i) } ∷ more i
    ] refl ∙ sym (ap (λ b. cond b (chain_in cs x ∷ rest) rest) h.0)

-- ---- who is still wanted

pub none_staying : (n : ℕ) (es : List StoredEntry) → list_any (λ x. x.serial == n) (staying (is_stored n) es) ≡ false
none_staying n [] = refl
none_staying n (x ∷ es) = elim (eqb x.serial n) as (λ b. eqb x.serial n ≡ b → list_any (λ x. x.serial == n) (cond (not b) (x ∷ staying (is_stored n) es) (staying (is_stored n) es)) ≡ false) [
  | true ↦ λ e. none_staying n es
  | false ↦ λ e. ap (λ b. b || list_any (λ x. x.serial == n) (staying (is_stored n) es)) e ∙ none_staying n es
] refl

pub same_staying : (n m : ℕ) (es : List StoredEntry) → eqb m n ≡ false → list_any (λ x. x.serial == m) (staying (is_stored n) es) ≡ list_any (λ x. x.serial == m) es
same_staying n m [] h = refl
same_staying n m (x ∷ es) h = elim (eqb x.serial n) as (λ b. eqb x.serial n ≡ b → list_any (λ x. x.serial == m) (cond (not b) (x ∷ staying (is_stored n) es) (staying (is_stored n) es)) ≡ (x.serial == m || list_any (λ x. x.serial == m) es)) [
  | true ↦ λ e. same_staying n m es h ∙ sym (ap (λ b. b || list_any (λ x. x.serial == m) es) (ne_eqb x.serial m (λ z. true≢false (sym (eq-eqb m n (sym z ∙ eqb-true x.serial n e)) ∙ h))))
  | false ↦ λ e. ap (λ b. x.serial == m || b) (same_staying n m es h)
] refl

pub none_works : (n : ℕ) (ws : List SeatTask) → AllByRecursion (λ w. is_task_on n w ≡ false) ws → list_any (is_task_on n) ws ≡ false
none_works n [] h = refl
none_works n (w ∷ ws) h = ap (λ b. b || list_any (is_task_on n) ws) h.0 ∙ none_works n ws h.1

pub wanted_names : (n : ℕ) (p : PlainServer) (cs : Chained) (names : List Named) → AllByRecursion (λ w. is_task_on n w ≡ false) p.tasks → AllByRecursion (λ c. is_wanted p.entries p.tasks c.serial ≡ true) (map (chain_in cs) names) → AllByRecursion (λ x. is_wanted (staying (is_stored n) p.entries) p.tasks x.serial ≡ not (x.serial == n)) names
wanted_names n p cs [] w h = tt
wanted_names n p cs (x ∷ names) w h = (
  elim (eqb x.serial n) as (λ b. eqb x.serial n ≡ b → is_wanted (staying (is_stored n) p.entries) p.tasks x.serial ≡ not b) [
    | true ↦ λ e. subst (λ m. is_wanted (staying (is_stored n) p.entries) p.tasks m ≡ false) (sym (eqb-true x.serial n e)) ((λ i. none_staying n p.entries i || none_works n p.tasks w i))
    | false ↦ λ e. ap (λ b. b || list_any (is_task_on x.serial) p.tasks) (same_staying n x.serial p.entries e) ∙ h.0
  ] refl,
  wanted_names n p cs names w h.1,
)

-- ---- the names that are left

pub distinct_less : (p : Named → Bool) (xs : List Named) → are_distinct (map (λ x. x.number) xs) ≡ true → are_distinct (map (λ x. x.number) (filter p xs)) ≡ true
distinct_less p [] h = refl
distinct_less p (x ∷ xs) h =
    let parts = both_true (not (list_any (λ m. m == x.number) (map (λ (x : Named). x.number) xs))) (are_distinct (map (λ (x : Named). x.number) xs)) h in
    let rest = distinct_less p xs parts.1 in
    elim (p x) as (λ b. are_distinct (map (λ (x : Named). x.number) (cond b (x ∷ filter p xs) (filter p xs))) ≡ true) [
      | true ↦ (λ i. not (none_less x.number xs (opposite _ parts.0) i) && are_distinct (map (λ (x : Named). x.number) (filter p xs))) ∙ rest
      | false ↦ rest
    ]
  where
    none_less : (m : ℕ) (xs : List Named) → list_any (λ j. j == m) (map (λ (x : Named). x.number) xs) ≡ false → list_any (λ j. j == m) (map (λ (x : Named). x.number) (filter p xs)) ≡ false
    none_less m [] h = refl
    none_less m (x ∷ xs) h =
        let t = neither (x.number == m) (list_any (λ j. j == m) (map (λ (x : Named). x.number) xs)) h in
        elim (p x) as (λ b. list_any (λ j. j == m) (map (λ (x : Named). x.number) (cond b (x ∷ filter p xs) (filter p xs))) ≡ false) [
          | true ↦ ap (λ b. b || list_any (λ j. j == m) (map (λ (x : Named). x.number) (filter p xs))) t.0 ∙ none_less m xs t.1
          | false ↦ none_less m xs t.1
        ]

pub named_else : (n m : ℕ) (names : List Named) → eqb m n ≡ false → find (is_named m) (without_name n names) ≡ find (is_named m) names
named_else n m [] h = refl
named_else n m (x ∷ names) h = elim (eqb x.serial n) as (λ b. eqb x.serial n ≡ b → find (is_named m) (cond (not b) (x ∷ without_name n names) (without_name n names)) ≡ cond (x.serial == m) (Some x) (find (is_named m) names)) [
  | true ↦ λ e. named_else n m names h ∙ sym (ap (λ b. cond b (Some x) (find (is_named m) names)) (ne_eqb x.serial m (λ z. true≢false (sym (eq-eqb m n (sym z ∙ eqb-true x.serial n e)) ∙ h))))
  | false ↦ λ e. ap (λ o. cond (x.serial == m) (Some x) o) (named_else n m names h)
] refl

pub entries_named : (n : ℕ) (names : List Named) (es : List Entry) → AllByRecursion (λ e. IsNamedAs names e.serial e.chain.number) es → AllByRecursion (λ e. IsNamedAs (without_name n names) e.serial e.chain.number) (without n es)
entries_named n names [] h = tt
entries_named n names (e ∷ es) h =
    let more = entries_named n names es h.1 in
    elim (eqb e.serial n) as (λ b. eqb e.serial n ≡ b → AllByRecursion (λ (e : Entry). IsNamedAs (without_name n names) e.serial e.chain.number) (cond (not b) (e ∷ without n es) (without n es))) [
      | true ↦ λ p. more
      | false ↦ λ p. (named_else n e.serial names p ∙ h.0, more)
    ] refl

pub works_named : (n : ℕ) (names : List Named) (ws : List RunningTask) → AllByRecursion (λ w. is_task_on n w ≡ false) (map work_in ws) → AllByRecursion (λ w. IfSome (serial_of w.task) (λ m. IsNamedAs names m w.chain.number)) ws
    → AllByRecursion (λ w. IfSome (serial_of w.task) (λ m. IsNamedAs (without_name n names) m w.chain.number)) ws
works_named n names [] f h = tt
works_named n names (w ∷ ws) f h = (by (serial_of w.task) f.0 h.0, works_named n names ws f.1 h.1)
  where
    by : (o : Option ℕ) → unwrap_or (option_map (λ m. m == n) o) false ≡ false → IfSome o (λ m. IsNamedAs names m w.chain.number) → IfSome o (λ m. IsNamedAs (without_name n names) m w.chain.number)
    by None f h = tt
    by (Some m) f h = named_else n m names f ∙ h

pub begun_left : (cs : Chained) (n k : ℕ) (held : Kept) (names : List Named) → AllByRecursion (IsOther n k) names → AllByRecursion (λ x. is_some (chain_at x.number cs) ≡ true) names → AllByRecursion (λ x. is_some (chain_at x.number (released k held cs)) ≡ true) (without_name n names)
begun_left cs n k held [] d h = tt
begun_left cs n k held (x ∷ names) d h =
    let more = begun_left cs n k held names d.1 h.1 in
    elim (eqb x.serial n) as (λ b. eqb x.serial n ≡ b → AllByRecursion (λ (x : Named). is_some (chain_at x.number (released k held cs)) ≡ true) (cond (not b) (x ∷ without_name n names) (without_name n names))) [
      | true ↦ λ e. more
      | false ↦ λ e. (ap is_some (chain_else cs k x.number held (d.0 e)) ∙ h.0, more)
    ] refl

-- ---- tables

any_pairs : (p : TableName → Bool) (ts : List TableBlock) → list_any p (map (λ b. b.0) (map table_pair ts)) ≡ list_any (λ c. p c.table) ts
any_pairs p [] = refl
any_pairs p (t ∷ ts) = ap (λ b. p t.table || b) (any_pairs p ts)

pub any_on : (t : TableName) (ts : List TableBlock) → list_any (is_on_table t) (map table_pair ts) ≡ list_any (is_block_of t) ts
any_on t [] = refl
any_on t (x ∷ ts) = ap (λ b. same_table t x.table || b) (any_on t ts)

pub any_names : (t : TableName) (cs : Chained) (es : List Entry) → list_any (names_table t) (map (stored cs) es) ≡ list_any (dir_names t) es
any_names t cs [] = refl
any_names t cs (e ∷ es) = ap (λ b. dir_names t e || b) (any_names t cs es)

pub apart_once : (ts : List TableBlock) → AreApart (λ b c. same_table b.table c.table) ts → are_once (map (λ b. b.0) (map table_pair ts)) ≡ true
apart_once [] h = refl
apart_once (t ∷ ts) h = λ i. not ((any_pairs (same_table t.table) ts ∙ h.0) i) && apart_once ts h.1 i

all_pairs : (ts : List TableBlock) → AllByRecursion (λ b. b.1.words ≤ 127) (map table_pair ts) → AllByRecursion (λ (t : TableBlock). t.block.words ≤ 127) ts
all_pairs [] h = tt
all_pairs (t ∷ ts) h = (h.0, all_pairs ts h.1)

pairs_all : (ts : List TableBlock) → AllByRecursion (λ (t : TableBlock). t.block.words ≤ 127) ts → AllByRecursion (λ b. b.1.words ≤ 127) (map table_pair ts)
pairs_all [] h = tt
pairs_all (t ∷ ts) h = (h.0, pairs_all ts h.1)

all_back : {A : Type 0} (P : A → Type 0) (xs ys : List A) → AllByRecursion P (xs ++ ys) → AllByRecursion P ys
all_back P [] ys h = h
all_back P (x ∷ xs) ys h = all_back P xs ys h.1

pub words_left : (old freed new : List TableBlock) → IsPermutation old (freed ++ new) → AllByRecursion (λ b. b.1.words ≤ 127) (map table_pair old) → AllByRecursion (λ b. b.1.words ≤ 127) (map table_pair new)
words_left old freed new h all =
    let P = λ (t : TableBlock). t.block.words ≤ 127 in
    pairs_all new (all_back P freed new (recursion_from_All P (freed ++ new) (All-permutation P old (freed ++ new) h (All-from_recursion P old (all_pairs old all)))))

-- ---- pins

pub at_in : (n : ℕ) (cs : List EntryChain) (b : Block) → Contains (blocks_at n cs) b → Contains (flat_map (λ c. c.blocks) cs) b
at_in n [] b h = h
at_in n (c ∷ cs) b h = elim (eqb c.serial n) as (λ v. Contains (cond v c.blocks (blocks_at n cs)) b → Contains (c.blocks ++ flat_map (λ (c : EntryChain). c.blocks) cs) b) [
  | true ↦ λ k. Contains-append_left c.blocks (flat_map (λ (c : EntryChain). c.blocks) cs) b k
  | false ↦ λ k. Contains-append_right c.blocks (flat_map (λ (c : EntryChain). c.blocks) cs) b (at_in n cs b k)
] h

pub tasks_in : (cs : List EntryChain) (ws : List SeatTask) (b : Block) → Contains (flat_map (λ w. blocks_of cs w.task) ws) b → Contains (flat_map (λ c. c.blocks) cs) b
tasks_in cs [] b h = absurd (omega (arith, h.1))
tasks_in cs (w ∷ ws) b h = ⊎_elim (by w.task) (tasks_in cs ws b) (Contains-append_cases (blocks_of cs w.task) (flat_map (λ w. blocks_of cs w.task) ws) b h)
  where
    by : (t : Task) → Contains (blocks_of cs t) b → Contains (flat_map (λ c. c.blocks) cs) b
    by task.Rest k = absurd (omega (arith, k.1))
    by (task.Stream n) k = at_in n cs b k
    by (task.Fill n) k = at_in n cs b k

-- ---- the chain that goes

pub chain_found : (cs : Chained) (n : ℕ) (x : Named) (names : List Named) → find (is_named n) names ≡ Some x → find (λ c. c.serial == n) (map (chain_in cs) names) ≡ Some (chain_in cs x)
chain_found cs n x [] h = absurd (none-some x h)
chain_found cs n x (y ∷ names) h = elim (eqb y.serial n) as (λ b. cond b (Some y) (find (is_named n) names) ≡ Some x → cond b (Some (chain_in cs y)) (find (λ c. c.serial == n) (map (chain_in cs) names)) ≡ Some (chain_in cs x)) [
  | true ↦ λ f. ap (λ (z : Named). Some (chain_in cs z)) (same_Some y x f)
  | false ↦ λ f. chain_found cs n x names f
] h

pub filter_names : (q : ℕ → Bool) (cs : Chained) (n : ℕ) (names : List Named) → AllByRecursion (λ x. q x.serial ≡ not (x.serial == n)) names → filter (λ c. q c.serial) (map (chain_in cs) names) ≡ filter (λ c. not (c.serial == n)) (map (chain_in cs) names)
filter_names q cs n [] h = refl
filter_names q cs n (x ∷ names) h = λ i. cond (h.0 i) (chain_in cs x ∷ filter_names q cs n names h.1 i) (filter_names q cs n names h.1 i)
